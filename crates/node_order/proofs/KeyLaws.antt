-- Keys, and the fronts of their trees.
use Rattle.node_order.proofs.Shared.{◌≡◌, ◌≢◌, ℕ, suc, ◌-◌, ◌^◌, ◌<◌, ◌≤◌, [], ◌∷◌, length, eqb, cond, refl, sym, ap, ◌∙◌, arith, append-nil, true, ne_eqb, Payload, bare, Tree, mult, Trees, count}
use Rattle.node_order.proofs.Shared.{is_mult, Front, Key, Shows, trees_behind, key_tree, IsKey, State, Visit, grown, plains, plain, takes, children_of, IsWhole, IsExpression, Forest, empty, tree}
use Rattle.node_order.proofs.Shared.{arity, rest_trees, kids, nodes_in, holds, tree_at, kids_of, payload_in, Stands, forest, visits_of, arity-rest_trees, all-rest_trees, few_in, children_of-plain}
use Rattle.node_order.proofs.{Shared.{count-plains, whole_kids, expression_children, found, found-kids, found-rest_trees, visits_length, product_tree}, Pairs.{shows_first}, Roots.{is_grown}}
use Rattle.calc_terms.specs.declared.kind.Kind.TheVariants as kind

-- where factors are left out, some are not
pub key_some : (k : Key) (f : Forest) → IsKey k f → k.behind ≢ 0 → k.behind < arity (kids_of k.id f)
key_some k f x h = omega (arith, x.some (omega arith), expression_children k.id f x.tree)

-- as many children as the tree has
pub shown_children : {front : Front} {i : ℕ} {base : Forest} → IsExpression i base → Shows front (plain (tree_at i base)) base → front.root.children ≡ arity (kids_of i base)
shown_children {i = i} {base = base} e x =
    let g = is_grown x.payload x.kids x.front.few x.front.below in
    let same : count (children_of (plain (tree_at i base))) ≡ arity x.kids = ap (λ (t : Tree). count (children_of t)) x.tree-is ∙ ap count g.children-are ∙ count-plains x.kids in
    x.front.children ∙ sym same ∙ expression_children i base e

pub behind-plains : (n : ℕ) (f : Forest) → trees_behind n (plains f) ≡ plains (rest_trees n f)
behind-plains (suc n) (tree l k r) = behind-plains n r
behind-plains n f = refl

key_cond : (t : Tree) (u : Tree) (n : ℕ) → n ≢ 0 → cond (eqb n 0) t u ≡ u
key_cond t u n h = ap (λ b. cond b t u) (ne_eqb n 0 h)

key_rest : (k : Key) (f : Forest) → IsKey k f → k.behind ≢ 0 → key_tree k f ≡ product_tree (plains (rest_trees k.behind (kids_of k.id f)))
key_rest k f x h = grind (arith, key_cond, children_of-plain, behind-plains)

one_factor : (f : Forest) → arity f ≡ 1 → product_tree (plains f) ≡ plain f
one_factor (tree l k empty) e = refl
one_factor f e = absurd (omega arith)

more_factors : (f : Forest) → 2 ≤ arity f → product_tree (plains f) ≡ mult (plains f)
more_factors (tree l k (tree m j s)) e = refl
more_factors f e = absurd (omega arith)

-- some children of a node have few nodes
nodes_rest : (n : ℕ) (f : Forest) → nodes_in (rest_trees n f) ≤ nodes_in f
nodes_rest (suc n) (tree l k r) = omega (arith, nodes_rest n r)
nodes_rest n f = omega arith

nodes_kids : (t : Forest) → nodes_in (kids t) ≤ nodes_in t
nodes_kids t = grind arith

rest_few : (n i : ℕ) (s : State) → Stands s → nodes_in (rest_trees n (kids_of i (forest s))) ≤ 65535
rest_few n i s st = omega (arith, few_in i s st, nodes_kids (tree_at i (forest s)), nodes_rest n (kids_of i (forest s)))

-- all but one are left out
pub key_last : {front : Front} {k : Key} {st : State} → Stands st → IsKey k (forest st) → k.behind ≢ 0 → arity (kids_of k.id (forest st)) - k.behind ≡ 1
    → visits_of (rest_trees k.behind (kids_of k.id (forest st))) ≡ front.root ∷ front.behind
    → Shows front (key_tree k (forest st)) (forest st)
key_last s x h one e = grind (arith, arity-rest_trees, all-rest_trees, whole_kids, key_rest, one_factor, shows_first, found-rest_trees, found-kids, found, rest_few)

mult_payload : (x : Payload) (ts : Trees) → is_mult (grown x ts) ≡ true → x ≡ bare kind.Mult
mult_payload x ts h = grind arith

-- some factors are left out, and two or more are not
pub key_product : {front new : Front} {k : Key} {st : State} → Stands st → IsKey k (forest st) → k.behind ≢ 0 → arity (kids_of k.id (forest st)) - k.behind ≢ 1
    → Shows front (plain (tree_at k.id (forest st))) (forest st)
    → new.root ≡ record { kind = front.root.kind; id = front.root.id; children = front.root.children - k.behind } → new.behind ≡ visits_of (rest_trees k.behind (kids_of k.id (forest st))) → Shows new (key_tree k (forest st)) (forest st)
key_product {new = new} {k = k} {st = st} s x h two w e q =
    let base = forest st in
    let kids = kids_of k.id base in
    let rest = rest_trees k.behind kids in
    let some = key_some k base x h in
    let many = arity-rest_trees k.behind kids in
    let short : length new.behind < 2 ^ 16 = omega (arith, ap length q, visits_length rest, rest_few k.behind k.id st s) in
    let is : w.payload ≡ bare kind.Mult = mult_payload w.payload (plains w.kids) (sym (ap is_mult w.tree-is) ∙ x.product (omega arith)) in
    record {
      payload = w.payload;
      kids = rest;
      others = [];
      front = record {
        kind = ap (λ (v : Visit). v.kind) e ∙ w.front.kind;
        children = ap (λ (v : Visit). v.children) e ∙ ap (λ n. n - k.behind) (shown_children x.tree w) ∙ sym many;
        live = ap (λ (v : Visit). holds v.id base) e ∙ w.front.live;
        payload = ap (λ (v : Visit). payload_in v.id base) e ∙ w.front.payload;
        nodes = q ∙ sym (append-nil (visits_of rest));
        found = found-rest_trees base k.behind kids (found-kids base (tree_at k.id base) (found k.id st s));
        few = ap (λ (p : Payload). takes p (arity rest)) is;
        below = all-rest_trees IsWhole k.behind kids (whole_kids (tree_at k.id base) x.tree.whole);
      };
      short = short;
      tree-is = key_rest k base x h ∙ more_factors rest (omega (arith, many)) ∙ ap (λ (p : Payload). grown p (plains rest)) (sym is);
    }
