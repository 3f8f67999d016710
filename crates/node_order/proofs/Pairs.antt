-- Pairs of trees that are compared in one walk.
use Rattle.node_order.proofs.Shared.{Bool, not, ◌==◌, ◌≡◌, ◌≢◌, ℕ, zero, suc, ◌+◌, ◌-◌, ◌^◌, ◌<◌, ◌≤◌, min, List, [], ◌∷◌, ◌++◌, length, refl, sym, ap, ◌∙◌, subst, arith, append_assoc, append-nil}
use Rattle.node_order.proofs.Shared.{⊎_elim, true, false, Ordering, Equal, nat_cmp, ordering_then, ordering_index, cases_eq, map-append, length-append, Payload, tree_cmp, trees_cmp, Tree, Front}
use Rattle.node_order.proofs.Shared.{IsFront, Shows, payload_cmp, State, Visit, grown, plain, plains, IsWhole, IsExpression, AllExpressions, Label, Forest, empty, tree, join, arity, node_of}
use Rattle.node_order.proofs.Shared.{first_trees, rest_trees, nodes_in, tree_at, payload_in, Stands, forest, visits_of, AreFound, arity-join, arity-first_trees, all-join, all-first_trees}
use Rattle.node_order.proofs.Shared.{nodes-flatten, arity_le, few_in, one_at, found, found-join, found-first_trees, seen, visits-join, visits-first_rest, visits_length, Pairs, more, then-equal}
use Rattle.node_order.proofs.{Orderings.{then_assoc, then_decided, nat_cmp_less, nat_cmp_greater, nat_cmp_equal, nat_cmp-suc}, Roots.{by_roots}}

-- ---- lists of trees

-- as many trees in front of others
pub cmp-join : (k j f g : Forest) → arity k ≡ arity j → trees_cmp (plains (join k f)) (plains (join j g)) ≡ ordering_then (trees_cmp (plains k) (plains j)) (trees_cmp (plains f) (plains g))
cmp-join empty empty f g e = refl
cmp-join (tree l k r) (tree m j s) f g e = grind (arith, then_assoc, (cmp-join r s f g (omega arith)))
cmp-join k j f g e = absurd (omega arith)

first_none : (n : ℕ) → first_trees n empty ≡ empty
first_none n = grind arith

-- as many trees as both have, and then the numbers of trees
pub cmp-first : (k j : Forest) (n : ℕ) → n ≡ min (arity k) (arity j)
    → trees_cmp (plains k) (plains j) ≡ ordering_then (trees_cmp (plains (first_trees n k)) (plains (first_trees n j))) (nat_cmp (arity k) (arity j))
cmp-first empty empty n e = rw (first_none n) refl
cmp-first empty (tree m j s) zero e = sym (nat_cmp_less 0 (suc (arity s)) (omega arith))
cmp-first (tree l k r) empty zero e = sym (nat_cmp_greater (suc (arity r)) 0 (omega arith))
cmp-first (tree l k r) (tree m j s) (suc n) e = grind (arith, then_assoc, nat_cmp-suc, (cmp-first r s n (omega arith)))
cmp-first k j n e = absurd (omega arith)

-- ---- the walk

-- one side: a tree, and behind it further ones, so many with it
pub record IsSide (front : Front) (owed : ℕ) (base : Forest) : Type 0 where
  pub payload : Payload
  pub kids : Forest
  pub trees : Forest
  pub others : List Visit
  pub shown : IsFront front payload kids (visits_of trees ++ others) base
  pub number : suc (arity trees) ≡ owed
  pub found : AreFound base trees
  pub whole : AllExpressions trees

-- so many trees at the beginning of a walk
pub record IsRun (xs : List Visit) (owed : ℕ) (base : Forest) : Type 0 where
  pub trees : Forest
  pub others : List Visit
  pub nodes : xs ≡ visits_of trees ++ others
  pub number : arity trees ≡ owed
  pub found : AreFound base trees
  pub whole : AllExpressions trees

-- two trees are compared, and then as many further ones on each side, before it is left to what is undecided
pub record IsOpen (left right : Front) (owed : ℕ) (undecided total : Ordering) (base : Forest) : Type 0 where
  pub one : IsSide left owed base
  pub two : IsSide right owed base
  pub short : length left.behind < 2 ^ 16
  pub sum : ordering_then (ordering_then (tree_cmp (grown one.payload (plains one.kids)) (grown two.payload (plains two.kids))) (trees_cmp (plains one.trees) (plains two.trees))) undecided ≡ total

-- the trees at the beginning of two walks are still to be compared
pub record IsPending (left right : List Visit) (owed : ℕ) (undecided total : Ordering) (base : Forest) : Type 0 where
  pub one : IsRun left owed base
  pub two : IsRun right owed base
  pub short : length left < 2 ^ 16
  pub sum : ordering_then (trees_cmp (plains one.trees) (plains two.trees)) undecided ≡ total

abbrev side_of : {front : Front} {t : Tree} {base : Forest} → Shows front t base → IsSide front 1 base
side_of a = record { payload = a.payload; kids = a.kids; trees = empty; others = a.others; shown = a.front; number = refl; found = tt; whole = tt }

pub open_start : {left right : Front} {t u : Tree} {base : Forest} → Shows left t base → Shows right u base → IsOpen left right 1 Equal (tree_cmp t u) base
open_start a b = record { one = side_of a; two = side_of b; short = a.short; sum = then-equal _ ∙ then-equal _ ∙ (λ i. tree_cmp (sym a.tree-is i) (sym b.tree-is i)) }

-- the order of the roots, and then that of their children
roots_first : {left right : Front} {owed : ℕ} {undecided total roots : Ordering} {base : Forest} (o : IsOpen left right owed undecided total base)
    → roots ≡ payload_cmp (payload_in left.root.id base) (payload_in right.root.id base)
    → ordering_then roots (ordering_then (ordering_then (trees_cmp (plains o.one.kids) (plains o.two.kids)) (trees_cmp (plains o.one.trees) (plains o.two.trees))) undecided) ≡ total
roots_first o e = grind (arith, then_assoc, by_roots)

-- the roots decide
pub open_decided : {left right : Front} {owed : ℕ} {undecided total roots : Ordering} {base : Forest} → IsOpen left right owed undecided total base
    → roots ≡ payload_cmp (payload_in left.root.id base) (payload_in right.root.id base)
    → roots ≢ Equal → roots ≡ total
open_decided {roots = roots} o e d = sym (then_decided roots _ d) ∙ roots_first o e

-- the roots are equal
left_over : {left right : Front} {owed : ℕ} {undecided total roots : Ordering} {base : Forest} (o : IsOpen left right owed undecided total base)
    → roots ≡ payload_cmp (payload_in left.root.id base) (payload_in right.root.id base) → roots ≡ Equal
    → ordering_then (ordering_then (trees_cmp (plains o.one.kids) (plains o.two.kids)) (trees_cmp (plains o.one.trees) (plains o.two.trees))) undecided ≡ total
left_over {undecided = undecided} o e d =
    let rest = ordering_then (ordering_then (trees_cmp (plains o.one.kids) (plains o.two.kids)) (trees_cmp (plains o.one.trees) (plains o.two.trees))) undecided in
    ap (λ (r : Ordering). ordering_then r rest) (sym d) ∙ roots_first o e

-- the children, and the trees behind them
abbrev all_below : {front : Front} {owed n : ℕ} {base : Forest} (s : IsSide front owed base) → arity s.kids + owed ≡ suc n
    → IsRun front.behind n base
all_below {base = base} s e = record {
  trees = join s.kids s.trees;
  others = s.others;
  nodes = s.shown.nodes ∙ sym (append_assoc (visits_of s.kids) (visits_of s.trees) s.others) ∙ ap (λ (v : List Visit). v ++ s.others) (sym (visits-join s.kids s.trees));
  number = omega (arith, arity-join s.kids s.trees, s.number, e);
  found = found-join base s.kids s.trees s.shown.found s.found;
  whole = all-join IsWhole s.kids s.trees s.shown.below s.whole;
}

-- as many children on both sides
open_same : {left right : Front} {owed : ℕ} {undecided total roots : Ordering} {base : Forest} → IsOpen left right owed undecided total base
    → roots ≡ payload_cmp (payload_in left.root.id base) (payload_in right.root.id base) → roots ≡ Equal → left.root.children ≡ right.root.children
    → IsPending left.behind right.behind (owed - 1 + left.root.children) undecided total base
open_same {undecided = undecided} o e d same =
    let even : arity o.one.kids ≡ arity o.two.kids = sym o.one.shown.children ∙ same ∙ o.two.shown.children in
    record {
      one = all_below o.one (omega (arith, o.one.shown.children, o.one.number));
      two = all_below o.two (omega (arith, o.one.shown.children, even, o.two.number));
      short = o.short;
      sum = ap (λ (r : Ordering). ordering_then r undecided) (cmp-join o.one.kids o.two.kids o.one.trees o.two.trees even) ∙ left_over o e d;
    }

-- the first children
abbrev first_below : {front : Front} {owed : ℕ} {base : Forest} (n : ℕ) (s : IsSide front owed base) → n ≤ arity s.kids → IsRun front.behind n base
first_below {base = base} n s h = record {
  trees = first_trees n s.kids;
  others = visits_of (rest_trees n s.kids) ++ (visits_of s.trees ++ s.others);
  nodes = s.shown.nodes ∙ ap (λ (v : List Visit). v ++ (visits_of s.trees ++ s.others)) (visits-first_rest n s.kids)
      ∙ append_assoc (visits_of (first_trees n s.kids)) (visits_of (rest_trees n s.kids)) (visits_of s.trees ++ s.others);
  number = arity-first_trees n s.kids h;
  found = found-first_trees base n s.kids s.shown.found;
  whole = all-first_trees IsWhole n s.kids s.shown.below;
}

-- fewer children on one side: what is undecided does not matter any more
open_fewer : {left right : Front} {owed : ℕ} {undecided total roots : Ordering} {base : Forest} → IsOpen left right owed undecided total base
    → roots ≡ payload_cmp (payload_in left.root.id base) (payload_in right.root.id base) → roots ≡ Equal → left.root.children ≢ right.root.children
    → IsPending left.behind right.behind (min left.root.children right.root.children) (nat_cmp left.root.children right.root.children) total base
open_fewer {left = left} {right = right} {undecided = undecided} o e d other =
    let common = min left.root.children right.root.children in
    let fewer = nat_cmp left.root.children right.root.children in
    let here : common ≡ min (arity o.one.kids) (arity o.two.kids) = (λ i. min (o.one.shown.children i) (o.two.shown.children i)) in
    let told : fewer ≡ nat_cmp (arity o.one.kids) (arity o.two.kids) = (λ i. nat_cmp (o.one.shown.children i) (o.two.shown.children i)) in
    let apart : fewer ≢ Equal = λ q. other (nat_cmp_equal left.root.children right.root.children q) in
    let inner = trees_cmp (plains (first_trees common o.one.kids)) (plains (first_trees common o.two.kids)) in
    let others = trees_cmp (plains o.one.trees) (plains o.two.trees) in
    let kids : trees_cmp (plains o.one.kids) (plains o.two.kids) ≡ ordering_then inner fewer = cmp-first o.one.kids o.two.kids common here ∙ ap (ordering_then inner) (sym told) in
    let drops : ordering_then (ordering_then (trees_cmp (plains o.one.kids) (plains o.two.kids)) others) undecided ≡ ordering_then inner fewer =
    ap (λ (r : Ordering). ordering_then (ordering_then r others) undecided) kids
    ∙ then_assoc (ordering_then inner fewer) others undecided
    ∙ then_assoc inner fewer (ordering_then others undecided)
    ∙ ap (ordering_then inner) (then_decided fewer (ordering_then others undecided) apart) in
    record { one = first_below common o.one (omega (arith, here)); two = first_below common o.two (omega (arith, here)); short = o.short; sum = sym drops ∙ left_over o e d }

-- the pairs that are left behind two equal roots
pub open_behind : {left right : Front} {pairs next : Pairs} {total roots : Ordering} {base : Forest} → IsOpen left right pairs.owed pairs.undecided total base
    → roots ≡ payload_cmp (payload_in left.root.id base) (payload_in right.root.id base) → roots ≡ Equal
    → (left.root.children ≡ right.root.children → next ≡ record { owed = pairs.owed - 1 + left.root.children; undecided = pairs.undecided })
    → (left.root.children ≢ right.root.children → next ≡ record { owed = min left.root.children right.root.children; undecided = nat_cmp left.root.children right.root.children })
    → IsPending left.behind right.behind next.owed next.undecided total base
open_behind {left = left} {right = right} {total = total} {base = base} o e d same fewer =
    ⊎_elim
    (λ h. subst (λ (p : Pairs). IsPending left.behind right.behind p.owed p.undecided total base) (sym (same h)) (open_same o e d h))
    (λ h. subst (λ (p : Pairs). IsPending left.behind right.behind p.owed p.undecided total base) (sym (fewer h)) (open_fewer o e d h))
    (cases_eq left.root.children right.root.children)

-- there are few of them
pub open_few : {left right : Front} {owed : ℕ} {undecided total : Ordering} {base : Forest} → IsOpen left right owed undecided total base → owed ≤ 65536
open_few o =
    let s = o.one in
    let nodes = length-append (visits_of s.kids) (visits_of s.trees ++ s.others) in
    omega (arith, s.number, o.short, ap length s.shown.nodes, nodes, length-append (visits_of s.trees) s.others, visits_length s.trees, nodes-flatten s.trees, arity_le s.trees)

-- two roots that are not unequal
pub equal_roots : (o : Ordering) (t : Bool) → t ≡ not (ordering_index o == 1) → t ≡ false → o ≡ Equal
equal_roots o t e h = grind arith

pub unequal_roots : (o : Ordering) (t : Bool) → t ≡ not (ordering_index o == 1) → t ≡ true → o ≢ Equal
unequal_roots o t e h = grind arith

-- no pair is left
pub pending_done : {left right : List Visit} {owed : ℕ} {undecided total : Ordering} {base : Forest} → IsPending left right owed undecided total base → owed ≡ 0 → undecided ≡ total
pending_done {undecided = undecided} {total = total} p e = none_left p.one.trees p.two.trees (p.one.number ∙ e) (p.two.number ∙ e) p.sum
  where
    none_left : (f g : Forest) → arity f ≡ 0 → arity g ≡ 0 → ordering_then (trees_cmp (plains f) (plains g)) undecided ≡ total → undecided ≡ total
    none_left empty empty a b q = q
    none_left f g a b q = absurd (omega arith)

-- a pair is left
pub run_left : {xs : List Visit} {owed : ℕ} {base : Forest} → IsRun xs owed base → 0 < owed → 0 < length xs
run_left {xs = xs} r h = by r.trees r.nodes (omega (arith, r.number, h))
  where
    by : (f : Forest) → xs ≡ visits_of f ++ r.others → 0 < arity f → 0 < length xs
    by empty e h = absurd (omega (arith, h))
    by (tree l k r) e h = omega (arith, ap length e)

-- the front of the first of some trees
first_front : {base : Forest} {front : Front} {xs : List Visit} (l : Label) (k r : Forest) (others : List Visit) → xs ≡ visits_of (tree l k r) ++ others → xs ≡ front.root ∷ front.behind
    → AreFound base (tree l k r) → AllExpressions (tree l k r)
    → IsFront front l.payload k (visits_of r ++ others) base
first_front l k r others e q h w = grind (arith, node_of, seen, map-append, append_assoc, found)

-- the next tree of one side
next_side : {front : Front} {xs : List Visit} {owed : ℕ} {base : Forest} (r : IsRun xs owed base) → 0 < owed → xs ≡ front.root ∷ front.behind
    → (s : IsSide front owed base) × (plains r.trees ≡ more (grown s.payload (plains s.kids)) (plains s.trees))
next_side {front = front} {xs = xs} {owed = owed} {base = base} r some e = by r.trees r.nodes r.number r.found r.whole
  where
    by : (f : Forest) → xs ≡ visits_of f ++ r.others → arity f ≡ owed → AreFound base f → AllExpressions f
        → (s : IsSide front owed base) × (plains f ≡ more (grown s.payload (plains s.kids)) (plains s.trees))
    by empty q n h w = absurd (omega (arith, n, some))
    by (tree l k t) q n h w = (record { payload = l.payload; kids = k; trees = t; others = r.others; shown = first_front l k t r.others q e h w; number = n; found = h.2; whole = w.2 }, refl)

-- the next pair
pub pending_next : {left right : Front} {xs ys : List Visit} {owed : ℕ} {undecided total : Ordering} {base : Forest} → IsPending xs ys owed undecided total base → 0 < owed
    → xs ≡ left.root ∷ left.behind → ys ≡ right.root ∷ right.behind
    → IsOpen left right owed undecided total base
pending_next {undecided = undecided} p some a b =
    let (s, f) = next_side p.one some a in
    let (t, g) = next_side p.two some b in
    record { one = s; two = t; short = omega (arith, p.short, ap length a); sum = (λ i. ordering_then (trees_cmp (sym f i) (sym g i)) undecided) ∙ p.sum }

-- the front of one tree, which has few nodes
pub shows_first : {base : Forest} {front : Front} (t : Forest) → arity t ≡ 1 → AllExpressions t → AreFound base t → nodes_in t ≤ 65535 → visits_of t ≡ front.root ∷ front.behind
    → Shows front (plain t) base
shows_first empty one w h few e = absurd (omega arith)
shows_first (tree l k r) one w h few e = record {
  payload = l.payload;
  kids = k;
  others = visits_of r ++ [];
  front = first_front l k r [] (sym (append-nil (visits_of (tree l k r)))) e h w;
  short = omega (arith, few, ap length e, visits_length (tree l k r));
  tree-is = refl;
}

pub shows_tree : {front : Front} {i : ℕ} {s : State} → Stands s → IsExpression i (forest s) → visits_of (tree_at i (forest s)) ≡ front.root ∷ front.behind
    → Shows front (plain (tree_at i (forest s))) (forest s)
shows_tree {i = i} {s = s} st x e = shows_first (tree_at i (forest s)) (one_at i (forest s) x.live) x.whole (found i s st) (few_in i s st) e
