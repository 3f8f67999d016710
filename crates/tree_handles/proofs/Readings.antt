-- What a node's header and payload tell of its tree.
use Rattle.tree_handles.proofs.Shared.{arith, ◌≡◌, ℕ, List, [], ◌∷◌, ◌++◌, refl, sym, ap, ◌∙◌, subst, true, false, eq-eqb, Header, lowest, Node, header_of, Payload, rational, named, kind_of_payload}
use Rattle.tree_handles.proofs.Shared.{IsPayload, Ratio, num, symbol, is_num, is_symbol, root_kind, count, has, place_of, first_of, payload_of_id, AreNodes, used, since, State, AreNodes-right}
use Rattle.tree_handles.proofs.Shared.{since-append, place_of-append, Label, Forest, empty, tree, arity, node_of, flatten, root_payload, root_count, tree_nth, rest_trees, holds, tree_at, kids_of}
use Rattle.tree_handles.proofs.{Shared.{count_of, payload_in, nth, grown, plains, plain, IsWhole, IsExpression, AllExpressions, children_of, Stands, forest}, Forests.{all-first_trees, all-rest_trees}}
use Rattle.tree_handles.proofs.{Parts.{at, live_at}, Plains.{is_num-plain, is_symbol-plain, root_kind-plain, children_of-plain, count-plains, plain-tree_nth, whole_kids}}
use Rattle.calc_terms.specs.declared.kind.Kind.TheVariants as kind

pub payload_of_id-append : (i : ℕ) (a : List Node) (n : Node) (b : List Node) → has i a ≡ false → n.id ≡ i → payload_of_id i (a ++ n ∷ b) ≡ n.payload
payload_of_id-append i [] n b h e = grind (arith, eq-eqb)
payload_of_id-append i (m ∷ a) n b h e = grind (arith, payload_of_id-append i a n b)

-- a node of the forest, as the pool shows it
pub record IsSeen (i place : ℕ) (s : State) : Type 0 where
  pub label : Label
  pub node : first_of (since place s.nodes) ≡ node_of label (kids_of i (forest s))
  pub leaf : payload_of_id i s.nodes ≡ label.payload
  pub tree-is : tree_at i (forest s) ≡ tree label (kids_of i (forest s)) empty
  pub valid : IsPayload label.payload

pub seen : (i place : ℕ) (s : State) → Stands s → holds i (forest s) ≡ true → place ≡ place_of i s.nodes → IsSeen i place s
seen i place s st h e =
    let p = live_at i s h in
    let m = node_of p.label (kids_of i (forest s)) in
    let rest = flatten (kids_of i (forest s)) ++ p.after in
    let whole : s.nodes ≡ p.before ++ (m ∷ rest) = st.flat ∙ p.flat in
    let here : place ≡ used p.before = e ∙ ap (place_of i) whole ∙ place_of-append i p.before m rest p.first p.id-is in
    let there : since place s.nodes ≡ m ∷ rest = ap (λ (k : ℕ). since k s.nodes) here ∙ ap (since (used p.before)) whole ∙ since-append p.before (m ∷ rest) in
    let nodes : AreNodes (p.before ++ (m ∷ rest)) = subst AreNodes whole st.pool.nodes in
    record {
      label = p.label;
      node = ap first_of there;
      leaf = ap (payload_of_id i) whole ∙ payload_of_id-append i p.before m rest p.first p.id-is;
      tree-is = p.tree-is;
      valid = (AreNodes-right p.before (m ∷ rest) nodes).0.payload;
    }

-- what the header tells
pub record IsTold (i : ℕ) (s : State) (h : Header) : Type 0 where
  pub kind-is : h.kind ≡ kind_of_payload (payload_in i (forest s))
  pub count-is : h.count ≡ count_of i (forest s)
  pub children-are : h.children ≡ arity (kids_of i (forest s))

pub told : (i place : ℕ) (s : State) (h : Header) → Stands s → holds i (forest s) ≡ true → place ≡ place_of i s.nodes → h ≡ header_of (first_of (since place s.nodes)) → IsTold i s h
told i place s h st live e q =
    let x = seen i place s st live e in
    let n : h ≡ header_of (node_of x.label (kids_of i (forest s))) = q ∙ ap header_of x.node in
    record {
      kind-is = ap (λ (y : Header). y.kind) n ∙ sym (ap (λ (f : Forest). kind_of_payload (root_payload f)) x.tree-is);
      count-is = ap (λ (y : Header). y.count) n ∙ sym (ap (λ (f : Forest). root_count f) x.tree-is);
      children-are = ap (λ (y : Header). y.children) n;
    }

-- what it holds
pub payload_seen : (i : ℕ) (s : State) → Stands s → holds i (forest s) ≡ true → payload_of_id i s.nodes ≡ payload_in i (forest s)
payload_seen i s st h = let x = seen i _ s st h refl in x.leaf ∙ sym (ap root_payload x.tree-is)

pub number_seen : (i : ℕ) (s : State) → Stands s → holds i (forest s) ≡ true → kind_of_payload (payload_in i (forest s)) ≡ kind.Num → is_num (plain (tree_at i (forest s))) ≡ true
number_seen i s st h e =
    let x = seen i _ s st h refl in
    ap (λ (f : Forest). is_num (plain f)) x.tree-is ∙ is_num-plain x.label (kids_of i (forest s)) empty x.valid (sym (ap (λ (f : Forest). kind_of_payload (root_payload f)) x.tree-is) ∙ e)

pub symbol_seen : (i : ℕ) (s : State) → Stands s → holds i (forest s) ≡ true → kind_of_payload (payload_in i (forest s)) ≡ kind.Sym → is_symbol (plain (tree_at i (forest s))) ≡ true
symbol_seen i s st h e =
    let x = seen i _ s st h refl in
    ap (λ (f : Forest). is_symbol (plain f)) x.tree-is ∙ is_symbol-plain x.label (kids_of i (forest s)) empty x.valid (sym (ap (λ (f : Forest). kind_of_payload (root_payload f)) x.tree-is) ∙ e)

pub plain_number : (i : ℕ) (f : Forest) (r : Ratio) → holds i f ≡ true → payload_in i f ≡ rational r → plain (tree_at i f) ≡ num (lowest r.num r.den)
plain_number i f r h e = let p = at i f h in ap plain p.tree-is ∙ ap (λ (x : Payload). grown x (plains (kids_of i f))) (sym (ap root_payload p.tree-is) ∙ e)

pub plain_symbol : (i : ℕ) (f : Forest) (x : List ℕ) → holds i f ≡ true → payload_in i f ≡ named x → plain (tree_at i f) ≡ symbol x
plain_symbol i f x h e = let p = at i f h in ap plain p.tree-is ∙ ap (λ (y : Payload). grown y (plains (kids_of i f))) (sym (ap root_payload p.tree-is) ∙ e)

-- ---- trees of the language

pub expression_kind : (i : ℕ) (f : Forest) → IsExpression i f → root_kind (plain (tree_at i f)) ≡ kind_of_payload (payload_in i f)
expression_kind i f h = root_kind-plain (tree_at i f) (ap arity (at i f h.live).tree-is) h.whole

pub expression_children : (i : ℕ) (f : Forest) → IsExpression i f → count (children_of (plain (tree_at i f))) ≡ arity (kids_of i f)
expression_children i f h = ap count (children_of-plain (tree_at i f) h.whole) ∙ count-plains (kids_of i f)

pub expression_child : (n i : ℕ) (f : Forest) → IsExpression i f → plain (tree_nth n (kids_of i f)) ≡ nth n (children_of (plain (tree_at i f)))
expression_child n i f h = plain-tree_nth n (kids_of i f) ∙ ap (nth n) (sym (children_of-plain (tree_at i f) h.whole))

pub whole_child : (n i : ℕ) (f : Forest) → AllExpressions (tree_at i f) → AllExpressions (tree_nth n (kids_of i f))
whole_child n i f h = all-first_trees IsWhole 1 (rest_trees n (kids_of i f)) (all-rest_trees IsWhole n (kids_of i f) (whole_kids (tree_at i f) h))
