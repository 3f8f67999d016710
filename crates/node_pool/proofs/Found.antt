-- The node with an identifier.
use Rattle.node_pool.proofs.Shared.{arith, Bool, List, [], ap, append-nil, cond, eqb, false, refl, subst, sym, true, ℕ, ◌++◌, ◌+◌, ◌∙◌, ◌∷◌, ◌≡◌, eqb-true, Node}
use Rattle.node_pool.proofs.{Shared.{size_of, AreDistinct, has, payload_of_id, place_of, used, with_children, with_count, IsBoundary}, Splits.boundary-append}

pub record IsFound (id : ℕ) (ns : List Node) : Type 0 where
  pub before : List Node
  pub node : Node
  pub after : List Node
  pub whole : ns ≡ before ++ node ∷ after
  pub place : place_of id ns ≡ used before
  pub id-is : node.id ≡ id
  pub leafed : payload_of_id id ns ≡ node.payload
  pub counted : (c : ℕ) → with_count id c ns ≡ before ++ record node { count = c } ∷ after
  pub parented : (c : ℕ) → with_children id c ns ≡ before ++ record node { children = c } ∷ after

found_here : (id : ℕ) (n : Node) (ns : List Node) → eqb n.id id ≡ true → IsFound id (n ∷ ns)
found_here id n ns e = record {
  before = [];
  node = n;
  after = ns;
  whole = refl;
  place = rw e refl;
  id-is = eqb-true n.id id e;
  leafed = rw e refl;
  counted = λ c. rw e refl;
  parented = λ c. rw e refl;
}

found_behind : (id : ℕ) (n : Node) (ns : List Node) → eqb n.id id ≡ false → IsFound id ns → IsFound id (n ∷ ns)
found_behind id n ns e f = record {
  before = n ∷ f.before;
  node = f.node;
  after = f.after;
  whole = ap (λ (x : List Node). n ∷ x) f.whole;
  place = rw e (ap (λ (k : ℕ). size_of n + k) f.place);
  id-is = f.id-is;
  leafed = rw e f.leafed;
  counted = λ c. rw e (ap (λ (x : List Node). n ∷ x) (f.counted c));
  parented = λ c. rw e (ap (λ (x : List Node). n ∷ x) (f.parented c));
}

pub found : (id : ℕ) (ns : List Node) → has id ns ≡ true → IsFound id ns
found id [] h = absurd cc
found id (n ∷ ns) h = grind (arith, found_here, found_behind, found id ns)

-- a node in place of one with the same identifier and the same payload
pub has-same : (a : List Node) (n m : Node) (b : List Node) (i : ℕ) → n.id ≡ m.id → has i (a ++ m ∷ b) ≡ has i (a ++ n ∷ b)
has-same [] n m b i e = ap (λ (x : ℕ). cond (eqb x i) true (has i b)) (sym e)
has-same (k ∷ a) n m b i e = ap (λ (t : Bool). cond (eqb k.id i) true t) (has-same a n m b i e)

pub AreDistinct-same : (a : List Node) (n m : Node) (b : List Node) → n.id ≡ m.id → AreDistinct (a ++ n ∷ b) → AreDistinct (a ++ m ∷ b)
AreDistinct-same [] n m b e h = (ap (λ (i : ℕ). has i b) (sym e) ∙ h.0, h.1)
AreDistinct-same (k ∷ a) n m b e h = (has-same a n m b k.id e ∙ h.0, AreDistinct-same a n m b e h.1)

pub place_boundary : (i : ℕ) (ns : List Node) (at : ℕ) → has i ns ≡ true → at ≡ place_of i ns → IsBoundary at ns
place_boundary i ns at h e =
    let f = found i ns h in
    subst (IsBoundary at) (sym f.whole) (boundary-append f.before (f.node ∷ f.after) at (e ∙ f.place))

pub end_boundary : (ns : List Node) (at : ℕ) → at ≡ used ns → IsBoundary at ns
end_boundary ns at e = subst (IsBoundary at) (append-nil ns) (boundary-append ns [] at e)
