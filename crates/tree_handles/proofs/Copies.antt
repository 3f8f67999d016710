-- Copies of nodes, and of trees.
use Rattle.tree_handles.proofs.Shared.{arith, ◌≡◌, ℕ, suc, ◌+◌, ◌<◌, List, [], ◌∷◌, ◌++◌, refl, sym, ap, ◌∙◌, subst, true, false, Header, Node, IsNode, size_of}
use Rattle.tree_handles.proofs.Shared.{header_of, fresh, Payload, kind_of_payload, has, used, first_of, payload_of_id, AreNodes, AreDistinct, with_children, since, until, IsBoundary, State}
use Rattle.tree_handles.proofs.Shared.{IsPool, until-since, step, AreNodes-since, with_children-append, IsCopy, AreCopies, copy_of, Label, Forest, empty, tree, arity, node_of, flatten}
use Rattle.tree_handles.proofs.{Parts.has_mid, Readings.payload_of_id-append, Distinct.not_before}

-- one copy more
pub AreCopies-push : (ns ms : List Node) (n m : Node) → AreCopies ns ms → m.count ≡ 1 → m.payload ≡ n.payload → m.children ≡ n.children → AreCopies (ns ++ n ∷ []) (ms ++ m ∷ [])
AreCopies-push [] [] n m h c l k = (c, l, k, tt)
AreCopies-push (x ∷ ns) (y ∷ ms) n m h c l k = (h.0, h.1, h.2, AreCopies-push ns ms n m h.3 c l k)
AreCopies-push ns ms n m h c l k = absurd h

-- copies of two parts
pub record IsSplit (a b ms : List Node) : Type 0 where
  pub left : List Node
  pub right : List Node
  pub whole : ms ≡ left ++ right
  pub one : AreCopies a left
  pub two : AreCopies b right

pub split : (a b ms : List Node) → AreCopies (a ++ b) ms → IsSplit a b ms
split [] b ms h = record { left = []; right = ms; whole = refl; one = tt; two = h }
split (n ∷ a) b [] h = absurd h
split (n ∷ a) b (m ∷ ms) h =
    let r = split a b ms h.3 in
    record { left = m ∷ r.left; right = r.right; whole = ap (λ (x : List Node). m ∷ x) r.whole; one = (h.0, h.1, h.2, r.one); two = r.two }

-- copies of a forest's nodes are those of a copy of it
pub record IsCopied (f : Forest) (ms : List Node) : Type 0 where
  pub copy : Forest
  pub nodes : ms ≡ flatten copy
  pub same : IsCopy f copy
  pub arity-is : arity copy ≡ arity f

node_is : (m : Node) (k : Forest) → m.children ≡ arity k → m ≡ node_of (record { id = m.id; count = m.count; payload = m.payload }) k
node_is m k e = ap (λ (c : ℕ). record m { children = c }) e

pub copied : (f : Forest) (ms : List Node) → AreCopies (flatten f) ms → IsCopied f ms
copied empty [] h = record { copy = empty; nodes = refl; same = tt; arity-is = refl }
copied (tree l k r) (m ∷ ms) h =
    let s = split (flatten k) (flatten r) ms h.3 in
    let a = copied k s.left s.one in
    let b = copied r s.right s.two in
    let label : Label = record { id = m.id; count = m.count; payload = m.payload } in
    let head : m ≡ node_of label a.copy = node_is m a.copy (h.2 ∙ sym a.arity-is) in
    record {
      copy = tree label a.copy b.copy;
      nodes = ap (λ (x : Node). x ∷ ms) head ∙ ap (λ (x : List Node). node_of label a.copy ∷ x) (s.whole ∙ ap (λ (x : List Node). x ++ s.right) a.nodes ∙ ap (λ (x : List Node). flatten a.copy ++ x) b.nodes);
      same = (h.0, h.1, a.same, b.same);
      arity-is = ap suc b.arity-is;
    }
copied f ms h = absurd h

-- ---- the node at a place

pub record IsThere (n : Node) (ns : List Node) : Type 0 where
  pub live : has n.id ns ≡ true
  pub payload-is : payload_of_id n.id ns ≡ n.payload
  pub valid : IsNode n

there_split : (a : List Node) (n : Node) (b : List Node) → AreDistinct (a ++ n ∷ b) → IsNode n → IsThere n (a ++ n ∷ b)
there_split a n b d v = record { live = has_mid n.id a n b refl; payload-is = payload_of_id-append n.id a n b (not_before a n b d) refl; valid = v }

first_valid : (ns b : List Node) → ns ≡ first_of ns ∷ b → AreNodes ns → IsNode (first_of ns)
first_valid ns b e h = grind arith

pub there : (s : State) (at : ℕ) → IsPool s → IsBoundary at s.nodes → at < used s.nodes → IsThere (first_of (since at s.nodes)) s.nodes
there s at p b lt =
    let x = step at s.nodes b lt in
    let n = first_of (since at s.nodes) in
    let rest = since (at + size_of n) s.nodes in
    let whole : until at s.nodes ++ n ∷ rest ≡ s.nodes = ap (λ (l : List Node). until at s.nodes ++ l) (sym x.rest) ∙ until-since at s.nodes in
    let v = first_valid (since at s.nodes) rest x.rest (AreNodes-since at s.nodes p.nodes) in
    subst (IsThere n) whole (there_split (until at s.nodes) n rest (subst AreDistinct (sym whole) p.distinct) v)

pub told_there : (s : State) (at : ℕ) (h : Header) (id : ℕ) → IsPool s → IsBoundary at s.nodes → at < used s.nodes → h ≡ header_of (first_of (since at s.nodes)) → id ≡ h.id
    → (has id s.nodes ≡ true) × (payload_of_id id s.nodes ≡ (first_of (since at s.nodes)).payload) × (kind_of_payload (payload_of_id id s.nodes) ≡ h.kind)
told_there s at h id p b lt e q =
    let t = there s at p b lt in
    let i : id ≡ (first_of (since at s.nodes)).id = q ∙ ap (λ (x : Header). x.id) e in
    let l : payload_of_id id s.nodes ≡ (first_of (since at s.nodes)).payload = ap (λ (j : ℕ). payload_of_id j s.nodes) i ∙ t.payload-is in
    (ap (λ (j : ℕ). has j s.nodes) i ∙ t.live, l, ap kind_of_payload l ∙ sym (ap (λ (x : Header). x.kind) e))

-- the new node with its number of children
pub copied_node : (ns : List Node) (id c : ℕ) (x : Payload) (n : Node) → has id ns ≡ false → x ≡ n.payload → c ≡ n.children → with_children id c (ns ++ fresh id x ∷ []) ≡ ns ++ copy_of id n ∷ []
copied_node ns id c x n h e k = with_children-append id c ns (fresh id x) [] h refl ∙ ap (λ (y : Payload). ns ++ record (fresh id y) { children = c } ∷ []) e ∙ ap (λ (j : ℕ). ns ++ record (fresh id n.payload) { children = j } ∷ []) k
