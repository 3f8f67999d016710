-- Copying nodes, one after the other.
use Rattle.tree_handles.proofs.Shared.{◌≡◌, ℕ, suc, ◌+◌, ◌-◌, ◌<◌, ◌≤◌, List, [], ◌∷◌, ◌++◌, refl, sym, ap, ◌∙◌, subst, arith, append_assoc, true, append-nil, Node, size_of, used, first_of, since}
use Rattle.tree_handles.proofs.Shared.{until, between, IsBoundary, IsPool, State, free_of, used-append, size_from, until-since, since-append, step, cut, boundary_le, between_next, between_none}
use Rattle.tree_handles.proofs.Shared.{boundary-append, between-append, AreCopies, copy_of, IsCopy, plains, plain, AllExpressions, IsExpression, Forest, empty, tree, join, arity, node_of, flatten}
use Rattle.tree_handles.proofs.{Shared.{forest_of, root_id, bytes_in, AllNodes, AllOnce, Gives, holds, tree_at, Stands, forest, IsCounted, KeepsRefusals}, Copies.{AreCopies-push, copied}}
use Rattle.tree_handles.proofs.{Distinct.{clear_front}, Forests.{flatten-join, stands, forest_of_whole, bytes-flatten, all-join, keeps}, Parts.{IsTold, live_at, span}}

pub record IsCopying (s t : State) (from at : ℕ) : Type 0 where
  pub made : List Node
  pub state : t ≡ record s { nodes = s.nodes ++ made }
  pub same : AreCopies (between from at s.nodes) made
  pub size : used made ≡ at - from

-- a place in front of more nodes
pub since_more : (at : ℕ) (ns ms : List Node) → IsBoundary at ns → since at (ns ++ ms) ≡ since at ns ++ ms
since_more at ns ms b =
    let whole : ns ++ ms ≡ until at ns ++ (since at ns ++ ms) = ap (λ (x : List Node). x ++ ms) (sym (until-since at ns)) ∙ append_assoc (until at ns) (since at ns) ms in
    ap (since at) whole ∙ ap (λ (k : ℕ). since k (until at ns ++ (since at ns ++ ms))) (sym b) ∙ since-append (until at ns) (since at ns ++ ms)

pub boundary_more : (at : ℕ) (ns ms : List Node) → IsBoundary at ns → IsBoundary at (ns ++ ms)
boundary_more at ns ms b =
    let whole : until at ns ++ (since at ns ++ ms) ≡ ns ++ ms = sym (append_assoc (until at ns) (since at ns) ms) ∙ ap (λ (x : List Node). x ++ ms) (until-since at ns) in
    subst (IsBoundary at) whole (boundary-append (until at ns) (since at ns ++ ms) at (sym b))

first_more : (xs b ms : List Node) → xs ≡ first_of xs ∷ b → first_of (xs ++ ms) ≡ first_of xs
first_more xs b ms e = grind arith

pub first_same : (at : ℕ) (ns ms : List Node) → IsBoundary at ns → at < used ns → first_of (since at (ns ++ ms)) ≡ first_of (since at ns)
first_same at ns ms b lt = ap first_of (since_more at ns ms b) ∙ first_more (since at ns) _ ms (step at ns b lt).rest

-- one node more of a block
pub between_push : (from at : ℕ) (ns : List Node) → IsBoundary from ns → IsBoundary at ns → from ≤ at → at < used ns → between from (at + size_of (first_of (since at ns))) ns ≡ between from at ns ++ first_of (since at ns) ∷ []
between_push from at ns a b h lt =
    let n = first_of (since at ns) in
    let x = cut from at ns a b h in
    let rest = since (at + size_of n) ns in
    let mid = between from at ns in
    let whole : until from ns ++ ((mid ++ n ∷ []) ++ rest) ≡ ns =
    ap (λ (t : List Node). until from ns ++ t) (append_assoc mid (n ∷ []) rest) ∙ ap (λ (t : List Node). until from ns ++ (mid ++ t)) (sym (step at ns b lt).rest) ∙ sym x.whole in
    subst (λ (t : List Node). between from (at + size_of n) t ≡ mid ++ n ∷ []) whole
    (between-append (until from ns) (mid ++ n ∷ []) rest from (at + size_of n) (sym x.first) (omega (arith, used-append mid (n ∷ []), x.size, x.first)))

-- what one copy asks for
pub record IsRoom (s t : State) (at : ℕ) : Type 0 where
  pub boundary : IsBoundary at t.nodes
  pub inside : at < used t.nodes
  pub first : first_of (since at t.nodes) ≡ first_of (since at s.nodes)
  pub room : size_of (first_of (since at t.nodes)) ≤ free_of t

pub has_room : (s t : State) (from at end : ℕ) → IsCopying s t from at → IsBoundary at s.nodes → IsBoundary end s.nodes → from ≤ at → at < end → end - from ≤ free_of s → IsRoom s t at
has_room s t from at end c b e low lt room =
    let ns = s.nodes in
    let inside : at < used ns = omega (arith, boundary_le end ns e) in
    let nodes : t.nodes ≡ ns ++ c.made = ap (λ (x : State). x.nodes) c.state in
    let size : t.size ≡ s.size = ap (λ (x : State). x.size) c.state in
    let first : first_of (since at t.nodes) ≡ first_of (since at ns) = ap (λ (x : List Node). first_of (since at x)) nodes ∙ first_same at ns c.made b inside in
    let more = (between_next at (size_of (first_of (since at ns))) end ns b e lt (step at ns b inside).rest refl).1 in
    record {
      boundary = subst (IsBoundary at) (sym nodes) (boundary_more at ns c.made b);
      inside = omega (arith, ap used nodes, used-append ns c.made);
      first = first;
      room = omega (arith, ap size_of first, ap used nodes, used-append ns c.made, c.size);
    }

pub record IsMore (s u : State) (from next end : ℕ) : Type 0 where
  pub made : IsCopying s u from next
  pub boundary : IsBoundary next s.nodes
  pub low : from ≤ next
  pub high : next ≤ end

pub copied_more : (s t u : State) (from at end next id : ℕ) → IsCopying s t from at → IsBoundary from s.nodes → IsBoundary at s.nodes → IsBoundary end s.nodes → from ≤ at → at < end
    → u ≡ record t { nodes = t.nodes ++ copy_of id (first_of (since at t.nodes)) ∷ [] } → next ≡ at + size_of (first_of (since at t.nodes)) → IsMore s u from next end
copied_more s t u from at end next id c a b e low lt q h =
    let ns = s.nodes in
    let inside : at < used ns = omega (arith, boundary_le end ns e) in
    let n = first_of (since at ns) in
    let nodes : t.nodes ≡ ns ++ c.made = ap (λ (x : State). x.nodes) c.state in
    let first : first_of (since at t.nodes) ≡ n = ap (λ (x : List Node). first_of (since at x)) nodes ∙ first_same at ns c.made b inside in
    let next-is : next ≡ at + size_of n = h ∙ ap (λ (x : Node). at + size_of x) first in
    let x = step at ns b inside in
    let m = copy_of id n in
    let state : u ≡ record s { nodes = ns ++ (c.made ++ m ∷ []) } =
    q ∙ ap (λ (y : Node). record t { nodes = t.nodes ++ copy_of id y ∷ [] }) first ∙ ap (λ (y : State). record y { nodes = y.nodes ++ m ∷ [] }) c.state ∙ ap (λ (y : List Node). record s { nodes = y }) (append_assoc ns c.made (m ∷ [])) in
    record {
      made = record {
        made = c.made ++ m ∷ [];
        state = state;
        same = subst (λ (y : List Node). AreCopies y (c.made ++ m ∷ [])) (sym (ap (λ (k : ℕ). between from k ns) next-is ∙ between_push from at ns a b low inside)) (AreCopies-push (between from at ns) c.made n m c.same refl refl refl);
        size = omega (arith, used-append c.made (m ∷ []), c.size);
      };
      boundary = subst (λ (k : ℕ). IsBoundary k ns) (sym next-is) x.boundary;
      low = omega arith;
      high = omega (arith, (between_next at (size_of n) end ns b e lt x.rest refl).1);
    }

pub copying_start : (s : State) (from : ℕ) → IsCopying s s from from
copying_start s from = record {
  made = [];
  state = ap (λ (ns : List Node). record s { nodes = ns }) (sym (append-nil s.nodes));
  same = subst (λ (y : List Node). AreCopies y []) (sym (between_none from from s.nodes (omega arith))) tt;
  size = omega arith;
}

-- ---- a tree

-- the block of a tree
pub record IsTree (i from end : ℕ) (s : State) : Type 0 where
  pub block : between from end s.nodes ≡ flatten (tree_at i (forest s))
  pub size : end - from ≡ bytes_in (tree_at i (forest s))
  pub one : arity (tree_at i (forest s)) ≡ 1

pub tree_here : (i from end : ℕ) (s : State) → Stands s → holds i (forest s) ≡ true → IsTold i from end s.nodes → IsTree i from end s
tree_here i from end s st live q =
    let p = live_at i s live in
    let t = tree_at i (forest s) in
    let split : s.nodes ≡ p.before ++ (flatten t ++ p.after) = st.flat ∙ p.flat ∙ sym (ap (λ (f : Forest). p.before ++ (flatten f ++ p.after)) p.tree-is ∙ simp append-nil) in
    let x = span i from end t p.before p.after s.nodes st.pool.distinct (ap arity p.tree-is) (ap root_id p.tree-is ∙ p.id-is) split q in
    record {
      block = ap (between from end) split ∙ between-append p.before (flatten t) p.after from end x.start x.stop;
      size = omega (arith, bytes-flatten t, x.start, x.stop);
      one = ap arity p.tree-is;
    }

nonempty : (f : Forest) → arity f ≡ 1 → (0 < used (flatten f)) × ((first_of (flatten f)).id ≡ root_id f)
nonempty empty h = absurd (omega arith)
nonempty (tree l k r) h = (omega (arith, size_from (node_of l k)), refl)

-- a copy is counted, and held once
once_copy : (f g : Forest) → IsCopy f g → AllOnce g
once_copy (tree l k r) (tree m j s) h = (h.0, once_copy k j h.2, once_copy r s h.3)
once_copy f g h = grind arith

pub once_counted : (f : Forest) → AllOnce f → AllNodes IsCounted f
once_counted empty h = tt
once_counted (tree l k r) h = (omega (arith, h.0), once_counted k h.1, once_counted r h.2)

-- it has the plain trees of its source, and is of the language where its source is
copy_arity : (f g : Forest) → IsCopy f g → arity g ≡ arity f
copy_arity (tree l k r) (tree m j s) h = ap suc (copy_arity r s h.3)
copy_arity f g h = grind arith

pub copy_plains : (f g : Forest) → IsCopy f g → plains g ≡ plains f
copy_plains (tree l k r) (tree m j s) h = rw (h.1, copy_plains k j h.2, copy_plains r s h.3) refl
copy_plains f g h = grind arith

pub copy_whole : (f g : Forest) → IsCopy f g → AllExpressions f → AllExpressions g
copy_whole (tree l k r) (tree m j s) h w = (rw (h.1, copy_arity k j h.2) w.0, copy_whole k j h.2 w.1, copy_whole r s h.3 w.2)
copy_whole f g h w = grind arith

-- what was copied
pub record IsCopyTree (i place : ℕ) (s t : State) : Type 0 where
  pub copy : Forest
  pub forest-is : forest t ≡ join (forest s) copy
  pub stands : IsPool t → Stands t
  pub same : IsCopy (tree_at i (forest s)) copy
  pub boundary : IsBoundary place t.nodes
  pub inside : place < used t.nodes
  pub root : (first_of (since place t.nodes)).id ≡ root_id copy
  pub kept : KeepsRefusals s t
  pub alone : arity copy ≡ 1

pub copy_tree_is : (i from end place : ℕ) (s t : State) → Stands s → IsTree i from end s → place ≡ used s.nodes → (made : List Node) × (t ≡ record s { nodes = s.nodes ++ made }) × AreCopies (between from end s.nodes) made → IsCopyTree i place s t
copy_tree_is i from end place s t st x h m =
    let ns = s.nodes in
    let made = m.0 in
    let same : AreCopies (flatten (tree_at i (forest s))) made = subst (λ (y : List Node). AreCopies y made) x.block m.2 in
    let c = copied (tree_at i (forest s)) made same in
    let nodes : t.nodes ≡ ns ++ made = ap (λ (y : State). y.nodes) m.1 in
    let flat : t.nodes ≡ flatten (join (forest s) c.copy) = nodes ∙ ap (λ (y : List Node). y ++ made) st.flat ∙ ap (λ (y : List Node). flatten (forest s) ++ y) c.nodes ∙ sym (flatten-join (forest s) c.copy) in
    let some = nonempty c.copy (c.arity-is ∙ x.one) in
    let there : since place t.nodes ≡ made = ap (since place) nodes ∙ ap (λ (k : ℕ). since k (ns ++ made)) h ∙ since-append ns made in
    record {
      copy = c.copy;
      forest-is = ap forest_of flat ∙ forest_of_whole (join (forest s) c.copy);
      stands = λ p. (stands t (join (forest s) c.copy) flat p (all-join IsCounted (forest s) c.copy st.counted (once_counted c.copy (once_copy (tree_at i (forest s)) c.copy c.same)))).1;
      same = c.same;
      boundary = subst (IsBoundary place) (sym nodes) (boundary-append ns made place h);
      inside = omega (arith, ap used nodes, used-append ns made, ap used c.nodes, some.0);
      root = ap (λ (y : List Node). (first_of y).id) (there ∙ c.nodes) ∙ some.1;
      kept = keeps s t _ m.1;
      alone = c.arity-is ∙ x.one;
    }

pub copy_done : (i from end place : ℕ) (s m t : State) → Stands s → IsTree i from end s → m ≡ s → place ≡ used m.nodes → (made : List Node) × (t ≡ record m { nodes = m.nodes ++ made }) × AreCopies (between from end m.nodes) made → IsCopyTree i place s t
copy_done i from end place s m t h x e k g = grind (arith, copy_tree_is)

-- the copy as an answer
pub copy_given : (i h place : ℕ) (s t : State) (x : IsCopyTree i place s t) → h ≡ root_id x.copy → Stands t → IsExpression i (forest s) → Gives (forest s) (forest t) h (λ u. u ≡ plain (tree_at i (forest s)))
copy_given i h place s t x e k w = grind (arith, clear_front, once_copy, copy_whole, copy_plains)

-- the size decides
pub fits_iff : (P : Type 0) (len need free : ℕ) → len ≡ need → (P → len ≤ free) × (len ≤ free → P) → (P → need ≤ free) × (need ≤ free → P)
fits_iff P len need free e h = (λ p. subst (λ (k : ℕ). k ≤ free) e (h.0 p), λ q. h.1 (subst (λ (k : ℕ). k ≤ free) (sym e) q))
