-- Free bytes and those of handed trees, from one pool to the next.
use Rattle.tree_handles.proofs.Shared.{◌≡◌, ℕ, ◌+◌, ◌≤◌, true, false, eqb, ap, subst, arith, ◌<◌, Tree, size, used, State, free_of, plain, Forest, empty, tree, bytes_in}
use Rattle.tree_handles.proofs.{Shared.{IsHanded, tree_of, Gives, has_root, root_tree, without_root, Stands, forest, KeepsRefusals, IsRefused, Full}, Plains.size-plain}
use Rattle.tree_handles.proofs.{Given.handed_beside, Lasts.last_tree, Forests.{bytes_in-join}, Roots.{root_arity, tree-without}, Places.{used_forest}}

-- ---- bytes

pub bytes_without : (i : ℕ) (f : Forest) → has_root i f ≡ true → bytes_in f ≡ bytes_in (root_tree i f) + bytes_in (without_root i f)
bytes_without i empty h = cc
bytes_without i (tree l k r) h = grind (arith, bytes_without i r)

-- the bytes of a tree that goes are free
pub room_of : (i : ℕ) (s t : State) → Stands s → Stands t → KeepsRefusals s t → IsHanded i (forest s) → forest t ≡ without_root i (forest s) → size (plain (root_tree i (forest s))) ≤ free_of t
room_of i s t h k l m e = grind (arith, size-plain, root_arity, bytes_without, used_forest)

pub all_bytes : (s : State) → Stands s → free_of s + bytes_in (forest s) ≡ s.size
all_bytes s st = let fits : used s.nodes ≤ s.size = st.pool.fits in omega (arith, fits, used_forest s st)

pub beside_bytes : (i : ℕ) (f : Forest) → IsHanded i f → bytes_in f ≡ bytes_in (without_root i f) + size (plain (root_tree i f))
beside_bytes i f h = omega (arith, bytes_without i f h.root, size-plain (root_tree i f) (root_arity i f h.root) h.whole)

beside_both_bytes : (i j : ℕ) (f : Forest) → eqb i j ≡ false → IsHanded i f → IsHanded j f → bytes_in f ≡ bytes_in (without_root j (without_root i f)) + size (plain (root_tree i f)) + size (plain (root_tree j f))
beside_both_bytes i j f a h k = grind (arith, tree-without, beside_bytes, handed_beside)

pub last_bytes : {g f : Forest} {i : ℕ} {Told : Tree → Type 0} → Gives g f i Told → bytes_in f ≡ bytes_in g + size (plain (root_tree i f))
last_bytes e = grind (arith, bytes_in-join, size-plain, last_tree)

-- a tree in place of a handed one
pub replaced_free : {s t : State} {i h : ℕ} {Told : Tree → Type 0} → Stands s → Stands t → KeepsRefusals s t → IsHanded i (forest s) → Gives (without_root i (forest s)) (forest t) h Told
    → free_of t + size (tree_of h t) ≡ free_of s + size (tree_of i s)
replaced_free {s = s} {t = t} {i = i} st su k o e = omega (arith, all_bytes s st, all_bytes t su, k.size, beside_bytes i (forest s) o, last_bytes e)

-- a tree in place of two
pub both_replaced_free : {s t : State} {i j h : ℕ} {Told : Tree → Type 0} → Stands s → Stands t → KeepsRefusals s t → eqb i j ≡ false → IsHanded i (forest s) → IsHanded j (forest s) → Gives (without_root j (without_root i (forest s))) (forest t) h Told
    → free_of t + size (tree_of h t) ≡ free_of s + size (tree_of i s) + size (tree_of j s)
both_replaced_free {s = s} {t = t} {i = i} {j = j} st su k a o p e = omega (arith, all_bytes s st, all_bytes t su, k.size, beside_both_bytes i j (forest s) a o p, last_bytes e)

-- two handed trees are gone
pub both_released_free : {s t : State} {i j : ℕ} → Stands s → Stands t → KeepsRefusals s t → eqb i j ≡ false → IsHanded i (forest s) → IsHanded j (forest s) → forest t ≡ without_root j (without_root i (forest s))
    → free_of t ≡ free_of s + size (tree_of i s) + size (tree_of j s)
both_released_free {s = s} {t = t} {i = i} {j = j} st su k a o p e = omega (arith, all_bytes s st, all_bytes t su, k.size, beside_both_bytes i j (forest s) a o p, ap bytes_in e)

-- ---- refusals

pub refused_below : {s t : State} {n : ℕ} {full : Full} → IsRefused n s t full → free_of s < n
refused_below r = subst (λ (f : Full). f.free < f.needed) r.told r.lacks.lacking
