-- A node in the first or in the last of two forests.
use Rattle.tree_handles.proofs.Shared.{arith, ◌≡◌, ℕ, cond, refl, ap, true, false, Forest, empty, tree, join, kids, holds, tree_at, kids_of, with_kids, released_in, or_true}

pub holds-join : (i : ℕ) (f g : Forest) → holds i (join f g) ≡ cond (holds i f) true (holds i g)
holds-join i empty g = refl
holds-join i (tree l k r) g = grind (arith, holds-join i r g)

pub holds-left : (i : ℕ) (f g : Forest) → holds i f ≡ true → holds i (join f g) ≡ true
holds-left i f g h = grind (arith, holds-join)

pub holds-right : (i : ℕ) (f g : Forest) → holds i g ≡ true → holds i (join f g) ≡ true
holds-right i f g h = grind (arith, holds-join, or_true)

pub tree_at-join_left : (i : ℕ) (f g : Forest) → holds i f ≡ true → tree_at i (join f g) ≡ tree_at i f
tree_at-join_left i empty g h = absurd cc
tree_at-join_left i (tree l k r) g h = grind (arith, tree_at-join_left i r g)

pub tree_at-join_right : (i : ℕ) (f g : Forest) → holds i f ≡ false → tree_at i (join f g) ≡ tree_at i g
tree_at-join_right i empty g h = refl
tree_at-join_right i (tree l k r) g h = grind (arith, tree_at-join_right i r g)

pub kids_of-join_left : (i : ℕ) (f g : Forest) → holds i f ≡ true → kids_of i (join f g) ≡ kids_of i f
kids_of-join_left i f g h = ap kids (tree_at-join_left i f g h)

pub kids_of-join_right : (i : ℕ) (f g : Forest) → holds i f ≡ false → kids_of i (join f g) ≡ kids_of i g
kids_of-join_right i f g h = ap kids (tree_at-join_right i f g h)

pub with_kids-join_left : (i : ℕ) (n f g : Forest) → holds i f ≡ true → with_kids i n (join f g) ≡ join (with_kids i n f) g
with_kids-join_left i n empty g h = absurd cc
with_kids-join_left i n (tree l k r) g h = grind (arith, with_kids-join_left i n r g)

pub with_kids-join_right : (i : ℕ) (n f g : Forest) → holds i f ≡ false → with_kids i n (join f g) ≡ join f (with_kids i n g)
with_kids-join_right i n empty g h = refl
with_kids-join_right i n (tree l k r) g h = grind (arith, with_kids-join_right i n r g)

pub released_in-join_right : (i : ℕ) (f g : Forest) → holds i f ≡ false → released_in i (join f g) ≡ join f (released_in i g)
released_in-join_right i empty g h = refl
released_in-join_right i (tree l k r) g h = grind (arith, released_in-join_right i r g)

-- ---- other children

pub holds-with_kids : (i : ℕ) (n f : Forest) → holds i f ≡ true → holds i (with_kids i n f) ≡ true
holds-with_kids i n empty h = absurd cc
holds-with_kids i n (tree l k r) h = grind (arith, holds-with_kids i n k, holds-with_kids i n r)

pub kids_of-with_kids : (i : ℕ) (n f : Forest) → holds i f ≡ true → kids_of i (with_kids i n f) ≡ n
kids_of-with_kids i n empty h = absurd cc
kids_of-with_kids i n (tree l k r) h = grind (arith, holds-with_kids i n k, kids_of-with_kids i n k, kids_of-with_kids i n r)

pub with_kids-with_kids : (i : ℕ) (a b f : Forest) → holds i f ≡ true → with_kids i a (with_kids i b f) ≡ with_kids i a f
with_kids-with_kids i a b empty h = absurd cc
with_kids-with_kids i a b (tree l k r) h = grind (arith, holds-with_kids i b k, with_kids-with_kids i a b k, with_kids-with_kids i a b r)

pub with_kids-same : (i : ℕ) (f : Forest) → with_kids i (kids_of i f) f ≡ f
with_kids-same i empty = refl
with_kids-same i (tree l k r) = grind (arith, with_kids-same i k, with_kids-same i r)
