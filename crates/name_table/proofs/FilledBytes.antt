-- What filling needs and leaves of the free bytes, and how deep and how large a filled tree becomes.
use Rattle.name_table.proofs.Shared.{◌≡◌, ℕ, ◌+◌, ◌*◌, ◌≤◌, ◌<◌, List, [], ◌∷◌, cond, nat_lt, Result, Ok, Err, All, refl, subst, arith, All-head, All-tail, IfOk, IfErr, root_most, add, div, more}
use Rattle.name_table.proofs.Shared.{mult, neg, nodes, nodes_of, none, num, power, root, sizes, sub, Trees, ltb-true, Tree, depth, root_size, size, symbol, by_test, Full, Filling, NamedTree, fills}
use Rattle.name_table.proofs.{Shared.{filled, filling, filling_one, lacks, too_deep, replaced, occurrences, replacing, bytes_of_replaced}, Growing.{copies_fit, copies_leave, grows, size_grows}}

-- ---- a filled tree is no smaller than before

pub grown : (vs : List NamedTree) (t : Tree) → (nodes t ≤ nodes (filled vs t)) × (depth t ≤ depth (filled vs t))
grown [] t = (omega arith, omega arith)
grown (v ∷ vs) t = let h = grows v.name v.tree t in let k = grown vs (replaced v.name v.tree t) in (omega (arith, h.0, k.0), omega (arith, h.1, k.1))

-- each tree is at least as large as the leaf of its name
abbrev pub IsLarge : NamedTree → Type 0
IsLarge v = root_size (symbol v.name) ≤ size v.tree

pub size_filled : (vs : List NamedTree) (t : Tree) → All IsLarge vs → size t ≤ size (filled vs t)
size_filled [] t h = omega arith
size_filled (v ∷ vs) t h = omega (arith, size_grows v.name v.tree t (All-head IsLarge v vs h), size_filled vs (replaced v.name v.tree t) (All-tail IsLarge v vs h))

-- ---- what filling comes to

-- in so many bytes a tree stands, and the leaf of a name besides; and so does what it becomes behind each name
abbrev pub FitsOnTheWay : ℕ → List NamedTree → Tree → Type 0
FitsOnTheWay all [] t = size t + 16 ≤ all
FitsOnTheWay all (v ∷ vs) t = (size t + 16 ≤ all) × FitsOnTheWay all vs (replaced v.name v.tree t)

pub fits_first : (all : ℕ) (vs : List NamedTree) (t : Tree) → FitsOnTheWay all vs t → size t + 16 ≤ all
fits_first all [] t h = h
fits_first all (v ∷ vs) t h = h.0

-- in so many bytes for the tree and what is free: bytes are lacking only where a tree does not fit, what is too deep is so at the end, and otherwise the filled tree takes what is not left
abbrev pub Fares : ℕ → List NamedTree → Tree → Filling → Type 0
Fares all vs t (lacks f) = FitsOnTheWay all vs t → ⊥
Fares all vs t too_deep = 64 < depth (filled vs t)
Fares all vs t (fills left u) = (left + size u ≡ all) × (u ≡ filled vs t)

one_fares : (all free : ℕ) (v : NamedTree) (t : Tree) → free + size t ≡ all → Fares all (v ∷ []) t (filling_one free v t)
one_fares all free v t is =
    by (replacing free (occurrences v.name t) (size v.tree) (root_size (symbol v.name))) (copies_leave (size v.tree) (root_size (symbol v.name)) (occurrences v.name t) free) (copies_fit (size v.tree) (root_size (symbol v.name)) (occurrences v.name t) free)
  where
    u : Tree
    u = replaced v.name v.tree t

    by : (r : Result ℕ Full) → IfOk r (λ left. left + occurrences v.name t * size v.tree ≡ free + occurrences v.name t * root_size (symbol v.name))
        → (root_size (symbol v.name) ≤ free → occurrences v.name t * size v.tree + root_size (symbol v.name) ≤ free + occurrences v.name t * root_size (symbol v.name) → IfErr r (λ f. ⊥))
        → Fares all (v ∷ []) t (elim r [ Err f ↦ lacks f | Ok left ↦ cond (nat_lt 64 (depth u)) too_deep (fills left u) ])
    by (Err f) h k = λ (a, b). k (omega (arith, is, a)) (omega (arith, is, b, bytes_of_replaced v.name v.tree t))
    by (Ok left) h k = by_test (λ b. Fares all (v ∷ []) t (cond b too_deep (fills left u))) (nat_lt 64 (depth u)) (λ d. ltb-true 64 (depth u) d) (λ d. (omega (arith, is, h, bytes_of_replaced v.name v.tree t), refl))

pub fares : (all free : ℕ) (vs : List NamedTree) (t : Tree) → free + size t ≡ all → Fares all vs t (filling free vs t)
fares all free [] t is = (is, refl)
fares all free (v ∷ vs) t is = by (filling_one free v t) (one_fares all free v t is) (λ l w e. fares all l vs w e)
  where
    u : Tree
    u = replaced v.name v.tree t

    behind : (m : Filling) → Fares all vs u m → Fares all (v ∷ vs) t m
    behind (lacks f) h = λ way. h way.1
    behind too_deep h = h
    behind (fills l w) h = h

    by : (m : Filling) → Fares all (v ∷ []) t m → ((l : ℕ) (w : Tree) → l + size w ≡ all → Fares all vs w (filling l vs w)) → Fares all (v ∷ vs) t (elim m [ lacks f ↦ lacks f | too_deep ↦ too_deep | fills l w ↦ filling l vs w ])
    by (lacks f) h next = λ way. h (way.0, fits_first all vs u way.1)
    by too_deep h next = omega (arith, h, (grown vs u).1)
    by (fills l w) h next = behind (filling l vs w) (subst (λ x. Fares all vs x (filling l vs w)) h.1 (next l w h.0))

pub fills_as : (free left : ℕ) (vs : List NamedTree) (t u : Tree) → filling free vs t ≡ fills left u → u ≡ filled vs t
fills_as free left vs t u e = (subst (Fares (free + size t) vs t) e (fares (free + size t) free vs t refl)).1

-- ---- the bytes on the way

pub fits_by_bytes : (all : ℕ) (vs : List NamedTree) (t : Tree) → All IsLarge vs → size (filled vs t) + 16 ≤ all → FitsOnTheWay all vs t
fits_by_bytes all [] t large h = h
fits_by_bytes all (v ∷ vs) t large h = (omega (arith, size_filled (v ∷ vs) t large, h), fits_by_bytes all vs (replaced v.name v.tree t) (All-tail IsLarge v vs large) h)

-- each node has 40 at most
mutual
  bytes_by_nodes : (t : Tree) → size t ≤ 40 * nodes t
  bytes_by_nodes (num q) = omega (arith, root_most (num q))
  bytes_by_nodes (add ts) = omega (arith, all_bytes_by_nodes ts)
  bytes_by_nodes (mult ts) = omega (arith, all_bytes_by_nodes ts)
  bytes_by_nodes (power b e) = omega (arith, bytes_by_nodes b, bytes_by_nodes e)
  bytes_by_nodes (root a) = omega (arith, bytes_by_nodes a)
  bytes_by_nodes (neg a) = omega (arith, bytes_by_nodes a)
  bytes_by_nodes (sub a b) = omega (arith, bytes_by_nodes a, bytes_by_nodes b)
  bytes_by_nodes (div a b) = omega (arith, bytes_by_nodes a, bytes_by_nodes b)
  bytes_by_nodes t = omega arith

  all_bytes_by_nodes : (ts : Trees) → sizes ts ≤ 40 * nodes_of ts
  all_bytes_by_nodes none = omega arith
  all_bytes_by_nodes (more t ts) = omega (arith, bytes_by_nodes t, all_bytes_by_nodes ts)

pub fits_by_nodes : (all : ℕ) (vs : List NamedTree) (t : Tree) → 40 * nodes (filled vs t) + 16 ≤ all → FitsOnTheWay all vs t
fits_by_nodes all [] t h = omega (arith, h, bytes_by_nodes t)
fits_by_nodes all (v ∷ vs) t h = (omega (arith, (grown (v ∷ vs) t).0, h, bytes_by_nodes t), fits_by_nodes all vs (replaced v.name v.tree t) h)
