-- Loops over the terms of a sum, each of which is rewritten in its place.
use Rattle.coefficients.proofs.Shared.{◌≡◌, ℕ, zero, suc, ◌+◌, ◌≤◌, ◌<◌, refl, sym, ap, ◌∙◌, arith, true, AllPartsOf, ChangesTree, Forest, Gives, HasForm, IsHanded, KeepsRefusals, Stands, State, Tree}
use Rattle.coefficients.proofs.Shared.{Trees, add, append, changes_after, changes_as, changes_free, changes_none, children_of, count, forest, free_of, given_told, is_add, inserted, is_reduced, mapped}
use Rattle.coefficients.proofs.{Shared.{more, mult, none, nth, plain, root_tree, set_child, set_tree, size, sizes, tree_of, removed}, Forms.{reduced_parts, parts_reduced}}

-- ---- lists

-- the first trees in another form
abbrev pub mapped_first : (Tree → Tree) → ℕ → Trees → Trees
mapped_first f zero ts = ts
mapped_first f (suc n) none = none
mapped_first f (suc n) (more t ts) = more (f t) (mapped_first f n ts)

pub count_first : (f : Tree → Tree) (n : ℕ) (ts : Trees) → count (mapped_first f n ts) ≡ count ts
count_first f zero ts = refl
count_first f (suc n) none = refl
count_first f (suc n) (more t ts) = ap suc (count_first f n ts)

nth_first : (f : Tree → Tree) (n : ℕ) (ts : Trees) → nth n (mapped_first f n ts) ≡ nth n ts
nth_first f zero ts = refl
nth_first f (suc n) none = refl
nth_first f (suc n) (more t ts) = nth_first f n ts

set_first : (f : Tree → Tree) (n : ℕ) (ts : Trees) → n < count ts → set_tree n (f (nth n ts)) (mapped_first f n ts) ≡ mapped_first f (suc n) ts
set_first f n none l = absurd (omega arith)
set_first f zero (more t ts) l = refl
set_first f (suc n) (more t ts) l = ap (more (f t)) (set_first f n ts (omega arith))

all_first : (f : Tree → Tree) (n : ℕ) (ts : Trees) → count ts ≤ n → mapped_first f n ts ≡ mapped f ts
all_first f zero none l = refl
all_first f (suc n) none l = refl
all_first f zero (more t ts) l = absurd (omega arith)
all_first f (suc n) (more t ts) l = ap (more (f t)) (all_first f n ts (omega arith))

-- another tree at a place is put in where one was removed
pub set_removed : (n : ℕ) (u : Tree) (ts : Trees) → n < count ts → set_tree n u ts ≡ inserted n (more u none) (removed n ts)
set_removed n u none l = absurd (omega arith)
set_removed zero u (more t ts) l = refl
set_removed (suc n) u (more t ts) l = ap (more t) (set_removed n u ts (omega arith))

-- ---- the next term

pub record IsNext (f : Tree → Tree) (n : ℕ) (ts : Trees) : Type 0 where
  pub done : Trees
  pub t : Tree
  pub rest : Trees
  pub split : ts ≡ append done (more t rest)
  pub place : n ≡ count done
  pub there : nth n ts ≡ t
  pub first : mapped_first f n ts ≡ append (mapped f done) (more t rest)

pub next_at : (f : Tree → Tree) (n : ℕ) (ts : Trees) → n < count ts → IsNext f n ts
next_at f n none l = absurd (omega arith)
next_at f zero (more t ts) l = record { done = none; t = t; rest = ts; split = refl; place = refl; there = refl; first = refl }
next_at f (suc n) (more t ts) l =
    let x = next_at f n ts (omega arith) in
    record { done = more t x.done; t = x.t; rest = x.rest; split = ap (more t) x.split; place = ap suc x.place; there = x.there; first = ap (more (f t)) x.first }

-- a term of a reduced sum is reduced
nth_reduced : (n : ℕ) (ts : Trees) → n < count ts → AllPartsOf HasForm ts → is_reduced (nth n ts) ≡ true
nth_reduced n none l h = absurd (omega arith)
nth_reduced zero (more t ts) l h = parts_reduced t h.0
nth_reduced (suc n) (more t ts) l h = nth_reduced n ts (omega arith) h.1

pub term_reduced : (n : ℕ) (s : Tree) → is_add s ≡ true → is_reduced s ≡ true → n < count (children_of s) → is_reduced (nth n (children_of s)) ≡ true
term_reduced n (add ts) m h l = nth_reduced n ts l (reduced_parts (add ts) h refl).1
term_reduced n s m h l = cc

-- ---- from child to child

-- a node that takes any children
pub record IsRow (c : Trees → Tree) : Type 0 where
  pub below : (ts : Trees) → children_of (c ts) ≡ ts
  pub sets : (n : ℕ) (u : Tree) (ts : Trees) → set_child n u (c ts) ≡ c (set_tree n u ts)
  pub bytes : (ts : Trees) → size (c ts) ≡ 8 + sizes ts

pub sum_row : IsRow add
sum_row = record { below = λ ts. refl; sets = λ n u ts. refl; bytes = λ ts. refl }

pub product_row : IsRow mult
product_row = record { below = λ ts. refl; sets = λ n u ts. refl; bytes = λ ts. refl }

-- the first children are rewritten, and nothing else
pub record IsPart (c : Trees → Tree) (f : Tree → Tree) (i n : ℕ) (ts : Trees) (old new : Forest) : Type 0 where
  pub row : IsRow c
  pub now : ChangesTree i (c (mapped_first f n ts)) old new

pub none_done : {c : Trees → Tree} {i : ℕ} {ts : Trees} {f : Forest} (g : Tree → Tree) → IsRow c → IsHanded i f → plain (root_tree i f) ≡ c ts → IsPart c g i 0 ts f f
none_done g r h e = record { row = r; now = changes_as (changes_none h) e }

-- the next one is among the children, and what is taken out
pub part_within : {c : Trees → Tree} {f : Tree → Tree} {i n : ℕ} {ts : Trees} {old new : Forest} → IsPart c f i n ts old new → n < count ts
    → n < count (children_of (plain (root_tree i new)))
part_within {f = f} {n = n} {ts = ts} p l = omega (arith, l, ap (λ (t : Tree). count (children_of t)) p.now.tree, ap count (p.row.below (mapped_first f n ts)), count_first f n ts)

pub part_nth : {c : Trees → Tree} {f : Tree → Tree} {i n : ℕ} {ts : Trees} {old mid : Forest} → IsPart c f i n ts old mid → nth n (children_of (plain (root_tree i mid))) ≡ nth n ts
part_nth {f = f} {n = n} {ts = ts} p = ap (λ (t : Tree). nth n (children_of t)) p.now.tree ∙ ap (nth n) (p.row.below (mapped_first f n ts)) ∙ nth_first f n ts

pub part_told : {c : Trees → Tree} {f : Tree → Tree} {i j n : ℕ} {ts : Trees} {old mid others new : Forest} → IsPart c f i n ts old mid
    → Gives others new j (λ t. t ≡ nth n (children_of (plain (root_tree i mid)))) → plain (root_tree j new) ≡ nth n ts
part_told p g = given_told g ∙ part_nth p

-- one more is rewritten, and all are
pub part_next : {c : Trees → Tree} {f : Tree → Tree} {i n : ℕ} {ts : Trees} {v : Tree} {old mid new : Forest} → IsPart c f i n ts old mid
    → ChangesTree i (set_child n v (plain (root_tree i mid))) mid new → v ≡ f (nth n ts) → n < count ts → IsPart c f i (n + 1) ts old new
part_next {c = c} {f = f} {n = n} {ts = ts} {v = v} p a e l =
    let at : n + 1 ≡ suc n = omega arith in
    let words : set_tree n v (mapped_first f n ts) ≡ mapped_first f (n + 1) ts =
    ap (λ (u : Tree). set_tree n u (mapped_first f n ts)) e ∙ set_first f n ts l ∙ ap (λ (m : ℕ). mapped_first f m ts) (sym at) in
    record { row = p.row; now = changes_after p.now (changes_as a (ap (set_child n v) p.now.tree ∙ p.row.sets n v (mapped_first f n ts) ∙ ap c words)) }

pub part_all : {c : Trees → Tree} {f : Tree → Tree} {i n : ℕ} {ts : Trees} {old new : Forest} → IsPart c f i n ts old new → count ts ≤ n → ChangesTree i (c (mapped f ts)) old new
part_all {c = c} {f = f} {n = n} {ts = ts} p l = changes_as p.now (ap c (all_first f n ts l))

-- the bytes of the children are as many as before, but for those that are used or set free
pub part_free : {c : Trees → Tree} {f : Tree → Tree} {i n : ℕ} {ts : Trees} {s u : State} → Stands s → Stands u → KeepsRefusals s u → IsHanded i (forest s) → tree_of i s ≡ c ts
    → IsPart c f i n ts (forest s) (forest u) → (x : IsNext f n ts) → free_of u + sizes (append (mapped f x.done) (more x.t x.rest)) ≡ free_of s + sizes (append x.done (more x.t x.rest))
part_free {f = f} {n = n} {ts = ts} st su k h e p x =
    omega (arith, changes_free st su k h p.now, ap size e, p.row.bytes ts, p.row.bytes (mapped_first f n ts), ap sizes x.first, ap sizes x.split)
