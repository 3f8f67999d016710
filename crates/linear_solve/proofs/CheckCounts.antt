-- The checks up to an operation that does not fit.
use Rattle.linear_solve.proofs.Shared.{◌≡◌, ◌<◌, ◌≤◌, ℕ, zero, suc, ◌+◌, List, [], ◌∷◌, ◌++◌, length, take, drop, get_or, Result, Ok, Err, refl, sym, ap, ◌∙◌, arith, inl, inr, sum_by-cons, sum_by}
use Rattle.linear_solve.proofs.Shared.{State, TripsWithin, enumerate_from, cases_eq, length-enumerate_from, take_more, take_all, drop_more, take-append-drop, Tree, undef, add, mult, power, root, neg}
use Rattle.linear_solve.proofs.Shared.{sub, div, Trees, none, more, count, nodes, nodes_of, Misfit, and_then, each, Rows, difference_of, equation_row, equation_rows, settled, settled_up_to, Equation}
use Rattle.linear_solve.proofs.Shared.{nodes_of_sides, Names, Side, row_of, rows_of, children_of, nth, checks_behind, checks_of_each, equation_checks, name_checks, row_checks, rows_checks}
use Rattle.linear_solve.proofs.{Shared.{side_checks, solving_checks, Row, unit, Kind}, Calculations.{both, each_all, each_cons, each_stops, then_err}, EquationRows.{numbered}}
use Rattle.linear_solve.proofs.{RowLists.{settled_stops}, Theorem.{no_equation}, TreeLists.{get_or-listed, length-listed, listed}, Walks.{AreMade, rows_listed}}

behind_ok : {A : Type 0} (r : Result A Misfit) (f : A → ℕ) (x : A) → r ≡ Ok x → checks_behind r f ≡ f x
behind_ok r f x e = ap (λ s. checks_behind s f) e

behind_err : {A : Type 0} (r : Result A Misfit) (f : A → ℕ) (m : Misfit) → r ≡ Err m → checks_behind r f ≡ 0
behind_err r f m e = ap (λ s. checks_behind s f) e

behind_none : {A : Type 0} (r : Result A Misfit) → checks_behind r (λ x. 0) ≡ 0
behind_none r = grind arith

behind_most : {A : Type 0} (r : Result A Misfit) (f : A → ℕ) (n : ℕ) → ((x : A) → f x ≤ n) → checks_behind r f ≤ n
behind_most (Ok x) f n h = h x
behind_most (Err m) f n h = omega arith

-- ---- those of each of a list

module _ {A B : Type 0} (f : A → Result B Misfit) (checks : A → ℕ) where
  behind_first : (xs : List A) (ys : List B) (zs : List A) → each f xs ≡ Ok ys → checks_of_each f checks (xs ++ zs) ≡ checks_of_each f checks xs + checks_of_each f checks zs
  behind_first [] ys zs e = omega arith
  behind_first (x ∷ xs) ys zs e =
      let (w, ws, p, q, n) = each_cons f x xs ys e in
      let h = behind_first xs ws zs q in
      let all = behind_ok (f x) (λ y. checks_of_each f checks (xs ++ zs)) w p in
      let some = behind_ok (f x) (λ y. checks_of_each f checks xs) w p in
      omega (arith, h, all, some)

  -- the first of a list, so many, and the next one
  pub each_checks_more : (xs : List A) (i : ℕ) (d : A) (ys : List B) → i < length xs → each f (take i xs) ≡ Ok ys
      → checks_of_each f checks (take (i + 1) xs) ≡ checks_of_each f checks (take i xs) + checks (get_or xs i d)
  each_checks_more xs i d ys l e =
      let h = behind_first (take i xs) ys (get_or xs i d ∷ []) e in
      let n = behind_none (f (get_or xs i d)) in
      ap (checks_of_each f checks) (take_more xs i d l) ∙ omega (arith, h, n)

  split_at : (xs : List A) (i : ℕ) (d : A) (ys : List B) → i < length xs → each f (take i xs) ≡ Ok ys
      → checks_of_each f checks xs ≡ checks_of_each f checks (take i xs) + checks_of_each f checks (get_or xs i d ∷ drop (i + 1) xs)
  split_at xs i d ys l e =
      ap (checks_of_each f checks) (sym (take-append-drop i xs) ∙ ap (λ zs. take i xs ++ zs) (drop_more xs i d l)) ∙ behind_first (take i xs) ys (get_or xs i d ∷ drop (i + 1) xs) e

  pub each_checks_within : (xs : List A) (i : ℕ) (d : A) (ys : List B) → i < length xs → each f (take i xs) ≡ Ok ys
      → checks_of_each f checks (take i xs) + checks (get_or xs i d) ≤ checks_of_each f checks xs
  each_checks_within xs i d ys l e = let h = split_at xs i d ys l e in omega (arith, h)

  pub each_checks_stop : (xs : List A) (i : ℕ) (d : A) (ys : List B) (m : Misfit) → i < length xs → each f (take i xs) ≡ Ok ys → f (get_or xs i d) ≡ Err m
      → checks_of_each f checks xs ≡ checks_of_each f checks (take i xs) + checks (get_or xs i d)
  each_checks_stop xs i d ys m l e h =
      let s = split_at xs i d ys l e in
      let n = behind_err (f (get_or xs i d)) (λ y. checks_of_each f checks (drop (i + 1) xs)) m h in
      omega (arith, s, n)

  pub each_checks_all : (xs : List A) (i : ℕ) → length xs ≤ i → checks_of_each f checks (take i xs) ≡ checks_of_each f checks xs
  each_checks_all xs i l = ap (checks_of_each f checks) (take_all i xs l)

  each_checks_sum : (n : A → ℕ) → ((x : A) (y : B) → f x ≡ Ok y → checks x ≡ n x) → (xs : List A) (ys : List B) → each f xs ≡ Ok ys → checks_of_each f checks xs ≡ sum_by n xs
  each_checks_sum n h [] ys e = refl
  each_checks_sum n h (x ∷ xs) ys e =
      let (w, ws, p, q, _) = each_cons f x xs ys e in
      let all = behind_ok (f x) (λ y. checks_of_each f checks xs) w p in
      let r = each_checks_sum n h xs ws q in
      omega (arith, all, r, h x w p, sum_by-cons n x xs)

  each_checks_most : (n : A → ℕ) → ((x : A) → checks x ≤ n x) → (xs : List A) → checks_of_each f checks xs ≤ sum_by n xs
  each_checks_most n h [] = omega arith
  each_checks_most n h (x ∷ xs) = grind (arith, h x, each_checks_most n h xs, sum_by-cons)

-- ---- those of a tree

checks_listed : (xs : Names) (ts : Trees) → rows_checks xs ts ≡ checks_of_each (row_of xs) (row_checks xs) (listed ts)
checks_listed xs none = refl
checks_listed xs (more t ts) = ap (λ n. row_checks xs t + checks_behind (row_of xs t) (λ r. n)) (checks_listed xs ts)

one_child : (r : Result Side Misfit) (n : ℕ) → n + checks_behind r (λ x. 1) ≡ (n + checks_behind r (λ x. 0)) + checks_behind (and_then r (λ x. Ok (x ∷ []))) (λ rs. 1)
one_child r n = grind arith

two_children : (r s : Result Side Misfit) (n k : ℕ) → n + checks_behind r (λ x. k + checks_behind s (λ y. 1))
    ≡ (n + checks_behind r (λ x. k + checks_behind s (λ y. 0))) + checks_behind (and_then r (λ x. and_then (and_then s (λ y. Ok (y ∷ []))) (λ ys. Ok (x ∷ ys)))) (λ rs. 1)
two_children r s n k = grind arith

several : (xs : Names) (ts : Trees)
    → rows_checks xs ts + checks_behind (rows_of xs ts) (λ rs. 1) ≡ checks_of_each (row_of xs) (row_checks xs) (listed ts) + checks_behind (each (row_of xs) (listed ts)) (λ rs. 1)
several xs ts = λ i. checks_listed xs ts i + checks_behind (rows_listed xs ts i) (λ rs. 1)

by_children : (xs : Names) (t : Tree) → row_checks xs t ≡ checks_of_each (row_of xs) (row_checks xs) (listed (children_of t)) + checks_behind (each (row_of xs) (listed (children_of t))) (λ rs. 1)
by_children xs (add ts) = several xs ts
by_children xs (mult ts) = several xs ts
by_children xs (power b e) = two_children (row_of xs b) (row_of xs e) (row_checks xs b) (row_checks xs e)
by_children xs (root a) = one_child (row_of xs a) (row_checks xs a)
by_children xs (neg a) = one_child (row_of xs a) (row_checks xs a)
by_children xs (sub a b) = two_children (row_of xs a) (row_of xs b) (row_checks xs a) (row_checks xs b)
by_children xs (div a b) = two_children (row_of xs a) (row_of xs b) (row_checks xs a) (row_checks xs b)
by_children xs t = refl

-- those of its first children, so many
abbrev pub child_checks : Names → Tree → ℕ → ℕ
child_checks xs t at = checks_of_each (row_of xs) (row_checks xs) (take at (listed (children_of t)))

module _ {xs : Names} {k : Kind} {t : Tree} {at : ℕ} {row : Result Side Misfit} (h : AreMade xs k t at row) where
  within : at < count (children_of t) → at < length (listed (children_of t))
  within l = omega (arith, length-listed (children_of t))

  pub next_child_checks : at < count (children_of t) → child_checks xs t (at + 1) ≡ child_checks xs t at + row_checks xs (nth at (children_of t))
  next_child_checks l =
      each_checks_more (row_of xs) (row_checks xs) (listed (children_of t)) at undef h.rows (within l) h.made ∙ ap (λ u. child_checks xs t at + row_checks xs u) (get_or-listed (children_of t) at)

  pub child_checks_within : at < count (children_of t) → child_checks xs t at + row_checks xs (nth at (children_of t)) ≤ row_checks xs t
  child_checks_within l =
      let w = each_checks_within (row_of xs) (row_checks xs) (listed (children_of t)) at undef h.rows (within l) h.made in
      omega (arith, w, ap (row_checks xs) (get_or-listed (children_of t) at), by_children xs t)

  pub child_checks_stop : (m : Misfit) → at < count (children_of t) → row_of xs (nth at (children_of t)) ≡ Err m → child_checks xs t at + row_checks xs (nth at (children_of t)) ≡ row_checks xs t
  child_checks_stop m l e =
      let there : row_of xs (get_or (listed (children_of t)) at undef) ≡ Err m = ap (row_of xs) (get_or-listed (children_of t) at) ∙ e in
      let s = each_checks_stop (row_of xs) (row_checks xs) (listed (children_of t)) at undef h.rows m (within l) h.made there in
      let none = behind_err (each (row_of xs) (listed (children_of t))) (λ rs. 1) m (each_stops (row_of xs) (listed (children_of t)) at undef h.rows m (within l) h.made there) in
      omega (arith, s, none, ap (row_checks xs) (get_or-listed (children_of t) at), by_children xs t)

  pub own_check : count (children_of t) ≤ at → child_checks xs t at + 1 ≡ row_checks xs t
  own_check l =
      let all : length (listed (children_of t)) ≤ at = omega (arith, length-listed (children_of t)) in
      let c = each_checks_all (row_of xs) (row_checks xs) (listed (children_of t)) at all in
      let one = behind_ok (each (row_of xs) (listed (children_of t))) (λ rs. 1) h.rows (each_all (row_of xs) (listed (children_of t)) at (Ok h.rows) all h.made) in
      omega (arith, c, one, by_children xs t)

-- where its row is made, it has one for each node
mutual
  pub row_checks_all : (xs : Names) (t : Tree) (r : Side) → row_of xs t ≡ Ok r → row_checks xs t ≡ nodes t
  row_checks_all xs (add ts) r e = grind (arith, rows_checks_all xs ts)
  row_checks_all xs (mult ts) r e = grind (arith, rows_checks_all xs ts)
  row_checks_all xs (power a b) r e = grind (arith, row_checks_all xs a, row_checks_all xs b)
  row_checks_all xs (root a) r e = grind (arith, row_checks_all xs a)
  row_checks_all xs (neg a) r e = grind (arith, row_checks_all xs a)
  row_checks_all xs (sub a b) r e = grind (arith, row_checks_all xs a, row_checks_all xs b)
  row_checks_all xs (div a b) r e = grind (arith, row_checks_all xs a, row_checks_all xs b)
  row_checks_all xs t r e = refl

  rows_checks_all : (xs : Names) (ts : Trees) (rs : List Side) → rows_of xs ts ≡ Ok rs → rows_checks xs ts ≡ nodes_of ts
  rows_checks_all xs none rs e = refl
  rows_checks_all xs (more t ts) rs e = grind (arith, row_checks_all xs t, rows_checks_all xs ts)

-- and never more
mutual
  row_checks_most : (xs : Names) (t : Tree) → row_checks xs t ≤ nodes t
  row_checks_most xs (add ts) = grind (arith, rows_checks_most xs ts)
  row_checks_most xs (mult ts) = grind (arith, rows_checks_most xs ts)
  row_checks_most xs (power a b) = grind (arith, row_checks_most xs a, row_checks_most xs b)
  row_checks_most xs (root a) = grind (arith, row_checks_most xs a)
  row_checks_most xs (neg a) = grind (arith, row_checks_most xs a)
  row_checks_most xs (sub a b) = grind (arith, row_checks_most xs a, row_checks_most xs b)
  row_checks_most xs (div a b) = grind (arith, row_checks_most xs a, row_checks_most xs b)
  row_checks_most xs t = omega arith

  rows_checks_most : (xs : Names) (ts : Trees) → rows_checks xs ts ≤ nodes_of ts
  rows_checks_most xs none = omega arith
  rows_checks_most xs (more t ts) = grind (arith, row_checks_most xs t, rows_checks_most xs ts)

-- ---- those of equations

pub both_sides : (xs : Names) (e : Equation) (l : Side) → row_of xs e.left ≡ Ok l → row_checks xs e.left + row_checks xs e.right ≡ side_checks xs e
both_sides xs e l h = ap (λ n. row_checks xs e.left + n) (sym (behind_ok (row_of xs e.left) (λ l. row_checks xs e.right) l h))

pub left_side : (xs : Names) (e : Equation) (m : Misfit) → row_of xs e.left ≡ Err m → row_checks xs e.left ≡ side_checks xs e
left_side xs e m h = let n = behind_err (row_of xs e.left) (λ l. row_checks xs e.right) m h in omega (arith, n)

side_checks_all : (xs : Names) (e : Equation) (d : Row) → difference_of xs e ≡ Ok d → side_checks xs e ≡ nodes e.left + nodes e.right
side_checks_all xs e d h =
    let (l, p, q) = both (row_of xs e.left) _ d h in
    let (r, p', q') = both (row_of xs e.right) _ d q in
    omega (arith, row_checks_all xs e.left l p, row_checks_all xs e.right r p', both_sides xs e l p)

side_checks_most : (xs : Names) (e : Equation) → side_checks xs e ≤ nodes e.left + nodes e.right
side_checks_most xs e = grind (arith, row_checks_most)

sum_numbered : (g : Equation → ℕ) (i : ℕ) (es : List Equation) → sum_by (λ (p : ℕ × Equation). g p.1) (enumerate_from i es) ≡ sum_by g es
sum_numbered g i [] = refl
sum_numbered g i (e ∷ es) = sum_by-cons (λ (p : ℕ × Equation). g p.1) (i, e) (enumerate_from (i + 1) es) ∙ ap (λ n. g e + n) (sum_numbered g (i + 1) es) ∙ sym (sum_by-cons g e es)

abbrev sides_of : Equation → ℕ
sides_of e = nodes e.left + nodes e.right

module _ (xs : Names) (es : List Equation) where
  abbrev row_at_place : ℕ × Equation → Result Row Misfit
  row_at_place p = equation_row xs (length es) p.0 p.1

  abbrev checks_at_place : ℕ × Equation → ℕ
  checks_at_place p = side_checks xs p.1

  -- those of the first equations, so many
  abbrev pub first_checks : ℕ → ℕ
  first_checks i = checks_of_each (λ (p : ℕ × Equation). equation_row xs (length es) p.0 p.1) (λ (p : ℕ × Equation). side_checks xs p.1) (take i (enumerate_from 0 es))

  module _ (i : ℕ) (e : Equation) (rows : List Row) (l : i < length es) (here : get_or es i no_equation ≡ e)
      (made : each (λ (p : ℕ × Equation). equation_row xs (length es) p.0 p.1) (take i (enumerate_from 0 es)) ≡ Ok rows) where
    inside : i < length (enumerate_from 0 es)
    inside = omega (arith, length-enumerate_from 0 es)

    pub next_side_checks : first_checks (i + 1) ≡ first_checks i + side_checks xs e
    next_side_checks = each_checks_more row_at_place checks_at_place (enumerate_from 0 es) i (0, no_equation) rows inside made ∙ ap (λ p. first_checks i + checks_at_place p)
        (numbered xs es i e l here)

    pub side_checks_within : first_checks i + side_checks xs e ≤ equation_checks xs es
    side_checks_within =
        let w = each_checks_within row_at_place checks_at_place (enumerate_from 0 es) i (0, no_equation) rows inside made in
        omega (arith, w, ap checks_at_place (numbered xs es i e l here))

    pub side_checks_stop : (m : Misfit) → difference_of xs e ≡ Err m → first_checks i + side_checks xs e ≡ equation_checks xs es
    side_checks_stop m h =
        let there : row_at_place (get_or (enumerate_from 0 es) i (0, no_equation)) ≡ Err m = ap row_at_place (numbered xs es i e l here) ∙ then_err (difference_of xs e)
        (λ d. Ok (d ++ unit (length es) i)) m h in
        let s = each_checks_stop row_at_place checks_at_place (enumerate_from 0 es) i (0, no_equation) rows m inside made there in
        omega (arith, s, ap checks_at_place (numbered xs es i e l here))

  pub all_side_checks : (i : ℕ) → length es ≤ i → first_checks i ≡ equation_checks xs es
  all_side_checks i l = each_checks_all row_at_place checks_at_place (enumerate_from 0 es) i (omega (arith, length-enumerate_from 0 es))

  pub equation_checks_all : (rows : List Row) → equation_rows xs es ≡ Ok rows → equation_checks xs es ≡ nodes_of_sides es
  equation_checks_all rows e =
      each_checks_sum row_at_place checks_at_place (λ (p : ℕ × Equation). sides_of p.1) (λ p r h. let (d, q, _) = both (difference_of xs p.1) _ r h in side_checks_all xs p.1 d q)
      (enumerate_from 0 es) rows e ∙ sum_numbered sides_of 0 es

  equation_checks_most : equation_checks xs es ≤ nodes_of_sides es
  equation_checks_most =
      let m = each_checks_most row_at_place checks_at_place (λ (p : ℕ × Equation). sides_of p.1) (λ p. side_checks_most xs p.1) (enumerate_from 0 es) in
      omega (arith, m, sum_numbered sides_of 0 es)

-- ---- those of names

pub name_checks_all : (n : ℕ) (s t : Rows) → settled_up_to n s ≡ Ok t → name_checks n s ≡ n
name_checks_all zero s t e = refl
name_checks_all (suc n) s t e = grind (arith, name_checks_all n s)

name_checks_most : (n : ℕ) (s : Rows) → name_checks n s ≤ n
name_checks_most zero s = omega arith
name_checks_most (suc n) s = grind (arith, name_checks_most n s)

pub name_checks_within : (k n : ℕ) (s t : Rows) → settled_up_to n s ≡ Ok t → n < k → n < name_checks k s
name_checks_within zero n s t e l = absurd (omega arith)
name_checks_within (suc k) n s t e l = elim (cases_eq k n) [
  | inl same ↦
      let here : settled_up_to k s ≡ Ok t = ap (λ j. settled_up_to j s) same ∙ e in
      omega (arith, same, name_checks_all k s t here, behind_ok (settled_up_to k s) (λ t. 1) t here)
  | inr apart ↦ let h = name_checks_within k n s t e (omega arith) in omega (arith, h)
]

pub name_checks_stop : (k n : ℕ) (s t : Rows) (m : Misfit) → settled_up_to n s ≡ Ok t → settled n t ≡ Err m → n < k → name_checks k s ≡ n + 1
name_checks_stop zero n s t m e h l = absurd (omega arith)
name_checks_stop (suc k) n s t m e h l = elim (cases_eq k n) [
  | inl same ↦
      let here : settled_up_to k s ≡ Ok t = ap (λ j. settled_up_to j s) same ∙ e in
      omega (arith, same, name_checks_all k s t here, behind_ok (settled_up_to k s) (λ t. 1) t here)
  | inr apart ↦
      let before : n < k = omega arith in
      let r = name_checks_stop k n s t m e h before in
      omega (arith, r, behind_err (settled_up_to k s) (λ t. 1) m (settled_stops k n s t m e h before))
]

-- ---- those of the whole calculation

abbrev start : List Row → Rows
start rows = record { pivots = []; left = rows }

pub rows_stop : (xs : Names) (es : List Equation) (m : Misfit) → equation_rows xs es ≡ Err m → equation_checks xs es ≡ solving_checks xs es
unfolding solving_checks
rows_stop xs es m e = let n = behind_err (equation_rows xs es) (λ rows. name_checks (length xs) (start rows)) m e in omega (arith, n)

pub rows_within : (xs : Names) (es : List Equation) → equation_checks xs es ≤ solving_checks xs es
unfolding solving_checks
rows_within xs es = omega arith

pub names_behind : (xs : Names) (es : List Equation) (n : ℕ) (rows : List Row) (s : Rows) → n ≡ length xs → equation_rows xs es ≡ Ok rows → s ≡ start rows
    → equation_checks xs es + name_checks n s ≡ solving_checks xs es
unfolding solving_checks
names_behind xs es n rows s h e k =
    (λ i. equation_checks xs es + name_checks (h i) (k i)) ∙ ap (λ n. equation_checks xs es + n) (sym (behind_ok (equation_rows xs es) (λ rows. name_checks (length xs) (start rows)) rows e))

-- at most one for each node of the sides and each name
pub solving_checks_most : (xs : Names) (es : List Equation) → solving_checks xs es ≤ nodes_of_sides es + length xs
unfolding solving_checks
solving_checks_most xs es =
    omega (arith, equation_checks_most xs es, behind_most (equation_rows xs es) (λ rows. name_checks (length xs) (start rows)) (length xs) (λ rows. name_checks_most (length xs) (start rows)))

pub trips_among_all : (xs : Names) (es : List Equation) {before after : List State} {by : ℕ} → TripsWithin (solving_checks xs es) before after by
    → TripsWithin (nodes_of_sides es + length xs) before after by
trips_among_all xs es h = record { passed = h.passed; few = omega (arith, h.few, solving_checks_most xs es); between = h.between; calm = h.calm; trips = h.trips }
