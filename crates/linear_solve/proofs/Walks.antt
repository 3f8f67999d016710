-- The rows of a node's children, one after another, and the checks between.
use Rattle.std.proofs.Common.{◌≡◌, ◌<◌, ◌≤◌, ℕ, zero, suc, ◌+◌, true, false, List, [], ◌∷◌, ◌++◌, length, map, take, Result, Ok, Err, refl, sym, ap, ◌∙◌, subst, arith, IfErr, IsErrAnd}
use Rattle.linear_solve.proofs.Shared.{err_from_is_err_and, Overflow, and_parts, get_or-map, get_or_at, length-append, length-map, length_push, CalmChecks-append, CalmChecks, State, no_zero}
use Rattle.linear_solve.proofs.Shared.{zero_test, Kind, Fraction, negative, is_zero_fraction, zero_fraction, Tree, undef, neg, Trees, none, more, count, root_kind, SolveFault, OfOverflow, StopsAfter}
use Rattle.linear_solve.proofs.Shared.{Misfit, and_then, each, are_linear, is_divisor, is_linear, is_nonzero, entry, negated, Names, Side, bare_row, constant_of, constant_row, joined_from, joined_row}
use Rattle.linear_solve.proofs.{Shared.{joined_rows, own_row, row_of, rows_of, signed_row, children_of, nth, trips_more, trips_within_after}, Arithmetic.{negative_twice, negative_zero}}
use Rattle.linear_solve.proofs.{Calculations.{each_all, each_more, each_stops, ok_is, then_err, then_ok}, LinearNodes.{divisor_linear}, TreeLists.{get_or-listed, length-listed, listed}}
use Rattle.linear_solve.specs.declared.fault.SolveFault.TheVariants as fault
use Rattle.calc_terms.specs.declared.kind.Kind.TheVariants as kind

-- ---- a tree's row by those of its children

pub rows_listed : (xs : Names) (ts : Trees) → rows_of xs ts ≡ each (row_of xs) (listed ts)
rows_listed xs none = refl
rows_listed xs (more t ts) = ap (λ z. and_then (row_of xs t) (λ r. and_then z (λ rs. Ok (r ∷ rs)))) (rows_listed xs ts)

one_row : {B : Type 0} (r : Result Side Misfit) (g : List Side → Result B Misfit) → and_then r (λ x. g (x ∷ [])) ≡ and_then (and_then r (λ y. Ok (y ∷ []))) g
one_row r g = grind arith

two_rows : {B : Type 0} (r s : Result Side Misfit) (g : List Side → Result B Misfit)
    → and_then r (λ x. and_then s (λ y. g (x ∷ y ∷ []))) ≡ and_then (and_then r (λ y. and_then (and_then s (λ z. Ok (z ∷ []))) (λ ys. Ok (y ∷ ys)))) g
two_rows r s g = grind arith

pub by_children : (xs : Names) (t : Tree) → row_of xs t ≡ and_then (each (row_of xs) (listed (children_of t))) (λ rs. own_row xs t rs)
by_children xs t = grind (arith, rows_listed, two_rows, one_row)

-- ---- rows joined so far

joined_push : (join : Side → Side → Result Side Misfit) (r : Side) (rs : List Side) (s : Side) → joined_rows join r (rs ++ s ∷ []) ≡ and_then (joined_rows join r rs) (λ t. join t s)
joined_push join r [] s = grind arith
joined_push join r (u ∷ rs) s = by (join r u) (λ t. joined_push join t rs s)
  where
    by : (x : Result Side Misfit) → ((t : Side) → joined_rows join t (rs ++ s ∷ []) ≡ and_then (joined_rows join t rs) (λ t. join t s))
        → and_then x (λ t. joined_rows join t (rs ++ s ∷ [])) ≡ and_then (and_then x (λ t. joined_rows join t rs)) (λ t. join t s)
    by (Ok t) go = go t
    by (Err m) go = refl

-- the rows of the first children, joined
pub record AreMade (xs : Names) (k : Kind) (t : Tree) (at : ℕ) (row : Result Side Misfit) : Type 0 where
  pub rows : List Side
  pub made : each (row_of xs) (take at (listed (children_of t))) ≡ Ok rows
  pub long : length rows ≡ at
  pub joined : row ≡ joined_from (joined_row (length xs) k) (bare_row xs t) rows

pub none_made : (xs : Names) (k : Kind) (t : Tree) (bare : Side) → bare ≡ bare_row xs t → AreMade xs k t 0 (Ok bare)
none_made xs k t bare e = record { rows = []; made = refl; long = refl; joined = ap Ok e }

pub next_made : (xs : Names) (k : Kind) (t : Tree) (at n : ℕ) (row new : Result Side Misfit) (s : Side) → n ≡ length xs → at < count (children_of t) → AreMade xs k t at row
    → row_of xs (nth at (children_of t)) ≡ Ok s
    → (at ≡ 0 → new ≡ and_then row (λ so_far. Ok s)) → (0 < at → new ≡ and_then row (λ so_far. joined_row n k so_far s)) → AreMade xs k t (at + 1) new
next_made xs k t at n row new s en l h e first later = record {
  rows = h.rows ++ s ∷ [];
  made = each_more (row_of xs) (listed (children_of t)) at undef h.rows s (omega (arith, length-listed (children_of t))) h.made (ap (row_of xs) (get_or-listed (children_of t) at) ∙ e);
  long = length_push h.rows s ∙ ap (λ m. m + 1) h.long;
  joined = by h.rows h.long h.joined;
}
  where
    by : (rs : List Side) → length rs ≡ at → row ≡ joined_from (joined_row (length xs) k) (bare_row xs t) rs → new ≡ joined_from (joined_row (length xs) k) (bare_row xs t) (rs ++ s ∷ [])
    by [] m j = first (sym m) ∙ ap (λ z. and_then z (λ so_far. Ok s)) j
    by (r ∷ rs) m j = later (omega (arith, m)) ∙ ap (λ z. and_then z (λ so_far. joined_row n k so_far s)) j ∙ ap
        (λ m. and_then (joined_rows (joined_row (length xs) k) r rs) (λ so_far. joined_row m k so_far s)) en ∙ sym (joined_push (joined_row (length xs) k) r rs s)

-- the row of a child does not fit
pub child_misfit : (xs : Names) (k : Kind) (t : Tree) (at : ℕ) (row : Result Side Misfit) (m : Misfit) → at < count (children_of t) → AreMade xs k t at row
    → row_of xs (nth at (children_of t)) ≡ Err m → row_of xs t ≡ Err m
child_misfit xs k t at row m l h e =
    by_children xs t ∙ then_err _ _ m
    (each_stops (row_of xs) (listed (children_of t)) at undef h.rows m (omega (arith, length-listed (children_of t))) h.made (ap (row_of xs) (get_or-listed (children_of t) at) ∙ e))

-- all rows are made
all_made : (xs : Names) (k : Kind) (t : Tree) (at : ℕ) (row : Result Side Misfit) → k ≡ root_kind t → count (children_of t) ≤ at → AreMade xs k t at row
    → row_of xs t ≡ and_then row (λ r. Ok (signed_row (root_kind t) r))
all_made xs k t at row ek l h =
    by_children xs t ∙ then_ok _ _ h.rows (each_all (row_of xs) (listed (children_of t)) at (Ok h.rows) (omega (arith, length-listed (children_of t))) h.made)
    ∙ ap (λ z. and_then z (λ r. Ok (signed_row (root_kind t) r))) (ap (λ j. joined_from (joined_row (length xs) j) (bare_row xs t) h.rows) (sym ek) ∙ sym h.joined)

pub own_misfit : (xs : Names) (k : Kind) (t : Tree) (at : ℕ) (row : Result Side Misfit) (m : Misfit) → k ≡ root_kind t → count (children_of t) ≤ at → AreMade xs k t at row
    → row ≡ Err m → row_of xs t ≡ Err m
own_misfit xs k t at row m ek l h e = all_made xs k t at row ek l h ∙ then_err _ _ m e

pub own_made : (xs : Names) (k : Kind) (t : Tree) (at : ℕ) (row : Result Side Misfit) (r s : Side) → k ≡ root_kind t → count (children_of t) ≤ at → AreMade xs k t at row
    → row ≡ Ok r → s ≡ signed_row k r → row_of xs t ≡ Ok s
own_made xs k t at row r s ek l h e f = all_made xs k t at row ek l h ∙ then_ok _ _ r e ∙ ap Ok (ap (λ j. signed_row j r) (sym ek) ∙ sym f)

-- ---- children of linear trees

linear_in : (ts : Trees) (i : ℕ) → are_linear ts ≡ true → i < count ts → is_linear (nth i ts) ≡ true
linear_in none i h l = absurd (omega arith)
linear_in (more t ts) zero h l = (and_parts (is_linear t) (are_linear ts) h).0
linear_in (more t ts) (suc i) h l = linear_in ts i (and_parts (is_linear t) (are_linear ts) h).1 (omega arith)

pub child_linear : (t : Tree) (i : ℕ) → is_linear t ≡ true → i < count (children_of t) → is_linear (nth i (children_of t)) ≡ true
child_linear t i h l = grind (arith, linear_in, divisor_linear)

-- the constant of a divisor is not 0
constant_entry : (xs : Names) (q : Fraction) → constant_of (length xs) (constant_row xs q) ≡ q
constant_entry xs q = get_or_at (map (λ (x : List ℕ). zero_fraction) xs) q [] zero_fraction (length xs) (length-map xs _)

opposite_entry : (xs : Names) (q : Fraction) → entry (length xs) (negated (constant_row xs q).entries) ≡ negative q
opposite_entry xs q =
    get_or-map negative (constant_row xs q).entries (length xs) zero_fraction zero_fraction
    (inside (length-append (map (λ (x : List ℕ). zero_fraction) xs) (q ∷ [])) (length-map xs _)) ∙ ap negative (constant_entry xs q)
  where
    inside : length (map (λ (x : List ℕ). zero_fraction) xs ++ q ∷ []) ≡ length (map (λ (x : List ℕ). zero_fraction) xs) + 1
        → length (map (λ (x : List ℕ). zero_fraction) xs) ≡ length xs → length xs < length (map (λ (x : List ℕ). zero_fraction) xs ++ q ∷ [])
    inside a b = omega arith

nonzero_row : (xs : Names) (a : Tree) (r : Side) → is_nonzero a ≡ true → row_of xs a ≡ Ok r → is_zero_fraction (constant_of (length xs) r) ≡ false
nonzero_row xs a r h e = grind (arith, ok_is, constant_entry)

opposite_nonzero : (xs : Names) (a : Tree) (r : Side) → is_nonzero a ≡ true → row_of xs (neg a) ≡ Ok r → is_zero_fraction (constant_of (length xs) r) ≡ false
opposite_nonzero xs a r h e = grind (arith, ok_is, opposite_entry, zero_test, no_zero, negative_twice, negative_zero)

divisor_row : (xs : Names) (c : Tree) (r : Side) → is_divisor c ≡ true → row_of xs c ≡ Ok r → is_zero_fraction (constant_of (length xs) r) ≡ false
divisor_row xs (neg a) r h e = opposite_nonzero xs a r h e
divisor_row xs c r h e = nonzero_row xs c r h e

pub divisor_at : (xs : Names) (t : Tree) (i n : ℕ) (r : Side) → n ≡ length xs → root_kind t ≡ kind.Div → is_linear t ≡ true → 0 < i → i < count (children_of t)
    → row_of xs (nth i (children_of t)) ≡ Ok r → is_zero_fraction (constant_of n r) ≡ false
divisor_at xs t i n r h k l z m e = grind (arith, divisor_row)

-- ---- checks

-- so many calm checks, and then those of another calculation
pub stops_after : (n m most : ℕ) (old between new : List State) (f : SolveFault) → n + m ≤ most → OfOverflow (λ o. n + m ≡ most) f → CalmChecks n old between
    → StopsAfter m between new f → StopsAfter most old new f
stops_after n m most old between new (fault.Overflow o) l e c h = subst (λ k. CalmChecks k old new) e (CalmChecks-append n m old between new c h)
stops_after n m most old between new (fault.Interrupted i) l e c h = trips_more (trips_within_after n m old between new i.by c h) l

pub stops_as : (m most : ℕ) (old new : List State) (f : SolveFault) → m ≤ most → OfOverflow (λ o. m ≡ most) f → StopsAfter m old new f → StopsAfter most old new f
stops_as m most old new (fault.Overflow o) l e h = subst (λ k. CalmChecks k old new) e h
stops_as m most old new (fault.Interrupted i) l e h = trips_more h l

-- ---- faults

pub overflow_as : (f : SolveFault) {P Q : Overflow → Type 0} → ((o : Overflow) → P o → Q o) → OfOverflow P f → OfOverflow Q f
overflow_as f h p = grind arith

pub of_overflow : (f : SolveFault) {P : Type 0} → P → OfOverflow (λ o. P) f
of_overflow f p = grind arith

-- what a `?` hands on
pub handed_on : {A : Type 0} {E : Type 0} (r : Result A E) (e : E) (P : E → Type 0) → IsErrAnd r (λ y. y ≡ e) → P e → IfErr r P
handed_on r e P h p = let (y, q, k) = err_from_is_err_and r h in subst (λ s. IfErr s P) (sym q) (subst P (sym k) p)
