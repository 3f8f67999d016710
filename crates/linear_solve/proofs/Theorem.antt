-- Forms and multipliers say which assignments solve the equations.
use Rattle.linear_solve.proofs.Shared.{◌≡◌, ◌≢◌, ◌<◌, inl, inr, ℕ, zero, suc, ◌+◌, List, [], ◌∷◌, ◌++◌, length, drop, get_or, map, Option, Some, None, Ok, refl, sym, ap, ◌∙◌, subst, arith}
use Rattle.linear_solve.proofs.Shared.{append_assoc, zero-add, ◌↔◌, length-drop, All, Contains, ◌==◌, zip, AllZip, enumerate_from, range_with_len, cases_eq, cases_lt, eq-eqb, ne_eqb, length-map}
use Rattle.linear_solve.proofs.Shared.{get_or-map, get_or_past, All-from_get_or, All-get_or, length-enumerate_from, get_or-enumerate_from, length-map-range_with_len, get_or-map-range_with_len}
use Rattle.linear_solve.proofs.Shared.{AllZip-long, length-zip, get_or-zip, Assignment, Binding, Gives, IsAssignment, Means, bound_names, surd_of, inverse_times_itself, negative_times}
use Rattle.linear_solve.proofs.Shared.{same_from_difference, one_meaning, surd_of_one, Same-Agree, Agree-sym, Agree-trans, Same-refl, one_times, zero_times, zero_plus, plus_negative, Fraction, plus}
use Rattle.linear_solve.proofs.Shared.{times, negative, inverse, zero_fraction, one_fraction, plus_comm, plus_assoc, undef, Rows, difference_of, equation_row, equation_rows, first_with, row_at}
use Rattle.linear_solve.proofs.Shared.{settled_up_to, unit, AreDistinct, Assigns, Equation, IsLinearIn, Solves, SolvesAll, and_then, Answer, never, solved, Form, free, HasItsValue, HaveTheirValues}
use Rattle.linear_solve.proofs.Shared.{HoldLaterFreeNames, answer_of, differences, form_of, forms_of, IsFree, multiple_in, multipliers, Row, added, entry, negated, worth, Side, row_of, solving}
use Rattle.linear_solve.proofs.{Shared.{plus_both, times_one, plus_zero}, Arithmetic.{negative_is, negative_plus, negative_zero, negative_twice, negative_plus_self, opposite_is, times_negative}}
use Rattle.linear_solve.proofs.{Calculations.{both, each_at, each_long, ok_is}, RowLists.{form_at, forms_long}, Meanings.{long_values, one_rational_meaning, row_means}, Steps.{AreZero, HasName}}
use Rattle.linear_solve.proofs.{Steps.{IsSettled, IsStep, first_has, none_has, pivot_at, settled_all, some_within}, Worths.{added_is, drop-nil, length-unit, negated_is, scaled_is, worth-append}}
use Rattle.linear_solve.proofs.Worths.{worth-nil, worth_behind, worth_constant, worth_negated, worth_unit}
use Rattle.std.proofs.Common.{length-append}
use Rattle.std.specs.Prelude.{if◌then◌else◌}

-- ---- identities

-- where w + k is 0, v is -k + (v - w)
put_back : (w k v : Fraction) → plus w k ≡ zero_fraction → plus (negative k) (plus v (negative w)) ≡ v
put_back w k v z =
    let m : negative k ≡ w = sym (opposite_is k w (plus_comm k w ∙ z)) in
    ap (λ x. plus x (plus v (negative w))) m ∙ sym (plus_assoc w v (negative w)) ∙ ap (λ x. plus x (negative w)) (plus_comm w v) ∙ plus_assoc v w (negative w) ∙ ap (plus v)
    (plus_negative w) ∙ plus_zero v

unchanged : (v x : Fraction) → plus v x ≡ v → x ≡ zero_fraction
unchanged v x e = sym (zero_plus x) ∙ ap (λ y. plus y x) (sym (negative_plus_self v)) ∙ plus_assoc (negative v) v x ∙ ap (plus (negative v)) e ∙ negative_plus_self v

-- and back
taken_out : (w k v : Fraction) → v ≡ plus (negative k) (plus v (negative w)) → plus w k ≡ zero_fraction
taken_out w k v e =
    let x : Fraction = plus (negative k) (negative w) in
    let y : plus v (plus (negative k) (negative w)) ≡ v = sym (plus_assoc v (negative k) (negative w)) ∙ ap (λ z. plus z (negative w)) (plus_comm v (negative k)) ∙ plus_assoc
    (negative k) v (negative w) ∙ sym e in
    let z : plus (negative k) (negative w) ≡ zero_fraction = unchanged v (plus (negative k) (negative w)) y in
    let m : w ≡ negative k = sym (negative_twice w) ∙ ap negative (opposite_is (negative k) (negative w) z ∙ negative_twice k) in
    ap (λ y. plus y k) m ∙ negative_plus_self k

all_zip_from : {A B : Type 0} (R : A → B → Type 0) (xs : List A) (ys : List B) (d : A) (e : B) → length xs ≡ length ys → ((k : ℕ) → k < length xs → R (get_or xs k d) (get_or ys k e)) → AllZip R xs ys
all_zip_from R [] [] d e l h = tt
all_zip_from R [] (y ∷ ys) d e l h = absurd (omega arith)
all_zip_from R (x ∷ xs) [] d e l h = absurd (omega arith)
all_zip_from R (x ∷ xs) (y ∷ ys) d e l h = (h 0 (omega arith), all_zip_from R xs ys d e (omega arith) (λ k b. h (suc k) (omega arith)))

zipped_at : {A B : Type 0} (R : A → B → Type 0) (xs : List A) (ys : List B) (k : ℕ) (d : A) (e : B) → AllZip R xs ys → k < length xs → R (get_or xs k d) (get_or ys k e)
zipped_at R [] ys k d e h l = absurd (omega arith)
zipped_at R (x ∷ xs) [] k d e h l = absurd h
zipped_at R (x ∷ xs) (y ∷ ys) zero d e h l = h.0
zipped_at R (x ∷ xs) (y ∷ ys) (suc k) d e h l = zipped_at R xs ys k d e h.1 (omega arith)

-- ---- the multiples of a form

abbrev multiple_of : Row → ℕ → ℕ → Fraction
multiple_of r c j = if j == c then zero_fraction else negative (entry j r)

rest_worth : (a : ℕ) (r : Row) (v : Fraction) (vs : List Fraction) → worth (drop a r) (v ∷ vs) ≡ plus (times (entry a r) v) (worth (drop (a + 1) r) vs)
rest_worth zero [] v vs = sym (plus_zero (times zero_fraction v) ∙ zero_times v)
rest_worth zero (e ∷ r) v vs = refl
rest_worth (suc a) [] v vs = sym (ap (λ r. plus (times zero_fraction v) (worth r vs)) (drop-nil (suc a + 1)) ∙ plus_zero (times zero_fraction v) ∙ zero_times v)
rest_worth (suc a) (e ∷ r) v vs =
    let next : suc (a + 1) ≡ suc a + 1 = omega arith in
    rest_worth a r v vs ∙ ap (λ n. plus (times (entry a r) v) (worth (drop n (e ∷ r)) vs)) next

-- behind the name itself
behind_worth : (r : Row) (c a n : ℕ) (vs : List Fraction) → c < a → worth (map (multiple_of r c) (range_with_len a (length vs))) vs ≡ negative (worth (drop a r) vs)
behind_worth r c a n [] l = sym (ap negative (worth-nil (drop a r)) ∙ negative_zero)
behind_worth r c a n (v ∷ vs) l =
    plus_both (ap (λ b. times (if b then zero_fraction else negative (entry a r)) v) (ne_eqb a c (λ q. absurd (omega arith))) ∙ negative_times (entry a r) v)
    (behind_worth r c (a + 1) n vs (omega arith))
    ∙ sym (negative_plus (times (entry a r) v) (worth (drop (a + 1) r) vs)) ∙ ap negative (sym (rest_worth a r v vs))

from_worth : (r : Row) (c a i : ℕ) (vs : List Fraction) → entry c r ≡ one_fraction → a + i ≡ c → i < length vs
    → worth (map (multiple_of r c) (range_with_len a (length vs))) vs ≡ plus (get_or vs i zero_fraction) (negative (worth (drop a r) vs))
from_worth r c a i [] one e l = absurd (omega arith)
from_worth r c a zero (v ∷ vs) one e l =
    let here : a ≡ c = omega arith in
    let w : Fraction = worth (drop (a + 1) r) vs in
    let e1 : times (entry a r) v ≡ v = ap (λ j. times (entry j r) v) here ∙ ap (λ x. times x v) one ∙ one_times v in
    plus_both (ap (λ b. times (if b then zero_fraction else negative (entry a r)) v) (eq-eqb a c here) ∙ zero_times v) (behind_worth r c (a + 1) 0 vs (omega arith))
    ∙ zero_plus (negative w)
    ∙ sym (ap (λ x. plus v (negative x)) (rest_worth a r v vs) ∙ ap (plus v) (negative_plus (times (entry a r) v) w) ∙ sym (plus_assoc v (negative (times (entry a r) v)) (negative w)) ∙ ap (λ x. plus (plus v (negative x)) (negative w)) e1 ∙ ap (λ x. plus x (negative w)) (plus_negative v) ∙ zero_plus (negative w))
from_worth r c a (suc i) (v ∷ vs) one e l =
    let w : Fraction = worth (drop (a + 1) r) vs in
    let g : Fraction = get_or vs i zero_fraction in
    let x : Fraction = negative (times (entry a r) v) in
    plus_both (ap (λ b. times (if b then zero_fraction else negative (entry a r)) v) (ne_eqb a c (λ q. absurd (omega arith))) ∙ negative_times (entry a r) v)
    (from_worth r c (a + 1) i vs one (omega arith) (omega arith))
    ∙ sym (plus_assoc x g (negative w)) ∙ ap (λ y. plus y (negative w)) (plus_comm x g) ∙ plus_assoc g x (negative w)
    ∙ ap (plus g) (sym (negative_plus (times (entry a r) v) w) ∙ ap negative (sym (rest_worth a r v vs)))

multiples_worth : (r : Row) (c : ℕ) (vs : List Fraction) (n : ℕ) → entry c r ≡ one_fraction → c < n → length vs ≡ n
    → worth (map (multiple_of r c) (range_with_len 0 n)) vs ≡ plus (get_or vs c zero_fraction) (negative (worth r vs))
multiples_worth r c vs n one l e = ap (λ m. worth (map (multiple_of r c) (range_with_len 0 m)) vs) (sym e) ∙ from_worth r c 0 c vs one (zero-add c) (omega arith)

-- ---- an assignment for the names

zero_values : List (List ℕ) → List Fraction
zero_values xs = map (λ x. zero_fraction) xs

abbrev zero_binding : List ℕ → Binding
zero_binding x = record { name = x; value = zero_fraction }

zero_assignment : List (List ℕ) → Assignment
zero_assignment xs = map zero_binding xs

zero_once : (xs : List (List ℕ)) → AreDistinct xs → IsAssignment (zero_assignment xs)
unfolding zero_assignment
zero_once [] d = tt
zero_once (x ∷ xs) d = (subst (λ ns. ¬ (Contains ns x)) (sym (bound xs)) d.0, zero_once xs d.1)
  where
    bound : (xs : List (List ℕ)) → bound_names (zero_assignment xs) ≡ xs
    bound [] = refl
    bound (y ∷ ys) = ap (λ zs. y ∷ zs) (bound ys)

zero_gives : (xs : List (List ℕ)) → Assigns (zero_assignment xs) xs (zero_values xs)
unfolding zero_assignment zero_values
zero_gives xs = each (map zero_binding xs) xs (λ x (k, l, e). (k, omega (arith, length-map xs zero_binding), get_or-map zero_binding xs k x (zero_binding x) l ∙ ap zero_binding e))
  where
    each : (f : Assignment) (ys : List (List ℕ)) → ((x : List ℕ) → Contains ys x → Gives f x zero_fraction) → AllZip (λ x v. Gives f x v) ys (map (λ y. zero_fraction) ys)
    each f [] h = tt
    each f (y ∷ ys) h = (h y (0, omega arith, refl), each f ys (λ x (k, l, e). h x (suc k, omega arith, e)))

-- ---- the row of an equation

abbrev pub no_equation : Equation
no_equation = record { left = undef; right = undef }

-- left minus right, where the names have values
pub record IsDifference (f : Assignment) (n : ℕ) (vs : List Fraction) (e : Equation) (d : Row) : Type 0 where
  pub long : length d ≡ suc n
  left : Fraction
  right : Fraction
  left_means : Means e.left f (surd_of left)
  right_means : Means e.right f (surd_of right)
  value : worth d (vs ++ one_fraction ∷ []) ≡ plus left (negative right)

-- with an entry for each equation behind it
record IsEquationRow (f : Assignment) (n : ℕ) (vs : List Fraction) (count at : ℕ) (e : Equation) (row : Row) : Type 0 where
  difference : Row
  is : row ≡ difference ++ unit count at
  says : IsDifference f n vs e difference

module _ (f : Assignment) (once : IsAssignment f) (xs : List (List ℕ)) (vs : List Fraction) (distinct : AreDistinct xs) (gives : Assigns f xs vs) where
  values_long : length vs ≡ length xs
  values_long = long_values f xs vs gives

  difference_is : (e : Equation) (l r : Side) (d : Row) → IsLinearIn xs e → row_of xs e.left ≡ Ok l → row_of xs e.right ≡ Ok r → added l.entries (negated r.entries) ≡ Ok d
      → IsDifference f (length xs) vs e d
  difference_is e l r d h p q m =
      let a = row_means f once xs vs distinct gives e.left h.left h.left_names l p in
      let b = row_means f once xs vs distinct gives e.right h.right h.right_names r q in
      let o = negated_is r.entries in
      let c = added_is l.entries (negated r.entries) d (a.row.long ∙ sym b.row.long ∙ sym o.long) m in
      record {
        long = c.long ∙ a.row.long;
        left = a.value;
        right = b.value;
        left_means = a.means;
        right_means = b.means;
        value = c.value (vs ++ one_fraction ∷ []) ∙ plus_both a.row.value (one_times (worth (negated r.entries) (vs ++ one_fraction ∷ [])) ∙ o.value (vs ++ one_fraction ∷ []) ∙ sym (negative_is (worth r.entries (vs ++ one_fraction ∷ []))) ∙ ap negative b.row.value);
      }

  pub difference_says : (e : Equation) (d : Row) → IsLinearIn xs e → difference_of xs e ≡ Ok d → IsDifference f (length xs) vs e d
  difference_says e d h m =
      let (l, p, m1) = both (row_of xs e.left) (λ l. and_then (row_of xs e.right) (λ r. added l.entries (negated r.entries))) d m in
      let (r, q, m2) = both (row_of xs e.right) (λ r. added l.entries (negated r.entries)) d m1 in
      difference_is e l r d h p q m2

  equation_row_is : (count at : ℕ) (e : Equation) (row : Row) → IsLinearIn xs e → equation_row xs count at e ≡ Ok row → IsEquationRow f (length xs) vs count at e row
  equation_row_is count at e row h m =
      let (d, o, m1) = both (difference_of xs e) (λ d. Ok (d ++ unit count at)) row m in
      record { difference = d; is = sym (ok_is _ _ m1); says = difference_says e d h o }

  -- its worth, with values for the equations
  equation_worth : (count at : ℕ) (e : Equation) (row : Row) (us : List Fraction) (h : IsEquationRow f (length xs) vs count at e row)
      → worth row (vs ++ one_fraction ∷ us) ≡ plus (plus h.says.left (negative h.says.right)) (worth (unit count at) us)
  equation_worth count at e row us h =
      ap (λ r. worth r (vs ++ one_fraction ∷ us)) h.is
      ∙ ap (worth (h.difference ++ unit count at)) (sym (append_assoc vs (one_fraction ∷ []) us))
      ∙ worth-append h.difference (unit count at) (vs ++ one_fraction ∷ []) us (h.says.long ∙ sym (length-append vs (one_fraction ∷ []) ∙ long))
      ∙ ap (λ x. plus x (worth (unit count at) us)) h.says.value
    where
      long : length vs + 1 ≡ suc (length xs)
      long = omega (arith, values_long)

  solves_zero : (n : ℕ) (e : Equation) (d : Row) → (h : IsDifference f n vs e d) → Solves f e → plus h.left (negative h.right) ≡ zero_fraction
  solves_zero n e d h s =
      let a = one_meaning f once e.left s.left (surd_of h.left) s.left_means h.left_means in
      let b = one_meaning f once e.right s.right (surd_of h.right) s.right_means h.right_means in
      let same : h.left ≡ h.right = surd_of_one h.left h.right (Agree-trans (Agree-sym a) (Agree-trans (Same-Agree s.same) b)) in
      ap (λ x. plus x (negative h.right)) same ∙ plus_negative h.right

  zero_solves : (n : ℕ) (e : Equation) (d : Row) → (h : IsDifference f n vs e d) → plus h.left (negative h.right) ≡ zero_fraction → Solves f e
  zero_solves n e d h z = grind (arith, same_from_difference, Same-refl)

  -- ---- all rows

  module _ (es : List Equation) (linear : All (IsLinearIn xs) es) (rows : List Row) (made : equation_rows xs es ≡ Ok rows) where
    rows_long : length rows ≡ length es
    rows_long = each_long (λ (p : ℕ × Equation). equation_row xs (length es) p.0 p.1) (enumerate_from 0 es) rows made ∙ length-enumerate_from 0 es

    row_is : (k : ℕ) (d : Row) → k < length es → IsEquationRow f (length xs) vs (length es) k (get_or es k no_equation) (get_or rows k d)
    row_is k d l =
        let one : equation_row xs (length es) (get_or (enumerate_from 0 es) k (0, no_equation)).0 (get_or (enumerate_from 0 es) k (0, no_equation)).1 ≡ Ok (get_or rows k d)
        = each_at (λ (p : ℕ × Equation). equation_row xs (length es) p.0 p.1) (enumerate_from 0 es) rows k (0, no_equation) d made (omega (arith, length-enumerate_from 0 es)) in
        equation_row_is (length es) k (get_or es k no_equation) (get_or rows k d) (All-get_or (IsLinearIn xs) es k no_equation l linear)
        (ap (λ (p : ℕ × Equation). equation_row xs (length es) p.0 p.1) (sym (get_or-enumerate_from 0 es k (0, no_equation) l ∙ (λ i. (zero-add k i, get_or es k no_equation)))) ∙ one)

    start : Rows
    start = record { pivots = []; left = rows }

    none_yet : (c : ℕ) (r : Row) → pivot_at c [] ≡ Some r → ⊥
    none_yet c r e = cc

    start_settled : IsSettled 0 (suc (length xs) + length es) (record { pivots = []; left = rows })
    start_settled = record {
      many = refl;
      left_wide = λ k d l. wide k d (omega (arith, rows_long));
      left_clear = λ j l. absurd (omega arith);
      pivots = λ c r e. absurd (none_yet c r e);
      apart = λ c j r q e. absurd (none_yet c r e);
    }
      where
        wide : (k : ℕ) (d : Row) → k < length es → length (get_or rows k d) ≡ suc (length xs) + length es
        wide k d l =
            let h = row_is k d l in
            ap length h.is ∙ length-append h.difference (unit (length es) k) ∙ (λ i. h.says.long i + length-unit (length es) k i)

    -- rows at a point
    start_zero : (us : List Fraction) → ((k : ℕ) (d : Row) → k < length es → worth (get_or rows k d) (vs ++ one_fraction ∷ us) ≡ zero_fraction)
        → AreZero (vs ++ one_fraction ∷ us) (record { pivots = []; left = rows })
    start_zero us h = record { left = λ k d l. h k d (omega (arith, rows_long)); pivots = λ c r e. absurd (none_yet c r e) }

    -- the equations are solved exactly where the rows are worth 0
    solved_rows : SolvesAll f es → AreZero (vs ++ one_fraction ∷ []) (record { pivots = []; left = rows })
    solved_rows s = start_zero [] (λ k d l.
        let h = row_is k d l in
        equation_worth (length es) k (get_or es k no_equation) (get_or rows k d) [] h
        ∙ plus_both (solves_zero (length xs) (get_or es k no_equation) h.difference h.says (All-get_or (Solves f) es k no_equation l s)) (worth-nil (unit (length es) k)) ∙ zero_plus zero_fraction)

    rows_solved : AreZero (vs ++ one_fraction ∷ []) (record { pivots = []; left = rows }) → SolvesAll f es
    rows_solved z = All-from_get_or (Solves f) es no_equation (λ k l.
        let h = row_is k [] l in
        zero_solves (length xs) (get_or es k no_equation) h.difference h.says
        (sym (ap (plus (plus h.says.left (negative h.says.right))) (worth-nil (unit (length es) k)) ∙ plus_zero (plus h.says.left (negative h.says.right)))
        ∙ sym (equation_worth (length es) k (get_or es k no_equation) (get_or rows k []) [] h)
        ∙ z.left k [] (omega (arith, rows_long))))

    module _ (s : Rows) (step : IsStep (length xs) (suc (length xs) + length es) (record { pivots = []; left = rows }) s) where
      -- ---- no solution

      module _ (at : ℕ) (o : HasName (length xs) at s.left) where
        -- the row has no name
        last_worth : (us : List Fraction) → worth (row_at at s.left) (vs ++ one_fraction ∷ us) ≡ plus (entry (length xs) (row_at at s.left)) (worth (drop (length xs + 1) (row_at at s.left)) us)
        last_worth us =
            let clear : (j : ℕ) → j < length vs → entry j (row_at at s.left) ≡ zero_fraction = λ j l. All-get_or (λ r. entry j r ≡ zero_fraction) s.left at [] o.within
            (step.settled.left_clear j (omega (arith, values_long))) in
            worth_behind (row_at at s.left) vs us clear ∙ ap (λ n. plus (entry n (row_at at s.left)) (worth (drop (n + 1) (row_at at s.left)) us)) values_long

        unsolvable : ¬ (SolvesAll f es)
        unsolvable h =
            let z = step.keeps.on (vs ++ one_fraction ∷ []) (solved_rows h) in
            let w : worth (row_at at s.left) (vs ++ one_fraction ∷ []) ≡ zero_fraction = All-get_or (λ r. worth r (vs ++ one_fraction ∷ []) ≡ zero_fraction) s.left at [] o.within z.left in
            o.has (sym (ap (plus (entry (length xs) (row_at at s.left))) (worth-nil (drop (length xs + 1) (row_at at s.left))) ∙ plus_zero (entry (length xs) (row_at at s.left))) ∙ sym (last_worth []) ∙ w)

        -- the values of the sides
        come_to_one : (cs : Row) (ls rs : List Fraction) → multipliers (length xs) (row_at at s.left) ≡ Ok cs
            → AllZip (λ (e : Equation) l. Means e.left f (surd_of l)) es ls → AllZip (λ (e : Equation) r. Means e.right f (surd_of r)) es rs → worth cs (differences ls rs) ≡ one_fraction
        come_to_one cs ls rs m hl hr =
            let row : Row = row_at at s.left in
            let k : Fraction = entry (length xs) (row_at at s.left) in
            let ds : List Fraction = differences ls rs in
            let us : List Fraction = map negative (differences ls rs) in
            let z = step.keeps.on (vs ++ one_fraction ∷ map negative (differences ls rs)) (start_zero (map negative (differences ls rs)) each_zero) in
            let w0 : worth row (vs ++ one_fraction ∷ map negative (differences ls rs)) ≡ zero_fraction = All-get_or
            (λ r. worth r (vs ++ one_fraction ∷ map negative (differences ls rs)) ≡ zero_fraction) s.left at [] o.within z.left in
            let w1 : worth (drop (length xs + 1) row) us ≡ negative k = opposite_is k _ (sym (last_worth (map negative (differences ls rs))) ∙ w0) in
            let t = scaled_is (inverse k) (drop (length xs + 1) row) cs m in
            let w2 : negative (worth cs ds) ≡ negative one_fraction = sym (worth_negated cs ds) ∙ t.value us ∙ ap (times (inverse k)) w1 ∙ times_negative (inverse k) k
            ∙ ap negative (inverse_times_itself k o.has) in
            sym (negative_twice (worth cs ds)) ∙ ap negative w2 ∙ negative_twice one_fraction
          where
            ls_long : length ls ≡ length es
            ls_long = AllZip-long (λ (e : Equation) l. Means e.left f (surd_of l)) es ls hl

            rs_long : length rs ≡ length es
            rs_long = AllZip-long (λ (e : Equation) r. Means e.right f (surd_of r)) es rs hr

            many : length (zip ls rs) ≡ length es
            many = length-zip ls rs ∙ omega (arith, ls_long, rs_long)

            pair : Fraction × Fraction
            pair = (zero_fraction, zero_fraction)

            each_zero : (k : ℕ) (d : Row) → k < length es → worth (get_or rows k d) (vs ++ one_fraction ∷ map negative (differences ls rs)) ≡ zero_fraction
            each_zero k d l =
                let h = row_is k d l in
                let e : Equation = get_or es k no_equation in
                let here : k < length ls = omega (arith, ls_long) in
                let there : k < length rs = omega (arith, rs_long) in
                let inside : k < length (zip ls rs) = omega (arith, many) in
                let a : h.says.left ≡ get_or ls k zero_fraction = one_rational_meaning f once e.left h.says.left (get_or ls k zero_fraction) h.says.left_means
                (zipped_at (λ (e : Equation) l. Means e.left f (surd_of l)) es ls k no_equation zero_fraction hl l) in
                let b : h.says.right ≡ get_or rs k zero_fraction = one_rational_meaning f once e.right h.says.right (get_or rs k zero_fraction) h.says.right_means
                (zipped_at (λ (e : Equation) r. Means e.right f (surd_of r)) es rs k no_equation zero_fraction hr l) in
                let v : Fraction = plus h.says.left (negative h.says.right) in
                let dk : get_or (differences ls rs) k zero_fraction ≡ v =
                get_or-map (λ (p : Fraction × Fraction). plus p.0 (negative p.1)) (zip ls rs) k (zero_fraction, zero_fraction) zero_fraction inside
                ∙ ap (λ (p : Fraction × Fraction). plus p.0 (negative p.1)) (get_or-zip ls rs k (zero_fraction, zero_fraction) here there)
                ∙ plus_both (sym a) (ap negative (sym b)) in
                let uk : entry k (map negative (differences ls rs)) ≡ negative v =
                get_or-map negative (differences ls rs) k zero_fraction zero_fraction
                (omega (arith, length-map (zip ls rs) (λ (p : Fraction × Fraction). plus p.0 (negative p.1)), many)) ∙ ap negative dk in
                equation_worth (length es) k e (get_or rows k d) (map negative (differences ls rs)) h
                ∙ ap (plus v) (worth_unit (length es) k (map negative (differences ls rs)) (length-map (differences ls rs) negative ∙ length-map (zip ls rs) _ ∙ many) ∙ uk)
                ∙ plus_negative v

      -- ---- forms

      pivots_long : length s.pivots ≡ length xs
      pivots_long = step.settled.many

      many : length (forms_of (length xs) s.pivots) ≡ length xs
      many = forms_long (length xs) s.pivots ∙ pivots_long

      -- a pivot is worth 0 exactly where its name has the value of its form
      pivot_worth : (c : ℕ) (r : Row) → c < length xs → pivot_at c s.pivots ≡ Some r
          → (worth r (vs ++ one_fraction ∷ []) ≡ zero_fraction → HasItsValue vs (form_of (length xs) c (Some r)) (get_or vs c zero_fraction))
          × (HasItsValue vs (form_of (length xs) c (Some r)) (get_or vs c zero_fraction) → worth r (vs ++ one_fraction ∷ []) ≡ zero_fraction)
      pivot_worth c r l e = (on, back)
        where
          whole : worth r (vs ++ one_fraction ∷ []) ≡ plus (worth r vs) (entry (length xs) r)
          whole = worth_constant r vs one_fraction ∙ ap (plus (worth r vs)) (times_one (entry (length vs) r) ∙ ap (λ n. entry n r) values_long)

          coefs : worth (map (λ j. if j == c then zero_fraction else negative (entry j r)) (range_with_len 0 (length xs))) vs ≡ plus (get_or vs c zero_fraction) (negative (worth r vs))
          coefs = multiples_worth r c vs (length xs) (step.settled.pivots c r e).one l values_long

          on : worth r (vs ++ one_fraction ∷ []) ≡ zero_fraction
              → get_or vs c zero_fraction ≡ plus (negative (entry (length xs) r)) (worth (map (λ j. if j == c then zero_fraction else negative (entry j r)) (range_with_len 0 (length xs))) vs)
          on z = sym (ap (plus (negative (entry (length xs) r))) coefs ∙ put_back (worth r vs) (entry (length xs) r) (get_or vs c zero_fraction) (sym whole ∙ z))

          back : get_or vs c zero_fraction ≡ plus (negative (entry (length xs) r)) (worth (map (λ j. if j == c then zero_fraction else negative (entry j r)) (range_with_len 0 (length xs))) vs) → worth r (vs ++ one_fraction ∷ []) ≡ zero_fraction
          back h = whole ∙ taken_out (worth r vs) (entry (length xs) r) (get_or vs c zero_fraction) (h ∙ ap (plus (negative (entry (length xs) r))) coefs)

      have_values : AreZero (vs ++ one_fraction ∷ []) s → HaveTheirValues (forms_of (length xs) s.pivots) vs
      have_values z = all_zip_from (HasItsValue vs) (forms_of (length xs) s.pivots) vs free zero_fraction (many ∙ sym values_long)
          (λ c l.
          let i : c < length s.pivots = omega (arith, many, pivots_long) in
          subst (λ x. HasItsValue vs x (get_or vs c zero_fraction)) (sym (form_at (length xs) c s.pivots i)) (by c (omega (arith, pivots_long)) (pivot_at c s.pivots) refl))
        where
          by : (c : ℕ) → c < length xs → (o : Option Row) → pivot_at c s.pivots ≡ o → HasItsValue vs (form_of (length xs) c o) (get_or vs c zero_fraction)
          by c l None e = tt
          by c l (Some r) e = (pivot_worth c r l e).0 (z.pivots c r e)

      values_zero : first_with (length xs) s.left ≡ None → HaveTheirValues (forms_of (length xs) s.pivots) vs → AreZero (vs ++ one_fraction ∷ []) s
      values_zero none h = record {
        left = λ k d l.
            let r : Row = get_or s.left k d in
            let clear : (j : ℕ) → j < length vs → entry j (get_or s.left k d) ≡ zero_fraction = λ j b. All-get_or (λ r. entry j r ≡ zero_fraction) s.left k d l
            (step.settled.left_clear j (omega (arith, values_long))) in
            worth_behind (get_or s.left k d) vs [] clear
            ∙ plus_both (ap (λ n. entry n (get_or s.left k d)) values_long ∙ All-get_or (λ r. entry (length xs) r ≡ zero_fraction) s.left k d l (none_has (length xs) s.left none))
            (worth-nil (drop (length vs + 1) (get_or s.left k d))) ∙ zero_plus zero_fraction;
        pivots = λ c r e.
            let i : c < length xs = omega (arith, some_within c s.pivots r e, pivots_long) in
            (pivot_worth c r i e).1 (subst (λ x. HasItsValue vs x (get_or vs c zero_fraction)) (form_at (length xs) c s.pivots (some_within c s.pivots r e) ∙ ap (form_of (length xs) c) e)
            (zipped_at (HasItsValue vs) (forms_of (length xs) s.pivots) vs c free zero_fraction h (omega (arith, many))));
      }

-- ---- the whole

-- the forms hold only later, free names
later_free : (n width : ℕ) (s : Rows) → IsSettled n width s → HoldLaterFreeNames (forms_of n s.pivots)
later_free n width s h i j l ne =
    let li : i < n = omega (arith, forms_long n s.pivots, h.many) in
    by (pivot_at i s.pivots) refl (λ e z. ne (ap (λ x. multiple_in x j) (formed i li ∙ ap (form_of n i) e) ∙ z))
  where
    formed : (c : ℕ) → c < n → get_or (forms_of n s.pivots) c free ≡ form_of n c (pivot_at c s.pivots)
    formed c b = form_at n c s.pivots (omega (arith, h.many))

    -- a multiple that is not 0 is that of a later name without a pivot
    by : (o : Option Row) → pivot_at i s.pivots ≡ o → (pivot_at i s.pivots ≡ o → multiple_in (form_of n i o) j ≡ zero_fraction → ⊥)
        → (i < j) × (j < length (forms_of n s.pivots)) × IsFree (get_or (forms_of n s.pivots) j free)
    by None e wrong = absurd (wrong e refl)
    by (Some r) e wrong = elim (cases_lt j n) [
      | inr past ↦ absurd (wrong e (get_or_past (map (multiple_of r i) (range_with_len 0 n)) j zero_fraction (omega (arith, length-map-range_with_len (multiple_of r i) 0 n))))
      | inl within ↦
          let is : multiple_in (form_of n i (Some r)) j ≡ multiple_of r i j = get_or-map-range_with_len (multiple_of r i) 0 n j j zero_fraction within (zero-add j) in
          elim (cases_eq j i) [
            | inl same ↦ absurd (wrong e (is ∙ ap (λ b. if b then zero_fraction else negative (entry j r)) (eq-eqb j i same)))
            | inr other ↦
                let value : multiple_of r i j ≡ negative (entry j r) = ap (λ b. if b then zero_fraction else negative (entry j r)) (ne_eqb j i other) in
                let nonzero : entry j r ≢ zero_fraction = λ z. wrong e (is ∙ value ∙ ap negative z ∙ negative_zero) in
                let later : i < j = elim (cases_lt j i) [ inl b ↦ absurd (nonzero ((h.pivots i r e).before j b)) | inr b ↦ omega arith ] in
                (later, omega (arith, forms_long n s.pivots, h.many), subst IsFree (sym (formed j within)) (frees (pivot_at j s.pivots) refl (λ q a. nonzero (h.apart i j r q e a other))))
          ]
    ]
      where
        frees : (o : Option Row) → pivot_at j s.pivots ≡ o → ((q : Row) → pivot_at j s.pivots ≡ Some q → ⊥) → IsFree (form_of n j o)
        frees None a wrong = tt
        frees (Some q) a wrong = absurd (wrong q a)

-- the calculation in its parts
record Parts (xs : List (List ℕ)) (es : List Equation) (a : Answer) : Type 0 where
  rows : List Row
  made : equation_rows xs es ≡ Ok rows
  s : Rows
  reached : settled_up_to (length xs) (record { pivots = []; left = rows }) ≡ Ok s
  answer : answer_of (length xs) s ≡ Ok a

parts_of : (xs : List (List ℕ)) (es : List Equation) (a : Answer) → solving xs es ≡ Ok a → Parts xs es a
unfolding solving
parts_of xs es a e = grind arith

-- where forms are answered
record IsSolvedBy (n : ℕ) (s : Rows) (forms : List Form) : Type 0 where
  none : first_with n s.left ≡ None
  are : forms ≡ forms_of n s.pivots

solved_by : (n : ℕ) (s : Rows) (forms : List Form) → answer_of n s ≡ Ok (solved forms) → IsSolvedBy n s forms
solved_by n s forms e = grind arith

-- and where multipliers are
record IsRefuted (n : ℕ) (s : Rows) (cs : List Fraction) : Type 0 where
  at : ℕ
  has : HasName n at s.left
  are : multipliers n (row_at at s.left) ≡ Ok cs

refuted_by : (n : ℕ) (s : Rows) (cs : List Fraction) → answer_of n s ≡ Ok (never cs) → IsRefuted n s cs
refuted_by n s cs e = grind (arith, ok_is, both, first_has)

module _ (xs : List (List ℕ)) (es : List Equation) (distinct : AreDistinct xs) (linear : All (IsLinearIn xs) es) where
  module _ (f : Assignment) (vs : List Fraction) (once : IsAssignment f) (gives : Assigns f xs vs) where
    step_of : (a : Answer) (p : Parts xs es a) → IsStep (length xs) (suc (length xs) + length es) (record { pivots = []; left = p.rows }) p.s
    step_of a p = settled_all (length xs) _ _ p.s (start_settled f once xs vs distinct gives es linear p.rows p.made) p.reached

    pub solved_where : (forms : List Form) → solving xs es ≡ Ok (solved forms) → SolvesAll f es ↔ HaveTheirValues forms vs
    solved_where forms e =
        let p = parts_of xs es (solved forms) e in
        let t = step_of (solved forms) p in
        let b = solved_by (length xs) p.s forms p.answer in (
          λ h. subst (λ x. HaveTheirValues x vs) (sym b.are)
              (have_values f once xs vs distinct gives es linear p.rows p.made p.s t (t.keeps.on _ (solved_rows f once xs vs distinct gives es linear p.rows p.made h))),
          λ h. rows_solved f once xs vs distinct gives es linear p.rows p.made
              (t.keeps.back _ (values_zero f once xs vs distinct gives es linear p.rows p.made p.s t b.none (subst (λ x. HaveTheirValues x vs) b.are h))),
        )

    pub never_solved : (cs : List Fraction) → solving xs es ≡ Ok (never cs) → ¬ (SolvesAll f es)
    never_solved cs e =
        let p = parts_of xs es (never cs) e in
        let b = refuted_by (length xs) p.s cs p.answer in
        unsolvable f once xs vs distinct gives es linear p.rows p.made p.s (step_of (never cs) p) b.at b.has

    pub one_from : (cs : List Fraction) (ls rs : List Fraction) → solving xs es ≡ Ok (never cs)
        → AllZip (λ (e : Equation) l. Means e.left f (surd_of l)) es ls → AllZip (λ (e : Equation) r. Means e.right f (surd_of r)) es rs → worth cs (differences ls rs) ≡ one_fraction
    one_from cs ls rs e hl hr =
        let p = parts_of xs es (never cs) e in
        let b = refuted_by (length xs) p.s cs p.answer in
        come_to_one f once xs vs distinct gives es linear p.rows p.made p.s (step_of (never cs) p) b.at b.has cs ls rs b.are hl hr

  pub forms_are_later : (forms : List Form) → solving xs es ≡ Ok (solved forms) → HoldLaterFreeNames forms
  forms_are_later forms e =
      let p = parts_of xs es (solved forms) e in
      let b = solved_by (length xs) p.s forms p.answer in
      let t = step_of (zero_assignment xs) (zero_values xs) (zero_once xs distinct) (zero_gives xs) (solved forms) p in
      subst HoldLaterFreeNames (sym b.are) (later_free (length xs) _ p.s t.settled)

  pub forms_are_many : (forms : List Form) → solving xs es ≡ Ok (solved forms) → length forms ≡ length xs
  forms_are_many forms e =
      let p = parts_of xs es (solved forms) e in
      let b = solved_by (length xs) p.s forms p.answer in
      let t = step_of (zero_assignment xs) (zero_values xs) (zero_once xs distinct) (zero_gives xs) (solved forms) p in
      ap length b.are ∙ forms_long (length xs) p.s.pivots ∙ t.settled.many

  pub multipliers_are_many : (cs : List Fraction) → solving xs es ≡ Ok (never cs) → length cs ≡ length es
  multipliers_are_many cs e =
      let p = parts_of xs es (never cs) e in
      let b = refuted_by (length xs) p.s cs p.answer in
      let t = step_of (zero_assignment xs) (zero_values xs) (zero_once xs distinct) (zero_gives xs) (never cs) p in
      let m = scaled_is (inverse (entry (length xs) (row_at b.at p.s.left))) (drop (length xs + 1) (row_at b.at p.s.left)) cs b.are in
      let wide : length (row_at b.at p.s.left) ≡ suc (length xs) + length es = All-get_or (λ r. length r ≡ suc (length xs) + length es) p.s.left b.at [] b.has.within t.settled.left_wide in
      m.long ∙ length-drop (length xs + 1) (row_at b.at p.s.left) ∙ omega (arith, wide)

-- the row of left minus right has an entry for each name and a constant
pub difference_long : (xs : List (List ℕ)) (e : Equation) (d : Row) → AreDistinct xs → IsLinearIn xs e → difference_of xs e ≡ Ok d → length d ≡ suc (length xs)
difference_long xs e d distinct h m = (difference_says (zero_assignment xs) (zero_once xs distinct) xs (zero_values xs) distinct (zero_gives xs) e d h m).long
