-- What a result of the whole calculation says.
use Rattle.linear_solve.proofs.Shared.{arith, ◌≡◌, ◌↔◌, ◌∙◌, ap, sym, ℕ, List, length, Result, Ok, Err, IfOk, IfErr, OnOk, calm_checks_raise_no_trips, only_the_tripped_rose, CalmChecks, TripsRose}
use Rattle.linear_solve.proofs.Shared.{State, SolveFault, Rows, equation_rows, settled_up_to, Equation, StopsAfter, Misfit, Answer, Form, answer_of, solved, Row, Names, IfSolved, answer_told, solving}
use Rattle.linear_solve.proofs.{Shared.{rows_at_first, rows_solved, Solution}, Calculations.{then_err, then_ok}}
use Rattle.linear_solve.specs.declared.fault.SolveFault.TheVariants as fault

-- ---- the calculation, step by step

pub rows_ok : (n : ℕ) (rows : List Row) (s t : Rows) (a : Answer) → s ≡ rows_at_first rows → settled_up_to n s ≡ Ok t → answer_of n t ≡ Ok a → rows_solved n rows ≡ Ok a
rows_ok n rows s t a k f g = grind arith

pub settled_err : (n : ℕ) (rows : List Row) (s : Rows) (m : Misfit) → s ≡ rows_at_first rows → settled_up_to n s ≡ Err m → rows_solved n rows ≡ Err m
settled_err n rows s m k f = grind arith

pub answer_err : (n : ℕ) (rows : List Row) (s t : Rows) (m : Misfit) → s ≡ rows_at_first rows → settled_up_to n s ≡ Ok t → answer_of n t ≡ Err m → rows_solved n rows ≡ Err m
answer_err n rows s t m k f g = grind arith

pub rows_err : (xs : Names) (es : List Equation) (m : Misfit) → equation_rows xs es ≡ Err m → solving xs es ≡ Err m
unfolding solving
rows_err xs es m e = then_err (equation_rows xs es) (λ rows. rows_solved (length xs) rows) m e

pub rows_solve : (xs : Names) (es : List Equation) (n : ℕ) (rows : List Row) → n ≡ length xs → equation_rows xs es ≡ Ok rows → solving xs es ≡ rows_solved n rows
unfolding solving
rows_solve xs es n rows h e = then_ok (equation_rows xs es) (λ rows. rows_solved (length xs) rows) rows e ∙ ap (λ n. rows_solved n rows) (sym h)

-- ---- what is answered

pub if_solved : {C : Result Answer Misfit} {P : List Form → Type 0} (r : Result Solution SolveFault) → IfOk r (λ s. C ≡ Ok (answer_told s))
    → ((forms : List Form) → C ≡ Ok (solved forms) → P forms) → IfSolved r P
if_solved r e h = grind arith

-- whether a breaker tripped shows in the trips
pub trips_tell : (r : Result Solution SolveFault) (n most : ℕ) (old new : List State) → OnOk r (CalmChecks n old new) → IfErr r (StopsAfter most old new) → (place : ℕ)
    → (r ≡ Err (fault.Interrupted (record { by = place }))) ↔ TripsRose old new place
trips_tell r n most old new c h place = grind (arith, calm_checks_raise_no_trips, only_the_tripped_rose)

pub on_ok_as : {A : Type 0} {E : Type 0} {P Q : Type 0} (r : Result A E) → (P → Q) → OnOk r P → OnOk r Q
on_ok_as r f p = grind arith

pub if_err_as : {A : Type 0} {E : Type 0} {P Q : E → Type 0} (r : Result A E) → ((e : E) → P e → Q e) → IfErr r P → IfErr r Q
if_err_as r f p = grind arith
