-- Lemmas on equations that are solved.
use Rattle.calc_session.proofs.Shared.{◌≡◌, ◌∙◌, ◌↔◌, zero, suc, [], ◌∷◌, get_or, map, take, Bool, true, false, cond, below_more, refl, sym, ap, subst, arith, position-Some, All, nat_lt, IfErr}
use Rattle.calc_session.proofs.Shared.{solving_checks, SolveFault, position_or_len, le-ltb, lt-ltb, position_or_len_is, TripsRose, Name, name_of, Equation, equation_at, equations_in, OfOverflow}
use Rattle.calc_session.proofs.Shared.{StopsAfter, solving, misfit_of, IsExpression, Forest, Refusal, Listed, reply_of, names_listed, AreNamesOf, refusal_to_solve, IsReplyToSolve, are_linear}
use Rattle.calc_session.proofs.{Shared.{does_not_fit, first_not_linear, is_interrupted, is_linear_equation}, EvaluationLemmas.{none_rose}}
use Rattle.linear_solve.proofs.EquationRows.{equations_long as equations_many}
use Rattle.std.proofs.Common.{ℕ, ◌+◌, ◌<◌, ◌≤◌, List, length, not, Option, Some, None, Result, Ok, Err}
use Rattle.std.specs.Prelude.{IfOk, OnOk}
use Rattle.breakers.specs.State.{State as Breaker}
use Rattle.linear_solve.specs.declared.fault.SolveFault.TheVariants as fault
use Rattle.calc_session.specs.declared.answers.Refusal.TheVariants as refusal

-- ---- the first equation that is not linear

equation_there : (f : Forest) (ls rs : List ℕ) (k : ℕ) → length rs ≡ length ls → k < length ls → get_or (equations_in f ls rs) k (equation_at f 0 0) ≡ equation_at f (get_or ls k 0) (get_or rs k 0)
equation_there f [] rs k e l = absurd (omega (arith, l))
equation_there f (i ∷ ls) [] k e l = absurd (omega (arith, e))
equation_there f (i ∷ ls) (j ∷ rs) zero e l = refl
equation_there f (i ∷ ls) (j ∷ rs) (suc k) e l = equation_there f ls rs k (omega (arith, e)) (omega (arith, l))

-- the equations before a place are linear
pub record AreLinearUpTo (f : Forest) (ls rs : List ℕ) (n : ℕ) : Type 0 where
  pub linear : (k : ℕ) → k < n → is_linear_equation (equation_at f (get_or ls k 0) (get_or rs k 0)) ≡ true

pub linear_none : (f : Forest) (ls rs : List ℕ) → AreLinearUpTo f ls rs 0
linear_none f ls rs = record { linear = λ k l. absurd (omega (arith, l)) }

pub linear_more : (f : Forest) (ls rs : List ℕ) (n : ℕ) → AreLinearUpTo f ls rs n → is_linear_equation (equation_at f (get_or ls n 0) (get_or rs n 0)) ≡ true → AreLinearUpTo f ls rs (n + 1)
linear_more f ls rs n h e = record { linear = below_more _ n h.linear e }

first_is : (es : List Equation) (n : ℕ) (d : Equation) → n ≤ length es → ((k : ℕ) → k < n → is_linear_equation (get_or es k d) ≡ true) → (n < length es → is_linear_equation (get_or es n d) ≡ false) → position_or_len (λ (e : Equation). not (is_linear_equation e)) es ≡ n
first_is es n d l before here = position_or_len_is (λ (e : Equation). not (is_linear_equation e)) es n d l (λ k b. ap not (before k b)) (λ b. ap not (here b))

pub first_found : (f : Forest) (ls rs : List ℕ) (n : ℕ) → length rs ≡ length ls → n < length ls → AreLinearUpTo f ls rs n → is_linear_equation (equation_at f (get_or ls n 0) (get_or rs n 0)) ≡ false
    → Some n ≡ first_not_linear (equations_in f ls rs)
first_found f ls rs n e l h broken =
    let es = equations_in f ls rs in
    let many = equations_many f ls rs e in
    let at : position_or_len (λ (x : Equation). not (is_linear_equation x)) (equations_in f ls rs) ≡ n
    = first_is (equations_in f ls rs) n (equation_at f 0 0) (omega (arith, many, l)) (λ k b. ap is_linear_equation (equation_there f ls rs k e (omega (arith, b, l))) ∙ h.linear k b) (λ b. ap is_linear_equation (equation_there f ls rs n e l) ∙ broken) in
    sym (ap (λ (m : ℕ). cond (nat_lt m (length (equations_in f ls rs))) (Some m) None) at ∙ ap (λ (b : Bool). cond b (Some n) None) (lt-ltb n (length (equations_in f ls rs)) (omega (arith, many, l))))

pub none_found : (f : Forest) (ls rs : List ℕ) (n : ℕ) → length rs ≡ length ls → length ls ≤ n → AreLinearUpTo f ls rs n → None ≡ first_not_linear (equations_in f ls rs)
none_found f ls rs n e l h =
    let many = equations_many f ls rs e in
    let at : position_or_len (λ (x : Equation). not (is_linear_equation x)) (equations_in f ls rs) ≡ length (equations_in f ls rs)
    = first_is (equations_in f ls rs) (length (equations_in f ls rs)) (equation_at f 0 0) (omega arith) (λ k b. ap is_linear_equation (equation_there f ls rs k e (omega (arith, b, many))) ∙ h.linear k (omega (arith, b, many, l))) (λ b. absurd (omega (arith, b))) in
    sym (ap (λ (m : ℕ). cond (nat_lt m (length (equations_in f ls rs))) (Some m) None) at ∙ ap (λ (b : Bool). cond b (Some (length (equations_in f ls rs))) None) (itself (length (equations_in f ls rs))))
  where
    itself : (m : ℕ) → nat_lt m m ≡ false
    itself m = le-ltb m m (omega arith)

pub found_within : (f : Forest) (ls rs : List ℕ) (n : ℕ) → length rs ≡ length ls → Some n ≡ first_not_linear (equations_in f ls rs) → n < length ls
found_within f ls rs n e is = let (l, p, b) = position-Some (λ (x : Equation). not (is_linear_equation x)) (equations_in f ls rs) n (equation_at f 0 0) (sym is) in omega (arith, l, equations_many f ls rs e)

-- ---- why they are not solved

pub unsolved_reply : (free : ℕ) (xs : List (List ℕ)) (es : List Equation) (before after : List Breaker) (f : SolveFault) (r : Refusal) → AreNamesOf es xs → length xs ≤ 6 → first_not_linear es ≡ None
    → r ≡ refusal_to_solve f → OfOverflow (λ o. solving xs es ≡ Err (misfit_of o)) f → StopsAfter (solving_checks xs es) before after f → IsReplyToSolve free es before after (reply_of r)
unsolved_reply free xs es before after (fault.Overflow o) r names few linear e m s = subst (λ (x : Refusal). IsReplyToSolve free es before after (reply_of x)) (sym e) (are_linear names few linear (does_not_fit m s))
unsolved_reply free xs es before after (fault.Interrupted i) r names few linear e m s = subst (λ (x : Refusal). IsReplyToSolve free es before after (reply_of x)) (sym e) (are_linear names few linear (is_interrupted s))

-- ---- elements of lists of roots

pub element_at : (is : List ℕ) (k i : ℕ) → k < length is → i ≡ get_or is k i → get_or is k 0 ≡ i
element_at [] k i l e = absurd (omega (arith, l))
element_at (j ∷ is) zero i l e = sym e
element_at (j ∷ is) (suc k) i l e = element_at is k i (omega (arith, l)) e

pub expression_at : (f : Forest) (is : List ℕ) (k i : ℕ) → k < length is → All (λ j. IsExpression j f) is → i ≡ get_or is k i → IsExpression i f
expression_at f is k i l h e = subst (λ j. IsExpression j f) (sym e) (h k i l)

-- ---- results that are handed on

pub err_as : {A E : Type 0} {P Q : E → Type 0} (r : Result A E) → IfErr r P → ((e : E) → P e → Q e) → IfErr r Q
err_as r p h = grind arith

pub on_ok : {A E : Type 0} (r : Result A E) (P : Type 0) → P → OnOk r P
on_ok r P p = grind arith

-- a refusal without a check
pub calm_refusal : (r : Refusal) (bs : List Breaker) → ((place : ℕ) → r ≡ refusal.Interrupted place → ⊥) → (place : ℕ) → (r ≡ refusal.Interrupted place) ↔ TripsRose bs bs place
calm_refusal r bs h place = (λ e. absurd (h place e), λ t. absurd (none_rose bs place t))

-- ---- the names that are solved for

pub names_same : (items slice : List Listed) (array : List Name) (len : ℕ) → slice ≡ items → len ≡ length items → map name_of (take (length slice) array) ≡ names_listed slice → map name_of (take len array) ≡ names_listed items
names_same items slice array len e l h = ap (λ (m : ℕ). map name_of (take m array)) (l ∙ sym (ap length e)) ∙ h ∙ ap names_listed e

pub none_there : (r : Option ℕ) (es : List Equation) → ((at : ℕ) → r ≡ Some at → ⊥) → r ≡ first_not_linear es → first_not_linear es ≡ None
none_there r es h e = grind arith

-- what holds of an answer that is known
pub ok_at : {A E : Type 0} (P : A → Type 0) (r : Result A E) (x : A) → r ≡ Ok x → IfOk r P → P x
ok_at P r x e p = subst (λ s. IfOk s P) e p

pub on_ok_at : {A E : Type 0} (P : Type 0) (r : Result A E) (x : A) → r ≡ Ok x → OnOk r P → P
on_ok_at P r x e p = subst (λ s. OnOk s P) e p

pub err_at : {A E : Type 0} (P : E → Type 0) (r : Result A E) (x : E) → r ≡ Err x → IfErr r P → P x
err_at P r x e p = subst (λ s. IfErr s P) e p
