-- Proofs by a test, and of a result.
use Rattle.tree_handles.proofs.Shared.{arith, ◌≡◌, ℕ, cond, eqb, sym, Bool, true, false, Result, IfErr, eqb-false, ne_eqb, Err, IsErr, IsErrAnd, IfOk}

-- both outcomes of a test
pub by_test : (P : Bool → Type 0) (t : Bool) → (t ≡ true → P true) → (t ≡ false → P false) → P t
by_test P t y n = grind arith

pub not_left : (x y : Bool) → cond x true y ≡ false → x ≡ false
not_left x y h = grind arith

pub not_right : (x y : Bool) → cond x true y ≡ false → y ≡ false
not_right x y h = grind arith

-- ---- results

pub passed_result : {A E : Type 0} (r : Result A E) (e : E) (P : Result A E → Type 0) → IsErr r → IsErrAnd r (λ x. x ≡ e) → P (Err e) → P r
passed_result r e P h a p = grind arith

-- a fact that follows from another, of what was given
pub if_map : {A E : Type 0} (r : Result A E) (P Q : A → Type 0) → IfOk r P → ((x : A) → P x → Q x) → IfOk r Q
if_map r P Q p f = grind arith
