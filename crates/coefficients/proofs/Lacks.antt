-- Facts of the bytes that are lacking where a call is refused, and the premises of these facts.
use Rattle.coefficients.proofs.Shared.{◌≡◌, true, false, not, Result, ap, arith, IfErr, IsErrAnd, Fraction, is_zero_fraction, is_one_fraction, no_zero, Tree, add, is_add, Full, OfFull, children_of}
use Rattle.coefficients.proofs.{Shared.{NumberFault}, NumberMultiples.{IsFactor, not_one_is}}
use Rattle.tree_handles.specs.declared.fault.NumberFault.TheVariants as fault

pub result_lacks : {A : Type 0} (r : Result A NumberFault) (P Q : Full → Type 0) → IfErr r (OfFull P) → ((g : Full) → P g → Q g) → IfErr r (OfFull Q)
result_lacks r P Q h k = grind arith

-- what a `?` passes on
pub passed_lacks : {A : Type 0} (r : Result A NumberFault) (f : NumberFault) (P Q : Full → Type 0) → IsErrAnd r (λ e. e ≡ f) → OfFull P f → ((g : Full) → P g → Q g)
    → IfErr r (OfFull Q)
passed_lacks r f P Q h p k = grind arith

pub refusal_lacks : {A : Type 0} (r : Result A NumberFault) (g : Full) (Q : Full → Type 0) → IsErrAnd r (λ e. e ≡ fault.Full g) → Q g → IfErr r (OfFull Q)
refusal_lacks r g Q h k = grind arith

-- ---- premises

pub factor_of : (q : Fraction) → is_zero_fraction q ≡ false → is_one_fraction q ≡ false → IsFactor q
factor_of q z o = record { not_zero = no_zero q (ap not z); not_one = not_one_is q o }

pub sum_whole : (t : Tree) → is_add t ≡ true → t ≡ add (children_of t)
sum_whole t h = grind arith
