-- A coefficient before a part, by the kinds of both.
use Rattle.coefficients.proofs.Shared.{arith, ◌≡◌, ℕ, Bool, true, false, if◌then◌else◌, sym, ap, ◌∙◌, Result, OnOk, IfErr, Fraction, zero_fraction, is_zero_fraction, is_one_fraction, Tree, num}
use Rattle.coefficients.proofs.Shared.{root_kind, is_add, State, NumberFault, children_of, Faults, KeepsRefusals, spliced, rational_before, with_coefficient, rational_times_sum}
use Rattle.calc_terms.specs.declared.kind.Kind.TheVariants as kind

-- ---- refusals of a call that comes after others

pub on_ok_after : {E : Type 0} (r : Result ℕ E) (s t u : State) → KeepsRefusals s t → OnOk r (KeepsRefusals t u) → OnOk r (KeepsRefusals s u)
on_ok_after r s t u k p = grind arith

pub fault_after : (r : Result ℕ NumberFault) (s t u : State) → KeepsRefusals s t → IfErr r (Faults t u) → IfErr r (Faults s u)
fault_after r s t u k p = grind arith

-- ---- a rational before a part

pub before_sum : (q : Fraction) (t : Tree) → is_add t ≡ true → rational_times_sum q (children_of t) ≡ rational_before q t
before_sum q t m = grind arith

pub before_other : (q : Fraction) (t : Tree) → is_add t ≡ false → spliced (num q) t ≡ rational_before q t
before_other q t m = grind arith

pub with_zero : (q : Fraction) (t : Tree) → is_zero_fraction q ≡ true → num zero_fraction ≡ with_coefficient (num q) t
with_zero q t z = sym (ap (λ (b : Bool). if b then num zero_fraction else (if is_one_fraction q then t else rational_before q t)) z)

pub with_no_zero : (q : Fraction) (t : Tree) → is_zero_fraction q ≡ false → with_coefficient (num q) t ≡ (if is_one_fraction q then t else rational_before q t)
with_no_zero q t z = ap (λ (b : Bool). if b then num zero_fraction else (if is_one_fraction q then t else rational_before q t)) z

pub with_one : (q : Fraction) (t : Tree) → is_zero_fraction q ≡ false → is_one_fraction q ≡ true → t ≡ with_coefficient (num q) t
with_one q t z o = sym (with_no_zero q t z ∙ ap (λ (b : Bool). if b then t else rational_before q t) o)

pub with_other : (q : Fraction) (t : Tree) → is_zero_fraction q ≡ false → is_one_fraction q ≡ false → rational_before q t ≡ with_coefficient (num q) t
with_other q t z o = sym (with_no_zero q t z ∙ ap (λ (b : Bool). if b then t else rational_before q t) o)

-- ---- no rational

pub with_irrational : (c t : Tree) → (kind.Num ≡ root_kind c → ⊥) → spliced c t ≡ with_coefficient c t
with_irrational c t h = grind arith
