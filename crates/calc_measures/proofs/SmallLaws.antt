-- Small laws that several crates above cite.
use Rattle.calc_measures.proofs.Shared.{◌≡◌, Bool, ap, arith, true, refl, whole_value, opposite, Fraction, Tree, is_number, load}
use Rattle.std.specs.Prelude.{◌==◌, Some, None, if◌then◌else◌, neg_ℤ}

pub value_by : (b : Bool) (q : Fraction) → (q.den == 1) ≡ b → whole_value q ≡ (if b then Some q.num else None)
value_by b q e = ap (λ (k : Bool). if k then Some q.num else None) e

pub opposite_by : (b : Bool) (q : Fraction) → (if b then Some (neg_ℤ q.num) else None) ≡ opposite (if b then Some q.num else None)
opposite_by b q = grind arith

pub number_load : (t : Tree) → is_number t ≡ true → load t ≡ 0
number_load t h = rw h refl
