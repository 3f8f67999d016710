-- Tests of numbers of the code.
use Rattle.number_forms.proofs.Shared.{arith, ◌≡◌, ℕ, Bool, false, ◌↔◌, IsTrue, ◌==◌, eqb-true}

-- a test that fails
pub unequal : (a b : ℕ) → (a ≡ b → ⊥) → (a == b) ≡ false
unequal a b h = grind (arith, eqb-true)

pub test_fails : (b : Bool) (d e : ℕ) → (IsTrue b ↔ (d ≡ 1)) → b ≡ false → e ≡ d → (e == 1) ≡ false
test_fails b d e h f g = grind arith
