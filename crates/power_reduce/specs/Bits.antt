-- By how many bits whole powers are held.
use Rattle.std.specs.Prelude.{ℕ, ℤ, ◌+◌, ◌*◌, ◌≤◌, ◌≡◌, [], ◌∷◌, true, false}
use Rattle.calc_algebra.specs.Numbers.{is_number, value}
use Rattle.calc_terms.specs.Trees.{Tree, is_undef}
use Rattle.tree_bits.specs.{Children.{IsSumHeld}, Factors.{as_factor}, Powers.{raised_high, raised_low, IsHeldAsPower}}

-- as a factor the tree is held by (h, l)
abbrev pub IsFactorHeld : Tree → ℕ → ℕ → Type 0
IsFactorHeld t h l = IsSumHeld (as_factor t ∷ []) h l

-- what holds b as a factor holds t as its power n, unless t is Undef
abbrev pub IsHeldAsPowerOf : ℤ → Tree → Tree → Type 0
IsHeldAsPowerOf n b t = is_undef t ≡ false → (h l : ℕ) → IsFactorHeld b h l → IsFactorHeld t (raised_high n h l) (raised_low n h l)

-- the same of the values, where t is a Number
abbrev pub IsNumberPower : ℤ → Tree → Tree → Type 0
IsNumberPower n b t = is_number t ≡ true → IsHeldAsPower n (value b) (value t)

-- the power n of what (h, l) holds is held within 124 bits
abbrev pub HasFewBitsRaised : ℤ → ℕ → ℕ → Type 0
HasFewBitsRaised n h l = 2 * raised_high n h l + 4 * raised_low n h l ≤ 124
