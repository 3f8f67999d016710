-- By how many bits products, powers and exponents are held.
use Rattle.std.specs.Prelude.{ℕ, ℤ, ◌≡◌, true, false}
use Rattle.calc_terms.specs.{Fractions.{whole_fraction}, Trees.{Tree, num, Trees, none, more, is_undef}}
use Rattle.product_reduce.specs.Bits.{IsFactorHeld, AreFactorsHeld}
use Rattle.tree_bits.specs.{Exponents.{multiple, is_counted, counts_of}, Powers.{IsCountedWithin, raised_high, raised_low}}

-- what holds the factors one by one holds t as their product, unless t is Undef
abbrev pub IsHeldAsProduct : Trees → Tree → Type 0
IsHeldAsProduct ts t = is_undef t ≡ false → (h l : ℕ) → AreFactorsHeld ts h l → IsFactorHeld t h l

-- what holds b, by a low of 0 where high is 0, holds t as the power n of its root, unless t is Undef
abbrev pub IsHeldAsRootPower : ℤ → Tree → Tree → Type 0
IsHeldAsRootPower n b t = is_undef t ≡ false → (h l : ℕ) → (h ≡ 0 → l ≡ 0) → IsFactorHeld b h l → IsFactorHeld t (raised_high n h l) (raised_low n h l)

-- t as the product of an exponent that counts its base and of a whole number counts as often as both together
abbrev pub MultipliesCounts : Trees → Tree → Type 0
MultipliesCounts ts t = (f : Tree) (n : ℤ) → ts ≡ more f (more (num (whole_fraction n)) none) → is_counted f ≡ true → IsCountedWithin (multiple n (counts_of f)) t
