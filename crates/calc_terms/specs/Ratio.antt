-- A numerator and a denominator side by side, as a node holds them.
use Rattle.std.specs.{Prelude.{Bool, true, false, neg_ℤ, ◌*◌, ℕ, ℤ, pos, ◌≡◌, ◌≤◌, ◌<◌, ◌^◌, unsigned_abs}, Int.{IsGcd}}
use Rattle.calc_terms.specs.Fractions.{is_lowest}

pub record Ratio : Type 0 where
  pub num : ℤ
  pub den : ℕ

-- in lowest terms and within 128 bits
pub record IsRat (f : Ratio) : Type 0 where
  pub positive : 1 ≤ f.den
  pub num_fits : unsigned_abs f.num < 2 ^ 127
  pub den_fits : f.den < 2 ^ 127
  pub lowest : is_lowest f.num f.den ≡ true

abbrev pub whole : ℤ → Ratio
whole n = record { num = n; den = 1 }

-- the same quotient in lowest terms
pub record IsReduced (a b small under : ℕ) : Type 0 where
  pub lowest : IsGcd small under 1
  pub same : small * b ≡ a * under
  pub small_le : small ≤ a
  pub positive : 1 ≤ under
  pub under_le : under ≤ b

abbrev pub with_sign : Bool → ℕ → ℤ
with_sign true n = neg_ℤ (pos n)
with_sign false n = pos n
