-- What products and powers of reduced trees reduce to.
use Rattle.std.specs.Prelude.{ℤ, ◌≡◌, ◌≤◌, ◌+◌, Bool, true, false, ◌&&◌, ◌||◌, ◌==◌}
use Rattle.calc_terms.specs.{Fractions.{is_zero_fraction, whole_fraction}, Integers.{int_is_negative}, Trees.{Tree, num, undef, mult, power, Trees, has_undef, is_num}}
use Rattle.calc_measures.specs.Loads.{nest, load, weight}
use Rattle.calc_algebra.specs.{Numbers.{is_number, are_numbers}, Reduced.{is_half_num, is_opaque_exponent}, Rewritings.{Reduces}}
use Rattle.calc_room.specs.Counts.{counted}
use Rattle.power_reduce.specs.{PowerAnswers.{has_no_power, has_number_power, IsWrittenPower}, Bits.{IsHeldAsPowerOf}}
use Rattle.node_bounds.specs.{Bits.{IsHeldAsProduct, IsHeldAsRootPower, MultipliesCounts}, Rooms.{KeepsRoom, KeepsRootRoom, power_count}}
use Rattle.number_forms.specs.Readers.{numerator}
use Rattle.product_reduce.specs.Answers.{AreJoinable, IsWrittenProduct}

-- the reduced product of these factors
pub record IsReducedProduct (ts : Trees) (t : Tree) : Type 0 where
  pub reduces : Reduces (mult ts) t
  pub undefined : has_undef ts ≡ true → t ≡ undef
  pub number : are_numbers ts ≡ true → is_number t ≡ true
  pub nest : nest t ≤ nest (mult ts)
  pub load : load t ≤ load (mult ts)
  pub room : KeepsRoom (counted (mult ts)) (mult ts) t
  pub held : IsHeldAsProduct ts t
  pub counts : MultipliesCounts ts t

-- where no two of the factors are to be joined, their product is the coefficient times the others in order
abbrev pub IsWrittenApart : Trees → Tree → Type 0
IsWrittenApart ts t = has_undef ts ≡ false → ((c : Tree) → ¬ (AreJoinable c ts)) → IsWrittenProduct ts t

-- a negative rational to half of an odd whole number, or 0 to half of one below 0
abbrev pub has_no_half_power : Tree → Tree → Bool
has_no_half_power (num p) (num q) = q.den == 2 && (int_is_negative p.num || is_zero_fraction p && int_is_negative q.num)
has_no_half_power b e = false

-- the sides show that b to the power e is Undef
abbrev pub lacks_power : Tree → Tree → Bool
lacks_power b e = has_no_power b e || has_no_half_power b e

-- and that it is a Number, where it is not Undef: a Number to a whole power that it has, or a rational to half of an odd one
abbrev pub is_number_power : Tree → Tree → Bool
is_number_power b e = has_number_power b e || is_num b && is_half_num e

-- b to the power e, reduced
pub record IsReducedPower (b e t : Tree) : Type 0 where
  pub reduces : Reduces (power b e) t
  pub undefined : lacks_power b e ≡ true → t ≡ undef
  pub number : is_number_power b e ≡ true → lacks_power b e ≡ false → is_number t ≡ true
  pub written : lacks_power b e ≡ false → IsWrittenPower b e t
  pub nest : nest t ≤ nest (power b e)
  pub opaque_load : load t ≤ 1 + weight b
  pub load : is_opaque_exponent e ≡ false → load t ≤ weight b
  pub room : KeepsRoom (power_count b e) (power b e) t
  pub root_room : is_half_num e ≡ true → KeepsRootRoom b t
  pub held : (n : ℤ) → e ≡ num (whole_fraction n) → IsHeldAsPowerOf n b t
  pub root_held : is_half_num e ≡ true → IsHeldAsRootPower (numerator e) b t
