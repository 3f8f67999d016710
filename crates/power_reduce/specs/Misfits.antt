-- Which operation does not fit where a Number is raised to a whole power.
use Rattle.std.specs.Prelude.{ℕ, suc, ◌≡◌, ℤ, pos, negsuc, true}
use Rattle.calc_algebra.specs.Numbers.{value}
use Rattle.calc_measures.specs.{PlainTrees.{IsPlainOverflow}, PlainValues.{calculated, plain_value}}
use Rattle.calc_terms.specs.{Fits.{pow_op}, Fractions.{whole_fraction}, Trees.{Tree, num, power}}
use Rattle.number_forms.specs.{Inverses.{IsInverseOf}, Overflows.{InverseOverflows, PowerOverflows}}
use Rattle.power_reduce.specs.PowerAnswers.{has_number_power}
use Rattle.rational128.specs.declared.overflow.Overflow.{Overflow}

-- a Number to a positive power: of a rational it is this power, of any other the product of two lower ones
abbrev pub RaisingOverflows : Tree → ℕ → Overflow → Type 0
RaisingOverflows (num q) n o = IsPlainOverflow (calculated pow_op q (whole_fraction (pos n))) o
RaisingOverflows b n o = PowerOverflows (value b) n o

-- a Number to a negative power: it cannot be inverted, or a Number that inverts it cannot be raised
pub data LoweringOverflows (b : Tree) (n : ℕ) (o : Overflow) : Type 0 where
  inverting : InverseOverflows (value b) o → LoweringOverflows b n o
  raising : (i : Tree) → IsInverseOf (value b) i → RaisingOverflows i n o → LoweringOverflows b n o

-- a Number that is no rational, to a whole power
abbrev pub WholeOverflows : Tree → ℤ → Overflow → Type 0
WholeOverflows b (pos n) o = PowerOverflows (value b) n o
WholeOverflows b (negsuc n) o = LoweringOverflows b (suc n) o

-- a rational to a rational, or any other Number to a whole power
abbrev pub NamesPower : Tree → Tree → Overflow → Type 0
NamesPower (num p) e o = IsPlainOverflow (plain_value (power (num p) e)) o
NamesPower b (num q) o = WholeOverflows b q.num o
NamesPower b e o = ⊥

-- the power is a Number's, and this operation of it does not fit
pub record IsPowerMisfit (b e : Tree) (o : Overflow) : Type 0 where
  pub number : has_number_power b e ≡ true
  pub named : NamesPower b e o
