-- What a step on a power of reduced trees answers.
use Rattle.std.specs.Prelude.{◌≡◌, ◌≤◌, ◌+◌, Bool, true, false, ◌&&◌, ◌||◌, ◌==◌, not, nat_le, Some, None}
use Rattle.calc_terms.specs.{Integers.{int_is_negative, int_is_zero}, Fractions.{zero_fraction, one_fraction}, Trees.{Tree, num, power, undef, is_undef}}
use Rattle.calc_measures.specs.Loads.{nest, load, weight}
use Rattle.calc_algebra.specs.{Numbers.{is_number, classes}, Reduced.{is_opaque_exponent, is_reduced, num_one}, Rewritings.{Reduces, Rewrites}}
use Rattle.node_pool.specs.State.{State}
use Rattle.number_forms.specs.Readers.{is_zero}
use Rattle.power_reduce.specs.PowerSteps.{is_zero_or_one, rewritten}
use Rattle.reduce_port.specs.declared.step.Step.{Step}
use Rattle.reduce_port.specs.declared.step.Step.TheVariants as step
use Rattle.tree_handles.specs.{Forest.{Forest}, Handed.{Gives}, Standing.{forest}}

abbrev pub is_power : Tree → Bool
is_power (power b e) = true
is_power _ = false

-- the tree under a power, and its exponent
abbrev pub base_in : Tree → Tree
base_in (power b e) = b
base_in t = undef

abbrev pub exponent_in : Tree → Tree
exponent_in (power b e) = e
exponent_in t = undef

-- a power of reduced trees, neither of which is Undef
pub record HasReducedSides (t : Tree) : Type 0 where
  pub power : is_power t ≡ true
  pub base : is_reduced (base_in t) ≡ true
  pub exponent : is_reduced (exponent_in t) ≡ true
  pub base_defined : is_undef (base_in t) ≡ false
  pub exponent_defined : is_undef (exponent_in t) ≡ false

-- a whole number of at most 0
abbrev pub is_at_most_zero : Tree → Bool
is_at_most_zero (num q) = (q.den == 1) && (int_is_zero q.num || int_is_negative q.num)
is_at_most_zero _ = false

-- a side is Undef, or it is zero to a whole power of at most 0
abbrev pub has_no_power : Tree → Tree → Bool
has_no_power b e = is_undef b || is_undef e || is_zero b && is_at_most_zero e

-- a Number to a whole power, of at most two classes where the exponent is negative
abbrev pub has_number_power : Tree → Tree → Bool
has_number_power b (num q) = is_number b && q.den == 1 && (not (int_is_negative q.num) || nat_le (classes b) 2)
has_number_power b e = false

-- no rule changes b to the power e: the exponent is neither 0 nor 1, it is no Number's power, and it is not rewritten
pub record HasNoRule (b e : Tree) : Type 0 where
  pub other : is_zero_or_one e ≡ false
  pub no_number : has_number_power b e ≡ false
  pub not_rewritten : rewritten b e ≡ None

-- which tree stands for b to the power e: 1 where e is 0, b where e is 1, and the power itself where no rule changes it
pub record IsWrittenPower (b e t : Tree) : Type 0 where
  pub zero : e ≡ num zero_fraction → t ≡ num_one
  pub one : e ≡ num one_fraction → t ≡ b
  pub kept : HasNoRule b e → t ≡ power b e

-- a reduced tree for b to the power e
pub record IsPowerAnswer (b e t : Tree) : Type 0 where
  pub reduces : Reduces (power b e) t
  pub undefined : is_undef t ≡ has_no_power b e
  pub number : has_number_power b e ≡ true → has_no_power b e ≡ false → is_number t ≡ true
  pub written : has_no_power b e ≡ false → IsWrittenPower b e t
  pub nest_bound : nest t ≤ nest (power b e)
  pub load_bound : is_opaque_exponent e ≡ false → load t ≤ weight b
  pub opaque_bound : load t ≤ 1 + weight b

-- one step on the tree: the rewriting where there is one, and else a reduced tree, which stands last behind the others
abbrev pub IsStep : Tree → Forest → State → Step → Type 0
IsStep t others new (step.Done h) = (rewritten (base_in t) (exponent_in t) ≡ None) × Gives others (forest new) h (IsPowerAnswer (base_in t) (exponent_in t))
IsStep t others new (step.Again h) = Gives others (forest new) h (λ u. (rewritten (base_in t) (exponent_in t) ≡ Some u) × Rewrites t u)
