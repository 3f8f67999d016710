-- What a node over reduced children reduces to.
use Rattle.std.specs.Prelude.{ℕ, ◌≡◌, Bool, true, false, ◌&&◌, ◌||◌}
use Rattle.calc_terms.specs.{Fractions.{minus_one_fraction}, Trees.{Tree, num, undef, add, mult, power, root, neg, sub, div, is_num, is_undef, has_undef, are_rationals}}
use Rattle.calc_algebra.specs.{Numbers.{is_number, are_numbers}, Reduced.{is_half_num}, Rewritings.{Reduces}}
use Rattle.calc_measures.specs.{PlainValues.{plain_value}, PlainTrees.{IsPlainAnswer, IsPlainOverflow}}
use Rattle.node_bounds.specs.{Answers.{lacks_power, is_number_power}, NodeBits.{HoldsNode}, NodeRooms.{KeepsNodeRoom, node_count}, Rooms.{KeepsRootRoom}}
use Rattle.reduce_walk.specs.Leaves.{is_leaf}
use Rattle.product_reduce.specs.Bits.{IsFactorHeld}
use Rattle.power_reduce.specs.PowerAnswers.{base_in, exponent_in}
use Rattle.radical_forms.specs.RootAnswers.{has_no_root}
use Rattle.rational128.specs.declared.overflow.Overflow.{Overflow}
use Rattle.tree_handles.specs.Expressions.{children_of}

abbrev pub is_neg : Tree → Bool
is_neg (neg a) = true
is_neg _ = false

-- its children show that it has no value: one is Undef, a divisor is zero, zero or a negative rational stands to a power
-- that it does not have, or a negative rational stands under a root
abbrev pub has_no_value : Tree → Bool
has_no_value undef = true
has_no_value (add ts) = has_undef ts
has_no_value (mult ts) = has_undef ts
has_no_value (power b e) = lacks_power b e
has_no_value (root a) = has_no_root a
has_no_value (neg a) = is_undef a
has_no_value (sub a b) = is_undef a || is_undef b
has_no_value (div a b) = is_undef a || lacks_power b (num minus_one_fraction)
has_no_value _ = false

-- its children show that it is worth a Number, where it has a value
abbrev pub has_number : Tree → Bool
has_number (num q) = true
has_number (add ts) = are_numbers ts
has_number (mult ts) = are_numbers ts
has_number (power b e) = is_number_power b e
has_number (root a) = is_num a
has_number (neg a) = is_number a
has_number (sub a b) = is_number a && is_number b
has_number (div a b) = is_number a && is_number_power b (num minus_one_fraction)
has_number _ = false

-- the answer for a node t over reduced children
pub record IsNodeAnswer (t answer : Tree) : Type 0 where
  pub reduces : Reduces t answer
  pub undefined : has_no_value t ≡ true → answer ≡ undef
  pub number : has_number t ≡ true → has_no_value t ≡ false → is_number answer ≡ true
  pub rational : are_rationals (children_of t) ≡ true → IsPlainAnswer (plain_value t) answer
  pub room : KeepsNodeRoom (node_count t) t answer
  pub root_room : is_half_num (exponent_in t) ≡ true → KeepsRootRoom (base_in t) answer
  pub held : is_undef answer ≡ false → (h l : ℕ) → HoldsNode t h l → IsFactorHeld answer h l
  pub leaf : is_leaf t ≡ true → answer ≡ t

-- an operation that does not fit: no child is Undef, and over rationals it is the one of the plain value
pub record IsNodeOverflow (t : Tree) (overflow : Overflow) : Type 0 where
  pub defined : has_undef (children_of t) ≡ false
  pub rational : are_rationals (children_of t) ≡ true → IsPlainOverflow (plain_value t) overflow
