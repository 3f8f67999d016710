-- Where a part of each level may begin, by what was opened last.
use Rattle.calc_parser.proofs.Shared.{◌≡◌, List, [], ◌∷◌, Bool, true, false, arith, Open, Node, ended, end_power, end_factor, end_term}
use Rattle.calc_parser.specs.declared.nesting.Open.TheVariants as opened

abbrev pub begins_sum : List Open → Bool
begins_sum [] = true
begins_sum (opened.Parentheses ∷ s) = true
begins_sum (opened.Root ∷ s) = true
begins_sum s = false

abbrev pub begins_term : List Open → Bool
begins_term (opened.Sum k ∷ s) = true
begins_term (opened.Difference ∷ s) = true
begins_term (opened.NegatedTerm ∷ s) = true
begins_term s = begins_sum s

abbrev pub begins_right : List Open → Bool
begins_right (opened.Product k ∷ s) = true
begins_right (opened.Quotient ∷ s) = true
begins_right (opened.NegatedFactor ∷ s) = true
begins_right s = false

abbrev pub begins_exponent : List Open → Bool
begins_exponent (opened.Power ∷ s) = true
begins_exponent (opened.NegatedExponent ∷ s) = true
begins_exponent s = false

abbrev pub begins_factor : List Open → Bool
begins_factor s = elim (begins_right s) [ true ↦ true | false ↦ begins_term s ]

-- a part that nothing waits for is the first of its kind
pub sum_alone : (s : List Open) (o : List Node) → begins_sum s ≡ true → end_term s o ≡ ended s o 1
sum_alone s o h = grind arith

pub term_alone : (s : List Open) (o : List Node) → begins_term s ≡ true → end_factor s o ≡ ended s o 1
term_alone s o h = grind arith

pub factor_alone : (s : List Open) (o : List Node) → begins_factor s ≡ true → end_power s o ≡ ended s o 1
factor_alone s o h = grind arith

pub term_factor : (s : List Open) → begins_term s ≡ true → begins_factor s ≡ true
term_factor s h = grind arith

pub sum_term : (s : List Open) → begins_sum s ≡ true → begins_term s ≡ true
sum_term s h = grind arith

pub right_factor : (s : List Open) → begins_right s ≡ true → begins_factor s ≡ true
right_factor s h = grind arith
