-- Layouts: how the parts of a face stand to one another when it is drawn.
use Rattle.std.specs.Prelude.{ℕ, List, Bool, ◌||◌, nat_le, if◌then◌else◌}
use Rattle.calc_terms.specs.{Fractions.{Fraction}, Trees.{Tree, num, symbol, undef, add, mult, power, root, neg, sub, div, Trees, none, more, is_div}}
use Rattle.calc_language.specs.Texts.{Place, left_of_difference, first_of_sum, later_of_sum, first_of_product, later_of_product, level, admits}

-- a number, a name by its bytes, a mark, or a node over its parts: side by side in a row, one above the other with a bar between, raised, under a root sign, in parentheses
mutual
  pub data Layout : Type 0 where
    number : Fraction → Layout
    name : List ℕ → Layout
    plus minus times : Layout
    row : Layouts → Layout
    fraction : Layout → Layout → Layout
    raised : Layout → Layout
    radical : Layout → Layout
    paren : Layout → Layout

  pub data Layouts : Type 0 where
    nothing : Layouts
    beside : Layout → Layouts → Layouts

-- ---- lists of layouts

abbrev pub join_parts : Layouts → Layouts → Layouts
join_parts nothing ms = ms
join_parts (beside l ls) ms = beside l (join_parts ls ms)

abbrev pub one_part : Layout → Layouts
one_part l = beside l nothing

-- ---- the layout of a face

abbrev pub unless : Bool → Layout → Layout
unless admitted l = if admitted then l else paren l

-- in a row a part stands in parentheses exactly where its text does, except that a fraction never does
abbrev pub boxed : Place → Tree → Layout → Layout
boxed p t l = unless (is_div t || admits p t) l

-- The layout of a face. A face holds no Undef; that of Undef is a row of nothing.
abbrev mutual
  pub layout : Tree → Layout
  layout (num q) = number q
  layout (symbol x) = name x
  layout undef = row nothing
  layout (add ts) = row (layout_of_sum ts)
  layout (mult ts) = row (layout_of_product ts)
  layout (power b e) = row (beside (unless (nat_le 4 (level b)) (layout b)) (one_part (raised (layout e))))
  layout (root a) = radical (layout a)
  layout (neg a) = row (beside minus (one_part (boxed later_of_sum a (layout a))))
  layout (sub a b) = row (beside (boxed left_of_difference a (layout a)) (beside minus (one_part (boxed later_of_sum b (layout b)))))
  layout (div a b) = fraction (layout a) (layout b)

  pub layout_of_sum : Trees → Layouts
  layout_of_sum none = nothing
  layout_of_sum (more t ts) = beside (boxed first_of_sum t (layout t)) (layout_of_terms ts)

  pub layout_of_terms : Trees → Layouts
  layout_of_terms none = nothing
  layout_of_terms (more t ts) = beside plus (beside (boxed later_of_sum t (layout t)) (layout_of_terms ts))

  pub layout_of_product : Trees → Layouts
  layout_of_product none = nothing
  layout_of_product (more t ts) = beside (boxed first_of_product t (layout t)) (layout_of_factors ts)

  pub layout_of_factors : Trees → Layouts
  layout_of_factors none = nothing
  layout_of_factors (more t ts) = beside times (beside (boxed later_of_product t (layout t)) (layout_of_factors ts))
