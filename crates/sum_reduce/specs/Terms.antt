-- The terms of a sum: sums in it opened, and terms with identical parts.
use Rattle.std.specs.Prelude.{Bool, false, ◌&&◌, not, if◌then◌else◌}
use Rattle.calc_terms.specs.{Fractions.{zero_fraction, is_zero_fraction}, Trees.{Tree, num, add, Trees, none, more, append, is_add, AllPartsOf, opened_into}}
use Rattle.calc_algebra.specs.{Numbers.{is_number}, Reduced.{part_of, HasForm}}
use Rattle.like_children.specs.Neighbours.{are_alike}
use Rattle.number_forms.specs.Sums.{removed}
use Rattle.tree_handles.specs.Expressions.{nth}

-- reduced terms, none of them Undef
abbrev pub AreFormed : Trees → Type 0
AreFormed ts = AllPartsOf HasForm ts

-- a sum that is no Number
abbrev pub is_loose : Tree → Bool
is_loose t = is_add t && not (is_number t)

-- the terms of a sum that is no Number, and any other tree as its own term
abbrev pub terms_of_loose : Tree → Trees
terms_of_loose (add ts) = if is_number (add ts) then more (add ts) none else ts
terms_of_loose t = more t none

-- the terms of a sum in a sum stand in its place
abbrev pub opened : Trees → Trees
opened ts = opened_into terms_of_loose ts

-- it is no Number, so that it has a part
abbrev pub has_part : Tree → Bool
has_part t = not (is_number t)

-- two terms have identical parts
abbrev pub is_partner : Tree → Tree → Bool
is_partner t u = are_alike has_part part_of t u

-- the terms of a Number as terms of a sum: none for 0
abbrev pub terms_of_number : Tree → Trees
terms_of_number (num q) = if is_zero_fraction q then none else more (num q) none
terms_of_number (add ts) = ts
terms_of_number t = more t none

-- 0, the only term, or a sum
abbrev pub sum_tree : Trees → Tree
sum_tree none = num zero_fraction
sum_tree (more t none) = t
sum_tree ts = add ts

-- a Number stands before other terms
abbrev pub leads_number : Trees → Bool
leads_number (more t (more u ts)) = is_number t
leads_number _ = false

-- a leading Number's terms and then the other terms
abbrev pub written_tree : Trees → Tree
written_tree ts = if leads_number ts then sum_tree (append (terms_of_number (nth 0 ts)) (removed 0 ts)) else sum_tree ts
