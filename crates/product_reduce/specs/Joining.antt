-- Factors with identical bases, joined.
use Rattle.std.specs.{Prelude.{ℕ, ◌≡◌, ◌<◌, Bool, true, false, if◌then◌else◌}, Ordering.{is_eq}}
use Rattle.calc_algebra.specs.{Reduced.{is_opaque_exponent, is_reduced, base_of, num_one, are_reduced}, TreeOrder.{tree_cmp}}
use Rattle.calc_terms.specs.Trees.{Tree, undef, add, power, Trees, none, more, count}
use Rattle.number_forms.specs.Sums.{removed}
use Rattle.tree_handles.specs.Expressions.{nth}

-- the exponent of a factor over its base: that of a power that is not opaque, and 1 for any other
abbrev pub exponent_of : Tree → Tree
exponent_of (power b e) = if is_opaque_exponent e then num_one else e
exponent_of t = num_one

-- two factors have identical bases
abbrev pub is_partner : Tree → Tree → Bool
is_partner t u = is_eq (tree_cmp (base_of t) (base_of u))

-- some factor has the base of t
abbrev pub has_partner : Tree → Trees → Bool
has_partner t none = false
has_partner t (more u ts) = if is_partner t u then true else has_partner t ts

-- the first one that has
abbrev pub first_partner : Tree → Trees → Tree
first_partner t none = undef
first_partner t (more u ts) = if is_partner t u then u else first_partner t ts

-- the others
abbrev pub without_partner : Tree → Trees → Trees
without_partner t none = none
without_partner t (more u ts) = if is_partner t u then ts else more u (without_partner t ts)

-- the base of both, to the sum of their exponents
abbrev pub joint : Tree → Tree → Tree
joint t u = power (base_of t) (add (more (exponent_of t) (more (exponent_of u) none)))

-- two factors have identical bases
abbrev pub have_partners : Trees → Bool
have_partners none = false
have_partners (more t ts) = if has_partner t ts then true else have_partners ts

-- the first factor that has a partner is joined with the first of its partners
abbrev pub joined : Trees → Trees
joined none = none
joined (more t ts) = if has_partner t ts then more (joint t (first_partner t ts)) (without_partner t ts) else more t (joined ts)

-- the joint of two reduced factors stands at a place among these, counted from 0, and the others are reduced
pub record IsJointAt (at : ℕ) (ts : Trees) : Type 0 where
  pub first : Tree
  pub second : Tree
  pub first_reduced : is_reduced first ≡ true
  pub second_reduced : is_reduced second ≡ true
  pub partners : is_partner first second ≡ true
  pub within : at < count ts
  pub is : nth at ts ≡ joint first second
  pub others : are_reduced (removed at ts) ≡ true
