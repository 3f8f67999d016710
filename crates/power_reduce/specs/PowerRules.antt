-- What the rewritings of a whole power of reduced trees are, rule by rule, and why going on from each ends.
use Rattle.std.specs.Prelude.{◌≡◌, ◌≤◌, ◌<◌, ◌+◌, ◌⊎◌, ⊤, true, false, ◌&&◌}
use Rattle.calc_terms.specs.{Fractions.{Fraction}, Trees.{Tree, num, mult, power, root, Trees, none, more, is_undef}}
use Rattle.calc_measures.specs.Loads.{nest, load, weight}
use Rattle.calc_algebra.specs.{Numbers.{is_number}, Reduced.{is_reduced, is_opaque_exponent}}
use Rattle.power_reduce.specs.{PowerAnswers.{has_no_power, has_number_power}, PowerSteps.{parts_of, raised}}

-- each tree of a list
abbrev pub EachTree : (Tree → Type 0) → Trees → Type 0
EachTree P none = ⊤
EachTree P (more t ts) = P t × EachTree P ts

-- an even power of a root is a power of its argument, which weighs less than the root
pub record HalvesRoot (b e t : Tree) : Type 0 where
  pub argument : Tree
  pub half : Fraction
  pub base-is : b ≡ root argument
  pub tree-is : t ≡ power argument (num half)
  pub whole : half.den ≡ 1
  pub reduced : is_reduced argument ≡ true
  pub lighter : weight argument < weight b
  pub nest_kept : nest t ≤ nest (power b e)

-- A power of a power is one of the inner base, which weighs less, with the product of the exponents. That product
-- nests less, or its factors are Numbers and it has no load. A tree for it that nests no more, and is a Number
-- where they are, makes a power that nests no more.
pub record JoinsExponents (b e t : Tree) : Type 0 where
  pub inner : Tree
  pub first : Tree
  pub base-is : b ≡ power inner first
  pub tree-is : t ≡ power inner (mult (more first (more e none)))
  pub base_reduced : is_reduced inner ≡ true
  pub first_reduced : is_reduced first ≡ true
  pub lighter : weight inner + 1 ≡ weight b
  pub exponents_nest : (is_number first && is_number e) ≡ false → nest (mult (more first (more e none))) < nest (power b e)
  pub exponents_flat : (is_number first && is_number e) ≡ true → nest (mult (more first (more e none))) ≡ 0
  pub exponents_load : (is_number first && is_number e) ≡ true → load (mult (more first (more e none))) ≡ 0
  pub nest_kept : (p : Tree) → nest p ≤ nest (mult (more first (more e none))) → ((is_number first && is_number e) ≡ true → is_number p ≡ true)
      → nest (power inner p) ≤ nest (power b e)

-- a part of a product is reduced, weighs less than the product, and its power nests no more than the product's
pub record IsLighterPart (b e g : Tree) : Type 0 where
  pub reduced : is_reduced g ≡ true
  pub lighter : weight g < weight b
  pub nest_kept : nest (power g e) ≤ nest (power b e)

-- trees for the powers of these, whose nest and load are bounded as a reduced power's are
abbrev pub AreBoundedPowers : Trees → Tree → Trees → Type 0
AreBoundedPowers none e none = ⊤
AreBoundedPowers (more g gs) e (more u us) = (nest u ≤ nest (power g e)) × (load u ≤ weight g) × AreBoundedPowers gs e us
AreBoundedPowers gs e us = ⊥

-- A power of a product is the product of the powers of its parts, which are lighter. The product of trees for
-- these powers nests no more, and its load is below the weight of the base.
pub record RaisesParts (b e t : Tree) : Type 0 where
  pub factors : Trees
  pub base-is : b ≡ mult factors
  pub tree-is : t ≡ mult (raised (parts_of factors) e)
  pub parts : EachTree (IsLighterPart b e) (parts_of factors)
  pub nest_kept : (us : Trees) → AreBoundedPowers (parts_of factors) e us → nest (mult us) ≤ nest (power b e)
  pub load_below : (us : Trees) → AreBoundedPowers (parts_of factors) e us → load (mult us) < weight b

-- by which of the three rules it was
abbrev pub IsByRule : Tree → Tree → Tree → Type 0
IsByRule b e t = HalvesRoot b e t ⊎ JoinsExponents b e t ⊎ RaisesParts b e t

-- a whole power that is rewritten has a transparent exponent other than Undef, it is no Number's, and it is not Undef at once
pub record IsRewritable (b e : Tree) : Type 0 where
  pub exponent_defined : is_undef e ≡ false
  pub transparent : is_opaque_exponent e ≡ false
  pub has_power : has_no_power b e ≡ false
  pub no_number : has_number_power b e ≡ false
