-- Factors as the code has them, and the keys of terms.
use Rattle.std.specs.Prelude.{◌≡◌, ◌≢◌, ◌≤◌, pos, [], Option, Some, None}
use Rattle.calc_terms.specs.{Fractions.{lowest}, Leaf.{name_of}, Rat.{value_of}}
use Rattle.expand_forms.specs.declared.factors.Factor.{Factor as Read}
use Rattle.expansions.specs.{ExpandedTrees.{monomial_tree}, Polynomials.{Factor, Monomial}}
use Rattle.node_order.specs.{declared.keys.Key.{Key}, Keys.{IsKey, key_tree}}
use Rattle.tree_handles.specs.Forest.{Forest}

-- the key of a monomial, and none of 1
abbrev pub IsMonomialKey : Monomial → Forest → Option Key → Type 0
IsMonomialKey m f None = m ≡ []
IsMonomialKey m f (Some k) = IsKey k f × (key_tree k f ≡ monomial_tree m) × (m ≢ [])

-- a factor as the code has it
pub record IsRead (f : Read) (g : Factor) : Type 0 where
  pub name : name_of f.name ≡ g.name
  pub exponent : value_of f.exponent ≡ lowest (pos g.exponent) 1
  pub positive : 1 ≤ g.exponent
