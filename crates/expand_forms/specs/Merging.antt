-- The factors of terms, the first factor of a product of monomials, and new trees behind others.
use Rattle.std.specs.{Prelude.{ℕ, ◌≡◌, ◌≤◌, ◌+◌, [], ◌∷◌, drop, length, Option, Some, None}, declared.cmp.Ordering.{Ordering}, declared.cmp.Ordering.TheVariants.{Less, Equal, Greater}}
use Rattle.std.specs.{Ordering.{nat_cmp}, Cmp.Lexicographic.{slice_cmp}}
use Rattle.calc_terms.specs.Trees.{Trees, count, is_mult}
use Rattle.child_lists.specs.Lists.{Lists}
use Rattle.expand_forms.specs.{declared.factors.Factor.{Factor as Read}, declared.factors.Factors.{Factors}, declared.merging.Next.{Next}, Terms.{IsRead}}
use Rattle.expansions.specs.{Polynomials.{Factor, Monomial, factor, monomial_times}, Terms.{factors_in, first_place}}
use Rattle.tree_handles.specs.{Expressions.{children_of, plain}, Forest.{Forest, join}, Handed.{Represents}, Inside.{tree_at}}

-- the product begins with this factor, which the first factors of one monomial or of both make, and goes on with the product of the others
pub record IsNext (m n : Monomial) (x : Next) : Type 0 where
  pub factor : Factor
  pub read : IsRead x.factor factor
  pub product : monomial_times m n ≡ factor ∷ monomial_times (drop x.left m) (drop x.right n)
  pub some : 1 ≤ x.left + x.right
  pub left_within : x.left ≤ length m
  pub right_within : x.right ≤ length n

-- the same, or both monomials are 1
abbrev pub GoesOn : Monomial → Monomial → Option Next → Type 0
GoesOn m n None = (m ≡ []) × (n ≡ [])
GoesOn m n (Some x) = IsNext m n x

-- of two factors whose names stand in this order the first one, or both as one
abbrev pub IsFirstBy : Ordering → Factor → Factor → Next → Type 0
IsFirstBy Less f g x = IsRead x.factor f × (x.left ≡ 1) × (x.right ≡ 0)
IsFirstBy Equal f g x = IsRead x.factor (factor f.name (f.exponent + g.exponent)) × (x.left ≡ 1) × (x.right ≡ 1)
IsFirstBy Greater f g x = IsRead x.factor g × (x.left ≡ 0) × (x.right ≡ 1)

abbrev pub IsFirst : Factor → Factor → Next → Type 0
IsFirst f g x = IsFirstBy (slice_cmp nat_cmp f.name g.name) f g x

-- ---- the factors of a term

-- a monomial's first factor, or none of 1
abbrev pub BeginsWith : Option Read → Monomial → Type 0
BeginsWith None m = m ≡ []
BeginsWith (Some x) m = (f : Factor) × (r : Monomial) × (m ≡ f ∷ r) × IsRead x f

-- they stand among the children of a product, which are listed, or the only one is the term itself
pub record AreFactors (x : Factors) (term : ℕ) (f : Forest) : Type 0 where
  pub product : x.is_product ≡ is_mult (plain (tree_at term f))
  pub first : x.first ≡ first_place (children_of (plain (tree_at term f)))
  pub count : x.count ≡ count (factors_in (plain (tree_at term f)))
  pub lists : Lists x.list term f

-- ---- new trees

-- new trees of the language stand behind the others, each of their nodes held once
pub record AddsTrees (ts : Trees) (old new : Forest) : Type 0 where
  pub trees : Forest
  pub whole : new ≡ join old trees
  pub represents : Represents trees ts
