-- Which product does not fit where a rational is multiplied into terms.
use Rattle.std.specs.Prelude.{◌≡◌, ◌⊎◌, true}
use Rattle.calc_terms.specs.{Fractions.{Fraction}, Rat.{value_of}, Trees.{Tree, num, add, mult, Trees, none, more}}
use Rattle.calc_algebra.specs.Numbers.{is_number}
use Rattle.rational128.specs.{declared.overflow.Op.TheVariants.{Mul}, declared.overflow.Overflow.{Overflow}}

-- a tree is this rational, or its first factor is
abbrev pub Leads : Fraction → Tree → Type 0
Leads c (num d) = d ≡ c
Leads c (mult (more (num d) ts)) = d ≡ c
Leads c t = ⊥

-- some of these trees leads with it, in one way or another
abbrev pub LeadsIn : (Fraction → Tree → Type 0) → Fraction → Trees → Type 0
LeadsIn L c none = ⊥
LeadsIn L c (more t ts) = L c t ⊎ LeadsIn L c ts

-- a term leads with it, or a term of its coefficient, where that is a Number of two square classes or more
abbrev pub LeadsTerm : Fraction → Tree → Type 0
LeadsTerm c (mult (more (add us) ts)) = (is_number (add us) ≡ true) × LeadsIn Leads c us
LeadsTerm c t = Leads c t

-- the operation is the product of q and such a rational
pub record IsMultiple (q : Fraction) (Other : Fraction → Type 0) (o : Overflow) : Type 0 where
  pub product : o.op ≡ Mul
  pub first : value_of o.a ≡ q
  pub second : Other (value_of o.b)

-- the operation is the product of a rational coefficient and a rational that leads a term of the part, which is a sum
abbrev pub NamesPut : Tree → Tree → Overflow → Type 0
NamesPut (num q) (add ts) o = IsMultiple q (λ c. LeadsIn LeadsTerm c ts) o
NamesPut c p o = ⊥
