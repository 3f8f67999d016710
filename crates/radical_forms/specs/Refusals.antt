-- When the reduction of a root is refused.
use Rattle.std.specs.Prelude.{ℕ, ◌≡◌, ◌<ℤ◌, pos, Result, Ok, Err, ⊤}
use Rattle.calc_terms.specs.{Fractions.{whole_fraction}, Rat.{value_of}, Trees.{Tree, num}}
use Rattle.node_pool.specs.declared.full.Full.{Full}
use Rattle.radical_forms.specs.RootAnswers.{IsRootAnswer}
use Rattle.rational128.specs.{Refusals.{DoesNotFit}, declared.overflow.Op.TheVariants.{Mul}, declared.overflow.Overflow.{Overflow}}
use Rattle.tree_handles.specs.{Building.{building}, declared.fault.NumberFault.{NumberFault}}
use Rattle.tree_handles.specs.declared.fault.NumberFault.TheVariants as fault

-- a rational p/q above 0 whose p * q does not fit
abbrev pub HasWideRoot : Tree → Type 0
HasWideRoot (num q) = (pos 0 <ℤ q.num) × DoesNotFit Mul (whole_fraction q.num) (whole_fraction (pos q.den))
HasWideRoot _ = ⊥

-- the product of p and q, for the root of p/q
abbrev pub NamesProduct : Tree → Overflow → Type 0
NamesProduct (num q) o = (o.op ≡ Mul) × (value_of o.a ≡ whole_fraction q.num) × (value_of o.b ≡ whole_fraction (pos q.den))
NamesProduct _ o = ⊥

-- the tree that the root of a reduces to has no room in the free bytes: what the first of its nodes that lacks bytes needs, and what is left for it
pub record LacksRoot (a : Tree) (free : ℕ) (full : Full) : Type 0 where
  pub answer : Tree
  pub root : IsRootAnswer a answer
  pub lacks : building free answer ≡ Err full

-- refused because an operation does not fit
abbrev pub IsOverflow : {A : Type 0} → Result A NumberFault → Type 0
IsOverflow (Ok x) = ⊥
IsOverflow (Err (fault.Full full)) = ⊥
IsOverflow (Err (fault.Overflow o)) = ⊤

-- refused because bytes are lacking
abbrev pub IsFull : {A : Type 0} → Result A NumberFault → Type 0
IsFull (Ok x) = ⊥
IsFull (Err (fault.Full full)) = ⊤
IsFull (Err (fault.Overflow o)) = ⊥
