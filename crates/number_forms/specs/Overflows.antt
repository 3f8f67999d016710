-- Which operation on terms a call on Numbers is refused for.
use Rattle.std.specs.Prelude.{ℕ, suc, drop, ◌+◌, ◌≡◌, ◌<◌, ◌≤◌, ◌⊎◌, List, [], ◌∷◌, ◌++◌, map, Some, slice_get}
use Rattle.calc_algebra.specs.{Numbers.{term_of, value}, SquareClasses.{Same}, Surds.{Term, Surd, term_times, surd_times}}
use Rattle.calc_bits.specs.Denominators.{SharesDenominators}
use Rattle.calc_terms.specs.Trees.{Tree, count}
use Rattle.number_forms.specs.{Answers.{IsPowerOver}, Squares.{twice, square_terms}, Sums.{IsSum, IsSumOf}}
use Rattle.rational128.specs.declared.overflow.Overflow.{Overflow}
use Rattle.surd_terms.specs.{Calculations.{Calculation, calculation_of, first_misfit, joining_calculations, inverse_calculations, inverse_of_sum_calculations, IsProductMisfit}, Products.{IsExtracted}}
use Rattle.tree_handles.specs.Expressions.{children_of, nth}

-- the terms from a place on
abbrev pub terms_from : ℕ → Surd → Surd
terms_from n v = drop n v

-- a term of a sum and t cannot be joined
pub record JoinOverflows (sum : Tree) (t : Term) (o : Overflow) : Type 0 where
  pub at : ℕ
  pub within : at < count (children_of sum)
  pub misfit : Some (calculation_of o) ≡ first_misfit (joining_calculations (term_of (nth at (children_of sum))) t)

-- the terms of w are joined to v one after another; the sum so far, which with those that are left is worth the whole and over its common denominators,
-- has a term with which the next one cannot be joined
pub record SumOverflows (v w : Surd) (o : Overflow) : Type 0 where
  pub at : ℕ
  pub next : Term
  pub here : slice_get w at ≡ Some next
  pub partial : Tree
  pub sum : IsSum partial
  pub worth : Same (value partial ++ terms_from at w) (v ++ w)
  pub parts : SharesDenominators (v ++ w) (value partial ++ terms_from at w)
  pub joined : JoinOverflows partial next o

-- the products of x and the terms of w are joined to v one after another; the sum so far has a term with which the product of x and y, the term of w at
-- this place, cannot be joined
pub record ProductJoinOverflows (v : Surd) (x : Term) (w : Surd) (at : ℕ) (y : Term) (o : Overflow) : Type 0 where
  pub product : Term
  pub extracted : IsExtracted product (term_times x y)
  pub partial : Tree
  pub sum : IsSum partial
  pub worth : Same (value partial ++ map (term_times x) (terms_from at w)) (v ++ map (term_times x) w)
  pub parts : SharesDenominators (v ++ map (term_times x) w) (value partial ++ map (term_times x) (terms_from at w))
  pub joined : JoinOverflows partial product o

-- the product of x and a term of w cannot be made, or not be joined
pub record RowOverflows (v : Surd) (x : Term) (w : Surd) (o : Overflow) : Type 0 where
  pub at : ℕ
  pub other : Term
  pub here : slice_get w at ≡ Some other
  pub cause : IsProductMisfit x other (Some (calculation_of o)) ⊎ ProductJoinOverflows v x w at other o

-- each term of v is multiplied by those of w; at one of them the sum of the products so far is worth, with those that are left, the whole, over its
-- common denominators, and a product cannot be made or joined
pub record ProductOverflows (v w : Surd) (o : Overflow) : Type 0 where
  pub at : ℕ
  pub factor : Term
  pub here : slice_get v at ≡ Some factor
  pub partial : Tree
  pub sum : IsSum partial
  pub worth : Same (value partial ++ surd_times (terms_from at v) w) (surd_times v w)
  pub parts : SharesDenominators (surd_times v w) (value partial ++ surd_times (terms_from at v) w)
  pub row : RowOverflows (value partial) factor w o

-- x times x cannot be joined to a sum
pub record OwnJoinOverflows (sum : Tree) (x : Term) (o : Overflow) : Type 0 where
  pub product : Term
  pub extracted : IsExtracted product (term_times x x)
  pub joined : JoinOverflows sum product o

-- the square of x is joined to a sum, and then the product of twice x and a term of w cannot be made, or not be joined
pub record MixedOverflows (sum : Tree) (x : Term) (w : Surd) (o : Overflow) : Type 0 where
  pub partial : Tree
  pub with_square : IsSumOf (term_times x x ∷ value sum) partial
  pub row : RowOverflows (value partial) (twice x) w o

-- the square of x cannot be made, or not be joined to a sum, or the products of twice x and the terms of w cannot
abbrev pub SquareRowOverflows : Tree → Term → Surd → Overflow → Type 0
SquareRowOverflows sum x w o = IsProductMisfit x x (Some (calculation_of o)) ⊎ OwnJoinOverflows sum x o ⊎ MixedOverflows sum x w o

-- the square of each term of v is made, and twice its product with each later one; at one of them the sum so far is worth, with the square of the terms
-- that are left, the whole, over its common denominators, and a product of that term cannot be made or joined
pub record SquareOverflows (v : Surd) (o : Overflow) : Type 0 where
  pub at : ℕ
  pub factor : Term
  pub here : slice_get v at ≡ Some factor
  pub partial : Tree
  pub sum : IsSum partial
  pub worth : Same (value partial ++ square_terms (terms_from at v)) (square_terms v)
  pub parts : SharesDenominators (square_terms v) (value partial ++ square_terms (terms_from at v))
  pub row : SquareRowOverflows partial factor (terms_from (suc at) v) o

-- the product of two powers cannot be made, or the square of one, whose exponents are at most n together
pub record PowerOverflows (v : Surd) (n : ℕ) (o : Overflow) : Type 0 where
  pub low : ℕ
  pub high : ℕ
  pub within : low + high ≤ n
  pub low_positive : 1 ≤ low
  pub high_positive : 1 ≤ high
  pub first : Tree
  pub second : Tree
  pub first_power : IsPowerOver v low first
  pub second_power : IsPowerOver v high second
  pub product : ProductOverflows (value first) (value second) o ⊎ ((first ≡ second) × SquareOverflows (value first) o)

-- the calculations of the inverse of one term, or of two
abbrev pub inverting_calculations : Surd → List Calculation
inverting_calculations (x ∷ []) = inverse_calculations x
inverting_calculations (x ∷ y ∷ []) = inverse_of_sum_calculations x y
inverting_calculations _ = []

abbrev pub InverseOverflows : Surd → Overflow → Type 0
InverseOverflows v o = Some (calculation_of o) ≡ first_misfit (inverting_calculations v)
