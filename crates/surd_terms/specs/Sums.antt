-- What the sum of two terms comes to.
use Rattle.std.specs.{Prelude.{ℕ, ◌*◌, ◌≡◌, pos, true, false, [], ◌∷◌, ⊤}, Int.{IsGcd}}
use Rattle.calc_terms.specs.Fractions.{plus, times, zero_fraction, whole_fraction}
use Rattle.calc_algebra.specs.{SquareClasses.{are_alike, Same}, Surds.{Term}}
use Rattle.surd_terms.specs.{Terms.{term_of}, declared.sums.Joined.{Joined}}
use Rattle.surd_terms.specs.declared.sums.Joined.TheVariants as joined

-- the sum of a and b over the root of what their radicands share, of which each is a multiple by a square
pub record IsSum (t a b : Term) : Type 0 where
  pub first : ℕ
  pub second : ℕ
  pub shared : IsGcd a.radicand b.radicand t.radicand
  pub first_part : a.radicand ≡ t.radicand * first * first
  pub second_part : b.radicand ≡ t.radicand * second * second
  pub coefficient : t.coefficient ≡ plus (times a.coefficient (whole_fraction (pos first))) (times b.coefficient (whole_fraction (pos second)))

-- the term t, or no term where its coefficient is 0
abbrev pub ComesTo : Joined → Term → Type 0
ComesTo joined.Apart t = ⊥
ComesTo joined.Zero t = t.coefficient ≡ zero_fraction
ComesTo (joined.Term u) t = term_of u ≡ t

-- terms that are not alike stay apart; others become one term of the same value, or none where they cancel
abbrev pub Joins : Joined → Term → Term → Type 0
Joins joined.Apart a b = are_alike a.radicand b.radicand ≡ false
Joins joined.Zero a b = (are_alike a.radicand b.radicand ≡ true) × Same [] (a ∷ b ∷ [])
Joins (joined.Term t) a b = (are_alike a.radicand b.radicand ≡ true) × Same (term_of t ∷ []) (a ∷ b ∷ [])

-- a fact of the one term
abbrev pub IfTerm : Joined → (Term → Type 0) → Type 0
IfTerm joined.Apart P = ⊤
IfTerm joined.Zero P = ⊤
IfTerm (joined.Term t) P = P (term_of t)
