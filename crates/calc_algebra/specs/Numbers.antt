-- Numbers: sums of rational multiples of square roots, a term for each square class, and their values.
use Rattle.std.specs.Prelude.{ℕ, ◌≡◌, ◌≢◌, ◌≤◌, ◌<◌, ⊤, ℤ, pos, negsuc, [], ◌∷◌, Bool, true, false, ◌&&◌, ◌==◌, not, nat_lt, nat_le, if◌then◌else◌, length}
use Rattle.calc_terms.specs.{Fractions.{Fraction, zero_fraction, one_fraction, is_zero_fraction, is_one_fraction}, Trees.{Tree, num, add, mult, root, Trees, none, more}}
use Rattle.calc_algebra.specs.{Clean.{is_clean, IsClean}, Surds.{Term, Surd, term, surd_of}, SquareClasses.{are_alike}}

-- ---- terms

-- n where the number is n, and 0 where it is below 0
abbrev pub natural_of : ℤ → ℕ
natural_of (pos n) = n
natural_of (negsuc n) = 0

-- a whole number of at least 2 that is clean
abbrev pub is_radicand : Fraction → Bool
is_radicand q = (q.den == 1) && nat_le 2 (natural_of q.num) && is_clean (natural_of q.num)

-- a term other than 0: a rational, a root, or a rational other than 1 times a root
abbrev pub is_term : Tree → Bool
is_term (num q) = not (is_zero_fraction q)
is_term (root (num r)) = is_radicand r
is_term (mult (more (num q) (more (root (num r)) none))) = not (is_zero_fraction q) && not (is_one_fraction q) && is_radicand r
is_term _ = false

-- its coefficient and its radicand, which is 1 for a rational
abbrev pub term_of : Tree → Term
term_of (num q) = term q 1
term_of (root (num r)) = term one_fraction (natural_of r.num)
term_of (mult (more (num q) (more (root (num r)) none))) = term q (natural_of r.num)
term_of _ = term zero_fraction 1

abbrev pub terms_of : Trees → Surd
terms_of none = []
terms_of (more t ts) = term_of t ∷ terms_of ts

abbrev pub are_terms : Trees → Bool
are_terms none = true
are_terms (more t ts) = is_term t && are_terms ts

-- the radicand is below each of those, and alike with none
abbrev pub is_below_all : Term → Surd → Bool
is_below_all t [] = true
is_below_all t (u ∷ v) = nat_lt t.radicand u.radicand && not (are_alike t.radicand u.radicand) && is_below_all t v

-- radicands rise, and no two are alike
abbrev pub rises : Surd → Bool
rises [] = true
rises (t ∷ v) = is_below_all t v && rises v

-- ---- Numbers

-- a rational, a term, or a sum of two terms or more whose radicands rise, no two alike
unfoldable pub is_number : Tree → Bool
is_number (num q) = true
is_number (add ts) = nat_le 2 (length (terms_of ts)) && are_terms ts && rises (terms_of ts)
is_number t = is_term t

-- the value of a Number: its terms, and none for 0
abbrev pub value : Tree → Surd
value (num q) = if is_zero_fraction q then [] else surd_of q
value (add ts) = terms_of ts
value t = term_of t ∷ []

-- the classes of a Number are its terms
abbrev pub classes : Tree → ℕ
classes t = length (value t)

-- ---- the same in words

abbrev pub IsRadicand : Fraction → Type 0
IsRadicand q = (q.den ≡ 1) × (r : ℕ) × (q.num ≡ pos r) × (2 ≤ r) × IsClean r

abbrev pub IsTerm : Tree → Type 0
IsTerm (num q) = q ≢ zero_fraction
IsTerm (root (num r)) = IsRadicand r
IsTerm (mult (more (num q) (more (root (num r)) none))) = (q ≢ zero_fraction) × (q ≢ one_fraction) × IsRadicand r
IsTerm _ = ⊥

abbrev pub AreTerms : Trees → Type 0
AreTerms none = ⊤
AreTerms (more t ts) = IsTerm t × AreTerms ts

abbrev pub IsBelowAll : Term → Surd → Type 0
IsBelowAll t [] = ⊤
IsBelowAll t (u ∷ v) = (t.radicand < u.radicand) × (are_alike t.radicand u.radicand ≡ false) × IsBelowAll t v

abbrev pub Rises : Surd → Type 0
Rises [] = ⊤
Rises (t ∷ v) = IsBelowAll t v × Rises v

abbrev pub IsNumber : Tree → Type 0
IsNumber (num q) = ⊤
IsNumber (add ts) = (2 ≤ length (terms_of ts)) × AreTerms ts × Rises (terms_of ts)
IsNumber t = IsTerm t

-- each child is a Number
abbrev pub are_numbers : Trees → Bool
are_numbers none = true
are_numbers (more t ts) = is_number t && are_numbers ts
