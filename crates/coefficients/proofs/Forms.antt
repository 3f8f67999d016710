-- Parts that have their form, and the parts of Numbers.
use Rattle.coefficients.proofs.Shared.{arith, ◌≡◌, inr, true, false, refl, not_from_false, one_fraction, is_one_fraction, is_number, is_term, IsNumber, IsTerm, AreTerms, is_reduced, HasForm, Tree}
use Rattle.coefficients.proofs.Shared.{num, mult, root, Trees, none, more, append, AllParts, AllPartsOf, is_undef, zero_test, whole_numerator, whole_denominator, number_test, reduced_words}
use Rattle.coefficients.proofs.Shared.{reduced_test}

-- ---- reduced trees

pub reduced_parts : (t : Tree) → is_reduced t ≡ true → is_undef t ≡ false → AllParts HasForm t
reduced_parts t h d = grind (arith, reduced_words)

pub parts_reduced : (t : Tree) → AllParts HasForm t → is_reduced t ≡ true
parts_reduced t h = reduced_test t (inr h)

-- Undef has no form
pub parts_defined : (t : Tree) → AllParts HasForm t → is_undef t ≡ false
parts_defined t h = grind arith

pub AllPartsOf-append : (P : Tree → Type 0) (ts us : Trees) → AllPartsOf P ts → AllPartsOf P us → AllPartsOf P (append ts us)
AllPartsOf-append P none us h k = k
AllPartsOf-append P (more t ts) us h k = (h.0, AllPartsOf-append P ts us h.1 k)

-- ---- Numbers

pub term_parts : (t : Tree) → IsTerm t → AllParts HasForm t
term_parts t h = grind arith

pub terms_parts : (ts : Trees) → AreTerms ts → AllPartsOf HasForm ts
terms_parts none h = tt
terms_parts (more t ts) h = (term_parts t h.0, terms_parts ts h.1)

-- a Number is reduced
pub number_parts : (t : Tree) → IsNumber t → AllParts HasForm t
number_parts t h = grind (arith, terms_parts, term_parts)

pub no_term : (t : Tree) → is_number t ≡ false → is_term t ≡ false
unfolding is_number
no_term t h = grind arith
