-- Inverses by terms.
use Rattle.number_forms.proofs.Shared.{◌≡◌, ℕ, ◌≤◌, [], ◌∷◌, Some, Err, length, true, false, refl, sym, ap, ◌∙◌, subst, arith, slice_get, None, is_number, is_term, value, Rises, are_alike, Inverts}
use Rattle.number_forms.proofs.Shared.{Term, term, Surd, Fraction, Tree, Trees, num, add, more, none, size, sizes, Inverts-Same, value_rises, number_words, term_words, Same-eq, IsNumberOf, Full}
use Rattle.number_forms.proofs.Shared.{inverse_trees, IsInverseOf, HasInverse, LacksInverse, InverseOverflows, inverting_calculations, term_tree, sum_of_terms, first_misfit, inverse_of}
use Rattle.number_forms.proofs.Shared.{first_of_inverse, second_of_inverse, building, taking, node_sizes, nodes_sizes, NumberFault, OfOverflow, OfFull, Same-sym}
use Rattle.number_forms.proofs.{ListedTerms.{term_is, term_words_of}, Over.{of_over}, Placings.{lacking_below, lacking_on, rational_term}, Shaped.{single_number, sum_number}, Worth.{some_term}}
use Rattle.calc_algebra.specs.Numbers.{term_of}
use Rattle.surd_terms.specs.{Terms.{term_of as code}, declared.term.Term.{Term as CodeTerm}}
use Rattle.tree_handles.specs.declared.fault.NumberFault.TheVariants as fault

pub only_term : (v : Surd) (x : Term) → length v ≡ 1 → slice_get v 0 ≡ Some x → v ≡ x ∷ []
only_term [] x l e = absurd (omega arith)
only_term (y ∷ []) x l e = ap (λ (z : Term). z ∷ []) (some_term e)
only_term (y ∷ z ∷ v) x l e = absurd (omega arith)

pub both_terms : (v : Surd) (x y : Term) → length v ≡ 2 → slice_get v 0 ≡ Some x → slice_get v 1 ≡ Some y → v ≡ x ∷ y ∷ []
both_terms [] x y l e f = absurd (omega arith)
both_terms (a ∷ []) x y l e f = absurd (omega arith)
both_terms (a ∷ b ∷ []) x y l e f = λ i. some_term e i ∷ some_term f i ∷ []
both_terms (a ∷ b ∷ c ∷ v) x y l e f = absurd (omega arith)

pub apart_terms : (t : Tree) (x y : Term) → is_number t ≡ true → value t ≡ x ∷ y ∷ [] → are_alike x.radicand y.radicand ≡ false
apart_terms t x y h e = grind (arith, value_rises, number_words)

inverse_number : (v w : Surd) (t : Tree) (u : Surd) → v ≡ w → Inverts u w → IsNumberOf u t → inverse_trees v ≡ more t none → IsInverseOf v t
inverse_number v w t u e i n r = record { number = n.number; inverts = Inverts-Same (Same-sym n.worth) (Same-eq (sym e)) i; written = r }

-- the terms of a Number of two classes rise, and so do terms with their radicands
two_rise : (t : Tree) (x y p q : Term) → is_number t ≡ true → value t ≡ x ∷ y ∷ [] → p.radicand ≡ x.radicand → q.radicand ≡ y.radicand → Rises (p ∷ q ∷ [])
two_rise t x y p q h e f g = grind (arith, value_rises, number_words)

-- the sum of two terms whose radicands rise
placed_two : (t u x : Tree) (a b : Term) → t ≡ add (more u (more x none)) → is_term u ≡ true → term_of u ≡ a → is_term x ≡ true → term_of x ≡ b → Rises (a ∷ b ∷ []) → IsNumberOf (a ∷ b ∷ []) t
placed_two t u x a b e h f k g r = grind (arith, of_over, sum_number, term_words)

-- ---- the terms of the inverse

pub one_inverse : (t : Tree) (x : Term) (s : CodeTerm) → value t ≡ x ∷ [] → Inverts (code s ∷ []) (x ∷ []) → code s ≡ inverse_of x → IsInverseOf (value t) (term_tree (code s))
one_inverse t x s e i f =
    inverse_number (value t) (x ∷ []) _ (code s ∷ []) e i
    (subst (λ (z : Term). IsNumberOf (z ∷ []) (term_tree (code s))) (term_is s).1 (of_over (single_number (term_tree (code s)) (term_words_of s))))
    (ap inverse_trees e ∙ ap (λ (z : Term). more (term_tree z) none) (sym f))

pub two_inverse : (t : Tree) (x y : Term) (p q : CodeTerm) → is_number t ≡ true → value t ≡ x ∷ y ∷ [] → Inverts (code p ∷ code q ∷ []) (x ∷ y ∷ []) → code p ≡ first_of_inverse x y
    → code q ≡ second_of_inverse x y → IsInverseOf (value t) (sum_of_terms (code p) (code q))
two_inverse t x y p q n e i f g =
    inverse_number (value t) (x ∷ y ∷ []) _ (code p ∷ code q ∷ []) e i (placed_two _ _ _ (code p) (code q) refl (term_is p).0 (term_is p).1 (term_is q).0 (term_is q).1
    (two_rise t x y (code p) (code q) n e (ap (λ (z : Term). z.radicand) f) (ap (λ (z : Term). z.radicand) g))) (ap inverse_trees e ∙ (λ i. more (sum_of_terms (sym f i) (sym g i)) none))

-- the inverse of a rational is one
pub rational_inverse : (t u : Tree) (q : Fraction) → t ≡ num q → IsInverseOf (value t) u → (r : Fraction) × (u ≡ num r)
rational_inverse t u q e i = ((inverse_of (term q 1)).coefficient, grind (arith, rational_term))

-- ---- where it fits, and its bytes suffice

pub has_inverse : (v : Surd) {t : Tree} (free : ℕ) → first_misfit (inverting_calculations v) ≡ None → IsInverseOf v t → size t ≤ free → HasInverse v free
has_inverse v free m i l = record { calculated = m; room = omega (arith, ap sizes i.written, l) }

pub no_inverse : (v : Surd) (free : ℕ) (e : NumberFault) → OfOverflow (InverseOverflows v) e → OfFull (LacksInverse v free) e → HasInverse v free → ⊥
no_inverse v free (fault.Full full) m l h = absurd (omega (arith, lacking_below free (inverse_trees v) full l.lacks, h.room))
no_inverse v free (fault.Overflow o) m l h = absurd cc

pub lacks_inverse : (v : Surd) {t : Tree} (free : ℕ) (full : Full) → first_misfit (inverting_calculations v) ≡ None → IsInverseOf v t → building free t ≡ Err full → LacksInverse v free full
lacks_inverse v {t} free full m i b = record { calculated = m; lacks = ap (λ (ts : Trees). taking free (nodes_sizes ts)) i.written ∙ lacking_on free (node_sizes t) [] full b }

-- none is made for no class, or for three or more
pub none_to_make : (v : Surd) (free : ℕ) → length v ≡ 0 → HasInverse v free
none_to_make v free e = grind arith

pub too_wide : (v : Surd) (free : ℕ) → 3 ≤ length v → HasInverse v free
too_wide v free l = grind arith
