-- Lemmas on the bytes of a form's tree and of its face.
use Rattle.std.proofs.Common.{◌≡◌, ℕ, ◌+◌, ◌*◌, ◌≤◌, List, [], ◌∷◌, Bool, false, if◌then◌else◌, refl, arith}
use Rattle.std.specs.Prelude.{⊤}
use Rattle.calc_session.proofs.Shared.{face, has_minus, next_term, next_terms, unsigned_face, with_minus, SoFar, as_tree, Fraction, is_zero_fraction, zero_fraction, Tree, num}
use Rattle.calc_session.proofs.{Shared.{Trees, none, more, count, is_undef, size, sizes, IsSmall, form_tree, multiple_of, multiples, sum_of_trees, summands}, FormLemmas.{sizes_of_multiples}}
use Rattle.calc_terms.proofs.SmallLaws.{sizes_append as sizes-append}

size_num : (q : Fraction) → size (num q) ≤ 40
size_num q = grind arith

size-minus : (b : Bool) (t : Tree) → size (with_minus b t) ≤ size t + 8
size-minus b t = grind arith

size-next : (s : SoFar) (b : Bool) (t : Tree) → size (as_tree (next_term s b t)) ≤ size (as_tree s) + size t + 8
size-next s b t = grind (arith, sizes-append)

-- ---- faces without their signs

number_face : (q : Fraction) → size (unsigned_face (num q)) ≤ 88
number_face q = grind arith

multiple_face : (q : Fraction) (x : List ℕ) → size (unsigned_face (multiple_of q x)) ≤ 112
multiple_face q x = grind arith

-- ---- sums of them

abbrev AreSmall : Trees → Type 0
AreSmall none = ⊤
AreSmall (more t ts) = (size (unsigned_face t) ≤ 112) × AreSmall ts

small_multiples : (xs : List (List ℕ)) (qs : List Fraction) → AreSmall (multiples xs qs)
small_multiples [] qs = tt
small_multiples (x ∷ xs) [] = tt
small_multiples (x ∷ xs) (q ∷ qs) = grind (arith, small_multiples xs qs, multiple_face)

terms_face : (s : SoFar) (ts : Trees) → AreSmall ts → size (as_tree (next_terms s ts)) ≤ size (as_tree s) + 120 * count ts
terms_face s none h = omega arith
terms_face s (more t ts) h = omega (arith, size-next s (has_minus t) (unsigned_face t), h.0, terms_face (next_term s (has_minus t) (unsigned_face t)) ts h.1)

sum_face : (t : Tree) (ts : Trees) → AreSmall ts → size (face (sum_of_trees (more t ts))) ≤ size (unsigned_face t) + 8 + 120 * count ts
sum_face t ts h = grind (arith, size-minus, terms_face)

no_face : size (face (num zero_fraction)) ≤ 96
no_face = omega (arith, size-minus (has_minus (num zero_fraction)) (unsigned_face (num zero_fraction)), number_face zero_fraction)

-- the face of a form is at most 96 bytes, and 120 for each multiple
pub face_of_form : (xs : List (List ℕ)) (q : Fraction) (qs : List Fraction) → IsSmall xs qs → size (face (form_tree xs q qs)) ≤ 696
face_of_form xs q qs h = grind (arith, no_face, sum_face, small_multiples, number_face)

-- ---- the tree itself

pub sizes_of_summands : (xs : List (List ℕ)) (q : Fraction) (qs : List Fraction) → IsSmall xs qs → sizes (summands xs q qs) ≤ 360
sizes_of_summands xs q qs h = grind (arith, sizes_of_multiples, size_num)

size_of_sum : (ts : Trees) → size (sum_of_trees ts) ≤ 40 + sizes ts
size_of_sum ts = grind arith

pub size_of_form : (xs : List (List ℕ)) (q : Fraction) (qs : List Fraction) → IsSmall xs qs → size (form_tree xs q qs) ≤ 400
size_of_form xs q qs few = omega (arith, size_of_sum (summands xs q qs), sizes_of_summands xs q qs few)

-- ---- it is defined

sum_defined : (t : Tree) (ts : Trees) → is_undef t ≡ false → is_undef (sum_of_trees (more t ts)) ≡ false
sum_defined t none e = e
sum_defined t (more u ts) e = refl

multiple_defined : (q : Fraction) (x : List ℕ) → is_undef (multiple_of q x) ≡ false
multiple_defined q x = grind arith

defined_more : (q : Fraction) (x : List ℕ) (ts : Trees) → is_undef (sum_of_trees ts) ≡ false → is_undef (sum_of_trees (if is_zero_fraction q then ts else more (multiple_of q x) ts)) ≡ false
defined_more q x ts h = grind (arith, sum_defined, multiple_defined)

multiples_defined : (xs : List (List ℕ)) (qs : List Fraction) → is_undef (sum_of_trees (multiples xs qs)) ≡ false
multiples_defined [] qs = refl
multiples_defined (x ∷ xs) [] = refl
multiples_defined (x ∷ xs) (q ∷ qs) = defined_more q x (multiples xs qs) (multiples_defined xs qs)

pub form_defined : (xs : List (List ℕ)) (q : Fraction) (qs : List Fraction) → is_undef (form_tree xs q qs) ≡ false
form_defined xs q qs = grind (arith, sum_defined, multiples_defined)
