-- Lemmas on the tree of a root: it is reduced and defined, and its bytes and those of its face.
use Rattle.std.proofs.Common.{◌≡◌, ◌∙◌, ℕ, ◌+◌, ◌≤◌, Bool, true, false, refl, ap, arith}
use Rattle.std.specs.Prelude.{nat_lt}
use Rattle.calc_algebra.proofs.NumberClasses.{one_apart_from_clean}
use Rattle.calc_algebra.specs.{Numbers.{is_number, is_term, term_of}, Reduced.{all_parts, has_form, is_reduced}, SquareClasses.{are_alike}, Surds.{Term, term}}
use Rattle.calc_session.proofs.Shared.{face, has_minus, unsigned_face, with_minus, next_term, as_tree, Fraction, is_zero_fraction, Tree, num, add, mult, none, more, is_undef, size, lt-ltb, value_of}
use Rattle.calc_session.specs.{RootTexts.{IsIrrational, surd_tree, tree_in}, declared.root_text.Root.{Root}, declared.root_text.Root.TheVariants.{Rational, Irrational}}
use Rattle.calc_language.specs.Grammar.{single}
use Rattle.calc_terms.specs.Trees.{root}
use Rattle.number_forms.proofs.ListedTerms.{term_is}
use Rattle.number_forms.specs.Shapes.{term_tree}
use Rattle.surd_terms.specs.{Terms.{term_of as term_in}, declared.term.Term.{Term as CodeTerm}}

-- ---- it is reduced

number_reduced : (q : Fraction) → is_reduced (num q) ≡ true
unfolding is_reduced is_number
number_reduced q = grind arith

term_parts : (t : Tree) → is_term t ≡ true → all_parts has_form t ≡ true
unfolding is_number
term_parts t h = grind arith

term_reduced : (t : Tree) → is_term t ≡ true → is_reduced t ≡ true
unfolding is_reduced
term_reduced t h = grind (arith, term_parts)

sum_reduced : (m : Fraction) (u : Tree) → is_zero_fraction m ≡ false → is_term u ≡ true → nat_lt 1 (term_of u).radicand ≡ true → are_alike 1 (term_of u).radicand ≡ false → is_reduced (add (more (num m) (more u none))) ≡ true
unfolding is_reduced is_number
sum_reduced m u z t l a = grind (arith, term_parts)

surd_reduced : (m : Fraction) (t : CodeTerm) → 2 ≤ t.radicand → is_reduced (surd_tree m (term_in t).coefficient (term_in t).radicand) ≡ true
surd_reduced m t l = by (is_zero_fraction m) refl
  where
    u : Tree
    u = term_tree (term_in t)

    apart : are_alike 1 (term_of u).radicand ≡ false
    apart = ap (λ (x : Term). are_alike 1 x.radicand) (term_is t).1 ∙ one_apart_from_clean t.radicand l t.clean

    above : nat_lt 1 (term_of u).radicand ≡ true
    above = ap (λ (x : Term). nat_lt 1 x.radicand) (term_is t).1 ∙ lt-ltb 1 t.radicand (omega (arith, l))

    by : (b : Bool) → is_zero_fraction m ≡ b → is_reduced (surd_tree m (term_in t).coefficient (term_in t).radicand) ≡ true
    by true e = grind (arith, term_reduced u (term_is t).0)
    by false e = grind (arith, sum_reduced m u e (term_is t).0 above apart)

pub root_reduced : (r : Root) → IsIrrational r → is_reduced (tree_in r) ≡ true
root_reduced (Rational q) h = number_reduced (value_of q)
root_reduced (Irrational q t) h = surd_reduced (value_of q) t h

-- ---- it is defined

surd_defined : (m s : Fraction) (t : ℕ) → is_undef (surd_tree m s t) ≡ false
surd_defined m s t = grind arith

pub root_defined : (r : Root) → is_undef (tree_in r) ≡ false
root_defined (Rational q) = refl
root_defined (Irrational q t) = surd_defined (value_of q) (term_in t).coefficient (term_in t).radicand

-- ---- its bytes

pub size_of_num : (q : Fraction) → size (num q) ≤ 40
size_of_num q = grind arith

pub size_of_term : (t : Term) → size (term_tree t) ≤ 96
size_of_term t = grind arith

size_of_surd : (m s : Fraction) (t : ℕ) → size (surd_tree m s t) ≤ 144
size_of_surd m s t = grind (arith, size_of_num, size_of_term)

pub size_of_root : (r : Root) → size (tree_in r) ≤ 144
size_of_root (Rational q) = omega (arith, size_of_num (value_of q))
size_of_root (Irrational q t) = size_of_surd (value_of q) (term_in t).coefficient (term_in t).radicand

-- ---- those of its face

size-minus : (b : Bool) (t : Tree) → size (with_minus b t) ≤ size t + 8
size-minus b t = grind arith

size-next : (t u : Tree) (b : Bool) → size (as_tree (next_term (single t) b u)) ≤ size t + size u + 8
size-next t u b = grind arith

number_face : (q : Fraction) → size (unsigned_face (num q)) ≤ 88
number_face q = grind arith

pub face_of_rational : (q : Fraction) → size (face (num q)) ≤ 96
face_of_rational q = omega (arith, size-minus (has_minus (num q)) (unsigned_face (num q)), number_face q)

root_face : (r : Fraction) → size (unsigned_face (root (num r))) ≤ 104
root_face r = omega (arith, face_of_rational r)

multiple_face : (q r : Fraction) → size (unsigned_face (mult (more (num q) (more (root (num r)) none)))) ≤ 200
multiple_face q r = grind (arith, face_of_rational)

term_face : (t : Term) → size (unsigned_face (term_tree t)) ≤ 200
term_face t = grind (arith, number_face, root_face, multiple_face)

sum_face : (m : Fraction) (u : Tree) → size (face (add (more (num m) (more u none)))) ≤ 104 + size (unsigned_face u)
sum_face m u = omega (arith, face_of_rational m, size-next (face (num m)) (unsigned_face u) (has_minus u))

pub face_of_surd : (m s : Fraction) (t : ℕ) → size (face (surd_tree m s t)) ≤ 304
face_of_surd m s t = by (is_zero_fraction m) refl
  where
    u : Tree
    u = term_tree (term s t)

    by : (b : Bool) → is_zero_fraction m ≡ b → size (face (surd_tree m s t)) ≤ 304
    by true e = grind (arith, size-minus (has_minus u) (unsigned_face u), term_face (term s t))
    by false e = grind (arith, sum_face m u, term_face (term s t))
