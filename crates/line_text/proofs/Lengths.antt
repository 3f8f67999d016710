-- A text has at most twice the bytes of the nodes of its tree, with room for a sign and parentheses.
use Rattle.line_text.proofs.Shared.{ℕ, ◌+◌, ◌*◌, ◌^◌, ◌<◌, ◌≤◌, ◌≡◌, refl, List, ◌++◌, length, Bool, true, false, nat_abs, codes, arith, length-append, ltb-true, decimal, first_of_sum, later_of_sum}
use Rattle.line_text.proofs.Shared.{first_of_product, left_of_quotient, later_of_product, base, exponent, admits, at_place, in_parentheses, text, text_of_sum, text_of_terms, text_of_product}
use Rattle.line_text.proofs.Shared.{text_of_factors, IsWritable, AreWritable, times_sign, Tree, num, symbol, undef, add, mult, power, root, neg, sub, div, Trees, none, more, size, sizes, AllPartsOf}
use Rattle.line_text.proofs.{Shared.{Fraction, IsFitting, HasFittingNumbers, is_short, spelled, cond, size_by_form, short_magnitude}, Decimals.{decimal_short, decimal_shorter}}
use Rattle.calc_language.specs.Texts.{Place}
use Rattle.calc_terms.specs.declared.kind.Kind.TheVariants as kind

-- a tree in its place has two parentheses more at most
enclosed : (b : Bool) (bytes : List ℕ) → length (cond b bytes (in_parentheses bytes)) ≤ length bytes + 2
enclosed true bytes = omega arith
enclosed false bytes = omega (arith, length-append (codes "(" ++ bytes) (codes ")"))

placed : (p : Place) (t : Tree) (bytes : List ℕ) → length (at_place p t bytes) ≤ length bytes + 2
placed p t bytes = enclosed (admits p t) bytes

-- a number by its form
pub number_text : (b : Bool) (q : Fraction) → is_short q ≡ b → nat_abs q.num < 2 ^ 127 → length (decimal (nat_abs q.num)) + 8 ≤ 2 * size_by_form kind.Num b
number_text b q e f = grind (arith, decimal_shorter, short_magnitude, decimal_short)

mutual
  pub short : (t : Tree) → IsWritable t → HasFittingNumbers t → length (text t) + 4 ≤ 2 * size t
  short (num q) w f = omega (arith, number_text (is_short q) q refl (ltb-true (nat_abs q.num) (2 ^ 127) f))
  short (symbol x) w f = omega (arith, (spelled x w).short)
  short undef w f = omega arith
  short (add ts) w f = omega (arith, short_sum ts w f.1)
  short (mult ts) w f = omega (arith, short_product ts w f.1)
  short (power b e) w f =
      omega (
        arith,
        short b w.0 f.1,
        short e w.1 f.2,
        placed base b (text b),
        placed exponent e (text e),
        length-append (at_place base b (text b) ++ codes "^") (at_place exponent e (text e)),
        length-append (at_place base b (text b)) (codes "^"),
      )
  short (root a) w f = omega (arith, short a w f.1, length-append (codes "(" ++ text a) (codes ")"))
  short (neg a) w f = omega (arith, short a w f.1, placed later_of_sum a (text a))
  short (sub a b) w f =
      omega (arith, short a w.0 f.1, short b w.1 f.2, placed later_of_sum b (text b), length-append (text a ++ codes "-") (at_place later_of_sum b (text b)), length-append (text a) (codes "-"))
  short (div a b) w f =
      omega (
        arith,
        short a w.0 f.1,
        short b w.1 f.2,
        placed left_of_quotient a (text a),
        placed later_of_product b (text b),
        length-append (at_place left_of_quotient a (text a) ++ codes "/") (at_place later_of_product b (text b)),
        length-append (at_place left_of_quotient a (text a)) (codes "/"),
      )

  short_sum : (ts : Trees) → AreWritable ts → AllPartsOf IsFitting ts → length (text_of_sum ts) ≤ 2 * sizes ts
  short_sum none w f = omega arith
  short_sum (more t ts) w f = omega (arith, short t w.0 f.0, placed first_of_sum t (text t), short_terms ts w.1 f.1, length-append (at_place first_of_sum t (text t)) (text_of_terms ts))

  short_terms : (ts : Trees) → AreWritable ts → AllPartsOf IsFitting ts → length (text_of_terms ts) ≤ 2 * sizes ts
  short_terms none w f = omega arith
  short_terms (more t ts) w f = omega (arith, short t w.0 f.0, placed later_of_sum t (text t), short_terms ts w.1 f.1, length-append (codes "+" ++ at_place later_of_sum t (text t)) (text_of_terms ts))

  short_product : (ts : Trees) → AreWritable ts → AllPartsOf IsFitting ts → length (text_of_product ts) ≤ 2 * sizes ts
  short_product none w f = omega arith
  short_product (more t ts) w f = omega (arith, short t w.0 f.0, placed first_of_product t (text t), short_factors ts w.1 f.1, length-append (at_place first_of_product t (text t)) (text_of_factors ts))

  short_factors : (ts : Trees) → AreWritable ts → AllPartsOf IsFitting ts → length (text_of_factors ts) ≤ 2 * sizes ts
  short_factors none w f = omega arith
  short_factors (more t ts) w f = omega (arith, short t w.0 f.0, placed later_of_product t (text t), short_factors ts w.1 f.1, length-append (times_sign ++ at_place later_of_product t (text t)) (text_of_factors ts))
