-- The serial text of a face is what a format writes.
use Rattle.std.specs.Prelude.{ℕ, ◌≡◌, List, ◌∷◌, ◌++◌, Bool, true, false, ◌||◌, nat_le, codes}
use Rattle.pool_layouts.proofs.Shared.{refl, sym, ap, ◌∙◌, append_assoc, append-nil, nat_abs, arith, first_of_sum, left_of_difference, later_of_sum, first_of_product, later_of_product}
use Rattle.pool_layouts.proofs.Shared.{admits, decimal, IsWritable, Token, plus_mark, minus_mark, times_mark, slash_mark, caret_mark, times_sign, root_sign, spelled-append, Tree, num, symbol}
use Rattle.pool_layouts.proofs.Shared.{undef, add, mult, power, root, neg, sub, div, Trees, none, more, is_div, IsComplete, unless, boxed, layout, layout_of_sum, layout_of_terms}
use Rattle.pool_layouts.proofs.Shared.{layout_of_product, layout_of_factors, serial, serials, IsDefined, AreDefined}
use Rattle.calc_language.specs.{Grammar.single, Reads.Reads, Texts.{Place, level}}
use Rattle.calc_language.proofs.{ReadLaws.format_reads, Spelled.{spelled, inside_spelled, joined_spelled}, Written.{Brackets, IsReadable, inside, placed, tokens, tokens_of_sum, tokens_of_terms}}
use Rattle.calc_language.proofs.Written.{tokens_of_product, tokens_of_factors, binding, is_signed, sum_so_far, product_so_far}

-- a fraction stands in no parentheses of its own
abbrev pub open_at : Place → Tree → Bool
open_at p t = is_div t || admits p t

-- parentheses stand where a serial text has them: round each fraction, and round what stands above, below or raised
abbrev pub in_serial : Brackets
in_serial = record {
  first_of_sum = open_at first_of_sum;
  later_of_sum = open_at later_of_sum;
  left_of_difference = open_at left_of_difference;
  first_of_product = open_at first_of_product;
  later_of_product = open_at later_of_product;
  left_of_quotient = λ t. false;
  right_of_quotient = λ t. false;
  base = λ t. nat_le 4 (level t);
  exponent = λ t. false;
  bare_quotients = false;
}

readable_serial : IsReadable in_serial
readable_serial = record {
  first_of_sum = by_sum;
  later_of_sum = by_term;
  first_of_product = by_product;
  later_of_product = by_factor;
  left_of_quotient = λ t h. cc;
  right_of_quotient = λ t h. cc;
  base = by_base;
  exponent = λ t h. cc;
}
  where
    by_sum : (t : Tree) → open_at first_of_sum t ≡ true → sum_so_far t ≡ single t
    by_sum t h = grind arith

    by_term : (t : Tree) → open_at later_of_sum t ≡ true → nat_le 1 (binding in_serial t) ≡ true
    by_term t h = grind arith

    by_product : (t : Tree) → open_at first_of_product t ≡ true → (nat_le 2 (binding in_serial t) ≡ true) × (product_so_far t ≡ single t)
    by_product t h = grind arith

    signed : (t : Tree) → admits later_of_product t ≡ true → is_signed in_serial t ≡ true
    signed (neg a) h = signed a h
    signed (div a b) h = refl
    signed t h = grind arith

    by_factor : (t : Tree) → open_at later_of_product t ≡ true → is_signed in_serial t ≡ true
    by_factor (div a b) h = refl
    by_factor t h = signed t h

    by_base : (t : Tree) → nat_le 4 (level t) ≡ true → nat_le 4 (binding in_serial t) ≡ true
    by_base t h = grind arith

-- ---- the serial text, spelled

module _ (t : Tree) (e : serial (layout t) ≡ spelled (tokens in_serial t)) where
  unless_spelled : (b : Bool) → serial (unless b (layout t)) ≡ spelled (placed b (tokens in_serial t))
  unless_spelled true = e
  unless_spelled false = inside_spelled (tokens in_serial t) (serial (layout t)) e

  boxed_spelled : (p : Place) → serial (boxed p t (layout t)) ≡ spelled (placed (open_at p t) (tokens in_serial t))
  boxed_spelled p = unless_spelled (open_at p t)

fraction_spelled : (a b : List Token) (x y : List ℕ) → x ≡ spelled a → y ≡ spelled b → codes "((" ++ (x ++ (codes ")/(" ++ (y ++ codes "))"))) ≡ spelled (inside (inside a ++ slash_mark ∷ inside b))
fraction_spelled a b x y p q =
    let inner : (codes "(" ++ (x ++ codes ")")) ++ (codes "/" ++ (codes "(" ++ (y ++ codes ")"))) ≡ spelled (inside a ++ slash_mark ∷ inside b) =
    joined_spelled (inside a) (inside b) slash_mark _ _ (inside_spelled a x p) (inside_spelled b y q) in
    spread x y ∙ inside_spelled (inside a ++ slash_mark ∷ inside b) _ inner
  where
    spread : (x y : List ℕ) → codes "((" ++ (x ++ (codes ")/(" ++ (y ++ codes "))"))) ≡ codes "(" ++ (((codes "(" ++ (x ++ codes ")")) ++ (codes "/" ++ (codes "(" ++ (y ++ codes ")")))) ++ codes ")")
    spread x y = simp append_assoc

mutual
  serial_spelled : (t : Tree) → IsDefined t → serial (layout t) ≡ spelled (tokens in_serial t)
  serial_spelled (num q) d = sym (append-nil (decimal (nat_abs q.num)))
  serial_spelled (symbol x) d = sym (append-nil x)
  serial_spelled undef d = absurd d
  serial_spelled (add ts) d = sum_spelled ts d
  serial_spelled (mult ts) d = product_spelled ts d
  serial_spelled (power b e) d =
      ap (λ x. serial (unless (nat_le 4 (level b)) (layout b)) ++ x) (append-nil (codes "^(" ++ (serial (layout e) ++ codes ")")))
      ∙ joined_spelled (placed (nat_le 4 (level b)) (tokens in_serial b)) (inside (tokens in_serial e)) caret_mark _ _
      (unless_spelled b (serial_spelled b d.0) (nat_le 4 (level b))) (inside_spelled (tokens in_serial e) (serial (layout e)) (serial_spelled e d.1))
  serial_spelled (root a) d = ap (λ x. root_sign ++ x) (inside_spelled (tokens in_serial a) (serial (layout a)) (serial_spelled a d))
  serial_spelled (neg a) d = ap (λ x. codes "-" ++ x) (append-nil (serial (boxed later_of_sum a (layout a))) ∙ boxed_spelled a (serial_spelled a d) later_of_sum)
  serial_spelled (sub a b) d =
      ap (λ x. serial (boxed left_of_difference a (layout a)) ++ (codes "-" ++ x)) (append-nil (serial (boxed later_of_sum b (layout b))))
      ∙ joined_spelled (placed (open_at left_of_difference a) (tokens in_serial a)) (placed (open_at later_of_sum b) (tokens in_serial b)) minus_mark _ _
      (boxed_spelled a (serial_spelled a d.0) left_of_difference) (boxed_spelled b (serial_spelled b d.1) later_of_sum)
  serial_spelled (div a b) d = fraction_spelled (tokens in_serial a) (tokens in_serial b) (serial (layout a)) (serial (layout b)) (serial_spelled a d.0) (serial_spelled b d.1)

  sum_spelled : (ts : Trees) → AreDefined ts → serials (layout_of_sum ts) ≡ spelled (tokens_of_sum in_serial ts)
  sum_spelled none d = refl
  sum_spelled (more t ts) d =
      (λ i. boxed_spelled t (serial_spelled t d.0) first_of_sum i ++ terms_spelled ts d.1 i)
      ∙ sym (spelled-append (placed (open_at first_of_sum t) (tokens in_serial t)) (tokens_of_terms in_serial ts))

  terms_spelled : (ts : Trees) → AreDefined ts → serials (layout_of_terms ts) ≡ spelled (tokens_of_terms in_serial ts)
  terms_spelled none d = refl
  terms_spelled (more t ts) d =
      (λ i. codes "+" ++ (boxed_spelled t (serial_spelled t d.0) later_of_sum i ++ terms_spelled ts d.1 i))
      ∙ sym (spelled-append (plus_mark ∷ placed (open_at later_of_sum t) (tokens in_serial t)) (tokens_of_terms in_serial ts))

  product_spelled : (ts : Trees) → AreDefined ts → serials (layout_of_product ts) ≡ spelled (tokens_of_product in_serial ts)
  product_spelled none d = refl
  product_spelled (more t ts) d =
      (λ i. boxed_spelled t (serial_spelled t d.0) first_of_product i ++ factors_spelled ts d.1 i)
      ∙ sym (spelled-append (placed (open_at first_of_product t) (tokens in_serial t)) (tokens_of_factors in_serial ts))

  factors_spelled : (ts : Trees) → AreDefined ts → serials (layout_of_factors ts) ≡ spelled (tokens_of_factors in_serial ts)
  factors_spelled none d = refl
  factors_spelled (more t ts) d =
      (λ i. times_sign ++ (boxed_spelled t (serial_spelled t d.0) later_of_product i ++ factors_spelled ts d.1 i))
      ∙ sym (spelled-append (times_mark ∷ placed (open_at later_of_product t) (tokens in_serial t)) (tokens_of_factors in_serial ts))

pub serial_reads : (u : Tree) → IsComplete u → IsDefined u → IsWritable u → Reads (serial (layout u)) u
serial_reads u f n w = format_reads in_serial readable_serial u (serial (layout u)) f w (serial_spelled u n)
