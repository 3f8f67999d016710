-- What a quotient answers, from the answers for the inverse and for the product.
use Rattle.deep_reduce.proofs.Shared.{◌≡◌, ◌+◌, ◌*◌, negsuc, arith, ◌⊎◌, inl, inr, Bool, true, false, ◌&&◌, refl, sym, ap, ◌∙◌, subst, append-nil, ◌||◌, Contains, if◌then◌else◌, [], ◌++◌}
use Rattle.deep_reduce.proofs.Shared.{fraction_fits, mul_op, Fraction, minus_one_fraction, inverse, is_zero_fraction, is_number, PlainValue, undefined, calculated, plain_value, Tree, num, undef, mult}
use Rattle.deep_reduce.proofs.Shared.{power, div, none, names, is_undef, is_num, has_undef, are_rationals, IsNodeAnswer, IsNodeOverflow, holds_whole, lacks_power, is_number_power, Overflow, keeps}
use Rattle.deep_reduce.proofs.Shared.{kept, reduces_after, IsPlainAnswer, IsPlainOverflow, Rewrites, Reduces, and_from, and_parts, or_cases, or_from, or_parts, cases_Bool, undef_words, undef_test}
use Rattle.deep_reduce.proofs.{Shared.{two_factors, second_side, answer_defined, quotient_room, div_as_product, inverse_value, zero_inverse}, EasyNodes.{number_defined}, NodeRewrites.{both}}
use Rattle.deep_reduce.proofs.Steps.{two, left_undefined, right_undefined, two_rationals, product_value, AreTwo, are_two}
use Rattle.calc_algebra.proofs.MeaningRewrites as rewrites

abbrev inverse_tree : Tree → Tree
inverse_tree b = power b (num minus_one_fraction)

div_rewrites : (a b c : Tree) → Reduces (inverse_tree b) c → Rewrites (div a b) (mult (two a c))
div_rewrites a b c h = record {
  no_new_name = record {
    name = λ x m. both (names a) (names b) (names a) (names c ++ []) (λ y k. k)
        (λ y k. subst (λ ys. Contains ys y) (append-nil (names b)) (h.no_new_name.name y (subst (λ ys. Contains ys y) (append-nil (names c)) k))) x m;
  };
  meanings =
      keeps (rewrites.KeepsMeanings-trans (div_as_product a b)
      (rewrites.KeepsMeanings-product_more (rewrites.KeepsMeanings-refl a) (rewrites.KeepsMeanings-product_more (kept h.meanings) (rewrites.KeepsMeanings-refl (mult none)))));
}

-- a division of rationals
module _ (p q : Fraction) (c : Tree) (fit : fraction_fits q ≡ true) (told : IsPlainAnswer (plain_value (inverse_tree (num q))) c) where
  -- by zero
  zero_quotient : is_zero_fraction q ≡ true → (plain_value (div (num p) (num q)) ≡ undefined) × (c ≡ undef)
  zero_quotient z = (ap (λ (b : Bool). if b then undefined else calculated mul_op p (inverse q)) z, subst (λ (v : PlainValue). IsPlainAnswer v c) (zero_inverse q z) told)

  -- by another
  other_quotient : is_zero_fraction q ≡ false → (plain_value (div (num p) (num q)) ≡ calculated mul_op p (inverse q)) × (c ≡ num (inverse q))
  other_quotient z = (ap (λ (b : Bool). if b then undefined else calculated mul_op p (inverse q)) z, subst (λ (v : PlainValue). IsPlainAnswer v c) (inverse_value q z fit) told)

  not_zero : is_undef c ≡ false → is_zero_fraction q ≡ false
  not_zero d = elim (cases_Bool (is_zero_fraction q)) [ inl z ↦ absurd (let e : is_undef c ≡ true = ap is_undef (zero_quotient z).1 in cc) | inr z ↦ z ]

  zero_divisor : c ≡ undef → plain_value (div (num p) (num q)) ≡ undefined
  zero_divisor e = elim (cases_Bool (is_zero_fraction q)) [ inl z ↦ (zero_quotient z).0 | inr z ↦ absurd (let n : num (inverse q) ≡ undef = sym (other_quotient z).1 ∙ e in cc) ]

module _ (a b c : Tree) (fit : (q : Fraction) → b ≡ num q → fraction_fits q ≡ true) (known : IsNodeAnswer (inverse_tree b) c) where
  told : (d : AreTwo a b) → IsPlainAnswer (plain_value (inverse_tree (num d.right))) c
  told d = subst (λ (t : Tree). IsPlainAnswer (plain_value (inverse_tree t)) c) d.right-is (known.rational (λ i. is_num (d.right-is i) && true))

  -- where the inverse is defined
  module _ (defined : is_undef c ≡ false) where
    quotient_factor : (d : AreTwo a b) → c ≡ num (inverse d.right)
    quotient_factor d = let f = fit d.right d.right-is in (other_quotient d.left d.right c f (told d) (not_zero d.left d.right c f (told d) defined)).1

    quotient_value : (d : AreTwo a b) → plain_value (mult (two a c)) ≡ plain_value (div a b)
    quotient_value d =
        let f = fit d.right d.right-is in
        (λ i. plain_value (mult (two (d.left-is i) (quotient_factor d i)))) ∙ product_value d.left (inverse d.right)
        ∙ sym (other_quotient d.left d.right c f (told d) (not_zero d.left d.right c f (told d) defined)).0 ∙ sym (λ i. plain_value (div (d.left-is i) (d.right-is i)))

    factors_rational : are_rationals (two a b) ≡ true → are_rationals (two a c) ≡ true
    factors_rational e = let d = are_two a b e in two_rationals d.left (inverse d.right) a c d.left-is (quotient_factor d)

  -- what the factors answer, an Undef factor among them
  pub div_answer : (r : Tree) → IsNodeAnswer (mult (two a c)) r → IsNodeAnswer (div a b) r
  div_answer r h = record {
    reduces = reduces_after (div_rewrites a b c known.reduces) h.reduces;
    undefined = λ e. by (or_cases (is_undef a) (lacks_power b (num minus_one_fraction)) e);
    number = λ n d.
        let number : is_number c ≡ true = known.number (and_parts (is_number a) (is_number_power b (num minus_one_fraction)) n).1 (or_parts (is_undef a) (lacks_power b (num minus_one_fraction)) d).1 in
        h.number (and_from (is_number a) (is_number c && true) (and_parts (is_number a) (is_number_power b (num minus_one_fraction)) n).0 (and_from (is_number c) true number refl))
        (or_from (is_undef a) (is_undef c || false) (or_parts (is_undef a) (lacks_power b (num minus_one_fraction)) d).0 (or_from (is_undef c) false (number_defined c number) refl));
    rational = λ e. by_factor (is_undef c) refl e;
    room = quotient_room a b c r known.room h.room;
    root_room = λ k. cc;
    held = λ d m l k.
        let e = answer_defined (two a c) r h.undefined d in
        h.held d m l (two_factors a c k.dividend
        (known.held (second_side a c e) (k.k + 2 * k.n) (2 * k.k + 2 * k.n) (holds_whole (negsuc 0) k.k k.n refl k.divisor (omega arith) (omega arith))) k.high k.low);
    leaf = λ k. cc;
  }
    where
      by : (is_undef a ≡ true) ⊎ (lacks_power b (num minus_one_fraction) ≡ true) → r ≡ undef
      by (inl e) = h.undefined (left_undefined a c e)
      by (inr e) = h.undefined (right_undefined a c (undef_test c (known.undefined e)))

      by_factor : (x : Bool) → is_undef c ≡ x → are_rationals (two a b) ≡ true → IsPlainAnswer (plain_value (div a b)) r
      by_factor true u e =
          let d = are_two a b e in
          let v : plain_value (div a b) ≡ undefined = (λ i. plain_value (div (d.left-is i) (d.right-is i))) ∙ zero_divisor d.left d.right c (fit d.right d.right-is) (told d) (undef_words c u) in
          subst (λ (v : PlainValue). IsPlainAnswer v r) (sym v) (h.undefined (right_undefined a c u))
      by_factor false u e = subst (λ (v : PlainValue). IsPlainAnswer v r) (quotient_value u (are_two a b e)) (h.rational (factors_rational u e))

  -- the product does not fit
  pub div_overflow : (o : Overflow) → IsNodeOverflow (mult (two a c)) o → has_undef (two a b) ≡ false → IsNodeOverflow (div a b) o
  div_overflow o h d =
      let u = (or_parts (is_undef c) false (or_parts (is_undef a) (is_undef c || false) h.defined).1).0 in
      record { defined = d; rational = λ e. subst (λ (v : PlainValue). IsPlainOverflow v o) (quotient_value u (are_two a b e)) (h.rational (factors_rational u e)) }

-- the inverse of a rational fits
pub inverse_overflow : (a b : Tree) (o : Overflow) → ((q : Fraction) → b ≡ num q → fraction_fits q ≡ true) → IsNodeOverflow (inverse_tree b) o → has_undef (two a b) ≡ false
    → IsNodeOverflow (div a b) o
inverse_overflow a b o h k c = grind (arith, are_two, zero_inverse, inverse_value)
