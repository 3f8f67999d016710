-- The trees that a step on a product gives.
use Rattle.product_reduce.proofs.Shared.{◌≡◌, Bool, true, false, ◌&&◌, ◌||◌, refl, if◌then◌else◌, sym, ap, ◌∙◌, subst, arith, ℕ, zero, suc, ◌<◌, not, Option, MatchOption, has_undef, are_rationals}
use Rattle.product_reduce.proofs.Shared.{Tree, num, undef, mult, power, Trees, none, more, append, names, names_of, is_undef, in_mult, root_kind, count, are_numbers, is_number, are_reduced}
use Rattle.product_reduce.proofs.Shared.{is_reduced, has_form, all_parts, is_whole_num, is_opaque_exponent, factors_of, is_zero, and_parts, or_right, zero_fraction, lowest, whole_fraction, gcd, load}
use Rattle.product_reduce.proofs.Shared.{load_of_factor, Same-eq, nth, children_of, whole_denominator, zero_is, Same-sym, KeepsMeanings, KeepsMeanings-refl, KeepsMeanings-eq, KeepsMeanings-trans}
use Rattle.product_reduce.proofs.Shared.{KeepsMeanings-product_more, zero_product, number_zero, number_words, numbers_defined, Same-trans, keeps, reduces_after, IsFinished, IsEnding, IsStop, at_zero}
use Rattle.product_reduce.proofs.Shared.{at_end, opened, others_in, IsCoefficient, coefficient_before, have_partners, Within, within_eq, within_none, within_both, within_trans, number_names}
use Rattle.product_reduce.proofs.Shared.{no_new_name, nest_number, parts_reduced, parts_defined, number_parts, HasForm, undef_part, undef_inside, reduced_formed, formed_reduced, zero_value}
use Rattle.product_reduce.proofs.{Opened.{opened_keeps, collected, coefficient_in_front}, NoNewNames.{names_opened, names_others, names_with_coefficient}, Bounds.{nest_opened, nest_others}}
use Rattle.product_reduce.proofs.{Bounds.{load_opened, load_others, load_product}, Forms.{opened_parts}}
use Rattle.calc_measures.proofs.SmallLaws.{number_load as load_of_number}
use Rattle.std.specs.{Prelude.{ℤ}, Option.{is_some}}
pub use Rattle.like_children.proofs.Folds.{rational_others as rationals_alone}
use Rattle.calc_terms.specs.declared.kind.Kind.TheVariants as kind

-- ---- reduced factors

-- ---- the steps so far

-- the coefficient and the other factors keep the meanings
pub split_keeps : (c : Tree) (ts : Trees) → IsCoefficient c (opened ts) → KeepsMeanings (mult ts) (mult (more c (others_in (opened ts))))
split_keeps c ts h = KeepsMeanings-trans (opened_keeps ts) (collected c (opened ts) h)

-- and so with any rewriting of the others
pub product_keeps : (c : Tree) (ts us : Trees) → IsCoefficient c (opened ts) → KeepsMeanings (mult (others_in (opened ts))) (mult us) → KeepsMeanings (mult ts) (mult (coefficient_before c us))
product_keeps c ts us h k = KeepsMeanings-trans (split_keeps c ts h) (KeepsMeanings-trans (KeepsMeanings-product_more (KeepsMeanings-refl c) k) (coefficient_in_front c us))

others_within : (ts : Trees) → Within (names_of ts) (names_of (others_in (opened ts)))
others_within ts = within_trans (names_opened ts) (names_others (opened ts))

pub product_within : (c : Tree) (ts us : Trees) → is_number c ≡ true → Within (names_of (others_in (opened ts))) (names_of us) → Within (names_of ts) (names_of (coefficient_before c us))
product_within c ts us h k = within_trans (within_trans (others_within ts) k) (names_with_coefficient c us h)

-- ---- Done: Undef

pub undef_finished : (ts : Trees) → has_undef ts ≡ true → IsFinished ts undef
unfolding is_reduced is_number
undef_finished ts h = record {
  reduces = record { reduced = refl; no_new_name = no_new_name (within_none (names_of ts)); meanings = keeps (undef_part (mult ts) (in_mult (undef_inside ts h))) };
  undefined = sym h;
  written = λ d. absurd (cc (d, h));
  nest = omega arith;
  load = omega arith;
  number = λ e. absurd (let d = numbers_defined ts e in cc);
  final = λ c j. absurd (cc (j.defined, h));
}

-- ---- Done: zero

pub zero_words : (c : Tree) → is_zero c ≡ true → c ≡ num zero_fraction
zero_words c h = grind (arith, zero_is)

-- the coefficient is 0, whichever Number is taken for it
zero_again : (b c : Tree) (ts : Trees) → IsCoefficient b ts → IsCoefficient c ts → is_zero c ≡ true → is_zero b ≡ true
unfolding zero_fraction lowest gcd
zero_again b c ts k h z = ap is_zero (number_zero b (number_words b k.number) (Same-trans k.same (Same-trans (Same-sym h.same) (Same-eq (zero_value c z)))))

pub zero_finished : (c : Tree) (ts : Trees) → has_undef ts ≡ false → IsCoefficient c (opened ts) → is_zero c ≡ true → IsFinished ts c
zero_finished c ts d h z =
    let e = zero_words c z in
    let f = number_parts c (number_words c h.number) in
    record {
      reduces = record {
        reduced = parts_reduced c f;
        no_new_name = no_new_name (within_trans (within_none (names_of ts)) (within_eq (number_names c h.number)));
        meanings = keeps (KeepsMeanings-trans (split_keeps c ts h) (KeepsMeanings-trans (KeepsMeanings-eq (ap (λ (x : Tree). mult (more x (others_in (opened ts)))) e)) (KeepsMeanings-trans (zero_product (others_in (opened ts))) (KeepsMeanings-eq (sym e)))));
      };
      undefined = parts_defined c f ∙ sym d;
      written = λ e. record { coefficient = c; is_coefficient = h; zero = λ y. refl; written = λ y. absurd (cc (y, z)) };
      nest = omega (arith, nest_number c h.number);
      load = omega (arith, load_of_number c h.number);
      number = λ x. h.number;
      final = λ b j. absurd (cc (j.not_zero, zero_again b c (opened ts) j.coefficient h z));
    }

-- ---- Numbers alone

numbers-append : (ts us : Trees) → are_numbers (append ts us) ≡ (are_numbers ts && are_numbers us)
numbers-append none us = refl
numbers-append (more t ts) us = grind (arith, numbers-append ts us)

number_factors : (t : Tree) → is_number t ≡ true → are_numbers (factors_of t) ≡ true
unfolding is_number
number_factors t h = grind arith

numbers_opened : (ts : Trees) → are_numbers ts ≡ true → are_numbers (opened ts) ≡ true
numbers_opened none h = refl
numbers_opened (more t ts) h = grind (arith, numbers-append, number_factors t, numbers_opened ts)

no_others : (ts : Trees) → are_numbers ts ≡ true → others_in ts ≡ none
no_others none h = refl
no_others (more t ts) h = let (a, b) = and_parts (is_number t) (are_numbers ts) h in ap (λ (k : Bool). if k then others_in ts else more t (others_in ts)) a ∙ no_others ts b

-- ---- parts of reduced trees

pub reduced_nth : (n : ℕ) (ts : Trees) → n < count ts → are_reduced ts ≡ true → is_reduced (nth n ts) ≡ true
reduced_nth n none l h = absurd (omega arith)
reduced_nth zero (more t ts) l h = (and_parts (is_reduced t) (are_reduced ts) h).0
reduced_nth (suc n) (more t ts) l h = reduced_nth n ts (omega arith) (and_parts (is_reduced t) (are_reduced ts) h).1

pub reduced_exponent : (t : Tree) → is_reduced t ≡ true → root_kind t ≡ kind.Pow → is_reduced (nth 1 (children_of t)) ≡ true
unfolding is_reduced
reduced_exponent (power b e) h k = or_right (is_undef e) _ (and_parts (has_form (power b e) && all_parts has_form b) _ h).1
reduced_exponent t h k = cc

-- an exponent that is a Number is opaque unless it is whole
pub opaque_unless_whole : (t : Tree) (r : Option ℤ) → is_number t ≡ true → MatchOption r (is_whole_num t ≡ false) (λ n. t ≡ num (whole_fraction n)) → is_opaque_exponent t ≡ not (is_some r)
opaque_unless_whole t r h w = grind (arith, whole_denominator)

-- ---- Done, from what a reduced ending tells

pub ending_finished : (c : Tree) (ts : Trees) (new : Tree) → has_undef ts ≡ false → IsCoefficient c (opened ts) → is_zero c ≡ false → have_partners (others_in (opened ts)) ≡ false
    → IsEnding c (others_in (opened ts)) new → IsFinished ts new
ending_finished c ts new d k z a e =
    let os = others_in (opened ts) in
    let names = within_both (names_of ts) (names c) (names_of os) (within_trans (within_none (names_of ts)) (within_eq (number_names c k.number))) (others_within ts) in
    record {
      reduces = reduces_after (record { no_new_name = no_new_name names; meanings = keeps (split_keeps c ts k) }) e.reduces;
      undefined = e.defined ∙ sym d;
      written = λ y. record { coefficient = c; is_coefficient = k; zero = λ x. absurd (cc (x, z)); written = λ x. e.written };
      nest = omega (arith, e.nest, nest_others (opened ts), nest_opened ts);
      load = omega (arith, e.load, load_others (opened ts), load_opened ts, load_product ts);
      number = λ h. e.number (no_others (opened ts) (numbers_opened ts h));
      final = λ b j. absurd (let p = j.partners in cc);
    }

-- ---- from a coefficient and the other factors to the product

pub stopped : (c : Tree) (ts us : Trees) (new : Tree) → has_undef ts ≡ false → IsCoefficient c (opened ts) → us ≡ others_in (opened ts) → IsStop c us new → IsFinished ts new
stopped c ts us new d k e (at_zero z q) = subst (IsFinished ts) (sym q) (zero_finished c ts d k z)
stopped c ts us new d k e (at_end z p x) = ending_finished c ts new d k z (ap have_partners (sym e) ∙ p) (subst (λ (y : Trees). IsEnding c y new) e x)

-- ---- opened factors are reduced, and rationals are as they were

pub reduced_opened : (ts : Trees) → are_reduced ts ≡ true → has_undef ts ≡ false → are_reduced (opened ts) ≡ true
reduced_opened ts r d = formed_reduced (opened ts) (opened_parts HasForm ts (reduced_formed ts r d))

pub opened_rationals : (ts : Trees) → are_rationals ts ≡ true → opened ts ≡ ts
opened_rationals none h = refl
opened_rationals (more (num q) ts) h = ap (more (num q)) (opened_rationals ts h)
opened_rationals (more _ ts) h = cc

pub rationals_defined : (ts : Trees) → are_rationals ts ≡ true → has_undef ts ≡ false
rationals_defined none h = refl
rationals_defined (more (num q) ts) h = rationals_defined ts h
rationals_defined (more _ ts) h = cc
