-- The answers to the powers that no rule rewrites.
use Rattle.power_reduce.proofs.Shared.{no_names, or_left, or_right, ◌≡◌, ◌&&◌, ◌||◌, true, false, [], inl, inr, refl, sym, ◌∙◌, arith, and_parts, Contains-append_left, Fraction}
use Rattle.power_reduce.proofs.Shared.{zero_fraction, one_fraction, nest, is_number, IsNumber, is_reduced, IsPowerForm, num_one, Tree, num, undef, power, names, is_undef, itself, in_base}
use Rattle.power_reduce.proofs.Shared.{in_exponent, number_words, number_test, power_one_is_base, power_zero_is_one, reduced_test, undef_part, reduced_parts, KeepsMeanings, keeps}
use Rattle.power_reduce.proofs.Shared.{is_zero, has_no_power, has_number_power, IsWrittenPower, IsPowerAnswer, is_zero_or_one, names_of_terms, nest_terms, terms_parts}
use Rattle.power_reduce.proofs.{Written.{zero_written, one_written, kept_written}, Bounds.{load_at_most_weight}}
use Rattle.calc_measures.proofs.SmallLaws.{number_load as no_load}

-- ---- Numbers

pub record IsPlain (t : Tree) : Type 0 where
  pub no_name : names t ≡ []
  pub flat : nest t ≡ 0
  pub reduced : is_reduced t ≡ true
  pub defined : is_undef t ≡ false

pub number_plain : (t : Tree) → IsNumber t → IsPlain t
number_plain t h = grind (arith, reduced_test, names_of_terms, nest_terms, terms_parts)

-- a Number that keeps the meanings of the power
pub number_answer : (b e t : Tree) → is_number t ≡ true → has_no_power b e ≡ false → KeepsMeanings (power b e) t → IsWrittenPower b e t → IsPowerAnswer b e t
number_answer b e t h d k w =
    let p = number_plain t (number_words t h) in record {
      reduces = record { reduced = p.reduced; no_new_name = no_names (power b e) t p.no_name; meanings = k };
      undefined = p.defined ∙ sym d;
      number = λ k x. h;
      written = λ x. w;
      nest_bound = omega (arith, p.flat);
      load_bound = λ o. omega (arith, no_load t h);
      opaque_bound = omega (arith, no_load t h);
    }

-- ---- exponents 0 and 1

-- b ^ 0 is 1, where b is neither Undef nor 0
pub zero_exponent_answer : (b : Tree) → has_no_power b (num zero_fraction) ≡ false → IsPowerAnswer b (num zero_fraction) num_one
zero_exponent_answer b d = number_answer b (num zero_fraction) num_one (number_test num_one tt) d (keeps (power_zero_is_one b)) (zero_written b)

pub number_nest : (b : Tree) (q : Fraction) → nest (power b (num q)) ≡ nest b
number_nest b q = rw (number_test (num q) tt) refl

-- a power that is a Number's has a Number as its base
number_base : (b : Tree) (q : Fraction) → has_number_power b (num q) ≡ true → is_number b ≡ true
number_base b q h = let (p, s) = and_parts _ _ h in (and_parts _ _ p).0

-- b ^ 1 is b
pub one_exponent_answer : (b : Tree) → is_reduced b ≡ true → is_undef b ≡ false → has_no_power b (num one_fraction) ≡ false → IsPowerAnswer b (num one_fraction) b
one_exponent_answer b h u d = record {
  reduces = record { reduced = h; no_new_name = record { name = λ x k. Contains-append_left (names b) [] x k }; meanings = keeps (power_one_is_base b) };
  undefined = u ∙ sym d;
  number = λ k x. number_base b one_fraction k;
  written = λ x. one_written b;
  nest_bound = omega (arith, number_nest b one_fraction);
  load_bound = λ o. load_at_most_weight b;
  opaque_bound = omega (arith, load_at_most_weight b);
}

-- ---- Undef

-- a power that has no meaning
pub undefined_answer : (b e : Tree) → has_no_power b e ≡ true → KeepsMeanings (power b e) undef → IsPowerAnswer b e undef
undefined_answer b e h k = grind (arith, reduced_test)

-- a power of Undef
pub undef_base_answer : (e : Tree) → IsPowerAnswer undef e undef
undef_base_answer e = undefined_answer undef e refl (keeps (undef_part (power undef e) (in_base itself)))

-- a power whose exponent is Undef
pub undef_exponent_answer : (b : Tree) → IsPowerAnswer b undef undef
undef_exponent_answer b = undefined_answer b undef (or_left (is_undef b || true) (is_zero b && false) (or_right (is_undef b) true refl)) (keeps (undef_part (power b undef) (in_exponent itself)))

-- ---- powers that are kept

-- a reduced power is none of a Number that has a power
whole_number : (b : Tree) (q : Fraction) → IsPowerForm b (num q) → has_number_power b (num q) ≡ true → ⊥
whole_number b q f h = grind arith

power_number : (b e : Tree) → IsNumber (power b e) → ⊥
power_number b e h = h

own_power_form : (b e : Tree) → is_reduced (power b e) ≡ true → IsPowerForm b e
own_power_form b e h = elim ((reduced_parts (power b e) h refl).0) [ inl n ↦ absurd (power_number b e n) | inr f ↦ f ]

kept_number : (b e : Tree) → is_reduced (power b e) ≡ true → has_number_power b e ≡ true → is_number (power b e) ≡ true
kept_number b (num q) h k = absurd (whole_number b q (own_power_form b (num q) h) k)
kept_number b e h k = cc

pub kept_answer : (b e : Tree) → is_reduced (power b e) ≡ true → has_no_power b e ≡ false → is_zero_or_one e ≡ false → IsPowerAnswer b e (power b e)
kept_answer b e h d o = grind (arith, kept_number, kept_written)
