use Rattle.polynomials.proofs.Shared.{◌≡◌, ℕ, ◌+◌, ◌-◌, ◌*◌, ◌/◌, ◌≤◌, get_or, ap, ◌∙◌, sym, subst, arith, whole, choices, summand_power, HasExponents, Summand, summand_of}
use Rattle.polynomials.proofs.{BinomialTheorem.{choices_next, mixed}, Exponents.{exponents_times, one_exponents}, PowerLists.{all_mixed, count_fits, count_small, count_told, factors_within, listed_exponents}}
use Rattle.std.specs.Prelude.{vec_len}
use Rattle.std.proofs.Common.{rules}
use Rattle.polynomials.proofs.{Shared.{passed_on, length, ◌<◌, ◌^◌}, Causes.{caused_more, not_done}}
use Rattle.polynomials.proofs.{PowerLists.{mixed_exponents, mixed_is, mixed_start, mixed_terms}, binomials.binomial_power.Goals.{After-index-in-loop-k}}
use Rattle.polynomials.proofs.binomials.binomial_power.Goals as goal

-- the two powers
module _ (c : After-index-in-loop-k) where
  abbrev n : ℕ
  n = c.args.exponent

  abbrev k : ℕ
  k = c.loop-k.k

  few : k ≤ n
  few = omega (arith, c.loop-k-test.true)

  first : c.index.result.now ≡ get_or c.list_powers.new.powers.items (n - k) c.index.result.now
  first = subst (λ j. c.index.result.now ≡ get_or c.list_powers.new.powers.items j c.index.result.now) c.from.ensures c.index.ensures

  second : c.index-in-loop-k.result.now ≡ get_or c.list_powers-2.new.powers.items k c.index-in-loop-k.result.now
  second = subst (λ j. c.index-in-loop-k.result.now ≡ get_or c.list_powers-2.new.powers.items j c.index-in-loop-k.result.now) c.from-in-loop-k.ensures c.index-in-loop-k.ensures

  first_power : summand_of c.index.result.now ≡ summand_power (summand_of c.args.first) (n - k)
  first_power = ap summand_of first ∙ c.in_ok-list_powers.ensures.powers.at (n - k) c.index.result.now (omega arith)

  second_power : summand_of c.index-in-loop-k.result.now ≡ summand_power (summand_of c.args.second) k
  second_power = ap summand_of second ∙ c.in_ok-list_powers-2.ensures.powers.at k c.index-in-loop-k.result.now few

  module _ (d : ℕ) where
    first_exponents : HasExponents d (summand_of c.args.first).monomial → HasExponents ((n - k) * d) (summand_of c.index.result.now).monomial
    first_exponents h = listed_exponents d (n - k) n (summand_of c.args.first) c.list_powers.new.powers.items c.index.result.now c.in_ok-list_powers.ensures.powers (omega arith) first h

    second_exponents : HasExponents d (summand_of c.args.second).monomial → HasExponents (k * d) (summand_of c.index-in-loop-k.result.now).monomial
    second_exponents h = listed_exponents d k n (summand_of c.args.second) c.list_powers-2.new.powers.items c.index-in-loop-k.result.now c.in_ok-list_powers-2.ensures.powers few second h

pub times-requires : goal.times-requires
times-requires c =
    let x = c.requires.exponents in
    let at = (goal.at.times-requires c).After-index-in-loop-k in
    record { exponents = ((n at - k at) * x.0, k at * x.0, factors_within (x.0) (k at) (n at) (few at) (x.1), first_exponents at (x.0) (x.2), second_exponents at (x.0) (x.3)) }

pub times-requires-in-loop-k : goal.times-requires-in-loop-k
times-requires-in-loop-k c =
    let x = c.requires.exponents in
    let at = (goal.at.times-requires-in-loop-k c).After-index-in-loop-k in
    let i : ℕ = (n at - k at) * x.0 in
    let j : ℕ = k at * x.0 in
    record {
      exponents = (
        0,
        i + j,
        omega (arith, factors_within (x.0) (k at) (n at) (few at) (x.1)),
        subst (λ (s : Summand). HasExponents 0 s.monomial) (sym c.constant-count.ensures) one_exponents,
        subst (λ (s : Summand). HasExponents (i + j) s.monomial) (sym c.in_ok-product.ensures.product)
            (exponents_times i j (summand_of c.index.result.now).monomial (summand_of c.index-in-loop-k.result.now).monomial (first_exponents at (x.0) (x.2)) (second_exponents at (x.0) (x.3))),
      );
    }

pub overflow_mul-choices : goal.overflow_mul-choices
overflow_mul-choices c = record { fits = count_fits c.args.exponent c.loop-k.k c.loop-k.choices c.from-in-loop-k-3.result c.requires.small c.loop-k.invariant.count-is (omega (arith, c.from-in-loop-k-3.ensures)) }

pub loop-k-preserved : goal.loop-k-preserved
loop-k-preserved c =
    let at = (goal.at.loop-k-preserved c).After-index-in-loop-k in
    let i = c.loop-k.invariant in
    let s : Summand = summand_of c.args.first in
    let t : Summand = summand_of c.args.second in
    let counted : summand_of c.in_ok-times.field-0 ≡ mixed s t (choices (n at) (k at)) (n at - k at) (k at) =
    mixed_is s t c.loop-k.choices (n at - k at) (k at) c.whole.result c.constant-count.result c.index.result.now c.index-in-loop-k.result.now c.in_ok-product.product c.in_ok-times.field-0
    (c.whole.ensures ∙ ap whole (count_told c.from-in-loop-k-2.result c.loop-k.choices c.from-in-loop-k-2.ensures c.loop-k.auto.choices-fits.fits)) c.constant-count.ensures (first_power at) (second_power at) c.in_ok-product.ensures.product c.in_ok-times.ensures.product
    ∙ ap (λ x. mixed s t x (n at - k at) (k at)) i.count-is in
    record {
      terms-are = mixed_terms c.args.first c.args.second c.in_ok-times.field-0 (n at) (k at) c.loop-k.list.items c.insert.new.list.items counted i.terms-are c.in_ok-insert.ensures.terms;
      exponents = λ d h g. c.in_ok-insert.ensures.exponents (n at * d)
          (subst (λ (x : Summand). HasExponents (n at * d) x.monomial) (sym counted) (mixed_exponents d (n at) (k at) (choices (n at) (k at)) s t (few at) h g), i.exponents d h g);
      count-is = choices_next (n at) (k at) c.loop-k.choices c.from-in-loop-k-3.result _ (few at) i.count-is c.from-in-loop-k-3.ensures (ap (λ x. c.loop-k.choices * c.from-in-loop-k-3.result / (x + 1)) c.from-in-loop-k-4.ensures);
      few = omega (arith, i.few, c.in_ok-insert.ensures.few);
      room-kept = omega (arith, i.room-kept, c.insert.ensures.room);
    }

pub returns-clause-terms : goal.returns-clause-terms
returns-clause-terms c =
    all_mixed c.args.first c.args.second c.args.exponent c.loop-k.k c.loop-k.list.items (omega arith) c.loop-k.invariant.terms-are

-- ---- refusals

pub returns-in_err-list_powers : goal.returns-in_err-list_powers
returns-in_err-list_powers c =
    let r = c.from_residual in
    let u = c.in_err-list_powers.field-0.0 in
    record {
      terms = not_done r.result _ r.ensures.0;
      exponents = λ d h g. not_done r.result _ r.ensures.0;
      few = not_done r.result _ r.ensures.0;
      unfit = passed_on r.result u _ r.ensures.0 r.ensures.1 (caused_more u (λ h. omega (arith, h)) c.in_err-list_powers.ensures.unfit);
    }

pub returns-in_err-list_powers-2 : goal.returns-in_err-list_powers-2
returns-in_err-list_powers-2 c =
    let r = c.from_residual-in_err-list_powers-2 in
    let u = c.in_err-list_powers-2.field-0.0 in
    record {
      terms = not_done r.result _ r.ensures.0;
      exponents = λ d h g. not_done r.result _ r.ensures.0;
      few = not_done r.result _ r.ensures.0;
      unfit = passed_on r.result u _ r.ensures.0 r.ensures.1 (caused_more u (λ h. omega (arith, h)) c.in_err-list_powers-2.ensures.unfit);
    }

pub returns-in_err-product : goal.returns-in_err-product
returns-in_err-product c =
    let r = c.from_residual-in_err-product in
    let u = c.in_err-product.field-0.0 in
    record {
      terms = not_done r.result _ r.ensures.0;
      exponents = λ d h g. not_done r.result _ r.ensures.0;
      few = not_done r.result _ r.ensures.0;
      unfit = passed_on r.result u _ r.ensures.0 r.ensures.1 (caused_more u (λ h. absurd h) c.in_err-product.ensures.unfit);
    }

pub returns-in_err-times : goal.returns-in_err-times
returns-in_err-times c =
    let r = c.from_residual-in_err-times in
    let u = c.in_err-times.field-0.0 in
    record {
      terms = not_done r.result _ r.ensures.0;
      exponents = λ d h g. not_done r.result _ r.ensures.0;
      few = not_done r.result _ r.ensures.0;
      unfit = passed_on r.result u _ r.ensures.0 r.ensures.1 (caused_more u (λ h. absurd h) c.in_err-times.ensures.unfit);
    }

pub returns-in_err-insert : goal.returns-in_err-insert
returns-in_err-insert c =
    let r = c.from_residual-in_err-insert in
    let u = c.in_err-insert.field-0.0 in
    record {
      terms = not_done r.result _ r.ensures.0;
      exponents = λ d h g. not_done r.result _ r.ensures.0;
      few = not_done r.result _ r.ensures.0;
      unfit = passed_on r.result u _ r.ensures.0 r.ensures.1 (caused_more u (λ h. omega (arith, h, c.loop-k.invariant.few, c.loop-k.invariant.room-kept)) c.in_err-insert.ensures.unfit);
    }

-- ---- the loop

pub loop-k-init : goal.loop-k-init
loop-k-init c = mixed_start _ _ _ _ _ _ c.clear.ensures.items (omega arith)

within : (k n : ℕ) → k < n + 1 → k ≤ n
within k n h = omega arith

less : (n k : ℕ) → n - k ≤ n
less n k = omega arith

listed : (r i n len many : ℕ) → r ≡ i → i ≤ n → many ≡ n + 1 → len ≡ many → r < len
listed r i n len many e h m l = omega arith

counted_on : (r k n : ℕ) → r ≡ k → k < n + 1 → n ≤ 32 → r + 1 < 2 ^ 64
counted_on r k n e h l = omega arith

pub index-requires : goal.index-requires
index-requires c =
    let v = c.list_powers.new.powers in
    let len : vec_len v ≡ length v.items = search rules in
    listed c.from.result (c.args.exponent - c.loop-k.k) c.args.exponent (vec_len v) (length v.items) c.from.ensures (less c.args.exponent c.loop-k.k) c.in_ok-list_powers.ensures.powers.many len

pub index-requires-in-loop-k : goal.index-requires-in-loop-k
index-requires-in-loop-k c =
    let v = c.list_powers-2.new.powers in
    let len : vec_len v ≡ length v.items = search rules in
    listed c.from-in-loop-k.result c.loop-k.k c.args.exponent (vec_len v) (length v.items) c.from-in-loop-k.ensures (within c.loop-k.k c.args.exponent c.loop-k-test.true) c.in_ok-list_powers-2.ensures.powers.many len

pub whole-requires : goal.whole-requires
whole-requires c = count_small c.from-in-loop-k-2.result c.loop-k.choices c.from-in-loop-k-2.ensures c.loop-k.auto.choices-fits.fits

pub insert-requires : goal.insert-requires
insert-requires c = record { normal = c.loop-k.invariant.terms-are.normal }

pub overflow_sub-exponent : goal.overflow_sub-exponent
overflow_sub-exponent c = within c.loop-k.k c.args.exponent c.loop-k-test.true

pub overflow_sub-exponent-in-loop-k : goal.overflow_sub-exponent-in-loop-k
overflow_sub-exponent-in-loop-k c = within c.loop-k.k c.args.exponent c.loop-k-test.true

pub overflow_add-choices : goal.overflow_add-choices
overflow_add-choices c = record { fits = counted_on c.from-in-loop-k-4.result c.loop-k.k c.args.exponent c.from-in-loop-k-4.ensures c.loop-k-test.true c.requires.small }

pub returns-clause-exponents : goal.returns-clause-exponents
returns-clause-exponents c = c.loop-k.invariant.exponents
