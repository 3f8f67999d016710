use Rattle.calc_tokens.proofs.Shared.{ℕ, ◌≡◌, List, false, pos, ◌∙◌, refl, sym, ap, lowest, leading_run, decimals, digits_value, is_digit, trimmed, unscaled, scale, has_point, Fraction, literal}
use Rattle.calc_tokens.proofs.{Runs.{run_passes}, Parts.{decimals_pass, trimmed_pass, same_value, no_decimals, short_fits, short_is}}
use Rattle.calc_language.specs.Tokens.{literal_at}
use Rattle.calc_tokens.proofs.literals.literal.Goals as goal

pub value-requires-clause-whole_digits : goal.value-requires-clause-whole_digits
value-requires-clause-whole_digits c = rw c.digits.ensures.front (run_passes is_digit c.args.bytes.now)

pub value-requires-clause-decimals : goal.value-requires-clause-decimals
value-requires-clause-decimals c = rw (c.trimmed.ensures, c.decimals.ensures.digits) (trimmed_pass _ (decimals_pass c.digits.result.1.now))

pub short_value-requires : goal.short_value-requires
short_value-requires c = rw c.digits.ensures.front (run_passes is_digit c.args.bytes.now)

-- the literal at the front is this value, and this stands behind it
number_is : (bytes whole rest ds kept behind : List ℕ) (value : Fraction) → whole ≡ (leading_run is_digit bytes).0 → rest ≡ (leading_run is_digit bytes).1 → ds ≡ (decimals rest).0 → behind ≡ (decimals rest).1
    → kept ≡ trimmed ds → value ≡ lowest (pos (unscaled whole kept)) (scale kept) → (literal value, behind) ≡ literal_at bytes
unfolding literal_at
number_is bytes whole rest ds kept behind value a b c d e f = rw (f, e, same_value whole ds, c, d, a, b) refl

pub returns-in-Some : goal.returns-in-Some
returns-in-Some c =
    let p : has_point c.digits.result.1.now ≡ false = sym c.has_point.ensures ∙ c.if-not-has_point.true in
    record {
      fits = sym (short_fits (leading_run is_digit c.args.bytes.now).0 (leading_run is_digit c.args.bytes.now).1 c.in-Some.number (c.in-Some.ensures.value ∙ ap (digits_value 0) c.digits.ensures.front) c.in-Some.ensures.short (ap has_point (sym c.digits.ensures.behind) ∙ sym c.has_point.ensures ∙ c.if-not-has_point.true));
      value = number_is c.args.bytes.now c.digits.result.0.now c.digits.result.1.now _ _ c.digits.result.1.now _ c.digits.ensures.front c.digits.ensures.behind refl (sym (ap (λ r. r.1) (no_decimals c.digits.result.1.now p))) refl (c.scaled.ensures ∙ ap (λ (n : ℕ). lowest (pos n) 1) c.from.ensures ∙ short_is c.digits.result.0.now c.digits.result.1.now c.in-Some.number c.in-Some.ensures.value p);
    }

pub returns-clause-value : goal.returns-clause-value
returns-clause-value c =
    number_is c.args.bytes.now _ _ _ _ _ _ c.digits.ensures.front c.digits.ensures.behind c.decimals.ensures.digits c.decimals.ensures.behind c.trimmed.ensures c.in_ok-value.ensures.value
