-- Identities of fractions.
use Rattle.expansions.proofs.Shared.{◌≡◌, ℕ, zero, suc, ◌+◌, sym, ap, ◌∙◌, arith, fraction_power, times_comm, times_assoc, times_plus, zero_plus, one_times, Fraction, plus, times, zero_fraction}
use Rattle.expansions.proofs.Shared.{one_fraction, plus_comm, plus_assoc}

pub times_left_comm : (a b c : Fraction) → times a (times b c) ≡ times b (times a c)
times_left_comm a b c = sym (times_assoc a b c) ∙ ap (λ x. times x c) (times_comm a b) ∙ times_assoc b a c

pub power_plus : (a : Fraction) (m n : ℕ) → fraction_power a (m + n) ≡ times (fraction_power a m) (fraction_power a n)
power_plus a zero n = ap (fraction_power a) (let e : 0 + n ≡ n = omega arith in e) ∙ sym (one_times (fraction_power a n))
power_plus a (suc m) n =
    ap (fraction_power a) (let e : suc m + n ≡ suc (m + n) = omega arith in e) ∙ ap (times a) (power_plus a m n) ∙ sym (times_assoc a (fraction_power a m) (fraction_power a n))
