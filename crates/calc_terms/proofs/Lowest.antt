-- Two numbers over their greatest common divisor.
use Rattle.calc_terms.proofs.Shared.{◌≡◌, ℕ, ◌≤◌, ◌*◌, ◌/◌, ◌<◌, sym, ap, ◌∙◌, arith, subst, IsGcd, ◌∣◌, mul-div_cancel', mul-dvd-mul_left}
use Rattle.calc_terms.proofs.Shared.{dvd_of_mul-dvd-mul_left, one-dvd, pos_of_dvd_of_pos, ℤ, pos, negsuc, ◌<ℤ◌, ◌*ℤ◌, nat_abs, ints, lowest, same_lowest, IsReduced}

pub gcd_positive : (a b g : ℕ) → 0 < b → IsGcd a b g → 0 < g
gcd_positive a b g h d = pos_of_dvd_of_pos d.1 h

pub is_reduced : (a b g : ℕ) → 0 < b → IsGcd a b g → IsReduced a b (a / g) (b / g)
is_reduced a b g h d =
    let p : 0 < g = gcd_positive a b g h d in
    let a-is : g * (a / g) ≡ a = mul-div_cancel' _ d.0 in
    let b-is : g * (b / g) ≡ b = mul-div_cancel' _ d.1 in
    let common : (k : ℕ) → k ∣ a / g → k ∣ b / g → k ∣ 1 = λ k u v.
    let up : g * k ∣ a = subst (λ (x : ℕ). g * k ∣ x) a-is (mul-dvd-mul_left _ g u) in
    let vp : g * k ∣ b = subst (λ (x : ℕ). g * k ∣ x) b-is (mul-dvd-mul_left _ g v) in
    let w : g * k ∣ g * 1 = subst (λ (x : ℕ). g * k ∣ x) (omega arith) (d.2 (g * k) up vp) in
    dvd_of_mul-dvd-mul_left _ p w in
    record {
      lowest = (one-dvd _, one-dvd _, common);
      same = ap (λ (x : ℕ). (a / g) * x) (sym b-is) ∙ omega arith ∙ ap (λ (x : ℕ). x * (b / g)) a-is;
      small_le = grind arith;
      positive = grind arith;
      under_le = grind arith;
    }

pub one_lowest : (a : ℕ) → IsGcd a 1 1
one_lowest a = (one-dvd _, one-dvd _, λ d u v. v)

-- equal cross products make one fraction, with a denominator that stands as an integer
pub same_ratio : (num den x : ℤ) (d : ℕ) → pos 0 <ℤ den → 1 ≤ d → x *ℤ den ≡ num *ℤ pos d → lowest x d ≡ lowest num (nat_abs den)
same_ratio num (pos n) x d h k e = same_lowest x num d n k (omega (arith, ints)) e
same_ratio num (negsuc n) x d h k e = absurd (omega (arith, ints))

-- the same where the program hands its numbers on
pub same_ratio_of : (num den num' den' x : ℤ) (d : ℕ) → num' ≡ num → den' ≡ den → pos 0 <ℤ den → 1 ≤ d → x *ℤ den' ≡ num' *ℤ pos d → lowest x d ≡ lowest num (nat_abs den)
same_ratio_of num den num' den' x d n m h k e = same_ratio num den x d h k (ap (λ z. x *ℤ z) (sym m) ∙ e ∙ ap (λ z. z *ℤ pos d) n)
