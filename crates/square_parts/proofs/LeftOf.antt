-- What is left of a number when all divisors up to the trial limit are divided out.
use Rattle.square_parts.proofs.Shared.{factor_positive, ◌≡◌, ℕ, zero, suc, ◌+◌, ◌*◌, ◌/◌, ◌%◌, ◌^◌, ◌<◌, ◌≤◌, ◌⊎◌, inl, inr, refl, sym, ap, ◌∙◌, subst, arith, ◌∣◌, cases_lt, dvd_trans}
use Rattle.square_parts.proofs.Shared.{dvd_of_mod-eq-zero, mod-eq-zero_of_dvd, mul-div_cancel', dvd-mul_right, pow-suc, trial_limit, without, left_from, left_of, IsSmooth, below_power}
use Rattle.square_parts.proofs.SmoothNumbers.{IsRough, IsSmooth-one, IsSmooth-small, IsSmooth-mul, one_rough_part}

-- n is r without a smooth factor, and no number from d to below e divides n
pub record IsPart (d e r n : ℕ) : Type 0 where
  pub positive : 0 < n
  pub factor : ℕ
  pub whole : r ≡ n * factor
  pub smooth : IsSmooth factor
  pub none : (f : ℕ) → d ≤ f → f < e → f ∣ n → ⊥

half_below : (d r n : ℕ) → 2 ≤ d → r < n * 2 → r / d < n
half_below d r n two h = grind arith

without_is : (steps d r : ℕ) → 2 ≤ d → d ≤ trial_limit → 0 < r → r < 2 ^ steps → IsPart d (suc d) r (without steps d r)
without_is zero d r two le positive small = absurd (omega arith)
without_is (suc steps) d r two le positive small = by (λ q q-positive q-small. without_is steps d q two le q-positive q-small) (r % d) refl
  where
    divided : r % d ≡ 0 → IsPart d (suc d) (r / d) (without steps d (r / d)) → IsPart d (suc d) r (without steps d (r / d))
    divided e p =
        let whole : d * (r / d) ≡ r = mul-div_cancel' d (dvd_of_mod-eq-zero d e) in
        let parts : r ≡ without steps d (r / d) * (p.factor * d) = sym whole ∙ ap (λ n. d * n) p.whole ∙ omega arith in
        let factor : 0 < p.factor = factor_positive (without steps d (r / d)) p.factor (let h : 0 < without steps d (r / d) * p.factor = rw (← p.whole) (factor_positive d (r / d) (rw whole positive)) in h) in
        record { positive = p.positive; factor = p.factor * d; whole = parts; smooth = IsSmooth-mul p.factor d factor p.smooth (IsSmooth-small d (let h : 0 < d = omega arith in h) le); none = p.none }

    by : ((q : ℕ) → 0 < q → q < 2 ^ steps → IsPart d (suc d) q (without steps d q)) → (m : ℕ) → r % d ≡ m → IsPart d (suc d) r (elim m [ zero ↦ without steps d (r / d) | suc m ↦ r ])
    by again zero e =
        let whole : d * (r / d) ≡ r = mul-div_cancel' d (dvd_of_mod-eq-zero d e) in
        divided e (again (r / d) (factor_positive d (r / d) (rw whole positive)) (half_below d r (2 ^ steps) two (let h : r < 2 ^ steps * 2 = omega (arith, pow-suc 2 steps) in h)))
    by again (suc m) e = record {
      positive = positive;
      factor = 1;
      whole = omega arith;
      smooth = IsSmooth-one;
      none = λ f low high fr.
          let same : f ≡ d = omega arith in
          let divides : r % d ≡ 0 = mod-eq-zero_of_dvd d (subst (λ n. n ∣ r) same fr) in
          absurd (omega arith);
    }

left_from_is : (steps d r : ℕ) → 2 ≤ d → d + steps ≤ 10001 → 0 < r → IsPart d (d + steps) r (left_from steps d r)
left_from_is zero d r two le positive = record { positive = positive; factor = 1; whole = omega arith; smooth = IsSmooth-one; none = λ f low high fr. absurd (omega arith) }
left_from_is (suc steps) d r two le positive =
    let one : IsPart d (suc d) r (without r d r) = without_is r d r two (omega arith) positive (below_power r) in
    let rest : IsPart (suc d) (suc d + steps) (without r d r) (left_from steps (suc d) (without r d r)) = left_from_is steps (suc d) (without r d r) (omega arith) (omega arith) one.positive in
    joined (without r d r) (left_from steps (suc d) (without r d r)) one rest
  where
    joined : (n m : ℕ) → IsPart d (suc d) r n → IsPart (suc d) (suc d + steps) n m → IsPart d (d + suc steps) r m
    joined n m one rest =
        let whole : r ≡ m * (rest.factor * one.factor) = one.whole ∙ ap (λ x. x * one.factor) rest.whole ∙ omega arith in
        let divides : m ∣ n = subst (λ x. m ∣ x) (sym rest.whole) (dvd-mul_right m rest.factor) in
        record {
          positive = rest.positive;
          factor = rest.factor * one.factor;
          whole = whole;
          smooth = IsSmooth-mul rest.factor one.factor (factor_positive m rest.factor (rw (← rest.whole) one.positive)) rest.smooth one.smooth;
          none = λ f low high fm. by f low high fm (cases_lt d f) divides;
        }
      where
        by : (f : ℕ) → d ≤ f → f < d + suc steps → f ∣ m → (d < f) ⊎ (f ≤ d) → m ∣ n → ⊥
        by f low high fm (inl above) mn = rest.none f (omega arith) (omega arith) fm
        by f low high fm (inr at) mn = one.none f low (omega arith) (dvd_trans f fm mn)

-- what is left is the part without small divisors
pub record IsRest (r n : ℕ) : Type 0 where
  pub positive : 0 < n
  pub factor : ℕ
  pub whole : r ≡ n * factor
  pub smooth : IsSmooth factor
  pub rough : IsRough n

pub left_of_is : (r : ℕ) → 0 < r → IsRest r (left_of r)
unfolding left_of
left_of_is r positive =
    let p : IsPart 2 10001 r (left_from 9999 2 r) = left_from_is 9999 2 r (omega arith) (omega arith) positive in
    record { positive = p.positive; factor = p.factor; whole = p.whole; smooth = p.smooth; rough = record { none = λ e two le d. p.none e two (omega arith) d } }

-- and the only one
pub left_of_part : (r n k : ℕ) → 0 < r → 0 < n → r ≡ n * k → IsSmooth k → IsRough n → left_of r ≡ n
left_of_part r n k r-positive n-positive whole smooth rough =
    let p = left_of_is r r-positive in
    one_rough_part (left_of r) p.factor n k p.positive n-positive p.smooth smooth p.rough rough (sym p.whole ∙ whole)
