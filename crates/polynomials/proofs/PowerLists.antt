-- Lists of the powers of a term, and powers of two terms from them.
use Rattle.polynomials.proofs.Shared.{◌≡◌, ℕ, zero, suc, inl, inr, eq-or-lt_of_le, ◌+◌, ◌-◌, ◌*◌, ◌^◌, ◌<◌, ◌≤◌, [], ◌∷◌, ◌++◌, List, length, get_or, ℤ, pos, of_z, to_z, sym, ap, ◌∙◌, subst, arith}
use Rattle.polynomials.proofs.Shared.{length-append, mul-le-mul, to_z-of_z, get_or_append_left, get_or_push, mul_comm, pow-le-pow_right, pow-suc, pow-zero, w128, lowest, ratio_of, value_of, Ratio}
use Rattle.polynomials.proofs.Shared.{whole, Rat, ArePowers, choices, summand_power, Term, HasExponents, HaveExponents, Summand, one_monomial, raised, summand, summand_times, AreTermsOf}
use Rattle.polynomials.proofs.{Shared.{polynomial_of, summand_of}, BinomialTheorem.{binomial, choices_bound, mixed, mixed_to, power_exponents}, Exponents.{exponents_times, one_exponents}}
use Rattle.polynomials.proofs.{Merges.{terms_same}, Worth.{same_cons, same_is, same_trans}}
use Rattle.calc_terms.specs.Fractions.{one_fraction}
use Rattle.std.proofs.Common.{nat_abs, refl}

-- ---- powers

pub record ArePowersIn (s : Summand) (room k : ℕ) (list : List Term) (now : ℕ) : Type 0 where
  pub powers : ArePowers s k list
  pub room-kept : room ≤ now

pub powers_none : (s : Summand) (list : List Term) (t : Term) (r : Rat) → list ≡ t ∷ [] → ratio_of r ≡ whole (pos 1) → summand_of t ≡ summand (value_of r) one_monomial → ArePowers s 0 list
unfolding one_fraction
powers_none s list t r e f g = rw e (record {
  many = omega arith;
  at = λ k d h. rw (let z : k ≡ 0 = omega arith in z) (g ∙ ap (λ (x : Ratio). summand (lowest x.num x.den) one_monomial) f);
})

pub powers_more : (s : Summand) (k : ℕ) (list next : List Term) (last t : Term) → ArePowers s k list → last ≡ get_or list k last → summand_of t ≡ summand_times s (summand_of last) → next ≡ list ++ t ∷ []
    → ArePowers s (k + 1) next
powers_more s k list next last t p e f g = rw g (record {
  many = omega (arith, p.many, length-append list (t ∷ []));
  at = λ j d h. elim (eq-or-lt_of_le h) [ inl q ↦ rw q (last_one d) | inr l ↦ before j d (omega arith) ];
})
  where
    last_one : (d : Term) → summand_of (get_or (list ++ t ∷ []) (k + 1) d) ≡ summand_power s (k + 1)
    last_one d =
        ap summand_of (get_or_push list t d (k + 1) p.many) ∙ f ∙ ap (λ (x : Term). summand_times s (summand_of x)) e ∙ ap (summand_times s) (p.at k last (omega arith))
        ∙ ap (summand_power s) (let q : suc k ≡ k + 1 = omega arith in q)

    before : (j : ℕ) (d : Term) → j ≤ k → summand_of (get_or (list ++ t ∷ []) j d) ≡ summand_power s j
    before j d h = ap summand_of (get_or_append_left list (t ∷ []) d j (omega (arith, p.many))) ∙ p.at j d h

-- exponents of a power that is listed
pub listed_exponents : (d k n : ℕ) (s : Summand) (list : List Term) (t : Term) → ArePowers s n list → k ≤ n → t ≡ get_or list k t → HasExponents d s.monomial → HasExponents (k * d) (summand_of t).monomial
listed_exponents d k n s list t p l e h =
    subst (λ (x : Summand). HasExponents (k * d) x.monomial) (sym (ap summand_of e ∙ p.at k t l)) (power_exponents d s k h)

-- k factors of n are not more
pub factors_within : (d k n : ℕ) → k ≤ n → n * d < 256 → (n - k) * d + k * d < 256
factors_within d k n h l =
    let by : ((n - k) + k) * d ≡ (n - k) * d + k * d = omega arith in
    omega (arith, l, ap (λ x. x * d) (let e : n ≡ (n - k) + k = omega arith in e), by)

-- ---- powers of two terms

pub record AreMixedIn (first second : Term) (n room k count : ℕ) (list : List Term) (now : ℕ) : Type 0 where
  pub terms-are : AreTermsOf (mixed_to (summand_of first) (summand_of second) n k) list
  pub exponents : (d : ℕ) → HasExponents d (summand_of first).monomial → HasExponents d (summand_of second).monomial → HaveExponents (n * d) (polynomial_of list)
  pub count-is : count ≡ choices n k
  pub few : length list ≤ k
  pub room-kept : room ≤ now

choices_none : (n : ℕ) → 1 ≡ choices n 0
choices_none zero = refl
choices_none (suc n) = refl

-- before the first product
pub mixed_start : (first second : Term) (n room : ℕ) (list : List Term) (now : ℕ) → list ≡ [] → room ≤ now → AreMixedIn first second n room 0 1 list now
mixed_start first second n room list now e h = record {
  terms-are = subst (AreTermsOf (mixed_to (summand_of first) (summand_of second) n 0)) (sym e) (record { normal = tt; same = same_is refl });
  exponents = λ d g k. subst (λ (l : List Term). HaveExponents (n * d) (polynomial_of l)) (sym e) tt;
  count-is = choices_none n;
  few = omega (arith, ap length e);
  room-kept = h;
}

-- the product of three is the summand with a count
pub mixed_is : (s t : Summand) (c i j : ℕ) (r : Rat) (x a b p y : Term) → ratio_of r ≡ whole (pos c) → summand_of x ≡ summand (value_of r) one_monomial
    → summand_of a ≡ summand_power s i → summand_of b ≡ summand_power t j → summand_of p ≡ summand_times (summand_of a) (summand_of b) → summand_of y ≡ summand_times (summand_of x) (summand_of p)
    → summand_of y ≡ mixed s t c i j
mixed_is s t c i j r x a b p y e f g h k l =
    l ∙ (λ m. summand_times ((f ∙ ap (λ (z : Ratio). summand (lowest z.num z.den) one_monomial) e) m) ((k ∙ (λ o. summand_times (g o) (h o))) m))

-- of 64 bits
pub count_told : (z : ℤ) (n : ℕ) → z ≡ pos n → n < 2 ^ 64 → to_z w128 (of_z w128 z) ≡ pos n
count_told z n e l = ap (λ (y : ℤ). to_z w128 (of_z w128 y)) e ∙ to_z-of_z w128 (pos n) (omega (arith, l))

pub count_small : (z : ℤ) (n : ℕ) → z ≡ pos n → n < 2 ^ 64 → nat_abs (to_z w128 (of_z w128 z)) < 2 ^ 127
count_small z n e l = subst (λ (y : ℤ). nat_abs y < 2 ^ 127) (sym (count_told z n e l)) (omega (arith, l))

-- the count of the next one fits
pub count_fits : (n k c d : ℕ) → n ≤ 32 → c ≡ choices n k → d ≤ n → c * d < 2 ^ 64
count_fits n k c d h e l =
    let bound : c ≤ 2 ^ 32 = omega (arith, e, choices_bound n k, pow-le-pow_right {n = 2} (let z : 0 < 2 = omega arith in z) h) in
    omega (arith, mul-le-mul bound (let m : d ≤ 32 = omega arith in m))

pub mixed_exponents : (d n k c : ℕ) (s t : Summand) → k ≤ n → HasExponents d s.monomial → HasExponents d t.monomial → HasExponents (n * d) (mixed s t c (n - k) k).monomial
mixed_exponents d n k c s t l h g =
    let by : ((n - k) + k) * d ≡ (n - k) * d + k * d = omega arith in
    let whole : 0 + ((n - k) * d + k * d) ≡ n * d = omega (arith, by, ap (λ x. x * d) (let e : n ≡ (n - k) + k = omega arith in e)) in
    subst (λ e. HasExponents e (mixed s t c (n - k) k).monomial) whole
    (exponents_times 0 ((n - k) * d + k * d) one_monomial (summand_times (summand_power s (n - k)) (summand_power t k)).monomial one_exponents
    (exponents_times ((n - k) * d) (k * d) (summand_power s (n - k)).monomial (summand_power t k).monomial (power_exponents d s (n - k) h) (power_exponents d t k g)))

pub mixed_terms : (first second y : Term) (n k : ℕ) (list next : List Term) → summand_of y ≡ mixed (summand_of first) (summand_of second) (choices n k) (n - k) k
    → AreTermsOf (mixed_to (summand_of first) (summand_of second) n k) list → AreTermsOf (summand_of y ∷ polynomial_of list) next → AreTermsOf (mixed_to (summand_of first) (summand_of second) n (k + 1)) next
mixed_terms first second y n k list next e h put =
    subst (λ j. AreTermsOf (mixed_to (summand_of first) (summand_of second) n j) next) (let f : suc k ≡ k + 1 = omega arith in f)
    (terms_same next (same_trans (same_is (λ i. e i ∷ polynomial_of list)) (same_cons (mixed (summand_of first) (summand_of second) (choices n k) (n - k) k) h.same)) put)

pub all_mixed : (first second : Term) (n k : ℕ) (list : List Term) → k ≡ n + 1 → AreTermsOf (mixed_to (summand_of first) (summand_of second) n k) list
    → AreTermsOf (raised (summand_of first ∷ summand_of second ∷ []) n) list
all_mixed first second n k list e h =
    terms_same list (binomial (summand_of first) (summand_of second) n) (subst (λ j. AreTermsOf (mixed_to (summand_of first) (summand_of second) n j) list) (let f : k ≡ suc n = omega arith in f) h)

pub two_few : (b n : ℕ) → b ≡ 2 → n + 1 ≤ b ^ n
two_few b zero e = omega (arith, pow-zero b)
two_few b (suc n) e = omega (arith, two_few b n e, ap (λ x. x * b ^ n) e, pow-suc b n, mul_comm b (b ^ n))
