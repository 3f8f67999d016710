-- Monomials of names, from packed ones: products, and which are one.
use Rattle.expansions.proofs.Shared.{◌≡◌, ℕ, zero, suc, ◌+◌, List, [], ◌∷◌, ◌++◌, length, replicate, refl, sym, ap, ◌∙◌, subst, arith, reverse, length-reverse, reverse-append, symbol, tree_cmp_same}
use Rattle.expansions.proofs.Shared.{IsBelowAll, IsMonomial, Monomial, factor, monomial_times, AreNames, AreOf, AreZero, IsBelowNames, IsOfNames, factors_of, led, monomial_of, one_monomial, named}
use Rattle.expansions.proofs.MonomialProducts.{below_times, both_first, put_first, right_first}
use Rattle.polynomials.specs.Polynomials.{Monomial as Exponents, monomial_times as exponents_times}

-- ---- they are monomials

pub below_factors : (x : List ℕ) (ns : List (List ℕ)) (es : Exponents) → IsBelowNames x ns → IsBelowAll x (factors_of ns es)
below_factors x [] es h = tt
below_factors x (y ∷ ns) [] h = tt
below_factors x (y ∷ ns) (zero ∷ es) h = below_factors x ns es h.1
below_factors x (y ∷ ns) (suc e ∷ es) h = (h.0, below_factors x ns es h.1)

pub factors_monomial : (ns : List (List ℕ)) (es : Exponents) → AreNames ns → IsMonomial (factors_of ns es)
factors_monomial [] es h = tt
factors_monomial (x ∷ ns) [] h = tt
factors_monomial (x ∷ ns) (zero ∷ es) h = factors_monomial ns es h.1
factors_monomial (x ∷ ns) (suc e ∷ es) h = (omega arith, below_factors x ns es h.0, factors_monomial ns es h.1)

-- ---- products

led_times : (x : List ℕ) (a b : ℕ) (m n : Monomial) → IsBelowAll x m → IsBelowAll x n → IsMonomial m → IsMonomial n → monomial_times (led x a m) (led x b n) ≡ led x (a + b) (monomial_times m n)
led_times x zero zero m n h k p q = let e : 0 ≡ 0 + 0 = omega arith in ap (λ (j : ℕ). led x j (monomial_times m n)) e
led_times x zero (suc b) m n h k p q = let e : suc b ≡ 0 + suc b = omega arith in right_first (factor x (suc b)) m n h ∙ ap (λ (j : ℕ). led x j (monomial_times m n)) e
led_times x (suc a) zero m n h k p q = let e : suc a ≡ suc a + 0 = omega arith in put_first (factor x (suc a)) (monomial_times m n) (below_times x m n h k)
    ∙ ap (λ (j : ℕ). led x j (monomial_times m n)) e
led_times x (suc a) (suc b) m n h k p q =
    let e : suc a + suc b ≡ suc (a + suc b) = omega arith in
    both_first (factor x (suc a)) (factor x (suc b)) m n (omega arith, h, p) (omega arith, k, q) (tree_cmp_same (symbol x) (symbol x) refl)
    ∙ ap (λ (j : ℕ). factor x j ∷ monomial_times m n) e ∙ ap (λ (j : ℕ). led x j (monomial_times m n)) (sym e)

factors_times : (ns : List (List ℕ)) (a b : Exponents) → AreNames ns → length a ≡ length b → factors_of ns (exponents_times a b) ≡ monomial_times (factors_of ns a) (factors_of ns b)
factors_times [] a b h l = refl
factors_times (x ∷ ns) [] [] h l = refl
factors_times (x ∷ ns) [] (e ∷ b) h l = absurd (omega arith)
factors_times (x ∷ ns) (e ∷ a) [] h l = absurd (omega arith)
factors_times (x ∷ ns) (d ∷ a) (e ∷ b) h l =
    ap (led x (d + e)) (factors_times ns a b h.1 (omega arith))
    ∙ sym (led_times x d e (factors_of ns a) (factors_of ns b) (below_factors x ns a h.0) (below_factors x ns b h.0) (factors_monomial ns a h.1) (factors_monomial ns b h.1))

-- ---- from the last exponent to the first

times_end : (a b : Exponents) (x y : ℕ) → length a ≡ length b → exponents_times (a ++ x ∷ []) (b ++ y ∷ []) ≡ exponents_times a b ++ (x + y) ∷ []
times_end [] [] x y l = refl
times_end [] (e ∷ b) x y l = absurd (omega arith)
times_end (d ∷ a) [] x y l = absurd (omega arith)
times_end (d ∷ a) (e ∷ b) x y l = ap (λ (m : Exponents). (d + e) ∷ m) (times_end a b x y (omega arith))

turned : (x : ℕ) (m : Exponents) → reverse (x ∷ m) ≡ reverse m ++ x ∷ []
turned x m = reverse-append (x ∷ []) m

turned_times : (a b : Exponents) → length a ≡ length b → reverse (exponents_times a b) ≡ exponents_times (reverse a) (reverse b)
turned_times [] [] l = refl
turned_times [] (e ∷ b) l = absurd (omega arith)
turned_times (d ∷ a) [] l = absurd (omega arith)
turned_times (d ∷ a) (e ∷ b) l =
    turned (d + e) (exponents_times a b)
    ∙ ap (λ (m : Exponents). m ++ (d + e) ∷ []) (turned_times a b (omega arith))
    ∙ sym (times_end (reverse a) (reverse b) d e (length-reverse a ∙ (let k : length a ≡ length b = omega arith in k) ∙ sym (length-reverse b)))
    ∙ sym (λ i. exponents_times (turned d a i) (turned e b i))

pub named_times : (ns : List (List ℕ)) (a b : Exponents) → AreNames ns → length a ≡ 8 → length b ≡ 8 → named ns (exponents_times a b) ≡ monomial_times (named ns a) (named ns b)
named_times ns a b h k l =
    ap (factors_of ns) (turned_times a b (k ∙ sym l)) ∙ factors_times ns (reverse a) (reverse b) h (length-reverse a ∙ k ∙ sym l ∙ sym (length-reverse b))

pub named_monomial : (ns : List (List ℕ)) (es : Exponents) → AreNames ns → IsMonomial (named ns es)
named_monomial ns es h = factors_monomial ns (reverse es) h

-- ---- without names

zero_factors : (ns : List (List ℕ)) (n : ℕ) → factors_of ns (replicate n 0) ≡ []
zero_factors [] n = refl
zero_factors (x ∷ ns) zero = refl
zero_factors (x ∷ ns) (suc n) = zero_factors ns n

pub named_one : (ns : List (List ℕ)) → named ns one_monomial ≡ []
named_one ns = zero_factors ns 8

-- ---- the exponents of the names

pub times_length : (n : ℕ) (a b : Exponents) → length a ≡ n → length b ≡ n → length (exponents_times a b) ≡ n
times_length n [] b h k = k
times_length n (d ∷ a) [] h k = h
times_length zero (d ∷ a) (e ∷ b) h k = absurd (omega arith)
times_length (suc n) (d ∷ a) (e ∷ b) h k = let go : length (exponents_times a b) ≡ n = times_length n a b (omega arith) (omega arith) in omega arith

zero_times : (a b : Exponents) → AreZero a → AreZero b → AreZero (exponents_times a b)
zero_times [] b h k = k
zero_times (d ∷ a) [] h k = h
zero_times (d ∷ a) (e ∷ b) h k = (omega (arith, h.0, k.0), zero_times a b h.1 k.1)

of_times : (ns : List (List ℕ)) (a b : Exponents) → AreOf ns a → AreOf ns b → AreOf ns (exponents_times a b)
of_times [] a b h k = zero_times a b h k
of_times (x ∷ ns) [] b h k = k
of_times (x ∷ ns) (d ∷ a) [] h k = h
of_times (x ∷ ns) (d ∷ a) (e ∷ b) h k = of_times ns a b h k

pub names_times : (ns : List (List ℕ)) (a b : Exponents) → IsOfNames ns a → IsOfNames ns b → IsOfNames ns (exponents_times a b)
names_times ns a b h k = (
  times_length 8 a b h.0 k.0,
  subst (AreOf ns) (sym (turned_times a b (h.0 ∙ sym k.0))) (of_times ns (reverse a) (reverse b) h.1 k.1),
)

zero_of : (ns : List (List ℕ)) (n : ℕ) → AreOf ns (replicate n 0)
zero_of [] zero = tt
zero_of [] (suc n) = (refl, zero_of [] n)
zero_of (x ∷ ns) zero = tt
zero_of (x ∷ ns) (suc n) = zero_of ns n

pub names_one : (ns : List (List ℕ)) → IsOfNames ns one_monomial
names_one ns = (refl, zero_of ns 8)

-- a packed monomial has eight exponents
pub packed_length : (k : ℕ) → length (monomial_of k) ≡ 8
unfolding monomial_of
packed_length k = refl
