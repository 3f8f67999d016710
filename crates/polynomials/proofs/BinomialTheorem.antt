-- The binomial theorem, for sums of two summands.
use Rattle.polynomials.proofs.Shared.{◌≡◌, ℕ, zero, suc, ◌+◌, ◌-◌, ◌*◌, ◌/◌, ◌^◌, ◌<◌, ◌≤◌, [], ◌∷◌, ◌++◌, pos, refl, sym, ap, ◌∙◌, arith, append-nil, add_comm, add_assoc, mul-div_cancel, pow-suc}
use Rattle.polynomials.proofs.Shared.{one_times, times_assoc, times_comm, Fraction, plus, plus_lowest, times, whole_fraction, choices, summand_power, AreSame, HasExponents, Monomial, Polynomial}
use Rattle.polynomials.proofs.{Shared.{Summand, monomial_times, one_monomial, product, raised, row, summand, summand_times}, Exponents.{exponents_times, one_exponents}, Worth.{plus_times}}
use Rattle.polynomials.proofs.Worth.{product_right, same_cons, same_is, same_joined, same_moved, same_sym, same_trans, same_turned}
use Rattle.calc_terms.specs.Fractions.{lowest, one_fraction}

-- ---- binomial coefficients

pub choices_none : (n : ℕ) → choices n 0 ≡ 1
choices_none zero = refl
choices_none (suc n) = refl

choices_above : (n k : ℕ) → n < k → choices n k ≡ 0
choices_above n zero h = absurd (omega arith)
choices_above zero (suc k) h = refl
choices_above (suc n) (suc k) h = omega (arith, choices_above n k (omega arith), choices_above n (suc k) (omega arith))

pub choices_all : (n : ℕ) → choices n n ≡ 1
choices_all zero = refl
choices_all (suc n) = omega (arith, choices_all n, choices_above n (suc n) (omega arith))

pub choices_bound : (n k : ℕ) → choices n k ≤ 2 ^ n
choices_bound zero zero = omega arith
choices_bound zero (suc k) = omega arith
choices_bound (suc n) zero = omega (arith, pow-suc 2 n, choices_bound n 0, choices_none n)
choices_bound (suc n) (suc k) = omega (arith, pow-suc 2 n, choices_bound n k, choices_bound n (suc k))

-- (a + 1) b = a b + b
one_more : (a b : ℕ) → suc a * b ≡ a * b + b
one_more a b = omega arith

distributed : (a b c : ℕ) → a * (b + c) ≡ a * b + a * c
distributed a b c = omega arith

-- a choice of one thing, and then of the others
absorbed : (n k : ℕ) → suc k * choices (suc n) (suc k) ≡ suc n * choices n k
absorbed zero zero = refl
absorbed zero (suc k) = omega arith
absorbed (suc n) zero =
    omega (arith, absorbed n 0 ∙ ap (λ x. suc n * x) (choices_none n))
absorbed (suc n) (suc k) =
    let p : ℕ = choices (suc n) (suc k) in
    let q : ℕ = choices (suc n) (suc (suc k)) in
    omega (arith, distributed (suc (suc k)) p q, one_more (suc k) p, absorbed n k, absorbed n (suc k), distributed (suc n) (choices n k) (choices n (suc k)), one_more (suc n) p)

pub choices_next : (n k c d e : ℕ) → k ≤ n → c ≡ choices n k → d ≡ n - k → e ≡ c * d / (k + 1) → e ≡ choices n (k + 1)
choices_next n k c d e h p q r = r ∙ ap (λ x. x / (k + 1)) whole ∙ mul-div_cancel (choices n (k + 1)) (let l : 0 < k + 1 = omega arith in l)
  where
    next : ℕ
    next = choices n (suc k)

    from : suc k * (choices n k + next) ≡ suc n * choices n k
    from = absorbed n k

    split : (a b m j x y : ℕ) → j ≤ m → suc j * (x + y) ≡ suc m * x → y * suc j ≡ x * (m - j)
    split a b m j x y l f =
        let by : (j + (m - j)) * x ≡ j * x + (m - j) * x = omega arith in
        let g : m * x ≡ j * x + (m - j) * x = ap (λ i. i * x) (let s : m ≡ j + (m - j) = omega arith in s) ∙ by in
        omega (arith, f, g)

    whole : c * d ≡ choices n (k + 1) * (k + 1)
    whole = (λ i. p i * q i) ∙ sym (split 0 0 n k (choices n k) next h from) ∙ (let s : suc k ≡ k + 1 = omega arith in λ i. choices n (s i) * s i)

-- ---- summands

monomials_comm : (m n : Monomial) → monomial_times m n ≡ monomial_times n m
monomials_comm (x ∷ m) (y ∷ n) = λ i. add_comm x y i ∷ monomials_comm m n i
monomials_comm [] [] = refl
monomials_comm _ _ = refl

monomials_assoc : (l m n : Monomial) → monomial_times (monomial_times l m) n ≡ monomial_times l (monomial_times m n)
monomials_assoc [] m n = refl
monomials_assoc (x ∷ l) (y ∷ m) (z ∷ n) = λ i. add_assoc x y z i ∷ monomials_assoc l m n i
monomials_assoc _ _ _ = refl

assoc : (s t u : Summand) → summand_times (summand_times s t) u ≡ summand_times s (summand_times t u)
assoc s t u = λ i. summand (times_assoc s.coefficient t.coefficient u.coefficient i) (monomials_assoc s.monomial t.monomial u.monomial i)

comm : (s t : Summand) → summand_times s t ≡ summand_times t s
comm s t = λ i. summand (times_comm s.coefficient t.coefficient i) (monomials_comm s.monomial t.monomial i)

exchanged : (s t u : Summand) → summand_times s (summand_times t u) ≡ summand_times t (summand_times s u)
exchanged s t u = sym (assoc s t u) ∙ ap (λ x. summand_times x u) (comm s t) ∙ assoc t s u

pub power_exponents : (d : ℕ) (s : Summand) (n : ℕ) → HasExponents d s.monomial → HasExponents (n * d) (summand_power s n).monomial
power_exponents d s zero h = let none : 0 * d ≡ 0 = omega arith in rw none one_exponents
power_exponents d s (suc n) h =
    let more : suc n * d ≡ d + n * d = omega arith in
    rw more (exponents_times d (n * d) s.monomial (summand_power s n).monomial h (power_exponents d s n h))

-- ---- the theorem

module _ (s t : Summand) where
  -- n times s to the i and t to the j
  abbrev pub mixed : ℕ → ℕ → ℕ → Summand
  mixed n i j = summand_times (summand (whole_fraction (pos n)) one_monomial) (summand_times (summand_power s i) (summand_power t j))

  -- the first k summands of the n-th power, the last one first
  abbrev pub mixed_to : ℕ → ℕ → Polynomial
  mixed_to n zero = []
  mixed_to n (suc k) = mixed (choices n k) (n - k) k ∷ mixed_to n k

  times_first : (n i j : ℕ) → summand_times s (mixed n i j) ≡ mixed n (suc i) j
  times_first n i j =
      exchanged s (summand (whole_fraction (pos n)) one_monomial) (summand_times (summand_power s i) (summand_power t j))
      ∙ ap (summand_times (summand (whole_fraction (pos n)) one_monomial)) (sym (assoc s (summand_power s i) (summand_power t j)))

  times_second : (n i j : ℕ) → summand_times t (mixed n i j) ≡ mixed n i (suc j)
  times_second n i j =
      exchanged t (summand (whole_fraction (pos n)) one_monomial) (summand_times (summand_power s i) (summand_power t j))
      ∙ ap (summand_times (summand (whole_fraction (pos n)) one_monomial)) (exchanged t (summand_power s i) (summand_power t j))

  whole_plus : (a b : ℕ) → plus (whole_fraction (pos a)) (whole_fraction (pos b)) ≡ whole_fraction (pos (a + b))
  whole_plus a b = plus_lowest (pos a) (pos b) 1 1 (omega arith) (omega arith) ∙ ap (λ n. lowest (pos n) 1) (let e : a * 1 + b * 1 ≡ a + b = omega arith in e)

  -- two counts of one monomial
  both : (a b i j : ℕ) (v : Polynomial) → AreSame (mixed a i j ∷ mixed b i j ∷ v) (mixed (b + a) i j ∷ v)
  both a b i j v =
      let x : Summand = summand_times (summand_power s i) (summand_power t j) in
      let m : Monomial = monomial_times one_monomial x.monomial in
      let p : Fraction = times (whole_fraction (pos b)) x.coefficient in
      let q : Fraction = times (whole_fraction (pos a)) x.coefficient in
      let e : plus p q ≡ times (whole_fraction (pos (b + a))) x.coefficient =
      sym (plus_times (whole_fraction (pos b)) (whole_fraction (pos a)) x.coefficient) ∙ ap (λ y. times y x.coefficient) (whole_plus b a) in
      same_trans (same_sym (same_joined p q m v)) (same_is (λ i. summand (e i) m ∷ v))

  rows_to : (n k : ℕ) → k ≤ n → AreSame (row s (mixed_to n (suc k)) ++ row t (mixed_to n (suc k))) (mixed (choices n k) (n - k) (suc k) ∷ mixed_to (suc n) (suc k))
  rows_to n zero h =
      let one : choices n 0 ≡ choices (suc n) 0 = choices_none n in
      let all : suc (n - 0) ≡ suc n - 0 = omega arith in
      let first : summand_times s (mixed (choices n 0) (n - 0) 0) ≡ mixed (choices (suc n) 0) (suc n - 0) 0 = times_first (choices n 0) (n - 0) 0 ∙ (λ i. mixed (one i) (all i) 0) in
      let second : summand_times t (mixed (choices n 0) (n - 0) 0) ≡ mixed (choices n 0) (n - 0) 1 = times_second (choices n 0) (n - 0) 0 in
      same_trans (same_is (λ i. first i ∷ second i ∷ [])) (same_turned (mixed (choices (suc n) 0) (suc n - 0) 0) (mixed (choices n 0) (n - 0) 1 ∷ []))
  rows_to n (suc k) h =
      let c : ℕ = choices n (suc k) in
      let w : Polynomial = mixed_to n (suc k) in
      let x : Summand = mixed c (n - k) (suc k) in
      let y : Summand = mixed c (n - suc k) (suc (suc k)) in
      let first : summand_times s (mixed c (n - suc k) (suc k)) ≡ x = times_first c (n - suc k) (suc k) ∙ ap (λ i. mixed c i (suc k)) (let e : suc (n - suc k) ≡ n - k = omega arith in e) in
      let second : summand_times t (mixed c (n - suc k) (suc k)) ≡ y = times_second c (n - suc k) (suc k) in
      let places : n - k ≡ suc n - suc k = omega arith in
      same_trans (same_is (λ i. (first i ∷ row s w) ++ (second i ∷ row t w)))
      (same_trans (same_moved (x ∷ row s w) y (row t w))
      (same_cons y (same_trans (same_cons x (rows_to n k (omega arith)))
      (same_trans (both c (choices n k) (n - k) (suc k) (mixed_to (suc n) (suc k)))
      (same_is (λ i. mixed (choices n k + c) (places i) (suc k) ∷ mixed_to (suc n) (suc k)))))))

  product_two : (w : Polynomial) → product (s ∷ t ∷ []) w ≡ row s w ++ row t w
  product_two w = ap (λ (v : Polynomial). row s w ++ v) (append-nil (row t w))

  -- no factor
  binomial_none : AreSame (mixed_to 0 1) (raised (s ∷ t ∷ []) 0)
  unfolding lowest one_fraction
  binomial_none = same_is (λ i. (ap (summand_times (summand one_fraction one_monomial)) ones ∙ ones) i ∷ [])
    where
      ones : summand_times (summand one_fraction one_monomial) (summand one_fraction one_monomial) ≡ summand one_fraction one_monomial
      ones = λ i. summand (one_times one_fraction i) one_monomial

  pub binomial : (n : ℕ) → AreSame (mixed_to n (suc n)) (raised (s ∷ t ∷ []) n)
  binomial zero = binomial_none
  binomial (suc n) =
      let last : mixed (choices n n) (n - n) (suc n) ≡ mixed (choices (suc n) (suc n)) (suc n - suc n) (suc n) =
      (λ i. mixed ((choices_all n ∙ sym (choices_all (suc n))) i) ((let e : n - n ≡ suc n - suc n = omega arith in e) i) (suc n)) in
      same_sym (same_trans (product_right (s ∷ t ∷ []) (same_sym (binomial n)))
      (same_trans (same_is (product_two (mixed_to n (suc n))))
      (same_trans (rows_to n n (omega arith))
      (same_is (λ i. last i ∷ mixed_to (suc n) (suc n))))))
