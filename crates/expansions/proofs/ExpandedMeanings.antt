-- What a polynomial is worth is a meaning of its expanded tree.
use Rattle.expansions.proofs.Shared.{◌≡◌, ◌≤◌, ℕ, zero, suc, ◌+◌, pos, [], ◌∷◌, Bool, true, false, refl, sym, ap, ◌∙◌, subst, arith, ◌==◌, if◌then◌else◌, eqb-true, Ordering, Less, Equal, Greater}
use Rattle.expansions.proofs.Shared.{nat_cmp, slice_cmp, Assignment, IsAssignment, IsWholePower, Means, MeansProduct, MeansSum, product_tree, Surd, surd_of, surd_one, Means-Same, Same-sym}
use Rattle.expansions.proofs.Shared.{rational_power, power_whole, Same-trans, Same-eq, Same-refl, joined_radicand, surd_times-terms, zero_term, one_is, zero_is, fraction_power, one_times, zero_plus}
use Rattle.expansions.proofs.Shared.{zero_times, Fraction, is_one_fraction, minus_one_fraction, plus, plus_assoc, times, zero_fraction, inverse, Tree, num, symbol, undef, add, mult, power, root, neg}
use Rattle.expansions.proofs.Shared.{sub, div, Trees, none, more, whole_num, Factor, Monomial, Polynomial, Summand, factor, monomial_times, scaled, summand, with_factor, divisor_of, exponent_of}
use Rattle.expansions.proofs.Shared.{is_polynomial, polynomial_of, product_of, sum_of, expanded, factor_tree, factor_trees, joined, monomial_cmp, monomial_tree, normal, sum_tree, term_tree}
use Rattle.expansions.proofs.Shared.{term_trees, with_summand, without_zeros, factor_value, given, monomial_value, polynomial_value, summand_value, Gives, none_product, none_sum, one_product, one_sum}
use Rattle.expansions.proofs.{Shared.{product_more, product_none, sum_more, sum_none, times_one, plus_left_comm, plus_times}, AllMonomials.{AllHave, IsClosed, append_all, normal_all, product_all}}
use Rattle.expansions.proofs.{AllMonomials.{raised_all, scaled_all}, MonomialTrees.{equal_is}, TreeMeanings.{tree_worth}, ValueLaws.{given_is}}

-- ---- the value of the normal polynomial

with_summand_value : (f : Assignment) (s : Summand) (v : Polynomial) → polynomial_value f (with_summand s v) ≡ polynomial_value f (s ∷ v)
with_summand_value f s [] = refl
with_summand_value f s (t ∷ v) = by (monomial_cmp s.monomial t.monomial) refl (with_summand_value f s v)
  where
    by : (o : Ordering) → monomial_cmp s.monomial t.monomial ≡ o → polynomial_value f (with_summand s v) ≡ polynomial_value f (s ∷ v)
        → polynomial_value f (elim o [ Less ↦ s ∷ t ∷ v | Equal ↦ summand (plus s.coefficient t.coefficient) s.monomial ∷ v | Greater ↦ t ∷ with_summand s v ]) ≡ polynomial_value f (s ∷ t ∷ v)
    by Less e go = refl
    by Equal e go =
        ap (λ x. plus x (polynomial_value f v)) (plus_times s.coefficient t.coefficient (monomial_value f s.monomial)
        ∙ ap (λ m. plus (summand_value f s) (times t.coefficient (monomial_value f m))) (equal_is s.monomial t.monomial e))
        ∙ plus_assoc (summand_value f s) (summand_value f t) (polynomial_value f v)
    by Greater e go = ap (plus (summand_value f t)) go ∙ plus_left_comm (summand_value f t) (summand_value f s) (polynomial_value f v)

joined_value : (f : Assignment) (v : Polynomial) → polynomial_value f (joined v) ≡ polynomial_value f v
joined_value f [] = refl
joined_value f (s ∷ v) = with_summand_value f s (joined v) ∙ ap (plus (summand_value f s)) (joined_value f v)

without_zeros_value : (f : Assignment) (v : Polynomial) → polynomial_value f (without_zeros v) ≡ polynomial_value f v
without_zeros_value f [] = refl
without_zeros_value f (s ∷ v) = let go = without_zeros_value f v in grind (arith, zero_is, zero_times, zero_plus)

normal_value : (f : Assignment) (v : Polynomial) → polynomial_value f (normal v) ≡ polynomial_value f v
normal_value f v = without_zeros_value f (joined v) ∙ joined_value f v

module _ (f : Assignment) where
  -- ---- names with a value

  -- the name has a value, and the exponent is at least 1
  pub record IsGiven (g : Factor) : Type 0 where
    pub value : Fraction
    pub gives : Gives f g.name value
    pub positive : 1 ≤ g.exponent

  abbrev pub AreGiven : Monomial → Type 0
  AreGiven [] = Unit {0}
  AreGiven (g ∷ m) = IsGiven g × AreGiven m

  with_factor_given : (g : Factor) (m : Monomial) → IsGiven g → AreGiven m → AreGiven (with_factor g m)
  with_factor_given g [] h k = (h, tt)
  with_factor_given g (i ∷ m) h k = by (slice_cmp nat_cmp g.name i.name) (with_factor_given g m h k.1)
    where
      sum : 1 ≤ g.exponent + i.exponent
      sum = omega (arith, h.positive)

      by : (o : Ordering) → AreGiven (with_factor g m) → AreGiven (elim o [ Less ↦ g ∷ i ∷ m | Equal ↦ factor g.name (g.exponent + i.exponent) ∷ m | Greater ↦ i ∷ with_factor g m ])
      by Less go = (h, k)
      by Equal go = (record { value = h.value; gives = h.gives; positive = sum }, k.1)
      by Greater go = (k.0, go)

  monomial_times_given : (m n : Monomial) → AreGiven m → AreGiven n → AreGiven (monomial_times m n)
  monomial_times_given [] n h k = k
  monomial_times_given (g ∷ m) n h k = with_factor_given g (monomial_times m n) h.0 (monomial_times_given m n h.1 k)

  given_closed : IsClosed AreGiven
  given_closed = record { one = tt; times = monomial_times_given }

  mutual
    polynomial_given : (t : Tree) (v : Surd) → Means t f v → AllHave AreGiven (polynomial_of t)
    polynomial_given (num q) v m = (tt, tt)
    polynomial_given (symbol x) v (q, g, m) = ((record { value = q; gives = g; positive = omega arith }, tt), tt)
    polynomial_given undef v m = tt
    polynomial_given (add ts) v (w, m, e) = sum_given ts w m
    polynomial_given (mult ts) v (w, m, e) = all_given ts w m
    polynomial_given (power b e) v (w, x, m, n, p) = raised_all AreGiven given_closed (polynomial_of b) (exponent_of e) (polynomial_given b w m)
    polynomial_given (root a) v m = tt
    polynomial_given (neg a) v (w, m, e) = scaled_all AreGiven minus_one_fraction (polynomial_of a) (polynomial_given a w m)
    polynomial_given (sub a b) v (w, u, m, n, e) =
        append_all AreGiven (polynomial_of a) (scaled minus_one_fraction (polynomial_of b)) (polynomial_given a w m) (scaled_all AreGiven minus_one_fraction (polynomial_of b) (polynomial_given b u n))
    polynomial_given (div a c) v (w, u, y, m, n, i, e) = scaled_all AreGiven (inverse (divisor_of c)) (polynomial_of a) (polynomial_given a w m)

    sum_given : (ts : Trees) (v : Surd) → MeansSum ts f v → AllHave AreGiven (sum_of ts)
    sum_given none v m = tt
    sum_given (more t ts) v (a, b, m, n, e) = append_all AreGiven (polynomial_of t) (sum_of ts) (polynomial_given t a m) (sum_given ts b n)

    all_given : (ts : Trees) (v : Surd) → MeansProduct ts f v → AllHave AreGiven (product_of ts)
    all_given none v m = (tt, tt)
    all_given (more t ts) v (a, b, m, n, e) = product_all AreGiven given_closed (polynomial_of t) (product_of ts) (polynomial_given t a m) (all_given ts b n)

  -- ---- meanings of the trees

  module _ (once : IsAssignment f) where
    name_means : (g : Factor) → IsGiven g → Means (symbol g.name) f (surd_of (given f g.name))
    name_means g h = (h.value, h.gives, Same-eq (ap surd_of (given_is f once g.name h.value h.gives)))

    factor_means : (g : Factor) → IsGiven g → Means (factor_tree g) f (surd_of (factor_value f g))
    factor_means g h = by (g.exponent == 1) refl
      where
        is_power : (q : Fraction) (n : ℕ) → 1 ≤ n → IsWholePower (pos n) (surd_of q) (surd_of (fraction_power q n))
        is_power q zero l = absurd (omega arith)
        is_power q (suc n) l = rational_power q n

        by : (b : Bool) → (g.exponent == 1) ≡ b → Means (if b then symbol g.name else power (symbol g.name) (whole_num g.exponent)) f (surd_of (factor_value f g))
        by true e =
            subst (λ x. Means (symbol g.name) f (surd_of x)) (sym (ap (fraction_power (given f g.name)) (eqb-true g.exponent 1 e) ∙ times_one (given f g.name))) (name_means g h)
        by false e = power_whole f (symbol g.name) (pos g.exponent) (surd_of (given f g.name)) (surd_of (factor_value f g)) (name_means g h) (is_power (given f g.name) g.exponent h.positive)

    factors_mean : (m : Monomial) → AreGiven m → Means (mult (factor_trees m)) f (surd_of (monomial_value f m))
    factors_mean [] h = product_none f surd_one (Same-refl surd_one)
    factors_mean (g ∷ m) h =
        product_more f (factor_tree g) (factor_trees m) (surd_of (monomial_value f (g ∷ m))) (surd_of (factor_value f g)) (surd_of (monomial_value f m))
        (factor_means g h.0) (factors_mean m h.1) (Same-eq (sym (surd_times-terms (factor_value f g) (monomial_value f m) 1 1)))

    product_tree_means : (ts : Trees) (v : Surd) → Means (mult ts) f v → Means (product_tree ts) f v
    product_tree_means none v m = none_product f v m
    product_tree_means (more t none) v m = one_product f t v m
    product_tree_means (more t (more u ts)) v m = m

    term_means : (s : Summand) → AreGiven s.monomial → Means (term_tree s) f (surd_of (summand_value f s))
    term_means s h = by (is_one_fraction s.coefficient) refl
      where
        by : (b : Bool) → is_one_fraction s.coefficient ≡ b
            → Means (if b then monomial_tree s.monomial else product_tree (more (num s.coefficient) (factor_trees s.monomial))) f (surd_of (summand_value f s))
        by true e =
            subst (λ x. Means (monomial_tree s.monomial) f (surd_of x)) (sym (ap (λ q. times q (monomial_value f s.monomial)) (one_is s.coefficient e) ∙ one_times (monomial_value f s.monomial)))
            (product_tree_means (factor_trees s.monomial) (surd_of (monomial_value f s.monomial)) (factors_mean s.monomial h))
        by false e =
            product_tree_means (more (num s.coefficient) (factor_trees s.monomial)) (surd_of (summand_value f s))
            (product_more f (num s.coefficient) (factor_trees s.monomial) (surd_of (summand_value f s)) (surd_of s.coefficient) (surd_of (monomial_value f s.monomial))
            (Same-refl (surd_of s.coefficient)) (factors_mean s.monomial h) (Same-eq (sym (surd_times-terms s.coefficient (monomial_value f s.monomial) 1 1))))

    terms_mean : (v : Polynomial) → AllHave AreGiven v → Means (add (term_trees v)) f (surd_of (polynomial_value f v))
    terms_mean [] h = sum_none f (surd_of zero_fraction) (zero_term 1)
    terms_mean (s ∷ v) h =
        sum_more f (term_tree s) (term_trees v) (surd_of (polynomial_value f (s ∷ v))) (surd_of (summand_value f s)) (surd_of (polynomial_value f v))
        (term_means s h.0) (terms_mean v h.1) (Same-sym (joined_radicand (summand_value f s) (polynomial_value f v) 1))

    sum_tree_means : (ts : Trees) (v : Surd) → Means (add ts) f v → Means (sum_tree ts) f v
    sum_tree_means none v m = Same-trans (none_sum f v m) (Same-sym (zero_term 1))
    sum_tree_means (more t none) v m = one_sum f t v m
    sum_tree_means (more t (more u ts)) v m = m

    -- each meaning of a polynomial tree is one of the expanded tree
    pub expanded_means : (t : Tree) (v : Surd) → is_polynomial t ≡ true → Means t f v → Means (expanded (polynomial_of t)) f v
    expanded_means t v h m =
        let p : Polynomial = polynomial_of t in
        let n : Means (expanded p) f (surd_of (polynomial_value f (normal p))) = sum_tree_means (term_trees (normal p)) _ (terms_mean (normal p) (normal_all AreGiven p (polynomial_given t v m))) in
        Means-Same (expanded p) f _ v n (Same-trans (Same-eq (ap surd_of (normal_value f p))) (Same-sym (tree_worth f once t v h m)))
