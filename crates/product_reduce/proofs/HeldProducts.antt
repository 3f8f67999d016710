-- What holds the factors of a product one by one holds what they are gathered to.
use Rattle.product_reduce.proofs.Shared.{◌≡◌, ◌≤◌, ◌+◌, ℕ, List, [], ◌∷◌, Bool, true, false, not, if◌then◌else◌, refl, sym, ap, ◌∙◌, subst, arith, true≢false, Fraction, zero_fraction}
use Rattle.product_reduce.proofs.Shared.{is_zero_fraction, is_one_fraction, no_zero, Tree, num, add, mult, Trees, none, more, append, count, is_mult, has_undef, is_number, value, NoneIs, Split, split}
use Rattle.product_reduce.proofs.Shared.{split_product, product_tree, num_one, are_reduced, Surd, surd_of, IsHeld, factors_of, rational_before, with_coefficient, IsMonic, mapped, rational_times_term}
use Rattle.product_reduce.proofs.Shared.{monic_sum, monic_parts, IsFactor, not_one_is, factors_no_number, is_zero, IsSumHeld, as_factor, distributed, Addend, addend, addend_of, addends, none_weighted}
use Rattle.product_reduce.proofs.Shared.{more_weighted, IsPartHeld, weighted, AreHeld, distributed_held, factor_as_tree, factor_is_held, wider, held_wider, one_counts, one_weighted, wider_held}
use Rattle.product_reduce.proofs.Shared.{put_before, children_of, AreOthers, IsWritten, IsWrittenProduct, IsFactorHeld, AreFactorsHeld, opened, others_in, coefficient_times, IsGathered, number_parts}
use Rattle.product_reduce.proofs.Shared.{number_words, HasForm, one_value, multiple_addends, split_sum, reduced_formed, of_lists, tree_as_sum, sum_as_tree}
use Rattle.product_reduce.proofs.{Forms.{opened_flat, split_of_number, split_of_others, opened_parts}, Gathered.{others_permuted}, GatheredCounts.{single_monic}, HeldFactors.{AreHeldApart}}
use Rattle.product_reduce.proofs.{HeldFactors.{before_held, held_apart, opened_held, part_permuted, part_single}, HeldNumbers.{number_as_factor}, Leads.{factors_again}, Stepped.{others_are}}
use Rattle.surd_bits.proofs.Rooted.{as_rational as rational_value}

-- ---- a product as one factor

as_product : (us fs : Trees) (c : Tree) → split_product us ≡ split c fs → 1 ≤ count fs → as_factor (mult us) ≡ addend (value c) fs
as_product us fs c e l =
    ap (λ (b : Bool). if b then addend (value (mult us)) none else addend_of (mult us)) (factors_no_number c fs us e l)
    ∙ ap (λ (s : Split). addend (value s.coefficient) s.factors) e

pub spliced_held : (c : Tree) (fs : Trees) {p q k n : ℕ} → is_number c ≡ true → NoneIs is_number fs → 1 ≤ count fs → IsHeld (value c) p q → IsPartHeld fs k n
    → IsFactorHeld (mult (append (factors_of c) fs)) (p + k) (q + n)
spliced_held c fs {p = p} {q = q} {k = k} {n = n} e m l a b =
    subst (λ (x : Addend). IsSumHeld (x ∷ []) (p + k) (q + n)) (sym (as_product (append (factors_of c) fs) fs c (split_of_number c fs e m) l))
    (record { terms = weighted (value c) k n ∷ []; weighted = more_weighted k n b none_weighted; held = put_before (value c) p q k n a })

-- the factors alone
tree_held : (fs : Trees) {k n : ℕ} → NoneIs is_number fs → NoneIs is_mult fs → 1 ≤ count fs → IsPartHeld fs k n → IsFactorHeld (product_tree fs) k n
tree_held none m s l b = absurd (omega arith)
tree_held (more t none) m s l b = part_single t m.0 s.0 b
tree_held (more t (more u fs)) {k = k} {n = n} m s l b =
    let fs' : Trees = more t (more u fs) in
    subst (λ (x : Addend). IsSumHeld (x ∷ []) k n) (sym (as_product fs' fs' num_one (split_of_others fs' m) l))
    (record { terms = weighted (value num_one) k n ∷ []; weighted = more_weighted k n b none_weighted; held = subst (λ (v : Surd). AreHeld (weighted v k n ∷ []) k n) (sym one_value) (one_weighted k n) })

-- ---- a rational that goes into a sum

sum_positive : (ts : Trees) {k n : ℕ} → IsPartHeld (more (add ts) none) k n → 1 ≤ k
sum_positive ts b = grind (arith, one_counts)

pub sum_addends : (v : Surd) (ts : Trees) {p i k n : ℕ} → is_number (add ts) ≡ false → IsHeld v p i → IsPartHeld (more (add ts) none) k n
    → IsSumHeld (distributed v (addends (add ts))) (p + k) (i + n)
sum_addends v ts {p = p} {i = i} {k = k} {n = n} e a b =
    distributed_held v (addends (add ts)) k n p i a (tree_as_sum refl (factor_as_tree (add ts) k n (part_single (add ts) e refl b)))

spread_held : (q : Fraction) (ts : Trees) {p i k n : ℕ} → IsFactor q → IsMonic (add ts) → is_number (add ts) ≡ false → IsHeld (surd_of q) p i → IsPartHeld (more (add ts) none) k n
    → IsFactorHeld (add (mapped (rational_times_term q) ts)) (p + k) (i + n)
spread_held q ts {p = p} {i = i} {k = k} {n = n} f m e a b =
    let t : Tree = add (mapped (rational_times_term q) ts) in
    let l : 1 ≤ k = sum_positive ts b in
    factor_is_held t (p + k) (i + n) refl (omega (arith, l))
    (sum_as_tree t (p + k) (i + n)
    (subst (λ (xs : List Addend). IsSumHeld xs (p + k) (i + n)) (sym (multiple_addends q f ts (split_sum ts (monic_sum ts m) (monic_parts (add ts) m).1))) (sum_addends (surd_of q) ts e a b)))

-- ---- a coefficient before others

rational_before_held : (q : Fraction) (fs : Trees) {p i k n : ℕ} → IsFactor q → AreOthers fs → 1 ≤ count fs → IsHeld (value (num q)) p i → IsPartHeld fs k n
    → IsFactorHeld (rational_before q (product_tree fs)) (p + k) (i + n)
unfolding is_number
rational_before_held q none f o l a b = absurd (omega arith)
rational_before_held q (more (add ts) none) {p = p} {i = i} f o l a b =
    spread_held q ts f (single_monic (add ts) o) o.no_number.0 (subst (λ (v : Surd). IsHeld v p i) (rational_value q f.not_zero) a) b
rational_before_held q (more (mult ts) none) f o l a b = absurd (true≢false o.no_product.0)
rational_before_held q (more t none) f o l a b = spliced_held (num q) (more t none) refl o.no_number (omega arith) a b
rational_before_held q (more t (more u fs)) f o l a b = spliced_held (num q) (more t (more u fs)) refl o.no_number (omega arith) a b

with_held : (c : Tree) (fs : Trees) {p q k n : ℕ} → is_number c ≡ true → is_zero c ≡ false → AreOthers fs → 1 ≤ count fs → IsHeld (value c) p q → IsPartHeld fs k n
    → IsFactorHeld (with_coefficient c (product_tree fs)) (p + k) (q + n)
with_held (num c) fs {p = p} {q = q} {k = k} {n = n} e z o l a b = by (is_zero_fraction c) (is_one_fraction c) refl refl
  where
    by : (x y : Bool) → is_zero_fraction c ≡ x → is_one_fraction c ≡ y
        → IsFactorHeld (if x then num zero_fraction else (if y then product_tree fs else rational_before c (product_tree fs))) (p + k) (q + n)
    by true y g h = absurd (true≢false (sym g ∙ z))
    by false true g h = tree_held fs o.no_number o.no_product l (wider (omega arith) (omega arith) b)
    by false false g h = rational_before_held c fs (record { not_zero = no_zero c (ap not g); not_one = not_one_is c h }) o l a b
with_held c fs {p = p} {q = q} {k = k} {n = n} e z o l a b =
    subst (λ (us : Trees). IsFactorHeld (mult (append (factors_of c) us)) (p + k) (q + n)) (sym (factors_again fs o.no_product l)) (spliced_held c fs e o.no_number l a b)

-- ---- gathered

pub factor_wider : (t : Tree) {h l k n : ℕ} → h ≤ k → l ≤ n → IsFactorHeld t h l → IsFactorHeld t k n
factor_wider t x y a = record { terms = a.terms; weighted = a.weighted; held = wider_held x y a.held }

times_held : (c : Tree) (us : Trees) {p q k n h l : ℕ} → is_number c ≡ true → is_zero c ≡ false → AreOthers us → IsHeld (value c) p q → IsPartHeld us k n → p + k ≤ h → q + n ≤ l
    → IsFactorHeld (coefficient_times c us) h l
times_held c none {p = p} {q = q} {h = h} {l = l} e z o a b x y = number_as_factor c h l e (held_wider (value c) p h q l (omega arith) (omega arith) a)
times_held c (more t us) e z o a b x y = factor_wider (with_coefficient c (product_tree (more t us))) x y (with_held c (more t us) e z o (omega arith) a b)

-- the factors opened, and their Numbers apart
pub apart : (ts : Trees) {h l : ℕ} → are_reduced ts ≡ true → has_undef ts ≡ false → AreFactorsHeld ts h l → AreHeldApart (opened ts) h l
apart ts r d a = let f = reduced_formed ts r d in held_apart (opened ts) (opened_parts HasForm ts f) (opened_flat ts f) (opened_held ts f a)

pub finished_held : (ts : Trees) (t : Tree) (h l : ℕ) → are_reduced ts ≡ true → has_undef ts ≡ false → AreFactorsHeld ts h l → IsWrittenProduct ts t → IsFactorHeld t h l
finished_held ts t h l r d a w = by (is_zero c) refl
  where
    c : Tree
    c = w.coefficient

    s : AreHeldApart (opened ts) h l
    s = apart ts r d a

    number : is_number c ≡ true
    number = w.is_coefficient.number

    of_coefficient : IsHeld (value c) s.p s.q
    of_coefficient = w.is_coefficient.held s.p s.q s.numbers

    of_written : is_zero c ≡ false → IsWritten c (others_in (opened ts)) t → IsFactorHeld t h l
    of_written z x =
        let m = of_lists (others_in (opened ts)) x.us x.sorted.moved in
        subst (λ (u : Tree). IsFactorHeld u h l) (sym x.is) (times_held c x.us number z (others_permuted m (others_are ts r d)) of_coefficient (part_permuted m s.others) s.high s.low)

    by : (b : Bool) → is_zero c ≡ b → IsFactorHeld t h l
    by true e =
        subst (λ (u : Tree). IsFactorHeld u h l) (sym (w.zero e)) (number_as_factor c h l number (held_wider (value c) s.p h s.q l (omega (arith, s.high)) (omega (arith, s.low)) of_coefficient))
    by false e = of_written e (w.written e)

pub gathered_held : (ts : Trees) (t : Tree) (h l : ℕ) → are_reduced ts ≡ true → has_undef ts ≡ false → AreFactorsHeld ts h l → IsGathered ts t → AreFactorsHeld (children_of t) h l
gathered_held ts t h l r d a g =
    let s : AreHeldApart (opened ts) h l = apart ts r d a in
    let m = of_lists (others_in (opened ts)) g.others g.sorted.moved in
    let o = others_permuted m (others_are ts r d) in
    let c = g.joinable.coefficient in
    subst (λ (u : Tree). AreFactorsHeld (children_of u) h l) (sym g.is)
    (before_held g.coefficient g.others c.number (number_parts g.coefficient (number_words g.coefficient c.number))
    o.no_number o.no_product (c.held s.p s.q s.numbers) (part_permuted m s.others) s.high s.low)
