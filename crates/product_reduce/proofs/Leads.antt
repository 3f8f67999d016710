-- A coefficient that stands first as it is written, and factors put in order behind it.
use Rattle.product_reduce.proofs.Shared.{Option, MatchOption, ℕ, zero, suc, ◌+◌, ◌≤◌, ◌≡◌, ◌≢◌, Bool, true, false, if◌then◌else◌, refl, sym, ap, ◌∙◌, subst, arith, true≢false, is_number, value}
use Rattle.product_reduce.proofs.Shared.{base_of, is_num_one, is_one_add, num_one, product_tree, NoneIs, HasForm, are_reduced, Same-sym, Permuted, Permuted-sym, Same-trans, Agree-Same, surd_times-one}
use Rattle.product_reduce.proofs.Shared.{Same-eq, one_fraction, lowest, gcd, Tree, mult, Trees, none, more, append, count, is_add, is_mult, factors_of, with_coefficient, IsNextNumber, NoNumberBetween}
use Rattle.product_reduce.proofs.Shared.{IsSorting, is_zero, removed, nth, AreOthers, IsStop, at_end, IsEnding, AreFactorsHeld, opened, numbers_in, others_in, product_of_values, coefficient_times}
use Rattle.product_reduce.proofs.Shared.{IsLead, IsOrdered, have_partners, IsPairAt, IsNextPair, NoPairBetween, no_numbers, count_append, no_numbers_none, no_numbers_others, AllPartsOf, one_value}
use Rattle.product_reduce.proofs.{Shared.{none_permuted, of_lists, sorted_behind, Permuted-append_right, own_form}, Fronts.{one_in_front, other_in_front, single_factor}}
use Rattle.product_reduce.proofs.{Gathered.{others_permuted, reduced_permuted}, HeldNumbers.{alone_held, no_factors_held}, LastSteps.{ending, permuted_none_is, times_written}}
use Rattle.product_reduce.proofs.{Misfits.{permuted_one_is}, Neighbours.{pair_partners, sorted_apart, apart_before}, Sorted.{sorted_rising}}
use Rattle.std.specs.Prelude.{is_some}
use Rattle.like_children.proofs.Permutations.{IsBehind}
pub use Rattle.calc_terms.proofs.Names.{not_true as off}

-- ---- opened factors are some

factors_some : (t : Tree) → HasForm t → 1 ≤ count (factors_of t)
factors_some t h = grind arith

pub opened_some : (ts : Trees) → AllPartsOf HasForm ts → 1 ≤ count ts → 1 ≤ count (opened ts)
opened_some none h l = absurd (omega arith)
opened_some (more t ts) h l = omega (arith, factors_some t (own_form t h.0), count_append (factors_of t) (opened ts))

-- ---- how a coefficient is written

pub factors_again : (us : Trees) → NoneIs is_mult us → 1 ≤ count us → factors_of (product_tree us) ≡ us
factors_again us n l = grind arith

not_one_add : (os us : Trees) → Permuted os us → is_one_add os ≡ false → is_one_add us ≡ false
not_one_add os us p d = grind (arith, permuted_one_is, Permuted-sym)

some_permuted : (os us : Trees) → Permuted os us → 1 ≤ count os → 1 ≤ count us
some_permuted os none p l = absurd (let e = ap count (permuted_none_is (Permuted-sym p) refl) in omega (arith, e))
some_permuted os (more t us) p l = omega arith

-- one that is neither 0, 1 nor a product, before others that are no sum alone
times_before : (c : Tree) (os us : Trees) → is_zero c ≡ false → is_num_one c ≡ false → is_mult c ≡ false → NoneIs is_mult os → is_one_add os ≡ false → 1 ≤ count os → Permuted os us
    → coefficient_times c us ≡ product_tree (more c us)
times_before c os us z o m n d l p = grind (arith, none_permuted, not_one_add)

-- 1 before others
one_not_zero : is_zero num_one ≡ false
unfolding one_fraction lowest gcd
one_not_zero = refl

one_is_one : is_num_one num_one ≡ true
unfolding one_fraction lowest gcd
one_is_one = refl

one_times : (us : Trees) → coefficient_times num_one us ≡ product_tree us
one_times us = grind (arith, one_is_one)

-- ---- a coefficient that stands first

pub lead_none : (ts : Trees) → NoNumberBetween 0 (count ts) ts → 1 ≤ count ts → IsLead 0 num_one ts
unfolding is_number
lead_none ts n l =
    let all = no_numbers_others ts (no_numbers ts n) in
    record {
      lead = none;
      split = sym all;
      long = refl;
      coefficient = record { number = refl; same = Same-eq (one_value ∙ sym (ap product_of_values (no_numbers_none ts (no_numbers ts n)))); held = λ h l a. no_factors_held (value num_one) h l one_value };
      not_zero = one_not_zero;
      some = subst (λ (x : Trees). 1 ≤ count x) (sym all) l;
      before = λ us. one_in_front num_one us one_is_one;
      written = λ us s. one_times us;
    }

pub lead_one : (ts : Trees) → IsNextNumber 0 0 ts → NoNumberBetween 1 (count ts) ts → NoneIs is_mult ts → is_zero (nth 0 ts) ≡ false → is_num_one (nth 0 ts) ≡ false → 2 ≤ count ts
    → is_one_add (removed 0 ts) ≡ false → IsLead 1 (nth 0 ts) ts
lead_one none h n m z o l d = absurd (omega arith)
lead_one (more c os) h n m z o l d =
    let all = no_numbers os (λ k f x. n (suc k) (omega arith) (omega arith)) in
    let alone : others_in (more c os) ≡ os = ap (λ (b : Bool). if b then others_in os else more c (others_in os)) h.number ∙ no_numbers_others os all in
    let numbers : numbers_in (more c os) ≡ more c none = ap (λ (b : Bool). if b then more c (numbers_in os) else numbers_in os) h.number ∙ ap (more c) (no_numbers_none os all) in
    let some : 1 ≤ count os = omega arith in
    record {
      lead = more c none;
      split = ap (more c) (sym alone);
      long = refl;
      coefficient = record {
        number = h.number;
        same = Same-trans (Same-sym (Agree-Same (surd_times-one (value c)))) (Same-eq (sym (ap product_of_values numbers)));
        held = λ i j a. alone_held c h.number (subst (λ (ns : Trees). AreFactorsHeld ns i j) numbers a);
      };
      not_zero = z;
      some = subst (λ (x : Trees). 1 ≤ count x) (sym alone) some;
      before = λ us. other_in_front c us o ∙ ap (λ (x : Trees). append x us) (single_factor c m.0);
      written = λ us s. times_before c os us z o m.0 m.1 d some (subst (λ (x : Trees). Permuted x us) alone (of_lists (others_in (more c os)) us s.moved));
    }

-- ---- factors put in order behind others

behind : (n : ℕ) (c : Tree) (ts us : Trees) (h : IsLead n c ts) → IsSorting n base_of ts us → IsBehind base_of h.lead (others_in ts) us
behind n c ts us h s = sorted_behind base_of h.lead (others_in ts) us
    (subst (λ (x : Trees). IsSorting (count h.lead) base_of x us) h.split (subst (λ (k : ℕ). IsSorting k base_of ts us) (sym h.long) s))

pair_inside : (ps vs : Trees) (at : ℕ) → count ps ≤ at → IsPairAt at (append ps vs) → (n : ℕ) × IsPairAt n vs
pair_inside none vs at l p = (at, p)
pair_inside (more t ps) vs zero l p = absurd (omega arith)
pair_inside (more t ps) vs (suc at) l p = let w = p.within in pair_inside ps vs at (omega arith) (record { within = omega (arith, w); pair = p.pair })

no_pair_inside : (ps vs : Trees) → NoPairBetween (count ps) (count (append ps vs)) (append ps vs) → NoPairBetween 0 (count vs) vs
no_pair_inside none vs h = h
no_pair_inside (more t ps) vs h = no_pair_inside ps vs (λ k f l. h (suc k) (omega arith) (omega arith))

-- they are as many at least, and as reduced
pub lead_within : (n : ℕ) (c : Tree) (ts : Trees) → IsLead n c ts → n ≤ count ts
lead_within n c ts h = omega (arith, ap count h.split, count_append h.lead (others_in ts), h.long)

pub put_within : (n : ℕ) (c : Tree) (ts us : Trees) → IsLead n c ts → IsSorting n base_of ts us → n + 1 ≤ count us
put_within n c ts us h s =
    let b = behind n c ts us h s in
    omega (arith, ap count b.is, count_append h.lead b.vs, h.long, some_permuted (others_in ts) b.vs (of_lists (others_in ts) b.vs b.sorted.moved) h.some)

pub put_reduced : (n : ℕ) (c : Tree) (ts us : Trees) → IsLead n c ts → IsSorting n base_of ts us → are_reduced ts ≡ true → are_reduced us ≡ true
put_reduced n c ts us h s r =
    let b = behind n c ts us h s in
    ap are_reduced b.is ∙ reduced_permuted (Permuted-append_right h.lead (of_lists (others_in ts) b.vs b.sorted.moved)) (sym (ap are_reduced h.split) ∙ r)

-- where no two behind have one base they are reduced as they stand
pub put_done : (n : ℕ) (c : Tree) (ts us : Trees) (t : Tree) → AreOthers (others_in ts) → IsLead n c ts → IsSorting n base_of ts us → NoPairBetween n (count us) us → t ≡ product_tree us
    → IsStop c (others_in ts) t
put_done n c ts us t o h s p e =
    let os = others_in ts in
    let b = behind n c ts us h s in
    let m = of_lists os b.vs b.sorted.moved in
    let x = others_permuted m o in
    let far : NoPairBetween (count h.lead) (count us) us = subst (λ (k : ℕ). NoPairBetween k (count us) us) (sym h.long) p in
    let apart : have_partners b.vs ≡ false =
    sorted_apart b.vs x.no_number x.no_product b.sorted.rising (no_pair_inside h.lead b.vs (subst (λ (y : Trees). NoPairBetween (count h.lead) (count y) y) b.is far)) in
    let differ = apart_before m apart in
    let some = some_permuted os b.vs m h.some in
    let same : with_coefficient c (product_tree b.vs) ≡ t = times_written c b.vs some ∙ h.written b.vs b.sorted ∙ sym (ap product_tree b.is) ∙ sym e in
    at_end h.not_zero differ (subst (IsEnding c os) same (ending c os b.vs o h.coefficient.number b.sorted m (sorted_rising os b.vs differ b.sorted.moved b.sorted.rising) some))

-- and else they are in order
pub put_ordered : (n at : ℕ) (c : Tree) (ts us : Trees) (t : Tree) → IsLead n c ts → IsSorting n base_of ts us → IsNextPair n at us → t ≡ mult us → IsOrdered c (others_in ts) t
put_ordered n at c ts us t h s p e =
    let b = behind n c ts us h s in
    let (k, q) = pair_inside h.lead b.vs at (omega (arith, h.long, p.behind)) (subst (IsPairAt at) b.is p.pair) in
    record {
      not_zero = h.not_zero;
      partners = pair_partners k (others_in ts) b.vs b.sorted.moved q;
      us = b.vs;
      sorted = b.sorted;
      is = e ∙ ap mult (b.is ∙ sym (h.before b.vs));
    }

-- ---- a sum behind the first

pub one_add_behind : (ts : Trees) → count ts ≡ 2 → is_one_add (removed 0 ts) ≡ is_add (nth 1 ts)
one_add_behind none e = absurd (omega (arith, e))
one_add_behind (more t none) e = absurd (omega (arith, e))
one_add_behind (more t (more u none)) e = grind arith
one_add_behind (more t (more u (more v ts))) e = absurd (omega (arith, e))

pub more_behind : (ts : Trees) → count ts ≢ 2 → is_one_add (removed 0 ts) ≡ false
more_behind none e = refl
more_behind (more t none) e = refl
more_behind (more t (more u none)) e = absurd (e refl)
more_behind (more t (more u (more v ts))) e = grind arith

-- ---- tests

pub none_found : {Q : Type 0} (P : ℕ → Type 0) (r : Option ℕ) → is_some r ≡ false → MatchOption r Q P → Q
none_found P r e h = grind (arith, true≢false)
