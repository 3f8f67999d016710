-- Neighbours among sorted factors, and what their bases tell of all factors.
use Rattle.product_reduce.proofs.Shared.{IsSortedByKey, IsPermutation, ℕ, zero, suc, ◌<◌, ◌+◌, ◌≡◌, Bool, true, false, not, ◌&&◌, if◌then◌else◌, refl, sym, ap, ◌∙◌, arith, add-one, is_eq, is_lt}
use Rattle.product_reduce.proofs.Shared.{count_removed, and_parts, is_number, base_of, NoneIs, RisesBy, are_reduced, tree_cmp, Permuted, Permuted-sym, tree_cmp_total, Tree, Trees, none, more, count}
use Rattle.product_reduce.proofs.Shared.{is_mult, list_of, nth, count_append, coefficient_before, is_partner, has_partner, have_partners, joint, IsJointAt, is_single, is_pair, IsPairAt, NoPairBetween}
use Rattle.product_reduce.proofs.{Shared.{joined_pair, less_of, count_inserted, nth_inserted, removed_inserted, of_lists}, Finished.{reduced_nth}, JointPlaces.{before_is, nth_behind, reduced_removed}}
use Rattle.product_reduce.proofs.Sorted.{AreApart, apart_words, apart_permuted}

-- ---- a pair tells that some factors have partners

pub partners_of_pair : (t u : Tree) → is_pair t u ≡ true → is_partner t u ≡ true
partners_of_pair t u h = (and_parts (is_single t && is_single u) (is_partner t u) h).1

apart_at : (n : ℕ) (ts : Trees) → suc n < count ts → AreApart ts → is_partner (nth n ts) (nth (suc n) ts) ≡ false
apart_at n none l h = absurd (omega arith)
apart_at zero (more t none) l h = absurd (omega arith)
apart_at zero (more t (more u ts)) l h = h.0.0
apart_at (suc n) (more t ts) l h = apart_at n ts (omega arith) h.1

pub pair_partners : (n : ℕ) (ts us : Trees) → IsPermutation (list_of ts) (list_of us) → IsPairAt n us → have_partners ts ≡ true
pair_partners n ts us m p =
    grind (arith, partners_of_pair (nth n us) (nth (suc n) us) p.pair, λ (e : have_partners ts ≡ false). apart_at n us p.within (apart_permuted (of_lists ts us m) (apart_words ts e)))

-- ---- no pair tells that none has

no_partner_back : (t : Tree) (ts : Trees) → NoneIs (is_partner t) ts → has_partner t ts ≡ false
no_partner_back t none h = refl
no_partner_back t (more u ts) h = ap (λ (k : Bool). if k then true else has_partner t ts) h.0 ∙ no_partner_back t ts h.1

partners_back : (ts : Trees) → AreApart ts → have_partners ts ≡ false
partners_back none h = refl
partners_back (more t ts) h = ap (λ (k : Bool). if k then true else have_partners ts) (no_partner_back t ts h.0) ∙ partners_back ts h.1

pub apart_before : {ts us : Trees} → Permuted ts us → have_partners us ≡ false → have_partners ts ≡ false
apart_before {ts = ts} {us = us} m h = partners_back ts (apart_permuted (Permuted-sym m) (apart_words us h))

single_words : (t : Tree) → is_number t ≡ false → is_mult t ≡ false → is_single t ≡ true
single_words t n m = (λ i. not (n i) && not (m i))

no_partner_of : (t u : Tree) → is_single t ≡ true → is_single u ≡ true → is_pair t u ≡ false → is_partner t u ≡ false
no_partner_of t u a b h = sym (λ i. a i && b i && is_partner t u) ∙ h

rising : (us : Trees) → NoneIs is_number us → NoneIs is_mult us → IsSortedByKey base_of tree_cmp (list_of us) → NoPairBetween 0 (count us) us → RisesBy base_of us
rising none n m s h = tt
rising (more t none) n m s h = tt
rising (more t (more u us)) n m s h = (
  less_of (tree_cmp (base_of t) (base_of u)) (no_partner_of t u (single_words t n.0 m.0) (single_words u n.1.0 m.1.0) (h 0 (omega arith) (omega arith)))
      (ap is_lt (sym (tree_cmp_total.antisymm (base_of u) (base_of t))) ∙ s 0 t (omega arith) (omega arith)),
  rising (more u us) n.1 m.1 (λ k d l w. rw add-one (rw add-one at (s (suc k) d (omega arith) (omega arith)))) (λ k l w. h (suc k) (omega arith) (omega arith)),
)

skipped : (t u : Tree) (us : Trees) → RisesBy base_of (more t (more u us)) → RisesBy base_of (more t us)
skipped t u us r = grind (arith, tree_cmp_total)

rest_rises : (t : Tree) (us : Trees) → RisesBy base_of (more t us) → RisesBy base_of us
rest_rises t us r = grind arith

rising_alone : (t : Tree) (us : Trees) → RisesBy base_of (more t us) → NoneIs (is_partner t) us
rising_alone t none r = tt
rising_alone t (more u us) r = (ap is_eq r.0, rising_alone t us (skipped t u us r))

rising_apart : (us : Trees) → RisesBy base_of us → AreApart us
rising_apart none r = tt
rising_apart (more t us) r = (rising_alone t us r, rising_apart us (rest_rises t us r))

pub sorted_apart : (us : Trees) → NoneIs is_number us → NoneIs is_mult us → IsSortedByKey base_of tree_cmp (list_of us) → NoPairBetween 0 (count us) us → have_partners us ≡ false
sorted_apart us n m s h = partners_back us (rising_apart us (rising us n m s h))

-- ---- behind a coefficient

pub pair_before : (n at : ℕ) (c : Tree) (us : Trees) → IsPairAt n us → at + count us ≡ count (coefficient_before c us) + n → IsPairAt at (coefficient_before c us)
pair_before n at c us p e = grind (arith, before_is, count_append, nth_behind)

-- ---- two neighbours joined

pub joint_there : (n : ℕ) (ts : Trees) → IsPairAt n ts → nth n (joined_pair n (suc n) ts) ≡ joint (nth n ts) (nth (suc n) ts)
joint_there n ts p = grind (arith, count_removed, nth_inserted)

pub neighbours_joint : (n : ℕ) (ts : Trees) → are_reduced ts ≡ true → IsPairAt n ts → IsJointAt n (joined_pair n (suc n) ts)
neighbours_joint n ts r p = grind (arith, count_removed, reduced_nth, partners_of_pair, count_inserted, joint_there, removed_inserted, reduced_removed)
