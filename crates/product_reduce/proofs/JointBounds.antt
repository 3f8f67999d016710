-- A product with two factors joined is bounded by the product before.
use Rattle.product_reduce.proofs.Shared.{ℕ, suc, ◌+◌, ◌≤◌, ◌<◌, max, ◌≡◌, inl, Bool, true, false, if◌then◌else◌, refl, sym, ap, ◌∙◌, subst, arith, and_parts, nest, nest_of, weight, load}
use Rattle.product_reduce.proofs.Shared.{load_of_factor, load_of_factors, Fraction, is_number, are_numbers, is_reduced, num_one, NoneIs, base_of, are_reduced, Tree, num, add, mult, power, undef}
use Rattle.product_reduce.proofs.Shared.{Trees, none, more, append, count, is_mult, reduced_parts, parts_reduced, removed, nth, children_of, IsJoined, opened, others_in, coefficient_before}
use Rattle.product_reduce.proofs.Shared.{exponent_of, has_partner, first_partner, without_partner, joint, have_partners, joined, nest_number, nest_permuted, AllPartsOf, HasForm, factors_of}
use Rattle.product_reduce.proofs.{Shared.{reduced_formed, none_permuted, of_factors_nest}, Bounds.{nest_others, nest_opened, load_with, load_others, load_opened, load_product, load_permuted}}
use Rattle.product_reduce.proofs.{Forms.{opened_flat, others_none, others_no_numbers, opened_parts, others_parts}, Joined.{one_base, partner_is, partner_first}, Joints.{IsSmall, is_within, is_over}}
use Rattle.product_reduce.proofs.Joints.{AllSmall, all_within, joint_small, small_at, small_removed, joint_of_numbers_is_not_reduced, sum_is_no_number, exponent_words, flat_load, joint_load}
use Rattle.product_reduce.proofs.Joints.{load_split, base_weight}

-- ---- the factors after a joining

joined_small : (n : ℕ) (ts : Trees) → nest_of ts ≤ n → AllSmall n (joined ts)
joined_small n none h = tt
joined_small n (more t ts) h = by (joined_small n ts (omega arith)) (has_partner t ts) refl
  where
    by : AllSmall n (joined ts) → (k : Bool) → has_partner t ts ≡ k → AllSmall n (if k then more (joint t (first_partner t ts)) (without_partner t ts) else more t (joined ts))
    by go true e =
        let p : nest_of ts ≡ max (nest (first_partner t ts)) (nest_of (without_partner t ts)) = nest_permuted (partner_first t ts e) in
        (joint_small n t (first_partner t ts) (omega (arith, h)) (omega (arith, h, p)), all_within n (without_partner t ts) (omega (arith, h, p)))
    by go false e = (is_within (omega arith), go)

small-append : (n : ℕ) (ts us : Trees) → nest_of ts ≤ n → AllSmall n us → AllSmall n (append ts us)
small-append n none us h k = k
small-append n (more t ts) us h k = (is_within (omega arith), small-append n ts us (omega arith) k)

before_small : (n : ℕ) (c : Tree) (ts : Trees) → is_number c ≡ true → AllSmall n ts → AllSmall n (coefficient_before c ts)
before_small n c ts h k = grind (arith, small-append n (factors_of c) ts (omega (arith, of_factors_nest c, nest_number c h)) k)

pub product_small : (ts : Trees) (t : Tree) → IsJoined ts t → AllSmall (nest (mult ts)) (children_of t)
product_small ts t j =
    subst (λ (u : Tree). AllSmall (nest (mult ts)) (children_of u)) (sym j.is)
    (before_small (nest (mult ts)) j.coefficient (joined (others_in (opened ts))) j.joinable.coefficient.number
    (joined_small (nest (mult ts)) (others_in (opened ts)) (omega (arith, nest_others (opened ts), nest_opened ts))))

-- ---- nests

small_base : (n : ℕ) (a b : Tree) → IsSmall n (joint a b) → nest (base_of a) ≤ n
small_base n a b (is_within h) = by (is_number (add (more (exponent_of a) (more (exponent_of b) none)))) h
  where
    by : (k : Bool) → (if k then nest (base_of a) else max (nest (base_of a)) (suc (max (nest (exponent_of a)) (max (nest (exponent_of b)) 0)))) ≤ n → nest (base_of a) ≤ n
    by true h = omega arith
    by false h = omega arith
small_base n a b (is_over c p q e h) = grind arith

pub base_bound : (ts : Trees) (t a b : Tree) (at : ℕ) → IsJoined ts t → at < count (children_of t) → nth at (children_of t) ≡ joint a b → nest (base_of a) ≤ nest (mult ts)
base_bound ts t a b at j l e = small_base (nest (mult ts)) a b (subst (IsSmall (nest (mult ts))) e (small_at (nest (mult ts)) at (children_of t) l (product_small ts t j)))

no_such_numbers : (u v : Tree) (p q : Fraction) → u ≡ num p → v ≡ num q → are_numbers (more u (more v none)) ≡ false → ⊥
unfolding is_number
no_such_numbers u v p q x y d = absurd (let z : are_numbers (more (num p) (more (num q) none)) ≡ false = sym (ap are_numbers (λ i. more (x i) (more (y i) none))) ∙ d in cc)

small_exponent : (n : ℕ) (a b : Tree) → are_numbers (more (exponent_of a) (more (exponent_of b) none)) ≡ false → IsSmall n (joint a b)
    → nest (add (more (exponent_of a) (more (exponent_of b) none))) < n
small_exponent n a b d (is_within h) = grind (arith, sum_is_no_number (exponent_of a) (exponent_of b) (exponent_words a) (exponent_words b))
small_exponent n a b d (is_over c p q e h) = grind (arith, no_such_numbers (exponent_of a) (exponent_of b) p q)

pub exponent_bound : (ts : Trees) (t a b : Tree) (at : ℕ) → IsJoined ts t → at < count (children_of t) → nth at (children_of t) ≡ joint a b
    → are_numbers (more (exponent_of a) (more (exponent_of b) none)) ≡ false
    → nest (add (more (exponent_of a) (more (exponent_of b) none))) < nest (mult ts)
exponent_bound ts t a b at j l e d = small_exponent (nest (mult ts)) a b d (subst (IsSmall (nest (mult ts))) e (small_at (nest (mult ts)) at (children_of t) l (product_small ts t j)))

-- those that are reduced are nested no more
reduced_small : (n : ℕ) (t : Tree) → is_reduced t ≡ true → IsSmall n t → nest t ≤ n
reduced_small n t r h = grind (arith, is_over, joint_of_numbers_is_not_reduced)

all_reduced_small : (n : ℕ) (ts : Trees) → are_reduced ts ≡ true → AllSmall n ts → nest_of ts ≤ n
all_reduced_small n none r h = omega arith
all_reduced_small n (more t ts) r h =
    let (a, b) = and_parts (is_reduced t) (are_reduced ts) r in
    omega (arith, reduced_small n t a h.0, all_reduced_small n ts b h.1)

pub others_bound : (ts : Trees) (t : Tree) (at : ℕ) → IsJoined ts t → are_reduced (removed at (children_of t)) ≡ true → nest_of (removed at (children_of t)) ≤ nest (mult ts)
others_bound ts t at j r = all_reduced_small (nest (mult ts)) (removed at (children_of t)) r (small_removed (nest (mult ts)) at (children_of t) (product_small ts t j))

-- ---- loads

joined_load : (ts : Trees) → AllPartsOf HasForm ts → NoneIs is_mult ts → NoneIs is_number ts → have_partners ts ≡ true → load_of_factors (joined ts) + 2 ≤ load_of_factors ts
joined_load none f m n h = cc
joined_load (more t ts) f m n h = by (joined_load ts f.1 m.1 n.1) (has_partner t ts) refl h
  where
    by : (have_partners ts ≡ true → load_of_factors (joined ts) + 2 ≤ load_of_factors ts) → (k : Bool) → has_partner t ts ≡ k → (if k then true else have_partners ts) ≡ true
        → load_of_factors (if k then more (joint t (first_partner t ts)) (without_partner t ts) else more t (joined ts)) + 2 ≤ load_of_factor t + load_of_factors ts
    by go true e g =
        let u = first_partner t ts in
        let p = partner_first t ts e in
        let all : load_of_factors ts ≡ load_of_factor u + load_of_factors (without_partner t ts) = load_permuted p in
        let own : load_of_factor t ≡ weight (base_of t) = flat_load t m.0 n.0 in
        let its : load_of_factor u ≡ weight (base_of t) = flat_load u (none_permuted is_mult p m.1).0 (none_permuted is_number p n.1).0 ∙ ap weight (sym (one_base t u (partner_is t ts e))) in
        let new : load_of_factor (joint t u) ≡ weight (base_of t) = joint_load t u in
        omega (arith, all, own, its, new, base_weight t f.0)
    by go false e g = omega (arith, go g)

pub product_load : (ts : Trees) (t : Tree) → are_reduced ts ≡ true → IsJoined ts t → load_of_factors (children_of t) + 2 ≤ load (mult ts)
product_load ts t r j =
    let f = reduced_formed ts r j.joinable.defined in
    let g = others_parts HasForm (opened ts) (opened_parts HasForm ts f) in
    let l = joined_load (others_in (opened ts)) g (others_none is_mult (opened ts) (opened_flat ts f)) (others_no_numbers (opened ts)) j.joinable.partners in
    let new = load_with j.coefficient (joined (others_in (opened ts))) j.joinable.coefficient.number in
    omega (arith, l, new, ap (λ (u : Tree). load_of_factors (children_of u)) j.is, load_others (opened ts), load_opened ts, load_product ts)

pub others_load : (ts : Trees) (t a b : Tree) (at : ℕ) → are_reduced ts ≡ true → IsJoined ts t → at < count (children_of t) → nth at (children_of t) ≡ joint a b
    → load_of_factors (removed at (children_of t)) + (1 + weight (base_of a)) < load (mult ts)
others_load ts t a b at r j l e =
    let s = load_split at (children_of t) l in
    let k : load_of_factor (nth at (children_of t)) ≡ weight (base_of a) = ap load_of_factor e ∙ joint_load a b in
    omega (arith, s, k, product_load ts t r j)

-- ---- the parts of a joint

pub base_reduced : (t : Tree) → is_reduced t ≡ true → is_reduced (base_of t) ≡ true
base_reduced undef h = h
base_reduced (power b e) h = grind (arith, parts_reduced, reduced_parts (power b e) h)
base_reduced t h = h

pub exponent_reduced : (t : Tree) → is_reduced t ≡ true → is_reduced (exponent_of t) ≡ true
exponent_reduced (power b e) h = grind (arith, parts_reduced, reduced_parts (power b e) h)
exponent_reduced t h = parts_reduced num_one (inl tt)
