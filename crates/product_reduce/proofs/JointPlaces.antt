-- Places in lists, and what stands before factors.
use Rattle.product_reduce.proofs.Shared.{ℕ, zero, suc, ◌+◌, ◌≤◌, ◌≡◌, true, if◌then◌else◌, refl, ap, ◌∙◌, arith, and_parts, and_from, is_number, is_num_one, is_reduced, are_reduced, Tree, Trees, none}
use Rattle.product_reduce.proofs.Shared.{more, append, count, factors_of, removed, nth, count_append, coefficient_before, number_parts, number_words, HasForm, formed_reduced, factors_parts}

-- ---- places in lists

pub nth_behind : (ps ts : Trees) (n k : ℕ) → k ≡ count ps + n → nth k (append ps ts) ≡ nth n ts
nth_behind none ts n k e = ap (λ (m : ℕ). nth m ts) (omega (arith, e))
nth_behind (more p ps) ts n zero e = absurd (omega (arith, e))
nth_behind (more p ps) ts n (suc k) e = nth_behind ps ts n k (omega (arith, e))

-- ---- reduced factors

pub reduced_removed : (n : ℕ) (ts : Trees) → are_reduced ts ≡ true → are_reduced (removed n ts) ≡ true
reduced_removed n none r = refl
reduced_removed zero (more t ts) r = (and_parts (is_reduced t) (are_reduced ts) r).1
reduced_removed (suc n) (more t ts) r = let (a, b) = and_parts (is_reduced t) (are_reduced ts) r in and_from _ _ a (reduced_removed n ts b)

pub reduced-append : (ps ts : Trees) → are_reduced ps ≡ true → are_reduced ts ≡ true → are_reduced (append ps ts) ≡ true
reduced-append none ts p r = r
reduced-append (more t ps) ts p r = let (a, b) = and_parts (is_reduced t) (are_reduced ps) p in and_from _ _ a (reduced-append ps ts b r)

-- ---- what stands in front

pub in_front : Tree → Trees
in_front c = if is_num_one c then none else factors_of c

pub before_is : (c : Tree) (ts : Trees) → coefficient_before c ts ≡ append (in_front c) ts
unfolding in_front
before_is c ts = grind arith

pub front_reduced : (c : Tree) → is_number c ≡ true → are_reduced (in_front c) ≡ true
unfolding in_front
front_reduced c h = grind (arith, formed_reduced, factors_parts HasForm, number_parts, number_words)

pub count_before : (c : Tree) (ts : Trees) → count ts ≤ count (coefficient_before c ts)
count_before c ts = let e = ap count (before_is c ts) ∙ count_append (in_front c) ts in omega arith
