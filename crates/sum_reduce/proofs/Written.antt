-- The terms of a leading Number, and a sum of one term.
use Rattle.sum_reduce.proofs.Shared.{nat_lt, ℕ, ◌≤◌, ◌<◌, ◌≡◌, Bool, true, false, if◌then◌else◌, refl, sym, ap, ◌∙◌, arith, ltb-true, by_test, is_number, Tree, Trees, none, more, append, count}
use Rattle.sum_reduce.proofs.Shared.{is_add, is_zero, nth, children_of, removed, terms_of_number, sum_tree, leads_number, written_tree, count_append}

pub spread_zero : (t : Tree) (us : Trees) → is_zero t ≡ true → us ≡ append (terms_of_number t) us
spread_zero t us h = grind arith

pub spread_sum : (t : Tree) → is_add t ≡ true → children_of t ≡ terms_of_number t
spread_sum t h = grind arith

spread_term : (t : Tree) → is_zero t ≡ false → is_add t ≡ false → more t none ≡ terms_of_number t
spread_term t z s = grind arith

pub spread_one : (ts : Trees) → 1 ≤ count ts → is_zero (nth 0 ts) ≡ false → is_add (nth 0 ts) ≡ false → ts ≡ append (terms_of_number (nth 0 ts)) (removed 0 ts)
spread_one none l z s = absurd (omega arith)
spread_one (more t ts) l z s = ap (λ (x : Trees). append x ts) (spread_term t z s)

-- ---- whether a Number leads

pub leads_two : (ts : Trees) → 1 < count ts → leads_number ts ≡ is_number (nth 0 ts)
leads_two ts l = grind arith

leads_none : (ts : Trees) → (1 < count ts → ⊥) → leads_number ts ≡ false
leads_none ts l = grind arith

not_above : (n : ℕ) → n ≤ 1 → nat_lt 1 n ≡ false
not_above n l = by_test (λ b. nat_lt 1 n ≡ b → b ≡ false) (nat_lt 1 n) (λ p q. absurd (omega (arith, ltb-true 1 n q, l))) (λ p q. refl) refl

pub leads_few : (n : ℕ) (ts : Trees) → n ≤ 1 → n ≡ count ts → nat_lt 1 n ≡ leads_number ts
leads_few n ts l e = not_above n l ∙ sym (leads_none ts (λ k. absurd (omega (arith, l, e, k))))

pub spread_some : (ts : Trees) → leads_number ts ≡ true → 1 ≤ count (append (terms_of_number (nth 0 ts)) (removed 0 ts))
spread_some ts h = grind (arith, count_append)

pub written_led : (ts : Trees) → leads_number ts ≡ true → sum_tree (append (terms_of_number (nth 0 ts)) (removed 0 ts)) ≡ written_tree ts
written_led ts h = sym (ap (λ (b : Bool). if b then sum_tree (append (terms_of_number (nth 0 ts)) (removed 0 ts)) else sum_tree ts) h)

pub written_unled : (ts : Trees) → leads_number ts ≡ false → sum_tree ts ≡ written_tree ts
written_unled ts h = sym (ap (λ (b : Bool). if b then sum_tree (append (terms_of_number (nth 0 ts)) (removed 0 ts)) else sum_tree ts) h)

-- ---- a sum of one term

pub only_term : (ts : Trees) → count ts ≡ 1 → nth 0 ts ≡ sum_tree ts
only_term ts h = grind arith

pub other_sum : (t : Tree) → is_add t ≡ true → 1 ≤ count (children_of t) → (count (children_of t) ≡ 1 → ⊥) → t ≡ sum_tree (children_of t)
other_sum t m l h = grind arith
