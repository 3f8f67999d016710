-- Factors with identical bases, by their places.
use Rattle.product_reduce.proofs.Shared.{◌+◌, ℕ, zero, suc, ◌<◌, ◌≡◌, Bool, true, false, refl, if◌then◌else◌, ap, ◌∙◌, arith, subst, nat_lt, ltb-true, ltb-false, removed, Tree, Trees, none, more}
use Rattle.product_reduce.proofs.Shared.{count, nth, inserted, is_partner, has_partner, first_partner, without_partner, joint, have_partners, joined, HasNoPartner, IsFirstPair, by_test}

-- ---- one factor and those behind it

pub no_partner : (t : Tree) (ts : Trees) → ((k : ℕ) → k < count ts → is_partner t (nth k ts) ≡ false) → has_partner t ts ≡ false
no_partner t none h = refl
no_partner t (more u ts) h = ap (λ (b : Bool). if b then true else has_partner t ts) (h 0 (omega arith)) ∙ no_partner t ts (λ k l. h (suc k) (omega arith))

record IsAt (t : Tree) (n : ℕ) (ts : Trees) : Type 0 where
  has : has_partner t ts ≡ true
  is : first_partner t ts ≡ nth n ts
  others : without_partner t ts ≡ removed n ts

partner_at : (t : Tree) (n : ℕ) (ts : Trees) → n < count ts → is_partner t (nth n ts) ≡ true → ((k : ℕ) → k < n → is_partner t (nth k ts) ≡ false) → IsAt t n ts
partner_at t n none l e h = absurd (omega arith)
partner_at t zero (more u ts) l e h = grind arith
partner_at t (suc n) (more u ts) l e h = grind (arith, partner_at t n ts (omega arith) e (λ k m. h (suc k) (omega arith)), h 0 (omega arith))

-- ---- all factors

pub no_partners : (ts : Trees) → ((i : ℕ) → i < count ts → HasNoPartner i (count ts) ts) → have_partners ts ≡ false
no_partners none h = refl
no_partners (more t ts) h =
    ap (λ (b : Bool). if b then true else have_partners ts) (no_partner t ts (λ k l. h 0 (omega arith) (suc k) (omega arith) (omega arith)))
    ∙ no_partners ts (λ i l k m n. h (suc i) (omega arith) (suc k) (omega arith) (omega arith))

-- behind the first one
behind_first : (i j : ℕ) (t : Tree) (ts : Trees) → IsFirstPair (suc i) (suc j) (more t ts) → IsFirstPair i j ts
behind_first i j t ts h = record {
  pair = record {
    order = omega (arith, h.pair.order);
    within = omega (arith, h.pair.within);
    partner = h.pair.partner;
    nearest = λ k l m. h.pair.nearest (suc k) (omega arith) (omega arith);
  };
  first = λ k l n m o. h.first (suc k) (omega arith) (suc n) (omega arith) (omega arith);
}

pub some_partners : (i j : ℕ) (ts : Trees) → IsFirstPair i j ts → have_partners ts ≡ true
some_partners i j none h = absurd (omega (arith, h.pair.within))
some_partners zero zero (more t ts) h = absurd (omega (arith, h.pair.order))
some_partners zero (suc j) (more t ts) h =
    ap (λ (b : Bool). if b then true else have_partners ts) (partner_at t j ts (omega (arith, h.pair.within)) h.pair.partner (λ k l. h.pair.nearest (suc k) (omega arith) (omega arith))).has
some_partners (suc i) zero (more t ts) h = absurd (omega (arith, h.pair.order))
some_partners (suc i) (suc j) (more t ts) h = grind (arith, some_partners i j ts (behind_first i j t ts h), no_partner, behind_first)

pub joined_at : (i j : ℕ) (ts : Trees) → IsFirstPair i j ts → joined ts ≡ inserted i (more (joint (nth i ts) (nth j ts)) none) (removed i (removed j ts))
joined_at i j none h = absurd (omega (arith, h.pair.within))
joined_at zero zero (more t ts) h = absurd (omega (arith, h.pair.order))
joined_at zero (suc j) (more t ts) h =
    grind (arith, partner_at t j ts (omega (arith, h.pair.within)) h.pair.partner (λ k l. h.pair.nearest (suc k) (omega arith) (omega arith)))
joined_at (suc i) zero (more t ts) h = absurd (omega (arith, h.pair.order))
joined_at (suc i) (suc j) (more t ts) h =
    grind (arith, no_partner t ts (λ k l. h.first 0 (omega arith) (suc k) (omega arith) (omega arith)), joined_at i j ts (behind_first i j t ts h))

-- ---- one place more

below_more : (P : ℕ → Type 0) (n : ℕ) → ((k : ℕ) → k < n → P k) → P n → (k : ℕ) → k < n + 1 → P k
below_more P n h e k l = by_test (λ b. nat_lt k n ≡ b → P k) (nat_lt k n) (λ p q. h k (ltb-true k n q)) (λ p q. subst P (omega (arith, ltb-false k n q)) e) refl

pub no_partner_more : (i j : ℕ) (ts : Trees) → HasNoPartner i j ts → is_partner (nth i ts) (nth j ts) ≡ false → HasNoPartner i (j + 1) ts
no_partner_more i j ts h e k l m = below_more (λ n. i < n → is_partner (nth i ts) (nth n ts) ≡ false) j (λ n o p. h n p o) (λ p. e) k m l

pub no_pair_more : (i : ℕ) (ts : Trees) → ((k : ℕ) → k < i → HasNoPartner k (count ts) ts) → HasNoPartner i (count ts) ts → (k : ℕ) → k < i + 1 → HasNoPartner k (count ts) ts
no_pair_more i ts = below_more (λ n. HasNoPartner n (count ts) ts) i
