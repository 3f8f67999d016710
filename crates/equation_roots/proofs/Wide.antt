-- Whole numbers in 128 bits, with their sign.
use Rattle.std.proofs.Common.{◌≡◌, ◌≢◌, ℕ, zero, suc, ◌*◌, ◌%◌, ◌<◌, ◌^◌, ltb, ℤ, pos, negsuc, ◌+ℤ◌, ◌-ℤ◌, ◌*ℤ◌, neg_ℤ, nat_abs, int_lt, true, false, Option, Some, None, MatchOption, IfSome, refl, sym, ap, ◌∙◌, subst, arith}
use Rattle.std.proofs.lemmas.{Bool.{ltb-true}, Int.{ints, to_z-of_z, fits_signed_from_abs, unsigned_abs-mul}, Nat.Gcd.{dvd_of_mod-eq-zero, mod-eq-zero_of_dvd}}
use native.Mathlib.Nat.{dvd-mul_right}
use Prim.Native.Nat.{◌∣◌}
use Rattle.calc_terms.specs.{Fractions.{over, over_back}, Integers.{parts, diffs, eq_diff, combine}}
use mir.Syntax.{w128}
use mir.Val.{to_z, of_z}

pub told : (z : ℤ) → nat_abs z < 2 ^ 127 → to_z w128 (of_z w128 z) ≡ z
told z h = to_z-of_z w128 z (fits_signed_from_abs w128 z h)

pub abs_zero : (z : ℤ) → nat_abs z ≡ 0 → z ≡ pos 0
abs_zero (pos n) h = ap pos h
abs_zero (negsuc n) h = absurd (omega (arith, h))

abs_neg_pos : (n : ℕ) → nat_abs (neg_ℤ (pos n)) ≡ n
abs_neg_pos zero = refl
abs_neg_pos (suc n) = refl

pub abs_neg : (z : ℤ) → nat_abs (neg_ℤ z) ≡ nat_abs z
abs_neg (pos n) = abs_neg_pos n
abs_neg (negsuc n) = refl

pub abs_positive : (z : ℤ) → z ≢ pos 0 → 0 < nat_abs z
abs_positive (pos zero) h = absurd (h refl)
abs_positive (pos (suc n)) h = omega arith
abs_positive (negsuc n) h = omega arith

zero_factor : (m n : ℕ) → 0 < m → m * n ≡ 0 → n ≡ 0
zero_factor m n h e = grind arith

pub cancel_zero : (a b : ℤ) → a ≢ pos 0 → a *ℤ b ≡ pos 0 → b ≡ pos 0
cancel_zero a b h e = abs_zero b (zero_factor (nat_abs a) (nat_abs b) (abs_positive a h) (sym (unsigned_abs-mul a b) ∙ ap nat_abs e))

times_minus : (a b c : ℤ) → a *ℤ b ≡ a *ℤ c → a *ℤ (b -ℤ c) ≡ pos 0
times_minus a b c e = combine _ _ (pos 1) _ _ (rw (parts a, parts b, parts c) (simp diffs (eq_diff _ _ _ _ (omega arith)))) e

pub cancel_factor : (a b c : ℤ) → a ≢ pos 0 → a *ℤ b ≡ a *ℤ c → b ≡ c
cancel_factor a b c h e = let z : b -ℤ c ≡ pos 0 = cancel_zero a (b -ℤ c) h (times_minus a b c e) in omega (arith, ints)

pub times_zero_int : (b : ℤ) → b *ℤ pos 0 ≡ pos 0
times_zero_int b = rw (parts b) (simp diffs (eq_diff _ _ _ _ (omega arith)))

pub times_comm_int : (a b : ℤ) → a *ℤ b ≡ b *ℤ a
times_comm_int a b = rw (parts a, parts b) (simp diffs (eq_diff _ _ _ _ (omega arith)))

pub minus_minus : (a b : ℤ) → neg_ℤ a *ℤ neg_ℤ b ≡ a *ℤ b
minus_minus a b = rw (parts a, parts b) (simp diffs (eq_diff _ _ _ _ (omega arith)))

-- ---- exact quotients

pub not_multiple : (n b x : ℤ) → nat_abs n % nat_abs b ≢ 0 → b *ℤ x ≢ n
not_multiple n b x h e = h (mod-eq-zero_of_dvd (nat_abs b) (subst (λ m. nat_abs b ∣ m) (sym (unsigned_abs-mul b x) ∙ ap nat_abs e) (dvd-mul_right (nat_abs b) (nat_abs x))))

exact_over : (n b : ℤ) → nat_abs n % nat_abs b ≡ 0 → pos (nat_abs b) *ℤ over n (nat_abs b) ≡ n
exact_over n b h = times_comm_int (pos (nat_abs b)) (over n (nat_abs b)) ∙ over_back n (nat_abs b) (dvd_of_mod-eq-zero (nat_abs b) h)

pub exact_positive : (n b q : ℤ) → int_lt b (pos 0) ≡ false → nat_abs n % nat_abs b ≡ 0 → q ≡ over n (nat_abs b) → b *ℤ q ≡ n
exact_positive n (pos m) q l h e = ap (λ x. pos m *ℤ x) e ∙ exact_over n (pos m) h
exact_positive n (negsuc m) q l h e = cc

not_below : (m : ℕ) → ltb m 0 ≡ true → ⊥
not_below m h = let lt : m < 0 = ltb-true m 0 h in omega arith

pub exact_negative : (n b q : ℤ) → int_lt b (pos 0) ≡ true → nat_abs n % nat_abs b ≡ 0 → q ≡ neg_ℤ (over n (nat_abs b)) → b *ℤ q ≡ n
exact_negative n (pos m) q l h e = absurd (not_below m l)
exact_negative n (negsuc m) q l h e = ap (λ x. negsuc m *ℤ x) e ∙ minus_minus (pos (suc m)) (over n (suc m)) ∙ exact_over n (negsuc m) h

-- from b times x is what is left of the entry
pub next_exact : (o : Option ℤ) (e a l b carried rest : ℤ) → carried ≡ a *ℤ l → rest ≡ e +ℤ neg_ℤ carried → MatchOption o ((x : ℤ) → b *ℤ x ≢ rest) (λ x. b *ℤ x ≡ rest)
    → MatchOption o ((x : ℤ) → a *ℤ l +ℤ b *ℤ x ≢ e) (λ x. a *ℤ l +ℤ b *ℤ x ≡ e)
next_exact None e a l b carried rest p q h = λ x f. h x (rest_is (a *ℤ l) (b *ℤ x) e carried rest p q f)
  where
    rest_is : (s t e c r : ℤ) → c ≡ s → r ≡ e +ℤ neg_ℤ c → s +ℤ t ≡ e → t ≡ r
    rest_is s t e c r p q f = omega (arith, ints)
next_exact (Some x) e a l b carried rest p q h = entry_is (a *ℤ l) (b *ℤ x) e carried rest p q h
  where
    entry_is : (s t e c r : ℤ) → c ≡ s → r ≡ e +ℤ neg_ℤ c → t ≡ r → s +ℤ t ≡ e
    entry_is s t e c r p q f = omega (arith, ints)

pub remainder_left : (m d : ℕ) (n b x : ℤ) → m ≡ nat_abs n → d ≡ nat_abs b → m % d ≢ 0 → b *ℤ x ≢ n
remainder_left m d n b x e f h = not_multiple n b x (λ g. h ((λ i. e i % f i) ∙ g))

-- ---- what a step of a division answers, as the numbers are handed on

abbrev pub handed : ℤ → ℤ
handed z = to_z w128 (of_z w128 z)

abbrev pub Steps : Option ℤ → ℤ → ℤ → ℤ → ℤ → Type 0
Steps o e a l b = MatchOption o ((x : ℤ) → a *ℤ l +ℤ b *ℤ x ≢ e) (λ x. a *ℤ l +ℤ b *ℤ x ≡ e)

steps_told : (o : Option ℤ) (e a l b : ℤ) → nat_abs e < 2 ^ 127 → nat_abs a < 2 ^ 127 → nat_abs l < 2 ^ 127 → nat_abs b < 2 ^ 127 → Steps o (handed e) (handed a) (handed l) (handed b) → Steps o e a l b
steps_told o e a l b p q r s h = subst (λ z. Steps o z a l b) (told e p) (subst (λ z. Steps o (handed e) z l b) (told a q) (subst (λ z. Steps o (handed e) (handed a) z b) (told l r) (subst (λ z. Steps o (handed e) (handed a) (handed l) z) (told b s) h)))

stopped_at : (o : Option ℤ) (e a l b : ℤ) → Steps o e a l b → o ≡ None → (x : ℤ) → a *ℤ l +ℤ b *ℤ x ≢ e
stopped_at None e a l b h n = h
stopped_at (Some y) e a l b h n = cc

went_to : (o : Option ℤ) (e a l b y : ℤ) → Steps o e a l b → o ≡ Some y → a *ℤ l +ℤ b *ℤ y ≡ e
went_to None e a l b y h n = cc
went_to (Some x) e a l b y h n = let same : x ≡ y = cc in ap (λ z. a *ℤ l +ℤ b *ℤ z) (sym same) ∙ h

pub stopped : (o : Option ℤ) (e a l b : ℤ) → nat_abs e < 2 ^ 127 → nat_abs a < 2 ^ 127 → nat_abs l < 2 ^ 127 → nat_abs b < 2 ^ 127 → Steps o (handed e) (handed a) (handed l) (handed b)
    → o ≡ None → (x : ℤ) → a *ℤ l +ℤ b *ℤ x ≢ e
stopped o e a l b p q r s h n = stopped_at o e a l b (steps_told o e a l b p q r s h) n

pub went_on : (o : Option ℤ) (e a l b y : ℤ) → nat_abs e < 2 ^ 127 → nat_abs a < 2 ^ 127 → nat_abs l < 2 ^ 127 → nat_abs b < 2 ^ 127 → Steps o (handed e) (handed a) (handed l) (handed b)
    → o ≡ Some y → a *ℤ l +ℤ b *ℤ y ≡ e
went_on o e a l b y p q r s h n = went_to o e a l b y (steps_told o e a l b p q r s h) n

pub fits_of : (o : Option ℤ) (y : ℤ) → IfSome o (λ x. nat_abs x < 2 ^ 127) → o ≡ Some y → nat_abs y < 2 ^ 127
fits_of None y h n = cc
fits_of (Some x) y h n = let same : x ≡ y = cc in subst (λ z. nat_abs z < 2 ^ 127) same h

-- the same, where the last number is not handed on
steps_in : (o : Option ℤ) (e a l b : ℤ) → nat_abs e < 2 ^ 127 → nat_abs a < 2 ^ 127 → nat_abs b < 2 ^ 127 → Steps o (handed e) (handed a) l (handed b) → Steps o e a l b
steps_in o e a l b p q s h = subst (λ z. Steps o z a l b) (told e p) (subst (λ z. Steps o (handed e) z l b) (told a q) (subst (λ z. Steps o (handed e) (handed a) l z) (told b s) h))

pub stopped_in : (o : Option ℤ) (e a l b : ℤ) → nat_abs e < 2 ^ 127 → nat_abs a < 2 ^ 127 → nat_abs b < 2 ^ 127 → Steps o (handed e) (handed a) l (handed b) → o ≡ None → (x : ℤ) → a *ℤ l +ℤ b *ℤ x ≢ e
stopped_in o e a l b p q s h n = stopped_at o e a l b (steps_in o e a l b p q s h) n

pub went_in : (o : Option ℤ) (e a l b y : ℤ) → nat_abs e < 2 ^ 127 → nat_abs a < 2 ^ 127 → nat_abs b < 2 ^ 127 → Steps o (handed e) (handed a) l (handed b) → o ≡ Some y → a *ℤ l +ℤ b *ℤ y ≡ e
went_in o e a l b y p q s h n = went_to o e a l b y (steps_in o e a l b p q s h) n

-- from equal bits
pub same_bits : (x y : ℤ) → nat_abs x < 2 ^ 127 → nat_abs y < 2 ^ 127 → of_z w128 x ≡ of_z w128 y → x ≡ y
same_bits x y p q e = sym (told x p) ∙ ap (to_z w128) e ∙ told y q
