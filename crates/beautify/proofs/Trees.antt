-- Lists of trees and their places.
use Rattle.beautify.proofs.Shared.{◌≡◌, ℕ, zero, suc, ◌+◌, ◌-◌, ◌<◌, ◌≤◌, refl, ap, ◌∙◌, arith, ◌==◌, if◌then◌else◌, Tree, Trees, none, more, append}
use Rattle.beautify.proofs.Shared.{count, nth, first, behind, whole_num, power, unless_one, power_below, by_test, eqb-true}

pub count_behind : (n : ℕ) (ts : Trees) → count (behind n ts) ≡ count ts - n
count_behind (suc n) (more t ts) = count_behind n ts ∙ omega arith
count_behind n ts = omega arith

pub behind-append : (xs ys : Trees) → behind (count xs) (append xs ys) ≡ ys
behind-append none ys = refl
behind-append (more x xs) ys = behind-append xs ys

pub first-append : (xs ys : Trees) → first (count xs) (append xs ys) ≡ xs
first-append none ys = refl
first-append (more x xs) ys = ap (more x) (first-append xs ys)

-- the next of those behind the first ones
pub behind-next : (n : ℕ) (ts : Trees) → n < count ts → behind n ts ≡ more (nth n ts) (behind (suc n) ts)
behind-next n none h = absurd (omega arith)
behind-next zero (more t ts) h = refl
behind-next (suc n) (more t ts) h = behind-next n ts (omega arith)

pub behind-all : (n : ℕ) (ts : Trees) → count ts ≤ n → behind n ts ≡ none
behind-all zero none h = refl
behind-all (suc n) none h = refl
behind-all zero (more t ts) h = absurd (omega arith)
behind-all (suc n) (more t ts) h = behind-all n ts (omega arith)

-- ---- a whole number or an exponent that is not written where it is 1

pub unless_one_test : (P : Trees → Type 0) (n : ℕ) (ts : Trees) → (n ≡ 1 → P ts) → P (more (whole_num n) ts) → P (unless_one n ts)
unless_one_test P n ts h k = by_test (λ b. P (if b then ts else more (whole_num n) ts)) (n == 1) (λ e. h (eqb-true n 1 e)) (λ e. k)

pub unless_one_by : (P : Trees → Type 0) (n : ℕ) (ts : Trees) → P ts → P (more (whole_num n) ts) → P (unless_one n ts)
unless_one_by P n ts h k = unless_one_test P n ts (λ e. h) k

pub power_below_test : (P : Tree → Type 0) (b : Tree) (n : ℕ) → (n ≡ 1 → P b) → P (power b (whole_num n)) → P (power_below b n)
power_below_test P b n h k = by_test (λ t. P (if t then b else power b (whole_num n))) (n == 1) (λ e. h (eqb-true n 1 e)) (λ e. k)

pub power_below_by : (P : Tree → Type 0) (b : Tree) (n : ℕ) → P b → P (power b (whole_num n)) → P (power_below b n)
power_below_by P b n h k = power_below_test P b n (λ e. h) k
