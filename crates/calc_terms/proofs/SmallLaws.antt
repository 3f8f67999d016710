-- Small laws that several crates above cite.
use Rattle.calc_terms.proofs.Shared.{◌≡◌, Bool, false, arith, true, ℕ, List, [], ◌∷◌, ◌<◌, ℤ, ◌^◌, nat_eq, of_z, ◌+◌, refl, ap, ◌≤◌, suc, length, ◌*◌, ◌∙◌, ◌≢◌, sym, Result, ◌-◌, ◌⊎◌, Contains, IfOk}
use Rattle.calc_terms.proofs.Shared.{IfErr, IsErr, IsErrAnd, w128, int_is_one, Trees, none, more, append, count, Tree, num, nodes, sizes, HasTwo, is_zero_fraction, zero_fraction, Fraction, times}
use Rattle.calc_terms.proofs.Shared.{one_fraction, negative, plus, Ordering, ordering_then, is_eq, is_lt, ordering_reverse, Equal, Less, times_comm, one_times, plus_negative, mul-le, pow-le-pow_right}
use Rattle.calc_terms.proofs.{FractionFacts.{no_zero}, SmallFractions.{plus_zero}}
use Rattle.std.specs.Prelude.{◌||◌, nat_abs, not, ◌&&◌}

pub either_left : (a b : Bool) → (a || b) ≡ false → a ≡ false
either_left a b h = grind arith

pub either_right : (a b : Bool) → (a || b) ≡ false → b ≡ false
either_right a b h = grind arith

pub one_of : (a b : Bool) → (a || b) ≡ true → (a ≡ true) ⊎ (b ≡ true)
one_of a b h = grind arith

pub nobody : (y : List ℕ) → Contains [] y → ⊥
nobody y (k, h, e) = absurd (omega arith)

pub only_one : (y x : List ℕ) → Contains (y ∷ []) x → y ≡ x
only_one y x h = grind arith

pub told_one : (z : ℤ) → nat_abs z < 2 ^ 127 → nat_eq (of_z w128 z) 1 ≡ int_is_one z
told_one z h = grind arith

pub count_append : (ts us : Trees) → count (append ts us) ≡ count ts + count us
count_append none us = omega arith
count_append (more t ts) us = omega (arith, count_append ts us)

pub append_assoc : (ts us vs : Trees) → append (append ts us) vs ≡ append ts (append us vs)
append_assoc none us vs = refl
append_assoc (more t ts) us vs = ap (more t) (append_assoc ts us vs)

pub or_false : (x : Bool) → (x || false) ≡ x
or_false x = grind arith

pub trans : (a b c : ℕ) → a ≤ b → b ≤ c → a ≤ c
trans a b c h k = omega arith

pub zero_is_zero : is_zero_fraction zero_fraction ≡ true
zero_is_zero = by (is_zero_fraction zero_fraction) refl
  where
    by : (b : Bool) → is_zero_fraction zero_fraction ≡ b → b ≡ true
    by true e = refl
    by false e = absurd (no_zero zero_fraction (ap not e) refl)

pub same_tests : (s t : Bool) → (s ≡ true → t ≡ true) → (t ≡ true → s ≡ true) → s ≡ t
same_tests s t h k = grind arith

pub in_front : (x : List ℕ) (xs : List (List ℕ)) → Contains (x ∷ xs) x
in_front x xs = (0, omega arith, refl)

pub behind : (x y : List ℕ) (xs : List (List ℕ)) → Contains xs y → Contains (x ∷ xs) y
behind x y xs c = let h : c.0 < length xs = c.1 in (suc c.0, omega arith, c.2)

pub where_in : (x y : List ℕ) (xs : List (List ℕ)) → Contains (x ∷ xs) y → (x ≡ y) ⊎ Contains xs y
where_in x y xs h = grind arith

pub positive_factor : (g k n : ℕ) → g * k ≡ n → 0 < n → 0 < k
positive_factor g k n e h = grind arith

pub one_node : (t : Tree) → 1 ≤ nodes t
one_node (num q) = omega arith
one_node t = omega arith

pub factor_positive : (n k : ℕ) → 0 < n * k → 0 < k
factor_positive n k h = grind arith

pub append_none : (us : Trees) → append us none ≡ us
append_none none = refl
append_none (more u us) = ap (more u) (append_none us)

pub and_false : (a : Bool) → (a && false) ≡ false
and_false a = grind arith

pub then-equal : (a : Ordering) → ordering_then a Equal ≡ a
then-equal a = grind arith

pub times_one : (a : Fraction) → times a one_fraction ≡ a
times_one a = times_comm a one_fraction ∙ one_times a

pub negative_not_zero : (q : Fraction) → q ≢ zero_fraction → negative q ≢ zero_fraction
negative_not_zero q h e = h (sym (plus_zero q) ∙ ap (plus q) (sym e) ∙ plus_negative q)

pub if_ok_map : {A E : Type 0} {P Q : A → Type 0} (r : Result A E) → IfOk r P → ((x : A) → P x → Q x) → IfOk r Q
if_ok_map r p f = grind arith

pub first_is : (t u : Tree) (ts us : Trees) → more t ts ≡ more u us → t ≡ u
first_is t u ts us e = cc

pub others_are : (t u : Tree) (ts us : Trees) → more t ts ≡ more u us → ts ≡ us
others_are t u ts us e = cc

pub contradiction : {A : Type 0} {b : Bool} → b ≡ true → b ≡ false → A
contradiction p q = absurd cc

pub and_true : (a : Bool) → (a && true) ≡ a
and_true a = grind arith

pub plus_both : {a b c d : Fraction} → a ≡ b → c ≡ d → plus a c ≡ plus b d
plus_both p q = λ i. plus (p i) (q i)

pub passed_on : {A E : Type 0} (r : Result A E) (e : E) (P : E → Type 0) → IsErr r → IsErrAnd r (λ x. x ≡ e) → P e → IfErr r P
passed_on r e P h a p = grind arith

pub sizes_append : (ts us : Trees) → sizes (append ts us) ≡ sizes ts + sizes us
sizes_append none us = omega arith
sizes_append (more t ts) us = omega (arith, sizes_append ts us)

pub two_count : (ts : Trees) → HasTwo ts → 2 ≤ count ts
two_count ts h = grind arith

pub lesser_power : (m a b : ℕ) → a ≤ b → m * 2 ^ a ≤ m * 2 ^ b
lesser_power m a b h = mul-le m (2 ^ a) m (2 ^ b) (omega arith) (pow-le-pow_right {n = 2} (omega arith) h)

pub less_of : (o : Ordering) → is_eq o ≡ false → is_lt (ordering_reverse o) ≡ false → o ≡ Less
less_of o h k = grind arith

pub if_ok_both : {A E : Type 0} {P Q R : A → Type 0} (r : Result A E) → IfOk r P → IfOk r Q → ((x : A) → P x → Q x → R x) → IfOk r R
if_ok_both r h k f = grind arith

pub no_factors : (us : Trees) → count us ≡ 0 → us ≡ none
no_factors none e = refl
no_factors _ e = cc
