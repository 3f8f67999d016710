-- Numbers over the common denominators of what they are worth, and of powers of it.
use Rattle.number_forms.proofs.Shared.{◌≡◌, ℕ, suc, ◌+◌, ◌*◌, ◌/◌, ◌%◌, ◌^◌, ◌≢◌, ◌++◌, Result, sym, subst, arith, IfOk, pow-add, value, Same, Surd, surd_times, surd_power, surd_power-squared}
use Rattle.number_forms.proofs.Shared.{surd_power-multiplied, Same-trans, IsNoLarger, SharesPowers, Parts, SharesDenominators, power_once, parts_append, parts_times, no_larger, parts_left}
use Rattle.number_forms.proofs.{Shared.{parts_right, Tree, IsNumberOf, IsNumberOver, IsPowerOver, State, Forest, tree_of, Gives, forest, given_told}, PowerSteps.{half_even, half_last}}

pub of_over : {v : Surd} {t : Tree} → IsNumberOver v t → IsNumberOf v t
of_over n = record { number = n.number; worth = n.worth }

pub of_power : {v : Surd} {n : ℕ} {t : Tree} → IsPowerOver v n t → IsNumberOf (surd_power v n) t
of_power n = record { number = n.number; worth = n.worth }

pub over_as : {v w : Surd} {t : Tree} → IsNumberOver v t → Same v w → SharesDenominators w v → IsNumberOver w t
over_as n s f = record { number = n.number; worth = Same-trans n.worth s; parts = λ d p. n.parts d (f d p) }

pub shares_append : {v v' w w' : Surd} → SharesDenominators v v' → SharesDenominators w w' → SharesDenominators (v ++ w) (v' ++ w')
shares_append {v = v} {v' = v'} {w = w} {w' = w'} f g = λ d p. parts_append d v' w' (f d (parts_left d v w p)) (g d (parts_right d v w p))

-- ---- answers of calls

pub if_number : {E : Type 0} (r : Result ℕ E) (f g : Forest) (v : Surd) → IfOk r (λ h. Gives f g h (IsNumberOver v)) → IfOk r (λ h. Gives f g h (IsNumberOf v))
if_number r f g v e = grind arith

pub if_no_larger : {E : Type 0} (r : Result ℕ E) (f : Forest) (s : State) (v : Surd) → IfOk r (λ h. Gives f (forest s) h (IsNumberOver v)) → IfOk r (λ h. IsNoLarger v (value (tree_of h s)))
if_no_larger r f s v e = grind (arith, no_larger, given_told)

-- ---- powers

shares_once : (v : Surd) → SharesPowers v 1 v
shares_once v = λ d p. subst (λ n. Parts n v) (sym (power_once d)) p

shares_times : (v h k t : Surd) (a b : ℕ) → SharesPowers v a h → SharesPowers v b k → SharesDenominators (surd_times h k) t → SharesPowers v (a + b) t
shares_times v h k t a b f g s = λ d p. s (d ^ (a + b)) (subst (λ n. Parts n (surd_times h k)) (sym (pow-add d a b)) (parts_times (d ^ a) (d ^ b) h k (f d p) (g d p)))

pub power_itself : (a : Tree) → IsNumberOf (value a) a → IsPowerOver (value a) 1 a
power_itself a n = record { number = n.number; worth = n.worth; parts = shares_once (value a) }

pub squared_power : (v : Surd) (h q : Tree) (n : ℕ) → IsPowerOver v n h → IsNumberOver (surd_times (value h) (value h)) q → IsPowerOver v (2 * n) q
squared_power v h q n i j = record {
  number = j.number;
  worth = Same-trans j.worth (surd_power-squared v (value h) n i.worth);
  parts = subst (λ k. SharesPowers v k (value q)) (omega arith) (shares_times v (value h) (value h) (value q) n n i.parts i.parts j.parts);
}

pub next_power : (q a t : Tree) (k : ℕ) → IsPowerOver (value a) k q → IsNumberOver (surd_times (value q) (value a)) t → IsPowerOver (value a) (k + 1) t
next_power q a t k i over = record {
  number = over.number;
  worth = Same-trans over.worth (subst (λ (m : ℕ). Same (surd_times (value q) (value a)) (surd_power (value a) m)) (next k) (surd_power-multiplied (value a) (value q) k i.worth));
  parts = shares_times (value a) (value q) (value a) (value t) k 1 i.parts (shares_once (value a)) over.parts;
}
  where
    next : (m : ℕ) → suc m ≡ m + 1
    next m = omega arith

pub even_power : (v : Surd) (t : Tree) (n : ℕ) → n % 2 ≡ 0 → IsPowerOver v (2 * (n / 2)) t → IsPowerOver v n t
even_power v t n e i = subst (λ k. IsPowerOver v k t) (half_even n e) i

pub odd_power : (q a t : Tree) (n : ℕ) → n % 2 ≢ 0 → IsPowerOver (value a) (2 * (n / 2)) q → IsNumberOver (surd_times (value q) (value a)) t → IsPowerOver (value a) n t
odd_power q a t n e i over = subst (λ k. IsPowerOver (value a) k t) (sym (half_last n e)) (next_power q a t (2 * (n / 2)) i over)
