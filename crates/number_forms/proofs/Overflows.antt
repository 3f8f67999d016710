-- What a call on Numbers is refused for, from the call that was refused.
use Rattle.number_forms.proofs.Shared.{◌≡◌, ℕ, ◌+◌, ◌/◌, ◌<◌, ◌≤◌, Some, inl, ap, ◌∙◌, subst, arith, value, Same, Term, Surd, Tree, count, Same-trans, Same-append, Same-refl}
use Rattle.number_forms.proofs.Shared.{SharesDenominators, IsPowerOver, JoinOverflows, SumOverflows, ProductOverflows, SquareOverflows, PowerOverflows, Overflow, calculation_of}
use Rattle.number_forms.proofs.{Shared.{first_misfit, joining_calculations, children_of, nth}, Over.{shares_append}}
use Rattle.calc_algebra.specs.Numbers.{term_of}

-- the term of a sum at a place, once it is read
pub join_overflow : (sum : Tree) (at : ℕ) (x t : Term) (o : Overflow) → at < count (children_of sum) → x ≡ term_of (nth at (children_of sum))
    → Some (calculation_of o) ≡ first_misfit (joining_calculations x t) → JoinOverflows sum t o
join_overflow sum at x t o l e m = record { at = at; within = l; misfit = m ∙ ap (λ y. first_misfit (joining_calculations y t)) e }

-- ---- sums

pub sum_overflows_as : (v v' w w' : Surd) (o : Overflow) → Same v v' → SharesDenominators v' v → w ≡ w' → SumOverflows v w o → SumOverflows v' w' o
sum_overflows_as v v' w w' o h f e s =
    subst (λ x. SumOverflows v' x o) e (record {
      at = s.at;
      next = s.next;
      here = s.here;
      partial = s.partial;
      sum = s.sum;
      worth = Same-trans s.worth (Same-append h (Same-refl w));
      parts = λ d p. s.parts d (shares_append f (λ e q. q) d p);
      joined = s.joined;
    })

-- ---- powers

pub power_overflows_more : (v : Surd) (m n : ℕ) (o : Overflow) → m ≤ n → PowerOverflows v m o → PowerOverflows v n o
power_overflows_more v m n o l p = record {
  low = p.low;
  high = p.high;
  within = let w : p.low + p.high ≤ m = p.within in omega (arith, l, w);
  low_positive = p.low_positive;
  high_positive = p.high_positive;
  first = p.first;
  second = p.second;
  first_power = p.first_power;
  second_power = p.second_power;
  product = p.product;
}

pub square_overflows : (v : Surd) (h : Tree) (n : ℕ) (o : Overflow) → 1 ≤ n / 2 → IsPowerOver v (n / 2) h → SquareOverflows (value h) o → PowerOverflows v n o
square_overflows v h n o l i p = grind arith

pub last_overflows : (q a : Tree) (k n : ℕ) (o : Overflow) → 1 ≤ k → k < n → IsPowerOver (value a) k q → IsPowerOver (value a) 1 a → ProductOverflows (value q) (value a) o → PowerOverflows (value a) n o
last_overflows q a k n o l w i j p = record {
  low = k;
  high = 1;
  within = omega (arith, w);
  low_positive = l;
  high_positive = omega arith;
  first = q;
  second = a;
  first_power = i;
  second_power = j;
  product = inl p;
}
