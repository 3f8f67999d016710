-- The slope of a tree that does not hold the name is 0.
use Rattle.dual_diff.proofs.Shared.{arith, ◌≡◌, ℕ, List, [], Bool, false, ap, inl, inr, if◌then◌else◌, minus_one_fraction, Tree, num, symbol, undef, add, mult, power, root, neg, sub, div, Trees, none}
use Rattle.dual_diff.proofs.Shared.{more, Assignment, Same, Surd, surd_one, surd_times, Same-Agree, Agree, Agree-trans, Agree-eq, occurs, occurs_in, Pair, HasPair, HasPairSum, HasPairProduct}
use Rattle.dual_diff.proofs.{Shared.{bytes_eq, either_left, either_right}, SlopeLaws.{zero_append, zero_scale, zero_times, times_zero}}

symbol_still : (b : Bool) (d : Surd) → b ≡ false → Same d (if b then surd_one else []) → Agree d []
symbol_still b d o s = grind (arith, Same-Agree)

module _ (x : List ℕ) (f : Assignment) where
  mutual
    pub still : (t : Tree) (p : Pair) → occurs x t ≡ false → HasPair x t f p → Agree p.slope []
    still (num q) p o (m, s) = Same-Agree s
    still (symbol y) p o (m, s) = symbol_still (bytes_eq y x) p.slope o s
    still undef p o h = absurd h
    still (add ts) p o (q, h, s) = Agree-trans (Same-Agree s.slopes) (still_sum ts q o h)
    still (mult ts) p o (q, h, s) = Agree-trans (Same-Agree s.slopes) (still_product ts q o h)
    still (neg a) p o (q, h, s) = Agree-trans (Same-Agree s.slopes) (zero_scale minus_one_fraction (still a q o h))
    still (sub a b) p o (q, r, h, k, s) =
        Agree-trans (Same-Agree s.slopes) (zero_append (still a q (either_left (occurs x a) (occurs x b) o) h) (zero_scale minus_one_fraction (still b r (either_right (occurs x a) (occurs x b) o) k)))
    still (div a b) p o (q, r, y, h, k, i, s) =
        Agree-trans (Same-Agree s.slopes)
        (zero_append (times_zero y (still a q (either_left (occurs x a) (occurs x b) o) h))
        (zero_scale minus_one_fraction (zero_times q.value (times_zero (surd_times y y) (still b r (either_right (occurs x a) (occurs x b) o) k)))))
    still (power b e) p o (inl s) = Same-Agree s.slope
    still (power b e) p o (inr (q, n, h, held, l, s)) = absurd (cc (held, o))
    still (root a) p o (inl s) = Same-Agree s.slope
    still (root a) p o (inr (q, h, held, s)) = absurd (cc (held, o))

    pub still_sum : (ts : Trees) (p : Pair) → occurs_in x ts ≡ false → HasPairSum x ts f p → Agree p.slope []
    still_sum none p o e = Agree-eq (ap (λ (q : Pair). q.slope) e)
    still_sum (more t ts) p o (q, r, h, k, e) =
        Agree-trans (Agree-eq (ap (λ (z : Pair). z.slope) e))
        (zero_append (still t q (either_left (occurs x t) (occurs_in x ts) o) h) (still_sum ts r (either_right (occurs x t) (occurs_in x ts) o) k))

    pub still_product : (ts : Trees) (p : Pair) → occurs_in x ts ≡ false → HasPairProduct x ts f p → Agree p.slope []
    still_product none p o e = Agree-eq (ap (λ (q : Pair). q.slope) e)
    still_product (more t ts) p o (q, r, h, k, e) =
        Agree-trans (Agree-eq (ap (λ (z : Pair). z.slope) e))
        (zero_append (zero_times q.value (still_product ts r (either_right (occurs x t) (occurs_in x ts) o) k)) (times_zero r.value (still t q (either_left (occurs x t) (occurs_in x ts) o) h)))
