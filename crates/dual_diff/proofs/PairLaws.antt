-- What is the same as a pair of a tree is one too.
use Rattle.dual_diff.proofs.Shared.{arith, ℕ, List, inl, inr, Tree, num, symbol, undef, add, mult, power, root, neg, sub, div, Assignment, IsRoot, Same, Surd, Inverts-Same, Means-Same}
use Rattle.dual_diff.proofs.Shared.{Same-sym, Same-trans, Same-refl, Pair, SamePair, HasPair, IsPowerSlope, IsStill, IsWholePower-Same}
use Rattle.calc_algebra.proofs.MeaningLaws.{root_same as root_of_same}
use Rattle.std.specs.Prelude.{ℤ}

same_pair_from : {p q r : Pair} → SamePair p q → SamePair p r → SamePair q r
same_pair_from s e = record { values = Same-trans (Same-sym s.values) e.values; slopes = Same-trans (Same-sym s.slopes) e.slopes }

power_slope : (n : ℤ) (q : Pair) (d e : Surd) → Same d e → IsPowerSlope n q d → IsPowerSlope n q e
power_slope n q d e s h = grind (arith, Same-trans, Same-sym)

root_same : (x v u : Surd) → IsRoot x v → Same v u → IsRoot x u
root_same x v u (c, i, h) e = (c, i, root_of_same c.num c.den v u h e)

still_same : (x : List ℕ) (t : Tree) (f : Assignment) (p q : Pair) → SamePair p q → IsStill x t f p → IsStill x t f q
still_same x t f p q s h = record { absent = h.absent; value = Means-Same t f p.value q.value h.value s.values; slope = Same-trans (Same-sym s.slopes) h.slope }

pub pair_same : (x : List ℕ) (t : Tree) (f : Assignment) (p q : Pair) → HasPair x t f p → SamePair p q → HasPair x t f q
pair_same x (num c) f p q (m, h) s = (Means-Same (num c) f p.value q.value m s.values, Same-trans (Same-sym s.slopes) h)
pair_same x (symbol y) f p q (m, h) s = (Means-Same (symbol y) f p.value q.value m s.values, Same-trans (Same-sym s.slopes) h)
pair_same x undef f p q h s = h
pair_same x (add ts) f p q (r, h, e) s = (r, h, same_pair_from s e)
pair_same x (mult ts) f p q (r, h, e) s = (r, h, same_pair_from s e)
pair_same x (neg a) f p q (r, h, e) s = (r, h, same_pair_from s e)
pair_same x (sub a b) f p q (r, t, h, k, e) s = (r, t, h, k, same_pair_from s e)
pair_same x (div a b) f p q (r, t, y, h, k, i, e) s = (r, t, y, h, k, i, same_pair_from s e)
pair_same x (power b e) f p q (inl h) s = inl (still_same x (power b e) f p q s h)
pair_same x (power b e) f p q (inr (r, n, h, held, l, w)) s =
    inr (r, n, h, held, l, record { value = IsWholePower-Same n (Same-refl r.value) s.values w.value; slope = power_slope n r p.slope q.slope s.slopes w.slope })
pair_same x (root a) f p q (inl h) s = inl (still_same x (root a) f p q s h)
pair_same x (root a) f p q (inr (r, h, held, w)) s =
    inr (r, h, held, record { value = root_same r.value p.value q.value w.value s.values; inverse = w.inverse; inverts = Inverts-Same (Same-refl w.inverse) s.values w.inverts; slope = Same-trans (Same-sym s.slopes) w.slope })
