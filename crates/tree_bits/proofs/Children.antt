-- Sums of several trees.
use Rattle.std.proofs.Common.{◌≡◌, ℕ, ◌+◌, ◌*◌, ◌^◌, ◌≤◌, List, [], ◌∷◌, ◌++◌, false, arith}
use Rattle.tree_bits.proofs.Shared.{mul-le, pow-add, pow-le-pow_right, HighLow, Tree, Trees, none, more, count, is_undef, IsSumHeld, addends_of_each, AreTreesHeld, power_sum, largest_high, low_sum}
use Rattle.tree_bits.proofs.{Shared.{Addend, addends, IsTreeHeld, sum_held, AreWeighted, none_weighted, more_weighted, Weighted}, Sums.{AreWithin, are_within, held_within, sums_within}}

pub tree_as_sum : {t : Tree} {h l : ℕ} → is_undef t ≡ false → IsTreeHeld t h l → IsSumHeld (addends t) h l
tree_as_sum u h = grind arith

pub weighted_both : {xs ys : List Addend} {ws vs : List Weighted} → AreWeighted xs ws → AreWeighted ys vs → AreWeighted (xs ++ ys) (ws ++ vs)
weighted_both none_weighted b = b
weighted_both (more_weighted h l p a) b = more_weighted h l p (weighted_both a b)

-- addends with any bound in place of a power of 2
record HasBound (xs : List Addend) (x l : ℕ) : Type 0 where
  terms : List Weighted
  weighted : AreWeighted xs terms
  within : AreWithin terms x l

all_bound : (ts : Trees) (bs : List HighLow) → AreTreesHeld ts bs → HasBound (addends_of_each ts) (power_sum bs) (low_sum bs)
all_bound none [] k = record {
  terms = [];
  weighted = none_weighted;
  within = record { denominator = 1; positive = omega arith; parts = tt; low = omega arith; scale = 1; scale_positive = omega arith; scaled = tt; high = omega arith };
}
all_bound none (b ∷ bs) k = elim k [ ]
all_bound (more t ts) [] k = elim k [ ]
all_bound (more t ts) (b ∷ bs) (u, k, ks) =
    let a : IsSumHeld (addends t) b.high b.low = tree_as_sum u k in
    let r : HasBound (addends_of_each ts) (power_sum bs) (low_sum bs) = all_bound ts bs ks in
    record {
      terms = a.terms ++ r.terms;
      weighted = weighted_both a.weighted r.weighted;
      within = sums_within a.terms r.terms (2 ^ b.high) (power_sum bs) b.low (low_sum bs) (are_within a.held) r.within;
    }

pub trees_together : (ts : Trees) (bs : List HighLow) (h l : ℕ) → AreTreesHeld ts bs → power_sum bs ≤ 2 ^ h → low_sum bs ≤ l → IsSumHeld (addends_of_each ts) h l
trees_together ts bs h l k x y = let a : HasBound (addends_of_each ts) (power_sum bs) (low_sum bs) = all_bound ts bs k in record { terms = a.terms; weighted = a.weighted; held = held_within x y a.within }

-- k powers of 2, each at most 2 ^ h
power_sum_by_count : (ts : Trees) (bs : List HighLow) (h : ℕ) → AreTreesHeld ts bs → largest_high bs ≤ h → power_sum bs ≤ count ts * 2 ^ h
power_sum_by_count none [] h k x = omega arith
power_sum_by_count none (b ∷ bs) h k x = elim k [ ]
power_sum_by_count (more t ts) [] h k x = elim k [ ]
power_sum_by_count (more t ts) (b ∷ bs) h (u, k, ks) x =
    let a : power_sum bs ≤ count ts * 2 ^ h = power_sum_by_count ts bs h ks (omega arith) in
    let c : 2 ^ b.high ≤ 2 ^ h = pow-le-pow_right {n = 2} (omega arith) (omega arith) in
    omega arith

pub trees_by_count : (ts : Trees) (bs : List HighLow) (h j l : ℕ) → AreTreesHeld ts bs → largest_high bs ≤ h → count ts ≤ 2 ^ j → low_sum bs ≤ l → IsSumHeld (addends_of_each ts) (h + j) l
trees_by_count ts bs h j l k x y z =
    let a : power_sum bs ≤ count ts * 2 ^ h = power_sum_by_count ts bs h k x in
    let c : count ts * 2 ^ h ≤ 2 ^ j * 2 ^ h = mul-le (count ts) (2 ^ h) (2 ^ j) (2 ^ h) y (omega arith) in
    trees_together ts bs (h + j) l k (omega (arith, pow-add 2 h j)) z

pub sum_as_tree : (t : Tree) (h l : ℕ) → IsSumHeld (addends t) h l → IsTreeHeld t h l
sum_as_tree t h l a = sum_held a.terms a.weighted a.held
