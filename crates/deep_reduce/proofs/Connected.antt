-- What holds of sums and products alike, and of differences and quotients.
use Rattle.deep_reduce.proofs.Shared.{◌≡◌, ◌||◌, ◌+◌, ◌*◌, ◌^◌, ◌<◌, ◌≤◌, ℕ, List, length, negsuc, true, false, refl, sym, ap, arith, ℤ, to_z, of_z, w128, nat_abs, Connective, kind_of, neutral_of}
use Rattle.deep_reduce.proofs.Shared.{joined_by, of_sides, turned, joined_room, turned_room, number_limit, Trees, Tree, num, none, more, children_of, count, whole_fraction, IsNodeAnswer}
use Rattle.deep_reduce.proofs.Shared.{IsNodeOverflow, takes_kind, is_reduced, SpansTree, size_of_payload, bare, size, sizes, nth, counted, Fraction, fraction_fits, has_undef, HasNodesFor}
use Rattle.deep_reduce.proofs.Shared.{IsCalmAtZero, is_sub, is_div, simple_room, KeepsNodeRoom, node_count, HoldsNode, AreFewBits, IsFactorHeld, holds_whole, Overflow, neg, power, minus_one_fraction}
use Rattle.deep_reduce.proofs.Shared.{tree_bytes, reduced_words, pow_pos, one_fraction, zero_fraction, difference_right, two_factors, AreSides, no_factors, node_sides, inverse_calm, inverse_spans}
use Rattle.deep_reduce.proofs.{Shared.{difference_fits, quotient_fits, right_inverse_lacks, right_opposite_lacks, inverse_count, product_bytes, sum_bytes}, Steps.{two, empty_sum_answer}}
use Rattle.deep_reduce.proofs.{Steps.{empty_product_answer, sub_answer, sub_overflow, opposite_overflow}, Quotients.{div_answer, div_overflow, inverse_overflow}, Told.{answer_at, two_reduced}}
use Rattle.node_bounds.proofs.NodeBits.{two_terms}
use Rattle.deep_reduce.specs.declared.connective.Connective.TheVariants as connective

-- ---- sums and products

pub neutral_fits : (k : Connective) → nat_abs (neutral_of k) < number_limit
neutral_fits connective.Sum = omega arith
neutral_fits connective.Product = omega arith

pub neutral_told : (k : Connective) (z : ℤ) → z ≡ neutral_of k → to_z w128 (of_z w128 z) ≡ neutral_of k
neutral_told connective.Sum z e = ap (λ (y : ℤ). to_z w128 (of_z w128 y)) e
neutral_told connective.Product z e = ap (λ (y : ℤ). to_z w128 (of_z w128 y)) e

pub children_joined : (k : Connective) (ts : Trees) → children_of (joined_by k ts) ≡ ts
children_joined connective.Sum ts = refl
children_joined connective.Product ts = refl

no_children : (k : Connective) (ts : Trees) (r : Tree) → count ts ≡ 0 → r ≡ num (whole_fraction (neutral_of k)) → IsNodeAnswer (joined_by k ts) r
unfolding zero_fraction one_fraction
no_children connective.Sum none r n q = empty_sum_answer r q
no_children connective.Product none r n q = empty_product_answer r q
no_children k (more t ts) r n q = absurd (omega arith)

pub empty_answer : (k : Connective) (t r : Tree) → t ≡ joined_by k (children_of t) → count (children_of t) ≡ 0 → r ≡ num (whole_fraction (neutral_of k)) → IsNodeAnswer t r
empty_answer k t r e n q = answer_at r (sym e) (no_children k (children_of t) r n q)

pub empty_room : (k : Connective) (ts : Trees) (m : ℕ) → 1 ≤ m → count ts ≡ 0 → 40 ≤ joined_room k ts m
empty_room connective.Sum ts m h n = omega (arith, h)
empty_room connective.Product ts m h n = grind (arith, no_factors)

pub takes_two : (k : Connective) → takes_kind (kind_of k) 2 ≡ true
takes_two connective.Sum = refl
takes_two connective.Product = refl

-- the node finds no bytes
pub joined_lacks : (k : Connective) (gs : List ℕ) (a b : Tree) (free : ℕ) → is_reduced a ≡ true → is_reduced b ≡ true → SpansTree gs (joined_by k (two a b)) → free < size_of_payload (bare (kind_of k))
    → free + sizes (two a b) < joined_room k (two a b) (2 ^ length gs)
joined_lacks connective.Sum gs a b free x y s l = omega (arith, l, sum_bytes gs (two a b) (two_reduced a b x y) s.1, pow_pos (length gs))
joined_lacks connective.Product gs a b free x y s l = omega (arith, l, product_bytes gs (two a b) (two_reduced a b x y) s.1, pow_pos (length gs))

-- ---- sides

pub sides_children : (k : Connective) (t : Tree) → t ≡ of_sides k (nth 0 (children_of t)) (nth 1 (children_of t)) → children_of t ≡ two (nth 0 (children_of t)) (nth 1 (children_of t))
sides_children connective.Sum t e = ap children_of e
sides_children connective.Product t e = ap children_of e

-- -1 or the node finds no bytes
pub turning_lacks : (k : Connective) (gs : List ℕ) (b : Tree) (free : ℕ) → is_reduced b ≡ true → SpansTree gs b → free < 48 → free + size b < turned_room k (counted b) (2 ^ length gs)
turning_lacks connective.Sum gs b free r s l = omega (arith, l, tree_bytes gs b (reduced_words b r) s, pow_pos (length gs))
turning_lacks connective.Product gs b free r s l = omega (arith, l, tree_bytes gs b (reduced_words b r) s, pow_pos (length gs))

module _ (a b : Tree) (fit : (q : Fraction) → b ≡ num q → fraction_fits q ≡ true) where
  pub turned_overflow : (k : Connective) (o : Overflow) → IsNodeOverflow (turned k b) o → has_undef (two a b) ≡ false → IsNodeOverflow (of_sides k a b) o
  turned_overflow connective.Sum o h d = opposite_overflow a b o h d
  turned_overflow connective.Product o h d = inverse_overflow a b o fit h d

  pub sides_answer : (k : Connective) (c r : Tree) → IsNodeAnswer (turned k b) c → IsNodeAnswer (joined_by k (two a c)) r → IsNodeAnswer (of_sides k a b) r
  sides_answer connective.Sum c r h i = sub_answer a b c h r i
  sides_answer connective.Product c r h i = div_answer a b c fit h r i

  pub sides_overflow : (k : Connective) (c : Tree) (o : Overflow) → IsNodeAnswer (turned k b) c → IsNodeOverflow (joined_by k (two a c)) o → has_undef (two a b) ≡ false
      → IsNodeOverflow (of_sides k a b) o
  sides_overflow connective.Sum c o h i d = sub_overflow a b c h o i d
  sides_overflow connective.Product c o h i d = div_overflow a b c fit h o i d

-- ---- bytes of sides

module _ (gs : List ℕ) (ns : List (List ℕ)) (n : ℕ) where
  pub sides_ready : (k : Connective) (t : Tree) → t ≡ of_sides k (nth 0 (children_of t)) (nth 1 (children_of t)) → HasNodesFor n t → IsCalmAtZero ns t → SpansTree gs t
      → AreSides gs ns n (nth 0 (children_of t)) (nth 1 (children_of t))
  sides_ready connective.Sum t e h c s = node_sides gs ns n t (ap (λ (u : Tree). is_sub u || is_div u) e) h c s
  sides_ready connective.Product t e h c s = node_sides gs ns n t (ap (λ (u : Tree). is_sub u || is_div u) e) h c s

  -- what the right is turned into finds no bytes beside the left
  pub turned_lacks : (k : Connective) (a b : Tree) (bytes : ℕ) → AreSides gs ns n a b → is_reduced a ≡ true → bytes < turned_room k (counted b) (2 ^ length gs)
      → bytes + size a < simple_room n (2 ^ length gs)
  turned_lacks connective.Sum a b bytes x r l = right_opposite_lacks gs a b n x.nodes bytes r x.left_spanned l
  turned_lacks connective.Product a b bytes x r l = right_inverse_lacks gs a b n x.nodes bytes r x.left_spanned l

  -- the left side with what the right was turned into
  pub record AreReady (k : Connective) (a c : Tree) : Type 0 where
    pub calm : IsCalmAtZero ns (joined_by k (two a c))
    pub spanned : SpansTree gs (joined_by k (two a c))
    pub fits : joined_room k (two a c) (2 ^ length gs) ≤ simple_room n (2 ^ length gs)

  pub turned_ready : (k : Connective) (a b c : Tree) → AreSides gs ns n a b → KeepsNodeRoom (node_count (turned k b)) (turned k b) c → AreReady k a c
  turned_ready connective.Sum a b c x h =
      let right : IsCalmAtZero ns (neg b) = record { once = x.once; calm = (tt, x.right_calm) } in
      record {
        calm = record { once = x.once; calm = (tt, (x.left_calm, ((h.calm ns right).calm, tt))) };
        spanned = (tt, (x.left_spanned, (h.spanned gs ns right (tt, x.right_spanned), tt)));
        fits = difference_fits gs a b n x.nodes c (h.counts ns right);
      }
  turned_ready connective.Product a b c x h =
      let right : IsCalmAtZero ns (power b (num minus_one_fraction)) = inverse_calm b (record { once = x.once; calm = x.right_calm }) in
      record {
        calm = record { once = x.once; calm = (tt, (x.left_calm, ((h.calm ns right).calm, tt))) };
        spanned = (tt, (x.left_spanned, (h.spanned gs ns right (inverse_spans gs b x.right_spanned), tt)));
        fits = quotient_fits gs a b n x.nodes c (omega (arith, h.counts ns right, inverse_count b));
      }

-- ---- bits of sides

-- few bits hold what the right is turned into, and with what these hold the node's bits hold the left side
pub record HoldsTurned (k : Connective) (a b : Tree) (h l : ℕ) : Type 0 where
  pub high : ℕ
  pub low : ℕ
  pub right : HoldsNode (turned k b) high low
  pub few : AreFewBits h l → AreFewBits high low
  pub joined : (c : Tree) → has_undef (two a c) ≡ false → IsFactorHeld c high low → HoldsNode (joined_by k (two a c)) h l

pub sides_held : (k : Connective) (a b : Tree) (h l : ℕ) → HoldsNode (of_sides k a b) h l → HoldsTurned k a b h l
sides_held connective.Sum a b h l x = record {
  high = x.k;
  low = x.n;
  right = x.right;
  few = λ few. difference_right a b few x;
  joined = λ c d y. two_terms a c d x.left y x.high x.low;
}
sides_held connective.Product a b h l x = record {
  high = x.k + 2 * x.n;
  low = 2 * x.k + 2 * x.n;
  right = holds_whole (negsuc 0) x.k x.n refl x.divisor (omega arith) (omega arith);
  few = λ few. omega (arith, few, x.high, x.low);
  joined = λ c d y. two_factors a c x.dividend y x.high x.low;
}
