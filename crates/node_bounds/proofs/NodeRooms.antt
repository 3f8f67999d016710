-- What the answer for a node counts, and that it is calm and spanned as the node is.
use Rattle.std.proofs.Common.{ℕ, ◌+◌, ◌≤◌, negsuc, List, Bool, if◌then◌else◌, ap, arith}
use Rattle.node_bounds.proofs.Shared.{number_test, counted, counted_among, SpansTree, Fraction, minus_one_fraction, Tree, num, undef, add, mult, power, root, neg, sub, div, Trees, none, more}
use Rattle.node_bounds.proofs.Shared.{KeepsNodeRoom, SpansNode, node_count, IsCalmAtZero, KeepsRoom, KeepsSumRoom, power_count, whole_is, IsRootAnswer, zeros, whole_number, counts_one, at_most_itself}
use Rattle.node_bounds.proofs.{Calm.{calm_power}, JointRooms.{whole_count_most, sum_calm}, PowerRooms.{root_room, root_answer_counts, root_answer_calm, power_counts_most}, Rewritten.{whole_count_is}}

-- ---- leaves

some_count : (t : Tree) → 1 ≤ node_count t
some_count t = grind (arith, counts_one, power_counts_most)

pub number_room : (t : Tree) (q : Fraction) → KeepsNodeRoom (node_count t) t (num q)
number_room t q = record { counts = λ ns c. some_count t; calm = λ ns c. record { once = c.once; calm = tt }; spanned = λ gs ns c s. tt }

pub undef_room : (t : Tree) → KeepsNodeRoom (node_count t) t undef
undef_room t = record { counts = λ ns c. some_count t; calm = λ ns c. record { once = c.once; calm = tt }; spanned = λ gs ns c s. tt }

-- a leaf is its own answer
pub same_room : (t : Tree) → ((gs : List ℕ) → SpansNode gs t → SpansTree gs t) → KeepsNodeRoom (counted t) t t
same_room t h = record { counts = λ ns c. omega arith; calm = λ ns c. c; spanned = λ gs ns c s. h gs s }

-- ---- sums and roots

pub sum_room : (ts : Trees) (r : Tree) → KeepsSumRoom ts r → KeepsNodeRoom (counted (add ts)) (add ts) r
sum_room ts r k = record {
  counts = λ ns c. omega (arith, k.counts);
  calm = λ ns c. sum_calm ts r k c;
  spanned = λ gs ns c s. k.spanned gs s.1;
}

pub root_node_room : (a r : Tree) → IsRootAnswer a r → ((gs : List ℕ) → SpansTree gs (root a) → SpansTree gs r) → KeepsNodeRoom (counted (root a)) (root a) r
root_node_room a r h k = grind (arith, root_answer_counts, root_answer_calm, root_room)

-- of a node that is no root
pub node_room : {c : ℕ} (t r : Tree) → ((gs : List ℕ) → SpansNode gs t → SpansTree gs t) → KeepsRoom c t r → KeepsNodeRoom c t r
node_room t r h k = record { counts = k.counts; calm = k.calm; spanned = λ gs ns c s. k.spanned gs ns c (h gs s) }

-- ---- opposites, differences and quotients

module _ (a r : Tree) where
  pub opposite_room : KeepsNodeRoom (counted (mult (more (num minus_one_fraction) (more a none)))) (mult (more (num minus_one_fraction) (more a none))) r → KeepsNodeRoom (counted a) (neg a) r
  opposite_room k = record {
    counts = λ ns c.
        omega (arith, k.counts ns (under ns c), counts_one a, at_most_itself a none, ap (λ (z : Bool). (if z then 0 else 1) + counted_among (more a none)) (number_test (num minus_one_fraction) tt));
    calm = λ ns c. k.calm ns (under ns c);
    spanned = λ gs ns c s. k.spanned gs ns (under ns c) (tt, (tt, (s.1, tt)));
  }
    where
      under : (ns : List (List ℕ)) → IsCalmAtZero ns (neg a) → IsCalmAtZero ns (mult (more (num minus_one_fraction) (more a none)))
      under ns c = record { once = c.once; calm = (tt, (tt, (c.calm.1, tt))) }

pub inverse_count : (b : Tree) → power_count b (num minus_one_fraction) ≤ 1 + counted b
inverse_count b = omega (arith, whole_count_is b (num minus_one_fraction) (whole_is (negsuc 0)), whole_count_most b)

module _ (a b c r : Tree) where
  pub difference_room : KeepsNodeRoom (counted b) (neg b) c → KeepsNodeRoom (counted (add (more a (more c none)))) (add (more a (more c none))) r
      → KeepsNodeRoom (1 + counted a + counted b) (sub a b) r
  difference_room known k = record {
    counts = λ ns d. omega (arith, k.counts ns (both ns d), known.counts ns (right ns d), at_most_itself a (more c none), at_most_itself c none);
    calm = λ ns d. k.calm ns (both ns d);
    spanned = λ gs ns d s. k.spanned gs ns (both ns d) (tt, (s.1, (known.spanned gs ns (right ns d) (tt, s.2), tt)));
  }
    where
      right : (ns : List (List ℕ)) → IsCalmAtZero ns (sub a b) → IsCalmAtZero ns (neg b)
      right ns d = record { once = d.once; calm = (tt, d.calm.2) }

      both : (ns : List (List ℕ)) → IsCalmAtZero ns (sub a b) → IsCalmAtZero ns (add (more a (more c none)))
      both ns d = record { once = d.once; calm = (tt, (d.calm.1, ((known.calm ns (right ns d)).calm, tt))) }

  pub quotient_room : KeepsNodeRoom (power_count b (num minus_one_fraction)) (power b (num minus_one_fraction)) c
      → KeepsNodeRoom (counted (mult (more a (more c none)))) (mult (more a (more c none))) r → KeepsNodeRoom (1 + counted a + counted b) (div a b) r
  quotient_room known k = record {
    counts = λ ns d. omega (arith, k.counts ns (both ns d), known.counts ns (right ns d), inverse_count b, at_most_itself a (more c none), at_most_itself c none);
    calm = λ ns d. k.calm ns (both ns d);
    spanned = λ gs ns d s. k.spanned gs ns (both ns d) (tt, (s.1, (known.spanned gs ns (right ns d) (tt, s.2, tt), tt)));
  }
    where
      right : (ns : List (List ℕ)) → IsCalmAtZero ns (div a b) → IsCalmAtZero ns (power b (num minus_one_fraction))
      right ns d = calm_power (record { once = d.once; calm = d.calm.2 }) (record { once = d.once; calm = tt }) (whole_number (zeros ns) (num minus_one_fraction) (whole_is (negsuc 0)))

      both : (ns : List (List ℕ)) → IsCalmAtZero ns (div a b) → IsCalmAtZero ns (mult (more a (more c none)))
      both ns d = record { once = d.once; calm = (tt, (d.calm.1, ((known.calm ns (right ns d)).calm, tt))) }
