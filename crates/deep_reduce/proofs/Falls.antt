-- The measure falls at each call.
use Rattle.std.proofs.Common.{◌≡◌, ℕ, ◌≤◌, ◌<◌, true, ap, arith}
use Rattle.deep_reduce.proofs.Shared.{nest, weight, load_of_factors, Tree, add, power, Trees, is_mult, nest_over, nest_of_joint, IsLess, IsSummed, are_reduced, base_in, exponent_in, IsGathered}
use Rattle.deep_reduce.proofs.{Shared.{IsPairAt, nth, children_of}, Finished.{IsReadyProduct, IsReadyPower}, Measures.{of_product, of_pairs, of_two, of_power, of_joint, of_powers, of_exponent}}
use Rattle.deep_reduce.proofs.{Measures.{of_rewritten, rank_second}, Heavy.{over_power}, Opened.{IsOpened}, Rows.{IsPowerOf}, Joined.{pair_loaded}, Settled.{IsPairJoined, joint_less}}

pub joint_falls : (t u : Tree) (at : ℕ) → IsPairJoined at (children_of t) u → of_joint at u < of_two t
joint_falls t u at j = let h = joint_less at (children_of t) u j in rank_second _ _ _ _ h.nests (omega (arith, h.weighs))

-- a product with a pair loads something
pair_loads : (at : ℕ) (ts : Trees) → are_reduced ts ≡ true → IsPairAt at ts → 2 ≤ load_of_factors ts
pair_loads at ts r p = omega (arith, (pair_loaded at ts r p).load)

pub two_falls : (at : ℕ) (t : Tree) → are_reduced (children_of t) ≡ true → IsPairAt at (children_of t) → of_two t < of_pairs t
two_falls at t r p = rank_second _ _ _ _ (omega arith) (omega (arith, pair_loads at (children_of t) r p))

pub next_two_falls : (t u : Tree) → IsLess (children_of t) u → of_two u < of_pairs t
next_two_falls t u l = rank_second _ _ _ _ l.nests (omega (arith, l.loads))

pub pairs_fall : (at : ℕ) (t u : Tree) → IsGathered (children_of t) u → IsPairAt at (children_of u) → of_pairs u < of_product t
pairs_fall at t u g p = rank_second _ _ _ _ g.nest (omega (arith, g.load, pair_loads at (children_of u) g.reduced p))

pub product_falls : (t v : Tree) → IsLess (children_of t) v → of_product v < of_product t
product_falls t v h = rank_second _ _ _ _ h.nests (omega (arith, h.loads))

summed_falls : (b : Tree) (ts : Trees) (p : Tree) → IsSummed b ts p → (nest p ≤ nest_over b ts) × (weight (base_in p) ≡ weight b)
summed_falls b ts p h = (omega (arith, over_power b ts h.exponent h.sum.number h.sum.nest, ap nest h.is), ap (λ (x : Tree). weight (base_in x)) h.is)

joint_power : (t p : Tree) → t ≡ power (base_in t) (add (children_of (exponent_in t))) → IsSummed (base_in t) (children_of (exponent_in t)) p
    → (nest p ≤ nest_of_joint t) × (weight (base_in p) ≡ weight (base_in t))
joint_power t p e h =
    let f = summed_falls (base_in t) (children_of (exponent_in t)) p h in
    (omega (arith, f.0, ap nest_of_joint e), f.1)

pub power_falls : (u p : Tree) (at : ℕ) → (let t = nth at (children_of u) in t ≡ power (base_in t) (add (children_of (exponent_in t))))
    → IsSummed (base_in (nth at (children_of u))) (children_of (exponent_in (nth at (children_of u)))) p → of_power p < of_joint at u
power_falls u p at e h = let f = joint_power (nth at (children_of u)) p e h in rank_second _ _ _ _ f.0 (omega (arith, f.1))

pub rewritten_falls : (t u : Tree) → t ≡ power (base_in t) (exponent_in t) → IsOpened (base_in t) (exponent_in t) u → of_rewritten u < of_power t
rewritten_falls t u e o = rank_second _ _ _ _ (omega (arith, o.nests, ap nest e)) (omega (arith, o.weighs))

pub powers_fall : (u : Tree) → is_mult u ≡ true → of_powers u < of_rewritten u
powers_fall u h = grind (arith, rank_second)

pub ready_product_falls : (u v : Tree) → IsReadyProduct u v → of_product v < of_rewritten u
ready_product_falls u v r = rank_second _ _ _ _ r.nests (omega (arith, r.loads))

pub exponent_falls : (u : Tree) → of_exponent u < of_rewritten u
exponent_falls u = rank_second _ _ _ _ (omega arith) (omega arith)

pub ready_power_falls : (u v : Tree) → IsReadyPower u v → of_power v < of_rewritten u
ready_power_falls u v r = rank_second _ _ _ _ r.nests (omega (arith, r.weighs))

pub one_power_falls : (u t : Tree) → IsPowerOf (children_of u) t → of_power t < of_powers u
one_power_falls u t p = rank_second _ _ _ _ p.nests (omega (arith, p.weighs))
