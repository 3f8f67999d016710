-- A product in which a pair was joined counts one more at most.
use Rattle.product_reduce.proofs.Shared.{◌≡◌, ℕ, ◌+◌, ◌≤◌, Bool, true, false, if◌then◌else◌, refl, ap, arith, Tree, power, Trees, none, more, is_number, base_of, NoneIs, num_one, counted}
use Rattle.product_reduce.proofs.Shared.{counted_among, counts_one, is_mult, children_of, opened, others_in, IsJoined, exponent_of, has_partner, first_partner, without_partner, joint, joined}
use Rattle.product_reduce.proofs.{Shared.{counted_at_most, counted_in, permuted_counted, none_permuted}, Forms.{others_no_numbers}, GatheredCounts.{before_counted, opened_counted, others_counted}}
use Rattle.product_reduce.proofs.{GatheredCounts.{whole_number}, Joined.{one_base, partner_is, partner_first}}
use Rattle.tree_handles.proofs.SmallLaws.{mult_is as mult_words}

one_is_free : counted_in num_one ≡ 0
unfolding is_number
one_is_free = refl

-- a factor counts no less than its base and its exponent
part_counted : (t : Tree) → counted (base_of t) + counted_in (exponent_of t) ≤ counted t
part_counted (power b e) = grind (arith, one_is_free, whole_number e)
part_counted t = omega (arith, one_is_free)

joint_counted : (t u : Tree) → base_of t ≡ base_of u → counted (joint t u) ≤ counted t + counted u + 1
joint_counted t u e = omega (arith, part_counted t, part_counted u, ap counted e, counts_one (base_of u))

joined_counted : (ts : Trees) → NoneIs is_number ts → counted_among (joined ts) ≤ counted_among ts + 1
joined_counted none n = omega arith
joined_counted (more t ts) n = by (joined_counted ts n.1) (has_partner t ts) refl
  where
    free : (x : Tree) → is_number x ≡ false → counted_in x ≡ counted x
    free x h = ap {B = ℕ} (λ (b : Bool). if b then 0 else counted x) h

    by : counted_among (joined ts) ≤ counted_among ts + 1 → (k : Bool) → has_partner t ts ≡ k
        → counted_among (if k then more (joint t (first_partner t ts)) (without_partner t ts) else more t (joined ts)) ≤ counted_among (more t ts) + 1
    by go true e =
        let u = first_partner t ts in
        let p = partner_first t ts e in
        omega (arith, permuted_counted p, free t n.0, free u (none_permuted is_number p n.1).0, joint_counted t u (one_base t u (partner_is t ts e)), counted_at_most (joint t u))
    by go false e = omega (arith, go)

pub product_counted : (t u : Tree) → is_mult t ≡ true → IsJoined (children_of t) u → counted u ≤ counted t + 1
product_counted t u m j =
    let others = others_in (opened (children_of t)) in
    omega (
      arith,
      ap counted j.is,
      before_counted j.coefficient (joined others) j.joinable.coefficient.number,
      joined_counted others (others_no_numbers (opened (children_of t))),
      others_counted (opened (children_of t)),
      opened_counted (children_of t),
      ap counted (mult_words t m),
    )
