-- What a leaf holds is what a node may hold.
use Rattle.calc_terms.proofs.Shared.{ℤ, pos, ◌≤◌, arith, nat_abs, ◌<ℤ◌, ints, Leaf, IsPayload, payload_of, IsUsable}
use Rattle.calc_terms.specs.declared.leaf.Leaf.TheVariants as leaf

pub at_least_one : (z : ℤ) → pos 0 <ℤ z → 1 ≤ nat_abs z
at_least_one z h = omega (arith, ints)

pub usable : (x : Leaf) → IsUsable x → IsPayload (payload_of x)
usable (leaf.Num r) h = record { positive = at_least_one r.den r.positive; num_fits = r.fits; den_fits = r.den_fits; lowest = r.in_lowest_terms }
usable (leaf.Sym n) h = n.holds_name.name
usable (leaf.Plain k) h = h
