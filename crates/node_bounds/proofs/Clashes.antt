-- What tests and forms tell.
use Rattle.std.proofs.Common.{arith, ◌≡◌, refl, Bool, true, false, ◌&&◌, ◌||◌, ap, length, ◌≤◌}
use Rattle.node_bounds.proofs.Shared.{Tree, undef, is_undef, power, Trees, HasTwo, terms_of, has_no_power, is_reduced, parts_reduced, reduced_parts}
pub use Rattle.calc_algebra.proofs.ReducedLaws.{undef_words}
pub use Rattle.tree_bits.proofs.{ExponentBits.{clash, unclear}, Rows.{rational_is_number as rational_number}}
pub use Rattle.tree_room.proofs.PowerCounts.{power_no_number}
pub use Rattle.calc_terms.proofs.SmallLaws.{contradiction as contrary}
pub use Rattle.product_reduce.proofs.Finished.{zero_words}

-- where one of two holds, and the first does not
pub or_other : (a b : Bool) → a || b ≡ true → a ≡ false → b ≡ true
or_other a b h k = grind arith

-- and where not both hold, and the first does
pub and_other : (a b : Bool) → a && b ≡ false → a ≡ true → b ≡ false
and_other a b h k = grind arith

pub undef_test : (t : Tree) → t ≡ undef → is_undef t ≡ true
undef_test t e = ap is_undef e

pub undef_has_none : (b e : Tree) → is_undef b ≡ true → has_no_power b e ≡ true
undef_has_none b e h = grind arith

pub base_reduced : (b e : Tree) → is_reduced (power b e) ≡ true → is_reduced b ≡ true
base_reduced b e h = parts_reduced b (reduced_parts (power b e) h refl).1

pub exponent_reduced : (b e : Tree) → is_reduced (power b e) ≡ true → is_reduced e ≡ true
exponent_reduced b e h = parts_reduced e (reduced_parts (power b e) h refl).2
