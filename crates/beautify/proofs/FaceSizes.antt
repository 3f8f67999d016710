-- The face of a reduced tree is no smaller than a leaf.
use Rattle.beautify.proofs.Shared.{◌≡◌, ℕ, ◌≤◌, Bool, true, false, arith, ⊤, is_reduced, face, face_of_sum, factor_above, factors_above, fraction_of, has_minus, next_term, next_terms, unless_one}
use Rattle.beautify.proofs.Shared.{unsigned_face, with_minus, SoFar, as_tree, Tree, add, power, Trees, none, more, append, AllParts, AllPartsOf, HasTwo, is_undef, size, least_size, AreFactors}
use Rattle.beautify.proofs.{Shared.{IsFactor, IsShowable, plus_term}, Showables.{reduced_showable}, Resolving.{own_part}}
use Rattle.calc_terms.proofs.SmallLaws.{sizes_append as sizes-append}

signed_least : (b : Bool) (t : Tree) → 16 ≤ size t → 16 ≤ size (with_minus b t)
signed_least b t h = grind arith

-- ---- sums

terms_least : (ts : Trees) (u : Tree) → 16 ≤ size (add (append ts (more u none)))
terms_least ts u = omega (arith, sizes-append ts (more u none), least_size u)

plus_least : (s : SoFar) (u : Tree) → 16 ≤ size (as_tree (plus_term s u))
plus_least s u = grind (arith, least_size, terms_least)

term_least : (s : SoFar) (b : Bool) (u : Tree) → 16 ≤ size (as_tree (next_term s b u))
term_least s b u = grind (arith, least_size, plus_least)

terms_more : (s : SoFar) (ts : Trees) → 16 ≤ size (as_tree s) → 16 ≤ size (as_tree (next_terms s ts))
terms_more s none h = h
terms_more s (more t ts) h = terms_more (next_term s (has_minus t) (unsigned_face t)) ts (term_least s (has_minus t) (unsigned_face t))

sum_least : (ts : Trees) → HasTwo ts → 16 ≤ size (face_of_sum ts)
sum_least ts h = grind (arith, terms_more, term_least)

-- ---- products

-- none of them is smaller
abbrev AreLarge : Trees → Type 0
AreLarge none = ⊤
AreLarge (more t ts) = (16 ≤ size t) × AreLarge ts

unless_large : (n : ℕ) (ts : Trees) → AreLarge ts → AreLarge (unless_one n ts)
unless_large n ts h = grind arith

fraction_large : (above below : Trees) → AreLarge above → 16 ≤ size (fraction_of above below)
fraction_large above below h = grind arith

power_above : (b e : Tree) (ts : Trees) → AreLarge ts → AreLarge (factor_above (power b e) ts)
power_above b e ts h = grind (arith, least_size)

factor_large : (t : Tree) (ts : Trees) → IsFactor t → IsShowable t → AreLarge ts → AreLarge (factor_above t ts)
factor_large t ts f s h = grind (arith, unless_large, sum_least, power_above, least_size)

factors_large : (ts : Trees) → AreFactors ts → AllPartsOf IsShowable ts → AreLarge (factors_above ts)
factors_large none f s = tt
factors_large (more t ts) f s = factor_large t (factors_above ts) f.0 (own_part t s.0) (factors_large ts f.1 s.1)

-- ---- faces

power_large : (b e : Tree) → 16 ≤ size (unsigned_face (power b e))
power_large b e = grind (arith, least_size, fraction_large)

unsigned_large : (t : Tree) → AllParts IsShowable t → 16 ≤ size (unsigned_face t)
unsigned_large t h = grind (arith, fraction_large, unless_large, sum_least, factors_large, power_large, least_size)

pub face_large : (t : Tree) → is_reduced t ≡ true → is_undef t ≡ false → 16 ≤ size (face t)
face_large t r d = signed_least (has_minus t) (unsigned_face t) (unsigned_large t (reduced_showable t r d))
