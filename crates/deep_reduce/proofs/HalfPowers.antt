-- Powers whose exponent is half of an odd whole number, from the root of the base and a power of it.
use Rattle.deep_reduce.proofs.Shared.{◌≡◌, ℕ, suc, List, ◌+◌, ◌≤◌, zero, ℤ, pos, negsuc, true, false, ◌&&◌, ◌||◌, ◌==◌, not, Some, None, refl, sym, ap, ◌∙◌, subst, arith, ◌≤ℤ◌, ◌*◌, ◌^◌, ◌<◌, length}
use Rattle.deep_reduce.proofs.Shared.{nat_le, and_parts, eqb-true, false_from_ne_true, ints, half_is_odd, number_words, number_test, keeps, kept, reduces_after, is_number, IsNumber, is_half_num}
use Rattle.deep_reduce.proofs.Shared.{is_reduced, Rewrites, weight, Fraction, whole_fraction, is_zero_fraction, int_is_negative, int_is_even, Tree, num, undef, power, root, names, is_undef, is_num}
use Rattle.deep_reduce.proofs.Shared.{is_root, IsHeldAsRootPower, IsFactorHeld, IsHeldAsPowerOf, lacks_power, is_number_power, IsReducedPower, parts_reduced, IsRooted, SpansTree, is_zero, numerator}
use Rattle.deep_reduce.proofs.Shared.{base_in, exponent_in, has_no_power, has_number_power, IsPowerAnswer, power_of_root, rewritten, transparent_whole, root_once, undef_base_kept, by_half}
use Rattle.deep_reduce.proofs.Shared.{one_is_not_two, whole_no_half, number_weight, whole_is, argument_of, has_no_root, IsRootAnswer, and_from, or_cases, or_left, or_right, or_parts, and_right}
use Rattle.deep_reduce.proofs.Shared.{not_from_false, cases_Bool, pow_pos, is_whole_num, reduced_words, counted, num_bytes, tree_bytes, size, SpansRootOf, LacksBelow, full_as, LacksRoot, LacksStep}
use Rattle.deep_reduce.proofs.Shared.{IsFull, NumberFault, power_room, scaled, and_left, classes, contrary, or_other, undef_words, and_other, half_held, root_answer_held, calm_no_half, half_room}
use Rattle.deep_reduce.proofs.{Shared.{root_room, of_root, some_weight, number_nest}, EasyNodes.{whole_power_number, whole_power_defined, zero_power}, NodeRewrites.{both}, Opened.{rewritten_written}}
use Rattle.deep_reduce.proofs.Lacking.{lacks_as}
use Rattle.std.proofs.Common.{Err}
use Rattle.calc_algebra.proofs.MeaningRewrites as rewrites

-- ---- the exponents

module _ (q : Fraction) (h : (q.den == 2) ≡ true) where
  half : q.den ≡ 2
  half = eqb-true q.den 2 h

  not_whole : (q.den == 1) ≡ false
  not_whole = false_from_ne_true (q.den == 1) (λ k. one_is_not_two q.den (eqb-true q.den 1 k) half)

  -- a numerator of at most 0 is below it
  below_zero : q.num ≤ℤ pos 0 → int_is_negative q.num ≡ true
  below_zero l = by q.num l (half_is_odd q half)
    where
      by : (z : ℤ) → z ≤ℤ pos 0 → int_is_even z ≡ false → int_is_negative z ≡ true
      by (pos zero) l o = cc
      by (pos (suc n)) l o = absurd (omega (arith, ints))
      by (negsuc n) l o = refl

  -- no whole power
  no_at_most : (b : Tree) → is_undef b ≡ false → has_no_power b (num q) ≡ false
  no_at_most b u = rw (u, not_whole) (and_right (is_zero b) false refl)

  no_number : (b : Tree) → has_number_power b (num q) ≡ false
  no_number b = rw not_whole (and_left (is_number b && false) (not (int_is_negative q.num) || nat_le (classes b) 2) (and_right (is_number b) false refl))

-- ---- the answer

number_root : (a r : Tree) → IsRootAnswer a r → is_num a ≡ true → has_no_root a ≡ false → IsNumber r
number_root a r h n k = number_words r (h.number n k)

module _ (p q : Fraction) (r u : Tree) (h : (q.den == 2) ≡ true) (known : IsRootAnswer (num p) r) (a : IsPowerAnswer r (num (whole_fraction q.num)) u) where
  undefined_sides : (int_is_negative p.num || is_zero_fraction p && int_is_negative q.num) ≡ true → u ≡ undef
  undefined_sides h = grind (arith, or_cases, undef_words, contrary, and_parts, of_root, number_root, zero_power)

  number_sides : (int_is_negative p.num || is_zero_fraction p && int_is_negative q.num) ≡ false → is_number u ≡ true
  number_sides e =
      let (n, z) = or_parts (int_is_negative p.num) (is_zero_fraction p && int_is_negative q.num) e in
      let number = number_root (num p) r known refl n in
      let known_root = of_root p r n known number in
      let is : is_number r ≡ true = number_test r number in
      a.number (whole_power_number r q.num is (λ k x. known_root.few))
      (whole_power_defined r q.num is (λ l x. contrary (and_from (is_zero_fraction p) (int_is_negative q.num) (known_root.zero_only x) (below_zero q h l)) z))

-- a power of a root is heavier by one at most
root_weight : (b r : Tree) → IsRootAnswer b r → weight r ≤ 1 + weight b
root_weight b r h = grind (arith, some_weight, undef_words, number_weight)

rooted : (b r e : Tree) → IsRootAnswer b r → Rewrites (power (root b) e) (power r e)
rooted b r e h = record {
  no_new_name = record { name = λ x k. both (names b) (names e) (names r) (names e) (λ y c. h.reduces.no_new_name.name y c) (λ y c. c) x k };
  meanings = keeps (rewrites.KeepsMeanings-power (kept h.reduces.meanings) (rewrites.KeepsMeanings-refl e));
}

half_undefined : (b r u : Tree) (q : Fraction) → (q.den == 2) ≡ true → is_undef b ≡ false → IsRootAnswer b r → IsPowerAnswer r (num (whole_fraction q.num)) u → lacks_power b (num q) ≡ true → u ≡ undef
half_undefined b r u q h k a c d = grind (arith, or_other, no_at_most, undefined_sides, and_parts)

half_number : (b r u : Tree) (q : Fraction) → (q.den == 2) ≡ true → IsRootAnswer b r → IsPowerAnswer r (num (whole_fraction q.num)) u → is_number_power b (num q) ≡ true
    → lacks_power b (num q) ≡ false → is_number u ≡ true
half_number b r u q h k a c d = grind (arith, and_parts, or_other, no_number, or_parts, number_sides, and_other)

root_kinds : (b r : Tree) → IsRootAnswer b r → (is_undef r || is_number r || is_root r) ≡ true
root_kinds b r h = grind (arith, or_left, or_right)

-- the power of the reduced root is that of the base
pub half_finished : (b e r u : Tree) → is_half_num e ≡ true → is_undef b ≡ false → Rewrites (power b e) (power_of_root b e) → IsRootAnswer b r
    → ((gs : List ℕ) → SpansTree gs (root b) → SpansTree gs r) → IsPowerAnswer r (num (whole_fraction (numerator e))) u
    → IsHeldAsRootPower (numerator e) b u → IsReducedPower b e u
half_finished b (num q) r u h d w k s a x = record {
  reduces = reduces_after w (reduces_after (rooted b r (num (whole_fraction q.num)) k) a.reduces);
  undefined = λ l. half_undefined b r u q h d k a l;
  number = λ n l. half_number b r u q h k a n l;
  written = λ l. rewritten_written b (num q) (power_of_root b (num q)) u (by_half b (num q) h d);
  nest = omega (arith, a.nest_bound, number_nest r (whole_fraction q.num), k.nest, number_nest b q);
  opaque_load = omega (arith, a.load_bound (transparent_whole (num (whole_fraction q.num)) (whole_is q.num)), root_weight b r k);
  load = λ o. contrary (and_from (is_number (num q)) (not (q.den == 1)) (number_test (num q) tt) (not_from_false (q.den == 1) (not_whole q h))) o;
  room = record { counts = λ ns c. contrary h (calm_no_half c); calm = λ ns c. contrary h (calm_no_half c); spanned = λ gs ns c s. contrary h (calm_no_half c) };
  root_room = λ o. half_room b r u q.num k s (root_once r (num q) h (root_kinds b r k)) a;
  held = λ n e. contrary (ap is_half_num (sym e) ∙ h) (whole_no_half (num (whole_fraction n)) (whole_is n));
  root_held = λ o. x;
}
half_finished b e r u h d w k s a x = absurd cc

-- ---- step by step

-- the first step is a rewriting where the base is not Undef
pub record IsHalfStep (b e u : Tree) : Type 0 where
  pub defined : is_undef b ≡ false
  pub is : u ≡ power_of_root b e

pub half_step : (b e u : Tree) → is_half_num e ≡ true → rewritten b e ≡ Some u → IsHalfStep b e u
half_step b e u h k = grind (arith, cases_Bool, undef_base_kept, by_half)

-- the power of the root, before and after the root is reduced
pub record IsHalfReady (u : Tree) : Type 0 where
  pub words : u ≡ power (base_in u) (exponent_in u)
  pub root : is_root (base_in u) ≡ true
  pub reduced : is_reduced (argument_of (base_in u)) ≡ true

pub half_ready : {b e u : Tree} → is_reduced b ≡ true → IsHalfStep b e u → IsHalfReady u
half_ready h s = subst IsHalfReady (sym s.is) (record { words = refl; root = refl; reduced = h })

pub record IsHalfLast (v : Tree) : Type 0 where
  pub words : v ≡ power (base_in v) (exponent_in v)
  pub base : is_reduced (base_in v) ≡ true
  pub exponent : is_reduced (exponent_in v) ≡ true
  pub last : rewritten (base_in v) (exponent_in v) ≡ None

-- the root of b, reduced, and what stands over it
rooted_is : (b e u v : Tree) → IsHalfStep b e u → IsRooted u v → IsRooted (power_of_root b e) v
rooted_is b e u v s k = subst (λ (t : Tree). IsRooted t v) s.is k

pub half_last : {b e u v : Tree} → is_half_num e ≡ true → IsHalfStep b e u → IsRooted u v → IsHalfLast v
half_last h k a = grind (arith, rooted_is, parts_reduced, root_once, root_kinds)

-- the exponent of the last step
pub last_exponent : {b e u v : Tree} → IsHalfStep b e u → IsRooted u v → exponent_in v ≡ num (whole_fraction (numerator e))
last_exponent s k = ap exponent_in (rooted_is _ _ _ _ s k).is

-- what holds the base holds the root, unless that is Undef
pub rooted_held : {b e u v : Tree} {h l : ℕ} → is_reduced b ≡ true → IsHalfStep b e u → IsRooted u v → (h ≡ 0 → l ≡ 0) → is_undef (base_in v) ≡ false → IsFactorHeld b h l
    → IsFactorHeld (base_in v) h l
rooted_held m s k z d a = grind (arith, root_answer_held, rooted_is)

pub half_after : {b e u v : Tree} (r : Tree) → is_half_num e ≡ true → IsHalfStep b e u → Rewrites (power b e) u → IsRooted u v → IsPowerAnswer (base_in v) (exponent_in v) r
    → is_reduced b ≡ true → IsHeldAsPowerOf (numerator e) (base_in v) r → IsReducedPower b e r
half_after {b = b} {e = e} {u = u} {v = v} r h s w k a m p =
    let t = rooted_is b e u v s k in
    let last = subst (λ (x : Tree). IsPowerAnswer (base_in x) (exponent_in x) r) t.is a in
    half_finished b e t.root r h s.defined (subst (Rewrites (power b e)) s.is w) t.answer t.spanned last
    (half_held b e t.root r m t.answer t.measured last (subst (λ (x : Tree). IsHeldAsPowerOf (numerator e) (base_in x) r) t.is p))

-- ---- bytes

-- the root of the base finds no bytes
pub root_lacks : (t : Tree) (free old : ℕ) (f : NumberFault) → (IsFull {A = ℕ} (Err f) → free < 96) → free ≡ old → LacksBelow (96 + size t) (old + size t) f
root_lacks t free old f h k = grind arith

base_bytes : (gs : List ℕ) (b : Tree) → is_reduced b ≡ true → SpansRootOf gs b → size b ≤ 204 * counted b * 2 ^ length gs
base_bytes gs b h k = grind (arith, num_bytes, pow_pos, tree_bytes, reduced_words)

-- the power of the root is small
rooted_bytes : (gs : List ℕ) (b e : Tree) → is_reduced b ≡ true → SpansRootOf gs b → 96 + size (power_of_root b e) ≤ power_room (1 + counted b) (2 ^ length gs)
rooted_bytes gs b e r s = omega (arith, base_bytes gs b r s, num_bytes (whole_fraction (numerator e)), pow_pos (length gs))

pub step_finds_none : (gs : List ℕ) (t : Tree) (free : ℕ) (f : NumberFault) → is_reduced (base_in t) ≡ true → SpansRootOf gs (base_in t) → LacksRoot t free f
    → LacksBelow (power_room (1 + counted (base_in t)) (2 ^ length gs)) (free + size t) f
step_finds_none gs t free f r s k = full_as f k (λ full l. omega (arith, l, rooted_bytes gs (base_in t) (exponent_in t) r s))

pub base_finds_none : {b e u : Tree} (gs : List ℕ) (free bytes : ℕ) (f : NumberFault) → is_reduced b ≡ true → SpansRootOf gs b → IsHalfStep b e u → free + size u ≡ bytes
    → LacksBelow (96 + size u) (free + size u) f → LacksBelow (power_room (1 + counted b) (2 ^ length gs)) bytes f
base_finds_none {b = b} {e = e} gs free bytes f r s h m k = lacks_as f k (λ l. omega (arith, l, m, ap size h.is, rooted_bytes gs b e r s))

-- the last step
pub record IsLastStep (gs : List ℕ) (b v : Tree) : Type 0 where
  pub spanned : SpansTree gs v
  pub whole : is_whole_num (exponent_in v) ≡ true
  pub counts : counted (base_in v) ≤ 1 + counted b

pub last_step : {b e u v : Tree} (gs : List ℕ) → SpansRootOf gs b → IsHalfStep b e u → IsRooted u v → IsLastStep gs b v
last_step {b = b} {e = e} {v = v} gs s h k =
    let t : IsRooted (power_of_root b e) v = subst (λ (x : Tree). IsRooted x v) h.is k in
    let r = root_room b t.root t.answer t.spanned in
    subst (IsLastStep gs b) (sym t.is) (record { spanned = (tt, r.spanned gs s, tt); whole = whole_is (numerator e); counts = r.counts })

pub last_finds_none : {b v : Tree} (gs : List ℕ) (free : ℕ) (f : NumberFault) → IsLastStep gs b v → LacksStep gs v free f → LacksBelow (power_room (1 + counted b) (2 ^ length gs)) (free + size v) f
last_finds_none {b = b} {v = v} gs free f h k = full_as f k (λ full l. omega (arith, l, scaled (counted (base_in v)) (1 + counted b) (2 ^ length gs) h.counts))
