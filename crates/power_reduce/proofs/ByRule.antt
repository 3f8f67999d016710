-- By which rule a power was rewritten, and what falls.
use Rattle.power_reduce.proofs.Shared.{◌≡◌, ◌+◌, ◌≤◌, ◌<◌, suc, Bool, true, false, ◌&&◌, ◌||◌, Some, refl, sym, ◌∙◌, subst, arith, max, and_parts, Fraction, whole_fraction, nest, load, weight}
use Rattle.power_reduce.proofs.Shared.{load_of_factor, is_number, is_reduced, is_half_num, is_whole_num, is_opaque_exponent, Tree, num, mult, power, root, Trees, none, more, is_undef}
use Rattle.power_reduce.proofs.Shared.{whole_denominator, reduced_parts, parts_reduced, is_zero, has_no_power, has_number_power, EachTree, HalvesRoot, JoinsExponents, IsLighterPart, RaisesParts}
use Rattle.power_reduce.proofs.{Shared.{IsByRule, IsRewritable, half, parts_of, raised, rewritten, rewritten_whole, nest_number, to_number, to_other, base_nest, power_no_number}, Exponents.{as_whole}}
use Rattle.power_reduce.proofs.{Answered.{number_nest}, Bounds.{number_load}, Weights.{product_parts, each_lighter, powers_nest, powers_load}}
use Rattle.calc_terms.proofs.Names.{and as both, not_true as from_not}
use Rattle.std.proofs.Common.{if◌then◌else◌}

-- ---- roots

root_weight : (a : Tree) → is_number (root a) ≡ false → weight (root a) ≡ suc (weight a)
root_weight a h = rw h refl

halves : (a : Tree) (q : Fraction) → is_reduced (root a) ≡ true → is_number (root a) ≡ false → HalvesRoot (root a) (num q) (power a (num (whole_fraction (half q.num))))
halves a q r n = record {
  argument = a;
  half = whole_fraction (half q.num);
  base-is = refl;
  tree-is = refl;
  whole = whole_denominator (half q.num);
  reduced = parts_reduced a (reduced_parts (root a) r refl).1;
  lighter = omega (arith, root_weight a n);
  nest_kept = omega (arith, number_nest a (whole_fraction (half q.num)), number_nest (root a) q);
}

-- ---- powers of powers

not_both : (a b : Bool) → (a && b) ≡ false → a ≡ true → b ≡ true → ⊥
not_both a b h p q = cc (both a b p q)

exponents : (c f e : Tree) → (is_number f && is_number e) ≡ false → max (nest f) (max (nest e) 0) < nest (power (power c f) e)
exponents c f e h = by (is_number f) (is_number e) refl refl
  where
    by : (a b : Bool) → is_number f ≡ a → is_number e ≡ b → max (nest f) (max (nest e) 0) < nest (power (power c f) e)
    by true true p q = absurd (not_both _ _ h p q)
    by true false p q = omega (arith, nest_number f p, to_other (power c f) e q)
    by false true p q = omega (arith, nest_number e q, to_number (power c f) e q, to_other c f p)
    by false false p q = omega (arith, to_other (power c f) e q, to_other c f p)

flat_exponents : (f e : Tree) → (is_number f && is_number e) ≡ true → max (nest f) (max (nest e) 0) ≡ 0
flat_exponents f e h = omega (arith, nest_number f (and_parts _ _ h).0, nest_number e (and_parts _ _ h).1)

no_load : (f e : Tree) → (is_number f && is_number e) ≡ true → load (mult (more f (more e none))) ≡ 0
no_load f e h = by (is_number (mult (more f (more e none)))) (and_parts _ _ h)
  where
    by : (b : Bool) → (is_number f ≡ true) × (is_number e ≡ true) → (if b || false then 0 else load_of_factor f + (load_of_factor e + 0)) ≡ 0
    by true k = refl
    by false k = omega (arith, number_load f k.0, number_load e k.1)

joined_nest : (c f e p : Tree) → nest p ≤ max (nest f) (max (nest e) 0) → ((is_number f && is_number e) ≡ true → is_number p ≡ true) → nest (power c p) ≤ nest (power (power c f) e)
joined_nest c f e p l n = by (is_number p) (is_number f && is_number e) refl refl
  where
    by : (a b : Bool) → is_number p ≡ a → (is_number f && is_number e) ≡ b → nest (power c p) ≤ nest (power (power c f) e)
    by true b h k = omega (arith, to_number c p h, base_nest c f, base_nest (power c f) e)
    by false true h k = absurd (cc (n k))
    by false false h k = omega (arith, to_other c p h, base_nest c f, base_nest (power c f) e, exponents c f e k)

joins : (c f e : Tree) → is_reduced (power c f) ≡ true → JoinsExponents (power c f) e (power c (mult (more f (more e none))))
joins c f e r =
    let p = reduced_parts (power c f) r refl in record {
      inner = c;
      first = f;
      base-is = refl;
      tree-is = refl;
      base_reduced = parts_reduced c p.1;
      first_reduced = parts_reduced f p.2;
      lighter = omega arith;
      exponents_nest = exponents c f e;
      exponents_flat = flat_exponents f e;
      exponents_load = no_load f e;
      nest_kept = joined_nest c f e;
    }

-- ---- powers of products

raises : (ts : Trees) (e : Tree) → is_reduced (mult ts) ≡ true → is_number (mult ts) ≡ false → RaisesParts (mult ts) e (mult (raised (parts_of ts) e))
raises ts e r n =
    let p = product_parts ts r n in record {
      factors = ts;
      base-is = refl;
      tree-is = refl;
      parts = subst (EachTree (IsLighterPart (mult ts) e)) (sym p.are.are) (each_lighter (mult ts) e p.parts p.are.formed p.are.weights-are p.are.nests);
      nest_kept = powers_nest ts e p;
      load_below = powers_load ts e p;
    }

-- ---- all rewritings

whole_by_rule : (b e t : Tree) → is_reduced b ≡ true → rewritten_whole b e ≡ Some t → IsByRule b e t
whole_by_rule b e t r h = grind (arith, halves, from_not, joins, raises)

pub by_rule : (b e t : Tree) → is_half_num e ≡ false → is_reduced b ≡ true → rewritten b e ≡ Some t → IsByRule b e t
by_rule b e t n r h = whole_by_rule b e t r (sym (as_whole b e n) ∙ h)

-- ---- what is known of the exponent and the base

-- a whole exponent makes no opaque power
pub transparent_whole : (e : Tree) → is_whole_num e ≡ true → is_opaque_exponent e ≡ false
transparent_whole e h = grind arith

pub no_number_power : (b e : Tree) → is_number b ≡ false → has_number_power b e ≡ false
no_number_power b e h = grind arith

pub has_power : (b e : Tree) → is_undef b ≡ false → is_zero b ≡ false → is_undef e ≡ false → has_no_power b e ≡ false
has_power b e u z v = rw (u, z, v) refl

whole_rewritable : (b e t : Tree) → rewritten_whole b e ≡ Some t → IsRewritable b e
whole_rewritable b e t h = grind (arith, power_no_number)

pub is_rewritable : (b e t : Tree) → is_half_num e ≡ false → rewritten b e ≡ Some t → IsRewritable b e
is_rewritable b e t n h = whole_rewritable b e t (sym (as_whole b e n) ∙ h)
