-- What a rewriting of a power leaves to be reduced: it nests no more, and weighs less.
use Rattle.deep_reduce.proofs.Shared.{or_false, ◌≡◌, ℤ, suc, ◌≤◌, ◌<◌, ◌⊎◌, inl, inr, Bool, true, false, ◌&&◌, ◌||◌, Some, None, refl, sym, ap, ◌∙◌, subst, arith, and_parts, whole_fraction}
use Rattle.deep_reduce.proofs.Shared.{zero_fraction, one_fraction, nest, nest_of, weight, has_coefficient, is_number, is_reduced, is_half_num, is_opaque_exponent, HasForm, Tree, num, mult, power}
use Rattle.deep_reduce.proofs.Shared.{root, Trees, none, more, count, is_num, is_undef, AllPartsOf, HasTwo, whole_denominator, number_test, product_form_of, no_split, reduced_parts, parts_reduced}
use Rattle.deep_reduce.proofs.Shared.{one_is_one, Leads, in_front, has_no_half_power, lacks_power, is_number_power, IsReducedPower, nest_of_rewritten, weight_of_bases, weight_below, AreTransparent}
use Rattle.deep_reduce.proofs.Shared.{IsUnfinished, Finishes, IsHeldAsPowerOf, has_no_power, has_number_power, IsWrittenPower, IsPowerAnswer, goes_inside, half, parts_of, raised, rewritten}
use Rattle.deep_reduce.proofs.Shared.{rewritten_whole, is_rewritable, transparent_whole, as_whole, no_half, zero_kept, one_kept, chosen, weights, weights_none, weights_more, power_nest, product_parts}
use Rattle.deep_reduce.proofs.Shared.{Rewrites, reduces_after, not-true, and_right, two_count, cases_Bool, contrary, undef_words, base_reduced, exponent_reduced, undef_has_none, finished_room}
use Rattle.deep_reduce.proofs.Shared.{undef_root_room, is_rewritten, to_number, base_nest}
use Rattle.power_reduce.proofs.Rules.{nothing}

-- ---- products to a power

raised_transparent : (gs : Trees) (e : Tree) → AllPartsOf HasForm gs → is_reduced e ≡ true → is_opaque_exponent e ≡ false → AreTransparent (raised gs e)
raised_transparent none e p r o = tt
raised_transparent (more g gs) e p r o = (record { is = refl; base_reduced = parts_reduced g p.0; exponent_reduced = r; transparent = o }, raised_transparent gs e p.1 r o)

raised_weights : (gs : Trees) (e : Tree) → weight_of_bases (raised gs e) ≡ weights gs
raised_weights none e = sym weights_none
raised_weights (more g gs) e = omega (arith, raised_weights gs e, weights_more g gs)

raised_nest : (gs : Trees) (b e : Tree) → nest_of gs ≤ nest b → nest_of (raised gs e) ≤ nest (power b e)
raised_nest none b e h = omega arith
raised_nest (more g gs) b e h = omega (arith, power_nest g b e (omega arith), raised_nest gs b e (omega arith))

raised_count : (gs : Trees) (e : Tree) → count (raised gs e) ≡ count gs
raised_count none e = refl
raised_count (more g gs) e = ap suc (raised_count gs e)

-- a reduced product has parts
parts_some : (ts : Trees) → HasTwo ts → (has_coefficient ts ≡ false) ⊎ Leads ts → 1 ≤ count (parts_of ts)
parts_some ts h k = grind (arith, no_split, one_is_one, two_count)

-- ---- what is left to reduce

pub record IsOpened (b e t : Tree) : Type 0 where
  pub unfinished : IsUnfinished t
  pub nests : nest_of_rewritten t ≤ nest (power b e)
  pub weighs : weight_below t < weight b

whole_transparent : (z : ℤ) → is_opaque_exponent (num (whole_fraction z)) ≡ false
whole_transparent z = grind (arith, whole_denominator, and_right)

opened_root : (a : Tree) (z : ℤ) (e : Tree) → is_number e ≡ true → is_reduced (root a) ≡ true → is_number (root a) ≡ false → IsOpened (root a) e (power a (num (whole_fraction z)))
opened_root a z e w r n = record {
  unfinished = record {
    is = refl;
    base_reduced = parts_reduced a (reduced_parts (root a) r refl).1;
    exponent_reduced = parts_reduced (num (whole_fraction z)) (inl tt);
    transparent = whole_transparent z;
  };
  nests = omega (arith, to_number a (num (whole_fraction z)) (number_test (num (whole_fraction z)) tt), to_number (root a) e w);
  weighs = rw n (omega arith);
}

opened_power : (c f e : Tree) → is_reduced (power c f) ≡ true → is_reduced e ≡ true → IsOpened (power c f) e (power c (mult (more f (more e none))))
opened_power c f e r s = grind (arith, power_nest, base_reduced, exponent_reduced, base_nest)

opened_product : (ts : Trees) (e : Tree) → is_reduced (mult ts) ≡ true → is_number (mult ts) ≡ false → is_reduced e ≡ true → is_opaque_exponent e ≡ false
    → IsOpened (mult ts) e (mult (raised (parts_of ts) e))
opened_product ts e r n s o =
    let p = product_parts ts r n in
    let parts = reduced_parts (mult ts) r refl in
    let f = product_form_of ts parts n in
    let are = p.are.are in
    record {
      unfinished = (
        subst (λ (gs : Trees). AreTransparent (raised gs e)) (sym are) (raised_transparent p.parts e p.are.formed s o),
        omega (arith, raised_count (parts_of ts) e, parts_some ts f.two (in_front ts f.no_product f.front)),
      );
      nests = subst (λ (gs : Trees). nest_of (raised gs e) ≤ nest (power (mult ts) e)) (sym are) (raised_nest p.parts (mult ts) e p.are.nests);
      weighs = omega (arith, raised_weights (parts_of ts) e, ap weights are, p.are.weights-are);
    }

inside_transparent : (e : Tree) → goes_inside e ≡ true → is_opaque_exponent e ≡ false
inside_transparent e h = transparent_whole e (and_parts _ _ h).0

opened_whole : (b e t : Tree) → is_reduced b ≡ true → is_reduced e ≡ true → rewritten_whole b e ≡ Some t → IsOpened b e t
opened_whole (root a) (num q) t r s h = chosen _ _ t (IsOpened (root a) (num q)) h (λ k. opened_root a (half q.num) (num q) (number_test (num q) tt) r (not-true _ (and_parts _ _ k).1))
opened_whole (power c f) e t r s h = chosen _ _ t (IsOpened (power c f) e) h (λ k. opened_power c f e r s)
opened_whole (mult ts) e t r s h = chosen _ _ t (IsOpened (mult ts) e) h (λ k. let (p, n) = and_parts _ _ k in opened_product ts e r (not-true _ n) s (inside_transparent e p))
opened_whole b e t r s h = nothing t (IsOpened b e) h

pub opened : (b e t : Tree) → is_half_num e ≡ false → is_reduced b ≡ true → is_reduced e ≡ true → rewritten b e ≡ Some t → IsOpened b e t
opened b e t n r s h = opened_whole b e t r s (sym (as_whole b e n) ∙ h)

-- ---- the answers

-- an exponent that is no half asks for no root
no_half_power : (b e : Tree) → is_half_num e ≡ false → has_no_half_power b e ≡ false
no_half_power b e h = grind arith

pub lacks_whole : (b e : Tree) → is_half_num e ≡ false → lacks_power b e ≡ has_no_power b e
lacks_whole b e h = ap (λ (x : Bool). has_no_power b e || x) (no_half_power b e h) ∙ or_false (has_no_power b e)

pub number_whole : (b e : Tree) → is_half_num e ≡ false → is_number_power b e ≡ has_number_power b e
number_whole b e h = ap (λ (x : Bool). has_number_power b e || is_num b && x) h ∙ ap (λ (x : Bool). has_number_power b e || x) (and_right (is_num b) false refl) ∙ or_false (has_number_power b e)

-- nor does a power that is kept
kept_half : (b e : Tree) → rewritten b e ≡ None → (is_half_num e ≡ false) ⊎ (is_undef b ≡ true)
kept_half b e r = elim (cases_Bool (is_undef b)) [ inl u ↦ inr u | inr u ↦ inl (no_half b e u r) ]

undef_lacks : (b e : Tree) → is_undef b ≡ true → lacks_power b e ≡ has_no_power b e
undef_lacks b e h = grind arith

undef_number : (b e : Tree) → is_undef b ≡ true → is_number_power b e ≡ has_number_power b e
undef_number b e h = grind (arith, or_false)

-- no rule names the tree for a power that is rewritten
pub rewritten_written : (b e t r : Tree) → rewritten b e ≡ Some t → IsWrittenPower b e r
unfolding zero_fraction one_fraction
rewritten_written b e t r h = grind (arith, zero_kept, one_kept)

pub power_after : (b e t r : Tree) → is_half_num e ≡ false → is_reduced b ≡ true → is_reduced e ≡ true → (rewritten b e ≡ Some t) × Rewrites (power b e) t → Finishes t r → IsReducedPower b e r
power_after b e t r n h k s f =
    let o = opened b e t n h k s.0 in
    let w = is_rewritable b e t n s.0 in
    record {
      reduces = reduces_after s.1 f.reduces;
      undefined = λ x. contrary x (lacks_whole b e n ∙ w.has_power);
      number = λ x y. contrary x (number_whole b e n ∙ w.no_number);
      written = λ x. rewritten_written b e t r s.0;
      nest = omega (arith, f.nest, o.nests);
      load = λ x. omega (arith, f.load, o.weighs);
      opaque_load = omega (arith, f.load, o.weighs);
      room = f.room b e (is_rewritten b e t n h k s.0);
      root_room = λ x. contrary x n;
      held = λ m q. f.held b e m (is_rewritten b e t n h k s.0) q;
      root_held = λ x. contrary x n;
    }

-- what a step answers that rewrites nothing
pub power_finished : (b e t : Tree) → rewritten b e ≡ None → IsPowerAnswer b e t → ((n : ℤ) → e ≡ num (whole_fraction n) → IsHeldAsPowerOf n b t) → IsReducedPower b e t
power_finished b e t h k a = grind (arith, undef_words, kept_half, lacks_whole, undef_lacks, number_whole, undef_number, finished_room, contrary, undef_root_room, undef_has_none)
