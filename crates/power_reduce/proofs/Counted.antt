-- The answer of a step counts no more than the power, and what a rewriting of a product counts.
use Rattle.power_reduce.proofs.Shared.{◌≡◌, ◌+◌, ◌≤◌, pos, Bool, true, false, ◌||◌, None, Result, refl, ap, ◌∙◌, arith, IfOk, is_number, is_num_one, is_reduced, is_whole_num, num_one, split_product}
use Rattle.power_reduce.proofs.Shared.{NoneIs, counted, counted_among, counted_other, Fraction, one_fraction, is_zero_fraction, is_one_fraction, Tree, num, mult, power, Trees, none, more, is_undef}
use Rattle.power_reduce.proofs.Shared.{zero_is, one_is, State, is_power, base_in, exponent_in, has_no_power, has_number_power, IsWrittenPower, IsPowerAnswer, IsStep, is_zero_or_one, parts_of}
use Rattle.power_reduce.proofs.{Shared.{rewritten, IfDone, Step, Forest, tree_of, NumberFault, given_told, split_counts, counts_one, number_counts_one, counted_in_all}, Powers.{power_is}}
use Rattle.power_reduce.proofs.{Rooms.{HasFactors, product_factors}, Whole.{whole_is}}
use Rattle.std.specs.Prelude.{if◌then◌else◌}
use Rattle.reduce_port.specs.declared.step.Step.TheVariants as step

undef_counts : (t : Tree) → is_undef t ≡ true → counted t ≡ 1
undef_counts t h = grind arith

pub one_is_whole : is_whole_num num_one ≡ true
unfolding one_fraction
one_is_whole = whole_is (pos 1)

pub whole_power_counts : (b e : Tree) → is_whole_num e ≡ true → counted (power b e) ≡ counted b
whole_power_counts b e h = rw h refl

one_power_counts : (b : Tree) (q : Fraction) → is_one_fraction q ≡ true → counted (power b (num q)) ≡ counted b
one_power_counts b q h = whole_power_counts b (num q) (ap (λ (x : Fraction). is_whole_num (num x)) (one_is q h) ∙ one_is_whole)

trivial_counts : (b e t : Tree) → is_zero_or_one e ≡ true → IsWrittenPower b e t → counted t ≤ counted (power b e)
trivial_counts b (num q) t h w = by (is_zero_fraction q) refl h
  where
    by : (z : Bool) → is_zero_fraction q ≡ z → (z || is_one_fraction q) ≡ true → counted t ≤ counted (power b (num q))
    by true z k = omega (arith, ap counted (w.zero (ap num (zero_is q z))), counts_one (power b (num q)))
    by false z k = omega (arith, ap counted (w.one (ap num (one_is q k))), one_power_counts b q k)
trivial_counts b e t h w = absurd cc

-- a reduced tree for the power counts no more
pub answer_counts : (b e t : Tree) → rewritten b e ≡ None → IsPowerAnswer b e t → counted t ≤ counted (power b e)
answer_counts b e t r a = by (has_no_power b e) (has_number_power b e) (is_zero_or_one e) refl refl refl
  where
    by : (d n z : Bool) → has_no_power b e ≡ d → has_number_power b e ≡ n → is_zero_or_one e ≡ z → counted t ≤ counted (power b e)
    by true n z d k o = omega (arith, undef_counts t (a.undefined ∙ d), counts_one (power b e))
    by false true z d k o = omega (arith, number_counts_one t (a.number k d), counts_one (power b e))
    by false false true d k o = trivial_counts b e t o (a.written d)
    by false false false d k o = omega (arith, ap counted ((a.written d).kept (record { other = o; no_number = k; not_rewritten = r })))

-- and so does what a step answers
pub step_counts : (t : Tree) (others : Forest) (s : State) (x : Step) → is_power t ≡ true → IsStep t others s x → IfDone x (λ h. counted (tree_of h s) ≤ counted t)
step_counts t others s (step.Done h) p (r, g) = omega (arith, answer_counts (base_in t) (exponent_in t) (tree_of h s) r (given_told g), ap counted (power_is t p))
step_counts t others s (step.Again h) p k = tt

pub if_step_counts : (t : Tree) (others : Forest) (s : State) (r : Result Step NumberFault) → is_power t ≡ true → IfOk r (IsStep t others s) → IfOk r (λ x. IfDone x (λ h. counted (tree_of h s) ≤ counted t))
if_step_counts t others s r p k = grind (arith, step_counts)

-- ---- the parts of a product

others_counted : (ts : Trees) → NoneIs is_number ts → counted_in_all ts ≡ counted_among ts
others_counted none h = refl
others_counted (more t ts) (h, hs) = rw (counted_other t ts h) (omega (arith, others_counted ts hs))

parts_of_product : (ts : Trees) → HasFactors ts → counted_in_all (parts_of ts) ≤ 1 + counted (mult ts)
parts_of_product ts h = by (is_num_one (split_product ts).coefficient)
  where
    by : (b : Bool) → counted_in_all (if b then (split_product ts).factors else more (split_product ts).coefficient (split_product ts).factors) ≤ 1 + counted (mult ts)
    by true = omega (arith, others_counted (split_product ts).factors h.no_number, split_counts ts)
    by false = omega (arith, number_counts_one (split_product ts).coefficient h.number, others_counted (split_product ts).factors h.no_number, split_counts ts)

pub parts_counted : (ts : Trees) → is_reduced (mult ts) ≡ true → is_number (mult ts) ≡ false → counted_in_all (parts_of ts) ≤ 1 + counted (mult ts)
parts_counted ts r n = parts_of_product ts (product_factors ts r n)
