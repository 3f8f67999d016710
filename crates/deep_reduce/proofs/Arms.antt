-- What a step is known to have made, in the arm for it.
use Rattle.deep_reduce.proofs.Shared.{◌≡◌, ◌<◌, ◌+◌, ◌^◌, ℕ, ℤ, subst, Some, None, true, false, ◌∙◌, ap, arith, Result, refl, IfErr, Tree, State, base_in, exponent_in, IsPowerAnswer, IsStep}
use Rattle.deep_reduce.proofs.Shared.{rewritten, IfFinished, IfJoined, IsFinished, IsGathered, IsPairAt, Joining, Rewrites, tree_of, Gives, IsHeldAsPowerOf, IfDone, Step, children_of, without_root}
use Rattle.deep_reduce.proofs.Shared.{forest, is_undef, has_undef, HandsOn, given_told, and_parts, is_half_num, power, none, more, IsPowerMisfit, has_no_power, has_number_power, is_rewritable}
use Rattle.deep_reduce.proofs.{Shared.{OfOverflow, NumberFault, KeepsFactorBounds, KeepsProductBounds, gathered_hands_on}, Settled.{gathered_product}, EasyNodes.{number_defined}}
use Rattle.deep_reduce.proofs.Shared.{PlainValue, IsErrAnd, AnswersRationals}
use Rattle.product_reduce.specs.Answers.{AnswersRationalFactors}
use Rattle.std.proofs.Common.{Err}
use Rattle.tree_handles.proofs.SmallLaws.{mult_is as product_words}
use Rattle.product_reduce.specs.declared.gathering.Joining.TheVariants as joining
use Rattle.reduce_port.specs.declared.step.Step.TheVariants as step

-- a product's step, from the state before to that after
module _ (i : ℕ) (old new : State) where
  pub is_finished : {s : Joining} {h : ℕ} → s ≡ joining.Done h → IfFinished s (λ k. Gives (without_root i (forest old)) (forest new) k (IsFinished (children_of (tree_of i old))))
      → Gives (without_root i (forest old)) (forest new) h (IsFinished (children_of (tree_of i old)))
  is_finished e h = subst (λ (x : Joining). IfFinished x (λ k. Gives (without_root i (forest old)) (forest new) k (IsFinished (children_of (tree_of i old))))) e h

  pub is_gathered : {s : Joining} {h at : ℕ} → s ≡ joining.Joined h at → IfJoined s (λ k n. Gives (without_root i (forest old)) (forest new) k (IsGathered (children_of (tree_of i old))))
      → Gives (without_root i (forest old)) (forest new) h (IsGathered (children_of (tree_of i old)))
  is_gathered e h = subst (λ (x : Joining). IfJoined x (λ k n. Gives (without_root i (forest old)) (forest new) k (IsGathered (children_of (tree_of i old))))) e h

  pub is_at : {s : Joining} {h at : ℕ} → s ≡ joining.Joined h at → IfJoined s (λ k n. IsPairAt n (children_of (tree_of k new))) → IsPairAt at (children_of (tree_of h new))
  is_at e h = subst (λ (x : Joining). IfJoined x (λ k n. IsPairAt n (children_of (tree_of k new)))) e h

  pub is_few : {s : Joining} {h at : ℕ} → s ≡ joining.Joined h at → IfJoined s (λ k n. n + 1 < 2 ^ 16) → at + 1 < 2 ^ 16
  is_few e h = subst (λ (x : Joining). IfJoined x (λ k n. n + 1 < 2 ^ 16)) e h

  -- a power's step
  pub is_done : {s : Step} {h : ℕ} → s ≡ step.Done h → IsStep (tree_of i old) (without_root i (forest old)) new s
      → (rewritten (base_in (tree_of i old)) (exponent_in (tree_of i old)) ≡ None) × Gives (without_root i (forest old)) (forest new) h (IsPowerAnswer (base_in (tree_of i old)) (exponent_in (tree_of i old)))
  is_done e h = subst (IsStep (tree_of i old) (without_root i (forest old)) new) e h

  pub is_again : {s : Step} {h : ℕ} → s ≡ step.Again h → IsStep (tree_of i old) (without_root i (forest old)) new s
      → Gives (without_root i (forest old)) (forest new) h (λ u. (rewritten (base_in (tree_of i old)) (exponent_in (tree_of i old)) ≡ Some u) × Rewrites (tree_of i old) u)
  is_again e h = subst (IsStep (tree_of i old) (without_root i (forest old)) new) e h

-- what holds its answer
pub is_held : {s : Step} {h : ℕ} (new : State) → s ≡ step.Done h → (n : ℤ) (b : Tree) → IfDone s (λ k. IsHeldAsPowerOf n b (tree_of k new)) → IsHeldAsPowerOf n b (tree_of h new)
is_held new e n b k = subst (λ (x : Step). IfDone x (λ k. IsHeldAsPowerOf n b (tree_of k new))) e k

-- ---- the bounds of what is gathered

module _ (i : ℕ) (old new : State) where
  pub is_bounded : {s : Joining} {h : ℕ} → s ≡ joining.Done h → IfFinished s (λ k. KeepsProductBounds (children_of (tree_of i old)) (tree_of k new))
      → KeepsProductBounds (children_of (tree_of i old)) (tree_of h new)
  is_bounded e b = subst (λ (s : Joining). IfFinished s (λ k. KeepsProductBounds (children_of (tree_of i old)) (tree_of k new))) e b

  pub gathered_hands : {s : Joining} {h at : ℕ} → s ≡ joining.Joined h at → IfJoined s (λ k n. Gives (without_root i (forest old)) (forest new) k (IsGathered (children_of (tree_of i old))))
      → IfJoined s (λ k n. KeepsFactorBounds (children_of (tree_of i old)) (tree_of k new)) → HandsOn (children_of (tree_of i old)) (children_of (tree_of h new))
  gathered_hands {h = h} e g b =
      let j = given_told (is_gathered i old new e g) in
      gathered_hands_on (children_of (tree_of i old)) (tree_of h new) (product_words (tree_of h new) (gathered_product _ _ j)) j.joinable.defined
      (subst (λ (s : Joining). IfJoined s (λ k n. KeepsFactorBounds (children_of (tree_of i old)) (tree_of k new))) e b)

-- ---- rationals

pub factors_refused : (v : PlainValue) (new : State) (r : Result ℕ NumberFault) (f : NumberFault) → IsErrAnd r (λ x. x ≡ f) → AnswersRationalFactors v new (Err f) → AnswersRationals v new r
factors_refused v new r f e h = grind arith

-- ---- operations that do not fit

-- what is known in any case
pub any_fault : (f : NumberFault) (P : Type 0) → P → OfOverflow (λ o. P) f
any_fault f P h = grind arith

pub any_refusal : {A : Type 0} (r : Result A NumberFault) (P : Type 0) → P → IfErr r (OfOverflow (λ o. P))
any_refusal r P h = grind (arith, any_fault)

-- both sides of a power
both_defined : (b e : Tree) → is_undef b ≡ false → is_undef e ≡ false → has_undef (more b (more e none)) ≡ false
both_defined b e h k = rw (h, k) refl

pub sides_defined : (t : Tree) → t ≡ power (base_in t) (exponent_in t) → is_undef (base_in t) ≡ false → is_undef (exponent_in t) ≡ false → has_undef (children_of t) ≡ false
sides_defined t p h k = ap (λ (x : Tree). has_undef (children_of x)) p ∙ both_defined (base_in t) (exponent_in t) h k

number_sides : (b e : Tree) → has_number_power b e ≡ true → (is_undef b ≡ false) × (is_undef e ≡ false)
number_sides b e h = grind (arith, number_defined, and_parts)

pub misfit_fault : (t : Tree) (f : NumberFault) → t ≡ power (base_in t) (exponent_in t) → OfOverflow (IsPowerMisfit (base_in t) (exponent_in t)) f
    → OfOverflow (λ o. has_undef (children_of t) ≡ false) f
misfit_fault t f h k = grind (arith, number_sides, sides_defined)

base_defined : (b e : Tree) → has_no_power b e ≡ false → is_undef b ≡ false
base_defined b e h = grind arith

-- where a power is rewritten
pub rewritten_defined : (t u : Tree) → t ≡ power (base_in t) (exponent_in t) → is_half_num (exponent_in t) ≡ false → rewritten (base_in t) (exponent_in t) ≡ Some u → has_undef (children_of t) ≡ false
rewritten_defined t u p n h = let w = is_rewritable (base_in t) (exponent_in t) u n h in sides_defined t p (base_defined (base_in t) (exponent_in t) w.has_power) w.exponent_defined

half_exponent : (e : Tree) → is_half_num e ≡ true → is_undef e ≡ false
half_exponent e h = grind arith

pub half_defined : (t : Tree) → t ≡ power (base_in t) (exponent_in t) → is_half_num (exponent_in t) ≡ true → is_undef (base_in t) ≡ false → has_undef (children_of t) ≡ false
half_defined t p h d = sides_defined t p d (half_exponent (exponent_in t) h)
