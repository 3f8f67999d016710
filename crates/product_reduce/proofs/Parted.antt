-- A coefficient beside the other factors of a product, and what is made of both.
use Rattle.product_reduce.proofs.Shared.{ℕ, ◌≡◌, ◌≤◌, ◌+◌, ◌*◌, ◌^◌, ◌∙◌, Bool, List, length, Err, eqb, true, false, [], ◌∷◌, refl, sym, ap, subst, arith, IfOk, IfErr, IsErr, IsErrAnd, PlainValue}
use Rattle.product_reduce.proofs.Shared.{plain_value, IsPlainAnswer, counted, HasPowersOf, SpansTree, SpansTrees, put_room, product_count, counts_one, product_bytes, pow_pos, passed_lacks}
use Rattle.product_reduce.proofs.Shared.{result_lacks, Tree, mult, Trees, none, count, is_mult, are_rationals, has_undef, size, are_reduced, AnswersRationals, AnswersRationalFactors, NumberFault}
use Rattle.product_reduce.proofs.Shared.{State, free_of, tree_of, Forest, forest, Stands, KeepsRefusals, IsHanded, Gives, KeepsFront, without_root, behind_first, front_after_one, front_after_two}
use Rattle.product_reduce.proofs.Shared.{gives_as, given_told, by_test, overflow_as, passed_on, OfOverflow, Joining, IfFinished, IfJoined, AreOthers, IsStop, at_zero, at_end, IsFinished, IsOrdered}
use Rattle.product_reduce.proofs.Shared.{IsGathered, AreFactorsHeld, IsCoefficient, coefficient_times, opened, numbers_in, others_in, MultiplyingOverflows, SpreadingOverflows, multiplying, spreading}
use Rattle.product_reduce.proofs.Shared.{IsProduct, Becomes, IsTakenOut, factors_in, KeepsFactorBounds, KeepsProductBounds, AreFewBits, SpansRoot, IsFactorMisfit, product_need, IsCaused, LacksBelow}
use Rattle.product_reduce.proofs.{Shared.{product_step_room, of_lists, undef_words}, Beside.{beside_product, beside_apart, behind_beside}, Finished.{reduced_opened, stopped}, FreeBytes.{becomes_free}}
use Rattle.product_reduce.proofs.{FreeBytes.{taken_out_free, opened_size, step_lacks_numbers, step_lacks_pair}, Gathered.{gathered}, GatheredCounts.{finished_counted, others_at_most}}
use Rattle.product_reduce.proofs.{GatheredCounts.{gathered_counted, gathered_few}, GatheredParts.{finished_powers, coefficient_spanned, spans_finished, spans_factors, gathered_powers, spans_gathered}}
use Rattle.product_reduce.proofs.{HeldProducts.{apart, finished_held, gathered_held}, LastSteps.{permuted_none_is}, Products.{product_at, factors_are}, SpreadFits.{no_spreading}}
use Rattle.product_reduce.proofs.{Stepped.{others_are, opened_value, none_beside}, Forms.{opened_parts, others_parts}}
use Rattle.std.proofs.Common.{Result}
use Rattle.tree_handles.proofs.Refused.{refused_as as refused_on}

-- ---- the factors are opened

-- a product of reduced factors none of which is Undef, and then with the products in it opened
pub record AreOpened (i : ℕ) (old mid : State) : Type 0 where
  pub product : IsProduct i (forest old) (factors_in i (forest old))
  pub some : 1 ≤ count (factors_in i (forest old))
  pub reduced : are_reduced (factors_in i (forest old)) ≡ true
  pub defined : has_undef (factors_in i (forest old)) ≡ false
  pub stands : Stands mid
  pub becomes : Becomes i (forest old) (forest mid) (opened (factors_in i (forest old)))
  pub factors : factors_in i (forest mid) ≡ opened (factors_in i (forest old))
  pub free : free_of mid + size (mult (opened (factors_in i (forest old)))) ≡ free_of old + size (tree_of i old)

pub opens : {i : ℕ} {old mid : State} → Stands old → IsHanded i (forest old) → is_mult (tree_of i old) ≡ true → 1 ≤ count (factors_in i (forest old))
    → are_reduced (factors_in i (forest old)) ≡ true → has_undef (factors_in i (forest old)) ≡ false
    → Stands mid → KeepsRefusals old mid → Becomes i (forest old) (forest mid) (opened (factors_in i (forest old))) → AreOpened i old mid
opens h k m n r d l p b = grind (arith, becomes_free)

pub reduced_now : {i : ℕ} {old mid : State} → AreOpened i old mid → are_reduced (factors_in i (forest mid)) ≡ true
reduced_now {i = i} {old = old} o = ap are_reduced o.factors ∙ reduced_opened (factors_in i (forest old)) o.reduced o.defined

-- the value of rationals
pub rationals_opened : {i : ℕ} {old mid : State} (P : PlainValue → Type 0) → AreOpened i old mid → are_rationals (factors_in i (forest old)) ≡ true
    → (are_rationals (factors_in i (forest mid)) ≡ true → 1 ≤ count (factors_in i (forest mid)) → P (plain_value (mult (factors_in i (forest mid))))) → P (plain_value (tree_of i old))
rationals_opened {i = i} {old = old} {mid = mid} P o r k =
    let same : factors_in i (forest mid) ≡ factors_in i (forest old) = opened_value (factors_in i (forest old)) (factors_in i (forest mid)) r o.factors in
    let value : plain_value (mult (factors_in i (forest mid))) ≡ plain_value (tree_of i old) = ap (λ (us : Trees). plain_value (mult us)) same ∙ ap plain_value (sym o.product.tree) in
    subst P value (k (ap are_rationals same ∙ r) (subst (λ (us : Trees). 1 ≤ count us) (sym same) o.some))

-- ---- Numbers that are not multiplied

pub numbers_overflow : {A : Type 0} {i : ℕ} {old mid : State} (r : Result A NumberFault) (f : NumberFault) → IsErr r → IsErrAnd r (λ x. x ≡ f) → AreOpened i old mid
    → OfOverflow (MultiplyingOverflows (numbers_in (factors_in i (forest mid)))) f → IfErr r (OfOverflow (IsFactorMisfit (factors_in i (forest old))))
numbers_overflow {i =
    i} {old = old} r f n e o x = passed_on r f (OfOverflow (IsFactorMisfit (factors_in i (forest old)))) n e (overflow_as f x
    (λ v m. multiplying (subst (λ (us : Trees). MultiplyingOverflows (numbers_in us) v) o.factors m)))

pub numbers_fit : {A : Type 0} {i : ℕ} {old mid : State} (r : Result A NumberFault) (f : NumberFault) (h l : ℕ) → IsErr r → IsErrAnd r (λ x. x ≡ f) → AreOpened i old mid
    → AreFactorsHeld (factors_in i (forest old)) h l → AreFewBits h l
    → ((p q : ℕ) → AreFactorsHeld (numbers_in (factors_in i (forest mid))) p q → AreFewBits p q → OfOverflow (λ v. ⊥) f) → IfErr r (OfOverflow (λ v. ⊥))
numbers_fit {i = i} {old = old} r f h l n e o a few k =
    let s = apart (factors_in i (forest old)) o.reduced o.defined a in
    passed_on r f (OfOverflow (λ v. ⊥)) n e (k s.p s.q (subst (λ (us : Trees). AreFactorsHeld (numbers_in us) s.p s.q) (sym o.factors) s.numbers) (omega (arith, s.high, s.low, few)))

pub numbers_room : {A : Type 0} {i : ℕ} {old mid : State} (gs : List ℕ) (r : Result A NumberFault) (f : NumberFault) → IsErrAnd r (λ x. x ≡ f) → AreOpened i old mid → SpansTree gs (tree_of i old)
    → (SpansTrees gs (factors_in i (forest mid)) → LacksBelow (product_need * 2 ^ length gs) (free_of mid) f)
    → IfErr r (LacksBelow (product_step_room (product_count (factors_in i (forest old))) (2 ^ length gs)) (free_of old + size (tree_of i old)))
numbers_room {i = i} {old = old} gs r f e o s k =
    let ts = factors_in i (forest old) in
    let t = spans_factors gs _ ts o.product.tree s in
    passed_lacks r f _ _ e (k (subst (SpansTrees gs) (sym o.factors) (opened_parts (SpansRoot gs) ts t)))
    (λ g l. step_lacks_numbers (product_count ts) (2 ^ length gs) (size (mult ts)) _ (product_bytes gs ts o.reduced t) (omega (arith, o.free, ap size o.product.tree, opened_size ts, l)))

-- ---- the coefficient is taken out

-- it stands beside a product of the other factors
pub record AreParted (i h : ℕ) (old now : State) : Type 0 where
  pub reduced : are_reduced (factors_in i (forest old)) ≡ true
  pub defined : has_undef (factors_in i (forest old)) ≡ false
  pub tree : tree_of i old ≡ mult (factors_in i (forest old))
  pub product : IsProduct i (forest now) (factors_in i (forest now))
  pub factors : factors_in i (forest now) ≡ others_in (opened (factors_in i (forest old)))
  pub others : AreOthers (factors_in i (forest now))
  pub coefficient : IsCoefficient (tree_of h now) (opened (factors_in i (forest old)))
  pub apart : eqb h i ≡ false
  pub rest : without_root i (without_root h (forest now)) ≡ without_root i (forest old)
  pub free : free_of now + size (tree_of h now) + size (mult (factors_in i (forest now))) ≡ free_of old + size (tree_of i old)
  pub front : (new : Forest) → KeepsFront (i ∷ h ∷ []) (forest now) new → KeepsFront (i ∷ []) (forest old) new

pub parted : {i h : ℕ} {old mid now : State} → AreOpened i old mid → Stands now → KeepsRefusals mid now
    → IsTakenOut i (others_in (factors_in i (forest mid))) (forest mid) (forest now) h (tree_of h now)
    → IsCoefficient (tree_of h now) (factors_in i (forest mid)) → KeepsFront (i ∷ []) (forest mid) (forest now) → AreParted i h old now
parted {i = i} {h = h} {old = old} {now = now} o sn k y c f =
    let p = beside_product y.beside y.becomes.product in
    let own : factors_in i (forest now) ≡ others_in (opened (factors_in i (forest old))) = factors_are p ∙ ap others_in o.factors in
    record {
      reduced = o.reduced;
      defined = o.defined;
      tree = o.product.tree;
      product = product_at p refl (sym (factors_are p));
      factors = own;
      others = subst AreOthers (sym own) (others_are (factors_in i (forest old)) o.reduced o.defined);
      coefficient = subst (IsCoefficient (tree_of h now)) o.factors c;
      apart = beside_apart i y.beside y.becomes.product.handed.root;
      rest = ap (without_root i) y.beside.rest ∙ y.becomes.others ∙ o.becomes.others;
      free = omega (arith, o.free, taken_out_free o.stands sn k o.becomes.product y, ap (λ (us : Trees). size (mult us)) (factors_are p));
      front = λ new l. front_after_two behind_first (behind_beside y.beside (front_after_one behind_first o.becomes.front y.becomes.front)) (front_after_one behind_first o.becomes.front f) l;
    }

-- ---- what is made of both is made of the product

pub stop_given : {i h g : ℕ} {old now : State} {new : Forest} → (p : AreParted i h old now)
    → Gives (without_root i (without_root h (forest now))) new g (IsStop (tree_of h now) (factors_in i (forest now)))
    → Gives (without_root i (forest old)) new g (IsFinished (factors_in i (forest old)))
stop_given {i =
    i} {h = h} {old = old} {now = now} p x = gives_as x p.rest (λ t e. stopped (tree_of h now) (factors_in i (forest old)) (factors_in i (forest now)) t p.defined p.coefficient p.factors e)

pub gathered_given : {i h g : ℕ} {old now : State} {new : Forest} → (p : AreParted i h old now)
    → Gives (without_root i (without_root h (forest now))) new g (IsOrdered (tree_of h now) (factors_in i (forest now)))
    → Gives (without_root i (forest old)) new g (IsGathered (factors_in i (forest old)))
gathered_given {i =
    i} {h = h} {old = old} {now = now} p x = gives_as x p.rest (λ t e. gathered (tree_of h now) (factors_in i (forest old)) (factors_in i (forest now)) t p.reduced p.defined p.coefficient p.factors e)

pub spreading_given : {A : Type 0} {i h : ℕ} {old now : State} (r : Result A NumberFault) → AreParted i h old now
    → IfErr r (OfOverflow (SpreadingOverflows (tree_of h now) (factors_in i (forest now))))
    → IfErr r (OfOverflow (IsFactorMisfit (factors_in i (forest old))))
spreading_given {h = h} {now = now} r p x = refused_on r x (λ o m. spreading (tree_of h now) p.coefficient (subst (λ (ts : Trees). SpreadingOverflows (tree_of h now) ts o) p.factors m))

pub spreading_fits : {A : Type 0} {i h : ℕ} {old now : State} (new : State) (r : Result A NumberFault) (k l : ℕ) → AreParted i h old now → AreFactorsHeld (factors_in i (forest old)) k l
    → AreFewBits k l
    → IfErr r (OfOverflow (SpreadingOverflows (tree_of h now) (factors_in i (forest now)))) → IfErr r (IsCaused new) → IfErr r (OfOverflow (λ o. ⊥))
spreading_fits {i = i} {h = h} {old = old} {now = now} new r k l p a few x u =
    no_spreading r new (factors_in i (forest old)) (tree_of h now) k l p.reduced p.defined a few p.coefficient
    (refused_on r x (λ o m. subst (λ (ts : Trees). SpreadingOverflows (tree_of h now) ts o) p.factors m)) u

pub parted_room : {A : Type 0} {i h : ℕ} {old now : State} (gs : List ℕ) (r : Result A NumberFault) → AreParted i h old now → SpansTree gs (tree_of i old)
    → (SpansTree gs (tree_of h now) → SpansTrees gs (factors_in i (forest now))
    → IfErr r (LacksBelow (put_room (counted (mult (factors_in i (forest now)))) (2 ^ length gs) + 56) (free_of now + size (tree_of h now) + size (mult (factors_in i (forest now))))))
    → IfErr r (LacksBelow (product_step_room (product_count (factors_in i (forest old))) (2 ^ length gs)) (free_of old + size (tree_of i old)))
parted_room {i = i} {h = h} {old = old} {now = now} gs r p s k =
    let ts = factors_in i (forest old) in
    let us = others_in (opened ts) in
    let o : SpansTrees gs (opened ts) = opened_parts (SpansRoot gs) ts (spans_factors gs _ ts p.tree s) in
    let room : put_room (counted (mult (factors_in i (forest now)))) (2 ^ length gs) ≡ put_room (counted (mult us)) (2 ^ length gs) = ap (λ (vs : Trees). put_room (counted (mult vs)) (2 ^ length gs)) p.factors in
    result_lacks r _ _ (k (coefficient_spanned gs (opened ts) (tree_of h now) o p.coefficient) (subst (SpansTrees gs) (sym p.factors) (others_parts (SpansRoot gs) (opened ts) o)))
    (λ g l. step_lacks_pair (counted (mult us)) (product_count ts) (2 ^ length gs) _ (pow_pos (length gs)) (others_at_most ts) (omega (arith, p.free, room, l)))

-- ---- rationals

-- a coefficient alone is the answer
pub stop_alone : (c : Tree) (ts : Trees) (t : Tree) → ts ≡ none → IsStop c ts t → t ≡ c
stop_alone c ts t e (at_zero z is) = is
stop_alone c ts t e (at_end z d h) = h.written.is ∙ ap (coefficient_times c) (permuted_none_is (of_lists ts h.written.us h.written.sorted.moved) e)

pub answered : {i h : ℕ} {old now : State} (others : Forest) (v : PlainValue) (new : State) (r : Result Joining NumberFault) → AreParted i h old now
    → are_rationals (factors_in i (forest old)) ≡ true → IsPlainAnswer v (tree_of h now)
    → IfOk r (λ s. IfFinished s (λ g. Gives others (forest new) g (IsStop (tree_of h now) (factors_in i (forest now)))))
    → IfOk r (λ s. IfJoined s (λ g _. Gives others (forest new) g (IsOrdered (tree_of h now) (factors_in i (forest now)))))
    → (factors_in i (forest now) ≡ none → IfErr r (λ f. ⊥)) → AnswersRationalFactors v new r
answered others v new r p q a d j n = grind (arith, stop_alone, none_beside, given_told)

refused_words : (v : PlainValue) (new : State) (e : NumberFault) → AnswersRationals v new (Err e) → AnswersRationalFactors v new (Err e)
refused_words v new e h = grind arith

pub refused : (v : PlainValue) (new : State) (r : Result Joining NumberFault) (e : NumberFault) → IsErrAnd r (λ x. x ≡ e) → AnswersRationals v new (Err e) → AnswersRationalFactors v new r
refused v new r e h k = grind (arith, refused_words)

-- ---- bounds

-- of a reduced tree
pub finished_bounds : {t : Tree} (ts : Trees) → are_reduced ts ≡ true → IsFinished ts t → KeepsProductBounds ts t
finished_bounds {t = t} ts r f =
    by_test (λ (b : Bool). KeepsProductBounds ts t) (has_undef ts)
    (λ u. let e = undef_words t (f.undefined ∙ u) in record {
      counts = omega (arith, ap counted e, counts_one (mult ts));
      powers = subst (HasPowersOf ts) (sym e) tt;
      spanned = λ gs s. subst (SpansTree gs) (sym e) tt;
      held = λ h l d a. absurd (let no : true ≡ false = sym u ∙ d in cc);
    })
    (λ d. let w = f.written d in record {
      counts = finished_counted ts t r d w;
      powers = finished_powers ts t w;
      spanned = λ gs s. spans_finished gs ts t s w;
      held = λ h l d a. finished_held ts t h l r d a w;
    })

-- of factors in order
pub gathered_bounds : {t : Tree} (ts : Trees) → are_reduced ts ≡ true → IsGathered ts t → KeepsFactorBounds ts t
gathered_bounds {t = t} ts r g = record {
  counts = gathered_counted ts t g;
  few_numbers = gathered_few ts t g;
  powers = gathered_powers ts t g;
  spanned = λ gs s. spans_gathered gs ts t s g;
  held = λ h l d a. gathered_held ts t h l r d a g;
}
