-- What only a step by itself needs: one pair of factors is joined behind the coefficient, and the product handed back.
use Rattle.product_reduce.proofs.Shared.{◌≡◌, ◌+◌, ◌*◌, ◌^◌, ◌<◌, ◌≤◌, ℕ, List, length, Bool, true, false, not, refl, ap, arith, Err, IfOk, IfErr, IsErrAnd, AllParts, AllPartsOf, AnswersRationalStep}
use Rattle.product_reduce.proofs.Shared.{AnswersRationals, AreJoinable, AreOthers, Forest, Fraction, Gives, IfAgain, IfDone, IsCoefficient, IsJoined, IsPlainAnswer, IsRejoined, IsStop, NoneIs}
use Rattle.product_reduce.proofs.Shared.{NumberFault, PlainValue, SpansRoot, SpansTree, SpansTrees, State, Step, Tree, Trees, add, and_from, are_rationals, coefficient_before, counted, counted_among}
use Rattle.product_reduce.proofs.Shared.{factors_bytes, factors_in, first_partner, forest, given_told, gives_as, has_undef, is_number, joined, joint, keeps, more, mul-le, mult, no_new_name, none}
use Rattle.product_reduce.proofs.Shared.{none_is, num, opened, others_in, power, put_room, size, sizes, tree_of, undef, without_partner, without_root, number_size}
use Rattle.product_reduce.proofs.{Finished.{product_keeps, product_within}, GatheredParts.{before_factors, coefficient_spanned}, Forms.{opened_parts, others_parts}, Joined.{joined_keeps}}
use Rattle.product_reduce.proofs.{NoNewNames.{names_joined}, Parted.{AreParted, stop_alone}, Stepped.{none_beside}}
use Rattle.std.proofs.Common.{Result}

-- ---- the product

pub joined_product : (c : Tree) (ts : Trees) → AreJoinable c ts → IsJoined ts (mult (coefficient_before c (joined (others_in (opened ts)))))
joined_product c ts h =
    let os = others_in (opened ts) in
    record {
      coefficient = c;
      joinable = h;
      is = refl;
      rewrites = record {
        no_new_name = no_new_name (product_within c ts (joined os) h.coefficient.number (names_joined os));
        meanings = keeps (product_keeps c ts (joined os) h.coefficient (joined_keeps os));
      };
    }

pub rejoined : (c : Tree) (ts us : Trees) (new : Tree) → has_undef ts ≡ false → IsCoefficient c (opened ts) → us ≡ others_in (opened ts) → IsRejoined c us new → IsJoined ts new
rejoined c ts us new d k e r = grind (arith, joined_product)

-- ---- its parts

module _ (P : Tree → Type 0)
    (of_num : (q : Fraction) → P (num q))
    (of_undef : P undef)
    (of_add : (ts : Trees) → P (add ts))
    (of_mult : (ts : Trees) → P (mult ts))
    (of_power : (b e : Tree) → P (power b e)) where
  joint_parts : (t u : Tree) → AllParts P t → AllParts P u → AllParts P (joint t u)
  joint_parts t u h k = grind arith

  partner_parts : (t : Tree) (ts : Trees) → AllPartsOf P ts → AllParts P (first_partner t ts) × AllPartsOf P (without_partner t ts)
  partner_parts t none h = (of_undef, tt)
  partner_parts t (more u ts) h = grind (arith, partner_parts t ts h.1)

  factors_joined : (ts : Trees) → AllPartsOf P ts → AllPartsOf P (joined ts)
  factors_joined none h = tt
  factors_joined (more t ts) h = grind (arith, factors_joined ts h.1, partner_parts, joint_parts)

  pub joined_parts : (ts : Trees) (t : Tree) → ((c : Tree) → IsCoefficient c (opened ts) → AllParts P c) → AllPartsOf P ts → IsJoined ts t → AllParts P t
  joined_parts ts t f h j = grind (arith, before_factors, factors_joined, others_parts, opened_parts)

pub spans_joined : (gs : List ℕ) (ts : Trees) (t : Tree) → SpansTrees gs ts → IsJoined ts t → SpansTree gs t
spans_joined gs ts t s j =
    joined_parts (SpansRoot gs) (λ q. tt) tt (λ us. tt) (λ us. tt) (λ b e. tt) ts t (λ c k. coefficient_spanned gs (opened ts) c (opened_parts (SpansRoot gs) ts s) k) s j

-- ---- bytes

-- beside a coefficient and the others a pair is joined
pub pair_lacks : (gs : List ℕ) (c : Tree) (ts : Trees) (free : ℕ) → is_number c ≡ true → SpansTree gs c → AreOthers ts → SpansTrees gs ts → free < 96
    → free + size c + size (mult ts) < put_room (counted (mult ts)) (2 ^ length gs) + 56
pair_lacks gs c ts free n s o k l =
    let m : ℕ = 2 ^ length gs in
    let a : size c + 48 ≤ 96 * m = number_size gs c n s in
    let b : sizes ts ≤ 204 * counted_among ts * m = factors_bytes gs ts o.reduced k (none_as is_number ts o.no_number) in
    let d : counted_among ts * m ≤ counted (mult ts) * m = mul-le (counted_among ts) m (counted (mult ts)) m (omega arith) (omega arith) in
    omega (arith, a, b, d, l)
  where
    none_as : (p : Tree → Bool) (ts : Trees) → NoneIs p ts → none_is p ts ≡ true
    none_as p none h = refl
    none_as p (more t ts) h = and_from (not (p t)) (none_is p ts) (ap not h.0) (none_as p ts h.1)

-- ---- from one answer to another

pub rejoin_given : {i h g : ℕ} {old now : State} {new : Forest} → (p : AreParted i h old now)
    → Gives (without_root i (without_root h (forest now))) new g (IsRejoined (tree_of h now) (factors_in i (forest now)))
    → Gives (without_root i (forest old)) new g (IsJoined (factors_in i (forest old)))
rejoin_given {i = i} {h = h} {old = old} {now = now} p x =
    gives_as x p.rest (λ t e. rejoined (tree_of h now) (factors_in i (forest old)) (factors_in i (forest now)) t p.defined p.coefficient p.factors e)

pub step_answered : {i h : ℕ} {old now : State} (others : Forest) (v : PlainValue) (new : State) (r : Result Step NumberFault) → AreParted i h old now
    → are_rationals (factors_in i (forest old)) ≡ true → IsPlainAnswer v (tree_of h now)
    → IfOk r (λ s. IfDone s (λ g. Gives others (forest new) g (IsStop (tree_of h now) (factors_in i (forest now)))))
    → IfOk r (λ s. IfAgain s (λ g. Gives others (forest new) g (IsRejoined (tree_of h now) (factors_in i (forest now)))))
    → (factors_in i (forest now) ≡ none → IfErr r (λ f. ⊥)) → AnswersRationalStep v new r
step_answered others v new r p q a d j n = grind (arith, stop_alone, none_beside, given_told)

step_refused_words : (v : PlainValue) (new : State) (e : NumberFault) → AnswersRationals v new (Err e) → AnswersRationalStep v new (Err e)
step_refused_words v new e h = grind arith

pub step_refused : (v : PlainValue) (new : State) (r : Result Step NumberFault) (e : NumberFault) → IsErrAnd r (λ x. x ≡ e) → AnswersRationals v new (Err e) → AnswersRationalStep v new r
step_refused v new r e h k = grind (arith, step_refused_words)

pub done_map : {P Q : ℕ → Type 0} (r : Result Step NumberFault) → IfOk r (λ s. IfDone s P) → ((h : ℕ) → P h → Q h) → IfOk r (λ s. IfDone s Q)
done_map r p f = grind arith

pub again_map : {P Q : ℕ → Type 0} (r : Result Step NumberFault) → IfOk r (λ s. IfAgain s P) → ((h : ℕ) → P h → Q h) → IfOk r (λ s. IfAgain s Q)
again_map r p f = grind arith
