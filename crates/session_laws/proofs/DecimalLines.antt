-- What the answers to lines that ask for a decimal or a sign mean, and when there is one.
use Rattle.session_laws.proofs.Shared.{◌≡◌, ℕ, ◌^◌, ◌≤◌, ◌<◌, List, length, codes, true, false, Bool, Option, None, ◌⊎◌, inl, inr, refl, sym, ap, ◌∙◌, subst, arith, Reduces, Tree, is_undef, nodes}
use Rattle.session_laws.proofs.Shared.{MayExceed, TripsWithin, IsReduction, IsReplyToExpression, IsNoExpression, Unmade, lacks_bytes, is_answered, IsReplyWith, is_no_expression, is_read, is_made, is_not_made}
use Rattle.session_laws.proofs.Shared.{has_no_value, holds_its_name, is_shown, is_stored, Reply, Reason, report, refused, State, free_bytes, IsCommandLine, ExpressionBecomes, IsReply, no_store, Filling, fills, lacks, too_deep}
use Rattle.session_laws.proofs.{Shared.{one_meaning, number_words, Agree-Same, value}, MeaningLemmas.{nothing_meant}, AskedLines.{commanded_report, commanded_reply}, ExpressionReplies.{RepliesToText, reply_to_text, reply_to_tree}}
use Rattle.std.proofs.Common.{nat_abs, pos}
use Rattle.std.proofs.{lemmas.Bool.{leb-true, ltb-true}, Math.Nat.{pow-le-pow_right}}
use Rattle.std.specs.Prelude.{◌&&◌}
use Rattle.calc_algebra.proofs.{NumberShapes.{AsNumber, AsTerm, as_number, as_term}, NumberValues.{number_means}, ReducedLaws.{undef_words}}
use Rattle.calc_algebra.specs.{Numbers.{AreTerms, is_number, term_of, terms_of}, Surds.{Term}}
use Rattle.calc_commands.specs.Commands.{decimals, sign}
use Rattle.calc_session.proofs.CalculatingLemmas.{places_within}
use Rattle.calc_session.specs.Arguments.{is_misread, forms_a_store, meets_no_token, meets_a_wide_number, forms_no_line, forms_a_deep_line}
use Rattle.calc_session.specs.Estimating.{IsReducedTo, IsReplyOnNumber, IsReplyToDecimal, LeavesDecimalOpen, is_not_reduced, is_no_number, is_open}
use Rattle.calc_session.specs.Estimating as estimating
use Rattle.calc_session.specs.Evaluations.{IsFitting, HasFittingRationals, is_interrupted, does_not_fit}
use Rattle.calc_session.specs.Replies.{no_decimal, undecided}
use Rattle.calc_terms.specs.{Fits.{fits, fraction_fits}, Fractions.{lowest, one_fraction, whole_fraction}, Gcd.{gcd}, Trees.{AllPartsOf, Trees, none, more, num, root, mult, add}}
use Rattle.calc_terms.proofs.FractionFacts.{whole_numerator}
use Rattle.decimals.proofs.DigitRuns.{power_positive}
use Rattle.enclosures.proofs.OneRootNumbers.{one_root}
use Rattle.enclosures.specs.Rounding.{AreNarrow, count_roots}
use Rattle.breakers.specs.State.{State as Breaker}
use Rattle.session_laws.specs.DecimalsMeant.{HasNumber, HasNoValue, TellsDecimalOf, TellsSignOf, tells_decimal, tells_no_sign, tells_none, tells_sign}

told_is : (a b : List ℕ) → report a ≡ report b → b ≡ a
told_is a b e = cc

-- ---- the Number of a tree

module _ {old : State} {behind : List ℕ} {free : ℕ} {t number : Tree} {before after : List Breaker} (b : ExpressionBecomes old behind t) (r : IsReducedTo free t number before after) where
  has_number : is_number number ≡ true → HasNumber old behind number
  has_number n = record {
    tree = t;
    becomes = b;
    is_number = n;
    means = λ f a v m. Agree-Same (one_meaning f a number v (value number) (r.answers.reduces.meanings.means f a v m) (number_means number f (number_words number n)));
  }

  means_none : is_undef number ≡ true → HasNoValue old behind
  means_none u = record { tree = t; becomes = b; none = nothing_meant t (subst (Reduces t) (undef_words number u) r.answers.reduces) }

-- what is told of it
record TellsNumber (Told : Tree → List ℕ → Type 0) (old : State) (behind told : List ℕ) : Type 0 where
  number : Tree
  has : HasNumber old behind number
  tells : Told number told

module _ (Told : Tree → List ℕ → Type 0) (Open : Tree → Type 0) (room bits : Option (Tree → ℕ)) (free : ℕ) (before after : List Breaker) (old : State) (behind : List ℕ) {t : Tree} (b : ExpressionBecomes old behind t) where
  told_number : (reply : Reply) (told : List ℕ) → IsReplyOnNumber Told Open room bits free before after t reply → reply ≡ report told → TellsNumber Told old behind told ⊎ (HasNoValue old behind × (told ≡ codes "undef"))
  told_number reply told (is_not_reduced h) e = absurd cc
  told_number reply told (estimating.has_no_value r u) e = inr (means_none b r u, told_is (codes "undef") told e)
  told_number reply told (is_no_number r d n) e = absurd cc
  told_number reply told (estimating.is_told {answer = answer} {text = text} r n k) e = inl (record { number = answer; has = has_number b r n; tells = subst (Told answer) (sym (told_is text told e)) k })
  told_number reply told (is_open r n o) e = absurd cc

-- ---- numbers below 2^127

both : (a b : Bool) → (a && b) ≡ true → (a ≡ true) × (b ≡ true)
both true b h = (refl, h)
both false b h = absurd cc

whole_narrow : (n : ℕ) → fraction_fits (whole_fraction (pos n)) ≡ true → n < 2 ^ 127
whole_narrow n h =
    let a = (both (fits (whole_fraction (pos n)).num) (fits (pos (whole_fraction (pos n)).den)) h).0 in
    let l = ltb-true (nat_abs (whole_fraction (pos n)).num) (2 ^ 127) a in
    let e : nat_abs (whole_fraction (pos n)).num ≡ n = ap nat_abs (whole_numerator (pos n)) in
    omega (arith, l, e)

one_fits : fraction_fits one_fraction ≡ true
unfolding one_fraction lowest gcd
one_fits = refl

term_narrow : (t : Tree) → AsTerm t → HasFittingRationals t → (fraction_fits (term_of t).coefficient ≡ true) × ((term_of t).radicand < 2 ^ 127)
term_narrow t (inl a) h =
    let k : fraction_fits a.q ≡ true = subst HasFittingRationals a.is h in
    (ap (λ (u : Term). fraction_fits u.coefficient) a.term_is ∙ k, subst (λ (u : Term). u.radicand < 2 ^ 127) (sym a.term_is) (ltb-true 1 (2 ^ 127) refl))
term_narrow t (inr (inl a)) h =
    let k : HasFittingRationals (root (num (whole_fraction (pos a.n)))) = subst HasFittingRationals a.is h in
    (ap (λ (u : Term). fraction_fits u.coefficient) a.term_is ∙ one_fits, subst (λ (u : Term). u.radicand < 2 ^ 127) (sym a.term_is) (whole_narrow a.n k.1))
term_narrow t (inr (inr a)) h =
    let k : HasFittingRationals (mult (more (num a.q) (more (root (num (whole_fraction (pos a.n)))) none))) = subst HasFittingRationals a.is h in
    (ap (λ (u : Term). fraction_fits u.coefficient) a.term_is ∙ k.1.0, subst (λ (u : Term). u.radicand < 2 ^ 127) (sym a.term_is) (whole_narrow a.n k.1.1.0.1))

terms_narrow : (ts : Trees) → AreTerms ts → AllPartsOf IsFitting ts → AreNarrow (terms_of ts)
terms_narrow none h k = tt
terms_narrow (more t ts) (h, hs) (k, ks) = let (a, b) = term_narrow t (as_term t h) k in (a, b, terms_narrow ts hs ks)

number_narrow : (t : Tree) → AsNumber t → HasFittingRationals t → AreNarrow (value t)
number_narrow t (inl a) h = subst AreNarrow (sym a.value_is) tt
number_narrow t (inr (inl a)) h = let (p, q) = term_narrow t (as_term t a.one) h in subst AreNarrow (sym a.value_is) (p, q, tt)
number_narrow t (inr (inr a)) h = let k : HasFittingRationals (add a.ts) = subst HasFittingRationals a.is h in subst AreNarrow (sym a.value_is) (terms_narrow a.ts a.are k.1)

-- ---- what is left open

ten_small : (n : ℕ) → n ≤ 38 → 10 ^ n ≤ 2 ^ 127
ten_small n l =
    let h : 10 ^ n ≤ 10 ^ 38 = pow-le-pow_right (omega arith) l in
    let k : 10 ^ 38 ≤ 2 ^ 127 = leb-true _ _ refl in
    omega (arith, h, k)

two_or_one : (n : ℕ) → (2 ≤ n) ⊎ (n ≤ 1)
two_or_one n = grind arith

two_roots : (places : ℕ) (number : Tree) → places ≤ 38 → is_number number ≡ true → HasFittingRationals number → LeavesDecimalOpen places number → 2 ≤ count_roots (value number)
two_roots places number few n h o = by (two_or_one (count_roots (value number)))
  where
    by : (2 ≤ count_roots (value number)) ⊎ (count_roots (value number) ≤ 1) → 2 ≤ count_roots (value number)
    by (inl l) = l
    by (inr l) = absurd (one_root number (10 ^ places) n o.irrational l (number_narrow number (as_number number (number_words number n)) h) (power_positive places) (ten_small places few) o.close)

-- ---- refusals that are no other

reasons_are : (a b : Reason) → refused a ≡ refused b → a ≡ b
reasons_are a b e = cc

not_read : (place : ℕ) (text : List ℕ) (reason : Reason) → IsNoExpression place text reason → reason ≡ undecided → ⊥
not_read place text reason (is_misread (meets_no_token h)) e = absurd cc
not_read place text reason (is_misread (meets_a_wide_number h)) e = absurd cc
not_read place text reason (is_misread (forms_no_line h k)) e = absurd cc
not_read place text reason (is_misread (forms_a_deep_line h k)) e = absurd cc
not_read place text reason (forms_a_store h) e = absurd cc

not_made : (making : Filling) (reason : Reason) → Unmade making reason → reason ≡ undecided → ⊥
not_made (lacks r) reason u e = absurd cc
not_made too_deep reason u e = absurd cc
not_made (fills left t) reason u e = u

module _ {old : State} {before after : List Breaker} {place : ℕ} {text : List ℕ} {Is : ℕ → Tree → Reply → Type 0} where
  undecided_text : (reply : Reply) → IsReplyToExpression old before after place text Is reply → reply ≡ refused undecided → RepliesToText old text Is reply
  undecided_text reply (is_no_expression {reason = reason} h same) e = absurd (not_read place text reason h (reasons_are reason undecided e))
  undecided_text reply (is_read {tokens = tokens} {t = t} reads (is_not_made {reason = reason} u same)) e = absurd (not_made _ reason u (reasons_are reason undecided e))
  undecided_text reply (is_read {tokens = tokens} {t = t} reads (is_made {left = left} {t = u} m h)) e =
      record { tree = u; becomes = record { tokens = tokens; tree = t; reads = reads; left = left; is_made = m }; reply_is = h }

module _ (room bits : Option (Tree → ℕ)) (free : ℕ) (before after : List Breaker) (t : Tree) where
  no_reply_with : (answer : Tree) (store : Option (List ℕ)) (reply : Reply) → IsReplyWith answer store reply → reply ≡ refused undecided → ⊥
  no_reply_with answer store reply (has_no_value d) e = absurd cc
  no_reply_with answer store reply (holds_its_name d m) e = absurd cc
  no_reply_with answer store reply (is_shown d) e = absurd cc
  no_reply_with answer store reply (is_stored d m) e = absurd cc

  no_reduction : (store : Option (List ℕ)) (reply : Reply) → IsReduction room bits free t before after store reply → reply ≡ refused undecided → ⊥
  no_reduction store reply (is_interrupted h) e = absurd cc
  no_reduction store reply (does_not_fit o h) e = absurd cc
  no_reduction store reply (lacks_bytes h) e = absurd cc
  no_reduction store reply (is_answered {answer = r} c a w) e = no_reply_with r store reply w e

  module _ (places : ℕ) (few : places ≤ 38) {old : State} {behind : List ℕ} (b : ExpressionBecomes old behind t) where
    undecided_number : (left : ℕ) (reply : Reply) → IsReplyToDecimal room bits places free before after left t reply → reply ≡ refused undecided → (number : Tree) × HasNumber old behind number × (2 ≤ count_roots (value number))
    undecided_number left reply (is_not_reduced {reason = reason} h) e = absurd (no_reduction None (refused reason) h e)
    undecided_number left reply (estimating.has_no_value r u) e = absurd cc
    undecided_number left reply (is_no_number r d n) e = absurd cc
    undecided_number left reply (estimating.is_told r n k) e = absurd cc
    undecided_number left reply (is_open {answer = number} r n o) e = (number, has_number b r n, two_roots places number few n r.answers.fitting o)

-- ---- lines

module _ (room bits : Option (Tree → ℕ)) (old : State) (before checked : List Breaker) (line behind : List ℕ) where
  pub tells_sign_of : IsCommandLine line (sign behind) → (told : List ℕ) → IsReply room bits old before checked line (report told) → TellsSignOf old behind told
  tells_sign_of asked told h =
      let read = reply_to_text (commanded_report room bits old before checked line (sign behind) refl asked told h) in
      by (told_number estimating.TellsSign estimating.LeavesSignOpen room bits (free_bytes old) before checked old behind read.becomes (report told) told read.reply_is refl)
    where
      by : TellsNumber estimating.TellsSign old behind told ⊎ (HasNoValue old behind × (told ≡ codes "undef")) → TellsSignOf old behind told
      by (inl n) = tells_sign n.tells.side n.has n.tells.side_is n.tells.text_is
      by (inr (n, e)) = tells_no_sign n e

  module _ (places : ℕ) (asked : IsCommandLine line (decimals places behind)) where
    pub tells_decimal_of : (told : List ℕ) → IsReply room bits old before checked line (report told) → TellsDecimalOf old behind places told
    tells_decimal_of told h =
        let read = reply_to_text (commanded_report room bits old before checked line (decimals places behind) refl asked told h) in
        by (told_number (estimating.TellsDecimal places) (LeavesDecimalOpen places) room bits (free_bytes old) before checked old behind read.becomes (report told) told read.reply_is refl)
      where
        by : TellsNumber (estimating.TellsDecimal places) old behind told ⊎ (HasNoValue old behind × (told ≡ codes "undef")) → TellsDecimalOf old behind places told
        by (inl n) = tells_decimal n.tells.decimal n.has n.tells.decimal_is n.tells.text_is
        by (inr (n, e)) = tells_none n e

    pub has_two_roots : length line ≤ 1024 → IsReply room bits old before checked line (refused undecided) → (number : Tree) × HasNumber old behind number × (2 ≤ count_roots (value number))
    has_two_roots short h =
        let read = undecided_text (refused undecided) (commanded_reply room bits old before checked line (decimals places behind) refl asked short (refused undecided) h) refl in
        undecided_number room bits (free_bytes old) before checked read.tree places (places_within asked) read.becomes read.becomes.left (refused undecided) read.reply_is refl

    -- where nothing is lacking
    module _ {t : Tree} (b : ExpressionBecomes old behind t) (roomy : ¬ (MayExceed room t (free_bytes old))) (narrow : ¬ (MayExceed bits t 124)) (calm : (place : ℕ) → ¬ (TripsWithin (nodes t) before checked place)) where
      never_with : (answer : Tree) (store : Option (List ℕ)) (reason : Reason) (reply : Reply) → store ≡ None → IsReplyWith answer store reply → reply ≡ refused reason → ⊥
      never_with answer store reason reply s (has_no_value d) e = absurd cc
      never_with answer store reason reply s (holds_its_name {x = y} d m) e = no_store y (sym s)
      never_with answer store reason reply s (is_shown d) e = absurd cc
      never_with answer store reason reply s (is_stored d m) e = absurd cc

      never_refused : (store : Option (List ℕ)) (reason : Reason) (reply : Reply) → store ≡ None → IsReduction room bits (free_bytes old) t before checked store reply → reply ≡ refused reason → ⊥
      never_refused store reason reply s (is_interrupted {by = by} h) e = calm by h
      never_refused store reason reply s (does_not_fit o h) e = narrow h.beyond_bits
      never_refused store reason reply s (lacks_bytes h) e = roomy h.beyond_room
      never_refused store reason reply s (is_answered {answer = r} c a w) e = never_with r store reason reply s w e

      from_tree : (reply : Reply) → IsReplyToDecimal room bits places (free_bytes old) before checked b.left t reply → ((told : List ℕ) × (reply ≡ report told)) ⊎ (reply ≡ refused no_decimal) ⊎ (reply ≡ refused undecided)
      from_tree reply (is_not_reduced {reason = reason} h) = absurd (never_refused None reason (refused reason) refl h refl)
      from_tree reply (estimating.has_no_value r u) = inl (codes "undef", refl)
      from_tree reply (is_no_number r d n) = inr (inl refl)
      from_tree reply (estimating.is_told {text = text} r n k) = inl (text, refl)
      from_tree reply (is_open r n o) = inr (inr refl)

      pub decimal_told : length line ≤ 1024 → (reply : Reply) → IsReply room bits old before checked line reply → ((told : List ℕ) × (reply ≡ report told)) ⊎ (reply ≡ refused no_decimal) ⊎ (reply ≡ refused undecided)
      decimal_told short reply h = from_tree reply (reply_to_tree b reply (commanded_reply room bits old before checked line (decimals places behind) refl asked short reply h))
