-- The Numbers among the terms become one.
use Rattle.sum_reduce.proofs.Shared.{Err, Option, is_some, ℕ, suc, ◌<◌, ◌≤◌, ◌≡◌, ◌++◌, [], ◌∷◌, true, false, refl, sym, ap, ◌∙◌, subst, arith, true≢false, and_parts, add_op, is_number, are_numbers}
use Rattle.sum_reduce.proofs.Shared.{value, NoneIs, permuted_more, number_words, HasFewBits, PlainValue, fold_values, plain_value, Tree, add, Trees, none, more, append, count, is_num, are_rationals}
use Rattle.sum_reduce.proofs.Shared.{number_parts, State, Overflow, addends_of_each, alone, NumberFault, nth, Forest, IsBehind, behind_first, behind_later, behind_new, front_same, front_at, front_put}
use Rattle.sum_reduce.proofs.Shared.{front_without, put-put, num_number, sum_begun, plain_sum, first_of, fold_done, no_numbers, no_rationals, numbers_first, trees_assoc, both_true, front_numbers}
use Rattle.sum_reduce.proofs.Shared.{end_numbers, numbers_are, none_number, removed, IsLead, IsLed, IsNumbered, IsFolded, AnswersFold, HaveFewBits, NamesSum, Overflows, hinders_numbers, IsStage}
use Rattle.sum_reduce.proofs.Shared.{Takes, AreFormed, is_loose, rational_of, rationals_of, IsTotal, AnswersTotal, AreJoined, IsNextOf, IsNextNumber, NoNumberBetween, taken_permuted, none_permuted}
use Rattle.sum_reduce.proofs.{Shared.{behind_none}, Held.{held_equal, few_after, few_of_both}, Opened.{number_tight}, Stages.{formed_permuted, stage_after, stage_permuted, stage_same, stage_added}}
use Rattle.sum_reduce.proofs.Sums.{takes_rest}
use Rattle.std.specs.Prelude.{MatchOption}
use Rattle.tree_handles.specs.Roots.{put}
use Rattle.like_children.specs.Numbers.{numbers_in, others_in}

-- Numbers among the terms were added to another: it is a Number, and none of the terms is
pub record IsGathered (n : Tree) (ts : Trees) (m : Tree) (us : Trees) : Type 0 where
  pub number : is_number m ≡ true
  pub no_number : NoneIs is_number us
  pub no_sum : NoneIs is_loose ts → NoneIs is_loose us
  pub stage : IsStage (more n ts) (more m us)

-- they are added one after another
added : (xs rest : Trees) (d m : Tree) → is_number d ≡ true → are_numbers xs ≡ true → AreFormed (append xs rest) → AreJoined (λ v w. v ++ w) d xs m → IsStage (more d (append xs rest)) (more m rest)
added none rest d m h k f e = subst (λ (t : Tree). IsStage (more d rest) (more t rest)) (sym e) (stage_same (more d rest) (number_parts d (number_words d h), f) (omega arith))
added (more x xs) rest d m h k f j =
    let (a, b) = both_true (is_number x) (are_numbers xs) k in
    let s = j.1 in
    stage_after (stage_added d x j.0 (append xs rest) h a s.number s.worth s.no_larger.parts f.1) (added xs rest j.0 m s.number b f.1 j.2)

-- the Numbers come first
numbers_led : (n : Tree) (ts : Trees) → is_number n ≡ true → AreFormed ts → IsStage (more n ts) (more n (append (numbers_in ts) (others_in ts)))
numbers_led n ts h f = stage_permuted (permuted_more (numbers_first ts)) (number_parts n (number_words n h), f) (omega arith)

pub gathered : (n m : Tree) (ts : Trees) → is_number n ≡ true → AreFormed ts → is_number m ≡ true → AreJoined (λ v w. v ++ w) n (numbers_in ts) m → IsGathered n ts m (others_in ts)
gathered n m ts h f k j = record {
  number = k;
  no_number = none_number ts;
  no_sum = λ s. behind_none is_loose (numbers_in ts) (others_in ts) (none_permuted is_loose (numbers_first ts) s);
  stage = stage_after (numbers_led n ts h f) (added (numbers_in ts) (others_in ts) n m h (numbers_are ts) (formed_permuted (numbers_first ts) f) j);
}

-- one of them, and those before it added
pub record IsNextAdded (n : Tree) (ts : Trees) (d x : Tree) : Type 0 where
  pub rest : Trees
  pub next : is_number x ≡ true
  pub stage : IsStage (more n ts) (more d (more x rest))

pub next_added : (n : Tree) (ts : Trees) → is_number n ≡ true → AreFormed ts → (s : IsNextOf (λ v w. v ++ w) n (numbers_in ts)) → IsNextAdded n ts s.so_far s.next
next_added n ts h f s =
    let os = others_in ts in
    let rest = append s.rest os in
    let whole : append (numbers_in ts) os ≡ append s.first (more s.next rest) = ap (λ (ns : Trees). append ns os) s.is ∙ trees_assoc s.first (more s.next s.rest) os in
    let numbers : are_numbers (append s.first (more s.next s.rest)) ≡ true = ap are_numbers (sym s.is) ∙ numbers_are ts in
    let formed : AreFormed (append s.first (more s.next rest)) = subst AreFormed whole (formed_permuted (numbers_first ts) f) in
    record {
      rest = rest;
      next = (both_true (is_number s.next) (are_numbers s.rest) (end_numbers s.first (more s.next s.rest) numbers)).0;
      stage =
          stage_after (subst (λ (us : Trees). IsStage (more n ts) (more n us)) whole (numbers_led n ts h f))
          (added s.first (more s.next rest) n s.so_far h (front_numbers s.first (more s.next s.rest) numbers) formed s.joined);
    }

pub next_hinders : (n : Tree) (ts : Trees) → is_number n ≡ true → AreFormed ts → (o : Overflow) → (s : IsNextOf (λ v w. v ++ w) n (numbers_in ts)) × NamesSum s.so_far s.next o
    → Overflows (more n ts) o
next_hinders n ts h f o e =
    let s = e.0 in
    let a = next_added n ts h f s in
    record { us = more s.so_far (more s.next a.rest); collects = a.stage.collects; hinders = hinders_numbers s.so_far s.next a.rest s.number a.next e.1 }

pub next_fits : (n : Tree) (ts : Trees) → is_number n ≡ true → AreFormed ts → HaveFewBits (addends_of_each (more n ts)) → (s : IsNextOf (λ v w. v ++ w) n (numbers_in ts))
    → HasFewBits (value s.so_far ++ value s.next)
next_fits n ts h f b s =
    let a = next_added n ts h f s in
    few_of_both (few_after (held_equal (λ i. alone s.so_far s.number i ++ (alone s.next a.next i ++ addends_of_each a.rest))) (few_after a.stage.held b))

pub formed_behind : (at : ℕ) (ts us : Trees) → at < count ts → AreFormed ts → us ≡ removed at ts → AreFormed us
formed_behind at ts us l f q = subst AreFormed (sym q) (formed_permuted (taken_permuted at ts l) f).1

-- ---- the first one is taken out, and their sum comes first

pub numbered : (at : ℕ) (ts us vs ws : Trees) (n m : Tree) → IsNextNumber 0 at ts → AreFormed ts → 1 ≤ count ts → us ≡ removed at ts → n ≡ nth at ts → IsGathered n us m vs → ws ≡ more m vs
    → IsNumbered ts ws
numbered at ts us vs ws n m h f l q e g w =
    let perm = taken_permuted at ts h.within in
    let first : IsStage ts (more n us) = subst (λ (x : Tree). IsStage ts (more x us)) (sym e) (subst (λ (x : Trees). IsStage ts (more (nth at ts) x)) (sym q) (stage_permuted perm f l)) in
    record {
      stage = subst (IsStage ts) (sym w) (stage_after first g.stage);
      led = record { lead = more m none; others = vs; split = w; one = g.number; no_number = g.no_number };
      no_sum = λ s. subst (NoneIs is_loose) (sym w) (number_tight m g.number, g.no_sum (subst (NoneIs is_loose) (sym q) (none_permuted is_loose (taken_permuted at ts h.within) s).1));
    }

pub unnumbered : (ts : Trees) → IsLed ts → AreFormed ts → 1 ≤ count ts → IsNumbered ts ts
unnumbered ts h f l = grind (arith, stage_same)

-- where there is none, or only one, which stands first
pub led_none : (ts : Trees) → NoNumberBetween 0 (count ts) ts → IsLed ts
led_none ts h = record { lead = none; others = ts; split = refl; one = tt; no_number = no_numbers ts h }

pub led_first : (ts : Trees) → IsNextNumber 0 0 ts → NoNumberBetween 1 (count ts) ts → IsLed ts
led_first none h n = absurd (let l = h.within in omega (arith, l))
led_first (more t ts) h n = record { lead = more t none; others = ts; split = refl; one = h.number; no_number = no_numbers ts (λ k f l. n (suc k) (omega arith) (omega arith)) }

pub led_alone : (P : ℕ → Type 0) (ts : Trees) (n : ℕ) (r : Option ℕ) → IsNextNumber 0 n ts → n ≡ 0 → is_some r ≡ false → MatchOption r (NoNumberBetween 1 (count ts) ts) P → IsLed ts
led_alone P ts n r h e s m = grind (arith, led_first)

-- ---- rationals

pub record AreRationals (n : Tree) (us : Trees) (v : PlainValue) : Type 0 where
  pub first : is_num n ≡ true
  pub others : are_rationals us ≡ true
  pub plain : v ≡ fold_values add_op (rational_of n) (rationals_of us)

pub rationals_taken : (at : ℕ) (ts us : Trees) (n : Tree) → IsNextNumber 0 at ts → are_rationals ts ≡ true → us ≡ removed at ts → n ≡ nth at ts → AreRationals n us (plain_value (add ts))
rationals_taken at ts us n h r q e =
    let f = first_of at ts r h in
    record {
      first = ap is_num e ∙ f.rational;
      others = ap are_rationals (q ∙ f.left) ∙ f.rationals;
      plain =
          ap (λ (x : Trees). plain_value (add x)) f.is ∙ plain_sum (nth at ts) f.rest f.rational f.rationals ∙ (λ i. fold_values add_op (rational_of (sym e i)) (rationals_of (sym (q ∙ f.left) i)));
    }

pub total_folded : (v w : PlainValue) (m : Tree) (vs ws : Trees) → v ≡ w → IsTotal w m → vs ≡ none → ws ≡ more m vs → IsFolded v ws
total_folded v w m vs ws e t n q = record { q = t.q; plain = e ∙ t.plain; is = q ∙ (λ i. more (t.is i) (n i)) }

pub led_folded : (ts : Trees) → IsLed ts → are_rationals ts ≡ true → 1 ≤ count ts → IsFolded (plain_value (add ts)) ts
led_folded ts h r l = by h.lead h.others h.split h.one h.no_number
  where
    no_rational : (us : Trees) → NoneIs is_number us → are_rationals us ≡ true → 1 ≤ count us → ⊥
    no_rational none n q m = absurd (omega arith)
    no_rational (more t us) n q m = true≢false (sym (num_number t (and_parts (is_num t) (are_rationals us) q).0) ∙ n.0)

    by : (lead os : Trees) → ts ≡ append lead os → IsLead lead → NoneIs is_number os → IsFolded (plain_value (add ts)) ts
    by none os e o n = absurd (no_rational ts (subst (NoneIs is_number) (sym e) n) r l)
    by (more m none) os e o n =
        let (a, b) = and_parts (is_num m) (are_rationals os) (sym (ap are_rationals e) ∙ r) in
        total_folded _ _ m os ts (ap (λ (x : Trees). plain_value (add x)) e) (fold_done (plain_value (add (more m os))) os m (sum_begun m os a b) n) (no_rationals os n b) e
    by (more m (more u us)) os e o n = absurd o

pub total_faulted : (v w : PlainValue) (new : State) (vs : Trees) (f : NumberFault) → v ≡ w → AnswersTotal w new (Err f) → AnswersFold v vs (Err f)
total_faulted v w new vs f e h = grind arith

-- ---- a tree beside a sum that another one left

pub beside_behind : {i a h : ℕ} {f g k : Forest} → Takes i f g a → Takes i f k h → IsBehind h (i ∷ a ∷ []) g
beside_behind {i = i} {f = f} x t =
    behind_new t.given.ends (front_at (front_put t.kids behind_first (front_without (behind_later behind_first) front_same)) (sym (ap (put i t.kids) (takes_rest x) ∙ put-put i t.kids x.kids f)))
