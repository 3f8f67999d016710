use Rattle.radical_forms.proofs.Shared.{rules, ◌≡◌, pos, ◌<ℤ◌, ◌≤◌, ◌+◌, true, refl, sym, ap, ◌∙◌, arith, to_z, of_z, w128, whole_fraction, int_is_negative, value_of, num, root_size, size, num_most}
use Rattle.radical_forms.proofs.Shared.{free_of, ratio_parts, told, whole_value, behind_first, front_same, front_at, front_without, front_after, gives_as, given_told, owned, released_free, least_size}
use Rattle.radical_forms.proofs.{Shared.{passed_on, tree_of, OfFull, term_tree, Overflow, LacksRoot, NamesProduct}, RootLaws.{zero_answer, positive_answer, negative_answer, not_above_zero}}
use Rattle.radical_forms.proofs.RootLaws.{not_above_negative, answer_as, root_as, wide_as, positive_num, negative_num, not_negative_num, not_overflow, is_overflow, named_overflow, term_tree_is}
use Rattle.radical_forms.proofs.{RootLaws.{term_lacks}, RootBits.{term_measured, zero_measured}, roots.root_of_rational.Goals.{Then-num-lt0, Then-num-eq0, Else-num-eq0}}
use Rattle.std.proofs.lemmas.Bool.{false≢true}
use Rattle.surd_terms.specs.Terms.{term_of}
use Rattle.tree_handles.specs.declared.fault.NumberFault.TheVariants as fault
use Rattle.radical_forms.proofs.roots.root_of_rational.Goals as goal

negative : (c : Then-num-lt0) → int_is_negative (value_of c.args.q).num ≡ true
negative c = negative_num _ _ c.if-num-lt0.true (ap (λ z. to_z w128 (of_z w128 z)) c.num.ensures.value ∙ told c.args.q.num c.args.q.fits ∙ sym (ratio_parts c.args.q).num)

zero_num : (c : Then-num-eq0) → (value_of c.args.q).num ≡ pos 0
zero_num c = (ratio_parts c.args.q).num ∙ sym (told c.args.q.num c.args.q.fits) ∙ ap (to_z w128) (ap (of_z w128) (sym c.num-2.ensures.value) ∙ c.if-num-eq0.true)

above : (c : Else-num-eq0) → pos 0 <ℤ (value_of c.args.q).num
above c = positive_num _
    (not_negative_num _ _ c.if-num-lt0.false (ap (λ z. to_z w128 (of_z w128 z)) c.num.ensures.value ∙ told c.args.q.num c.args.q.fits ∙ sym (ratio_parts c.args.q).num))
    (λ e. c.if-num-eq0.false (ap (of_z w128) (c.num-2.ensures.value ∙ sym (ratio_parts c.args.q).num ∙ e)))

pub returns-then-num-lt0-clause-ok : goal.returns-then-num-lt0-clause-ok
returns-then-num-lt0-clause-ok c =
    gives_as c.undefined.ensures.gives refl (λ t e. answer_as refl e (negative_answer (value_of c.args.q) (negative (goal.at.returns-then-num-lt0-clause-ok c).Then-num-lt0)))

pub returns-then-num-lt0-clause-overflows : goal.returns-then-num-lt0-clause-overflows
returns-then-num-lt0-clause-overflows c = (λ x. absurd x, λ w. not_above_negative _ (negative (goal.at.returns-then-num-lt0-clause-overflows c).Then-num-lt0) w.0)

pub returns-in_err-zero-clause-overflows : goal.returns-in_err-zero-clause-overflows
returns-in_err-zero-clause-overflows c =
    (λ x. absurd (not_overflow _ _ c.from_residual.ensures.1 x), λ w. absurd (not_above_zero _ (zero_num (goal.at.returns-in_err-zero-clause-overflows c).Then-num-eq0) w.0))

pub returns-in_err-zero-clause-full_below_96_bytes : goal.returns-in_err-zero-clause-full_below_96_bytes
returns-in_err-zero-clause-full_below_96_bytes c = λ full.
    let free = released_free c.requires.stands c.release.ensures.stands c.release.ensures.kept c.requires.handed (c.release.ensures.owned (owned c.requires.handed)) in
    let lacking : root_size (num (value_of c.args.q)) ≤ free_of c.release.new.pool → ⊥ = λ le. absurd (false≢true (c.in_err-zero.ensures.exactly.1 le)) in
    omega (arith, free, lacking, num_most (value_of c.args.q))

pub returns-in_err-zero-clause-front : goal.returns-in_err-zero-clause-front
returns-in_err-zero-clause-front c = front_after (front_at (front_without behind_first front_same) (c.release.ensures.owned (owned c.requires.handed))) c.number.ensures.front

pub returns-then-num-eq0-clause-ok : goal.returns-then-num-eq0-clause-ok
returns-then-num-eq0-clause-ok c =
    gives_as c.in_ok-zero.ensures.given (c.release.ensures.owned (owned c.requires.handed))
    (λ t e. answer_as refl e (zero_answer (value_of c.args.q) (zero_num (goal.at.returns-then-num-eq0-clause-ok c).Then-num-eq0)))

pub returns-then-num-eq0-clause-overflows : goal.returns-then-num-eq0-clause-overflows
returns-then-num-eq0-clause-overflows c = (λ x. absurd x, λ w. not_above_zero _ (zero_num (goal.at.returns-then-num-eq0-clause-overflows c).Then-num-eq0) w.0)

pub returns-then-num-eq0-clause-front : goal.returns-then-num-eq0-clause-front
returns-then-num-eq0-clause-front c = front_after (front_at (front_without behind_first front_same) (c.release.ensures.owned (owned c.requires.handed))) c.number.ensures.front

pub returns-in_err-term-clause-overflows : goal.returns-in_err-term-clause-overflows
returns-in_err-term-clause-overflows c =
    let p = ratio_parts c.args.q in (
      λ x. (above (goal.at.returns-in_err-term-clause-overflows c).Else-num-eq0, wide_as _ _ _ _ (sym p.num) (sym p.den) (c.in_err-term.ensures.refused.0 refl)),
      λ w. is_overflow _ _ c.from_residual-in_err-term.ensures.1,
    )

pub returns-in_err-term-clause-named : goal.returns-in_err-term-clause-named
returns-in_err-term-clause-named c =
    let p = ratio_parts c.args.q in
    let o : Overflow = c.in_err-term.field-0.0 in
    named_overflow _ _ (NamesProduct (num (value_of c.args.q))) c.from_residual-in_err-term.ensures.1 (
      c.in_err-term.ensures.operation,
      whole_value o.a _ c.in_err-term.ensures.first ∙ ap (λ z. whole_fraction z) (sym p.num),
      whole_value o.b _ c.in_err-term.ensures.second ∙ ap (λ n. whole_fraction (pos n)) (sym p.den),
    )

pub returns-in_err-value-clause-overflows : goal.returns-in_err-value-clause-overflows
returns-in_err-value-clause-overflows c =
    let p = ratio_parts c.args.q in
    (λ x. absurd (not_overflow _ _ c.from_residual-in_err-value.ensures.1 x), λ w. absurd (false≢true (c.in_ok-term.ensures.refused.1 (wide_as _ _ _ _ p.num p.den w.1))))

pub returns-in_err-value-clause-full_below_96_bytes : goal.returns-in_err-value-clause-full_below_96_bytes
returns-in_err-value-clause-full_below_96_bytes c = λ full.
    let free = released_free c.requires.stands c.release-2.ensures.stands c.release-2.ensures.kept c.requires.handed (c.release-2.ensures.owned (owned c.requires.handed)) in
    let lacking : 96 ≤ free_of c.release-2.new.pool → ⊥ = λ le. absurd (false≢true (c.in_err-value.ensures.room le)) in
    omega (arith, free, lacking)

pub returns-in_err-value-clause-front : goal.returns-in_err-value-clause-front
returns-in_err-value-clause-front c = front_after (front_at (front_without behind_first front_same) (c.release-2.ensures.owned (owned c.requires.handed))) c.place_term.ensures.front

pub returns : goal.returns
returns c =
    let p = ratio_parts c.args.q in
    let positive = above (goal.at.returns c).Else-num-eq0 in
    let gone = c.release-2.ensures.owned (owned c.requires.handed) in
    let told = given_told c.in_ok-value.ensures.ok in
    let least : size (term_tree (term_of c.in_ok-term.term)) ≤ free_of c.release-2.new.pool = c.in_ok-value.ensures.exactly.0 refl in
    record {
      ok = gives_as c.in_ok-value.ensures.ok gone
          (λ t e. positive_answer (value_of c.args.q) t (term_of c.in_ok-term.term) positive e (root_as _ _ _ _ _ (sym p.num) (sym p.den) c.in_ok-term.ensures.root));
      overflows = (λ x. absurd x, λ w. absurd (false≢true (c.in_ok-term.ensures.refused.1 (wide_as _ _ _ _ p.num p.den w.1))));
      named = tt;
      measured = λ h. term_measured (value_of c.args.q) _ (term_of c.in_ok-term.term) _ positive (λ i. record { num = sym p.num i; den = sym p.den i }) c.in_ok-term.ensures.extracted told.0 told.1;
      room = omega (arith, released_free c.requires.stands c.release-2.ensures.stands c.release-2.ensures.kept c.requires.handed gone, least, ap size c.in_ok-value.ensures.tree);
      first_lack = tt;
      full_below_96_bytes = λ x. absurd x;
      front = front_after (front_at (front_without behind_first front_same) gone) c.place_term.ensures.front;
      kept = search rules;
      faults = tt;
      caused = tt;
      stands = search rules;
    }

-- ---- bytes

pub returns-then-num-lt0-clause-room : goal.returns-then-num-lt0-clause-room
returns-then-num-lt0-clause-room c = omega (arith, ap size (given_told c.undefined.ensures.gives), least_size (tree_of c.args.root c.args.pool.now))

pub returns-then-num-eq0-clause-room : goal.returns-then-num-eq0-clause-room
returns-then-num-eq0-clause-room c =
    let free = released_free c.requires.stands c.release.ensures.stands c.release.ensures.kept c.requires.handed (c.release.ensures.owned (owned c.requires.handed)) in
    let least : root_size (num (value_of c.args.q)) ≤ free_of c.release.new.pool = c.in_ok-zero.ensures.exactly.0 refl in
    omega (arith, free, least, ap size (given_told c.in_ok-zero.ensures.given))

-- the root of 0 has more bytes than 0
pub returns-in_err-zero-clause-first_lack : goal.returns-in_err-zero-clause-first_lack
returns-in_err-zero-clause-first_lack c =
    let free = released_free c.requires.stands c.release.ensures.stands c.release.ensures.kept c.requires.handed (c.release.ensures.owned (owned c.requires.handed)) in
    let enough : root_size (num (value_of c.args.q)) ≤ free_of c.release.new.pool = omega (arith, free, ap size c.requires.root) in
    absurd (false≢true (c.in_err-zero.ensures.exactly.1 enough))

pub returns-in_err-term-clause-first_lack : goal.returns-in_err-term-clause-first_lack
returns-in_err-term-clause-first_lack c =
    passed_on c.from_residual-in_err-term.result (fault.Overflow c.in_err-term.field-0.0) (OfFull (LacksRoot (num (value_of c.args.q)) (free_of c.args.pool.now + size (tree_of c.args.root c.args.pool.now))))
    c.from_residual-in_err-term.ensures.0 c.from_residual-in_err-term.ensures.1 tt

pub returns-in_err-value-clause-first_lack : goal.returns-in_err-value-clause-first_lack
returns-in_err-value-clause-first_lack c =
    let p = ratio_parts c.args.q in
    let t = c.in_ok-term.term in
    let free = released_free c.requires.stands c.release-2.ensures.stands c.release-2.ensures.kept c.requires.handed (c.release-2.ensures.owned (owned c.requires.handed)) in
    passed_on c.from_residual-in_err-value.result (fault.Full c.in_err-value.field-0.0) (OfFull (LacksRoot (num (value_of c.args.q)) (free_of c.args.pool.now + size (tree_of c.args.root c.args.pool.now))))
    c.from_residual-in_err-value.ensures.0 c.from_residual-in_err-value.ensures.1
    (term_lacks (value_of c.args.q) (term_of t) (free_of c.release-2.new.pool) _ c.in_err-value.field-0.0 (above (goal.at.returns-in_err-value-clause-first_lack c).Else-num-eq0) (root_as _ _ _ _ _ (sym p.num) (sym p.den) c.in_ok-term.ensures.root)
    (term_tree_is (term_of t) t.not_zero t.positive t.clean) free c.in_err-value.ensures.first_lack)

-- ---- how large it is

pub returns-then-num-lt0-clause-measured : goal.returns-then-num-lt0-clause-measured
returns-then-num-lt0-clause-measured c = λ h. absurd (false≢true (sym h ∙ negative (goal.at.returns-then-num-lt0-clause-measured c).Then-num-lt0))

pub returns-then-num-eq0-clause-measured : goal.returns-then-num-eq0-clause-measured
returns-then-num-eq0-clause-measured c = λ h. zero_measured (value_of c.args.q) _ (given_told c.in_ok-zero.ensures.given) (zero_num (goal.at.returns-then-num-eq0-clause-measured c).Then-num-eq0)
