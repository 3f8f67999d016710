use Rattle.polynomials.proofs.{Shared.{◌≡◌, List, [], ◌∷◌, ◌++◌, sym, ap, ◌∙◌, subst, arith, append_assoc, take, Term, AreBelow, append-nil, le_refl, passed_on}, MergeLoops.{all_copied, copied_and_rest, none_starts, rest_starts, take_one_more}, Normal.{below_push}}
use Rattle.polynomials.proofs.Causes.{caused_more, copied_full, not_done, not_given}
use Rattle.polynomials.proofs.merging.copy_below.Goals as goal

pub loop-at-preserved : goal.loop-at-preserved
loop-at-preserved c =
    let x = c.index-terms-at.result in
    let old = c.args.list.now.items in
    let pushed : c.push.new.list.items ≡ c.loop-at.list.items ++ x ∷ [] = c.in_ok-push.ensures.ok in
    record {
      items = pushed ∙ ap (λ (l : List Term). l ++ x ∷ []) c.loop-at.invariant.items ∙ append_assoc old (take c.loop-at.at c.args.terms.now) (x ∷ [])
          ∙ ap (λ (l : List Term). old ++ l) (sym (take_one_more c.args.terms.now c.loop-at.at x c.loop-at-test.true c.index-terms-at.is));
      below = subst (λ (l : List Term). AreBelow c.args.limit l) (sym pushed) (below_push c.args.limit c.loop-at.list.items x c.loop-at.invariant.below c.if-limit-term.false);
      room-kept = omega arith;
    }

pub loop-at-init : goal.loop-at-init
loop-at-init c = record { items = sym (append-nil c.args.list.now.items); below = c.requires.below; room-kept = le_refl _ }

pub returns-then-limit-term-clause-copied : goal.returns-then-limit-term-clause-copied
returns-then-limit-term-clause-copied c = copied_and_rest c.loop-at.list.items c.args.list.now.items c.args.terms.now c.loop-at.at c.loop-at.invariant.items

pub returns-then-limit-term-clause-from : goal.returns-then-limit-term-clause-from
returns-then-limit-term-clause-from c = rest_starts c.args.limit c.args.terms.now c.loop-at.at c.index-terms-at.result c.loop-at-test.true c.index-terms-at.is c.if-limit-term.true

pub returns-in_err-push : goal.returns-in_err-push
returns-in_err-push c =
    let r = c.from_residual in
    record {
      copied = not_given r.result _ r.ensures.0;
      below = not_done r.result _ r.ensures.0;
      from = not_given r.result _ r.ensures.0;
      unfit = passed_on r.result c.in_err-push.field-0.0 _ r.ensures.0 r.ensures.1 (caused_more c.in_err-push.field-0.0 (copied_full c.loop-at.invariant c.loop-at-test.true) c.in_err-push.ensures.unfit);
      room = omega arith;
    }

pub returns-clause-copied : goal.returns-clause-copied
returns-clause-copied c = all_copied c.loop-at.list.items c.args.list.now.items c.args.terms.now c.loop-at.at c.loop-at-test.false c.loop-at.invariant.items

pub returns-clause-from : goal.returns-clause-from
returns-clause-from c = none_starts c.args.limit c.args.terms.now
