use Rattle.like_children.proofs.{Shared.{ap, ◌∙◌, sym, arith, add-one, is_number, is_reduced, children_of, tree_of, rules}, Items.{children_count, children_told, next_child, last_child}}
use Rattle.like_children.proofs.Folds.{no_number_more}
use Rattle.like_children.proofs.numbers.next_number.Goals as goal

pub child_ids-ids-requires-clause-within : goal.child_ids-ids-requires-clause-within
child_ids-ids-requires-clause-within c = rw c.id.ensures (omega (arith, children_count c.requires.stands c.requires.handed, c.requires.within))

pub loop-at-init : goal.loop-at-init
loop-at-init c = record {
  behind = omega arith;
  ids = rw (← c.id.ensures) c.child_ids-ids.ensures;
  none = λ k f l. absurd (omega (arith, f, l));
}

pub returns-in_err-next : goal.returns-in_err-next
returns-in_err-next c =
    rw c.from_residual.ensures (λ k f l. c.loop-at.invariant.none k f (omega (arith, last_child c.requires.stands c.requires.handed c.loop-at.invariant.ids c.in_err-next.ensures.steps.0, l)))

pub is_reduced_number-requires : goal.is_reduced_number-requires
is_reduced_number-requires c =
    let t = next_child c.requires.stands c.requires.handed c.loop-at.invariant.ids c.in_ok-next.ensures.steps in
    record { stands = search rules; expression = t.expression; reduced = ap is_reduced t.tree ∙ c.requires.reduced c.loop-at.at t.within }

pub returns-then-is_reduced_number : goal.returns-then-is_reduced_number
returns-then-is_reduced_number c =
    let t = next_child c.requires.stands c.requires.handed c.loop-at.invariant.ids c.in_ok-next.ensures.steps in
    record {
      behind = c.loop-at.invariant.behind;
      within = t.within;
      number = ap is_number (sym t.tree) ∙ sym c.is_reduced_number.ensures ∙ c.if-is_reduced_number.true;
      before = c.loop-at.invariant.none;
    }

pub loop-at-preserved : goal.loop-at-preserved
loop-at-preserved c =
    let i = c.loop-at.invariant in
    let t = next_child c.requires.stands c.requires.handed i.ids c.in_ok-next.ensures.steps in
    record {
      behind = omega (arith, i.behind);
      ids = rw add-one t.left-are;
      none = no_number_more c.args.from c.loop-at.at (children_of (tree_of c.args.parent.now c.args.pool.now)) i.none (ap is_number (sym t.tree) ∙ sym c.is_reduced_number.ensures ∙ c.if-is_reduced_number.false);
    }

pub returns : goal.returns
returns c = λ k f l. c.loop-at.invariant.none k f (omega (arith, c.loop-at-test.false, l, children_told c.requires.stands c.requires.handed c.id-2.ensures c.children-at-end.ensures.value))
