use Rattle.like_children.proofs.{Shared.{sym, subst, arith, add-one, Tree, Opens, children_of, tree_of, rules}, Items.{next_child, last_child}, Openings.{last_still, last_here}}
use Rattle.like_children.proofs.opening.last_to_open.Goals.{then-opens, else-opens}
use Rattle.like_children.proofs.opening.last_to_open.Goals as goal

pub returns-in_err-next : goal.returns-in_err-next
returns-in_err-next g c = absurd (omega (arith, last_child c.requires.stands c.requires.handed c.loop-at.invariant.ids c.in_err-next.ensures.steps.0, c.loop-at-test.true, c.requires.within))

pub opens-requires : goal.opens-requires
opens-requires g c =
    let t = next_child c.requires.stands c.requires.handed c.loop-at.invariant.ids c.in_ok-next.ensures.steps in
    record { stands = search rules; tree = t.expression; told = subst g.O.Opens.can_tell (sym t.tree) (c.requires.told c.loop-at.at c.loop-at-test.true) }

pub loop-at-preserved : goal.loop-at-preserved
loop-at-preserved g c =
    let t = next_child c.requires.stands c.requires.handed c.loop-at.invariant.ids c.in_ok-next.ensures.steps in
    let n = c.loop-at.at in
    let ts = children_of (tree_of c.args.parent.now c.args.pool.now) in
    let parts = g.O.Opens.parts in
    let told = subst (λ (u : Tree). Opens parts u c.opens.result) t.tree c.opens.ensures in
    record {
      ids = rw add-one t.left-are;
      last = elim c.if-opens.branch [
        | then-opens w ↦ rw w.last-is (last_here parts n ts (subst (Opens parts _) w.if-opens.true told))
        | else-opens w ↦ rw w.last-is (last_still parts c.loop-at.last n ts c.loop-at.invariant.last (subst (Opens parts _) w.if-opens.false told))
      ];
    }
