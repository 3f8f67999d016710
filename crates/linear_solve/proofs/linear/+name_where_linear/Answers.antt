use Rattle.linear_solve.proofs.{Shared.{◌≡◌, ◌<◌, ◌≤◌, sym, ap, ◌∙◌, arith, None, Some, count, nodes, name_where_linear, children_of, nth, plain, tree_at, forest}, LinearNodes.{asked, asked_all}}
use Rattle.linear_solve.proofs.{LinearNodes.{asked_clash, asked_end, asked_next, asked_none}, TreeLists.{fewer_nodes, listed}}
use Rattle.linear_solve.proofs.Places.{below_end, past_end}
use Rattle.linear_solve.proofs.linear.+name_where_linear.Goals as goal

pub loop-at-init : goal.loop-at-init
loop-at-init t c =
    ap (λ k. asked k c.in_ok-named.named (listed (children_of (plain (tree_at c.args.t (forest c.args.pool.now)))))) (c.kind-kind.ensures.plain c.requires.expression)
    ∙ asked_all (plain (tree_at c.args.t (forest c.args.pool.now))) c.in_ok-named.named (sym c.in_ok-named.ensures)

pub name_where_linear-requires : goal.name_where_linear-requires
name_where_linear-requires t c =
    let within : c.loop-at.at < count (children_of (plain (tree_at c.args.t (forest c.args.pool.now)))) = below_end (c.children-at-end.ensures.plain c.requires.expression) c.loop-at-test.true in (
      omega (arith, ap nodes (c.child_id.ensures.plain c.requires.expression), fewer_nodes (plain (tree_at c.args.t (forest c.args.pool.now))) c.loop-at.at within, c.decreases),
      (c.requires.stands, c.child_id.ensures.expression c.requires.expression),
    )

pub returns-in_err-child : goal.returns-in_err-child
returns-in_err-child t c =
    let within : c.loop-at.at < count (children_of (plain (tree_at c.args.t (forest c.args.pool.now)))) = below_end (c.children-at-end.ensures.plain c.requires.expression) c.loop-at-test.true in
    let none : name_where_linear (nth c.loop-at.at (children_of (plain (tree_at c.args.t (forest c.args.pool.now))))) ≡ None = ap name_where_linear
    (sym (c.child_id.ensures.plain c.requires.expression)) ∙ sym c.in_err-child.ensures in
    rw c.from_residual-in_err-child.ensures
    (sym (asked_none c.kind-kind.result c.loop-at.named (children_of (plain (tree_at c.args.t (forest c.args.pool.now)))) c.loop-at.at within none) ∙ c.loop-at.invariant)

pub returns-in_err-named-2 : goal.returns-in_err-named-2
returns-in_err-named-2 t c =
    let within : c.loop-at.at < count (children_of (plain (tree_at c.args.t (forest c.args.pool.now)))) = below_end (c.children-at-end.ensures.plain c.requires.expression) c.loop-at-test.true in
    let some : name_where_linear (nth c.loop-at.at (children_of (plain (tree_at c.args.t (forest c.args.pool.now))))) ≡ Some c.in_ok-child.child = ap name_where_linear
    (sym (c.child_id.ensures.plain c.requires.expression)) ∙ sym c.in_ok-child.ensures in
    rw c.from_residual-in_err-named-2.ensures (sym (asked_clash c.kind-kind.result c.loop-at.named c.in_ok-child.child (children_of (plain (tree_at c.args.t (forest c.args.pool.now)))) c.loop-at.at within some (sym c.in_err-named-2.ensures)) ∙ c.loop-at.invariant)

pub loop-at-preserved : goal.loop-at-preserved
loop-at-preserved t c =
    let within : c.loop-at.at < count (children_of (plain (tree_at c.args.t (forest c.args.pool.now)))) = below_end (c.children-at-end.ensures.plain c.requires.expression) c.loop-at-test.true in
    let some : name_where_linear (nth c.loop-at.at (children_of (plain (tree_at c.args.t (forest c.args.pool.now))))) ≡ Some c.in_ok-child.child = ap name_where_linear
    (sym (c.child_id.ensures.plain c.requires.expression)) ∙ sym c.in_ok-child.ensures in
    sym (asked_next c.kind-kind.result c.loop-at.named c.in_ok-child.child c.in_ok-named-2.named (children_of (plain (tree_at c.args.t (forest c.args.pool.now)))) c.loop-at.at within some (sym c.in_ok-named-2.ensures)) ∙ c.loop-at.invariant

pub returns : goal.returns
returns t c =
    let done : count (children_of (plain (tree_at c.args.t (forest c.args.pool.now)))) ≤ c.loop-at.at = past_end (c.children-at-end.ensures.plain c.requires.expression) c.loop-at-test.false in
    sym (asked_end c.kind-kind.result c.loop-at.named (children_of (plain (tree_at c.args.t (forest c.args.pool.now)))) c.loop-at.at done) ∙ c.loop-at.invariant
