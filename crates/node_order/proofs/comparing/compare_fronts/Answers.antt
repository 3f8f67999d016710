use Rattle.node_order.proofs.{Shared.{rules, length, arith, sym, ap, ◌∙◌, kind_of_payload, Tree, Shows, forest, tree_cmp}, Pairs.{IsPending, equal_roots, unequal_roots, open_start, open_decided}}
use Rattle.node_order.proofs.{Pairs.{open_few, open_behind, pending_done, run_left, pending_next}, comparing.compare_fronts.Goals.{After-behind-pairs}}
use Rattle.node_order.proofs.comparing.compare_fronts.Goals as goal

pub loop-left-init : goal.loop-left-init
loop-left-init c = λ t u a b. open_start a b

pub compare_roots-roots-requires : goal.compare_roots-roots-requires
compare_roots-roots-requires c =
    let (t, a) = c.requires.first in
    let (u, b) = c.requires.second in
    let o = c.loop-left.invariant t u a b in
    record {
      stands = search rules;
      first = o.one.shown.live;
      second = o.two.shown.live;
      first_kind = o.one.shown.kind ∙ ap kind_of_payload (sym o.one.shown.payload);
      second_kind = o.two.shown.kind ∙ ap kind_of_payload (sym o.two.shown.payload);
    }

pub returns-then-ne : goal.returns-then-ne
returns-then-ne c = λ t u a b. open_decided (c.loop-left.invariant t u a b) c.compare_roots-roots.ensures (unequal_roots c.compare_roots-roots.result c.ne.result c.ne.ensures c.if-ne.true)

pub behind-pairs-requires : goal.behind-pairs-requires
behind-pairs-requires c =
    let (t, a) = c.requires.first in
    let (u, b) = c.requires.second in
    let o = c.loop-left.invariant t u a b in
    record { some = omega (arith, o.one.number); few = omega (arith, open_few o) }

-- the pairs that are left
left : (c : After-behind-pairs) (t u : Tree) → Shows c.args.left t (forest c.args.pool.now) → Shows c.args.right u (forest c.args.pool.now)
    → IsPending c.loop-left.left.behind c.loop-left.right.behind c.behind-pairs.result.owed c.behind-pairs.result.undecided (tree_cmp t u) (forest c.args.pool.now)
left c t u a b =
    let equal = equal_roots c.compare_roots-roots.result c.ne.result c.ne.ensures c.if-ne.false in
    open_behind (c.loop-left.invariant t u a b) c.compare_roots-roots.ensures equal c.behind-pairs.ensures.same c.behind-pairs.ensures.fewer

pub returns-then-pairs-eq0 : goal.returns-then-pairs-eq0
returns-then-pairs-eq0 c = λ t u a b. pending_done (left (goal.at.returns-then-pairs-eq0 c).After-behind-pairs t u a b) c.if-pairs-eq0.true

pub advance-requires : goal.advance-requires
advance-requires c =
    let (t, a) = c.requires.first in
    let (u, b) = c.requires.second in
    run_left (left (goal.at.advance-requires c).After-behind-pairs t u a b).one (omega (arith, c.if-pairs-eq0.false))

pub advance-requires-in-loop-left : goal.advance-requires-in-loop-left
advance-requires-in-loop-left c =
    let (t, a) = c.requires.first in
    let (u, b) = c.requires.second in
    run_left (left (goal.at.advance-requires-in-loop-left c).After-behind-pairs t u a b).two (omega (arith, c.if-pairs-eq0.false))

pub loop-left-smaller : goal.loop-left-smaller
loop-left-smaller c = omega (arith, ap length c.advance.ensures)

pub loop-left-preserved : goal.loop-left-preserved
loop-left-preserved c = λ t u a b.
    pending_next (left (goal.at.loop-left-preserved c).After-behind-pairs t u a b) (omega (arith, c.if-pairs-eq0.false)) c.advance.ensures c.advance-in-loop-left.ensures
