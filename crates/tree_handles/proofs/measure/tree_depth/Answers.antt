use Rattle.tree_handles.proofs.Shared.{◌≡◌, ◌-◌, ◌<◌, length, get_or, max, sym, ◌∙◌, arith, refl, length-set, set, depth_in, tree_at, forest}
use Rattle.tree_handles.proofs.{Depths.{walked_start, walked_close, walked_some, walked_deeper, walked_done}, Measures.{few_in, one_at}, Plains.depth-plain, Visiting.{some_next, next_is}}
use Rattle.tree_handles.proofs.measure.tree_depth.Goals as goal

pub loop-height-init : goal.loop-height-init
loop-height-init c =
    let t = tree_at c.args.id (forest c.args.pool.now) in
    record { walked = walked_start t (one_at c.args.id (forest c.args.pool.now) c.requires.live) c.nodes_of-nodes.ensures refl; levels = refl }

pub offset_bounds-owed-height : goal.offset_bounds-owed-height
offset_bounds-owed-height c = record { fits = omega (arith, c.loop-height.invariant.walked.high, few_in c.args.id c.args.pool.now c.requires.stands) }

pub bounds-owed-height : goal.bounds-owed-height
bounds-owed-height c = omega (arith, c.loop-height.invariant.walked.high, few_in c.args.id c.args.pool.now c.requires.stands)

pub loop-height-preserved-then-owed-height-eq0 : goal.loop-height-preserved-then-owed-height-eq0
loop-height-preserved-then-owed-height-eq0 c = record {
  walked = walked_close c.loop-height.invariant.walked c.loop-height-test.true c.if-owed-height-eq0.true;
  levels = c.loop-height.invariant.levels;
}

pub unwrap-node-requires : goal.unwrap-node-requires
unwrap-node-requires c = some_next c.next.result _ _ c.next.ensures.steps (walked_some c.loop-height.invariant.walked c.loop-height-test.true (omega (arith, c.if-owed-height-eq0.false)))

pub bounds-owed-height-else-owed-height-eq0-3 : goal.bounds-owed-height-else-owed-height-eq0-3
bounds-owed-height-else-owed-height-eq0-3 c =
    let some = walked_some c.loop-height.invariant.walked c.loop-height-test.true (omega (arith, c.if-owed-height-eq0.false)) in
    omega (arith, some, c.loop-height.invariant.walked.high, few_in c.args.id c.args.pool.now c.requires.stands)

pub loop-height-preserved : goal.loop-height-preserved
loop-height-preserved c =
    let deeper : c.max-deepest.result ≡ max c.loop-height.deepest c.loop-height.height = c.max-deepest.ensures in
    let owed = c.loop-height.owed in
    let height = c.loop-height.height in
    let some = walked_some c.loop-height.invariant.walked c.loop-height-test.true (omega (arith, c.if-owed-height-eq0.false)) in
    let room : height < length owed = omega (arith, some, c.loop-height.invariant.levels, c.loop-height.invariant.walked.high, few_in c.args.id c.args.pool.now c.requires.stands) in
    record {
      walked = rw deeper (walked_deeper c.loop-height.invariant.walked c.loop-height-test.true room (omega (arith, c.if-owed-height-eq0.false)) (next_is c.next.result c.unwrap-node.result _ _ c.next.ensures.steps c.unwrap-node.ensures));
      levels = length-set (set owed (height - 1) (get_or owed (height - 1) 0 - 1)) height c.unwrap-node.result.children ∙ length-set owed (height - 1) (get_or owed (height - 1) 0 - 1) ∙ c.loop-height.invariant.levels;
    }

pub returns : goal.returns
returns c =
    let t = tree_at c.args.id (forest c.args.pool.now) in
    let value : c.loop-height.deepest ≡ depth_in t = walked_done c.loop-height.invariant.walked (omega arith) in
    record { value = value; plain = λ h. value ∙ sym (depth-plain t (one_at c.args.id (forest c.args.pool.now) c.requires.live) h.whole) }
