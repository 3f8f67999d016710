use Rattle.tree_walks.proofs.Shared.{◌≡◌, ◌<◌, ◌-◌, ◌∙◌, length, get_or, ap, arith, refl, set, length-set, depth, plain, depth_in, tree_at, forest, walked_start}
use Rattle.tree_walks.proofs.{Shared.{walked_close, walked_some, walked_deeper, walked_done, one_at, depth-plain, some_next, next_is}, Levels.{shallow, too_deep}}
use Rattle.tree_walks.proofs.depth.has_deeper_level.Goals as goal

pub loop-height-init : goal.loop-height-init
loop-height-init c = record {
  shallow = shallow (walked_start (tree_at c.args.id (forest c.args.pool.now)) (one_at c.args.id (forest c.args.pool.now) c.requires.expression.live) c.nodes_of-nodes.ensures refl) (omega arith);
  levels = refl;
}

pub loop-height-preserved-then-owed-height-eq0 : goal.loop-height-preserved-then-owed-height-eq0
loop-height-preserved-then-owed-height-eq0 c = record {
  shallow = shallow (walked_close c.loop-height.invariant.shallow.walked c.loop-height-test.true c.if-owed-height-eq0.true) c.loop-height.invariant.shallow.few;
  levels = c.loop-height.invariant.levels;
}

pub returns-then-height-gt-DEPTH_LIMIT : goal.returns-then-height-gt-DEPTH_LIMIT
returns-then-height-gt-DEPTH_LIMIT c =
    let t = tree_at c.args.id (forest c.args.pool.now) in
    let same : depth (plain t) ≡ depth_in t = depth-plain t (one_at c.args.id (forest c.args.pool.now) c.requires.expression.live) c.requires.expression.whole in
    let deep = too_deep c.loop-height.invariant.shallow c.if-height-gt-DEPTH_LIMIT.true (omega (arith, c.if-owed-height-eq0.false)) in
    (λ h. omega (arith, same, deep), λ h. refl)

pub unwrap-node-requires : goal.unwrap-node-requires
unwrap-node-requires c = some_next c.next.result _ _ c.next.ensures.steps (walked_some c.loop-height.invariant.shallow.walked c.loop-height-test.true (omega (arith, c.if-owed-height-eq0.false)))

pub loop-height-smaller : goal.loop-height-smaller
loop-height-smaller c = omega (arith, ap length (next_is c.next.result c.unwrap-node.result _ _ c.next.ensures.steps c.unwrap-node.ensures))

pub loop-height-preserved : goal.loop-height-preserved
loop-height-preserved c =
    let w = c.loop-height.invariant.shallow in
    let owed = c.loop-height.owed in
    let height = c.loop-height.height in
    let room : height < length owed = omega (arith, c.loop-height.invariant.levels, c.if-height-gt-DEPTH_LIMIT.false) in
    record {
      shallow = shallow (walked_deeper w.walked c.loop-height-test.true room (omega (arith, c.if-owed-height-eq0.false)) (next_is c.next.result c.unwrap-node.result _ _ c.next.ensures.steps c.unwrap-node.ensures)) (omega (arith, w.few, c.if-height-gt-DEPTH_LIMIT.false));
      levels = length-set (set owed (height - 1) (get_or owed (height - 1) 0 - 1)) height c.unwrap-node.result.children
          ∙ length-set owed (height - 1) (get_or owed (height - 1) 0 - 1) ∙ c.loop-height.invariant.levels;
    }

pub returns : goal.returns
returns c =
    let t = tree_at c.args.id (forest c.args.pool.now) in
    let same : depth (plain t) ≡ depth_in t = depth-plain t (one_at c.args.id (forest c.args.pool.now) c.requires.expression.live) c.requires.expression.whole in
    let w = c.loop-height.invariant.shallow in
    let deepest : w.deepest ≡ depth_in t = walked_done w.walked (omega arith) in
    (λ h. absurd cc, λ h. absurd (omega (arith, same, deepest, w.few)))
