use Rattle.calc_parser.proofs.{Shared.{◌≤◌, ◌+◌, ◌-◌, length, [], arith, ap, ◌∙◌, get_or, slice_get, Leaf, deepest, node_of, unwrap_or}, Measures.{add_on, with_node_small, one_left}}
use Rattle.calc_parser.proofs.depth.depth.Goals as goal

pub loop-step-preserved : goal.loop-step-preserved
loop-step-preserved c =
    let ds = c.loop-step.depths.items in
    let at = c.loop-step.step-index in
    let steps = c.args.steps.now in
    let small : deepest c.add.new.depths.items ≤ deepest ds + 1 = rw (c.add.ensures.added []) (with_node_small ds (node_of [] (get_or steps at (Leaf 0)))) in (
      λ ts. add_on (node_of ts) ds c.add.new.depths.items steps at (Leaf 0) c.loop-step-test.true (c.add.ensures.added ts) ∙ c.loop-step.invariant.0 ts,
      omega (arith, c.loop-step.invariant.1, c.add.ensures.length),
      omega (arith, c.loop-step.invariant.2),
    )

pub returns : goal.returns
returns c = λ ts t e.
    c.unwrap_or.ensures
    ∙ ap (λ o. unwrap_or o 0) (c.copied.ensures ∙ c.last.ensures.value
    ∙ ap (λ ds. slice_get ds (length ds - 1)) (c.as_slice.ensures.value ∙ one_left (node_of ts) t c.loop-step.depths.items c.args.steps.now c.loop-step.step-index c.loop-step-test.false (c.loop-step.invariant.0 ts) e))
