use Rattle.deep_reduce.proofs.{Shared.{rules, refl, if_map, tree_of, gives_as}, NodeAnswers.{node_answered}, Ready.{over_answers, step_lacks, step_overflows}}
use Rattle.deep_reduce.proofs.driver.NodeReducerNodeStep.step.Goals as goal

pub returns : goal.returns
returns c = let now = tree_of c.args.tree c.args.pool.now in record {
  ok = λ whole p o. if_map c.reduce_node.result _ _ c.reduce_node.ensures.ok (λ h x. gives_as x refl (λ t a. node_answered whole now t (over_answers o) a));
  lacks = λ whole p o. step_lacks whole now c.reduce_node.result (over_answers o) _ c.reduce_node.ensures.room c.reduce_node.ensures.root_room;
  overflow = λ whole p o. step_overflows whole now c.reduce_node.result (over_answers o) c.reduce_node.ensures.overflow c.reduce_node.ensures.bits;
  kept = search rules;
  faults = search rules;
  caused = search rules;
  front = search rules;
  stands = search rules;
}
