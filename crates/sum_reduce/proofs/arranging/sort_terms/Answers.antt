use Rattle.sum_reduce.proofs.Shared.{◌<◌, ◌∙◌, ap, sym, subst, arith, is_number, is_reduced, Trees, count, nth, forest, IsArranged, IsStage, terms_in}
use Rattle.sum_reduce.proofs.{Sorted.{formed_nth, led_behind, lead_few, children_sorted}, Rearranged.{few_same}, Stages.{stage_permuted}, Sums.{sum_over, root_arity}}
use Rattle.sum_reduce.proofs.arranging.sort_terms.Goals as goal

pub sort_children-requires-clause-within : goal.sort_children-requires-clause-within
sort_children-requires-clause-within c =
    let ts = terms_in c.args.sum.now (forest c.args.pool.now) in
    omega (arith, c.lead_count-lead.ensures c.requires.led, lead_few ts c.requires.led, root_arity c.requires.sum)

pub sort_children-requires-clause-keyed : goal.sort_children-requires-clause-keyed
sort_children-requires-clause-keyed c =
    let ts = terms_in c.args.sum.now (forest c.args.pool.now) in
    let e = (sum_over c.requires.sum).kids.plain_trees in
    λ n z l.
    let m = subst (λ (x : Trees). n < count x) e l in (
      ap (λ (x : Trees). is_reduced (nth n x)) e ∙ formed_nth n ts m c.requires.formed,
      ap (λ (x : Trees). is_number (nth n x)) e ∙ led_behind ts c.requires.led n (omega (arith, c.lead_count-lead.ensures c.requires.led, z)) m,
    )

pub returns : goal.returns
returns c =
    let s = children_sorted c.requires.sum c.requires.led (c.lead_count-lead.ensures c.requires.led) c.requires.flat c.sort_children.ensures.sorts in
    record {
      changes = s.changed.changes;
      stage = subst (IsStage (terms_in c.args.sum.now (forest c.args.pool.now))) (sym s.changed.terms) (stage_permuted s.ordered.permuted c.requires.formed c.requires.some);
      arranged = subst IsArranged (sym s.changed.terms) s.ordered.arranged;
      alone = λ e. s.changed.terms ∙ few_same s.ordered.permuted (omega (arith, e));
      kept = c.sort_children.ensures.kept;
      stands = c.sort_children.ensures.stands;
    }
