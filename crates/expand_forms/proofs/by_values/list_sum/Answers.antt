use Rattle.expand_forms.proofs.{Shared.{◌∙◌, ap, take, arith, take_all, forest, plain, tree_at, value_of, parts_of, total}, ValueNodes.{can_name_child}, NodeParts.{total_more, total_parts}}
use Rattle.expansions.proofs.{ListLaws.{list_as}, SameCoefficients.{same_is}}
use Rattle.expand_forms.proofs.by_values.list_sum.Goals as goal

pub part_at-part-requires-clause-within : goal.part_at-part-requires-clause-within
part_at-part-requires-clause-within c = omega (arith, c.part_count-at-end.ensures, c.loop-at-test.true)

pub add_child-requires-clause-names : goal.add_child-requires-clause-names
add_child-requires-clause-names c = rw c.loop-at.invariant.names (can_name_child c.loop-at.at c.requires.names c.part_at-part.ensures.child)

pub loop-at-preserved : goal.loop-at-preserved
loop-at-preserved c =
    let i = c.loop-at.invariant in
    let ps = parts_of (plain (tree_at c.args.id (forest c.args.pool.now))) in
    let added = c.add_child.ensures.list (total (take c.loop-at.at ps)) (rw i.names i.list) c.if-not-add_child.false in record {
      names = c.add_child.ensures.names ∙ i.names;
      list = list_as (same_is (total_more c.loop-at.at ps (value_of c.part_at-part.result.factor) (plain (tree_at c.part_at-part.result.tree (forest c.args.pool.now))) c.part_at-part.ensures.part)) (rw i.names at added);
    }

pub returns-clause-list : goal.returns-clause-list
returns-clause-list c = λ e.
    let t = plain (tree_at c.args.id (forest c.args.pool.now)) in
    list_as (same_is (ap total (take_all c.loop-at.at (parts_of t) (omega (arith, c.part_count-at-end.ensures, c.loop-at-test.false))) ∙ total_parts t c.requires.parts)) c.loop-at.invariant.list
