use Rattle.coefficients.proofs.{Shared.{forest, apart, root_held}, FirstFactors.{first_factor, first_last, last_front, first_alone, first_within, first_merged}}
use Rattle.coefficients.proofs.splicing.put_factors.Goals as goal

pub add_child-requires-clause-live : goal.add_child-requires-clause-live
add_child-requires-clause-live c = root_held c.args.product (forest c.args.pool.now) c.requires.first.root

pub add_child-requires-clause-apart : goal.add_child-requires-clause-apart
add_child-requires-clause-apart c = apart c.args.product c.args.factors c.requires.stands c.requires.apart c.requires.first.root c.requires.second.root

pub merge_children-requires-clause-within : goal.merge_children-requires-clause-within
merge_children-requires-clause-within c = first_within c.add_child.ensures.stands (first_factor c.requires.first c.requires.second c.requires.apart c.requires.product (c.add_child.ensures.root c.requires.first.root)).over

pub merge_children-requires-clause-unshared : goal.merge_children-requires-clause-unshared
merge_children-requires-clause-unshared c = first_alone c.add_child.ensures.stands (first_factor c.requires.first c.requires.second c.requires.apart c.requires.product (c.add_child.ensures.root c.requires.first.root)).over

pub move_last-requires-clause-root : goal.move_last-requires-clause-root
move_last-requires-clause-root c =
    let x = first_factor c.requires.first c.requires.second c.requires.apart c.requires.product (c.add_child.ensures.root c.requires.first.root) in
    (first_merged x (c.merge_children.ensures.root x.over.root)).over.root

pub returns-clause-tree : goal.returns-clause-tree
returns-clause-tree c =
    let x = first_factor c.requires.first c.requires.second c.requires.apart c.requires.product (c.add_child.ensures.root c.requires.first.root) in
    first_last (first_merged x (c.merge_children.ensures.root x.over.root)) c.move_last.ensures.last

pub returns-clause-front : goal.returns-clause-front
returns-clause-front c =
    let x = first_factor c.requires.first c.requires.second c.requires.apart c.requires.product (c.add_child.ensures.root c.requires.first.root) in
    last_front (first_merged x (c.merge_children.ensures.root x.over.root)) c.move_last.ensures.last
