use Rattle.expand_forms.proofs.{Shared.{sym, arith, children_number, forest, plain, tree_at}, PowersOfSums.{power_kind, two_children}}
use Rattle.expand_forms.proofs.powers_of_sums.has_few_terms.Goals as goal

pub child_id-requires-clause-within : goal.child_id-requires-clause-within
child_id-requires-clause-within c =
    let t = plain (tree_at c.args.id (forest c.args.pool.now)) in
    omega (arith, two_children t (sym (power_kind t c.requires.power)), children_number c.args.id (forest c.args.pool.now) c.requires.expression)
