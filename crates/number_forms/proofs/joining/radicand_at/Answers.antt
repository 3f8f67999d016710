use Rattle.number_forms.proofs.{Shared.{term_of, nth, plain, children_of, tree_at, forest}, SquareFreeSums.{read_radicand}, SumChanges.{term_of_sum}}
use Rattle.number_forms.proofs.joining.radicand_at.Goals as goal

pub term_at-requires-clause-term : goal.term_at-requires-clause-term
term_at-requires-clause-term g c = term_of_sum (plain (tree_at c.args.sum (forest c.args.pool.now))) _ c.args.at c.requires.sum c.requires.within (c.child.ensures.plain)

pub returns-clause-value : goal.returns-clause-value
returns-clause-value g c =
    let t = plain (tree_at c.args.sum (forest c.args.pool.now)) in
    read_radicand c.radicand.result (term_of c.term_at.result) (plain (tree_at c.child.result (forest c.args.pool.now))) (nth c.args.at (children_of t)) c.radicand.ensures.value c.term_at.ensures
    (c.child.ensures.plain)
