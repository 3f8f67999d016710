use Rattle.beautify.proofs.{Shared.{ap, arith, Tree, more, plain, tree_at, forest}, Pushing.owes_as, Resolving.{symbol_face, symbol_size}}
use Rattle.beautify.proofs.parts.push_unsigned.Goals as goal

pub returns-in-Sym-clause-owed : goal.returns-in-Sym-clause-owed
returns-in-Sym-clause-owed c us r o =
    let t = plain (tree_at c.args.tree (forest c.args.pool.now)) in
    let s = c.kind.ensures.symbol c.in-Sym.is in
    owes_as (c.push.ensures.owed (forest c.args.pool.now) us r o (c.requires.ready.expression, s)) (ap (λ (u : Tree). more u us) (symbol_face t s)) (omega (arith, symbol_size t s))
