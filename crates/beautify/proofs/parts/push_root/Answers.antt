use Rattle.beautify.proofs.{Shared.{ap, arith, Tree, more, plain, tree_at, forest}, Pushing.owes_as, Resolving.{ready_child, root_face, root_size, one_child}}
use Rattle.beautify.proofs.parts.push_root.Goals as goal

pub returns-clause-owed : goal.returns-clause-owed
returns-clause-owed c us r o =
    let x = c.requires.ready.expression in
    let t = plain (tree_at c.args.root (forest c.args.pool.now)) in
    let a = plain (tree_at c.child_id.result (forest c.args.pool.now)) in
    let is = c.child_id.ensures.plain x in
    let ready = ready_child {n = 0} c.requires.ready (one_child t c.requires.root) (c.child_id.ensures.expression x) is in
    let first = c.push.ensures.owed (forest c.args.pool.now) us r o ready in
    owes_as (c.push_over.ensures.owed (forest c.args.pool.now) _ _ first (omega arith)) (ap (λ (u : Tree). more u us) (root_face t a c.requires.root is)) (omega (arith, root_size t a c.requires.root is))
