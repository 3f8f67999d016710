use Rattle.beautify.proofs.{Pushing.{owes_as}, Shared.{◌≡◌, ◌≤◌, arith, append, factors_above, children_of, plain, tree_at, forest, count}, Resolving.{product_first}}
use Rattle.calc_terms.proofs.SmallLaws.{count_append as count-append}
use Rattle.beautify.proofs.products.push_above.Goals as goal

pub returns-clause-owed : goal.returns-clause-owed
returns-clause-owed c us r o =
    let f = forest c.args.pool.now in
    let ts = children_of (plain (tree_at c.args.product f)) in
    let factors = c.push_shares-above.ensures.owed us r o in
    let n : c.push_shares-above.result ≡ count (factors_above ts) = c.push_shares-above.ensures.came in
    let fits : c.push_shares-above.result ≤ count (append (factors_above ts) us) = omega (arith, n, count-append (factors_above ts) us) in
    owes_as (c.push_multiplied.ensures.owed f (append (factors_above ts) us) _ factors fits) (product_first c.push_shares-above.result (factors_above ts) us n) (omega arith)
