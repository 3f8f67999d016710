use Rattle.node_order.proofs.{Shared.{rules, place_cmp, ranked_tree, forest}, RankLaws.{sorted_by_calls}, Ties.{place_total}}
use Rattle.node_order.proofs.ranking.rank.Goals as goal

pub returns-clause-rising : goal.returns-clause-rising
returns-clause-rising c =
    let tree = ranked_tree c.args.keys.now (forest c.args.pool.now) in
    sorted_by_calls (place_cmp tree) _ (place_total tree) c.sort_unstable_by.ensures.sorted (λ a r f' k. search rules)
