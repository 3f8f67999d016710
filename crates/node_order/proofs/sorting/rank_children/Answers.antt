use Rattle.node_order.proofs.{Shared.{◌≡◌, ◌+◌, List, ℕ, length, subst, arith, IsPermutation, ranked_tree, plains, nth, kids_of, forest}, Places.{inside_range}, SortLaws.{ranked_is}}
use Rattle.node_order.proofs.Ties.{places_same}
use Rattle.node_order.proofs.sorting.rank_children.Goals as goal

pub returns-clause-rising : goal.returns-clause-rising
returns-clause-rising g c =
    let n = length c.args.order.now in
    let f = forest c.args.pool.now in
    let keys = c.list_keys.new.listed in
    let moved = subst (λ (xs : List ℕ). IsPermutation xs c.rank.new.order) c.list_places.ensures c.rank.ensures.moved in
    let long : length keys ≡ n = omega (arith, c.requires.order, c.list_keys.auto.listed) in
    places_same (ranked_tree keys f) (λ j. g.K.Keys.key_of (nth (c.args.from + j) (plains (kids_of c.args.parent f)))) c.rank.new.order n c.rank.ensures.rising (inside_range n c.rank.new.order moved)
    (λ j lt. ranked_is keys f j _ (omega arith) (c.list_keys.ensures.trees j _ (omega arith)))
