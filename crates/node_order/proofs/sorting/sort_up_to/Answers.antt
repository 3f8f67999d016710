use Rattle.node_order.proofs.Shared.{◌+◌, ◌<◌, ◌≤◌, ℕ, sym, ap, subst, arith, replicate, length-take-le, length-replicate, IsSorted, count, place_cmp, plains, nth, IsWhole, IsExpression, Forest}
use Rattle.node_order.proofs.{Shared.{arity, IsOnce, root_tree, forest, all-kids, expression_root}, SortLaws.{sorted_children, handle_kids}}
use Rattle.node_order.proofs.sorting.sort_up_to.Goals as goal

pub rank_children-requires-clause-parent : goal.rank_children-requires-clause-parent
rank_children-requires-clause-parent g c = subst (λ i. IsExpression i (forest c.args.pool.now)) (sym c.id.ensures) (expression_root c.requires.stands c.requires.handed)

pub rank_children-requires-clause-keyed : goal.rank_children-requires-clause-keyed
rank_children-requires-clause-keyed g c =
    subst (λ (k : Forest). (n : ℕ) → c.args.from ≤ n → n < count (plains k) → g.K.Keys.has_key (nth n (plains k))) (sym (handle_kids c.args.parent.now c.id.result c.args.pool.now c.requires.stands c.requires.handed.root c.id.ensures)) c.requires.keyed

pub rank_children-requires-clause-all : goal.rank_children-requires-clause-all
rank_children-requires-clause-all g c = omega (arith, length-take-le c.children_from-len.result (replicate g.row.N c.default-listed.result) (omega (arith, length-replicate g.row.N c.default-listed.result, c.children_from-len.ensures.all, c.requires.room)), c.children_from-len.ensures.all, ap arity (handle_kids c.args.parent.now c.id.result c.args.pool.now c.requires.stands c.requires.handed.root c.id.ensures))

pub returns-clause-sorts : goal.returns-clause-sorts
returns-clause-sorts g c =
    let i = c.args.parent.now in
    let n = c.args.from in
    let f = forest c.args.pool.now in
    let key = g.K.Keys.key_of in
    let same = handle_kids i c.id.result c.args.pool.now c.requires.stands c.requires.handed.root c.id.ensures in
    sorted_children i n _ key c.rank_children.new.order f (forest c.arrange.new.pool) (all-kids IsOnce (root_tree i f) c.requires.handed.once) (all-kids IsWhole (root_tree i f) c.requires.handed.whole)
    (omega (arith, length-take-le {A = ℕ} c.children_from-len.result (replicate g.row.N 0) (omega (arith, length-replicate {A = ℕ} g.row.N 0, c.children_from-len.ensures.all, c.requires.room)), c.children_from-len.ensures.all)) c.rank_children.ensures.places
    (subst (λ (ts : Forest). IsSorted (place_cmp (λ j. key (nth (n + j) (plains ts)))) c.rank_children.new.order) same c.rank_children.ensures.rising)
    c.arrange.ensures.forest
