use Rattle.sum_reduce.proofs.{Shared.{◌∙◌, inl, arith, forest, owned, terms_in}, Sums.{sum_within, term_out, only_left}, Written.{only_term}}
use Rattle.sum_reduce.proofs.endings.unwrapped.Goals as goal

pub take_child-only-requires-clause-within : goal.take_child-only-requires-clause-within
take_child-only-requires-clause-within c = sum_within 0 c.requires.stands c.requires.sum (omega (arith, c.requires.some))

pub release-requires-clause-releasable : goal.release-requires-clause-releasable
release-requires-clause-releasable c =
    let o = term_out 0 c.requires.sum (omega (arith, c.requires.some)) (c.take_child-only.ensures.last c.requires.sum.handed.root) in
    inl o.takes.sum.handed.root

pub returns-then-term_count-eq1-clause-tree : goal.returns-then-term_count-eq1-clause-tree
returns-then-term_count-eq1-clause-tree c =
    let o = term_out 0 c.requires.sum (omega (arith, c.requires.some)) (c.take_child-only.ensures.last c.requires.sum.handed.root) in
    only_left o.takes (c.release.ensures.owned (owned o.takes.sum.handed))
    (o.tree ∙ only_term (terms_in c.args.sum (forest c.args.pool.now)) (omega (arith, c.if-term_count-eq1.true, c.term_count.ensures)))
