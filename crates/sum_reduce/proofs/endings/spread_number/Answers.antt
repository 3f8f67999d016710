use Rattle.sum_reduce.proofs.Shared.{◌∙◌, ap, sym, inl, arith, Trees, append, is_add, is_zero, nth, forest, owned, terms_in, removed}
use Rattle.sum_reduce.proofs.{Sums.{sum_within, sum_once, merged, released, takes_handed, term_out}, Written.{spread_zero, spread_sum}}
use Rattle.sum_reduce.proofs.endings.spread_number.Goals as goal

pub take_child-zero-requires-clause-within : goal.take_child-zero-requires-clause-within
take_child-zero-requires-clause-within c = sum_within 0 c.requires.stands c.requires.sum (omega (arith, c.requires.some))

pub release-requires-clause-releasable : goal.release-requires-clause-releasable
release-requires-clause-releasable c =
    let o = term_out 0 c.requires.sum (omega (arith, c.requires.some)) (c.take_child-zero.ensures.last c.requires.sum.handed.root) in
    inl (takes_handed o.takes).root

pub merge_children-requires-clause-within : goal.merge_children-requires-clause-within
merge_children-requires-clause-within c = sum_within 0 c.requires.stands c.requires.sum (omega (arith, c.requires.some))

pub merge_children-requires-clause-unshared : goal.merge_children-requires-clause-unshared
merge_children-requires-clause-unshared c = sum_once 0 c.requires.stands c.requires.sum (omega (arith, c.requires.some))

pub returns-then-is_zero-clause-changes : goal.returns-then-is_zero-clause-changes
returns-then-is_zero-clause-changes c =
    let o = term_out 0 c.requires.sum (omega (arith, c.requires.some)) (c.take_child-zero.ensures.last c.requires.sum.handed.root) in
    (released o.takes (c.release.ensures.owned (owned (takes_handed o.takes)))).changes

pub returns-then-is_zero-clause-terms : goal.returns-then-is_zero-clause-terms
returns-then-is_zero-clause-terms c =
    let o = term_out 0 c.requires.sum (omega (arith, c.requires.some)) (c.take_child-zero.ensures.last c.requires.sum.handed.root) in
    let ts = terms_in c.args.sum.now (forest c.args.pool.now) in
    (released o.takes (c.release.ensures.owned (owned (takes_handed o.takes)))).terms ∙ o.terms
    ∙ spread_zero (nth 0 ts) (removed 0 ts) (ap is_zero (sym c.term-first.ensures.tree) ∙ sym c.is_zero.ensures ∙ c.if-is_zero.true)

pub returns-then-is_sum-clause-changes : goal.returns-then-is_sum-clause-changes
returns-then-is_sum-clause-changes c = (merged 0 c.requires.sum (omega (arith, c.requires.some)) (c.merge_children.ensures.root c.requires.sum.handed.root)).changes

pub returns-then-is_sum-clause-terms : goal.returns-then-is_sum-clause-terms
returns-then-is_sum-clause-terms c =
    let ts = terms_in c.args.sum.now (forest c.args.pool.now) in
    (merged 0 c.requires.sum (omega (arith, c.requires.some)) (c.merge_children.ensures.root c.requires.sum.handed.root)).terms
    ∙ ap (λ (x : Trees). append x (removed 0 ts)) (spread_sum (nth 0 ts) (ap is_add (sym c.term-first.ensures.tree) ∙ sym c.is_sum.ensures ∙ c.if-is_sum.true))
