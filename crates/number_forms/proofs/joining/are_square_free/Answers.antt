use Rattle.number_forms.proofs.{Shared.{◌≡◌, ◌<◌, ◌-◌, subst, ltb-true, arith, rules, count, plain, children_of, tree_at, forest}, SquareFreeSums.{all_below}}
use Rattle.number_forms.proofs.joining.are_square_free.Goals as goal

pub radicand_at-requires : goal.radicand_at-requires
radicand_at-requires g c = (search rules, (c.requires.stands, (c.requires.expression, (c.requires.sum, (c.requires.lists, (let many : c.children-many.result ≡ count (children_of (plain (tree_at c.args.sum (forest c.args.pool.now)))) = c.children-many.ensures.plain c.requires.expression in omega (arith, many, c.if-many-eq0.false)))))))

pub returns : goal.returns
returns g c = λ test.
    let t = plain (tree_at c.args.sum (forest c.args.pool.now)) in
    let many : c.children-many.result ≡ count (children_of t) = c.children-many.ensures.plain c.requires.expression in
    all_below t (c.children-many.result - 1) 1000000000000 c.requires.sum (omega (arith, many, c.if-many-eq0.false))
    (subst (λ (n : _). n < 1000000000000) c.radicand_at.ensures.value (ltb-true c.radicand_at.result 1000000000000 test))
