use Rattle.number_forms.proofs.{Shared.{rules, ◌≡◌, ◌<◌, sym, ◌∙◌, arith, count, plain, children_of, tree_at, forest}, SquareFreeSums.{place_there}}
use Rattle.number_forms.proofs.joining.place_near.Goals as goal

pub radicand_at-requires : goal.radicand_at-requires
radicand_at-requires g c =
    let many : c.children.result ≡ count (children_of (plain (tree_at c.args.sum (forest c.args.pool.now)))) = c.children.ensures.plain c.requires.expression in
    let within : c.args.seen < count (children_of (plain (tree_at c.args.sum (forest c.args.pool.now)))) = omega (arith, many, c.if-seen-children.true) in
    (search rules, (c.requires.stands, (c.requires.expression, (c.requires.sum, (c.requires.lists, within)))))

pub returns-then-radicand_at-radicand : goal.returns-then-radicand_at-radicand
returns-then-radicand_at-radicand g c =
    let t = plain (tree_at c.args.sum (forest c.args.pool.now)) in
    let many : c.children.result ≡ count (children_of t) = c.children.ensures.plain c.requires.expression in
    place_there t c.args.seen c.args.radicand c.requires.sum (omega (arith, many, c.if-seen-children.true)) (sym c.if-radicand_at-radicand.true ∙ c.radicand_at.ensures.value)
