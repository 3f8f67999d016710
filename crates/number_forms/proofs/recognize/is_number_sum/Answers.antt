use Rattle.number_forms.proofs.{Shared.{◌≡◌, sym, ◌∙◌, arith, count, plain, children_of, tree_at, forest}, Recognized.{short_sum, sum_rises}}
use Rattle.number_forms.proofs.recognize.is_number_sum.Goals as goal

pub returns-then-children-lt2 : goal.returns-then-children-lt2
returns-then-children-lt2 c =
    let t = plain (tree_at c.args.id (forest c.args.pool.now)) in
    let many : c.children.result ≡ count (children_of t) = c.children.ensures.plain c.requires.expression in
    short_sum t c.requires.sum (omega (arith, many, c.if-children-lt2.true))

pub returns : goal.returns
returns c =
    let t = plain (tree_at c.args.id (forest c.args.pool.now)) in
    let many : c.children.result ≡ count (children_of t) = c.children.ensures.plain c.requires.expression in
    c.rises.ensures ∙ sum_rises t c.requires.sum (omega (arith, many, c.if-children-lt2.false)) (sym c.are_terms.ensures ∙ c.if-not-are_terms.false)
