use Rattle.expand_forms.proofs.{Shared.{arith, plain, tree_at, forest}, TermKeys.{no_key}, TermReadings.{first_count}}
use Rattle.expand_forms.proofs.ordering.product_key.Goals as goal

pub returns-then-factors-eq0 : goal.returns-then-factors-eq0
returns-then-factors-eq0 c = λ m h.
    let t = plain (tree_at c.args.product (forest c.args.pool.now)) in
    no_key (forest c.args.pool.now) h (omega (arith, first_count t c.requires.product, c.first_factor-behind.ensures.value, c.children.ensures.plain c.requires.expression, c.if-factors-eq0.true))
