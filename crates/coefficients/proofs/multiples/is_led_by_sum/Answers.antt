use Rattle.coefficients.proofs.{Shared.{◌≡◌, ◌∙◌, sym, subst, arith, true, is_reduced, Tree, forest, product_kind}, Lengths.{long}, Places.{two_children}}
use Rattle.coefficients.proofs.multiples.is_led_by_sum.Goals as goal

pub child_id-first-requires-clause-within : goal.child_id-first-requires-clause-within
child_id-first-requires-clause-within c =
    let m = product_kind _ (sym c.in-Mult.is ∙ c.kind.ensures.plain c.requires.expression) in
    omega (arith, two_children c.args.id (forest c.args.pool.now) c.requires.expression m c.requires.reduced)

pub is_reduced_number-requires-clause-reduced : goal.is_reduced_number-requires-clause-reduced
is_reduced_number-requires-clause-reduced c =
    let m = product_kind _ (sym c.in-Mult.is ∙ c.kind.ensures.plain c.requires.expression) in
    let l = long _ m c.requires.reduced in
    subst (λ (t : Tree). is_reduced t ≡ true) (sym (c.child_id-first.ensures.plain c.requires.expression)) (l.child 0 (omega (arith, l.two)))
