use Rattle.number_forms.proofs.{Shared.{ℕ, ◌∷◌, ◌∙◌, ap, map, sym, arith, add-one, rules, term_of, term_times, tree_of, value}, Loops.{from_all}, ValueLoops.{with_none, with_step}}
use Rattle.number_forms.proofs.Worth.{products_next, terms_from}
use Rattle.number_forms.proofs.values.join_products.Goals as goal

pub loop-at-preserved : goal.loop-at-preserved
loop-at-preserved c =
    let v = value (tree_of c.args.a.now c.args.pool.now) in let x = term_of c.args.factor in let y = term_of c.nth_term.result in
    with_step (term_times x y) (products_next x v c.loop-at.at y c.nth_term.ensures ∙ ap (λ (n : ℕ). term_times x y ∷ map (term_times x) (terms_from n v)) (sym (add-one c.loop-at.at)))
    (c.join_product.ensures (search rules)) c.loop-at.invariant

pub returns : goal.returns
returns c = λ _.
    with_none (ap (map (term_times (term_of c.args.factor))) (from_all (value (tree_of c.args.a.now c.args.pool.now)) c.loop-at.at (omega (arith, c.term_count-at-end.ensures, c.loop-at-test.false)))) c.loop-at.invariant
