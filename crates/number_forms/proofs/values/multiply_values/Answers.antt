use Rattle.number_forms.proofs.{Shared.{ℕ, ◌++◌, ◌∙◌, ap, map, sym, arith, add-one, rules, Surd, surd_times, term_of, term_times, tree_of, value}, Loops.{from_all}}
use Rattle.number_forms.proofs.{ValueLoops.{with_none, with_part}, Worth.{rows_next, terms_from}}
use Rattle.number_forms.proofs.values.multiply_values.Goals as goal

pub loop-at-preserved : goal.loop-at-preserved
loop-at-preserved c =
    let v = value (tree_of c.args.a.now c.args.pool.now) in let w = value (tree_of c.args.b.now c.args.pool.now) in
    let x = term_of c.nth_term.result in let row = map (term_times x) w in
    with_part row (rows_next v w c.loop-at.at x c.nth_term.ensures ∙ ap (λ (n : ℕ). row ++ surd_times (terms_from n v) w) (sym (add-one c.loop-at.at)))
    (c.join_products.ensures (search rules)) c.loop-at.invariant

pub returns : goal.returns
returns c = λ _.
    let none = from_all (value (tree_of c.args.a.now c.args.pool.now)) c.loop-at.at (omega (arith, c.term_count-at-end.ensures, c.loop-at-test.false)) in
    with_none (ap (λ (v : Surd). surd_times v (value (tree_of c.args.b.now c.args.pool.now))) none) c.loop-at.invariant
