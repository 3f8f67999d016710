use Rattle.number_forms.proofs.{Shared.{ℕ, ◌∷◌, ◌∙◌, ap, sym, arith, add-one, rules, term_of, tree_of, value}, Loops.{from_all}, ValueLoops.{with_none, with_step}, Worth.{from_next, terms_from}}
use Rattle.number_forms.proofs.values.join_terms.Goals as goal

pub loop-at-preserved : goal.loop-at-preserved
loop-at-preserved c =
    let v = value (tree_of c.args.a.now c.args.pool.now) in let y = term_of c.nth_term.result in
    with_step y (from_next v c.loop-at.at y c.nth_term.ensures ∙ ap (λ (n : ℕ). y ∷ terms_from n v) (sym (add-one c.loop-at.at))) (c.join_one.ensures (search rules)) c.loop-at.invariant

pub returns : goal.returns
returns c = λ _. with_none (from_all (value (tree_of c.args.a.now c.args.pool.now)) c.loop-at.at (omega (arith, c.term_count-at-end.ensures, c.loop-at-test.false))) c.loop-at.invariant
