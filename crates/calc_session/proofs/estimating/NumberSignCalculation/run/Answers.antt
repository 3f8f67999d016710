use Rattle.std.proofs.Common.{◌≡◌, ◌∙◌, ◌+◌, refl, ap, subst}
use Rattle.calc_terms.specs.Trees.{is_num}
use Rattle.calc_algebra.specs.Numbers.{value}
use Rattle.calc_session.proofs.Shared.{states, size, free_of, tree_of, plain, tree_at, forest, without_root, given_handed, given_told, is_number, expression, seen}
use Rattle.calc_session.proofs.EstimatingLemmas.{comes_to_none, no_rational}
use Rattle.decimals.specs.declared.sign.Sign.{Sign}
use Rattle.decimals.specs.{Signs.{IsSignOf}}
use Rattle.enclosures.specs.Rounding.{IsNear}
use Rattle.calc_terms.specs.Fractions.{zero_fraction}
use Rattle.calc_session.specs.Estimating.{LeavesSignOpen, TellsSign, is_open, is_told}
use Rattle.calc_session.proofs.estimating.NumberSignCalculation.run.Goals.{After-id}
use Rattle.calc_session.proofs.estimating.NumberSignCalculation.run.Goals as goal

same : (g : _) (c : After-id g) → plain (tree_at c.id.result (forest c.reduce_to_number.new.pool)) ≡ tree_of c.in-Ok.number c.reduce_to_number.new.pool
same g c = seen c.id.ensures c.reduce_to_number.ensures.stands (given_handed c.in-Ok.ensures.number)

pub sign_of-requires-clause-expression : goal.sign_of-requires-clause-expression
sign_of-requires-clause-expression g c = expression c.id.ensures c.reduce_to_number.ensures.stands (given_handed c.in-Ok.ensures.number)

pub sign_of-requires-clause-number : goal.sign_of-requires-clause-number
sign_of-requires-clause-number g c = ap is_number (same g (goal.at.sign_of-requires-clause-number g c).After-id) ∙ (given_told c.in-Ok.ensures.number).1

pub returns-in-Some-clause-reply : goal.returns-in-Some-clause-reply
returns-in-Some-clause-reply g c =
    let n = given_told c.in-Ok.ensures.number in
    is_told (record { calm = c.in-Ok.ensures.calm; answers = n.0 }) n.1 (record { side = c.in-Some.sign; side_is = subst (λ u. IsSignOf c.in-Some.sign (value u)) (same g (goal.at.returns-in-Some-clause-reply g c).After-id) c.in-Some.ensures.told; text_is = refl })

pub returns-in-None-clause-reply : goal.returns-in-None-clause-reply
returns-in-None-clause-reply g c =
    let n = given_told c.in-Ok.ensures.number in
    let e = same g (goal.at.returns-in-None-clause-reply g c).After-id in
    is_open (record { calm = c.in-Ok.ensures.calm; answers = n.0 }) n.1 (record {
      irrational = no_rational Sign (is_num (tree_of c.in-Ok.number c.reduce_to_number.new.pool)) (λ k. c.in-None.ensures.rational (ap is_num e ∙ k));
      near = subst (λ u. IsNear (value u) zero_fraction) e (c.in-None.ensures.open refl);
    })

pub returns-in-Err-clause-reply : goal.returns-in-Err-clause-reply
returns-in-Err-clause-reply g c =
    let t = tree_of c.args.tree c.args.work.now.pool in
    comes_to_none TellsSign LeavesSignOpen g.R.Reducer.room g.R.Reducer.bits (free_of c.args.work.now.pool + size t) t (states g.B.Breaker.state c.args.watch.now) (states g.B.Breaker.state c.reduce_to_number.new.watch)
    (without_root c.args.tree (forest c.args.work.now.pool)) (forest c.reduce_to_number.new.pool) c.in-Err.evaluation c.in-Err.ensures.none
