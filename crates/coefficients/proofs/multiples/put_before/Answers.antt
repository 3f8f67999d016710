use Rattle.coefficients.proofs.Shared.{ap, ◌∙◌, ◌+◌, ◌≤◌, sym, subst, arith, rational, ratio_of, value_of, Tree, num, mult, more, size, children_of, behind_first, behind_new, front_after_one}
use Rattle.coefficients.proofs.{Shared.{front_same, front_without, gives_as, given_told, given_rest, if_map, refusal_as, tree_of}, Free.{as_product_size, number_refused, product_free}}
use Rattle.calc_terms.proofs.SmallLaws.{passed_on}
use Rattle.number_forms.proofs.Refusals.{keeps_on, lacks_in, none_given, none_kept, refuses_on}
use Rattle.tree_handles.specs.Standing.{LacksBytes, Refuses}
use Rattle.coefficients.proofs.multiples.put_before.Goals as goal

pub returns-clause-ok : goal.returns-clause-ok
returns-clause-ok c =
    let g = c.in_ok-product.ensures.ok in
    if_map c.put_first.result _ _ c.put_first.ensures.ok
    (λ h x. gives_as x (given_rest g) (λ t e. e ∙ ap (λ (u : Tree). mult (more (num (value_of c.args.q)) (children_of u))) (given_told g)))

pub returns-clause-front : goal.returns-clause-front
returns-clause-front c =
    front_after_one (behind_new c.in_ok-product.ensures.ok.ends (front_without behind_first front_same)) c.as_product.ensures.front c.put_first.ensures.front

pub returns-clause-few : goal.returns-clause-few
returns-clause-few c =
    let r = c.in_ok-product.ensures in
    let l = subst (λ (u : Tree). size u ≤ size (tree_of c.args.tree c.args.pool.now) + 8) (sym (given_told r.ok)) (as_product_size (tree_of c.args.tree c.args.pool.now)) in
    refusal_as c.put_first.result c.put_first.ensures.full (λ g x. omega (arith, number_refused (rational (ratio_of c.args.q)) x, product_free c.requires.stands r.stands r.kept c.requires.handed r.ok l))

pub returns-in_err-product-clause-ok : goal.returns-in_err-product-clause-ok
returns-in_err-product-clause-ok c = none_given c.from_residual.result _ c.from_residual.ensures.0

pub returns-in_err-product-clause-kept : goal.returns-in_err-product-clause-kept
returns-in_err-product-clause-kept c = none_kept c.from_residual.result _ c.from_residual.ensures.0

pub returns-in_err-product-clause-full : goal.returns-in_err-product-clause-full
returns-in_err-product-clause-full c = passed_on c.from_residual.result c.in_err-product.field-0.0 (Refuses c.args.pool.now c.as_product.new.pool) c.from_residual.ensures.0 c.from_residual.ensures.1 (c.in_err-product.ensures.full.refuses)

pub returns-in_err-product-clause-caused : goal.returns-in_err-product-clause-caused
returns-in_err-product-clause-caused c = passed_on c.from_residual.result c.in_err-product.field-0.0 (LacksBytes c.as_product.new.pool) c.from_residual.ensures.0 c.from_residual.ensures.1 (c.in_err-product.ensures.full.lacks)

pub returns-clause-kept : goal.returns-clause-kept
returns-clause-kept c = keeps_on _ c.put_first.result c.in_ok-product.ensures.kept c.put_first.ensures.kept

pub returns-clause-full : goal.returns-clause-full
returns-clause-full c = refuses_on _ _ c.put_first.result c.in_ok-product.ensures.kept c.put_first.ensures.full

pub returns-clause-caused : goal.returns-clause-caused
returns-clause-caused c = lacks_in _ _ _ c.put_first.result c.put_first.ensures.full
