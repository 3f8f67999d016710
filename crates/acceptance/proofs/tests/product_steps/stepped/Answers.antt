use Rattle.acceptance.proofs.Shared.{◌≡◌, ◌∙◌, ap, arith, refl, rules, Tree, given_handed, given_told}
use Rattle.std.proofs.Common.{ℕ, List, true}
use Rattle.calc_algebra.specs.Numbers.{is_number}
use Rattle.calc_algebra.specs.Reduced.{is_reduced, are_reduced}
use Rattle.calc_terms.specs.Trees.{symbol, mult, more, none, count, is_mult}
use Rattle.number_forms.proofs.Pairs.{first_handed, pair_apart, pair_trees}
use Rattle.tree_handles.specs.Expressions.{children_of}
use Rattle.acceptance.proofs.tests.product_steps.stepped.Goals as goal

names_reduced : (a b : List ℕ) → are_reduced (more (symbol a) (more (symbol b) none)) ≡ true
unfolding is_reduced is_number
names_reduced a b = refl

pub node_over_two-requires : goal.node_over_two-requires
node_over_two-requires c =
    let a = c.in_ok-first.ensures.given in
    let b = c.in_ok-second.ensures.given in
    record { stands = search rules; takes = search rules; first = first_handed a b; second = given_handed b; apart = pair_apart _ _ a b }

pub product_step-requires : goal.product_step-requires
product_step-requires c =
    let g = c.in_ok-product.ensures.ok in
    let e = given_told g ∙ ap mult (pair_trees _ _ c.in_ok-first.ensures.given c.in_ok-second.ensures.given) in
    record {
      stands = search rules;
      handed = given_handed g;
      product = ap is_mult e;
      some = omega (arith, ap (λ (t : Tree). count (children_of t)) e);
      reduced = ap (λ (t : Tree). are_reduced (children_of t)) e ∙ names_reduced _ _;
    }
