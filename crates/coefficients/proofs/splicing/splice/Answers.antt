use Rattle.coefficients.proofs.Shared.{rules, ◌∙◌, ap, sym, Trees, mult, more, append, is_mult, plain, children_of, root_tree, forest, keeps_after, behind_first, behind_later, behind_new}
use Rattle.coefficients.proofs.Shared.{front_after_one, front_after_two, front_same, front_without, gives_as, given_handed, given_other, given_apart, given_same, given_told, given_without}
use Rattle.coefficients.proofs.{Shared.{handed_beside, eqb-sym, tree-without, factors_of, kind_of_root, product_kind, no_product_kind}, Factors.{single_factors}, FirstFactors.{product_children}}
use Rattle.coefficients.proofs.splicing.splice.Goals as goal

pub put_factors-spliced-requires : goal.put_factors-spliced-requires
put_factors-spliced-requires c =
    let g = c.in_ok-product-in-Mult.ensures.ok in
    let other = eqb-sym c.args.coefficient c.args.part c.requires.apart in
    let beside = handed_beside c.args.part other c.requires.first in
    let same = ap plain (given_same c.args.coefficient g beside.root ∙ tree-without c.args.part c.args.coefficient (forest c.args.pool.now) other) in
    record {
      stands = search rules;
      first = given_handed c.in_ok-product-in-Mult.ensures.ok;
      second = given_other c.in_ok-product-in-Mult.ensures.ok (handed_beside c.args.part (eqb-sym c.args.coefficient c.args.part c.requires.apart) c.requires.first);
      apart = given_apart c.in_ok-product-in-Mult.ensures.ok (handed_beside c.args.part (eqb-sym c.args.coefficient c.args.part c.requires.apart) c.requires.first);
      product = ap is_mult (given_told c.in_ok-product-in-Mult.ensures.ok);
      factors = ap is_mult same ∙ product_kind _ (sym c.in-Mult.is ∙ kind_of_root {k = c.kind.result} c.id.ensures c.requires.stands c.requires.first c.kind.ensures.plain);
    }

pub put_factor-spliced-requires : goal.put_factor-spliced-requires
put_factor-spliced-requires c =
    let g = c.in_ok-product-in_default.ensures.ok in
    let beside = handed_beside c.args.part (eqb-sym c.args.coefficient c.args.part c.requires.apart) c.requires.first in
    record {
      stands = c.in_ok-product-in_default.ensures.stands;
      first = given_handed g;
      second = given_other g beside;
      apart = given_apart g beside;
      product = ap is_mult (given_told g);
    }

pub returns-in_ok-product-in-Mult-clause-ok : goal.returns-in_ok-product-in-Mult-clause-ok
returns-in_ok-product-in-Mult-clause-ok c =
    let g = c.in_ok-product-in-Mult.ensures.ok in
    let other = eqb-sym c.args.coefficient c.args.part c.requires.apart in
    let beside = handed_beside c.args.part other c.requires.first in
    let same = ap plain (given_same c.args.coefficient g beside.root ∙ tree-without c.args.part c.args.coefficient (forest c.args.pool.now) other) in
    let m = product_kind _ (sym c.in-Mult.is ∙ kind_of_root {k = c.kind.result} c.id.ensures c.requires.stands c.requires.first c.kind.ensures.plain) in
    gives_as c.put_factors-spliced.ensures.tree (given_without g beside)
    (λ t e. e ∙ (λ i. mult (append (children_of (same i)) (children_of (given_told g i))))
    ∙ ap (λ (us : Trees). mult (append us (factors_of (plain (root_tree c.args.part (forest c.args.pool.now)))))) (product_children _ m))

pub returns-in_ok-product-in-Mult-clause-front : goal.returns-in_ok-product-in-Mult-clause-front
returns-in_ok-product-in-Mult-clause-front c =
    front_after_two (behind_new c.in_ok-product-in-Mult.ensures.ok.ends (front_without (behind_later behind_first) front_same)) behind_first
    (front_after_one (behind_later behind_first) front_same c.as_product.ensures.front) c.put_factors-spliced.ensures.front

pub returns-in_ok-product-in_default : goal.returns-in_ok-product-in_default
returns-in_ok-product-in_default c =
    let node = c.in_ok-product-in_default.ensures in
    let g = node.ok in
    let other = eqb-sym c.args.coefficient c.args.part c.requires.apart in
    let beside = handed_beside c.args.part other c.requires.first in
    let same = ap plain (given_same c.args.coefficient g beside.root ∙ tree-without c.args.part c.args.coefficient (forest c.args.pool.now) other) in
    let k = kind_of_root {k = c.kind.result} c.id.ensures c.requires.stands c.requires.first c.kind.ensures.plain in
    let alone = single_factors _ (no_product_kind _ (λ e. c.in_default.not-Mult (k ∙ sym e))) in
    record {
      ok = gives_as c.put_factor-spliced.ensures.tree (given_without g beside)
          (λ t e. e ∙ (λ i. mult (more (same i) (children_of (given_told g i))))
          ∙ sym (ap (λ (us : Trees). mult (append us (factors_of (plain (root_tree c.args.part (forest c.args.pool.now)))))) alone));
      front = front_after_two (behind_new g.ends (front_without (behind_later behind_first) front_same)) behind_first
          (front_after_one (behind_later behind_first) front_same c.as_product-in_default.ensures.front) c.put_factor-spliced.ensures.front;
      kept = keeps_after _ _ _ node.kept c.put_factor-spliced.ensures.kept;
      full = tt;
      exactly = node.exactly;
      stands = c.put_factor-spliced.ensures.stands;
    }
