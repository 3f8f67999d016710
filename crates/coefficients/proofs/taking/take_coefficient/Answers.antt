use Rattle.coefficients.proofs.Shared.{rules, ◌≤◌, ◌∙◌, ap, refl, sym, subst, gives_without, product_tree, Tree, num, count, is_mult, plain, children_of, keeps_none, keeps_after, behind_first}
use Rattle.coefficients.proofs.Shared.{behind_new, front_after_one, front_same, front_end, front_without, gives, gives_as, given_handed, given_other, given_rest, given_same, given_told}
use Rattle.coefficients.proofs.{Shared.{represents_handed, other_root, without_root, forest, kind_of_root, product_kind, no_product_kind}, Bytes.{taking_product, taking_other, as_bytes, never}}
use Rattle.coefficients.proofs.{Bytes.{refused_once, short, short_as, passed_short}, Lengths.{some_factors, product_coefficient, product_part, other_coefficient, other_part}}
use Rattle.coefficients.proofs.Steps.{one_value, one_size}
use Rattle.coefficients.proofs.taking.take_coefficient.Goals as goal

pub split_product-requires-clause-product : goal.split_product-requires-clause-product
split_product-requires-clause-product c =
    product_kind _ (sym c.in-Mult.is ∙ kind_of_root {k = c.kind.result} c.id.ensures c.requires.stands c.requires.handed c.kind.ensures.plain)

pub unwrapped-part-requires : goal.unwrapped-part-requires
unwrapped-part-requires c =
    let m = product_kind _ (sym c.in-Mult.is ∙ kind_of_root {k = c.kind.result} c.id.ensures c.requires.stands c.requires.handed c.kind.ensures.plain) in
    record {
      stands = search rules;
      handed = given_handed c.in_ok-coefficient-in-Mult.ensures.ok.second-given;
      product = ap is_mult (given_told c.in_ok-coefficient-in-Mult.ensures.ok.second-given);
      some = subst (λ (t : Tree). 1 ≤ count (children_of t)) (sym (given_told c.in_ok-coefficient-in-Mult.ensures.ok.second-given)) (some_factors _ m c.requires.reduced c.requires.no_number);
    }

pub move_last-requires : goal.move_last-requires
move_last-requires c =
    let one = c.in_ok-one-in_default.ensures in
    record { stands = one.stands; root = other_root c.args.term one.ok c.requires.handed.root }

pub returns-in_ok-coefficient-in-Mult-clause-ok : goal.returns-in_ok-coefficient-in-Mult-clause-ok
returns-in_ok-coefficient-in-Mult-clause-ok c =
    let g = c.in_ok-coefficient-in-Mult.ensures.ok in
    let m = product_kind _ (sym c.in-Mult.is ∙ kind_of_root {k = c.kind.result} c.id.ensures c.requires.stands c.requires.handed c.kind.ensures.plain) in
    record {
      between = g.between;
      first-given = gives_as g.first-given refl (λ t e. e ∙ product_coefficient _ m);
      second-given = gives_as c.unwrapped-part.ensures.tree (given_rest g.second-given)
          (λ t e. e ∙ ap (λ (x : Tree). product_tree (children_of x)) (given_told g.second-given) ∙ product_part _ m);
    }

pub returns-in_ok-coefficient-in-Mult-clause-front : goal.returns-in_ok-coefficient-in-Mult-clause-front
returns-in_ok-coefficient-in-Mult-clause-front c =
    let g = c.in_ok-coefficient-in-Mult.ensures.ok in
    front_after_one (behind_new g.second-given.ends (front_end g.first-given.ends (front_without behind_first front_same))) c.split_product.ensures.front c.unwrapped-part.ensures.front

pub returns-in_ok-one-in_default : goal.returns-in_ok-one-in_default
returns-in_ok-one-in_default c =
    let one = c.in_ok-one-in_default.ensures in
    let k = kind_of_root {k = c.kind.result} c.id.ensures c.requires.stands c.requires.handed c.kind.ensures.plain in
    let m = no_product_kind _ (λ e. c.in_default.not-Mult (k ∙ sym e)) in
    record {
      ok = record {
        between = without_root c.args.term (forest c.number.new.pool);
        first-given = gives_as (gives_without c.args.term one.given c.requires.handed.root refl) refl (λ t e. e ∙ ap num (one_value c.whole.result c.whole.ensures) ∙ other_coefficient _ m);
        second-given = gives c.move_last.ensures.last (represents_handed (given_other one.given c.requires.handed))
            (ap plain (given_same c.args.term one.given c.requires.handed.root) ∙ other_part _ m);
      };
      front = front_end c.move_last.ensures.last (front_without behind_first (front_end one.ok front_same));
      kept = keeps_after _ _ _ one.kept c.move_last.ensures.kept;
      full = tt;
      exactly = as_bytes (taking_other _ m ∙ one_size c.whole.result c.whole.ensures) one.exactly;
      stands = c.move_last.ensures.stands;
    }

pub returns-in_err-coefficient-in-Mult-clause-full : goal.returns-in_err-coefficient-in-Mult-clause-full
returns-in_err-coefficient-in-Mult-clause-full c =
    let m = product_kind _ (sym c.in-Mult.is ∙ kind_of_root {k = c.kind.result} c.id.ensures c.requires.stands c.requires.handed c.kind.ensures.plain) in
    passed_short c.from_residual.result c.in_err-coefficient-in-Mult.field-0.0 c.from_residual.ensures.1 (short_as (taking_product _ m) c.in_err-coefficient-in-Mult.ensures.full)

pub returns-in_ok-coefficient-in-Mult-clause-exactly : goal.returns-in_ok-coefficient-in-Mult-clause-exactly
returns-in_ok-coefficient-in-Mult-clause-exactly c =
    let m = product_kind _ (sym c.in-Mult.is ∙ kind_of_root {k = c.kind.result} c.id.ensures c.requires.stands c.requires.handed c.kind.ensures.plain) in
    as_bytes (taking_product _ m) c.in_ok-coefficient-in-Mult.ensures.exactly

pub returns-in_err-one-in_default-clause-full : goal.returns-in_err-one-in_default-clause-full
returns-in_err-one-in_default-clause-full c =
    let k = kind_of_root {k = c.kind.result} c.id.ensures c.requires.stands c.requires.handed c.kind.ensures.plain in
    passed_short c.from_residual-in_err-one-in_default.result c.in_err-one-in_default.field-0.0 c.from_residual-in_err-one-in_default.ensures.1
    (short (keeps_none c.args.pool.now) refl (taking_other _ (no_product_kind _ (λ e. c.in_default.not-Mult (k ∙ sym e))) ∙ one_size c.whole.result c.whole.ensures) c.in_err-one-in_default.ensures.full)

pub returns-in_err-one-in_default-clause-exactly : goal.returns-in_err-one-in_default-clause-exactly
returns-in_err-one-in_default-clause-exactly c =
    let k = kind_of_root {k = c.kind.result} c.id.ensures c.requires.stands c.requires.handed c.kind.ensures.plain in
    never c.from_residual-in_err-one-in_default.result c.from_residual-in_err-one-in_default.ensures.0
    (taking_other _ (no_product_kind _ (λ e. c.in_default.not-Mult (k ∙ sym e))) ∙ one_size c.whole.result c.whole.ensures)
    (λ l. refused_once (c.in_err-one-in_default.ensures.exactly.1 l))
