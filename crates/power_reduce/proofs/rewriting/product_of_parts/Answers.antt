use Rattle.power_reduce.proofs.Shared.{refl, inl, sym, ap, ◌∙◌, arith, gives_without, passed_on, is_num_one, is_mult, mult, more, over_gives, tree_of, children_of, behind_first, behind_new}
use Rattle.power_reduce.proofs.Shared.{front_same, front_at, front_end, front_without, front_after_two, gives_as, given_apart, given_handed, given_rest, given_root, given_told, owned, ends_as}
use Rattle.power_reduce.proofs.{Shared.{last_apart, last_tree, expression, first_factor, first_front, none_given, none_kept, kept_after, LacksBytes, Refuses}, Rooms.{short_below, coefficient_most}}
use Rattle.power_reduce.proofs.PartsOf.{led_by_one, led_by_other, first_handed, first_tree, first_seen, gives_at}
use Rattle.power_reduce.proofs.rewriting.product_of_parts.Goals as goal

pub is_one-requires-clause-expression : goal.is_one-requires-clause-expression
is_one-requires-clause-expression c = expression c.id.ensures c.in_ok-coefficient.ensures.stands (first_handed _ c.in_ok-coefficient.ensures.ok)

pub release-requires-clause-releasable : goal.release-requires-clause-releasable
release-requires-clause-releasable c = inl (first_handed _ c.in_ok-coefficient.ensures.ok).root

pub returns-then-is_one-clause-ok : goal.returns-then-is_one-clause-ok
returns-then-is_one-clause-ok c =
    let g = c.in_ok-coefficient.ensures.ok in
    let one = ap is_num_one (sym (first_seen c.split_product.new.pool c.id.ensures c.in_ok-coefficient.ensures.stands g)) ∙ sym c.is_one.ensures ∙ c.if-is_one.true in
    gives_as (gives_at (gives_without c.in_ok-coefficient.coefficient g.second-given (given_root g.first-given) refl) (c.release.ensures.owned (owned (first_handed _ g)))) (given_rest g.first-given)
    (λ t e. e ∙ ap mult (sym (led_by_one (children_of (tree_of c.args.product c.args.pool.now)) one)))

pub returns-then-is_one-clause-front : goal.returns-then-is_one-clause-front
returns-then-is_one-clause-front c =
    let g = c.in_ok-coefficient.ensures.ok in
    front_at (front_without (behind_new g.first-given.ends (front_without behind_first front_same)) c.split_product.ensures.front) (c.release.ensures.owned (owned (first_handed _ g)))

pub add_child-requires-clause-root : goal.add_child-requires-clause-root
add_child-requires-clause-root c = (first_handed _ c.in_ok-coefficient.ensures.ok).root

pub add_child-requires-clause-apart : goal.add_child-requires-clause-apart
add_child-requires-clause-apart c =
    let g = c.in_ok-coefficient.ensures.ok in
    last_apart c.in_ok-coefficient.coefficient c.in_ok-coefficient.ensures.stands g.second-given.ends (given_root g.first-given)

pub returns-clause-ok : goal.returns-clause-ok
returns-clause-ok c =
    let g = c.in_ok-coefficient.ensures.ok in
    let other = ap is_num_one (sym (first_seen c.split_product.new.pool c.id.ensures c.in_ok-coefficient.ensures.stands g)) ∙ sym c.is_one.ensures ∙ c.if-is_one.false in
    let x = first_factor (given_handed g.second-given) (first_handed _ g) (given_apart g.second-given (given_handed g.first-given)) (ap is_mult (given_told g.second-given)) (c.add_child.ensures.root (given_root g.second-given)) in
    let d = c.add_child.ensures.last _ _ g.second-given.ends (given_root g.first-given) in
    over_gives x.over refl (ends_as d (sym (last_tree d)) (given_rest g.first-given))
    (ap mult ((λ i. more (first_tree _ g i) (children_of (given_told g.second-given i))) ∙ sym (led_by_other (children_of (tree_of c.args.product c.args.pool.now)) other)))

pub returns-clause-front : goal.returns-clause-front
returns-clause-front c =
    let g = c.in_ok-coefficient.ensures.ok in
    let x = first_factor (given_handed g.second-given) (first_handed _ g) (given_apart g.second-given (given_handed g.first-given)) (ap is_mult (given_told g.second-given)) (c.add_child.ensures.root (given_root g.second-given)) in
    front_after_two (behind_new g.second-given.ends (front_end g.first-given.ends (front_without behind_first front_same))) (behind_new g.first-given.ends (front_without behind_first front_same)) c.split_product.ensures.front (first_front x)

pub returns-in_err-coefficient : goal.returns-in_err-coefficient
returns-in_err-coefficient c = record {
  ok = none_given c.from_residual.result _ c.from_residual.ensures.0;
  front = c.split_product.ensures.front;
  kept = none_kept c.from_residual.result _ c.from_residual.ensures.0;
  full = passed_on c.from_residual.result c.in_err-coefficient.field-0.0 (Refuses c.args.pool.now c.split_product.new.pool) c.from_residual.ensures.0 c.from_residual.ensures.1 c.in_err-coefficient.ensures.full.refuses;
  caused = passed_on c.from_residual.result c.in_err-coefficient.field-0.0 (LacksBytes c.split_product.new.pool) c.from_residual.ensures.0 c.from_residual.ensures.1 c.in_err-coefficient.ensures.full.lacks;
  room = grind (arith, passed_on, short_below, coefficient_most);
  stands = c.split_product.ensures.stands;
}

pub returns-then-is_one-clause-kept : goal.returns-then-is_one-clause-kept
returns-then-is_one-clause-kept c = kept_after c.in_ok-coefficient.ensures.kept c.release.ensures.kept

pub returns-clause-kept : goal.returns-clause-kept
returns-clause-kept c = kept_after c.in_ok-coefficient.ensures.kept c.add_child.ensures.kept
