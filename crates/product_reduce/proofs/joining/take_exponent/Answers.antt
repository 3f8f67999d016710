use Rattle.product_reduce.proofs.Shared.{◌∙◌, ap, refl, arith, keeps_after, is_reduced, exponent_of, forest, owned, front_at, front_end, front_without, front_after_one, factors_in}
use Rattle.product_reduce.proofs.{FreeBytes.{child_free, exponent_free, refusal_told}, Beside.{beside_as, beside_below, behind_beside, behind_clear, taken_factor, without_factor}}
use Rattle.product_reduce.proofs.{Finished.{reduced_nth}, Products.{product_within}}
use Rattle.product_reduce.proofs.joining.take_exponent.Goals as goal

pub take_child-factor-requires-clause-within : goal.take_child-factor-requires-clause-within
take_child-factor-requires-clause-within c = product_within c.args.at c.requires.stands c.requires.product c.requires.within

pub split_factor-requires-clause-handed : goal.split_factor-requires-clause-handed
split_factor-requires-clause-handed c = (taken_factor c.args.at c.requires.product c.requires.within (c.take_child-factor.ensures.last c.requires.product.handed.root)).handed

pub split_factor-requires-clause-reduced : goal.split_factor-requires-clause-reduced
split_factor-requires-clause-reduced c =
    let x = taken_factor c.args.at c.requires.product c.requires.within (c.take_child-factor.ensures.last c.requires.product.handed.root) in
    ap is_reduced x.tree ∙ reduced_nth c.args.at (factors_in c.args.product.now (forest c.args.pool.now)) c.requires.within c.requires.reduced

pub returns-in_err-base-clause-front : goal.returns-in_err-base-clause-front
returns-in_err-base-clause-front c =
    let e = c.take_child-factor.ensures.last c.requires.product.handed.root in
    let x = taken_factor c.args.at c.requires.product c.requires.within e in
    let left = without_factor c.args.at c.requires.product in
    front_after_one (behind_beside x left.front) (front_end e left.front) c.split_factor.ensures.front

pub returns-clause-ok : goal.returns-clause-ok
returns-clause-ok c =
    let x = taken_factor c.args.at c.requires.product c.requires.within (c.take_child-factor.ensures.last c.requires.product.handed.root) in
    let s = c.in_ok-base.ensures.ok in
    record {
      left = _;
      beside = beside_as s.exponent (ap exponent_of x.tree) x.rest (c.release.ensures.owned (owned s.base.handed) ∙ s.base.rest);
      becomes = without_factor c.args.at c.requires.product;
    }

pub returns-clause-front : goal.returns-clause-front
returns-clause-front c =
    let e = c.take_child-factor.ensures.last c.requires.product.handed.root in
    let x = taken_factor c.args.at c.requires.product c.requires.within e in
    let left = without_factor c.args.at c.requires.product in
    let s = c.in_ok-base.ensures.ok in
    front_at (front_without (behind_clear (beside_below s.base (beside_as s.exponent refl x.rest refl)) left.front)
    (front_after_one (behind_beside x left.front) (front_end e left.front) c.split_factor.ensures.front))
    (c.release.ensures.owned (owned s.base.handed))

pub returns-in_err-base-clause-room : goal.returns-in_err-base-clause-room
returns-in_err-base-clause-room c = grind (arith, child_free, refusal_told)

pub returns-clause-placed : goal.returns-clause-placed
returns-clause-placed c =
    exponent_free c.args.at c.requires.stands c.release.ensures.stands
    (keeps_after _ _ _ c.take_child-factor.ensures.kept (keeps_after _ _ _ c.in_ok-base.ensures.leaves.kept c.release.ensures.kept)) c.requires.product c.requires.within
    (returns-clause-ok c)
