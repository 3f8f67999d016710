use Rattle.product_reduce.proofs.Shared.{◌≡◌, ◌∙◌, ap, sym, inl, arith, kids_of, is_reduced, is_transparent_power, arity, forest, keeps_after, front_at, expression_root, plain_root, kids_of_root}
use Rattle.product_reduce.proofs.{FreeBytes.{split_free}, Beside.{beside_gives, beside_handed, beside_other}, Splits.{two_children, halved, emptied, split_at, unsplit}}
use Rattle.product_reduce.proofs.joining.split_factor.Goals as goal

pub is_transparent_power-requires-clause-expression : goal.is_transparent_power-requires-clause-expression
is_transparent_power-requires-clause-expression c = rw c.id.ensures (expression_root c.requires.stands c.requires.handed)

pub is_transparent_power-requires-clause-reduced : goal.is_transparent_power-requires-clause-reduced
is_transparent_power-requires-clause-reduced c = rw c.id.ensures (ap is_reduced (plain_root c.args.factor c.requires.stands c.requires.handed.root) ∙ c.requires.reduced)

pub take_child-exponent-requires-clause-within : goal.take_child-exponent-requires-clause-within
take_child-exponent-requires-clause-within c = grind (arith, plain_root, kids_of_root, two_children)

pub take_child-base-requires-clause-within : goal.take_child-base-requires-clause-within
take_child-base-requires-clause-within c =
    let seen = rw c.id.ensures at c.is_transparent_power.ensures in
    let t = ap is_transparent_power (sym (plain_root c.args.factor c.requires.stands c.requires.handed.root)) ∙ sym seen ∙ c.if-is_transparent_power.true in
    let x = halved c.args.factor _ _ _ c.requires.handed t (c.take_child-exponent.ensures.last c.requires.handed.root) in
    let k : arity (kids_of c.args.factor (forest c.take_child-exponent.new.pool)) ≡ 1 = ap arity (kids_of_root c.args.factor c.take_child-exponent.ensures.stands x.root) ∙ x.one in
    omega (arith, k)

pub release-requires-clause-releasable : goal.release-requires-clause-releasable
release-requires-clause-releasable c =
    let seen = rw c.id.ensures at c.is_transparent_power.ensures in
    let t = ap is_transparent_power (sym (plain_root c.args.factor c.requires.stands c.requires.handed.root)) ∙ sym seen ∙ c.if-is_transparent_power.true in
    let x = halved c.args.factor _ _ _ c.requires.handed t (c.take_child-exponent.ensures.last c.requires.handed.root) in
    inl (emptied c.args.factor _ _ _ _ _ c.requires.handed.root x (c.take_child-base.ensures.last x.root)).owned.root

pub returns-then-is_transparent_power-clause-ok : goal.returns-then-is_transparent_power-clause-ok
returns-then-is_transparent_power-clause-ok c =
    let seen = rw c.id.ensures at c.is_transparent_power.ensures in
    let t = ap is_transparent_power (sym (plain_root c.args.factor c.requires.stands c.requires.handed.root)) ∙ sym seen ∙ c.if-is_transparent_power.true in
    let x = halved c.args.factor _ _ _ c.requires.handed t (c.take_child-exponent.ensures.last c.requires.handed.root) in
    let y = emptied c.args.factor _ _ _ _ _ c.requires.handed.root x (c.take_child-base.ensures.last x.root) in
    split_at y.split (c.release.ensures.owned y.owned)

pub returns-then-is_transparent_power-clause-front : goal.returns-then-is_transparent_power-clause-front
returns-then-is_transparent_power-clause-front c =
    let seen = rw c.id.ensures at c.is_transparent_power.ensures in
    let t = ap is_transparent_power (sym (plain_root c.args.factor c.requires.stands c.requires.handed.root)) ∙ sym seen ∙ c.if-is_transparent_power.true in
    let x = halved c.args.factor _ _ _ c.requires.handed t (c.take_child-exponent.ensures.last c.requires.handed.root) in
    let y = emptied c.args.factor _ _ _ _ _ c.requires.handed.root x (c.take_child-base.ensures.last x.root) in
    front_at y.front (c.release.ensures.owned y.owned)

pub returns-in_ok-exponent-clause-ok : goal.returns-in_ok-exponent-clause-ok
returns-in_ok-exponent-clause-ok c =
    let seen = rw c.id.ensures at c.is_transparent_power.ensures in
    let t = ap is_transparent_power (sym (plain_root c.args.factor c.requires.stands c.requires.handed.root)) ∙ sym seen ∙ c.if-is_transparent_power.false in
    let one = beside_gives c.in_ok-exponent.ensures.ok in
    unsplit c.args.factor _ _ _ c.requires.handed t one (beside_handed c.args.factor c.one.ensures.leaves.stands (beside_other one c.requires.handed))

pub returns-then-is_transparent_power-clause-placed : goal.returns-then-is_transparent_power-clause-placed
returns-then-is_transparent_power-clause-placed c =
    split_free c.requires.stands c.release.ensures.stands
    (keeps_after _ _ _ c.take_child-exponent.ensures.kept (keeps_after _ _ _ c.take_child-base.ensures.kept c.release.ensures.kept)) c.requires.handed
    (returns-then-is_transparent_power-clause-ok c)

pub returns-in_ok-exponent-clause-placed : goal.returns-in_ok-exponent-clause-placed
returns-in_ok-exponent-clause-placed c = split_free c.requires.stands c.one.ensures.leaves.stands c.in_ok-exponent.ensures.leaves.kept c.requires.handed (returns-in_ok-exponent-clause-ok c)
