use Rattle.product_reduce.proofs.Shared.{arith, ◌∙◌, ap, sym, refl, mult, plain, without_root, forest, behind_first, behind_later, front_same, front_end, front_without, front_after_one, gives}
use Rattle.product_reduce.proofs.{Shared.{represents_handed, ends_as, without-swap, eqb-sym, coefficient_before, joined, Becomes, factors_in}, Beside.{beside_becomes, tree_becomes}}
use Rattle.product_reduce.proofs.{Products.{becomes_as, factors_are, product_at}, Pairs.{joined_at}, steps.joined.Goals.{In_ok-join_pair}}
use Rattle.product_reduce.proofs.steps.joined.Goals as goal

pub returns-in_err-join_pair-clause-front : goal.returns-in_err-join_pair-clause-front
returns-in_err-join_pair-clause-front c = front_after_one behind_first front_same c.join_pair.ensures.front

pair_joined : (c : In_ok-join_pair) → Becomes c.args.product (forest c.args.pool.now) (forest c.join_pair.new.pool) (joined (factors_in c.args.product (forest c.args.pool.now)))
pair_joined c = becomes_as c.in_ok-join_pair.ensures.ok (sym (joined_at c.args.first c.args.second (factors_in c.args.product (forest c.args.pool.now)) c.requires.pair))

pub put_in_front-requires : goal.put_in_front-requires
put_in_front-requires c = grind (arith, pair_joined, product_at, factors_are, beside_becomes)

pub returns-clause-ok : goal.returns-clause-ok
returns-clause-ok c =
    let b = pair_joined (goal.at.returns-clause-ok c).In_ok-join_pair in
    let d = c.put_in_front.ensures.becomes in
    let same = ap plain (tree_becomes c.args.coefficient c.requires.stands c.in_ok-join_pair.ensures.leaves.stands c.requires.product b c.requires.coefficient c.requires.apart) in
    let apart = eqb-sym c.args.coefficient c.args.product c.requires.apart in
    let others = d.others ∙ without-swap c.args.product c.args.coefficient (forest c.join_pair.new.pool) apart ∙ ap (without_root c.args.coefficient) b.others ∙ sym (without-swap c.args.product c.args.coefficient (forest c.args.pool.now) apart) in
    gives (ends_as c.move_last.ensures.last refl others) (represents_handed d.product.handed)
    (d.product.tree ∙ (λ i. mult (coefficient_before (same i) (factors_are b.product i))))

pub returns-clause-front : goal.returns-clause-front
returns-clause-front c =
    let start = front_without (behind_later behind_first) (front_after_one behind_first front_same c.join_pair.ensures.front) in
    front_end c.move_last.ensures.last (front_without behind_first (front_after_one behind_first start c.put_in_front.ensures.becomes.front))
