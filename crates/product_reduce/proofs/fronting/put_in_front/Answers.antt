use Rattle.product_reduce.proofs.{Shared.{◌∙◌, ap, sym, arith, is_num_one, is_mult, tree_of, owned, apart, expression_root, plain_root, eqb-sym}, Beside.{beside_handed}}
use Rattle.product_reduce.proofs.{Fronts.{one_in_front, first_put, first_merged, first_kept}, Products.{becomes_as, becomes_at, product_beside, product_once}}
use Rattle.product_reduce.proofs.fronting.put_in_front.Goals as goal

pub is_one-requires-clause-expression : goal.is_one-requires-clause-expression
is_one-requires-clause-expression c = rw c.id.ensures (expression_root c.requires.stands c.requires.handed)

pub is_product-opens-requires-clause-expression : goal.is_product-opens-requires-clause-expression
is_product-opens-requires-clause-expression c = rw c.id-else-is_one.ensures (expression_root c.requires.stands c.requires.handed)

pub add_child-requires-clause-apart : goal.add_child-requires-clause-apart
add_child-requires-clause-apart c =
    apart c.args.product.now c.args.coefficient c.requires.stands (eqb-sym c.args.coefficient c.args.product.now c.requires.apart) c.requires.product.handed.root c.requires.handed.root

pub merge_children-requires-clause-unshared : goal.merge_children-requires-clause-unshared
merge_children-requires-clause-unshared c =
    let b = first_put c.args.product.now c.args.coefficient _ _ _ _ _ (beside_handed c.args.coefficient c.requires.stands c.requires.handed) (product_beside c.args.coefficient c.requires.apart c.requires.product) (c.add_child.ensures.root c.requires.product.handed.root) in
    product_once 0 c.add_child.ensures.stands b.product (omega arith)

pub returns-then-is_one-clause-becomes : goal.returns-then-is_one-clause-becomes
returns-then-is_one-clause-becomes c =
    let seen = rw c.id.ensures at c.is_one.ensures in
    let one = ap is_num_one (sym (plain_root c.args.coefficient c.requires.stands c.requires.handed.root)) ∙ sym seen ∙ c.if-is_one.true in
    becomes_as (becomes_at (product_beside c.args.coefficient c.requires.apart c.requires.product) (c.release.ensures.owned (owned c.requires.handed)))
    (sym (one_in_front (tree_of c.args.coefficient c.args.pool.now) _ one))

pub returns-then-opens-clause-becomes : goal.returns-then-opens-clause-becomes
returns-then-opens-clause-becomes c =
    let h = plain_root c.args.coefficient c.requires.stands c.requires.handed.root in
    let one = rw c.id.ensures at c.is_one.ensures in
    let opens = rw c.id-else-is_one.ensures at c.is_product-opens.ensures in
    let b = first_put c.args.product.now c.args.coefficient _ _ _ _ _ (beside_handed c.args.coefficient c.requires.stands c.requires.handed) (product_beside c.args.coefficient c.requires.apart c.requires.product) (c.add_child.ensures.root c.requires.product.handed.root) in
    first_merged c.args.product.now _ _ _ _ _ b (ap is_mult (sym h) ∙ sym opens ∙ c.if-opens.true) (ap is_num_one (sym h) ∙ sym one ∙ c.if-is_one.false)
    (c.merge_children.ensures.root b.product.handed.root)

pub returns-else-opens-clause-becomes : goal.returns-else-opens-clause-becomes
returns-else-opens-clause-becomes c =
    let h = plain_root c.args.coefficient c.requires.stands c.requires.handed.root in
    let one = rw c.id.ensures at c.is_one.ensures in
    let opens = rw c.id-else-is_one.ensures at c.is_product-opens.ensures in
    let b = first_put c.args.product.now c.args.coefficient _ _ _ _ _ (beside_handed c.args.coefficient c.requires.stands c.requires.handed) (product_beside c.args.coefficient c.requires.apart c.requires.product) (c.add_child.ensures.root c.requires.product.handed.root) in
    first_kept c.args.product.now _ _ _ _ b (ap is_mult (sym h) ∙ sym opens ∙ c.if-opens.false) (ap is_num_one (sym h) ∙ sym one ∙ c.if-is_one.false)
