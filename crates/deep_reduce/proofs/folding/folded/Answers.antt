use Rattle.deep_reduce.proofs.Shared.{◌≡◌, ap, sym, ◌∙◌, subst, IsNodeAnswer, Trees, Tree, add_op, mul_op, num, root_kind, children_of, kind_of_root, seen, plain, tree_at, tree_of, forest, value_of}
use Rattle.deep_reduce.proofs.{Shared.{rational_fits}, Steps.{two}, Folded.{calculated_is, difference_answered, difference_over, opposite_answered, opposite_over, product_answered}}
use Rattle.deep_reduce.proofs.{Folded.{product_over_these, quotient_over, some_answered, some_told, sum_answered, sum_over_these}, folding.folded.Goals.{After-kind}}
use Rattle.deep_reduce.proofs.folding.folded.Goals as goal

kind-is : (c : After-kind) → c.kind.result ≡ root_kind (tree_of c.args.tree.now c.args.pool.now)
kind-is c = kind_of_root c.id-id.ensures c.requires.stands c.requires.handed c.kind.ensures.plain

children-are : (c : After-kind) (ts : Trees) → children_of (plain (tree_at c.id-id.result (forest c.args.pool.now))) ≡ ts → children_of (tree_of c.args.tree.now c.args.pool.now) ≡ ts
children-are c ts e = ap children_of (sym (seen c.id-id.ensures c.requires.stands c.requires.handed)) ∙ e

pub returns-in_ok-left-in-Add : goal.returns-in_ok-left-in-Add
returns-in_ok-left-in-Add c =
    let k = (goal.at.returns-in_ok-left-in-Add c).After-kind in
    let p = value_of c.in_ok-left-in-Add.left in
    let q = value_of c.in_ok-left-in-Add.right in
    some_answered c.ok.result (sum_over_these (tree_of c.args.tree.now c.args.pool.now) (two (num p) (num q)) (sym (kind-is k) ∙ c.in-Add.is) (children-are k _ c.in_ok-left-in-Add.ensures))
    (some_told c.ok.result (calculated_is add_op p q c.add.result c.ok.result c.ok.ensures.value c.add.ensures.sum c.add.ensures.refused) (λ x h. sum_answered p q (value_of x) h.0 h.1))

pub returns-in_ok-left-in-Mult : goal.returns-in_ok-left-in-Mult
returns-in_ok-left-in-Mult c =
    let k = (goal.at.returns-in_ok-left-in-Mult c).After-kind in
    let p = value_of c.in_ok-left-in-Mult.left in
    let q = value_of c.in_ok-left-in-Mult.right in
    some_answered c.ok-in-Mult.result
    (product_over_these (tree_of c.args.tree.now c.args.pool.now) (two (num p) (num q)) (sym (kind-is k) ∙ c.in-Mult.is) (children-are k _ c.in_ok-left-in-Mult.ensures))
    (some_told c.ok-in-Mult.result (calculated_is mul_op p q c.mul.result c.ok-in-Mult.result c.ok-in-Mult.ensures.value c.mul.ensures.product c.mul.ensures.refused)
    (λ x h. product_answered p q (value_of x) h.0 h.1))

pub returns-in_ok-left-in-Sub : goal.returns-in_ok-left-in-Sub
returns-in_ok-left-in-Sub c =
    let k = (goal.at.returns-in_ok-left-in-Sub c).After-kind in
    let p = value_of c.in_ok-left-in-Sub.left in
    let q = value_of c.in_ok-left-in-Sub.right in
    let n = value_of c.neg-opposite.result in
    some_answered c.ok-in-Sub.result (difference_over (tree_of c.args.tree.now c.args.pool.now) (num p) (num q) (sym (kind-is k) ∙ c.in-Sub.is) (children-are k _ c.in_ok-left-in-Sub.ensures))
    (some_told c.ok-in-Sub.result (calculated_is add_op p n c.add-in-Sub.result c.ok-in-Sub.result c.ok-in-Sub.ensures.value c.add-in-Sub.ensures.sum c.add-in-Sub.ensures.refused)
    (λ x h. difference_answered p q n (value_of x) (rational_fits c.in_ok-left-in-Sub.right) (rational_fits c.neg-opposite.result) c.neg-opposite.ensures h.0 h.1))

pub returns-in_ok-left-in-Div : goal.returns-in_ok-left-in-Div
returns-in_ok-left-in-Div c =
    let k = (goal.at.returns-in_ok-left-in-Div c).After-kind in
    some_answered c.quotient.result (quotient_over (tree_of c.args.tree.now c.args.pool.now) _ _ (sym (kind-is k) ∙ c.in-Div.is) (children-are k _ c.in_ok-left-in-Div.ensures)) c.quotient.ensures

pub returns-in_ok-argument-in-Neg : goal.returns-in_ok-argument-in-Neg
returns-in_ok-argument-in-Neg c =
    let k = (goal.at.returns-in_ok-argument-in-Neg c).After-kind in
    let q = c.in_ok-argument-in-Neg.argument in
    let n = c.neg.result in
    subst (λ (t : Tree). IsNodeAnswer t (num (value_of n)))
    (opposite_over (tree_of c.args.tree.now c.args.pool.now) (num (value_of q)) (sym (kind-is k) ∙ c.in-Neg.is) (children-are k _ c.in_ok-argument-in-Neg.ensures))
    (opposite_answered (value_of q) (value_of n) (rational_fits q) (rational_fits n) c.neg.ensures)
