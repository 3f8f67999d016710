use Rattle.number_forms.proofs.Shared.{◌≡◌, sym, ap, ◌∙◌, drop, root_kind, plain, tree_at, forest, first_kind, is_multiple_next, is_number_next, one_at, visits_of}
use Rattle.number_forms.proofs.{TermNodes.{number_has_shape, other_shape, product_has_shape, root_has_shape, root_next}, shape.has_term_shape.Goals.{After-next_kind}}
use Rattle.number_forms.proofs.shape.has_term_shape.Goals as goal

kind-is : (c : After-next_kind) → c.next_kind.result ≡ root_kind (plain (tree_at c.args.id (forest c.args.pool.now)))
kind-is c =
    let f = forest c.args.pool.now in
    c.next_kind.ensures.kind ∙ ap first_kind c.nodes_of-nodes.ensures ∙ root_next (tree_at c.args.id f) (one_at c.args.id f c.requires.expression.live) c.requires.expression.whole

left-are : (c : After-next_kind) → c.next_kind.new.nodes ≡ drop 1 (visits_of (tree_at c.args.id (forest c.args.pool.now)))
left-are c = c.next_kind.ensures.rest ∙ ap (drop 1) c.nodes_of-nodes.ensures

pub returns-in-Num : goal.returns-in-Num
returns-in-Num c = number_has_shape _ (sym (kind-is (goal.at.returns-in-Num c).After-next_kind) ∙ c.in-Num.is)

pub returns-in-Root : goal.returns-in-Root
returns-in-Root c =
    let at = (goal.at.returns-in-Root c).After-next_kind in
    c.is_number_next.ensures ∙ ap is_number_next (left-are at) ∙ root_has_shape (tree_at c.args.id (forest c.args.pool.now)) c.requires.expression.whole (sym (kind-is at) ∙ c.in-Root.is)

pub returns-then-children-eq2 : goal.returns-then-children-eq2
returns-then-children-eq2 c =
    let at = (goal.at.returns-then-children-eq2 c).After-next_kind in c.is_multiple_next.ensures ∙ ap is_multiple_next (left-are at)
    ∙ product_has_shape (tree_at c.args.id (forest c.args.pool.now)) c.requires.expression.whole (sym (kind-is at) ∙ c.in-Mult.is)
    (sym (c.children.ensures.plain c.requires.expression) ∙ c.if-children-eq2.true)

pub returns-in_default : goal.returns-in_default
returns-in_default c =
    let is = kind-is (goal.at.returns-in_default c).After-next_kind in
    other_shape _ (λ k. c.in_default.not-Num (is ∙ k)) (λ k. c.in_default.not-Root (is ∙ k)) (λ k. c.in_default.not-Mult (is ∙ k))
