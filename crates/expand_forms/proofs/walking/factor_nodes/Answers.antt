use Rattle.expand_forms.proofs.Shared.{arith, children_number, ◌∙◌, sym, forest, plain, product_kind, tree_at}
use Rattle.expand_forms.proofs.FactorWalks.{ahead_below, ahead_itself, factor_itself, number_behind, product_behind, product_kind as product_root}
use Rattle.expand_forms.proofs.walking.factor_nodes.Goals as goal

pub returns-in-Num : goal.returns-in-Num
returns-in-Num c = λ m h.
    ahead_below c.args.term 0 c.args.pool.now c.requires.stands c.requires.expression h
    (number_behind (plain (tree_at c.args.term (forest c.args.pool.now))) (sym c.in-Num.is ∙ c.kind.ensures.plain c.requires.expression)) c.nodes_below.ensures

pub nodes_below-requires-in-Mult-clause-within : goal.nodes_below-requires-in-Mult-clause-within
nodes_below-requires-in-Mult-clause-within c = omega (arith, c.first_factor.ensures.within, children_number c.args.term (forest c.args.pool.now) c.requires.expression)

pub returns-in-Mult : goal.returns-in-Mult
returns-in-Mult c = λ m h.
    let t = plain (tree_at c.args.term (forest c.args.pool.now)) in
    ahead_below c.args.term c.first_factor.result c.args.pool.now c.requires.stands c.requires.expression h (product_behind c.first_factor.result t
    (product_root t (product_kind t (sym c.in-Mult.is ∙ c.kind.ensures.plain c.requires.expression))) c.first_factor.ensures.value) c.nodes_below-in-Mult.ensures

pub returns-in_default : goal.returns-in_default
returns-in_default c = λ m h.
    let k = c.kind.ensures.plain c.requires.expression in
    ahead_itself c.args.term c.args.pool.now c.requires.stands c.requires.expression h
    (factor_itself (plain (tree_at c.args.term (forest c.args.pool.now))) (λ e. c.in_default.not-Num (k ∙ sym e)) (λ e. c.in_default.not-Mult (k ∙ sym e))) c.nodes_of.ensures
