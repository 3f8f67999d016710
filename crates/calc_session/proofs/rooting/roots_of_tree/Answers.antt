use Rattle.std.proofs.Common.{◌≡◌, ◌∙◌, ◌+◌, true, refl, sym, ap, subst}
use Rattle.std.specs.Prelude.{Contains}
use Rattle.calc_terms.specs.{Leaf.{name_of}, Trees.{Tree, names}}
use Rattle.calc_terms.proofs.SmallLaws.{if_ok_map as ok_as}
use Rattle.expansions.proofs.TreeMonomials.{tree_monomials}
use Rattle.expansions.specs.Sums.{AreSame}
use Rattle.expand_forms.proofs.Expansions.{is_expanded as expanded_there, same_polynomial}
use Rattle.calc_session.proofs.Shared.{states, size, is_polynomial, polynomial_of, expanded, free_of, Handle, plain, tree_of, tree_at, forest, given_handed, given_root, given_told, expression_root, plain_root, Refusal, reply_of}
use Rattle.calc_session.proofs.{Shared.{is_no_polynomial}, SolvingLemmas.{calm_refusal, err_as, on_ok}, ExpansionLemmas.{unexpanded_reply}, RootingLemmas.{same_found, same_replies}}
use Rattle.calc_session.proofs.rooting.roots_of_tree.Goals.{After-id, After-id-id, After-is_polynomial, After-expand}
use Rattle.calc_session.specs.Rooting.{HoldsOnly, IsReplyToDifference, holds_another_name, is_expanded, is_not_expanded}
use Rattle.calc_session.specs.declared.answers.Refusal.TheVariants as refusal
use Rattle.calc_session.proofs.rooting.roots_of_tree.Goals as goal

-- the tree at the identifier of its handle
same : (g : _) (c : After-id-id g) → plain (tree_at c.id-id.result (forest c.args.work.now.pool)) ≡ tree_of c.args.tree c.args.work.now.pool
same g c = ap (λ i. plain (tree_at i (forest c.args.work.now.pool))) c.id-id.ensures ∙ plain_root c.args.tree c.requires.ready.stands (given_root c.requires.last)

pub holds_only-requires-clause-expression : goal.holds_only-requires-clause-expression
holds_only-requires-clause-expression g c = rw c.id-id.ensures (expression_root c.requires.ready.stands (given_handed c.requires.last))

pub returns-then-not-holds_only-clause-refused : goal.returns-then-not-holds_only-clause-refused
returns-then-not-holds_only-clause-refused g c = let (y, held, other) = c.holds_only.ensures.other c.if-not-holds_only.true in
    holds_another_name (subst (λ (t : Tree). Contains (names t) y) (same g (goal.at.returns-then-not-holds_only-clause-refused g c).After-id-id) held) other refl

pub returns-then-not-holds_only-clause-interrupted : goal.returns-then-not-holds_only-clause-interrupted
returns-then-not-holds_only-clause-interrupted g c = calm_refusal refusal.TooMany (states g.B.Breaker.state c.args.watch.now) (λ place e. cc)

pub is_polynomial-requires-clause-expression : goal.is_polynomial-requires-clause-expression
is_polynomial-requires-clause-expression g c = rw c.id-id.ensures (expression_root c.requires.ready.stands (given_handed c.requires.last))

-- no other name is left
only : (g : _) (c : After-is_polynomial g) → HoldsOnly (name_of c.args.name) (tree_of c.args.tree c.args.work.now.pool)
only g c = subst (HoldsOnly (name_of c.args.name)) (ap (λ i. plain (tree_at i (forest c.args.work.now.pool))) c.id-id.ensures ∙ plain_root c.args.tree c.requires.ready.stands (given_root c.requires.last)) (c.holds_only.ensures.only c.if-not-holds_only.false)

pub returns-then-not-is_polynomial-clause-refused : goal.returns-then-not-is_polynomial-clause-refused
returns-then-not-is_polynomial-clause-refused g c = let at = goal.at.returns-then-not-is_polynomial-clause-refused g c in
    is_not_expanded (only g at.After-is_polynomial) (is_no_polynomial (ap is_polynomial (sym (same g at.After-id-id)) ∙ sym c.is_polynomial.ensures ∙ c.if-not-is_polynomial.true) refl)

pub returns-then-not-is_polynomial-clause-interrupted : goal.returns-then-not-is_polynomial-clause-interrupted
returns-then-not-is_polynomial-clause-interrupted g c = calm_refusal refusal.NotPolynomial (states g.B.Breaker.state c.args.watch.now) (λ place e. cc)

pub expand-requires-clause-handed : goal.expand-requires-clause-handed
expand-requires-clause-handed g c = given_handed c.requires.last

pub expand-requires-clause-polynomial : goal.expand-requires-clause-polynomial
expand-requires-clause-polynomial g c = ap is_polynomial (sym (same g (goal.at.expand-requires-clause-polynomial g c).After-id-id)) ∙ sym c.is_polynomial.ensures ∙ c.if-not-is_polynomial.false

is : (g : _) (c : After-expand g) → is_polynomial (tree_of c.args.tree c.args.work.now.pool) ≡ true
is g c = ap is_polynomial (sym (ap (λ i. plain (tree_at i (forest c.args.work.now.pool))) c.id-id.ensures ∙ plain_root c.args.tree c.requires.ready.stands (given_root c.requires.last))) ∙ sym c.is_polynomial.ensures ∙ c.if-not-is_polynomial.false

-- and none comes in
only_there : (g : _) (c : After-expand g) → HoldsOnly (name_of c.args.name) (tree_of c.args.tree c.args.work.now.pool)
only_there g c = subst (HoldsOnly (name_of c.args.name)) (ap (λ i. plain (tree_at i (forest c.args.work.now.pool))) c.id-id.ensures ∙ plain_root c.args.tree c.requires.ready.stands (given_root c.requires.last)) (c.holds_only.ensures.only c.if-not-holds_only.false)

-- the expanded tree at the identifier of its handle, and its polynomial
expansion : (g : _) (c : After-id g) → plain (tree_at c.id.result (forest c.expand.new.pool)) ≡ expanded (polynomial_of (tree_of c.args.tree c.args.work.now.pool))
expansion g c = ap (λ i. plain (tree_at i (forest c.expand.new.pool))) c.id.ensures ∙ plain_root c.in-Ok.expansion c.expand.ensures.stands (given_root c.in-Ok.ensures.ok) ∙ given_told c.in-Ok.ensures.ok

same_there : (g : _) (c : After-id g) → AreSame (polynomial_of (plain (tree_at c.id.result (forest c.expand.new.pool)))) (polynomial_of (tree_of c.args.tree c.args.work.now.pool))
same_there g c = same_polynomial (tree_monomials (tree_of c.args.tree c.args.work.now.pool)) (expansion g c)

pub roots_of_expanded-requires-clause-expression : goal.roots_of_expanded-requires-clause-expression
roots_of_expanded-requires-clause-expression g c = rw c.id.ensures (expression_root c.expand.ensures.stands (given_handed c.in-Ok.ensures.ok))

pub roots_of_expanded-requires-clause-expanded : goal.roots_of_expanded-requires-clause-expanded
roots_of_expanded-requires-clause-expanded g c = expanded_there (polynomial_of (tree_of c.args.tree c.args.work.now.pool)) (tree_monomials (tree_of c.args.tree c.args.work.now.pool))
    (expansion g (goal.at.roots_of_expanded-requires-clause-expanded g c).After-id)

pub roots_of_expanded-requires-clause-one_name : goal.roots_of_expanded-requires-clause-one_name
roots_of_expanded-requires-clause-one_name g c = λ y h. let at = goal.at.roots_of_expanded-requires-clause-one_name g c in
    let there = ap (λ i. plain (tree_at i (forest c.expand.new.pool))) c.id.ensures ∙ plain_root c.in-Ok.expansion c.expand.ensures.stands (given_root c.in-Ok.ensures.ok) in
    only_there g at.After-expand y (c.in-Ok.ensures.no_new_name.name y (subst (λ (t : Tree). Contains (names t) y) there h))

pub returns-in-Ok-clause-found : goal.returns-in-Ok-clause-found
returns-in-Ok-clause-found g c = ok_as c.roots_of_expanded.result c.roots_of_expanded.ensures.found (same_found (name_of c.args.name) (same_there g (goal.at.returns-in-Ok-clause-found g c).After-id))

pub returns-in-Ok-clause-expanded : goal.returns-in-Ok-clause-expanded
returns-in-Ok-clause-expanded g c = let at = goal.at.returns-in-Ok-clause-expanded g c in
    on_ok c.roots_of_expanded.result _ (only_there g at.After-expand, is g at.After-expand, c.in-Ok.ensures.one_check_a_node)

pub returns-in-Ok-clause-refused : goal.returns-in-Ok-clause-refused
returns-in-Ok-clause-refused g c = let at = goal.at.returns-in-Ok-clause-refused g c in
    err_as c.roots_of_expanded.result (c.roots_of_expanded.ensures.refused (free_of c.args.work.now.pool + size (tree_of c.args.tree c.args.work.now.pool)))
    (λ r h. is_expanded (only_there g at.After-expand) (is g at.After-expand) c.in-Ok.ensures.one_check_a_node (same_replies (name_of c.args.name) (same_there g at.After-id) h))

pub returns-in-Err-clause-refused : goal.returns-in-Err-clause-refused
returns-in-Err-clause-refused g c = let t = tree_of c.args.tree c.args.work.now.pool in
    let before = states g.B.Breaker.state c.args.watch.now in
    let after = states g.B.Breaker.state c.expand.new.watch in
    let err = c.in-Err.ensures in
    subst (λ (r : Refusal). IsReplyToDifference (name_of c.args.name) (free_of c.args.work.now.pool + size t) before after (free_of c.args.work.now.pool) t (reply_of r)) (sym c.refusal_of.ensures)
    (is_not_expanded (only_there g (goal.at.returns-in-Err-clause-refused g c).After-expand) (unexpanded_reply Handle before after c.in-Err.fault c.requires.ready.stands c.expand.ensures.stands err.refusals c.requires.last c.expand.ensures.front (is g (goal.at.returns-in-Err-clause-refused g c).After-expand)
    err.interrupted err.overflow err.overflow_beyond_bits err.overflow_after_checks err.full err.full_beyond_room err.full_after_checks))
