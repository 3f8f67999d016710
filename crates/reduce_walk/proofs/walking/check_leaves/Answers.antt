use Rattle.reduce_walk.proofs.Shared.{ℕ, suc, ◌+◌, ◌≡◌, [], ◌∷◌, ◌++◌, length, ap, ◌∙◌, sym, subst, arith, length-append, CalmChecks, states, CalmChecks-append, BeginWithLeaves, one_calm}
use Rattle.reduce_walk.proofs.Shared.{trips_at_once, trips_within_after, plain, children_of, rest_trees, tree_at, kids_of, forest, trips_more, visits_of, expression_children, passed_on}
use Rattle.reduce_walk.proofs.{Stopping.{leaf_counts}, Walks.{leaves_more, few_children}, LeafVisits.{next_visit}}
use Rattle.reduce_walk.proofs.walking.check_leaves.Goals as goal

pub returns-then-not-is_leaf_kind-clause-leaves : goal.returns-then-not-is_leaf_kind-clause-leaves
returns-then-not-is_leaf_kind-clause-leaves g c = subst (λ (n : ℕ). BeginWithLeaves n (children_of (plain (tree_at c.args.id (forest c.args.pool.now))))) (sym c.loop-node.invariant.counted) c.loop-node.invariant.leaves

pub returns-then-not-is_leaf_kind-clause-checks : goal.returns-then-not-is_leaf_kind-clause-checks
returns-then-not-is_leaf_kind-clause-checks g c = subst (λ (n : ℕ). CalmChecks n (states g.B.Breaker.state c.args.watch.now) (states g.B.Breaker.state c.loop-node.watch)) (sym c.loop-node.invariant.counted) c.loop-node.invariant.calm

pub returns-in_err-check-clause-trips : goal.returns-in_err-check-clause-trips
returns-in_err-check-clause-trips g c =
    let t = next_visit c.args.pool.now c.requires.expression c.loop-node.invariant.visits c.in-Some.ensures.steps in
    passed_on c.from_residual.result c.in_err-check.field-0.0 _ c.from_residual.ensures.0 c.from_residual.ensures.1
    (trips_more (trips_within_after (length c.loop-node.yielded) 1 _ _ _ _ c.loop-node.invariant.calm (trips_at_once 1 _ _ _ (omega arith) c.in_err-check.ensures.interrupted)) (leaf_counts _ _ t.within))

pub overflow_add-leaves : goal.overflow_add-leaves
overflow_add-leaves g c =
    let t = next_visit c.args.pool.now c.requires.expression c.loop-node.invariant.visits c.in-Some.ensures.steps in
    record { fits = omega (arith, c.loop-node.invariant.counted, t.within, expression_children c.args.id (forest c.args.pool.now) c.requires.expression, few_children c.args.id c.requires.stands c.requires.expression.live) }

pub loop-node-preserved : goal.loop-node-preserved
loop-node-preserved g c =
    let t = next_visit c.args.pool.now c.requires.expression c.loop-node.invariant.visits c.in-Some.ensures.steps in
    let ts = children_of (plain (tree_at c.args.id (forest c.args.pool.now))) in
    let more : length c.loop-node.yielded + 1 ≡ length (c.loop-node.yielded ++ c.in-Some.node ∷ []) = omega (arith, length-append c.loop-node.yielded (c.in-Some.node ∷ [])) in
    let next : suc (length c.loop-node.yielded) ≡ length (c.loop-node.yielded ++ c.in-Some.node ∷ []) = omega (arith, more) in
    let leaf = sym c.is_leaf_kind.ensures ∙ c.if-not-is_leaf_kind.false in
    let begins = leaves_more (length c.loop-node.yielded) ts c.loop-node.invariant.leaves t.within (t.kind ∙ leaf) in
    record {
      visits = t.left-are leaf ∙ ap (λ (n : ℕ). visits_of (rest_trees n (kids_of c.args.id (forest c.args.pool.now)))) next;
      counted = omega (arith, c.loop-node.invariant.counted, more);
      leaves = subst (λ (n : ℕ). BeginWithLeaves n ts) next begins;
      calm = subst (λ (n : ℕ). CalmChecks n (states g.B.Breaker.state c.args.watch.now) (states g.B.Breaker.state c.check.new.self)) more (CalmChecks-append (length c.loop-node.yielded) 1 _ _ _ c.loop-node.invariant.calm (one_calm _ _ c.in_ok-check.ensures.calm));
    }

pub returns-clause-leaves : goal.returns-clause-leaves
returns-clause-leaves g c = subst (λ (n : ℕ). BeginWithLeaves n (children_of (plain (tree_at c.args.id (forest c.args.pool.now))))) (sym c.loop-node.invariant.counted) c.loop-node.invariant.leaves

pub returns-clause-checks : goal.returns-clause-checks
returns-clause-checks g c = subst (λ (n : ℕ). CalmChecks n (states g.B.Breaker.state c.args.watch.now) (states g.B.Breaker.state c.loop-node.watch)) (sym c.loop-node.invariant.counted) c.loop-node.invariant.calm
