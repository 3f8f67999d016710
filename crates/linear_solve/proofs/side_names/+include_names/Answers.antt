use Rattle.linear_solve.proofs.{Shared.{◌≡◌, ◌<◌, ◌≤◌, ◌+◌, ℕ, suc, List, sym, ap, ◌∙◌, subst, arith, Contains, count, names, nodes, children_of, plain, tree_at, forest}, TreeLists.{fewer_nodes}}
use Rattle.linear_solve.proofs.RisingLemmas.{first_names, first_names-all, first_names-in, first_names-next, includes_as, includes_both, includes_wider, names_below}
use Rattle.linear_solve.proofs.Places.{below_end, past_end}
use Rattle.linear_solve.proofs.side_names.+include_names.Goals as goal

pub returns-then-is_symbol-clause-included : goal.returns-then-is_symbol-clause-included
returns-then-is_symbol-clause-included t c = includes_as (sym (ap names c.name.ensures.plain)) c.include.ensures.included

pub include_names-requires : goal.include_names-requires
include_names-requires t c =
    let within : c.loop-at.at < count (children_of (plain (tree_at c.args.t (forest c.args.pool.now)))) = below_end (c.children-at-end.ensures.plain c.requires.expression) c.loop-at-test.true in (
      omega (arith, ap nodes (c.child_id.ensures.plain c.requires.expression), fewer_nodes (plain (tree_at c.args.t (forest c.args.pool.now))) c.loop-at.at within, c.decreases),
      (c.requires.stands, (c.child_id.ensures.expression c.requires.expression, c.loop-at.invariant.rises)),
    )

pub returns-then-not-include_names-clause-included : goal.returns-then-not-include_names-clause-included
returns-then-not-include_names-clause-included t c =
    let within : c.loop-at.at < count (children_of (plain (tree_at c.args.t (forest c.args.pool.now)))) = below_end (c.children-at-end.ensures.plain c.requires.expression) c.loop-at-test.true in
    includes_wider
    (λ x m. subst (λ (xs : List (List ℕ)). Contains xs x) (names_below (plain (tree_at c.args.t (forest c.args.pool.now))) (sym c.is_symbol.ensures ∙ c.if-is_symbol.false))
    (first_names-in (suc c.loop-at.at) (children_of (plain (tree_at c.args.t (forest c.args.pool.now)))) x
    (subst (λ (xs : List (List ℕ)). Contains xs x) (sym (first_names-next c.loop-at.at (children_of (plain (tree_at c.args.t (forest c.args.pool.now)))) within)) m)))
    (includes_both c.loop-at.invariant.included (includes_as (ap names (c.child_id.ensures.plain c.requires.expression)) c.if-not-include_names.ensures.included))

pub loop-at-preserved : goal.loop-at-preserved
loop-at-preserved t c =
    let within : c.loop-at.at < count (children_of (plain (tree_at c.args.t (forest c.args.pool.now)))) = below_end (c.children-at-end.ensures.plain c.requires.expression) c.loop-at-test.true in
    let next : suc c.loop-at.at ≡ c.loop-at.at + 1 = omega arith in
    record {
      rises = c.if-not-include_names.ensures.rises;
      included = includes_as (sym (first_names-next c.loop-at.at (children_of (plain (tree_at c.args.t (forest c.args.pool.now)))) within) ∙ ap (λ (n : ℕ). first_names n (children_of (plain (tree_at c.args.t (forest c.args.pool.now))))) next)
          (includes_both c.loop-at.invariant.included (includes_as (ap names (c.child_id.ensures.plain c.requires.expression)) c.if-not-include_names.ensures.included));
    }

pub returns-clause-included : goal.returns-clause-included
returns-clause-included t c =
    let done : count (children_of (plain (tree_at c.args.t (forest c.args.pool.now)))) ≤ c.loop-at.at = past_end (c.children-at-end.ensures.plain c.requires.expression) c.loop-at-test.false in
    includes_as (first_names-all c.loop-at.at (children_of (plain (tree_at c.args.t (forest c.args.pool.now)))) done ∙ names_below (plain (tree_at c.args.t (forest c.args.pool.now))) (sym c.is_symbol.ensures ∙ c.if-is_symbol.false)) c.loop-at.invariant.included
