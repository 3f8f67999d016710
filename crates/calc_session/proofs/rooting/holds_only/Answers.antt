use Rattle.std.proofs.Common.{refl, subst, sym}
use Rattle.calc_terms.specs.Leaf.{name_of}
use Rattle.linear_solve.specs.Listed.{names_listed}
use Rattle.calc_session.proofs.Shared.{forest, plain, tree_at}
use Rattle.calc_session.proofs.OnlyNames.{holds_another, holds_only, holds_over_six, never_both}
use Rattle.calc_session.specs.Rooted.{AreOnly}
use Rattle.calc_session.proofs.rooting.holds_only.Goals as goal

pub returns-in-Some-clause-only : goal.returns-in-Some-clause-only
returns-in-Some-clause-only c = λ h. holds_only (name_of c.args.name) (plain (tree_at c.args.id (forest c.args.pool.now))) (names_listed c.in-Some.held.items) c.in-Some.ensures.some
    (subst (λ ns. AreOnly (name_of c.args.name) (names_listed ns)) c.as_slice.ensures.value (c.are_only.ensures.0 h))

pub returns-in-Some-clause-other : goal.returns-in-Some-clause-other
returns-in-Some-clause-other c = λ h. holds_another (name_of c.args.name) (plain (tree_at c.args.id (forest c.args.pool.now))) (names_listed c.in-Some.held.items) c.in-Some.ensures.some
    (λ o. never_both c.are_only.result (c.are_only.ensures.1 (subst (λ ns. AreOnly (name_of c.args.name) (names_listed ns)) (sym c.as_slice.ensures.value) o)) h)

pub returns-in-None-clause-other : goal.returns-in-None-clause-other
returns-in-None-clause-other c = λ h. holds_over_six (name_of c.args.name) (plain (tree_at c.args.id (forest c.args.pool.now))) (c.in-None.ensures.none refl)
