use Rattle.std.proofs.Common.{◌≡◌, ◌∙◌, ◌+◌, true, inr, refl, sym, ap}
use Rattle.tree_handles.proofs.Seen.{live}
use Rattle.calc_session.proofs.Shared.{TripsRose, states, size, free_of, Tree, tree_of, plain, tree_at, forest, given_handed, given_told, is_number, is_reduced, root_kind, expression, seen, IsAnswerTo}
use Rattle.calc_session.proofs.EvaluationLemmas.{defined_by_kind, gives_told, none_tripped, undef_by_kind}
use Rattle.calc_session.proofs.estimating.reduce_to_number.Goals.{After-id-id, After-kind, After-is_reduced_number}
use Rattle.calc_session.proofs.estimating.reduce_to_number.Goals as goal

same : (g : _) (c : After-id-id g) → plain (tree_at c.id-id.result (forest c.reduce_tree.new.pool)) ≡ tree_of c.in-Ok.answer c.reduce_tree.new.pool
same g c = seen c.id-id.ensures c.reduce_tree.ensures.stands (given_handed c.in-Ok.ensures.answer)

kind_is : (g : _) (c : After-kind g) → c.kind.result ≡ root_kind (tree_of c.in-Ok.answer c.reduce_tree.new.pool)
kind_is g c =
    c.kind.ensures.plain (expression c.id-id.ensures c.reduce_tree.ensures.stands (given_handed c.in-Ok.ensures.answer))
    ∙ ap root_kind (seen c.id-id.ensures c.reduce_tree.ensures.stands (given_handed c.in-Ok.ensures.answer))

pub kind-requires-clause-live : goal.kind-requires-clause-live
kind-requires-clause-live g c = live c.reduce_tree.new.pool c.id-id.ensures (given_handed c.in-Ok.ensures.answer).root

pub is_reduced_number-requires : goal.is_reduced_number-requires
is_reduced_number-requires g c = record {
  stands = c.reduce_tree.ensures.stands;
  expression = expression c.id-id.ensures c.reduce_tree.ensures.stands (given_handed c.in-Ok.ensures.answer);
  reduced = ap is_reduced (same g (goal.at.is_reduced_number-requires g c).After-id-id) ∙ (given_told c.in-Ok.ensures.answer).0.reduces.reduced;
}

pub returns-in-Undef-clause-none : goal.returns-in-Undef-clause-none
returns-in-Undef-clause-none g c = (
  tree_of c.in-Ok.answer c.reduce_tree.new.pool,
  record { calm = c.in-Ok.ensures.calm; answers = (given_told c.in-Ok.ensures.answer).0 },
  undef_by_kind _ (sym (kind_is g (goal.at.returns-in-Undef-clause-none g c).After-kind) ∙ c.in-Undef.is),
)

pub returns-then-is_reduced_number : goal.returns-then-is_reduced_number
returns-then-is_reduced_number g c =
    let a = c.in-Ok.ensures.answer in
    let t = tree_of c.args.tree c.args.pool.now in
    let rose = TripsRose (states g.B.Breaker.state c.args.watch.now) (states g.B.Breaker.state c.reduce_tree.new.watch) in
    let is : is_number (tree_of c.in-Ok.answer c.reduce_tree.new.pool) ≡ true = ap is_number (sym (same g (goal.at.returns-then-is_reduced_number g c).After-id-id)) ∙ sym c.is_reduced_number.ensures ∙ c.if-is_reduced_number.true in
    record {
      number = gives_told (λ (u : Tree). IsAnswerTo (free_of c.args.pool.now + size t) t u × (is_number u ≡ true)) a ((given_told a).0, is);
      calm = c.in-Ok.ensures.calm;
      none = tt;
      interrupted = λ place. (λ e. cc, λ p. absurd (none_tripped c.in-Ok.answer rose c.in-Ok.ensures.interrupted place p));
      kept = c.in-Ok.ensures.kept;
      counted = tt;
      front = c.reduce_tree.ensures.front;
      stands = c.reduce_tree.ensures.stands;
    }

pub returns-else-is_reduced_number : goal.returns-else-is_reduced_number
returns-else-is_reduced_number g c =
    let rose = TripsRose (states g.B.Breaker.state c.args.watch.now) (states g.B.Breaker.state c.reduce_tree.new.watch) in
    record {
      number = tt;
      calm = tt;
      none = inr (
        refl,
        record {
          answer = tree_of c.in-Ok.answer c.reduce_tree.new.pool;
          reduced = record { calm = c.in-Ok.ensures.calm; answers = (given_told c.in-Ok.ensures.answer).0 };
          defined = defined_by_kind _ (λ k. c.in_default.not-Undef (kind_is g (goal.at.returns-else-is_reduced_number g c).After-kind ∙ k));
          no_number = ap is_number (sym (same g (goal.at.returns-else-is_reduced_number g c).After-id-id)) ∙ sym c.is_reduced_number.ensures ∙ c.if-is_reduced_number.false;
        },
      );
      interrupted = λ place. (λ e. cc, λ p. absurd (none_tripped c.in-Ok.answer rose c.in-Ok.ensures.interrupted place p));
      kept = tt;
      counted = c.in-Ok.ensures.kept;
      front = c.reduce_tree.ensures.front;
      stands = c.reduce_tree.ensures.stands;
    }
