use Rattle.calc_parser.proofs.{Shared.{refl, arith, token_of, tokens_in}, Checks.{short_stores_nothing, unstored, tokens_before_two}, Runs.count_tokens}
use Rattle.calc_parser.proofs.checking.without_store.Goals.{in-Some+in-Some-split_last+in_default-stored, in-Some+in_default-split_last, in_default}
use Rattle.calc_parser.proofs.checking.without_store.Goals as goal

pub returns-clause-split : goal.returns-clause-split
returns-clause-split c =
    let tokens = c.args.tokens.now in
    elim c.match-split_last.branch [
      | in-Some+in-Some-split_last+in_default-stored w ↦ (
        refl,
        unstored (tokens_in tokens) (tokens_in w.in-Some-split_last.sum.now) (token_of w.in-Some-split_last.arrow.now.what) (token_of w.in-Some.last.now.what)
            (tokens_before_two tokens w.in-Some.front.now w.in-Some-split_last.sum.now w.in-Some-split_last.arrow.now w.in-Some.last.now (w.in-Some.ensures.cases.0) (w.in-Some-split_last.ensures.cases.0))
            w.in_default-stored.ensures,
      )
      | in-Some+in_default-split_last w ↦ (
        refl,
        short_stores_nothing (tokens_in tokens) (omega (arith, count_tokens tokens, w.in_default-split_last.ensures.cases, w.in-Some.ensures.cases.1)),
      )
      | in_default w ↦ (refl, short_stores_nothing (tokens_in tokens) (omega (arith, count_tokens tokens, w.in_default.ensures.cases)))
    ]
