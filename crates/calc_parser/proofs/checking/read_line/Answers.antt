use Rattle.calc_parser.proofs.{Shared.{rules, option_map, name_of, bare, tokens_of, IsNoLine, steps_in, tokens_in, IsSplit}, Checks.{line_of_sum, sum_of_line}, Runs.on_err}
use Rattle.calc_parser.proofs.{LineSteps.{same_split, steps_of_none, steps_of_sum}, checking.read_line.Goals.After-read}
use Rattle.calc_parser.proofs.checking.read_line.Goals as goal

-- the tokens before the store
split : (c : After-read) → IsSplit (bare (tokens_of c.args.tokens.now)) (tokens_in c.without_store-store.result.0.now) (option_map name_of c.without_store-store.result.1)
split c = same_split c.items.result.now (tokens_of c.args.tokens.now) _ _ c.items.ensures.tokens c.without_store-store.ensures.split

pub returns-in_err-read : goal.returns-in_err-read
returns-in_err-read c =
    let ts = bare (tokens_of c.args.tokens.now) in
    let none : IsNoLine ts = λ store t d. c.in_err-read.ensures.no_sum t (sum_of_line ts _ _ store t (split (goal.at.returns-in_err-read c).After-read) d) in
    record { no_line = on_err (IsNoLine ts) c.from_residual.result none; made = steps_of_none (steps_in c.read.new.self.postfix) ts none; line = search rules }

pub returns-clause-line : goal.returns-clause-line
returns-clause-line c = let (t, d, e) = c.in_ok-read.ensures.sum in (t, line_of_sum _ _ _ t (split (goal.at.returns-clause-line c).After-read) d)

pub returns-clause-made : goal.returns-clause-made
returns-clause-made c = let (t, d, e) = c.in_ok-read.ensures.sum in steps_of_sum (steps_in c.read.new.self.postfix) (bare (tokens_of c.args.tokens.now)) _ _ t (split (goal.at.returns-clause-made c).After-read) d e
