use Rattle.calc_parser.proofs.Shared.{◌≤◌, ◌++◌, List, [], length, ap, arith, Token, Tree, IsSum, State, run, start, tokens_in, nodes_in, state_in}
use Rattle.calc_parser.proofs.Runs.{count_tokens, here, run_on, run_stops, run_all, no_sum, on_err, finished_sum, finished_none}
use Rattle.calc_parser.proofs.reader.Reader.read.Goals as goal

pub returns-in_err-take-clause-no_sum : goal.returns-in_err-take-clause-no_sum
returns-in_err-take-clause-no_sum c =
    let tokens = c.args.tokens.now in
    let ts = tokens_in tokens in
    let t = c.index-tokens-at.result in
    let stops = run_stops tokens c.loop-at.at t c.loop-at-test.true c.index-tokens-at.is (state_in (ts ++ []) c.loop-at.self) (run start ts) (c.loop-at.invariant.0 []) in
    on_err ((t : Tree) → IsSum ts t → ⊥) c.from_residual.result
    (no_sum ts (stops (c.in_err-take.ensures.step (ts ++ []) (here tokens c.loop-at.at t c.loop-at-test.true c.index-tokens-at.is []))))

pub loop-at-init : goal.loop-at-init
loop-at-init c = let ts = tokens_in c.args.tokens.now in (λ behind. ap (λ (s : State). run s ts) (c.clear.ensures.state (ts ++ behind)), omega (arith, c.clear.ensures.room))

pub loop-at-preserved : goal.loop-at-preserved
loop-at-preserved c =
    let tokens = c.args.tokens.now in
    let ts = tokens_in tokens in
    let t = c.index-tokens-at.result in (
      λ behind.
          run_on tokens c.loop-at.at t c.loop-at-test.true c.index-tokens-at.is (state_in (ts ++ behind) c.loop-at.self) (run start ts) (c.loop-at.invariant.0 behind) (state_in (ts ++ behind) c.take.new.self)
          (c.in_ok-take.ensures.step (ts ++ behind) (here tokens c.loop-at.at t c.loop-at-test.true c.index-tokens-at.is behind)),
      omega (arith, c.loop-at.invariant.1, c.in_ok-take.ensures.room),
    )

pub returns : goal.returns
returns c =
    let ts = tokens_in c.args.tokens.now in
    let past : length ts ≤ c.loop-at.at = omega (arith, count_tokens c.args.tokens.now) in
    let st = λ (b : List Token). state_in (ts ++ b) c.loop-at.self in
    let nodes = λ (b : List Token). nodes_in (ts ++ b) c.finish.new.self.postfix in
    let ends = λ (b : List Token). run_all ts (st b) c.loop-at.at (run start ts) past (c.loop-at.invariant.0 b) in
    record {
      sum = finished_sum ts st nodes c.finish.result ends (λ b. c.finish.ensures (ts ++ b));
      no_sum = finished_none ts (st []) (nodes []) c.finish.result (ends []) (c.finish.ensures (ts ++ []));
    }
