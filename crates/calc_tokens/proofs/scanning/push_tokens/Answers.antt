use Rattle.std.proofs.Common.{◌≡◌, ◌+◌, ◌-◌, length}
use Rattle.calc_tokens.proofs.{Shared.{sym, arith, tokens_of, token_of, place}, Shorter.token_shorter, Scans.{reached_start, reached_blank, reached_token}}
use Rattle.calc_tokens.proofs.scanning.push_tokens.Goals as goal

pub loop-first-init : goal.loop-first-init
loop-first-init c = reached_start c.args.line.now (tokens_of c.args.tokens.now) c.requires.none

pub loop-first-preserved-then-is_blank : goal.loop-first-preserved-then-is_blank
loop-first-preserved-then-is_blank c =
    reached_blank c.args.line.now (tokens_of c.loop-first.tokens) c.loop-first.rest.now c.in-Some.first.now c.in-Some.others.now (c.in-Some.ensures.cases.0) (sym c.if-is_blank.ensures) c.loop-first.invariant

pub loop-first-smaller : goal.loop-first-smaller
loop-first-smaller c = token_shorter c.loop-first.rest.now (token_of c.in_ok-what.what) c.in_ok-what.behind.now c.in_ok-what.ensures.longest

pub loop-first-preserved : goal.loop-first-preserved
loop-first-preserved c =
    let at_is : length c.args.line.now - length c.loop-first.rest.now + 1 ≡ place c.args.line.now c.loop-first.rest.now = omega arith in
    reached_token c.args.line.now c.loop-first.rest.now c.in_ok-what.behind.now (tokens_of c.loop-first.tokens) (tokens_of c.push.new.self) (token_of c.in_ok-what.what) _ c.push.ensures at_is c.in_ok-what.ensures c.loop-first.invariant
