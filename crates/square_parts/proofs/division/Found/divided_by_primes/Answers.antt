use Rattle.square_parts.proofs.{Shared.{◌<◌, ◌*◌, ◌∙◌, sym, subst, rules, drop, IsDividedBelow}, Steps.{rest_positive}, Ends.{starts_with_four, end_by_square, end_by_limit, divided_by_first}}
use Rattle.square_parts.proofs.Ends.{divided_by_none}
use Rattle.square_parts.proofs.division.Found.divided_by_primes.Goals as goal

pub returns-then-from-found-clause-no_other : goal.returns-then-from-found-clause-no_other
returns-then-from-found-clause-no_other c =
    let found = c.loop-primes.found in
    let next = divided_by_first c.loop-primes.primes.now c.in-len4-up.len_at_least found.rest c.loop-primes.invariant.next in
    let small : found.rest < c.from-first.result * c.from-first.result = subst (λ n. found.rest < n) c.from.ensures c.if-from-found.true in
    end_by_square _ found.rest (rest_positive found.root found.clean found.rest c.loop-primes.invariant.found.positive) next
    (subst (λ n. found.rest < n * n) c.from-first.ensures small)

pub divided_by_four-found-requires-clause-next : goal.divided_by_four-found-requires-clause-next
divided_by_four-found-requires-clause-next c =
    let four = starts_with_four c.loop-primes.primes.now c.in-len4-up.len_at_least in
    (drop 4 c.loop-primes.primes.now, rw (c.from-first.ensures, c.from-in-len4-up.ensures, c.from-in-len4-up-2.ensures, c.from-in-len4-up-3.ensures) (subst (λ ps. IsDividedBelow ps c.loop-primes.found.rest) four.list c.loop-primes.invariant.next))

pub loop-primes-preserved : goal.loop-primes-preserved
loop-primes-preserved c =
    let ps = c.loop-primes.primes.now in
    let four = starts_with_four ps c.in-len4-up.len_at_least in
    record {
      same = c.divided_by_four-found.ensures.same ∙ c.loop-primes.invariant.same;
      found = c.divided_by_four-found.ensures.found;
      next = subst (λ qs. IsDividedBelow qs c.divided_by_four-found.result.rest) (sym four.others) (c.divided_by_four-found.ensures.next (drop 4 ps)
          (rw (c.from-first.ensures, c.from-in-len4-up.ensures, c.from-in-len4-up-2.ensures, c.from-in-len4-up-3.ensures) (subst (λ qs. IsDividedBelow qs c.loop-primes.found.rest) four.list c.loop-primes.invariant.next)));
      fours = search rules;
    }

pub returns-clause-no_other : goal.returns-clause-no_other
returns-clause-no_other c = end_by_limit _ (divided_by_none c.loop-primes.primes.now c.in_default.len_below c.loop-primes.invariant.fours _ c.loop-primes.invariant.next)
