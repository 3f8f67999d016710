use Rattle.square_parts.proofs.{Shared.{◌≡◌, rules, false, ◌∷◌}, Ends.{next_four, without_four}}
use Rattle.square_parts.proofs.division.Found.divided_by_four.Goals as goal

pub one_divides-requires-clause-a : goal.one_divides-requires-clause-a
one_divides-requires-clause-a c = (next_four c.args.a c.args.b c.args.c c.args.d c.requires.next.0 _ c.requires.next.1).first

pub one_divides-requires-clause-b : goal.one_divides-requires-clause-b
one_divides-requires-clause-b c = (next_four c.args.a c.args.b c.args.c c.args.d c.requires.next.0 _ c.requires.next.1).second

pub one_divides-requires-clause-c : goal.one_divides-requires-clause-c
one_divides-requires-clause-c c = (next_four c.args.a c.args.b c.args.c c.args.d c.requires.next.0 _ c.requires.next.1).third

pub one_divides-requires-clause-d : goal.one_divides-requires-clause-d
one_divides-requires-clause-d c = (next_four c.args.a c.args.b c.args.c c.args.d c.requires.next.0 _ c.requires.next.1).fourth

pub returns-then-not-one_divides-clause-next : goal.returns-then-not-one_divides-clause-next
returns-then-not-one_divides-clause-next c = λ primes divided.
    let none : c.one_divides.result ≡ false = search rules in
    without_four c.args.a c.args.b c.args.c c.args.d primes _ (c.one_divides.ensures none) divided

pub divided_by-requires-2-clause-next : goal.divided_by-requires-2-clause-next
divided_by-requires-2-clause-next c = (c.args.c ∷ c.args.d ∷ c.requires.next.0, c.divided_by.ensures.next _ c.requires.next.1)

pub divided_by-requires-3-clause-next : goal.divided_by-requires-3-clause-next
divided_by-requires-3-clause-next c = (c.args.d ∷ c.requires.next.0, c.divided_by-2.ensures.next _ (c.divided_by.ensures.next _ c.requires.next.1))

pub divided_by-requires-4-clause-next : goal.divided_by-requires-4-clause-next
divided_by-requires-4-clause-next c = (c.requires.next.0, c.divided_by-3.ensures.next _ (c.divided_by-2.ensures.next _ (c.divided_by.ensures.next _ c.requires.next.1)))

pub returns-clause-next : goal.returns-clause-next
returns-clause-next c = λ primes divided.
    c.divided_by-4.ensures.next _ (c.divided_by-3.ensures.next _ (c.divided_by-2.ensures.next _ (c.divided_by.ensures.next _ divided)))
