use Rattle.square_parts.proofs.{Shared.{◌≡◌, refl, true, false}, Steps.{done_with}, Ends.{next_prime, behind_prime}}
use Rattle.square_parts.proofs.division.Found.divided_by.Goals as goal

pub loop-found-init : goal.loop-found-init
loop-found-init c = record { same = refl; found = c.requires.found; below = (next_prime _ c.requires.next.0 _ c.requires.next.1).below }

pub returns-clause-next : goal.returns-clause-next
returns-clause-next c = λ primes d.
    behind_prime _ primes _ _ (next_prime _ primes _ d) (done_with c.args.prime c.loop-found.found.rest c.loop-found.invariant.below (λ z. let is : false ≡ true = c.loop-found-test.ensures.1 z in cc))
