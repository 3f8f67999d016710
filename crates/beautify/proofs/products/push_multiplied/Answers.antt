use Rattle.beautify.proofs.{Shared.{ℕ, ◌+◌, sym, ap, subst, arith, Tree, more, behind, first, product_of, Owes}, Pushing.owes_as, Resolving.multiplied_is}
use Rattle.beautify.proofs.products.push_multiplied.Goals as goal

pub returns-then-factors-eq0-clause-owed : goal.returns-then-factors-eq0-clause-owed
returns-then-factors-eq0-clause-owed c f us r o h =
    subst (λ (n : ℕ). Owes c.push.new.pending.items f (more (product_of (first n us)) (behind n us)) (r + 16)) (sym c.if-factors-eq0.true) (c.push.ensures.owed f us r o tt)

pub returns-then-factors-gt1-clause-owed : goal.returns-then-factors-gt1-clause-owed
returns-then-factors-gt1-clause-owed c f us r o h =
    owes_as (c.push_over.ensures.owed f us r o h) (ap (λ (t : Tree). more t (behind c.args.factors us)) (multiplied_is c.args.factors us c.if-factors-gt1.true h)) (omega arith)

pub returns-then-factors-gt1-clause-some : goal.returns-then-factors-gt1-clause-some
returns-then-factors-gt1-clause-some c f us r o p h =
    owes_as (c.push_over.ensures.owed f us r o h) (ap (λ (t : Tree). more t (behind c.args.factors us)) (multiplied_is c.args.factors us c.if-factors-gt1.true h)) (omega arith)
