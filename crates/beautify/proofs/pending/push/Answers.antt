use Rattle.beautify.proofs.{Shared.{List, ◌+◌, sym, subst, Owes, Pending, with_next, next_room}, Pushing.pushed}
use Rattle.beautify.proofs.pending.push.Goals as goal

pub returns-clause-owed : goal.returns-clause-owed
returns-clause-owed c f us r o h =
    let items = rw c.unwrap.ensures at c.push.ensures.items in
    subst (λ (ps : List Pending). Owes ps f (with_next c.args.next f us) (r + next_room c.args.next f)) (sym items) (pushed c.args.next o h)
