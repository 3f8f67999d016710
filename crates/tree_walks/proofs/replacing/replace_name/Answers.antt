use Rattle.tree_walks.proofs.{Absent.absent, Filling.IsDone, Shared.{rules, ◌≡◌, Bool, true, false, name_of, plain, given_handed, tree_at, forest}, replacing.replace_name.Goals.{Then-not-holds_name}}
use Rattle.tree_handles.proofs.Seen.{expression}
use Rattle.tree_walks.proofs.replacing.replace_name.Goals as goal

pub holds_name-requires-clause-expression : goal.holds_name-requires-clause-expression
holds_name-requires-clause-expression c = expression c.id-root.ensures c.requires.stands (given_handed c.requires.last)

stays : (c : Then-not-holds_name) → IsDone c.args.tree c.args.tree (name_of c.args.name) (plain (tree_at c.args.source (forest c.args.pool.now))) c.args.pool.now c.args.pool.now
stays c = absent c.id-root.ensures c.requires.stands c.requires.last (λ h. both (c.holds_name.ensures.1 h) c.if-not-holds_name.true)
  where
    both : {t : Bool} → t ≡ true → t ≡ false → ⊥
    both {t} p q = cc

pub returns-then-not-holds_name : goal.returns-then-not-holds_name
returns-then-not-holds_name c =
    record { ok = (stays c).gives; ok_room = (stays c).room; front = (stays c).front; full = search rules; refuses = search rules; lacks = search rules; kept = search rules; stands = search rules }
