-- Where the name does not occur the tree stays.
use Rattle.name_table.proofs.{Shared.{◌≡◌, Bool, true, false, arith, tree_at, name_of, free_of, plain, tree_of, forest, given_handed, expression, absent, IsDone}, Fillings.{filled_one, put_in}}
use Rattle.name_table.proofs.table.fill_next.Goals.{Then-not-holds_name}
use Rattle.name_table.proofs.table.fill_next.Goals as goal

pub holds_name-requires-clause-expression : goal.holds_name-requires-clause-expression
holds_name-requires-clause-expression c = expression c.id.ensures c.requires.stands (given_handed c.requires.last)

stays : (c : Then-not-holds_name) → IsDone c.args.tree c.args.tree (name_of c.args.name) (plain (tree_at c.args.source (forest c.args.pool.now))) c.args.pool.now c.args.pool.now
stays c = absent c.id.ensures c.requires.stands c.requires.last (λ h. both (c.holds_name.ensures.1 h) c.if-not-holds_name.true)
  where
    both : {t : Bool} → t ≡ true → t ≡ false → ⊥
    both {t} p q = cc

pub returns-then-not-holds_name-clause-ok : goal.returns-then-not-holds_name-clause-ok
returns-then-not-holds_name-clause-ok c = put_in (name_of c.args.name) c.args.source (tree_of c.args.tree c.args.pool.now) c.requires.stands c.requires.last c.requires.root (stays c).gives

pub returns-then-not-holds_name-clause-ok_room : goal.returns-then-not-holds_name-clause-ok_room
returns-then-not-holds_name-clause-ok_room c =
    filled_one c.args.pool.now (name_of c.args.name) c.args.source (free_of c.args.pool.now) (free_of c.args.pool.now)
    (tree_of c.args.tree c.args.pool.now) c.requires.stands c.requires.last c.requires.root
    (stays c).gives (stays c).room (λ h. omega (arith, c.requires.shallow))

pub returns-then-not-holds_name-clause-front : goal.returns-then-not-holds_name-clause-front
returns-then-not-holds_name-clause-front c = (stays c).front
