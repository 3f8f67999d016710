use Rattle.calc_parser.proofs.{Shared.{sym, subst, What, token_of, forest, Grows, leaf}, Leaves.{ok_as, number_grows, name_grows}}
use Rattle.calc_parser.proofs.building.place_leaf.Goals as goal

pub returns-in-Number-clause-ok : goal.returns-in-Number-clause-ok
returns-in-Number-clause-ok c =
    ok_as c.number.result c.number.ensures.ok (λ h e. subst (λ (w : What). Grows (leaf (token_of w)) (forest c.args.pool.now) (forest c.number.new.pool) h) (sym c.in-Number.is) (number_grows c.in-Number.value h (forest c.args.pool.now) (forest c.number.new.pool) e))

pub returns-in-Name-clause-ok : goal.returns-in-Name-clause-ok
returns-in-Name-clause-ok c =
    ok_as c.symbol.result c.symbol.ensures.ok (λ h e. subst (λ (w : What). Grows (leaf (token_of w)) (forest c.args.pool.now) (forest c.symbol.new.pool) h) (sym c.in-Name.is) (name_grows c.in-Name.name h (forest c.args.pool.now) (forest c.symbol.new.pool) e))
