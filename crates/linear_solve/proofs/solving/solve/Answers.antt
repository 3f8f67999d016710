use Rattle.std.proofs.Common.{length, map, ◌∙◌, ◌+◌}
use Rattle.linear_solve.proofs.{Shared.{length-map, states, name_of, equations_in, nodes_of_sides, solving_checks, forest}, Results.{if_solved, trips_tell}, Theorem.{forms_are_later, forms_are_many}}
use Rattle.linear_solve.proofs.solving.solve.Goals as goal

pub returns-clause-later_free : goal.returns-clause-later_free
returns-clause-later_free g c = if_solved c.calculate.result c.calculate.ensures.calculated
    (λ forms e. forms_are_later (map name_of c.args.names.now) (equations_in (forest c.args.pool.now) c.args.left.now c.args.right.now) c.requires.distinct c.requires.linear forms e)

pub returns-clause-all_names : goal.returns-clause-all_names
returns-clause-all_names g c = if_solved c.calculate.result c.calculate.ensures.calculated
    (λ forms e. forms_are_many (map name_of c.args.names.now) (equations_in (forest c.args.pool.now) c.args.left.now c.args.right.now) c.requires.distinct c.requires.linear forms e ∙ length-map c.args.names.now name_of)

pub returns-clause-by_the_one_whose_trips_rose : goal.returns-clause-by_the_one_whose_trips_rose
returns-clause-by_the_one_whose_trips_rose g c =
    trips_tell c.calculate.result (nodes_of_sides (equations_in (forest c.args.pool.now) c.args.left.now c.args.right.now) + length c.args.names.now)
    (solving_checks (map name_of c.args.names.now) (equations_in (forest c.args.pool.now) c.args.left.now c.args.right.now))
    (states g.B.Breaker.state c.args.watch.now) (states g.B.Breaker.state c.calculate.new.watch) c.calculate.ensures.checks c.calculate.ensures.stops
