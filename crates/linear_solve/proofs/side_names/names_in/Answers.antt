use Rattle.linear_solve.proofs.Shared.{List, subst, true, false, Contains-append_left, names_listed, Includes, names_at, Listed, forest}
use Rattle.linear_solve.proofs.RisingLemmas.{includes_both, includes_wider, names_are, names_over}
use Rattle.linear_solve.proofs.side_names.names_in.Goals as goal

pub returns-then-not-include_all-clause-none : goal.returns-then-not-include_all-clause-none
returns-then-not-include_all-clause-none c = λ e.
    names_over (forest c.args.pool.now) c.args.left.now c.args.right.now (names_listed c.include_all.new.names.items) c.requires.pairs c.if-not-include_all.ensures.rises
    (includes_wider (λ x m. Contains-append_left (names_at (forest c.args.pool.now) c.args.left.now) (names_at (forest c.args.pool.now) c.args.right.now) x m)
    (subst (λ (xs : List Listed). Includes (names_at (forest c.args.pool.now) c.args.left.now) (names_listed xs) (names_listed c.include_all.new.names.items) false) c.new-names.ensures c.if-not-include_all.ensures.included))

pub returns-then-not-include_all-2-clause-none : goal.returns-then-not-include_all-2-clause-none
returns-then-not-include_all-2-clause-none c = λ e.
    names_over (forest c.args.pool.now) c.args.left.now c.args.right.now (names_listed c.include_all-2.new.names.items) c.requires.pairs c.if-not-include_all-2.ensures.rises
    (includes_both
    (subst (λ (xs : List Listed). Includes (names_at (forest c.args.pool.now) c.args.left.now) (names_listed xs) (names_listed c.include_all.new.names.items) true) c.new-names.ensures c.if-not-include_all.ensures.included)
    c.if-not-include_all-2.ensures.included)

pub returns-clause-some : goal.returns-clause-some
returns-clause-some c =
    names_are (forest c.args.pool.now) c.args.left.now c.args.right.now (names_listed c.include_all-2.new.names.items) c.requires.pairs c.if-not-include_all-2.ensures.rises
    (includes_both
    (subst (λ (xs : List Listed). Includes (names_at (forest c.args.pool.now) c.args.left.now) (names_listed xs) (names_listed c.include_all.new.names.items) true) c.new-names.ensures c.if-not-include_all.ensures.included)
    c.if-not-include_all-2.ensures.included)
