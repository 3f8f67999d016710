use Rattle.std.proofs.Common.{◌≡◌, ◌≤◌, false, [], ap, arith}
use Rattle.calc_session.proofs.{Shared.{is_zero_fraction, rational, size_of_payload, ratio_of, value_of, sizes, free_of}, PlacingLemmas.{placed_none, placed_one, tests_nonzero, with_constant}}
use Rattle.rational128.proofs.SmallLaws.{zero_rational as tests_zero}
use Rattle.calc_session.proofs.forms.place_constant.Goals as goal

pub returns-then-num-eq0-clause-ok : goal.returns-then-num-eq0-clause-ok
returns-then-num-eq0-clause-ok c = placed_none c.args.pool.now (value_of c.args.constant) c.requires.stands (tests_zero c.args.constant c.num.result c.num.ensures.value c.if-num-eq0.true)

pub returns-in_err-tree-clause-enough : goal.returns-in_err-tree-clause-enough
returns-in_err-tree-clause-enough c = λ room.
    let no : is_zero_fraction (value_of c.args.constant) ≡ false = tests_nonzero c.args.constant c.num.result c.num.ensures.value c.if-num-eq0.false in
    let fits : size_of_payload (rational (ratio_of c.args.constant)) ≤ free_of c.args.pool.now = omega (arith, room, ap sizes (with_constant [] (value_of c.args.constant) [] no)) in
    absurd (cc (c.in_err-tree.ensures.exactly.1 fits))

pub returns-clause-ok : goal.returns-clause-ok
returns-clause-ok c =
    placed_one c.args.pool.now c.number.new.pool (value_of c.args.constant) c.in_ok-tree.tree c.requires.stands (tests_nonzero c.args.constant c.num.result c.num.ensures.value c.if-num-eq0.false)
    (record { gives = c.in_ok-tree.ensures.given; kept = c.in_ok-tree.ensures.kept; stands = c.in_ok-tree.ensures.stands })
