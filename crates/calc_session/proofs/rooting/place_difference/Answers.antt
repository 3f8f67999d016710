use Rattle.std.proofs.Common.{◌≡◌, ◌∙◌, Some, refl, sym, subst, arith}
use Rattle.calc_session.proofs.RootingLemmas.{unplaced}
use Rattle.calc_session.proofs.Shared.{err_from_is_err_and, added_begin, added_few, adds_more, adds_one, adds_over, free_of, forest, reason_of, refusal_in, values, Unmade, fills, made, equation, nothing, CountsRefusal}
use Rattle.calc_session.proofs.{BuiltSides.{entries_there, values_there}, EvaluationLemmas.{keeps_then}, PlacingLemmas.{front_of_all}}
use Rattle.calc_session.specs.{Rooting.{lacks_a_side}, Solving.{at_left, at_right}}
use Rattle.calc_terms.specs.declared.kind.Kind.TheVariants as kind
use Rattle.calc_session.proofs.rooting.place_difference.Goals as goal

pub build_side-requires-2-clause-entries : goal.build_side-requires-2-clause-entries
build_side-requires-2-clause-entries c = let (e, r) = c.requires.reads in
    entries_there c.requires.stands c.requires.entries (adds_one c.requires.stands (c.in_ok-_left.ensures.built e.left r.left).adds)

pub returns-in_err-_left-clause-refused : goal.returns-in_err-_left-clause-refused
returns-in_err-_left-clause-refused c = λ e r. let p = err_from_is_err_and c.from_residual.result c.from_residual.ensures.1 in
    rw (p.1, p.2) (lacks_a_side (at_left (c.in_err-_left.ensures.refused e.left r.left)))

pub returns-in_err-_right-clause-refused : goal.returns-in_err-_right-clause-refused
returns-in_err-_right-clause-refused c = λ e r. let p = err_from_is_err_and c.from_residual-in_err-_right.result c.from_residual-in_err-_right.ensures.1 in
    let l = c.in_ok-_left.ensures.built e.left r.left in
    let same = values_there c.requires.stands c.requires.entries (adds_one c.requires.stands l.adds) in
    rw (p.1, p.2) (lacks_a_side (at_right l.is_made (subst (λ vs. Unmade (made (free_of c.build_side.new.pool) vs e.right) (reason_of c.in_err-_right.field-0.0)) same (c.in_err-_right.ensures.refused e.right r.right))))

pub returns-in_err-_right-clause-counted : goal.returns-in_err-_right-clause-counted
returns-in_err-_right-clause-counted c = let p = err_from_is_err_and c.from_residual-in_err-_right.result c.from_residual-in_err-_right.ensures.1 in
    let (e, r) = c.requires.reads in
    rw (p.1, p.2) (keeps_then (refusal_in (reason_of c.in_err-_right.field-0.0)) c.args.pool.now c.build_side.new.pool c.build_side-2.new.pool (c.in_ok-_left.ensures.built e.left r.left).adds.kept c.in_err-_right.ensures.counted)

pub node_over_last-requires-clause-few : goal.node_over_last-requires-clause-few
node_over_last-requires-clause-few c = let (e, r) = c.requires.reads in
    omega (arith, added_few (adds_more (adds_one c.requires.stands (c.in_ok-_left.ensures.built e.left r.left).adds) (c.in_ok-_right.ensures.built e.right r.right).adds))

pub node_over_last-requires-clause-begin : goal.node_over_last-requires-clause-begin
node_over_last-requires-clause-begin c = let (e, r) = c.requires.reads in
    c.used-begin.ensures.value ∙ added_begin 2 c.requires.stands (adds_more (adds_one c.requires.stands (c.in_ok-_left.ensures.built e.left r.left).adds) (c.in_ok-_right.ensures.built e.right r.right).adds) refl

pub returns-in-Ok-clause-placed : goal.returns-in-Ok-clause-placed
returns-in-Ok-clause-placed c = λ e r.
    let l = c.in_ok-_left.ensures.built e.left r.left in
    let m = c.in_ok-_right.ensures.built e.right r.right in
    let one = adds_one c.requires.stands l.adds in
    record {
      rest = free_of c.build_side-2.new.pool;
      sides = record { left = l.built; right = m.built };
      become = equation l.is_made (subst (λ vs. made (free_of c.build_side.new.pool) vs e.right ≡ fills (free_of c.build_side-2.new.pool) m.built) (values_there c.requires.stands c.requires.entries one) m.is_made) nothing;
      adds = adds_over kind.Sub 2 (adds_more one m.adds) refl refl c.in-Ok.ensures.ok c.in-Ok.ensures.kept c.node_over_last.ensures.stands;
    }

pub returns-in-Ok-clause-front : goal.returns-in-Ok-clause-front
returns-in-Ok-clause-front c =
    let (e, r) = c.requires.reads in
    let one = adds_one c.requires.stands (c.in_ok-_left.ensures.built e.left r.left).adds in
    front_of_all (adds_one c.requires.stands (adds_over kind.Sub 2 (adds_more one (c.in_ok-_right.ensures.built e.right r.right).adds) refl refl c.in-Ok.ensures.ok c.in-Ok.ensures.kept c.node_over_last.ensures.stands))

pub returns-in-Err-clause-refused : goal.returns-in-Err-clause-refused
returns-in-Err-clause-refused c = λ e r.
    let l = c.in_ok-_left.ensures.built e.left r.left in
    let m = c.in_ok-_right.ensures.built e.right r.right in
    let one = adds_one c.requires.stands l.adds in
    let next : made (free_of c.build_side.new.pool) (values c.args.table.now (forest c.args.pool.now)) e.right ≡ fills (free_of c.build_side-2.new.pool) m.built
    = subst (λ vs. made (free_of c.build_side.new.pool) vs e.right ≡ fills (free_of c.build_side-2.new.pool) m.built) (values_there c.requires.stands c.requires.entries one) m.is_made in
    unplaced c.in-Err.full c.refused.result (free_of c.build_side-2.new.pool) (equation l.is_made next nothing) c.refused.ensures c.in-Err.ensures.full.told c.in-Err.ensures.full.lacks.lacking

pub returns-in-Err-clause-counted : goal.returns-in-Err-clause-counted
returns-in-Err-clause-counted c =
    let (e, r) = c.requires.reads in
    let two = adds_more (adds_one c.requires.stands (c.in_ok-_left.ensures.built e.left r.left).adds) (c.in_ok-_right.ensures.built e.right r.right).adds in
    subst (λ x. CountsRefusal (refusal_in (reason_of x)) c.args.pool.now c.node_over_last.new.pool) (sym c.refused.ensures) (keeps_then (Some c.in-Err.full) c.args.pool.now c.build_side-2.new.pool c.node_over_last.new.pool two.kept c.in-Err.ensures.full.refuses)
