use Rattle.std.proofs.Common.{rules, ◌∙◌, ◌≤◌, [], map, sym, ap, arith}
use Rattle.calc_session.proofs.Shared.{err_from_is_err_and, front_after, refuses_after, name_of, size_of_payload, value_of, sizes, added_begin, added_few, adds_free, entries_of, free_of, form_tree, multiples, summands}
use Rattle.calc_terms.specs.Payload.{bare}
use Rattle.calc_session.proofs.PlacingLemmas.{constant_first, form_many, form_none, front_node, front_of_all, nothing_is, placed_as, summands_sizes, zero_size}
use Rattle.calc_terms.specs.declared.kind.Kind.TheVariants as kind
use Rattle.calc_session.proofs.forms.place_form.Goals as goal

pub returns-in_err-placed : goal.returns-in_err-placed
returns-in_err-placed c =
    let p = err_from_is_err_and c.from_residual.result c.from_residual.ensures.1 in
    let lack = c.in_err-placed.ensures in
    record {
      ok = rw p.1 tt;
      enough = λ room. absurd (cc (lack.enough (omega (arith, room, summands_sizes (map name_of c.args.names.now) (value_of c.args.constant) (entries_of c.args.coefs.now)))));
      refused = rw (p.1, p.2) lack.refused;
      caused = rw (p.1, p.2) lack.caused;
      front = c.place_constant.ensures.front;
      stands = c.place_constant.ensures.stands;
    }

pub place_multiples-requires : goal.place_multiples-requires
place_multiples-requires c = record { stands = c.place_constant.ensures.stands; few = c.requires.few; trees = c.in_ok-placed.ensures.few }

pub returns-in_err-placed-2 : goal.returns-in_err-placed-2
returns-in_err-placed-2 c =
    let p = err_from_is_err_and c.from_residual-in_err-placed-2.result c.from_residual-in_err-placed-2.ensures.1 in
    let lack = c.in_err-placed-2.ensures in
    let constant = c.in_ok-placed.ensures.ok.adds in
    record {
      ok = rw p.1 tt;
      enough = λ room.
          let xs = map name_of c.args.names.now in
          let qs = entries_of c.args.coefs.now in
          let fits : sizes (multiples xs qs) ≤ free_of c.place_constant.new.pool = omega (arith, room, adds_free c.requires.stands constant, summands_sizes xs (value_of c.args.constant) qs) in
          absurd (cc (lack.enough fits));
      refused = rw (p.1, p.2) (refuses_after _ _ _ _ constant.kept lack.refused);
      caused = rw (p.1, p.2) lack.caused;
      front = front_after c.place_constant.ensures.front c.place_multiples.ensures.front;
      stands = c.place_multiples.ensures.stands;
    }

pub node_over_last-requires-clause-few : goal.node_over_last-requires-clause-few
node_over_last-requires-clause-few c =
    let b = c.in_ok-placed-2.ensures.ok c.args.pool.now (summands [] (value_of c.args.constant) []) c.requires.stands c.in_ok-placed.ensures.ok in
    omega (arith, added_few b.adds, b.trees)

pub node_over_last-requires-clause-begin : goal.node_over_last-requires-clause-begin
node_over_last-requires-clause-begin c =
    let b = c.in_ok-placed-2.ensures.ok c.args.pool.now (summands [] (value_of c.args.constant) []) c.requires.stands c.in_ok-placed.ensures.ok in
    c.used-begin.ensures.value ∙ added_begin c.in_ok-placed-2.placed.trees c.requires.stands b.adds (sym b.trees)

pub returns-in-None-clause-ok : goal.returns-in-None-clause-ok
returns-in-None-clause-ok c =
    let xs = map name_of c.args.names.now in
    let qs = entries_of c.args.coefs.now in
    let b = placed_as (c.in_ok-placed-2.ensures.ok c.args.pool.now (summands [] (value_of c.args.constant) []) c.requires.stands c.in_ok-placed.ensures.ok) (constant_first xs (value_of c.args.constant) qs) in
    form_none c.number.result c.whole.result c.args.pool.now c.place_multiples.new.pool c.number.new.pool (summands xs (value_of c.args.constant) qs) c.in_ok-placed-2.placed c.whole.ensures b c.in-None.is c.number.ensures.given c.number.ensures.kept c.number.ensures.stands

pub returns-in-None-clause-enough : goal.returns-in-None-clause-enough
returns-in-None-clause-enough c = λ room.
    let b = c.in_ok-placed-2.ensures.ok c.args.pool.now (summands [] (value_of c.args.constant) []) c.requires.stands c.in_ok-placed.ensures.ok in
    let none = nothing_is _ c.in_ok-placed-2.placed c.args.pool.now c.place_multiples.new.pool b c.in-None.is in
    c.number.ensures.exactly.1 (omega (arith, room, adds_free c.requires.stands b.adds, ap sizes none, zero_size c.whole.result c.whole.ensures))

pub returns-in-Some-2 : goal.returns-in-Some-2
returns-in-Some-2 c =
    let xs = map name_of c.args.names.now in
    let qs = entries_of c.args.coefs.now in
    let b = placed_as (c.in_ok-placed-2.ensures.ok c.args.pool.now (summands [] (value_of c.args.constant) []) c.requires.stands c.in_ok-placed.ensures.ok) (constant_first xs (value_of c.args.constant) qs) in
    let made = form_many c.node_over_last.result c.in-Some-2.field-0 c.args.pool.now c.place_multiples.new.pool c.node_over_last.new.pool (summands xs (value_of c.args.constant) qs) c.in_ok-placed-2.placed b c.in-Some-2.is c.if-placed-eq1.false c.node_over_last.ensures.ok c.node_over_last.ensures.kept c.node_over_last.ensures.stands in
    record {
      ok = form_many c.node_over_last.result c.in-Some-2.field-0 c.args.pool.now c.place_multiples.new.pool c.node_over_last.new.pool (summands xs (value_of c.args.constant) qs) c.in_ok-placed-2.placed b c.in-Some-2.is c.if-placed-eq1.false c.node_over_last.ensures.ok c.node_over_last.ensures.kept c.node_over_last.ensures.stands;
      enough = λ room.
          let xs = map name_of c.args.names.now in
          let qs = entries_of c.args.coefs.now in
          let b = placed_as (c.in_ok-placed-2.ensures.ok c.args.pool.now (summands [] (value_of c.args.constant) []) c.requires.stands c.in_ok-placed.ensures.ok) (constant_first xs (value_of c.args.constant) qs) in
          c.node_over_last.ensures.exactly.1 (omega (arith, room, adds_free c.requires.stands b.adds));
      refused = search rules;
      caused = search rules;
      front = front_node c.node_over_last.result (size_of_payload (bare kind.Add)) c.args.pool.now c.place_multiples.new.pool c.node_over_last.new.pool (form_tree xs (value_of c.args.constant) qs) made c.node_over_last.ensures.full (front_of_all b.adds);
      stands = search rules;
    }
