use Rattle.std.proofs.Common.{◌≡◌, ◌≤◌, ◌∙◌, true, refl, sym, ap, arith}
use Rattle.calc_session.proofs.Shared.{err_from_is_err_and, front_after, refuses_after, is_one_fraction, name_of, named, rational, size_of_payload, ratio_of, value_of, num, symbol, mult, none, more, size, AddsAll, added_begin, added_few, adds_free}
use Rattle.calc_session.proofs.{Shared.{free_of, multiple_of}, PlacingLemmas.{adds_by, adds_node, adds_placed, adds_two, front_of_all, front_node, not_once, not_one_den, once, tests_one}}
use Rattle.calc_session.proofs.{PlacingLemmas.{tests_other}, forms.place_multiple.Goals.{After-number, else-num-eq1-via-then-num-eq1+else-is_whole, else-num-eq1-via-else-num-eq1}}
use Rattle.calc_terms.specs.Payload.{bare}
use Rattle.calc_terms.specs.declared.kind.Kind.TheVariants as kind
use Rattle.calc_session.proofs.forms.place_multiple.Goals as goal

pub returns-then-is_whole-clause-ok : goal.returns-then-is_whole-clause-ok
returns-then-is_whole-clause-ok c =
    let is : is_one_fraction (value_of c.args.coef) ≡ true = tests_one c.args.coef c.num.result c.num.ensures.value c.if-num-eq1.true (c.if-is_whole.ensures.0 refl) in
    adds_by c.symbol.result c.args.pool.now c.symbol.new.pool (symbol (name_of c.args.name)) (multiple_of (value_of c.args.coef) (name_of c.args.name)) (sym (once (value_of c.args.coef) (name_of c.args.name) is)) c.symbol.ensures.given c.symbol.ensures.kept c.symbol.ensures.stands

pub returns-then-is_whole-clause-enough : goal.returns-then-is_whole-clause-enough
returns-then-is_whole-clause-enough c = λ room.
    let is : is_one_fraction (value_of c.args.coef) ≡ true = tests_one c.args.coef c.num.result c.num.ensures.value c.if-num-eq1.true (c.if-is_whole.ensures.0 refl) in
    c.symbol.ensures.exactly.1 (omega (arith, room, ap size (once (value_of c.args.coef) (name_of c.args.name) is)))

-- the number and the name, and a node over them
whole : (c : After-number) → multiple_of (value_of c.args.coef) (name_of c.args.name) ≡ mult (more (num (value_of c.args.coef)) (more (symbol (name_of c.args.name)) none))
whole c =
    not_once (value_of c.args.coef) (name_of c.args.name)
    (elim c.else-num-eq1.branch [ else-num-eq1-via-then-num-eq1+else-is_whole w ↦ not_one_den c.args.coef (λ d. cc (w.if-is_whole.ensures.1 d)) | else-num-eq1-via-else-num-eq1 w ↦ tests_other c.args.coef c.num.result c.num.ensures.value w.if-num-eq1.false ])

pub returns-in_err-number : goal.returns-in_err-number
returns-in_err-number c =
    let p = err_from_is_err_and c.from_residual.result c.from_residual.ensures.1 in
    let lack = c.in_err-number.ensures in
    record {
      ok = rw p.1 tt;
      enough = λ room.
          let fits : size_of_payload (rational (ratio_of c.args.coef)) ≤ free_of c.args.pool.now = omega (arith, room, ap size (whole (goal.at.returns-in_err-number c).After-number)) in
          absurd (cc (lack.exactly.1 fits));
      refused = rw (p.1, p.2) lack.full.refuses;
      caused = rw (p.1, p.2) lack.full.lacks;
      front = c.number.ensures.front;
      stands = c.number.ensures.stands;
    }

pub returns-in_err-symbol : goal.returns-in_err-symbol
returns-in_err-symbol c =
    let p = err_from_is_err_and c.from_residual-in_err-symbol.result c.from_residual-in_err-symbol.ensures.1 in
    let lack = c.in_err-symbol.ensures in
    record {
      ok = rw p.1 tt;
      enough = λ room.
          let first : AddsAll c.args.pool.now c.number.new.pool (more (num (value_of c.args.coef)) none) = adds_placed c.requires.stands c.in_ok-number.ensures.given c.in_ok-number.ensures.kept c.in_ok-number.ensures.stands in
          let fits : size_of_payload (named (name_of c.args.name)) ≤ free_of c.number.new.pool = omega (arith, room, ap size (whole (goal.at.returns-in_err-symbol c).After-number), adds_free c.requires.stands first) in
          absurd (cc (lack.exactly.1 fits));
      refused = rw (p.1, p.2) (refuses_after _ _ _ _ c.in_ok-number.ensures.kept lack.full.refuses);
      caused = rw (p.1, p.2) lack.full.lacks;
      front = front_after c.number.ensures.front c.symbol-2.ensures.front;
      stands = c.symbol-2.ensures.stands;
    }

pub node_over_last-requires-clause-few : goal.node_over_last-requires-clause-few
node_over_last-requires-clause-few c = omega (arith, added_few (adds_two c.requires.stands c.in_ok-number.ensures.given c.in_ok-number.ensures.kept c.in_ok-number.ensures.stands c.in_ok-symbol.ensures.given c.in_ok-symbol.ensures.kept c.in_ok-symbol.ensures.stands))

pub node_over_last-requires-clause-begin : goal.node_over_last-requires-clause-begin
node_over_last-requires-clause-begin c = c.used-begin.ensures.value ∙ added_begin 2 c.requires.stands (adds_two c.requires.stands c.in_ok-number.ensures.given c.in_ok-number.ensures.kept c.in_ok-number.ensures.stands c.in_ok-symbol.ensures.given c.in_ok-symbol.ensures.kept c.in_ok-symbol.ensures.stands) refl

pub returns-clause-ok : goal.returns-clause-ok
returns-clause-ok c =
    adds_node c.node_over_last.result kind.Mult 2 c.args.pool.now c.symbol-2.new.pool c.node_over_last.new.pool (more (num (value_of c.args.coef)) (more (symbol (name_of c.args.name)) none)) (multiple_of (value_of c.args.coef) (name_of c.args.name))
    (sym (whole (goal.at.returns-clause-ok c).After-number)) (adds_two c.requires.stands c.in_ok-number.ensures.given c.in_ok-number.ensures.kept c.in_ok-number.ensures.stands c.in_ok-symbol.ensures.given c.in_ok-symbol.ensures.kept c.in_ok-symbol.ensures.stands) refl refl c.node_over_last.ensures.ok c.node_over_last.ensures.kept c.node_over_last.ensures.stands

pub returns-clause-enough : goal.returns-clause-enough
returns-clause-enough c = λ room. c.node_over_last.ensures.exactly.1 (omega (arith, room, ap size (whole (goal.at.returns-clause-enough c).After-number), adds_free c.requires.stands (adds_two c.requires.stands c.in_ok-number.ensures.given c.in_ok-number.ensures.kept c.in_ok-number.ensures.stands c.in_ok-symbol.ensures.given c.in_ok-symbol.ensures.kept c.in_ok-symbol.ensures.stands)))

pub returns-clause-front : goal.returns-clause-front
returns-clause-front c =
    let two = adds_two c.requires.stands c.in_ok-number.ensures.given c.in_ok-number.ensures.kept c.in_ok-number.ensures.stands c.in_ok-symbol.ensures.given c.in_ok-symbol.ensures.kept c.in_ok-symbol.ensures.stands in
    let made = adds_node c.node_over_last.result kind.Mult 2 c.args.pool.now c.symbol-2.new.pool c.node_over_last.new.pool (more (num (value_of c.args.coef)) (more (symbol (name_of c.args.name)) none)) (mult (more (num (value_of c.args.coef)) (more (symbol (name_of c.args.name)) none))) refl two refl refl c.node_over_last.ensures.ok c.node_over_last.ensures.kept c.node_over_last.ensures.stands in
    front_node c.node_over_last.result (size_of_payload (bare kind.Mult)) c.args.pool.now c.symbol-2.new.pool c.node_over_last.new.pool (mult (more (num (value_of c.args.coef)) (more (symbol (name_of c.args.name)) none))) made c.node_over_last.ensures.full (front_of_all two)
