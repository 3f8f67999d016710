use Rattle.std.proofs.Common.{◌≤◌, ◌∙◌, refl, sym, arith}
use Rattle.calc_session.proofs.Shared.{size_of_payload, value_of, num, more, none, AddsAll, added_begin, added_few, adds_free, free_of}
use Rattle.calc_session.proofs.{PlacingLemmas.{adds_node, adds_placed, adds_two, front_node, front_of_all}, RootFaces.{size_of_num, size_of_term}, RootLemmas.{gives_tree, surd_alone, with_constant}}
use Rattle.calc_session.proofs.root_text.place_surd.Goals.{In_ok-place_term}
use Rattle.calc_session.specs.RootTexts.{surd_tree}
use Rattle.calc_terms.specs.Payload.{bare}
use Rattle.calc_terms.specs.declared.kind.Kind.TheVariants as kind
use Rattle.number_forms.specs.Shapes.{term_tree}
use Rattle.surd_terms.specs.Terms.{term_of}
use Rattle.calc_session.proofs.root_text.place_surd.Goals as goal

pub returns-then-is_zero-clause-ok : goal.returns-then-is_zero-clause-ok
returns-then-is_zero-clause-ok c =
    surd_alone _ c.place_term.result c.args.pool.now c.place_term.new.pool (value_of c.args.constant) (term_of c.args.multiple).coefficient (term_of c.args.multiple).radicand (sym c.is_zero.ensures ∙ c.if-is_zero.true) c.place_term.ensures.ok c.place_term.ensures.tree c.place_term.ensures.kept c.place_term.ensures.stands

pub returns-in_err-place_term-clause-enough : goal.returns-in_err-place_term-clause-enough
returns-in_err-place_term-clause-enough c = λ room.
    let first : AddsAll c.args.pool.now c.number.new.pool (more (num (value_of c.args.constant)) none) = adds_placed c.requires.stands c.in_ok-number.ensures.given c.in_ok-number.ensures.kept c.in_ok-number.ensures.stands in
    let fits : 96 ≤ free_of c.number.new.pool = omega (arith, room, adds_free c.requires.stands first, size_of_num (value_of c.args.constant)) in
    absurd (cc (c.in_err-place_term.ensures.room fits))

-- the constant and the multiple
both : (c : In_ok-place_term) → AddsAll c.args.pool.now c.place_term-2.new.pool (more (num (value_of c.args.constant)) (more (term_tree (term_of c.args.multiple)) none))
both c =
    adds_two c.requires.stands c.in_ok-number.ensures.given c.in_ok-number.ensures.kept c.in_ok-number.ensures.stands
    (gives_tree (term_tree (term_of c.args.multiple)) c.in_ok-place_term.ensures.ok c.in_ok-place_term.ensures.tree) c.in_ok-place_term.ensures.kept c.in_ok-place_term.ensures.stands

pub node_over_last-requires-clause-few : goal.node_over_last-requires-clause-few
node_over_last-requires-clause-few c = omega (arith, added_few (both (goal.at.node_over_last-requires-clause-few c).In_ok-place_term))

pub node_over_last-requires-clause-begin : goal.node_over_last-requires-clause-begin
node_over_last-requires-clause-begin c = c.used-begin.ensures.value ∙ added_begin 2 c.requires.stands (both (goal.at.node_over_last-requires-clause-begin c).In_ok-place_term) refl

pub returns-clause-ok : goal.returns-clause-ok
returns-clause-ok c =
    adds_node c.node_over_last.result kind.Add 2 c.args.pool.now c.place_term-2.new.pool c.node_over_last.new.pool (more (num (value_of c.args.constant)) (more (term_tree (term_of c.args.multiple)) none)) (surd_tree (value_of c.args.constant) (term_of c.args.multiple).coefficient (term_of c.args.multiple).radicand)
    (with_constant (value_of c.args.constant) (term_of c.args.multiple).coefficient (term_of c.args.multiple).radicand (sym c.is_zero.ensures ∙ c.if-is_zero.false)) (both (goal.at.returns-clause-ok c).In_ok-place_term) refl refl c.node_over_last.ensures.ok c.node_over_last.ensures.kept c.node_over_last.ensures.stands

pub returns-clause-enough : goal.returns-clause-enough
returns-clause-enough c = λ room. c.node_over_last.ensures.exactly.1 (omega (arith, room, size_of_num (value_of c.args.constant), size_of_term (term_of c.args.multiple), adds_free c.requires.stands (both (goal.at.returns-clause-enough c).In_ok-place_term)))

pub returns-clause-front : goal.returns-clause-front
returns-clause-front c =
    let two = both (goal.at.returns-clause-front c).In_ok-place_term in
    let made = returns-clause-ok c in
    front_node c.node_over_last.result (size_of_payload (bare kind.Add)) c.args.pool.now c.place_term-2.new.pool c.node_over_last.new.pool (surd_tree (value_of c.args.constant) (term_of c.args.multiple).coefficient (term_of c.args.multiple).radicand) made c.node_over_last.ensures.full (front_of_all two)
