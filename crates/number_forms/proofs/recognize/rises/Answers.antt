use Rattle.number_forms.proofs.Shared.{◌≡◌, ◌+◌, ◌<◌, sym, ap, ◌∙◌, arith, is_below_all, terms_of, Term, count, trees_from, plain, children_of, tree_at, forest}
use Rattle.number_forms.proofs.Rising.{rises_next, no_rise, rises_end}
use Rattle.number_forms.proofs.recognize.rises.Goals as goal

pub child_term-term-requires-clause-within : goal.child_term-term-requires-clause-within
child_term-term-requires-clause-within c =
    let ts = children_of (plain (tree_at c.args.id (forest c.args.pool.now))) in
    let many : c.children-at-end.result ≡ count ts = c.children-at-end.ensures.plain c.requires.expression in omega (arith, many, c.loop-at-test.true)

pub is_below_rest-requires-clause-within : goal.is_below_rest-requires-clause-within
is_below_rest-requires-clause-within c =
    let ts = children_of (plain (tree_at c.args.id (forest c.args.pool.now))) in
    let many : c.children-at-end.result ≡ count ts = c.children-at-end.ensures.plain c.requires.expression in omega (arith, many, c.loop-at-test.true)

pub loop-at-preserved : goal.loop-at-preserved
loop-at-preserved c =
    let ts = children_of (plain (tree_at c.args.id (forest c.args.pool.now))) in
    let many : c.children-at-end.result ≡ count ts = c.children-at-end.ensures.plain c.requires.expression in
    let within : c.loop-at.at < count ts = omega (arith, many, c.loop-at-test.true) in
    let same = ap (λ (t : Term). is_below_all t (terms_of (trees_from (c.loop-at.at + 1) ts))) (sym c.child_term-term.ensures) ∙ sym c.is_below_rest.ensures in
    sym (rises_next ts c.loop-at.at within (same ∙ c.if-not-is_below_rest.false)) ∙ c.loop-at.invariant

pub returns-then-not-is_below_rest : goal.returns-then-not-is_below_rest
returns-then-not-is_below_rest c =
    let ts = children_of (plain (tree_at c.args.id (forest c.args.pool.now))) in
    let many : c.children-at-end.result ≡ count ts = c.children-at-end.ensures.plain c.requires.expression in
    let within : c.loop-at.at < count ts = omega (arith, many, c.loop-at-test.true) in
    let same = ap (λ (t : Term). is_below_all t (terms_of (trees_from (c.loop-at.at + 1) ts))) (sym c.child_term-term.ensures) ∙ sym c.is_below_rest.ensures in
    sym (no_rise ts c.loop-at.at within (same ∙ c.if-not-is_below_rest.true)) ∙ c.loop-at.invariant

pub returns : goal.returns
returns c =
    let ts = children_of (plain (tree_at c.args.id (forest c.args.pool.now))) in
    let many : c.children-at-end.result ≡ count ts = c.children-at-end.ensures.plain c.requires.expression in
    sym (rises_end ts c.loop-at.at (omega (arith, many, c.loop-at-test.false))) ∙ c.loop-at.invariant
