use Rattle.number_forms.proofs.Shared.{◌<◌, List, take, subst, arith, length-take-le, take_all, Trees, forest, free_of, front_after, front_same, kept_after, kept_same, passed_on, Adds, trees_of}
use Rattle.number_forms.proofs.{ListedTerms.{terms_size, trees_more}, Placings.{given_is}, Planted.{adds_free, adds_more, adds_none}, Refusals.{none_given, none_kept}}
use Rattle.number_forms.proofs.Safety.{after_placing, lacked, placed}
use Rattle.surd_terms.specs.declared.term.Term.{Term}
use Rattle.number_forms.proofs.placing.place_all.Goals as goal

pub loop-term-init : goal.loop-term-init
loop-term-init c = record { placed = omega arith; adds = adds_none (forest c.args.pool.now); front = front_same; kept = kept_same c.args.pool.now; stands = c.requires.stands }

pub loop-term-preserved : goal.loop-term-preserved
loop-term-preserved c =
    let i = c.loop-term.invariant in
    let more = trees_more c.args.terms.now c.loop-term.term-index c.term-item.result c.loop-term-test.true c.term-item.is in
    let placed = given_is c.in_ok-_term.ensures.ok c.in_ok-_term.ensures.tree in record {
      placed = omega (arith, i.placed);
      adds = subst (λ (ts : Trees). Adds ts (forest c.args.pool.now) (forest c.place_term.new.pool)) more (adds_more i.adds placed);
      front = front_after i.front c.place_term.ensures.front;
      kept = kept_after i.kept c.in_ok-_term.ensures.kept;
      stands = c.place_term.ensures.stands;
    }

pub place_term-requires : goal.place_term-requires
place_term-requires c = record { stands = c.loop-term.invariant.stands }

pub returns-clause-ok : goal.returns-clause-ok
returns-clause-ok c =
    subst (λ (ts : List Term). Adds (trees_of ts) (forest c.args.pool.now) (forest c.loop-term.pool))
    (take_all c.loop-term.term-index c.args.terms.now (omega (arith, c.loop-term-test.false))) c.loop-term.invariant.adds

pub returns-in_err-_term : goal.returns-in_err-_term
returns-in_err-_term c = let r = c.from_residual.result in let e = c.in_err-_term.field-0.0 in let said = c.from_residual.ensures in record {
  count = none_given r _ said.0;
  ok = none_kept r _ said.0;
  room = let i = c.loop-term.invariant in let n = c.loop-term.term-index in let free = adds_free c.requires.stands i.stands i.kept i.adds in
      let few : free_of c.loop-term.pool < 96 = grind (arith, c.in_err-_term.ensures.room) in
      passed_on r e _ said.0 said.1 (omega (arith, free, few, terms_size (take n c.args.terms.now), length-take-le n c.args.terms.now (omega (arith, c.loop-term-test.true)), c.loop-term-test.true));
  safe = after_placing c.loop-term.invariant.kept c.loop-term.invariant.front (lacked r e said.0 said.1 c.place_term.ensures.front c.in_err-_term.ensures.full c.in_err-_term.ensures.caused c.place_term.ensures.stands);
}

pub returns-clause-safe : goal.returns-clause-safe
returns-clause-safe c = placed c.loop-term.invariant.front c.loop-term.invariant.kept c.loop-term.invariant.stands
