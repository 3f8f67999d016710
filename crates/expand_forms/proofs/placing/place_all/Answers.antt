use Rattle.expand_forms.proofs.Shared.{◌<◌, length, List, subst, arith, take_all, Term, AddsTrees, term_trees, terms_bytes, free_of, passed_on, kept_after, kept_same, forest, front_after, front_same}
use Rattle.expand_forms.proofs.{Shared.{named_terms}, AddedTrees.{adds_free, adds_none}, PlacedTerms.{next_lacks, placed_more}}
use Rattle.expansions.specs.Named.{names_of}
use Rattle.number_forms.proofs.Safety.{after_placing, no_answer, passed_placing, placed}
use Rattle.expand_forms.proofs.placing.place_all.Goals as goal

pub loop-term-init : goal.loop-term-init
loop-term-init c = record { placed = omega arith; adds = adds_none (forest c.args.pool.now); front = front_same; kept = kept_same c.args.pool.now; stands = c.requires.stands }

pub loop-term-preserved : goal.loop-term-preserved
loop-term-preserved c = record {
  placed = omega (arith, c.loop-term.invariant.placed);
  adds = placed_more (names_of c.args.names.now) c.args.terms.now _ c.term-item.is c.loop-term-test.true c.loop-term.invariant.adds c.in_ok-_term.ensures.ok;
  front = front_after c.loop-term.invariant.front c.place_packed.ensures.safe.front;
  kept = kept_after c.loop-term.invariant.kept c.in_ok-_term.ensures.safe.kept;
  stands = c.place_packed.ensures.safe.stands;
}

pub returns-clause-ok : goal.returns-clause-ok
returns-clause-ok c =
    subst (λ (ts : List Term). AddsTrees (term_trees (named_terms (names_of c.args.names.now) ts)) (forest c.args.pool.now) (forest c.loop-term.pool))
    (take_all c.loop-term.term-index c.args.terms.now (omega (arith, c.loop-term-test.false))) c.loop-term.invariant.adds

pub returns-in_err-_term : goal.returns-in_err-_term
returns-in_err-_term c = let r = c.from_residual.result in let e = c.in_err-_term.field-0.0 in let said = c.from_residual.ensures in record {
  count = no_answer r _ said.0;
  ok = no_answer r _ said.0;
  room = λ ns m h.
      let i = c.loop-term.invariant in
      passed_on r e (λ full. free_of c.args.pool.now < terms_bytes ns (length c.args.terms.now)) said.0 said.1
      (next_lacks (names_of c.args.names.now) ns c.args.terms.now _ (free_of c.args.pool.now) (free_of c.loop-term.pool) m h c.loop-term-test.true c.term-item.is
      (adds_free c.requires.stands i.stands i.kept i.adds) c.in_err-_term.ensures.room);
  safe = let i = c.loop-term.invariant in after_placing i.kept i.front (passed_placing r e said.0 said.1 c.in_err-_term.ensures.safe);
}

pub returns-clause-safe : goal.returns-clause-safe
returns-clause-safe c = let i = c.loop-term.invariant in placed i.front i.kept i.stands
