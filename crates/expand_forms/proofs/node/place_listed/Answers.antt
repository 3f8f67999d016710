use Rattle.expand_forms.proofs.Shared.{kept_after, ◌<◌, inl, List, length, ap, refl, subst, sym, arith, Name, Term, IsListOf, Polynomial, behind_first, free_of, front_after, front_at, front_same}
use Rattle.expand_forms.proofs.{Shared.{front_without, given_other, gives_as, gives_without, node_bytes, owned, passed_on}, node.place_listed.Goals.{After-deref_mut}}
use Rattle.expansions.specs.Named.{names_of}
use Rattle.number_forms.proofs.Safety.{beside_all_placing, no_answer, passed_placing, placed}
use Rattle.expand_forms.proofs.node.place_listed.Goals as goal

-- the terms that are placed
listed : (c : After-deref_mut) (v : Polynomial) → IsListOf (names_of c.args.lists.now.names.items) c.args.lists.now.answer.items v → IsListOf (names_of c.deref.result.now) c.deref_mut.result.now v
listed c v l =
    let named = subst (λ (xs : List Name). IsListOf (names_of xs) c.args.lists.now.answer.items v) (sym c.deref.ensures.value) l in
    subst (λ (ts : List Term). IsListOf (names_of c.deref.result.now) ts v) (sym c.deref_mut.ensures.value) named

pub place_terms-requires : goal.place_terms-requires
place_terms-requires c = record {
  stands = c.requires.stands;
  list = (c.requires.list.0, listed (goal.at.place_terms-requires c).After-deref_mut c.requires.list.0 c.requires.list.1);
  few = omega (arith, ap length c.deref_mut.ensures.value, c.requires.few);
}

pub release-requires-clause-releasable : goal.release-requires-clause-releasable
release-requires-clause-releasable c =
    let given = c.in_ok-answer.ensures.ok c.requires.list.0 (listed (goal.at.release-requires-clause-releasable c).After-deref_mut c.requires.list.0 c.requires.list.1) in
    inl (given_other given c.requires.handed).root

pub returns-in_err-answer : goal.returns-in_err-answer
returns-in_err-answer c = let r = c.from_residual.result in let e = c.in_err-answer.field-0.0 in let said = c.from_residual.ensures in record {
  ok = λ a b. no_answer r _ said.0;
  room = λ v ns n l h.
      passed_on r e (λ full. free_of c.args.pool.now < node_bytes ns n) said.0 said.1
      (omega (arith, c.in_err-answer.ensures.room v ns n (listed (goal.at.returns-in_err-answer c).After-deref_mut v l) h));
  safe = beside_all_placing (passed_placing r e said.0 said.1 c.in_err-answer.ensures.safe);
}

pub returns : goal.returns
returns c = record {
  ok = λ v l.
      let given = c.in_ok-answer.ensures.ok v (listed (goal.at.returns c).After-deref_mut v l) in
      gives_as (gives_without c.args.tree given c.requires.handed.root (c.release.ensures.owned (owned (given_other given c.requires.handed)))) refl (λ t e. e);
  room = λ a b d e f. tt;
  safe = let s = c.in_ok-answer.ensures.safe in
      let given = c.in_ok-answer.ensures.ok c.requires.list.0 (listed (goal.at.returns c).After-deref_mut c.requires.list.0 c.requires.list.1) in
      placed (front_at (front_without behind_first (front_after front_same s.front)) (c.release.ensures.owned (owned (given_other given c.requires.handed))))
      (kept_after s.kept c.release.ensures.kept) c.release.ensures.stands;
}
