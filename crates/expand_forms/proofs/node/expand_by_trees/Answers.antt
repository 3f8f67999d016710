use Rattle.expand_forms.proofs.Shared.{kept_after, inl, ◌∙◌, ap, refl, sym, subst, ◌<◌, ◌≤◌, length, Tree, names, expression, seen, expanded, has_polynomial_root, polynomial_of, AreExpanded}
use Rattle.expand_forms.proofs.Shared.{gives_without, children_of, behind_first, front_after, front_at, front_same, front_without, given_other, gives_as, owned, HasNoNewName, node_bytes, free_of}
use Rattle.expand_forms.proofs.Shared.{OfFull, passed_on, bits_of, OfOverflow, IsOver}
use Rattle.number_forms.proofs.Safety.{answered, beside_all, no_answer, passed}
use Rattle.expand_forms.proofs.node.expand_by_trees.Goals as goal

pub place_expansion-requires : goal.place_expansion-requires
place_expansion-requires c = let s = seen c.id.ensures c.requires.stands c.requires.handed in record {
  stands = c.requires.stands;
  expression = expression c.id.ensures c.requires.stands c.requires.handed;
  polynomial = ap has_polynomial_root s ∙ c.requires.polynomial;
  children = subst (λ (t : Tree). AreExpanded (children_of t)) (sym s) c.requires.children;
}

pub release-requires-clause-releasable : goal.release-requires-clause-releasable
release-requires-clause-releasable c = inl (given_other c.in_ok-answer.ensures.ok c.requires.handed).root

pub returns-in_err-answer : goal.returns-in_err-answer
returns-in_err-answer c =
    let r = c.from_residual.result in let e = c.in_err-answer.field-0.0 in let said = c.from_residual.ensures in let s = sym (seen c.id.ensures c.requires.stands c.requires.handed) in record {
      ok = no_answer r _ said.0;
      safe = beside_all (passed r e said.0 said.1 c.in_err-answer.ensures.safe);
      fits = λ whole o p. passed_on r e (OfOverflow (λ x. 124 < bits_of whole)) said.0 said.1 (c.in_err-answer.ensures.fits whole (subst (λ (t : Tree). IsOver whole t) s o) p);
      room = λ whole n h l. passed_on r c.in_err-answer.field-0.0 (OfFull (λ full. free_of c.args.pool.now < node_bytes (names whole) n)) said.0 said.1
          (c.in_err-answer.ensures.room whole n (subst (HasNoNewName whole) s h) (subst (λ (t : Tree). length (polynomial_of t) ≤ n) s l));
    }

pub returns : goal.returns
returns c = record {
  ok = let given = c.in_ok-answer.ensures.ok in
      gives_as (gives_without c.args.tree given c.requires.handed.root (c.release.ensures.owned (owned (given_other given c.requires.handed)))) refl
      (λ t e. e ∙ ap (λ (u : Tree). expanded (polynomial_of u)) (seen c.id.ensures c.requires.stands c.requires.handed));
  fits = λ a b d. tt;
  room = λ a b d e. tt;
  safe = let s = c.in_ok-answer.ensures.safe in
      answered (front_at (front_without behind_first (front_after front_same s.front)) (c.release.ensures.owned (owned (given_other c.in_ok-answer.ensures.ok c.requires.handed))))
      (kept_after s.kept c.release.ensures.kept) c.release.ensures.stands;
}

-- ---- what fits
