use Rattle.expand_forms.proofs.Shared.{inl, kept_after, ◌∙◌, refl, sym, subst, ◌<◌, ◌*◌, expression, seen, expanded, product, polynomial_of, IsExpanded, gives_without, behind_first, front_after, front_at}
use Rattle.expand_forms.proofs.Shared.{front_same, front_without, given_other, given_told, gives_as, owned, Tree, HasFewTerms, sum_bytes, free_of, OfFull, passed_on, IsHeld, IsNoOverflow, plain}
use Rattle.expand_forms.proofs.{Shared.{tree_at, tree_of, forest}, TermReadings.{beside}}
use Rattle.number_forms.proofs.Safety.{answered, beside_all, no_answer, passed}
use Rattle.expand_forms.proofs.products.times.Goals as goal

pub place_product-requires : goal.place_product-requires
place_product-requires c = let a = beside c.requires.last c.requires.first in record {
  stands = c.requires.stands;
  first = a.expression;
  second = expression c.id.ensures c.requires.stands c.requires.second;
  first_expanded = subst IsExpanded (sym a.same) c.requires.first_expanded;
  second_expanded = subst IsExpanded (sym (seen c.id.ensures c.requires.stands c.requires.second)) (given_told c.requires.last);
}

pub release-requires-clause-releasable : goal.release-requires-clause-releasable
release-requires-clause-releasable c = inl (given_other c.in_ok-product.ensures.ok c.requires.second).root

pub returns : goal.returns
returns c = record {
  ok = let product-given = c.in_ok-product.ensures.ok in
      let a = beside c.requires.last c.requires.first in
      let b = seen c.id.ensures c.requires.stands c.requires.second in
      gives_as (gives_without c.args.b product-given c.requires.second.root (c.release.ensures.owned (owned (given_other product-given c.requires.second)))) refl
      (λ t e. e ∙ (λ i. expanded (product (polynomial_of (a.same i)) (polynomial_of (b i)))));
  fits = λ a b d e. tt;
  room = λ a b d e f. tt;
  safe = let s = c.in_ok-product.ensures.safe in
      answered (front_at (front_without behind_first (front_after front_same s.front)) (c.release.ensures.owned (owned (given_other c.in_ok-product.ensures.ok c.requires.second))))
      (kept_after s.kept c.release.ensures.kept) c.release.ensures.stands;
}

-- ---- what fits

pub returns-in_err-product : goal.returns-in_err-product
returns-in_err-product c = let r = c.from_residual.result in let e = c.in_err-product.field-0.0 in let said = c.from_residual.ensures in record {
  ok = no_answer r _ said.0;
  fits = λ h l x k.
      let a = beside c.requires.last c.requires.first in
      let b = seen c.id.ensures c.requires.stands c.requires.second in
      passed_on r e IsNoOverflow said.0 said.1
      (c.in_err-product.ensures.fits h l (subst (λ (t : Tree). IsHeld (product (polynomial_of (plain (tree_at c.args.a (forest c.args.pool.now)))) (polynomial_of t)) h l) (sym b) (subst (λ (t : Tree). IsHeld (product (polynomial_of t) (polynomial_of (tree_of c.args.b c.args.pool.now))) h l) (sym a.same) x)) k);
  room = λ ns m n ha hb.
      let a = beside c.requires.last c.requires.first in
      let b = seen c.id.ensures c.requires.stands c.requires.second in
      passed_on r e (OfFull (λ full. free_of c.args.pool.now < sum_bytes ns (m * n))) said.0 said.1
      (c.in_err-product.ensures.room ns m n (subst (λ (t : Tree). HasFewTerms ns m (polynomial_of t)) (sym a.same) ha) (subst (λ (t : Tree). HasFewTerms ns n (polynomial_of t)) (sym b) hb));
  safe = beside_all (passed r e said.0 said.1 c.in_err-product.ensures.safe);
}
