use Rattle.expand_forms.proofs.Shared.{◌∙◌, ap, refl, sym, subst, ◌<◌, arith, length, forest, size, IsNoOverflow, term_bytes, monomial_times, HasMonomial, free_of, OfFull, refused_below}
use Rattle.expand_forms.proofs.{Shared.{kept_after, passed_on, full_as, front_end, front_same, given_told, given_free}, AddedTrees.{adds_more, adds_none, adopts, can_adopt, factors_beside}}
use Rattle.expand_forms.proofs.TermReadings.{beside, count_factors}
use Rattle.tree_handles.specs.declared.fault.NumberFault.TheVariants as fault
use Rattle.number_forms.proofs.Safety.{after, answered, fits_full, no_answer, passed, refused}
use Rattle.expand_forms.proofs.monomials.place_merged.Goals as goal

pub place_factors-requires : goal.place_factors-requires
place_factors-requires c =
    let (m, n, hm, hn) = c.requires.monomials in
    let new = c.in_ok-product.ensures.given refl in
    let x = beside new c.requires.first in
    let y = beside new c.requires.second in
    record {
      stands = c.in_ok-product.ensures.stands;
      factors = factors_beside (adds_more (adds_none (forest c.args.pool.now)) new) c.requires.first c.requires.factors;
      first = x.expression;
      second = y.expression;
      monomials = (m, n, subst (HasMonomial m) (sym x.same) hm, subst (HasMonomial n) (sym y.same) hn);
    }

pub adopt-requires : goal.adopt-requires
adopt-requires c =
    let (m, n, hm, hn) = c.requires.monomials in
    let new = c.in_ok-product.ensures.given refl in
    let (many, adds) = c.in_ok-factors.ensures.ok m n (subst (HasMonomial m) (sym (beside new c.requires.first).same) hm) (subst (HasMonomial n) (sym (beside new c.requires.second).same) hn) in
    let a = can_adopt c.in_ok-product.ensures.ok adds (many ∙ sym (count_factors (monomial_times m n))) in
    record { stands = c.in_ok-factors.ensures.safe.stands; root = a.root; within = a.within }

pub returns : goal.returns
returns c = record {
  ok = λ m n hm hn.
      let new = c.in_ok-product.ensures.given refl in
      let (many, adds) = c.in_ok-factors.ensures.ok m n (subst (HasMonomial m) (sym (beside new c.requires.first).same) hm) (subst (HasMonomial n) (sym (beside new c.requires.second).same) hn) in
      adopts c.in_ok-product.ensures.ok adds (many ∙ sym (count_factors (monomial_times m n))) refl c.adopt.ensures.forest;
  fits = λ a b d e f h i. tt;
  room = λ a b d e. tt;
  safe = let (m, n, hm, hn) = c.requires.monomials in
      let new = c.in_ok-product.ensures.given refl in
      let (many, adds) = c.in_ok-factors.ensures.ok m n (subst (HasMonomial m) (sym (beside new c.requires.first).same) hm) (subst (HasMonomial n) (sym (beside new c.requires.second).same) hn) in
      answered (front_end (adopts c.in_ok-product.ensures.ok adds (many ∙ sym (count_factors (monomial_times m n))) refl c.adopt.ensures.forest).ends front_same)
      (kept_after (kept_after c.in_ok-product.ensures.kept c.in_ok-factors.ensures.safe.kept) c.adopt.ensures.kept) c.adopt.ensures.stands;
}

pub returns-in_err-factors : goal.returns-in_err-factors
returns-in_err-factors c =
    let r = c.from_residual-in_err-factors.result in let said = c.from_residual-in_err-factors.ensures in
    let new = c.in_ok-product.ensures.given refl in
    let x = sym (beside new c.requires.first).same in
    let y = sym (beside new c.requires.second).same in
    record {
      ok = λ m n hm hn. no_answer r _ said.0;
      safe = after c.in_ok-product.ensures.kept c.node.ensures.front (passed r c.in_err-factors.field-0.0 said.0 said.1 c.in_err-factors.ensures.safe);
      fits = λ m n k hm hn e l. passed_on r c.in_err-factors.field-0.0 IsNoOverflow said.0 said.1 (c.in_err-factors.ensures.fits m n k (subst (HasMonomial m) x hm) (subst (HasMonomial n) y hn) e l);
      room = λ m n hm hn.
          let free = given_free c.requires.stands c.in_ok-product.ensures.stands c.in_ok-product.ensures.kept new in
          let lacks = c.in_err-factors.ensures.room m n (subst (HasMonomial m) x hm) (subst (HasMonomial n) y hn) in
          passed_on r c.in_err-factors.field-0.0
          (OfFull (λ full. free_of c.args.pool.now < term_bytes (length (monomial_times m n)))) said.0 said.1
          (full_as c.in_err-factors.field-0.0 lacks (λ full few. omega (arith, free, ap size (given_told new), few)));
    }

-- ---- few bytes

pub returns-in_err-product : goal.returns-in_err-product
returns-in_err-product c = let r = c.from_residual.result in let said = c.from_residual.ensures in record {
  ok = λ a b d e. no_answer r _ said.0;
  fits = λ a b d e f h i. fits_full r c.in_err-product.field-0.0 _ said.0 said.1;
  room = λ m n hm hn.
      let few : free_of c.args.pool.now < 8 = refused_below c.in_err-product.ensures.full in
      passed_on r (fault.Full c.in_err-product.field-0.0) (OfFull (λ full. free_of c.args.pool.now < term_bytes (length (monomial_times m n)))) said.0 said.1 (omega (arith, few));
  safe = refused r c.in_err-product.field-0.0 said.0 said.1 c.in_err-product.ensures.full c.in_err-product.ensures.stands;
}
