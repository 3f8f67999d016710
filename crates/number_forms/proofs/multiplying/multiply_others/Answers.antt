use Rattle.number_forms.proofs.Shared.{inl, gives_without, behind_first, behind_later, front_same, front_at, front_without, front_after, given_other, handed_beside, handed_at, owned, passed_on}
use Rattle.number_forms.proofs.{Shared.{kept_after}, Rooms.{full_as, product_lacks}, Refusals.{none_given}, Safety.{answered, beside_all, passed}}
use Rattle.number_forms.proofs.multiplying.multiply_others.Goals as goal

pub release-requires-clause-releasable : goal.release-requires-clause-releasable
release-requires-clause-releasable c = inl (given_other c.in_ok-product.ensures.ok c.requires.first).root

pub release-requires-2-clause-releasable : goal.release-requires-2-clause-releasable
release-requires-2-clause-releasable c =
    let gone = c.release.ensures.owned (owned (given_other c.in_ok-product.ensures.ok c.requires.first)) in
    inl (handed_at (handed_beside c.args.a c.requires.apart (given_other c.in_ok-product.ensures.ok c.requires.second)) gone).root

pub returns-in_err-product : goal.returns-in_err-product
returns-in_err-product c = let r = c.from_residual.result in let e = c.in_err-product.field-0.0 in let said = c.from_residual.ensures in record {
  ok = none_given r _ said.0;
  overflow = passed_on r e _ said.0 said.1 c.in_err-product.ensures.overflow;
  room = λ gs s t. passed_on r e _ said.0 said.1 (full_as c.in_err-product.field-0.0 (c.in_err-product.ensures.room gs s t) (λ full few. product_lacks gs _ _ _ c.requires.first_number c.requires.second_number s t few));
  safe = beside_all (passed r e said.0 said.1 c.in_err-product.ensures.safe);
}

pub returns : goal.returns
returns c = record {
  ok = let product = c.in_ok-product.ensures.ok in let gone = c.release.ensures.owned (owned (given_other product c.requires.first)) in
      let b = handed_at (handed_beside c.args.a c.requires.apart (given_other product c.requires.second)) gone in
      gives_without c.args.b (gives_without c.args.a product c.requires.first.root gone) (handed_beside c.args.a c.requires.apart c.requires.second).root (c.release-2.ensures.owned (owned b));
  overflow = tt;
  room = λ a b d. tt;
  safe = answered (let product = c.in_ok-product.ensures.ok in let gone = c.release.ensures.owned (owned (given_other product c.requires.first)) in let b = handed_at (handed_beside c.args.a c.requires.apart (given_other product c.requires.second)) gone in front_at (front_without (behind_later behind_first) (front_at (front_without behind_first (front_after front_same c.product_of.ensures.safe.front)) gone)) (c.release-2.ensures.owned (owned b))) (kept_after c.in_ok-product.ensures.safe.kept (kept_after c.release.ensures.kept c.release-2.ensures.kept)) c.release-2.ensures.stands;
}
