use Rattle.number_forms.proofs.{Shared.{inl, gives_without, behind_first, front_same, front_at, front_without, front_after, given_other, owned, passed_on, kept_after}, Refusals.{none_given}}
use Rattle.number_forms.proofs.Safety.{answered, beside_all, passed}
use Rattle.number_forms.proofs.powers.squared.Goals as goal

pub release-requires-clause-releasable : goal.release-requires-clause-releasable
release-requires-clause-releasable c = inl (given_other c.in_ok-square.ensures.ok c.requires.handed).root

pub returns-in_err-square : goal.returns-in_err-square
returns-in_err-square c = let r = c.from_residual.result in let e = c.in_err-square.field-0.0 in let said = c.from_residual.ensures in record {
  ok = none_given r _ said.0;
  overflow = passed_on r e _ said.0 said.1 (c.in_err-square.ensures.overflow);
  room = λ gs s. passed_on r e _ said.0 said.1 (c.in_err-square.ensures.room gs s);
  safe = beside_all (passed r e said.0 said.1 c.in_err-square.ensures.safe);
}

pub returns : goal.returns
returns c = record {
  ok = gives_without c.args.a c.in_ok-square.ensures.ok c.requires.handed.root (c.release.ensures.owned (owned (given_other c.in_ok-square.ensures.ok c.requires.handed)));
  overflow = tt;
  room = λ a b. tt;
  safe = answered (front_at (front_without behind_first (front_after front_same c.square_of.ensures.safe.front)) (c.release.ensures.owned (owned (given_other c.in_ok-square.ensures.ok c.requires.handed)))) (kept_after c.in_ok-square.ensures.safe.kept c.release.ensures.kept) c.release.ensures.stands;
}
