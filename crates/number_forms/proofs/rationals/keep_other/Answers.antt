use Rattle.number_forms.proofs.{Shared.{inl, behind_first, behind_later, front_same, front_at, front_end, front_without, given_told, handed_at, handed_beside, owned, kept_after}, Kept.{kept_last}}
use Rattle.number_forms.proofs.rationals.keep_other.Goals as goal

pub release-requires-clause-releasable : goal.release-requires-clause-releasable
release-requires-clause-releasable c = inl c.requires.gone.root

pub move_last-requires-clause-root : goal.move_last-requires-clause-root
move_last-requires-clause-root c = (handed_at (handed_beside c.args.gone c.requires.apart c.requires.handed) (c.release.ensures.owned (owned c.requires.gone))).root

pub returns : goal.returns
returns c = record {
  tree = given_told (kept_last c.args.gone c.requires.apart c.requires.handed (c.release.ensures.owned (owned c.requires.gone)) c.move_last.ensures.last);
  gives = kept_last c.args.gone c.requires.apart c.requires.handed (c.release.ensures.owned (owned c.requires.gone)) c.move_last.ensures.last;
  front = front_end c.move_last.ensures.last (front_without (behind_later behind_first) (front_at (front_without behind_first front_same) (c.release.ensures.owned (owned c.requires.gone))));
  kept = kept_after c.release.ensures.kept c.move_last.ensures.kept;
  stands = c.move_last.ensures.stands;
}
