use Rattle.number_forms.proofs.Shared.{room_of, owned}
use Rattle.number_forms.proofs.rationals.take_rational.Goals as goal

pub returns-clause-room : goal.returns-clause-room
returns-clause-room c =
    room_of c.args.a c.args.pool.now c.release.new.pool c.requires.stands c.release.ensures.stands c.release.ensures.kept c.requires.handed (c.release.ensures.owned (owned c.requires.handed))
