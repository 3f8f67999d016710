use Rattle.dual_diff.proofs.{Shared.{refl, ap, arith, rules, whole_fraction, num, one, size, told, two, tree_of}, Written.{gather, written_as}, writing.write_power_of.Goals.{After-number}}
use Rattle.dual_diff.proofs.writing.write_power_of.Goals as goal

pub copy-requires : goal.copy-requires
copy-requires g c = record { stands = c.requires.stands; expression = c.requires.expression; room = g.met.W.Writer.laws.less c.requires.room (omega arith) }

pub number-requires : goal.number-requires
number-requires g c = record {
  stands = (g.met.W.Writer.laws.keeps c.copy.ensures).stands;
  fits = search rules;
  room = g.met.W.Writer.laws.room c.copy.ensures c.requires.room (omega (arith, ap (λ z. size (num (whole_fraction z))) (told c.args.exponent c.requires.fits)));
}

both : (g : _) (c : After-number g)
    → g.W.Writer.writes c.args.writer.now c.args.pool.now c.number.new.self c.number.new.pool (two (tree_of c.args.base c.args.pool.now) (num (whole_fraction c.args.exponent)))
both g c = g.met.W.Writer.laws.joined c.copy.ensures (written_as g.met.W.Writer.laws c.number.ensures (ap (λ z. one (num (whole_fraction z))) (told c.args.exponent c.requires.fits)))

pub over-requires : goal.over-requires
over-requires g c = gather g.met.W.Writer.laws (both g (goal.at.over-requires g c).After-number) refl c.used-begin.ensures.value refl c.requires.room (omega arith)

pub returns : goal.returns
returns g c = c.over.ensures _ _ _ (both g (goal.at.returns g c).After-number) refl
