use Rattle.rational128.proofs.{Shared.{arith, sym}, PowerLaws.{small_base, large_exponent}}
use Rattle.rational128.proofs.powers.whole_power.Goals as goal

pub returns-then-base-le1 : goal.returns-then-base-le1
returns-then-base-le1 c =
    let same = small_base c.args.base c.args.exponent c.if-base-le1.true c.requires in
    (omega arith, sym same)

pub returns-then-exponent-ge-FIRST_UNFIT_EXPONENT : goal.returns-then-exponent-ge-FIRST_UNFIT_EXPONENT
returns-then-exponent-ge-FIRST_UNFIT_EXPONENT c = large_exponent c.args.base c.args.exponent (omega arith) (omega arith)
