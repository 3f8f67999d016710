use Rattle.callers.proofs.Metered.{answered_from, answered_in}
use Rattle.callers.specs.Meters.{metered}
use Rattle.callers.proofs.metering.bytes_of_answers.Goals as goal

pub returns-then-status-eq0 : goal.returns-then-status-eq0
returns-then-status-eq0 c = answered_in c.args.input.items c.run-status.new.source (metered c.run-status.new.sink) c.count.result
    (answered_from _ c.new.result.items c.args.input.items c.new-source.result c.run-status.new.source (metered c.new-meter.result) (metered c.run-status.new.sink) c.new.ensures.items c.new-source.ensures c.new-meter.ensures
    (c.run-status.ensures.answered c.if-status-eq0.true)) c.count.ensures
