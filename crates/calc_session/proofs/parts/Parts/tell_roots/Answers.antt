use Rattle.std.proofs.Common.{◌<◌, [], ap, arith}
use Rattle.calc_terms.specs.Leaf.{name_of}
use Rattle.calc_session.proofs.Shared.{All-head, Content, used, free_of, states}
use Rattle.calc_commands.specs.Ranges.{IsWithin}
use Rattle.calc_session.proofs.{SolvingLemmas.{err_at, ok_at, on_ok_at}, CommandLemmas.{calm_told, refusal_uninterrupted}, EvaluationLemmas.{none_rose}, RootingLemmas.{found_reply, lacking_reply, rooting_reply}}
use Rattle.calc_session.specs.RootTexts.{root_room}
use Rattle.calc_session.specs.declared.answers.LineAnswer.TheVariants as answer
use Rattle.calc_session.proofs.parts.Parts.tell_roots.Goals as goal

pub returns-in-Err-clause-interrupted : goal.returns-in-Err-clause-interrupted
returns-in-Err-clause-interrupted g c = let breakers = states g.B.Breaker.state c.args.watch.now in
    calm_told (answer.Refused c.in-Err.refusal) breakers breakers (refusal_uninterrupted c.in-Err.refusal c.in-Err.ensures.no_breaker) (none_rose breakers)

pub find_roots-found-requires-clause-within : goal.find_roots-found-requires-clause-within
find_roots-found-requires-clause-within g c = All-head (IsWithin c.args.text.now) c.in-Ok.range [] c.in-Ok.ensures.split.within

pub returns-in-Err-found-clause-told : goal.returns-in-Err-found-clause-told
returns-in-Err-found-clause-told g c =
    let (e, reads) = c.in-Ok.ensures.read in (
      rw (← c.bytes_before-before.ensures) (rooting_reply c.args.self.now.work.pool c.args.self.now.table (states g.B.Breaker.state c.args.watch.now) (states g.B.Breaker.state c.find_roots-found.new.watch) c.bytes_before-before.result (name_of c.args.name) c.args.text.now c.in-Ok.range e _ c.in-Ok.ensures.split reads
          (err_at _ c.find_roots-found.result c.in-Err-found.refusal c.in-Err-found.is (c.find_roots-found.ensures.refused e reads))),
      c.requires.empty,
    )

pub returns-in-Ok-write_found-clause-told : goal.returns-in-Ok-write_found-clause-told
returns-in-Ok-write_found-clause-told g c =
    let (e, reads) = c.in-Ok.ensures.read in
    rw (c.in-Ok-write_found.ensures.told, ← c.bytes_before-before.ensures) (rooting_reply c.args.self.now.work.pool c.args.self.now.table (states g.B.Breaker.state c.args.watch.now) (states g.B.Breaker.state c.find_roots-found.new.watch) c.bytes_before-before.result (name_of c.args.name) c.args.text.now c.in-Ok.range e _ c.in-Ok.ensures.split reads
    (found_reply c.in-Ok-found.found (ok_at _ c.find_roots-found.result c.in-Ok-found.found c.in-Ok-found.is (c.find_roots-found.ensures.found e reads))))

pub returns-in-Err-write_found-clause-told : goal.returns-in-Err-write_found-clause-told
returns-in-Err-write_found-clause-told g c =
    let (e, reads) = c.in-Ok.ensures.read in
    let (r, is) = c.in-Err-write_found.ensures.some in
    let (short, room) = c.in-Err-write_found.ensures.lacks in
    let few : free_of c.args.self.now.work.pool < root_room = omega (arith, room, ap used c.find_roots-found.ensures.as_before, (on_ok_at _ c.find_roots-found.result c.in-Ok-found.found c.in-Ok-found.is c.find_roots-found.ensures.counted_ok).size) in (
      rw (← c.bytes_before-before.ensures) (rooting_reply c.args.self.now.work.pool c.args.self.now.table (states g.B.Breaker.state c.args.watch.now) (states g.B.Breaker.state c.find_roots-found.new.watch) c.bytes_before-before.result (name_of c.args.name) c.args.text.now c.in-Ok.range e _ c.in-Ok.ensures.split reads
          (lacking_reply c.in-Ok-found.found r c.in-Err-write_found.full c.refused.result (ok_at _ c.find_roots-found.result c.in-Ok-found.found c.in-Ok-found.is (c.find_roots-found.ensures.found e reads)) is c.refused.ensures short few)),
      ap (λ (x : Content). x.bytes) c.clear.ensures,
    )
