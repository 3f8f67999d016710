use Rattle.std.proofs.Common.{◌<◌, ◌∙◌, length, arith}
use Rattle.calc_session.proofs.{Shared.{name_of, value_of}, RootFaces.{face_of_rational}, RootLemmas.{rational_next}}
use Rattle.equation_roots.specs.Rationals.{rationals_of}
use Rattle.calc_session.proofs.root_text.write_rationals.Goals as goal

pub loop-at-preserved : goal.loop-at-preserved
loop-at-preserved c =
    let within : c.loop-at.at < length (rationals_of c.args.rationals.now) = omega (arith, c.loop-at-test.true, c.len-at-end.ensures.value) in
    let so_far = c.loop-at.invariant in
    let next = c.in_ok-write_root.ensures in
    record {
      same = next.undone.as_before ∙ so_far.same;
      told = rational_next (name_of c.args.name) (rationals_of c.args.rationals.now) c.loop-at.at (value_of c.get.result) c.loop-at.text c.write_root.new.text within c.get.ensures so_far.told next.told;
      short = omega (arith, next.short, so_far.short, face_of_rational (value_of c.get.result));
      capacity = next.capacity ∙ so_far.capacity;
      ready = next.ready;
    }
