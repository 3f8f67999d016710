use Rattle.std.proofs.Common.{arith}
use Rattle.calc_session.proofs.{Shared.{value_of}, RootFaces.{face_of_surd}, RootLemmas.{above_not_zero, below_not_zero}}
use Rattle.surd_terms.specs.Terms.{term_of}
use Rattle.calc_session.proofs.root_text.write_pair.Goals as goal

pub new-below-requires-clause-not_zero : goal.new-below-requires-clause-not_zero
new-below-requires-clause-not_zero c = below_not_zero (value_of c.beside-beside.result) (value_of c.neg.result) c.beside-beside.ensures.above c.neg.ensures

pub new-above-requires-clause-not_zero : goal.new-above-requires-clause-not_zero
new-above-requires-clause-not_zero c = above_not_zero (value_of c.beside-beside.result) c.beside-beside.ensures.above

pub write_root-requires-clause-room : goal.write_root-requires-clause-room
write_root-requires-clause-room c = omega (arith, c.requires.room, face_of_surd (value_of c.middle.result) (term_of c.new-below.result).coefficient (term_of c.new-below.result).radicand)

pub write_root-requires-2-clause-room : goal.write_root-requires-2-clause-room
write_root-requires-2-clause-room c =
    omega (
      arith,
      c.requires.room,
      c.in_ok-write_root.ensures.short,
      c.write_root.ensures.capacity,
      face_of_surd (value_of c.middle.result) (term_of c.new-below.result).coefficient (term_of c.new-below.result).radicand,
      face_of_surd (value_of c.middle-2.result) (term_of c.new-above.result).coefficient (term_of c.new-above.result).radicand,
    )
