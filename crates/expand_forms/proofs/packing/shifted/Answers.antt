use Rattle.expand_forms.proofs.{Shared.{refl, ◌≡◌, arith}, PackedTerms.{shift_fits, shifted_more, shifted_all}}
use Rattle.expand_forms.proofs.packing.shifted.Goals as goal

pub loop-place-init : goal.loop-place-init
loop-place-init c = record { below = c.requires.fits; same = refl }

pub overflow_mul-shifted : goal.overflow_mul-shifted
overflow_mul-shifted c = record { fits = shift_fits c.loop-place.place c.loop-place.shifted c.loop-place-test.true c.loop-place.invariant.below }

pub loop-place-preserved : goal.loop-place-preserved
loop-place-preserved c = shifted_more c.args.packed c.args.names c.loop-place.shifted c.loop-place.place c.loop-place-test.true c.loop-place.invariant

pub returns : goal.returns
returns c = let e : c.loop-place.place ≡ 8 = omega arith in shifted_all c.args.packed c.args.names c.loop-place.shifted c.loop-place.place e c.loop-place.invariant
