use Rattle.dual_diff.proofs.{Shared.{◌≤◌, ◌∙◌, ap, refl, arith, rational, size_of_payload, ratio_of, num, free_of, gives_as}, Added.places_one, Numbers.{placed_value, placed_size}}
use Rattle.dual_diff.proofs.placer.PlacerWriter.number.Goals as goal

pub returns : goal.returns
returns c = places_one c.requires.stands (record {
  gives = gives_as c.in-Ok.ensures.given refl (λ t e. e ∙ ap num (placed_value c.whole.result c.args.value c.requires.fits c.whole.ensures));
  kept = c.in-Ok.ensures.kept;
  stands = c.in-Ok.ensures.stands;
})

pub unreachable-requires : goal.unreachable-requires
unreachable-requires c =
    let room : size_of_payload (rational (ratio_of c.whole.result)) ≤ free_of c.args.pool.now =
    omega (arith, c.requires.room, placed_size c.whole.result c.args.value c.requires.fits c.whole.ensures) in
    absurd (cc (c.in-Err.ensures.exactly.1 room))
