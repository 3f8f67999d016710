use Rattle.dual_diff.proofs.{Shared.{◌∙◌, arith}, Added.{adds_over, added_begin, added_few, places_one, takes_bare}}
use Rattle.dual_diff.proofs.placer.PlacerWriter.over.Goals as goal

pub node_over_last-requires : goal.node_over_last-requires
node_over_last-requires c =
    let k = c.requires in
    let a = k.written.adds in
    record { stands = a.stands; bare = takes_bare c.args.kind c.args.trees k.takes; few = omega (arith, added_few a, k.counted); begin = k.from-begin ∙ added_begin c.args.trees k.written.stood a k.counted }

pub returns : goal.returns
returns c = λ w s ts a many. places_one a.stood (adds_over c.args.kind c.args.trees a.adds many c.requires.takes c.in-Ok.ensures.ok c.in-Ok.ensures.kept c.in-Ok.ensures.stands)
