use Rattle.linear_solve.proofs.{Shared.{◌<◌, ℕ, List, [], length, map, length-map, zero_fraction, name_of, zero_value}, Entries.{longer, mapped_more}}
use Rattle.linear_solve.proofs.Places.{below_mapped}
use Rattle.linear_solve.proofs.side.SideRow.constant.Goals as goal

pub loop-preserved : goal.loop-preserved
loop-preserved c =
    let l : c.loop.index < length (map name_of c.args.names.now) = below_mapped (length-map c.args.names.now name_of) c.loop-test.true in
    record {
      made = mapped_more (λ (x : List ℕ). zero_fraction) (map name_of c.args.names.now) c.loop.index [] _ _ _ l c.push.ensures c.loop.invariant.made (zero_value c.whole.result c.whole.ensures);
      long = longer _ _ _ c.loop.index c.push.ensures c.loop.invariant.long;
    }
