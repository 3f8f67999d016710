use Rattle.node_order.proofs.Shared.{◌∙◌, arith, length, range_with_len, map-id, fill_by_all}
use Rattle.node_order.proofs.arranging.list_places.Goals as goal

pub returns : goal.returns
returns c = fill_by_all (λ k. k) c.loop-place.listed (length c.args.listed.now) 0 c.loop-place.invariant.0 (λ k h. c.loop-place.invariant.1 k (omega arith)) ∙ map-id (range_with_len 0 (length c.args.listed.now))
