use Rattle.node_pool.proofs.{Shared.{◌∙◌, ◌≡◌, ◌%◌, ◌/◌, ◌^◌, to_le_bytes, w64}, Numbers.halves_are}
use Rattle.node_pool.proofs.node.wide_bytes.Goals as goal

pub returns : goal.returns
returns c =
    let low : c.copy_from_slice.new.self ≡ to_le_bytes w64 (c.args.number % 2 ^ 64) = c.copy_from_slice.ensures.after ∙ c.to_le_bytes.ensures in
    let high : c.copy_from_slice-2.new.self ≡ to_le_bytes w64 (c.args.number / 2 ^ 64) = c.copy_from_slice-2.ensures.after ∙ c.to_le_bytes-2.ensures in
    rw (low, high) (halves_are c.args.number)
