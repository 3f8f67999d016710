use Rattle.node_pool.proofs.Shared.{ap, pos, ◌∙◌, w128, cast_unsigned, ratio_of, put, ◌+◌, back_unsigned}
use Rattle.node_pool.proofs.Puts.{rational_put}
use Rattle.node_pool.proofs.node.write_rational.Goals as goal

pub returns : goal.returns
returns c =
    let f = ratio_of c.args.value in
    rational_put c.args.store.now c.write.new.self _ c.args.at (cast_unsigned w128 f.num) f.den c.cast_unsigned.result c.cast_unsigned-2.result c.requires.inside
    (back_unsigned _ _ _ c.num.ensures.rat.num_fits c.num.ensures.value c.cast_unsigned.ensures)
    (back_unsigned _ _ (pos f.den) c.num.ensures.rat.den_fits c.den.ensures.value c.cast_unsigned-2.ensures)
    (c.write.ensures ∙ ap (put c.args.store.now c.args.at) c.wide_bytes.ensures) (c.write-2.ensures ∙ ap (put c.write.new.self (c.args.at + 16)) c.wide_bytes-2.ensures)
