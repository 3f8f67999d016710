use Rattle.node_pool.proofs.{Shared.{◌∙◌, ap, arith, drop, header_in, header_is, refl}, Fields.{front_is, short_is}}
use Rattle.node_pool.proofs.node.header_at.Goals as goal

pub returns : goal.returns
returns c =
    header_is c.read-front.result _ _ _ _ _ c.kind_in.ensures (short_is c.read-front.result 0 _ _ (omega arith) refl refl) c.pair_in.ensures c.pair_in-2.ensures c.pair_in-3.ensures
    ∙ ap header_in c.read-front.ensures
    ∙ front_is (drop c.args.at c.args.bytes.now)
