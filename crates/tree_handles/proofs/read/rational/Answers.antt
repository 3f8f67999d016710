use Rattle.tree_handles.proofs.{Shared.{◌≡◌, sym, ap, ◌∙◌, kind_of_payload, rational, ratio_of, tree_at, payload_in, forest}, Parts.live_node, Plains.holds_number}
use Rattle.tree_handles.proofs.Readings.{payload_seen, plain_number}
use Rattle.tree_handles.proofs.read.rational.Goals as goal

pub rational-requires-clause-live : goal.rational-requires-clause-live
rational-requires-clause-live c = live_node c.args.id c.args.pool.now c.requires.stands c.requires.live

pub rational-requires-clause-number : goal.rational-requires-clause-number
rational-requires-clause-number c = ap kind_of_payload (payload_seen c.args.id c.args.pool.now c.requires.stands c.requires.live) ∙ holds_number (tree_at c.args.id (forest c.args.pool.now)) c.requires.number

pub returns : goal.returns
returns c =
    let value : payload_in c.args.id (forest c.args.pool.now) ≡ rational (ratio_of c.rational.result) = sym (payload_seen c.args.id c.args.pool.now c.requires.stands c.requires.live) ∙ c.rational.ensures in
    record { value = value; plain = plain_number c.args.id (forest c.args.pool.now) (ratio_of c.rational.result) c.requires.live value }
