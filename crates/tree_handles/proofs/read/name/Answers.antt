use Rattle.tree_handles.proofs.{Parts.live_node, Plains.holds_symbol, Shared.{◌≡◌, sym, ap, ◌∙◌, name_of, kind_of_payload, named, tree_at, payload_in, forest}, Readings.{payload_seen, plain_symbol}}
use Rattle.tree_handles.proofs.read.name.Goals as goal

pub name-requires-clause-live : goal.name-requires-clause-live
name-requires-clause-live c = live_node c.args.id c.args.pool.now c.requires.stands c.requires.live

pub name-requires-clause-symbol : goal.name-requires-clause-symbol
name-requires-clause-symbol c = ap kind_of_payload (payload_seen c.args.id c.args.pool.now c.requires.stands c.requires.live) ∙ holds_symbol (tree_at c.args.id (forest c.args.pool.now)) c.requires.symbol

pub returns : goal.returns
returns c =
    let value : payload_in c.args.id (forest c.args.pool.now) ≡ named (name_of c.name.result) = sym (payload_seen c.args.id c.args.pool.now c.requires.stands c.requires.live) ∙ c.name.ensures in
    record { value = value; plain = plain_symbol c.args.id (forest c.args.pool.now) (name_of c.name.result) c.requires.live value }
