use Rattle.node_pool.proofs.{Shared.{arith, ap, set, ◌∙◌, ◌≡◌, Header, size_of_header, size_of_payload, payload_of, IsKept, free_of}, Keeping.{placed, room_unused}}
use Rattle.calc_terms.proofs.Sizes.{payload_least as size_leaf}
use Rattle.node_pool.proofs.pool.Pool.place.Goals as goal

pub take_least-id-requires-clause-some : goal.take_least-id-requires-clause-some
take_least-id-requires-clause-some c =
    let size : c.size-needed.result ≡ size_of_payload (payload_of c.args.leaf) = c.size-needed.ensures ∙ ap size_of_header c.header-header.ensures in
    room_unused c.self.inside c.size-needed.result c.self.invariant (omega (arith, size_leaf (payload_of c.args.leaf), size))
    (omega (arith, c.if-needed-free.false, c.free.ensures.value, ap free_of c.self.view_is))

pub note-requires : goal.note-requires
note-requires c = omega (arith, c.take_least-id.ensures.least.inside, c.self.invariant.flags_length, c.self.invariant.places_length)

all : (c : goal.After-of) → IsKept (record { buffer = c.push.new.self; taken = c.take_least-id.new.self; places = c.note.new.self; refusals = c.self.inside.refusals; last_refused = c.self.inside.last_refused })
all c = placed c.self.inside _ c.take_least-id.result (payload_of c.args.leaf) c.self.invariant c.take_least-id.ensures.least c.take_least-id.ensures.taken (c.note.ensures ∙ ap (set c.self.inside.places c.take_least-id.result) c.used-at.ensures) c.push.ensures.nodes c.push.ensures.kept

pub invariant_of-self : goal.invariant_of-self
invariant_of-self c = all c

pub returns-clause-pool : goal.returns-clause-pool
returns-clause-pool c = (all c).pool

pub push-requires-clause-header : goal.push-requires-clause-header
push-requires-clause-header c = ap (λ (h : Header). let r : Header = record h { id = c.take_least-id.result } in r) c.header-header.ensures

pub push-requires-clause-size : goal.push-requires-clause-size
push-requires-clause-size c = c.size-needed.ensures ∙ ap size_of_header c.header-header.ensures
