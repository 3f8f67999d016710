use Rattle.node_pool.proofs.{Shared.{rules, List, ℕ, drop, ap, ◌∙◌, header_in}, Fields.{IsSeen, seen, stored, has_room}}
use Rattle.node_pool.proofs.buffer.Buffer.header_in.Goals as goal

pub header_at-requires : goal.header_at-requires
header_at-requires c = record {
  inside = rw (stored c.self.inside c.args.self.now c.args.bytes.now c.self.invariant c.self.view_is c.requires.bytes) (has_room c.self.inside c.args.self.now c.args.at c.self.invariant c.self.view_is c.requires.boundary c.requires.inside);
}

all : (c : goal.After-header_at) → IsSeen c.header_at.result c.args.at c.args.self.now.nodes
all c =
    let store = stored c.self.inside c.args.self.now c.args.bytes.now c.self.invariant c.self.view_is c.requires.bytes in
    seen c.self.inside c.args.self.now c.header_at.result c.args.at c.self.invariant c.self.view_is c.requires.boundary c.requires.inside (c.header_at.ensures ∙ ap (λ (xs : List ℕ). header_in (drop c.args.at xs)) store)

pub returns : goal.returns
returns c = record { value = (all c).value; next = (all c).next; rest = (all c).rest; within = (all c).within; kept = search rules }
