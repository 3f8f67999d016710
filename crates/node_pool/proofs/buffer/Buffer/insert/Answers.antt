use Rattle.node_pool.proofs.Shared.{arith, refl, ap, length, ◌+◌, ◌-◌, ◌≤◌, ◌∙◌, ◌≡◌, ℕ, Node, Contents, contents_of, IsLaid, IsBoundary, used, parent, put, put_before, length-slid}
use Rattle.node_pool.proofs.{Fields.{IsDone, opened, size_is, within}, Changes.{done, inserted, parent_bytes, parent_node}}
use Rattle.node_pool.specs.declared.buffer.Buffer.TheInside.{Inside}
use Rattle.node_pool.proofs.buffer.Buffer.insert.Goals as goal

-- the new node's bytes are within the store
fits : (p : Inside) (s : Contents) (at : ℕ) → IsLaid p → contents_of p ≡ s → IsBoundary at s.nodes → 8 ≤ s.size - used s.nodes
    → (at ≤ p.used) × (p.used + 8 ≤ length p.store) × (length p.store ≤ 524280) × (p.count + 1 ≤ 524281)
fits p s at k e b room = let w = within p s at k e b in (w.low, omega (arith, (opened p s k e).used, room, size_is p s e), w.small, omega (arith, w.count, w.fits, w.small))

pub overflow_add-at : goal.overflow_add-at
overflow_add-at c = record { fits = omega (arith, fits c.self.inside c.args.self.now c.args.at c.self.invariant c.self.view_is c.requires.boundary c.requires.room) }

pub slide-requires : goal.slide-requires
slide-requires c =
    let f = fits c.self.inside c.args.self.now c.args.at c.self.invariant c.self.view_is c.requires.boundary c.requires.room in
    record { source = omega (arith, f.0, f.1); target = omega (arith, f.0, f.1) }

pub write_header-requires : goal.write_header-requires
write_header-requires c =
    let p = c.self.inside in
    let f = fits p c.args.self.now c.args.at c.self.invariant c.self.view_is c.requires.boundary c.requires.room in
    let same : length c.slide.new.self ≡ length p.store = ap length c.slide.ensures ∙ length-slid p.store c.args.at (c.args.at + 8) (p.used - c.args.at) (omega (arith, f.0, f.1))
    (omega (arith, f.0, f.1)) in
    record { inside = omega (arith, f.0, f.1, same); small = omega (arith, f.2, same) }

pub overflow_add-self : goal.overflow_add-self
overflow_add-self c = record { fits = omega (arith, fits c.self.inside c.args.self.now c.args.at c.self.invariant c.self.view_is c.requires.boundary c.requires.room) }

pub overflow_add-self-2 : goal.overflow_add-self-2
overflow_add-self-2 c = record { fits = omega (arith, fits c.self.inside c.args.self.now c.args.at c.self.invariant c.self.view_is c.requires.boundary c.requires.room) }

pub overflow_sub-used : goal.overflow_sub-used
overflow_sub-used c = omega (arith, within c.self.inside c.args.self.now c.args.at c.self.invariant c.self.view_is c.requires.boundary)

all : (c : goal.After-self-2-1) → IsDone c.args.self.now (record { store = c.write_header.new.store; used = c.self.inside.used + 8; count = c.self.inside.count + 1 }) (put_before c.args.at (parent c.args.id c.args.kind c.args.children) c.args.self.now.nodes)
all c =
    let s = c.args.self.now in
    let p = c.self.inside in
    let o = opened p s c.self.invariant c.self.view_is in
    let n : Node = parent c.args.id c.args.kind c.args.children in
    let bytes = c.write_header.ensures.put ∙ ap (put c.slide.new.self c.args.at) (parent_bytes c.args.id c.args.children c.args.kind _ refl) in
    done p _ s _ c.self.view_is (inserted p _ c.slide.new.self s.nodes n c.args.at o c.requires.boundary (parent_node c.args.id c.args.children c.args.kind (omega arith) (omega arith) c.requires.bare)
    (omega (arith, c.requires.room, size_is p s c.self.view_is)) c.slide.ensures bytes refl refl)

pub invariant_of-self : goal.invariant_of-self
invariant_of-self c = (all c).laid

pub returns : goal.returns
returns c = record { nodes = (all c).nodes; kept = (all c).kept }
