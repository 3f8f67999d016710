use Rattle.node_pool.proofs.Shared.{List, arith, ap, sym, subst, length, ◌∙◌, ◌≡◌, ◌∷◌, ℕ, Node, AreBelow, Contents, IsKept, noted, used, parent, put_before, IsBoundary, between, since, until}
use Rattle.node_pool.proofs.{Shared.{free_of}, Cuts.boundary_le, Found.end_boundary, Noting.last_part, Keeping.{boundary_in, new_known, placed_before, room_unused}, Splits.{boundary-append}}
use Rattle.node_pool.proofs.pool.Pool.insert.Goals as goal

pub take_least-id-requires-clause-some : goal.take_least-id-requires-clause-some
take_least-id-requires-clause-some c = room_unused c.self.inside 8 c.self.invariant (omega arith) (omega (arith, c.if-free-lt-HEADER.false, c.free.ensures.value, ap free_of c.self.view_is))

-- the new node and those behind it are the last
part : (at to : ℕ) (n : Node) (ns ms : List Node) → IsBoundary at ns → ms ≡ put_before at n ns → to ≡ used ms → between at to ms ≡ n ∷ since at ns
part at to n ns ms b e u = ap (λ (k : ℕ). between at k ms) u ∙ ap (λ (l : List Node). between at (used l) l) e ∙ last_part (until at ns) (n ∷ since at ns) at b

seam : (at : ℕ) (n : Node) (ns ms : List Node) → IsBoundary at ns → ms ≡ put_before at n ns → IsBoundary at ms
seam at n ns ms b e = subst (IsBoundary at) (sym e) (boundary-append (until at ns) (n ∷ since at ns) at (sym b))

pub note_block-requires : goal.note_block-requires
note_block-requires c =
    let boundary = boundary_in c.self.inside c.args.self.now c.args.at c.self.view_is c.requires.boundary in
    let n : Node = parent c.take_least-id.result c.args.kind c.args.children in
    let p = c.self.inside in
    let at = boundary_in p c.args.self.now c.args.at c.self.view_is c.requires.boundary in
    record {
      from = seam c.args.at n c.self.inside.buffer.nodes c.insert.new.self.nodes boundary (ap (λ (x : Contents). x.nodes) c.insert.ensures.nodes);
      to = end_boundary c.insert.new.self.nodes c.used-used.result c.used-used.ensures;
      order = omega (arith, c.used-used.ensures, boundary_le c.args.at c.insert.new.self.nodes (seam c.args.at n c.self.inside.buffer.nodes c.insert.new.self.nodes boundary (ap (λ (x : Contents). x.nodes) c.insert.ensures.nodes)));
      known = subst (AreBelow (length p.places)) (sym (part c.args.at c.used-used.result n p.buffer.nodes c.insert.new.self.nodes at (ap (λ (x : Contents). x.nodes) c.insert.ensures.nodes) c.used-used.ensures)) (new_known p n c.args.at c.self.invariant c.take_least-id.ensures.least);
    }

all : (c : goal.After-of) → IsKept (record { buffer = c.insert.new.self; taken = c.take_least-id.new.self; places = c.note_block.new.places; refusals = c.self.inside.refusals; last_refused = c.self.inside.last_refused })
all c =
    let p = c.self.inside in
    let n : Node = parent c.take_least-id.result c.args.kind c.args.children in
    let at = boundary_in p c.args.self.now c.args.at c.self.view_is c.requires.boundary in
    let last = part c.args.at c.used-used.result n p.buffer.nodes c.insert.new.self.nodes at (ap (λ (x : Contents). x.nodes) c.insert.ensures.nodes) c.used-used.ensures in
    placed_before p _ n c.args.at c.self.invariant at c.take_least-id.ensures.least c.take_least-id.ensures.taken (c.note_block.ensures ∙ ap (λ (l : List Node). noted c.args.at l p.places) last) c.insert.ensures.nodes c.insert.ensures.kept

pub invariant_of-self : goal.invariant_of-self
invariant_of-self c = all c

pub returns-clause-pool : goal.returns-clause-pool
returns-clause-pool c = (all c).pool
