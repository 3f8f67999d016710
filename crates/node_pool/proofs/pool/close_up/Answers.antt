use Rattle.node_pool.proofs.Shared.{List, arith, ap, sym, subst, length, ◌∙◌, ◌≡◌, ℕ, Node, AreBelow, Contents, noted, used, IsBoundary, between, since, until, without}
use Rattle.node_pool.proofs.{Cuts.boundary_le, Found.end_boundary, Noting.closed_part, Splits.boundary-append}
use Rattle.node_pool.proofs.pool.close_up.Goals as goal

-- what is left has a boundary where the block was
seam : (at to : ℕ) (ns : List Node) → IsBoundary at ns → IsBoundary at (without at to ns)
seam at to ns b = boundary-append (until at ns) (since to ns) at (sym b)

-- the nodes that close up
part : (at to end : ℕ) (ns ms : List Node) → IsBoundary at ns → ms ≡ without at to ns → end ≡ used ms → between at end ms ≡ since to ns
part at to end ns ms b e u = ap (λ (k : ℕ). between at k ms) u ∙ ap (λ (l : List Node). between at (used l) l) e ∙ closed_part at to ns b

pub note_block-requires : goal.note_block-requires
note_block-requires c =
    let left = c.used-used.ensures ∙ ap (λ (x : Contents). used x.nodes) c.remove.ensures.nodes in
    record {
      from = rw (ap (λ (x : Contents). x.nodes) c.remove.ensures.nodes) (seam c.args.at c.args.end c.args.buffer.now.nodes c.requires.from);
      to = end_boundary c.remove.new.self.nodes c.used-used.result c.used-used.ensures;
      order = omega (arith, left, boundary_le c.args.at (without c.args.at c.args.end c.args.buffer.now.nodes) (seam c.args.at c.args.end c.args.buffer.now.nodes c.requires.from));
      known = subst (AreBelow (length c.args.places.now)) (sym (part c.args.at c.args.end c.used-used.result c.args.buffer.now.nodes c.remove.new.self.nodes c.requires.from (ap (λ (x : Contents). x.nodes) c.remove.ensures.nodes) c.used-used.ensures)) c.requires.known;
    }

pub returns-clause-places : goal.returns-clause-places
returns-clause-places c =
    c.note_block.ensures ∙ ap (λ (l : List Node). noted c.args.at l c.args.places.now) (part c.args.at c.args.end c.used-used.result c.args.buffer.now.nodes c.remove.new.self.nodes c.requires.from (ap (λ (x : Contents). x.nodes) c.remove.ensures.nodes) c.used-used.ensures)
