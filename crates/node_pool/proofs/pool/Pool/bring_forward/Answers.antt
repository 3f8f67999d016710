use Rattle.node_pool.proofs.Shared.{rules, List, arith, refl, ap, subst, sym, ◌∙◌, ◌≡◌, ◌≤◌, ◌+◌, ℕ, Node, Contents, IsKept, state_of, noted, IsBoundary, between}
use Rattle.node_pool.proofs.{Shared.{swapped, State, Inside}, Keeping.{boundary_in, end_small, rotated_block, swapped_known}, Noting.{IsTurned, turned, turned_start, turned_end}}
use Rattle.node_pool.proofs.{Cuts.{swapped_back, swapped_front}, pool.Pool.bring_forward.Goals.{then-to-from-via-then-to-from, then-to-from-via-else-to-from+then-from-end}}
use Rattle.node_pool.proofs.pool.Pool.bring_forward.Goals as goal

-- one half is empty
still : (s : State) (ns : List Node) → ns ≡ s.nodes → s ≡ record s { nodes = ns }
still s ns e = ap (λ (ms : List Node). let r : State = record s { nodes = ms } in r) (sym e)

pub returns-then-to-from-clause-nodes : goal.returns-then-to-from-clause-nodes
returns-then-to-from-clause-nodes c =
    let s = c.args.self.now in
    let r = c.requires in
    let end = c.args.from + c.args.len in
    elim c.then-to-from.branch [
      | then-to-from-via-then-to-from w ↦ ap state_of w.self-inside-is ∙ c.self.view_is ∙ still s _ (subst (λ (i : ℕ). swapped c.args.to i end s.nodes ≡ s.nodes) w.if-to-from.true (swapped_front c.args.to end s.nodes r.to r.end (omega arith)))
      | then-to-from-via-else-to-from+then-from-end w ↦ ap state_of w.self-inside-is ∙ c.self.view_is ∙ still s _ (subst (λ (k : ℕ). swapped c.args.to c.args.from k s.nodes ≡ s.nodes) w.if-from-end.true (swapped_back c.args.to c.args.from s.nodes r.to r.from r.order))
    ]

pub overflow_add-end : goal.overflow_add-end
overflow_add-end c = record { fits = end_small c.self.inside c.args.self.now (c.args.from + c.args.len) c.self.invariant c.self.view_is c.requires.end }

turn : (p : Inside) (s : State) (i j k : ℕ) → state_of p ≡ s → IsBoundary i s.nodes → IsBoundary j s.nodes → IsBoundary k s.nodes → i ≤ j → j ≤ k → IsTurned i k p.buffer.nodes (swapped i j k p.buffer.nodes)
turn p s i j k e a b c h1 h2 = turned i j k p.buffer.nodes (boundary_in p s i e a) (boundary_in p s j e b) (boundary_in p s k e c) h1 h2

pub note_block-requires : goal.note_block-requires
note_block-requires c =
    let r = c.requires in
    let facts = turn c.self.inside c.args.self.now c.args.to c.args.from (c.args.from + c.args.len) c.self.view_is r.to r.from r.end r.order (omega arith) in
    let p = c.self.inside in
    let s = c.args.self.now in
    let end = c.args.from + c.args.len in
    record {
      from = rw (ap (λ (x : Contents). x.nodes) c.rotate.ensures.nodes) (turned_start facts);
      to = rw (ap (λ (x : Contents). x.nodes) c.rotate.ensures.nodes) (turned_end facts);
      known = rw (ap (λ (x : Contents). x.nodes) c.rotate.ensures.nodes) (swapped_known p c.args.to c.args.from end c.self.invariant (boundary_in p s c.args.to c.self.view_is r.to) (boundary_in p s c.args.from c.self.view_is r.from) (boundary_in p s end c.self.view_is r.end) r.order (omega arith));
      order = search rules;
    }

all : (c : goal.After-note_block) → IsKept (record { buffer = c.rotate.new.self; taken = c.self.inside.taken; places = c.note_block.new.places; refusals = c.self.inside.refusals; last_refused = c.self.inside.last_refused })
all c =
    let p = c.self.inside in
    let s = c.args.self.now in
    let r = c.requires in
    let to = c.args.to in
    let end = c.args.from + c.args.len in
    rotated_block p _ to c.args.from end c.self.invariant (boundary_in p s to c.self.view_is r.to) (boundary_in p s c.args.from c.self.view_is r.from) (boundary_in p s end c.self.view_is r.end) r.order (omega arith) refl
    c.rotate.ensures.nodes c.rotate.ensures.kept (c.note_block.ensures ∙ ap (λ ns. noted to (between to end ns) p.places) (ap (λ (x : Contents). x.nodes) c.rotate.ensures.nodes))

pub invariant_of-self-2 : goal.invariant_of-self-2
invariant_of-self-2 c = all c

pub returns-clause-pool : goal.returns-clause-pool
returns-clause-pool c = (all c).pool
