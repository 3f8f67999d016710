use Rattle.node_pool.proofs.Shared.{rules, List, refl, ap, length, subst, sym, ◌∙◌, ◌≡◌, ◌≤◌, ◌-◌, ℕ, Node, Contents, AreBelow, IsKept, state_of, noted, IsBoundary}
use Rattle.node_pool.proofs.{Shared.{between, exchanged, State, Inside}, Exchanges.AreBlocks, Keeping.{AreNotable, boundary_in, exchanged_blocks, notable}, Noting.length-noted}
use Rattle.node_pool.proofs.pool.Pool.exchange.Goals as goal

blocks : (p : Inside) (s : State) (i j k l : ℕ) → state_of p ≡ s → IsBoundary i s.nodes → IsBoundary j s.nodes → IsBoundary k s.nodes → IsBoundary l s.nodes → i ≤ j → j ≤ k → k ≤ l → AreBlocks i j k l p.buffer.nodes
blocks p s i j k l e b1 b2 b3 b4 h1 h2 h3 = record { first = boundary_in p s i e b1; mid = boundary_in p s j e b2; second = boundary_in p s k e b3; end = boundary_in p s l e b4; low = h1; apart = h2; high = h3 }

ready : (p : Inside) (s : State) (b : Contents) (i j k l : ℕ) → IsKept p → state_of p ≡ s → IsBoundary i s.nodes → IsBoundary j s.nodes → IsBoundary k s.nodes → IsBoundary l s.nodes → i ≤ j → j ≤ k → k ≤ l → l - k ≡ j - i
    → b ≡ record p.buffer { nodes = exchanged i j k l p.buffer.nodes } → AreNotable i j k l b.nodes p.places
ready p s b i j k l kept e b1 b2 b3 b4 h1 h2 h3 same is = notable p b i j k l kept (blocks p s i j k l e b1 b2 b3 b4 h1 h2 h3) same is

pub note_block-requires : goal.note_block-requires
note_block-requires c =
    let r = c.requires in
    let facts = ready c.self.inside c.args.self.now c.exchange.new.self c.args.first c.args.mid c.args.second c.args.end c.self.invariant c.self.view_is r.first r.mid r.second r.end r.low r.apart r.high r.alike c.exchange.ensures.nodes in
    record { from = facts.first; to = facts.mid; known = facts.low; order = search rules }

pub note_block-requires-2 : goal.note_block-requires-2
note_block-requires-2 c =
    let r = c.requires in
    let facts = ready c.self.inside c.args.self.now c.exchange.new.self c.args.first c.args.mid c.args.second c.args.end c.self.invariant c.self.view_is r.first r.mid r.second r.end r.low r.apart r.high r.alike c.exchange.ensures.nodes in
    let part = between c.args.first c.args.mid c.exchange.new.self.nodes in
    record {
      from = facts.second;
      to = facts.end;
      known = subst (λ (n : ℕ). AreBelow n (between c.args.second c.args.end c.exchange.new.self.nodes)) (sym (ap length c.note_block.ensures ∙ length-noted c.args.first part c.self.inside.places)) facts.high;
      order = search rules;
    }

all : (c : goal.After-note_block-2) → IsKept (record { buffer = c.exchange.new.self; taken = c.self.inside.taken; places = c.note_block-2.new.places; refusals = c.self.inside.refusals; last_refused = c.self.inside.last_refused })
all c =
    let p = c.self.inside in
    let r = c.requires in
    let i = c.args.first in
    let j = c.args.mid in
    let k = c.args.second in
    let l = c.args.end in
    let nodes = ap (λ (x : Contents). x.nodes) c.exchange.ensures.nodes in
    let places = c.note_block-2.ensures ∙ ap (noted k (between k l c.exchange.new.self.nodes)) c.note_block.ensures ∙ ap (λ (ns : List Node). noted k (between k l ns) (noted i (between i j ns) p.places)) nodes in
    exchanged_blocks p _ i j k l c.self.invariant (blocks p c.args.self.now i j k l c.self.view_is r.first r.mid r.second r.end r.low r.apart r.high) r.alike refl c.exchange.ensures.nodes c.exchange.ensures.kept places

pub invariant_of-self : goal.invariant_of-self
invariant_of-self c = all c

pub returns-clause-pool : goal.returns-clause-pool
returns-clause-pool c = (all c).pool
