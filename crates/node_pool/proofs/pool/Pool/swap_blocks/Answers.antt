use Rattle.node_pool.proofs.{Shared.{rules, List, arith, ap, sym, subst, ◌∙◌, ◌≡◌, ◌≤◌, ◌+◌, ◌-◌, ℕ, Node, IsBoundary, exchanged, swapped, State}, Exchanges.{IsHalf, half}}
use Rattle.node_pool.proofs.pool.Pool.swap_blocks.Goals as goal

-- what the first move leaves
once : (i j k l : ℕ) (s m : State) → IsBoundary i s.nodes → IsBoundary j s.nodes → IsBoundary k s.nodes → IsBoundary l s.nodes → i ≤ j → j ≤ k → k ≤ l → m ≡ record s { nodes = swapped i k (k + (l - k)) s.nodes } → IsHalf i j k l s.nodes m.nodes
once i j k l s m b1 b2 b3 b4 h1 h2 h3 is =
    let e : k + (l - k) ≡ l = omega arith in
    subst (IsHalf i j k l s.nodes) (sym (ap (λ (x : State). x.nodes) is ∙ ap (λ (n : ℕ). swapped i k n s.nodes) e))
    (half i j k l s.nodes (record { first = b1; mid = b2; second = b3; end = b4; low = h1; apart = h2; high = h3 }))

pub bring_forward-requires-else-len-mid : goal.bring_forward-requires-else-len-mid
bring_forward-requires-else-len-mid c =
    let r = c.requires in
    let facts = once c.args.first c.args.mid c.args.second c.args.end c.args.self.now c.bring_forward.new.self r.first r.mid r.second r.end r.low r.apart r.high c.bring_forward.ensures.nodes in
    let e : c.args.end ≡ c.args.mid + (c.args.end - c.args.second) + (c.args.second - c.args.mid) = omega arith in
    record { from = facts.mid; end = subst (λ (n : ℕ). IsBoundary n c.bring_forward.new.self.nodes) e facts.end; to = facts.start; order = search rules }

-- what both moves leave
both : (i j k l : ℕ) (s m t : State) → IsHalf i j k l s.nodes m.nodes → j ≤ k → k ≤ l → m ≡ record s { nodes = swapped i k (k + (l - k)) s.nodes } → t ≡ record m { nodes = swapped (i + (l - k)) (j + (l - k)) (j + (l - k) + (k - j)) m.nodes } → t ≡ record s { nodes = exchanged i j k l s.nodes }
both i j k l s m t n h2 h3 is e =
    let end : j + (l - k) + (k - j) ≡ l = omega arith in
    e ∙ ap (λ (x : ℕ). record m { nodes = swapped (i + (l - k)) (j + (l - k)) x m.nodes }) end ∙ ap (λ (ns : List Node). record m { nodes = ns }) n.done ∙ ap (λ (x : State). record x { nodes = exchanged i j k l s.nodes }) is

pub returns-else-len-mid-clause-nodes : goal.returns-else-len-mid-clause-nodes
returns-else-len-mid-clause-nodes c =
    let r = c.requires in
    both c.args.first c.args.mid c.args.second c.args.end c.args.self.now c.bring_forward.new.self _
    (once c.args.first c.args.mid c.args.second c.args.end c.args.self.now c.bring_forward.new.self r.first r.mid r.second r.end r.low r.apart r.high c.bring_forward.ensures.nodes) r.apart r.high c.bring_forward.ensures.nodes c.bring_forward-else-len-mid.ensures.nodes
