-- Fewer identifiers than nodes.
use Rattle.node_pool.proofs.Shared.{List, [], arith, cond, eqb, length, suc, true, zero, ℕ, ◌<◌, ◌∷◌, ◌≡◌, ◌≤◌, eqb-true, Node, has}

-- without the first node of that identifier
abbrev without : ℕ → List Node → List Node
without i [] = []
without i (n ∷ ns) = cond (eqb n.id i) ns (n ∷ without i ns)

shorter : (i : ℕ) (ns : List Node) → has i ns ≡ true → suc (length (without i ns)) ≡ length ns
shorter i [] h = absurd cc
shorter i (n ∷ ns) h = grind (arith, shorter i ns)

has_without : (i j : ℕ) (ns : List Node) → (j ≡ i → ⊥) → has j ns ≡ true → has j (without i ns) ≡ true
has_without i j [] ne h = h
has_without i j (n ∷ ns) ne h = grind (arith, eqb-true, has_without i j ns ne)

pub holes : (k : ℕ) (ns : List Node) → ((j : ℕ) → j < k → has j ns ≡ true) → k ≤ length ns
holes zero ns h = omega arith
holes (suc k) ns h =
    let one = shorter k ns (h k (omega arith)) in
    let rest : k ≤ length (without k ns) = holes k (without k ns) (λ j lt. has_without k j ns (λ e. absurd (omega arith)) (h j (omega arith))) in
    omega arith
