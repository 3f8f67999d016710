-- The nodes that go of trees, one after another.
use Rattle.node_pool.proofs.Shared.{Bool, List, [], ap, arith, cond, eqb, false, length, refl, sym, true, ℕ, ◌++◌, ◌+◌, ◌-◌, ◌<◌, ◌∙◌, ◌∷◌, ◌≡◌, ◌≤◌, length-append, le-leb, ne_eqb, Node, unheld, used}
use Rattle.node_pool.proofs.{Shared.{between, since, until, leb}, Cuts.{until-append, until-since}, Sizes.{length_le_used, used-append}}

-- no tree is left
pub unheld_none : (ns : List Node) → unheld 0 ns ≡ []
unheld_none [] = refl
unheld_none (n ∷ ns) = refl

-- the next node goes
pub unheld_more : (trees : ℕ) (ms : List Node) (n : Node) (ns : List Node) → ms ≡ n ∷ ns → 0 < trees → n.count ≤ 1 → unheld trees ms ≡ n ∷ unheld (trees - 1 + n.children) ns
unheld_more trees ms n ns e some h =
    let no : eqb trees 0 ≡ false = ne_eqb trees 0 (λ q. absurd (omega arith)) in
    ap (unheld trees) e ∙ rw (no, le-leb n.count 1 h) refl

prefix_step : (t u : Bool) (n : Node) (a r ns : List Node) → a ++ r ≡ ns → (x : List Node) × (cond t [] (cond u (n ∷ a) []) ++ x ≡ n ∷ ns)
prefix_step false true n a r ns e = (r, ap (λ (x : List Node). n ∷ x) e)
prefix_step t u n a r ns e = (n ∷ ns, refl)

prefix : (trees : ℕ) (ns : List Node) → (x : List Node) × (unheld trees ns ++ x ≡ ns)
prefix trees [] = ([], refl)
prefix trees (n ∷ ns) =
    let p = prefix (trees - 1 + n.children) ns in
    prefix_step (eqb trees 0) (leb n.count 1) n (unheld (trees - 1 + n.children) ns) p.0 ns p.1

pub unheld_few : (trees at : ℕ) (ns : List Node) → used ns ≤ 524280 → length (unheld trees (since at ns)) ≤ 65535
unheld_few trees at ns h =
    let p = prefix trees (since at ns) in
    omega (arith, ap length p.1, length-append (unheld trees (since at ns)) p.0, length_le_used (since at ns), used-append (until at ns) (since at ns), ap used (until-since at ns))

pub between_unheld : (trees at to : ℕ) (ns : List Node) → to ≡ at + used (unheld trees (since at ns)) → between at to ns ≡ unheld trees (since at ns)
between_unheld trees at to ns e =
    let gone = unheld trees (since at ns) in
    let p = prefix trees (since at ns) in
    let size : to - at ≡ used gone = omega arith in
    ap (λ (k : ℕ). until k (since at ns)) size ∙ ap (until (used gone)) (sym p.1) ∙ until-append gone p.0
