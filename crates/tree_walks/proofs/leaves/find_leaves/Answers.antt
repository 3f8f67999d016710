use Rattle.tree_walks.proofs.Shared.{rules, ◌≡◌, ◌∙◌, ◌+◌, ◌-◌, ◌<◌, ◌≤◌, ℕ, zero, suc, List, [], ◌∷◌, ◌++◌, length, take, drop, sym, ap, arith, refl, append_assoc, true, set, length-set, name_of}
use Rattle.tree_walks.proofs.{Shared.{Visit, Forest, payload_in, has_name, take-set_at}, Searches.{IsLooking, looking, looked, looked_all}}
use Rattle.tree_walks.proofs.leaves.find_leaves.Goals as goal

drop_none : (n : ℕ) → drop {A = ℕ} n [] ≡ []
drop_none zero = refl
drop_none (suc n) = refl

drop_one : (n i : ℕ) (xs : List ℕ) → 0 < n → drop n (i ∷ xs) ≡ drop (n - 1) xs
drop_one zero i xs h = absurd (omega arith)
drop_one (suc n) i xs h = ap (λ (m : ℕ). drop m xs) (omega arith)

-- one more is found
one_more : {x ids : List ℕ} {v : Visit} {xs left : List Visit} {base : Forest} (all leaves : List ℕ) (n m : ℕ) → IsLooking x xs ids base → xs ≡ v ∷ left
    → has_name x (payload_in v.id base) ≡ true → all ≡ take n leaves ++ drop m ids → m ≤ 0 → n < 256 → length leaves ≡ 256
    → (rest : List ℕ) × IsLooking x left rest base × (all ≡ take (n + 1) (set leaves n v.id) ++ rest)
one_more {v = v} all leaves n m w e b q z h len =
    let y = (looked w e).here b in
    let none : m ≡ 0 = omega (arith, z) in
    (y.0, y.2, q ∙ ap (λ (ids : List ℕ). take n leaves ++ drop m ids) y.1 ∙ ap (λ (k : ℕ). take n leaves ++ drop k (v.id ∷ y.0)) none ∙ sym (append_assoc (take n leaves) (v.id ∷ []) y.0) ∙ ap (λ (ids : List ℕ). ids ++ y.0) (sym (take-set_at leaves n (n + 1) v.id refl (omega (arith, h, len)))))

pub loop-node-init : goal.loop-node-init
loop-node-init c = (_, looking c.args.id (name_of c.args.name) c.requires.stands (cc), refl, c.told-leaves, omega arith)

pub is_leaf_of-requires : goal.is_leaf_of-requires
is_leaf_of-requires c =
    let facts = looked c.loop-node.invariant.1 c.in-Some.ensures.steps in
    record { live = facts.live; kind = facts.kind; stands = search rules }

pub loop-node-preserved-then-passing-gt0 : goal.loop-node-preserved-then-passing-gt0
loop-node-preserved-then-passing-gt0 c =
    let w = c.loop-node.invariant in
    let h = (looked w.1 c.in-Some.ensures.steps).here (sym c.is_leaf_of.ensures ∙ c.if-is_leaf_of.true) in
    (h.0, h.2, w.2 ∙ ap (λ (xs : List ℕ). take c.loop-node.found c.loop-node.leaves ++ xs) (ap (drop c.loop-node.passing) h.1 ∙ drop_one c.loop-node.passing c.in-Some.node.id h.0 c.if-passing-gt0.true), w.3, w.4)

pub returns-then-found-eq-LEAVES : goal.returns-then-found-eq-LEAVES
returns-then-found-eq-LEAVES c =
    let w = c.loop-node.invariant in
    let y = one_more _ c.loop-node.leaves c.loop-node.found c.loop-node.passing w.1 c.in-Some.ensures.steps (sym c.is_leaf_of.ensures ∙ c.if-is_leaf_of.true) w.2 c.if-passing-gt0.false w.4 w.3 in
    record { behind = y.0; all-are = y.2; places = length-set c.loop-node.leaves c.loop-node.found c.in-Some.node.id ∙ w.3; within = omega (arith, w.4); last = λ h. absurd (omega (arith, h, c.if-found-eq-LEAVES.true)) }

pub loop-node-preserved-else-found-eq-LEAVES : goal.loop-node-preserved-else-found-eq-LEAVES
loop-node-preserved-else-found-eq-LEAVES c =
    let w = c.loop-node.invariant in
    let y = one_more _ c.loop-node.leaves c.loop-node.found c.loop-node.passing w.1 c.in-Some.ensures.steps (sym c.is_leaf_of.ensures ∙ c.if-is_leaf_of.true) w.2 c.if-passing-gt0.false w.4 w.3 in
    let ids = set c.loop-node.leaves c.loop-node.found c.in-Some.node.id in
    let none : 0 ≡ c.loop-node.passing = omega (arith, c.if-passing-gt0.false) in
    (y.0, y.1, y.2 ∙ ap (λ (n : ℕ). take (c.loop-node.found + 1) ids ++ drop n y.0) none, length-set c.loop-node.leaves c.loop-node.found c.in-Some.node.id ∙ w.3, omega (arith, w.4, c.if-found-eq-LEAVES.false))

pub loop-node-preserved : goal.loop-node-preserved
loop-node-preserved c = (_, (looked c.loop-node.invariant.1 c.in-Some.ensures.steps).other (sym c.is_leaf_of.ensures ∙ c.if-is_leaf_of.false), c.loop-node.invariant.2, c.loop-node.invariant.3, c.loop-node.invariant.4)

pub returns : goal.returns
returns c =
    let w = c.loop-node.invariant in
    record { behind = []; all-are = w.2 ∙ ap (λ (xs : List ℕ). take c.loop-node.found c.loop-node.leaves ++ xs) (ap (drop c.loop-node.passing) (looked_all w.1 c.in-None.ensures.steps.0) ∙ drop_none c.loop-node.passing); places = w.3; within = omega (arith, w.4); last = λ h. refl }
