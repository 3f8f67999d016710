use Rattle.calc_parser.proofs.Shared.{rules, ◌≡◌, ◌+◌, ◌-◌, ◌++◌, ◌∷◌, [], ◌≤◌, ℕ, List, length, take, drop, map, refl, sym, ap, ◌∙◌, subst}
use Rattle.calc_parser.proofs.{Shared.{arith, length-take, free_of, forest, used_forest, Leaf, bytes_of_node, children_in, node_of, tokens_in}, UnderWay.{IsUnderWay, IsReady, begins, at_step}}
use Rattle.calc_parser.proofs.UnderWay.{ready, placed, front, IsStopped, stopped, IsLast, last_of_grown, whole_tree, no_step, that_root, was_short}
use Rattle.std.specs.Prelude.{get_or}
use Rattle.calc_parser.proofs.building.place_nodes.Goals as goal

pub loop-step-init : goal.loop-step-init
loop-step-init c =
    let f = node_of (tokens_in c.args.tokens.now) in
    let (t, is) = c.requires.tree in
    let none : length c.clear.new.self.items ≡ 0 = ap length c.clear.ensures in
    (subst (λ (ps : List ℕ). IsUnderWay c.args.pool.now c.args.pool.now ps (map f c.args.steps.now) (map f c.args.steps.now)) (sym c.clear.ensures) (begins c.args.pool.now (map f c.args.steps.now) t is c.requires.stands), omega arith, refl)

at_place : (c : goal.After-place-arg-in-loop-step-1) → IsReady (node_of (tokens_in c.args.tokens.now) (get_or c.args.steps.now c.loop-step.step-index (Leaf 0))) c.loop-step.pool c.begin_of_last-from.result
at_place c =
    let f = node_of (tokens_in c.args.tokens.now) in
    let i = c.loop-step.step-index in
    let places = c.loop-step.places.items in
    let u = at_step c.args.pool.now c.loop-step.pool places f c.args.steps.now i (Leaf 0) c.loop-step-test.true c.loop-step.invariant.0 in
    ready c.args.pool.now c.loop-step.pool places (map f c.args.steps.now) (f (get_or c.args.steps.now i (Leaf 0))) (map f (drop (i + 1) c.args.steps.now)) u c.begin_of_last-from.result c.used.result
    (c.used.ensures.value ∙ used_forest c.loop-step.pool c.loop-step.invariant.0.stands)
    (c.begin_of_last-from.ensures.begin ∙ ap (λ (k : ℕ). get_or places (length places - k) c.used.result) (c.children.ensures (tokens_in c.args.tokens.now)))

pub place-requires : goal.place-requires
place-requires c = record { takes = (at_place c).takes; few = (at_place c).few; begin = (at_place c).begin; stands = search rules }

refused : (c : goal.After-from_residual) → IsStopped c.args.pool.now c.place.new.pool (map (node_of (tokens_in c.args.tokens.now)) c.args.steps.now) c.in_err-handle.field-0.0
refused c =
    let f = node_of (tokens_in c.args.tokens.now) in
    let i = c.loop-step.step-index in
    let places = c.loop-step.places.items in
    let n = f (get_or c.args.steps.now i (Leaf 0)) in
    let u = at_step c.args.pool.now c.loop-step.pool places f c.args.steps.now i (Leaf 0) c.loop-step-test.true c.loop-step.invariant.0 in
    stopped c.args.pool.now c.loop-step.pool c.place.new.pool places (map f c.args.steps.now) n (map f (drop (i + 1) c.args.steps.now)) c.in_err-handle.field-0.0 u
    (was_short c.in_err-handle.field-0.0 (bytes_of_node n) (free_of c.loop-step.pool) c.in_err-handle.ensures.exactly.1) c.in_err-handle.ensures.full

pub returns-in_err-handle-clause-front : goal.returns-in_err-handle-clause-front
returns-in_err-handle-clause-front c = (refused c).front

pub loop-step-preserved : goal.loop-step-preserved
loop-step-preserved c =
    let f = node_of (tokens_in c.args.tokens.now) in
    let i = c.loop-step.step-index in
    let places = c.loop-step.places.items in
    let n = f (get_or c.args.steps.now i (Leaf 0)) in
    let u = at_step c.args.pool.now c.loop-step.pool places f c.args.steps.now i (Leaf 0) c.loop-step-test.true c.loop-step.invariant.0 in
    let trees = c.children.ensures (tokens_in c.args.tokens.now) in
    let next =
    placed c.args.pool.now c.loop-step.pool places (map f c.args.steps.now) n (map f (drop (i + 1) c.args.steps.now)) u c.place.new.pool c.in_ok-handle.handle c.begin_of_last-from.result c.used.result
    (c.used.ensures.value ∙ used_forest c.loop-step.pool c.loop-step.invariant.0.stands)
    (c.begin_of_last-from.ensures.begin ∙ ap (λ (k : ℕ). get_or places (length places - k) c.used.result) trees)
    c.in_ok-handle.ensures.ok c.in_ok-handle.ensures.kept (c.in_ok-handle.ensures.exactly.0 refl) c.place.ensures.stands in
    let few : length c.begin_of_last-from.new.places.items ≤ length places = omega (arith, ap length c.begin_of_last-from.ensures.kept, length-take (length places - c.children.result) places) in
    let items : c.push.new.self.items ≡ take (length places - children_in n) places ++ c.begin_of_last-from.result ∷ []
    = c.push.ensures.items ∙ ap (λ (ps : List ℕ). ps ++ c.begin_of_last-from.result ∷ []) (c.begin_of_last-from.ensures.kept ∙ ap (λ (k : ℕ). take (length places - k) places) trees) in (
      subst (λ (ps : List ℕ). IsUnderWay c.args.pool.now c.place.new.pool ps (map f c.args.steps.now) (map f (drop (i + 1) c.args.steps.now))) (sym items) next,
      omega (arith, few),
      last_of_grown n (forest c.loop-step.pool) (forest c.place.new.pool) c.in_ok-handle.handle c.in_ok-handle.ensures.ok,
    )

pub returns-clause-ok : goal.returns-clause-ok
returns-clause-ok c =
    let f = node_of (tokens_in c.args.tokens.now) in
    let u = subst (IsUnderWay c.args.pool.now c.loop-step.pool c.loop-step.places.items (map f c.args.steps.now)) (no_step f c.args.steps.now c.loop-step.step-index c.loop-step-test.false) c.loop-step.invariant.0 in
    whole_tree c.args.pool.now c.loop-step.pool c.loop-step.places.items (map f c.args.steps.now) c.unwrap.result u
    (that_root (λ root. IsLast root (forest c.loop-step.pool)) c.loop-step.root c.unwrap.result c.loop-step.step-index c.loop-step.invariant.2 c.unwrap.ensures)

pub returns-clause-front : goal.returns-clause-front
returns-clause-front c =
    let f = node_of (tokens_in c.args.tokens.now) in
    front c.args.pool.now c.loop-step.pool c.loop-step.places.items (map f c.args.steps.now) (map f (drop c.loop-step.step-index c.args.steps.now)) c.loop-step.invariant.0
