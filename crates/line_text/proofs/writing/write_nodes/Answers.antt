use Rattle.line_text.proofs.Shared.{◌≡◌, ◌∙◌, ◌++◌, List, [], ◌∷◌, length, refl, sym, ap, subst, arith, Visit, nodes_in, tree_at, forest, one_at, found, some_next, next_is}
use Rattle.line_text.proofs.{Shared.{Pending, WholeText, Content, extended, written}, Room.{has_room, bytes_nodes}}
use Rattle.line_text.proofs.Walks.{IsWalk, start, some_left, entered, room, goes_down, goes_on, closed, closed_room, goes_up, done, nothing_owed, content_is}
use Rattle.line_text.proofs.writing.write_nodes.Goals as goal

pub loop-rest-init : goal.loop-rest-init
loop-rest-init c =
    let base = forest c.args.pool.now in
    let t = tree_at c.args.root base in
    let walk = start c.args.root base c.args.page.now.bytes (one_at c.args.root base c.requires.live) (found c.args.root c.args.pool.now c.requires.stands) c.whole_text-rest.ensures c.clear.ensures.items in
    record {
      walk = subst (λ (vs : List Visit). IsWalk base (nodes_in t) vs c.whole_text-rest.result c.clear.new.self.items c.args.page.now.bytes (c.args.page.now.bytes ++ written WholeText t)) (sym c.nodes_of-nodes.ensures) walk;
      capacity = refl;
      deep = omega (arith, c.clear.ensures.capacity);
    }

pub unwrap-node-requires : goal.unwrap-node-requires
unwrap-node-requires c = some_next c.next.result _ _ c.next.ensures.steps (some_left c.loop-rest.invariant.walk c.if-rest-gt0.true)

pub write_node-below-requires : goal.write_node-below-requires
write_node-below-requires c =
    let e = entered c.loop-rest.invariant.walk c.if-rest-gt0.true (next_is c.next.result c.unwrap-node.result _ _ c.next.ensures.steps c.unwrap-node.ensures) in
    record {
      stands = c.requires.stands;
      live = e.seen_here.live;
      node = e.seen_here.visit-is;
      room = omega (arith, room e, has_room c.args.root c.args.pool.now c.args.page.now.capacity c.args.page.now.bytes c.requires.stands c.requires.live c.requires.room, c.loop-rest.invariant.capacity);
    }

pub unwrap-requires : goal.unwrap-requires
unwrap-requires c =
    let e = entered c.loop-rest.invariant.walk c.if-rest-gt0.true (next_is c.next.result c.unwrap-node.result _ _ c.next.ensures.steps c.unwrap-node.ensures) in
    c.push.ensures.succeeds (omega (arith, e.state.few, bytes_nodes (tree_at c.args.root (forest c.args.pool.now)), c.loop-rest.invariant.deep, c.requires.deep, c.requires.room))

pub loop-rest-preserved-then-owes : goal.loop-rest-preserved-then-owes
loop-rest-preserved-then-owes c =
    let e = entered c.loop-rest.invariant.walk c.if-rest-gt0.true (next_is c.next.result c.unwrap-node.result _ _ c.next.ensures.steps c.unwrap-node.ensures) in
    let pushed = rw c.unwrap.ensures at c.push.ensures.items in
    record {
      walk = goes_down e c.write_node-below.result c.write_node-below.new.page.bytes c.push.new.self.items c.write_node-below.ensures.below (ap (λ (x : Content). x.bytes) c.write_node-below.ensures.front)
          (pushed ∙ ap (λ (r : Pending). c.loop-rest.outer.items ++ r ∷ []) c.without_first-rest.ensures);
      capacity = ap (λ (x : Content). x.capacity) c.write_node-below.ensures.front ∙ c.loop-rest.invariant.capacity;
      deep = omega (arith, c.loop-rest.invariant.deep, c.push.ensures.capacity);
    }

pub loop-rest-preserved-else-owes : goal.loop-rest-preserved-else-owes
loop-rest-preserved-else-owes c =
    let e = entered c.loop-rest.invariant.walk c.if-rest-gt0.true (next_is c.next.result c.unwrap-node.result _ _ c.next.ensures.steps c.unwrap-node.ensures) in
    let none = nothing_owed c.write_node-below.result (sym c.owes.ensures ∙ c.if-owes.false) in
    record {
      walk = goes_on e c.write_node-below.result c.write_node-below.new.page.bytes c.without_first-rest.result c.write_node-below.ensures.below none.0 none.1 (ap (λ (x : Content). x.bytes) c.write_node-below.ensures.front) c.without_first-rest.ensures;
      capacity = ap (λ (x : Content). x.capacity) c.write_node-below.ensures.front ∙ c.loop-rest.invariant.capacity;
      deep = c.loop-rest.invariant.deep;
    }

pub write_closing-requires-clause-room : goal.write_closing-requires-clause-room
write_closing-requires-clause-room c =
    let k = closed c.loop-rest.invariant.walk (omega (arith, c.if-rest-gt0.false)) in
    omega (arith, closed_room k, has_room c.args.root c.args.pool.now c.args.page.now.capacity c.args.page.now.bytes c.requires.stands c.requires.live c.requires.room, c.loop-rest.invariant.capacity)

pub loop-rest-preserved : goal.loop-rest-preserved
loop-rest-preserved c =
    let k = closed c.loop-rest.invariant.walk (omega (arith, c.if-rest-gt0.false)) in
    record {
      walk = goes_up c.in-Some.around c.pop.new.self.items c.write_closing.new.page.bytes k c.in-Some.ensures.items (ap (λ (x : Content). x.bytes) c.write_closing.ensures);
      capacity = ap (λ (x : Content). x.capacity) c.write_closing.ensures ∙ c.loop-rest.invariant.capacity;
      deep = omega (arith, c.loop-rest.invariant.deep, c.pop.ensures.capacity);
    }

pub returns-in-None-clause-appended : goal.returns-in-None-clause-appended
returns-in-None-clause-appended c =
    let k = closed c.loop-rest.invariant.walk (omega (arith, c.if-rest-gt0.false)) in
    let none : length c.loop-rest.outer.items ≡ 0 = omega (arith, c.in-None.ensures.cases.0, c.loop-rest.outer.ok.0) in
    content_is c.write_closing.new.page (extended c.args.page.now (written WholeText (tree_at c.args.root (forest c.args.pool.now))))
    (done c.write_closing.new.page.bytes k none (ap (λ (x : Content). x.bytes) c.write_closing.ensures)) (ap (λ (x : Content). x.capacity) c.write_closing.ensures ∙ c.loop-rest.invariant.capacity)
