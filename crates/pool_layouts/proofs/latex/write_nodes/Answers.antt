use Rattle.pool_layouts.proofs.Shared.{◌≡◌, ◌∙◌, ◌++◌, ℕ, List, length, refl, sym, ap, subst, arith, Visit, nodes_in, tree_at, forest, one_at, found, Content, extended, content_is, drawing}
use Rattle.calc_terms.specs.declared.kind.Kind.TheVariants as kind
use Rattle.tree_handles.proofs.Visiting.{some_next, next_is}
use Rattle.pool_layouts.specs.{Latex.{latex}}
use Rattle.pool_layouts.proofs.LatexTexts.{latex_parts, latex_is, has_room}
use Rattle.pool_layouts.proofs.Shared.{valid}
use Rattle.pool_layouts.proofs.LatexWalks.{IsWalk, IsEntered, start, some_left, entered, between_room, front_room, goes_down, closed, close_room, goes_up, done}
use Rattle.pool_layouts.proofs.latex.write_nodes.Goals.{After-unwrap-node}
use Rattle.pool_layouts.proofs.latex.write_nodes.Goals as goal

pub loop-rest-init : goal.loop-rest-init
loop-rest-init c =
    let base = forest c.args.pool.now in
    let t = tree_at c.args.layout base in
    let bytes = c.args.text.now.bytes in
    let walk = start c.args.layout base bytes (one_at c.args.layout base c.requires.layout.live) (found c.args.layout c.args.pool.now c.requires.stands) c.whole-rest.ensures.kind c.whole-rest.ensures.parts c.clear.ensures.items in
    record {
      walk = subst (λ (vs : List Visit). IsWalk base (nodes_in t) vs c.whole-rest.result c.clear.new.self.items bytes (bytes ++ latex_parts kind.Row t)) (sym c.nodes_of-nodes.ensures) walk;
      capacity = refl;
      deep = omega (arith, c.clear.ensures.capacity);
    }

pub unwrap-node-requires : goal.unwrap-node-requires
unwrap-node-requires c = some_next c.next.result _ _ c.next.ensures.steps (some_left c.loop-rest.invariant.walk c.if-rest-gt0.true)

entered_here : (c : After-unwrap-node)
    → IsEntered (forest c.args.pool.now) (nodes_in (tree_at c.args.layout (forest c.args.pool.now))) c.unwrap-node.result c.next.new.self c.loop-rest.rest c.loop-rest.outer.items c.loop-rest.text.bytes
    (c.args.text.now.bytes ++ latex_parts kind.Row (tree_at c.args.layout (forest c.args.pool.now)))
entered_here c = entered c.loop-rest.invariant.walk c.if-rest-gt0.true (next_is c.next.result c.unwrap-node.result _ _ c.next.ensures.steps c.unwrap-node.ensures)

pub write_between-requires : goal.write_between-requires
write_between-requires c = record {
  room = omega (
    arith,
    between_room (entered_here (goal.at.write_between-requires c).After-unwrap-node),
    has_room c.args.layout c.args.pool.now c.args.text.now.capacity c.args.text.now.bytes c.requires.stands c.requires.layout.live c.requires.room,
    c.loop-rest.invariant.capacity,
  );
}

pub write_front-requires-clause-live : goal.write_front-requires-clause-live
write_front-requires-clause-live c = (entered_here (goal.at.write_front-requires-clause-live c).After-unwrap-node).seen_here.live

pub write_front-requires-clause-kind : goal.write_front-requires-clause-kind
write_front-requires-clause-kind c = ap (λ (v : Visit). v.kind) (entered_here (goal.at.write_front-requires-clause-kind c).After-unwrap-node).seen_here.visit-is

pub write_front-requires-clause-room : goal.write_front-requires-clause-room
write_front-requires-clause-room c =
    rw c.write_between.ensures
    (omega (
      arith,
      front_room (entered_here (goal.at.write_front-requires-clause-room c).After-unwrap-node),
      has_room c.args.layout c.args.pool.now c.args.text.now.capacity c.args.text.now.bytes c.requires.stands c.requires.layout.live c.requires.room,
      c.loop-rest.invariant.capacity,
    ))

pub loop-rest-preserved-then-rest-gt0 : goal.loop-rest-preserved-then-rest-gt0
loop-rest-preserved-then-rest-gt0 c =
    let written = rw c.write_between.ensures at c.write_front.ensures in
    record {
      walk = goes_down (entered_here (goal.at.loop-rest-preserved-then-rest-gt0 c).After-unwrap-node) c.without_first-rest.result c.write_front.new.text.bytes c.append.new.list.items
          c.without_first-rest.ensures.kind c.without_first-rest.ensures.parts (ap (λ (x : Content). x.bytes) written) c.append.ensures.items;
      capacity = ap (λ (x : Content). x.capacity) written ∙ c.loop-rest.invariant.capacity;
      deep = omega (arith, c.loop-rest.invariant.deep, c.append.ensures.capacity);
    }

pub write_close-requires : goal.write_close-requires
write_close-requires c = record {
  room = omega (
    arith,
    close_room (closed c.loop-rest.invariant.walk (omega (arith, c.if-rest-gt0.false))),
    has_room c.args.layout c.args.pool.now c.args.text.now.capacity c.args.text.now.bytes c.requires.stands c.requires.layout.live c.requires.room,
    c.loop-rest.invariant.capacity,
  );
}

pub loop-rest-preserved : goal.loop-rest-preserved
loop-rest-preserved c =
    record {
      walk = goes_up c.in-Some.around c.pop.new.self.items c.write_close.new.text.bytes (closed c.loop-rest.invariant.walk (omega (arith, c.if-rest-gt0.false))) c.in-Some.ensures.items
          (ap (λ (x : Content). x.bytes) c.write_close.ensures);
      capacity = ap (λ (x : Content). x.capacity) c.write_close.ensures ∙ c.loop-rest.invariant.capacity;
      deep = omega (arith, c.loop-rest.invariant.deep, c.pop.ensures.capacity);
    }

pub returns-in-None-clause-written : goal.returns-in-None-clause-written
returns-in-None-clause-written c =
    let base = forest c.args.pool.now in
    let t = tree_at c.args.layout base in
    let none : length c.loop-rest.outer.items ≡ 0 = omega (arith, c.in-None.ensures.cases.0, c.loop-rest.outer.ok.0) in
    let all = done c.write_close.new.text.bytes (closed c.loop-rest.invariant.walk (omega (arith, c.if-rest-gt0.false))) none (ap (λ (x : Content). x.bytes) c.write_close.ensures) in
    let is = latex_is t (one_at c.args.layout base c.requires.layout.live) c.requires.layout.composed_whole (valid c.args.pool.now c.args.layout c.requires.stands c.requires.layout.live) in
    content_is c.write_close.new.text (extended c.args.text.now (latex (drawing t))) (all ∙ ap (λ (x : List ℕ). c.args.text.now.bytes ++ x) is)
    (ap (λ (x : Content). x.capacity) c.write_close.ensures ∙ c.loop-rest.invariant.capacity)
