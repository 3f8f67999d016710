use Rattle.pool_layouts.proofs.Shared.{◌∙◌, ◌++◌, ◌∷◌, [], List, length, sym, ap, arith, append_assoc, append-nil, length-append, Visit, tree_at, forest, visits_length}
use Rattle.pool_layouts.proofs.lists.list_nodes.Goals as goal

pub loop-node-init : goal.loop-node-init
loop-node-init c = record {
  listed = ap (λ (xs : List Visit). xs ++ c.into_iter-node-iterator.result) c.clear.ensures.items ∙ cc;
  capacity = omega (arith, c.clear.ensures.capacity);
}

pub append-requires : goal.append-requires
append-requires c =
    let t = tree_at c.args.root (forest c.args.pool.now) in
    omega (arith, ap length c.loop-node.invariant.listed, ap length c.in-Some.ensures.steps, length-append c.loop-node.cells.items c.loop-node.node-iterator, visits_length t, c.requires.room, c.loop-node.invariant.capacity)

pub loop-node-preserved : goal.loop-node-preserved
loop-node-preserved c = record {
  listed = ap (λ (xs : List Visit). xs ++ c.next.new.self) c.append.ensures.items ∙ append_assoc c.loop-node.cells.items (c.in-Some.node ∷ []) c.next.new.self
      ∙ ap (λ (xs : List Visit). c.loop-node.cells.items ++ xs) (sym c.in-Some.ensures.steps) ∙ c.loop-node.invariant.listed;
  capacity = omega (arith, c.loop-node.invariant.capacity, c.append.ensures.capacity);
}

pub returns-clause-listed : goal.returns-clause-listed
returns-clause-listed c = sym (append-nil c.loop-node.cells.items) ∙ ap (λ (xs : List Visit). c.loop-node.cells.items ++ xs) (sym c.in-None.ensures.steps.0) ∙ c.loop-node.invariant.listed
