use Rattle.expand_forms.proofs.{Shared.{◌≡◌, ◌≤◌, [], count, expanded, product_of, plain, Gives, KeepsFront, tree_at, KeepsRefusals, Stands, forest, multiplied}, Nodes.{from}}
use Rattle.expand_forms.proofs.node.place_products.Given as goal

abbrev pub invariant-loop-left : goal.invariant-loop-left
invariant-loop-left l =
    let ts = multiplied (plain (tree_at l.fn.id (forest l.fn.pool))) in
    record {
      given : Gives (forest l.fn.pool) (forest l.pool) l.product (λ t. t ≡ expanded (product_of (from l.left ts)));
      within : l.left ≤ count ts;
      front : KeepsFront [] (forest l.fn.pool) (forest l.pool);
      kept : KeepsRefusals l.fn.pool l.pool;
      stands : Stands l.pool;
    }

abbrev pub decreases-loop-left : goal.decreases-loop-left
decreases-loop-left l = l.left
