use Rattle.node_order.proofs.Shared.{◌≡◌, ◌∙◌, sym, ap, bytes_eq-Decides, tree_cmp_same, name_of, before_zero, symbol}
use Rattle.node_order.proofs.fronts.compare_names.Goals as goal

pub returns-then-eq : goal.returns-then-eq
returns-then-eq c =
    let same : name_of c.args.left ≡ name_of c.args.right = ap before_zero ((bytes_eq-Decides c.args.left.text c.args.right.text).0 (sym c.eq.ensures ∙ c.if-eq.true)) in
    sym (tree_cmp_same (symbol (name_of c.args.left)) (symbol (name_of c.args.right)) (ap symbol same))
