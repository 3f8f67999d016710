use Rattle.line_text.proofs.{Shared.{◌∙◌, ap, arith, tree_at, forest, one_at, size-plain, extended}, Parts.written_text, Valid.valid}
use Rattle.line_text.proofs.writing.write_text.Goals as goal

pub write_tree-requires-clause-room : goal.write_tree-requires-clause-room
write_tree-requires-clause-room c = omega (arith, size-plain (tree_at c.args.face (forest c.args.pool.now)) (one_at c.args.face (forest c.args.pool.now) c.requires.expression.live) c.requires.expression.whole, c.requires.room)

pub returns : goal.returns
returns c =
    let t = tree_at c.args.face (forest c.args.pool.now) in
    c.write_tree.ensures ∙ ap (extended c.args.text.now) (written_text t (one_at c.args.face (forest c.args.pool.now) c.requires.expression.live) c.requires.expression.whole (valid c.args.pool.now c.args.face c.requires.stands c.requires.expression.live))
