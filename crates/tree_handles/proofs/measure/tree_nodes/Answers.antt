use Rattle.tree_handles.proofs.{Shared.{common_steps, ◌≡◌, ◌∙◌, length, sym, ap, arith, inl, nodes_in, tree_at, forest}, Measures.{few_in, one_at}, Plains.nodes-plain}
use Rattle.tree_handles.proofs.{Visiting.{drained, visits_length}, measure.tree_nodes.Goals.After-count}
use Rattle.tree_handles.proofs.measure.tree_nodes.Goals as goal

pub count-requires-clause-fits : goal.count-requires-clause-fits
count-requires-clause-fits c = inl (omega (arith, ap length c.nodes_of.ensures, visits_length (tree_at c.args.id (forest c.args.pool.now)), few_in c.args.id c.args.pool.now c.requires.stands))

value : (c : After-count) → c.count.result ≡ nodes_in (tree_at c.args.id (forest c.args.pool.now))
value c = grind (arith, common_steps, drained, visits_length)

pub overflow_cast-result : goal.overflow_cast-result
overflow_cast-result c = record { fits = omega (arith, value c, few_in c.args.id c.args.pool.now c.requires.stands) }

pub returns : goal.returns
returns c =
    record { value = value c; plain = λ h. value c ∙ sym (nodes-plain (tree_at c.args.id (forest c.args.pool.now)) (one_at c.args.id (forest c.args.pool.now) c.requires.live) h.whole) }
