use Rattle.node_pool.proofs.{Shared.{rules, ◌∙◌}, Values.{ReadBack, read_back}}
use Rattle.node_pool.proofs.node.long_at.Goals as goal

back : (c : goal.After-cast_signed-2) → ReadBack c.args.store.now c.args.at c.cast_signed.result c.cast_signed-2.result
back c = read_back c.args.store.now c.args.at c.wide_at-num.result c.wide_at-den.result c.cast_signed.result c.cast_signed-2.result c.requires.rat c.wide_at-num.ensures c.wide_at-den.ensures c.cast_signed.ensures c.cast_signed-2.ensures (search rules) (search rules)

pub lowest-requires : goal.lowest-requires
lowest-requires c = record { positive = (back c).positive; fits = (back c).rat.num_fits; in_lowest_terms = (back c).rat.lowest }

pub returns : goal.returns
returns c = c.lowest.ensures ∙ (read_back c.args.store.now c.args.at c.wide_at-num.result c.wide_at-den.result c.cast_signed.result c.cast_signed-2.result c.requires.rat c.wide_at-num.ensures c.wide_at-den.ensures c.cast_signed.ensures c.cast_signed-2.ensures (search rules) (search rules)).is
