use Rattle.tree_room.proofs.{Shared.{arith, nodes, counted}, NodeCounts.{sum_within, product_within, handed_product_within, all_within, power_within}}
use Rattle.tree_room.proofs.laws.counts_within_nodes.Goals as goal

pub returns-clause-sums : goal.returns-clause-sums
returns-clause-sums c = sum_within

pub returns-clause-handed_sums : goal.returns-clause-handed_sums
returns-clause-handed_sums c = λ rs ts h. omega (arith, all_within rs ts h)

pub returns-clause-products : goal.returns-clause-products
returns-clause-products c = product_within

pub returns-clause-handed_products : goal.returns-clause-handed_products
returns-clause-handed_products c = handed_product_within

pub returns-clause-powers : goal.returns-clause-powers
returns-clause-powers c = λ r b e h. omega (arith, power_within (counted r) (nodes b) e h)
