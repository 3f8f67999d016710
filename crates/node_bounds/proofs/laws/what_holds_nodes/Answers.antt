use Rattle.node_bounds.proofs.NodeBits.{opposite_factors, two_factors, two_terms, power_answer_held}
use Rattle.node_bounds.proofs.laws.what_holds_nodes.Goals as goal

pub returns : goal.returns
returns c = record {
  opposites = λ a h l k. opposite_factors a k;
  terms = λ a b p q k n h l d x y i j. two_terms a b d x y i j;
  factors = λ a b p q k n h l x y i j. two_factors a b x y i j;
  powers = λ b e r h l a d k. power_answer_held b e r a d h l k;
}
