use Rattle.number_forms.proofs.{Shared.{sym, ◌∙◌, refl, ◌<◌, arith, tree_of, behind_first, front_same, front_at, front_without, owned, free_of, refused_below, released_free}, Kept.{zero_value}}
use Rattle.number_forms.proofs.{Shaped.{no_term_sum_of, one_term_sum_of}, TermTrees.{if_given, nonzero_term}, Rooms.{refusal_as}, Safety.{after_placing, one_placed}}
use Rattle.number_forms.proofs.adding.sum_over_term.Goals as goal

pub returns-then-is_zero : goal.returns-then-is_zero
returns-then-is_zero c = record {
  ok = let zero = sym c.is_zero.ensures ∙ c.if-is_zero.true in
      if_given _ _ _ _ _ c.node.result (c.node.ensures.given refl) (c.release.ensures.owned (owned c.requires.handed)) (λ t e. no_term_sum_of _ t (zero_value (tree_of c.args.a c.args.pool.now) zero) e);
  room = let free = released_free c.requires.stands c.release.ensures.stands c.release.ensures.kept c.requires.handed (c.release.ensures.owned (owned c.requires.handed)) in
      refusal_as c.node.result c.node.ensures.full (λ full r. let few : free_of c.release.new.pool < 8 = refused_below r in omega (arith, free, few));
  safe = after_placing c.release.ensures.kept (front_at (front_without behind_first front_same) (c.release.ensures.owned (owned c.requires.handed))) (one_placed _ c.node.result c.node.ensures.kept c.node.ensures.full c.node.ensures.front c.node.ensures.stands);
}

pub returns-else-is_zero : goal.returns-else-is_zero
returns-else-is_zero c = record {
  ok = let nonzero = sym c.is_zero.ensures ∙ c.if-is_zero.false in
      if_given _ _ _ _ _ c.node_over.result c.node_over.ensures.ok refl (λ t e. one_term_sum_of (tree_of c.args.a c.args.pool.now) t (nonzero_term (tree_of c.args.a c.args.pool.now) c.requires.number c.requires.no_sum nonzero) e);
  room = refusal_as c.node_over.result c.node_over.ensures.full (λ full r. refused_below r);
  safe = one_placed _ c.node_over.result c.node_over.ensures.kept c.node_over.ensures.full c.node_over.ensures.front c.node_over.ensures.stands;
}
