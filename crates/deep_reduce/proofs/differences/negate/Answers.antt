use Rattle.deep_reduce.proofs.Shared.{rules, length, ◌≡◌, false, ◌<◌, ◌+◌, ◌^◌, sym, ap, ◌∙◌, subst, arith, is_reduced, Tree, neg, size, has_undef, counted, SpansTree, IsCalmAtZero, HoldsNode}
use Rattle.deep_reduce.proofs.Shared.{free_of, replaced_free, product_room, keeps_after, tree_of, behind_first, behind_new, front_same, front_end, front_without, front_after_one, given_handed}
use Rattle.deep_reduce.proofs.{Shared.{given_told, given_rest, nth, children_of, count, parent_handed, negated_calm, negated_spans, negated_fits}, Lacking.{leaves_after, result_lacks, short_as}}
use Rattle.deep_reduce.proofs.{Parents.{alone_out, parent_children}, Results.{answer_as, overflow_as}, Told.{answer_at, overflow_at, neg_is, neg_children, only_reduced}}
use Rattle.deep_reduce.proofs.differences.negate.Goals as goal

pub take_child-argument-requires-clause-within : goal.take_child-argument-requires-clause-within
take_child-argument-requires-clause-within c =
    omega (arith, parent_children c.requires.stands (parent_handed c.requires.handed), ap count (neg_children (tree_of c.args.opposite c.args.pool.now) c.requires.opposite))

pub turn-requires : goal.turn-requires
turn-requires c =
    let t : Tree = tree_of c.args.opposite c.args.pool.now in
    let a = alone_out (nth 0 (children_of t)) c.requires.handed (neg_children t c.requires.opposite) (c.take_child-argument.ensures.last c.requires.handed.root) in
    record {
      stands = search rules;
      handed = given_handed (a.given (c.release.ensures.owned a.owned));
      reduced = ap is_reduced (given_told (a.given (c.release.ensures.owned a.owned))) ∙ only_reduced (children_of t) (nth 0 (children_of t)) (neg_children t c.requires.opposite) c.requires.reduced;
    }

pub returns : goal.returns
returns c =
    let t : Tree = tree_of c.args.opposite c.args.pool.now in
    let a = alone_out (nth 0 (children_of t)) c.requires.handed (neg_children t c.requires.opposite) (c.take_child-argument.ensures.last c.requires.handed.root) in
    let g = a.given (c.release.ensures.owned a.owned) in
    let is = neg_is t c.requires.opposite in
    let told = given_told g in
    let without = front_without behind_first front_same in
    record {
      ok = answer_as _ _ c.turn.new.pool _ _ _ c.turn.ensures.ok (given_rest g) (λ u h. answer_at u (ap neg told ∙ sym is) h);
      overflow = overflow_as _ _ _ c.turn.ensures.overflow (λ o h. overflow_at o (ap neg told ∙ sym is) h);
      front = front_after_one (behind_new g.ends without) (front_end g.ends without) c.turn.ensures.front;
      room = λ gs ns n h k s.
          let w : Tree = tree_of c.take_child-argument.result c.release.new.pool in
          let moved = replaced_free c.requires.stands c.release.ensures.stands (keeps_after _ _ _ c.take_child-argument.ensures.kept c.release.ensures.kept) c.requires.handed g in
          result_lacks c.turn.result (c.turn.ensures.room gs ns (subst (IsCalmAtZero ns) (sym told) (negated_calm t is k)) (subst (SpansTree gs) (sym told) (negated_spans gs t is s)))
          (λ l. short_as moved (negated_fits t n (2 ^ length gs) is h) (subst (λ (x : Tree). free_of c.release.new.pool + size w < product_room (2 + counted x) (2 ^ length gs)) told l));
      bits = λ h l k few. c.turn.ensures.bits h l (subst (λ (x : Tree). has_undef (children_of x) ≡ false → HoldsNode x h l) (is ∙ ap neg (sym told)) k) few;
      leaves = leaves_after c.turn.result _ _ _ (keeps_after _ _ _ c.take_child-argument.ensures.kept c.release.ensures.kept) c.turn.ensures.leaves;
    }
