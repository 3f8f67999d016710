-- Lemmas on what the expansion of a tree comes to.
use Rattle.calc_session.proofs.Shared.{◌≡◌, ◌∙◌, ◌*◌, [], ◌∷◌, true, false, sym, ap, subst, arith, CalmChecks, is_reduced, face, HasNames, IsWritable, Tree, is_undef, nodes, size, expanded}
use Rattle.calc_session.proofs.Shared.{expansion_room, is_polynomial, polynomial_of, tree_expanded_reduced, Full, free_of, CalmUpTo, TripsWithin, CountsRefusals, IfFull, IfInterrupted, IfOverflow}
use Rattle.calc_session.proofs.Shared.{ReduceFault, Overflows, plain, Forest, tree_of, Gives, KeepsFront, LacksBytes, Stands, forest, without_root, given_rest, given_told, gives_as, last_tree, Face}
use Rattle.calc_session.proofs.Shared.{ComesTo, refusal_of, reply_of, IsReplyToExpansion, LacksExpansionRoom, is_expanded, reported, bits, expanded_defined, one_node, face_written}
use Rattle.calc_session.proofs.{EvaluationLemmas.{first_still, free_same, free_there, last_nodes}, StoredTrees.{named_tree}}
use Rattle.std.proofs.Common.{ℕ, ◌+◌, ◌≤◌, ◌<◌, List, None, Err}
use Rattle.breakers.specs.State.{State as Breaker}
use Rattle.node_pool.specs.State.{State}
use Rattle.calc_session.specs.Expanding.{is_interrupted, does_not_fit, lacks_bytes}
use Rattle.reduce_port.specs.declared.fault.ReduceFault.TheVariants as fault

module _ (s mid : State) {others : Forest} {i j : ℕ} {P : Tree → Type 0} (g : Gives others (forest s) i P) (k : Gives others (forest mid) j (λ t. t ≡ expanded (polynomial_of (tree_of i s)))) where
  pub expansion_reduced : is_reduced (tree_of j mid) ≡ true
  expansion_reduced = ap is_reduced (given_told k) ∙ tree_expanded_reduced (tree_of i s)

  pub expansion_defined : is_undef (tree_of j mid) ≡ false
  expansion_defined = ap is_undef (given_told k) ∙ expanded_defined (polynomial_of (tree_of i s))

  module _ (before after : List Breaker) (st : Stands s) (st' : Stands mid) (same : mid.size ≡ s.size) (is : is_polynomial (tree_of i s) ≡ true) (calm : CalmChecks (nodes (tree_of i s)) before after) where
    -- the face of an expanded tree
    pub comes_expanded : (new : Forest) (h : ℕ) → Gives (without_root j (forest mid)) new h (λ t. t ≡ face (tree_of j mid))
        → ComesTo (λ r. IsReplyToExpansion (free_of s + size (tree_of i s)) before after (free_of s) (tree_of i s) (reported r)) IsWritable None others new (Face h)
    comes_expanded new h f = (
      face (expanded (polynomial_of (tree_of i s))),
      is_expanded is calm,
      subst (λ t. IsWritable (face t)) (given_told k) (face_written (tree_of j mid) expansion_reduced (subst (λ (x : Forest). HasNames (plain x)) (sym (last_tree k.ends)) (named_tree k.tree (last_nodes st' k)))),
      gives_as f (given_rest k) (λ t e. e ∙ ap face (given_told k)),
    )

    -- it finds no room
    pub lacks_face : {new : State} (full : Full) → Stands new → new.size ≡ mid.size → KeepsFront (j ∷ []) (forest mid) (forest new) → LacksBytes new full → free_of mid < 4 * size (tree_of j mid)
        → 5 * size (tree_of j mid) ≤ expansion_room (tree_of i s) → LacksExpansionRoom (free_of s + size (tree_of i s)) (tree_of i s) before after full
    lacks_face full st'' e front want short within = record {
      lacking = want.lacking;
      few = omega (arith, want.free, free_there st st'' (e ∙ same) g (first_still k front));
      beyond_room = omega (arith, free_same st st' same g k, short, within);
      checks = record { checks = nodes (tree_of i s); some = one_node (tree_of i s); few = omega arith; calm = calm };
    }

-- what a fault is answered with
pub unexpanded_reply : (A : Type 0) (before after : List Breaker) {s new : State} {others : Forest} {i : ℕ} {P : Tree → Type 0} (f : ReduceFault) → Stands s → Stands new → CountsRefusals {A = A} s new (Err f) → Gives others (forest s) i P
    → KeepsFront (i ∷ []) (forest s) (forest new) → is_polynomial (tree_of i s) ≡ true
    → IfInterrupted {A = A} (Err f) (TripsWithin (nodes (tree_of i s)) before after)
    → IfOverflow {A = A} (Err f) Overflows → IfOverflow {A = A} (Err f) (λ _. 124 < bits (tree_of i s)) → IfOverflow {A = A} (Err f) (λ _. CalmUpTo (nodes (tree_of i s)) before after)
    → IfFull {A = A} (Err f) (LacksBytes new) → IfFull {A = A} (Err f) (λ _. free_of s + size (tree_of i s) < expansion_room (tree_of i s)) → IfFull {A = A} (Err f) (λ _. CalmUpTo (nodes (tree_of i s)) before after)
    → IsReplyToExpansion (free_of s + size (tree_of i s)) before after (free_of s) (tree_of i s) (reported (reply_of (refusal_of f)))
unexpanded_reply A before after (fault.Full full) st st' r g k is trips o b c want beyond checks =
    lacks_bytes is (record { lacking = want.lacking; few = omega (arith, want.free, free_there st st' r.size g (first_still g k)); beyond_room = beyond; checks = checks })
unexpanded_reply A before after (fault.Overflow a) st st' r g k is trips o b c want beyond checks = does_not_fit a is (record { does_not_fit = o; beyond_bits = b; checks = c })
unexpanded_reply A before after (fault.Interrupted a) st st' r g k is trips o b c want beyond checks = is_interrupted is trips
