-- Lines for which there is enough are answered.
use Rattle.session_laws.proofs.Shared.{◌≡◌, ◌∙◌, ℕ, ◌+◌, ◌*◌, ◌≤◌, List, Option, Some, Contains, refl, sym, ap, subst, arith, Tree, depth, names, nodes, size, Filling, lacks, too_deep, fills, values}
use Rattle.session_laws.proofs.Shared.{Full, MayExceed, TripsWithin, HasBytesFor, of_the_tree, of_its_nodes, IsAnswered, ReadsFilled, IsReplyWith, has_no_value, holds_its_name, is_shown, is_stored}
use Rattle.session_laws.proofs.Shared.{IsReduction, lacks_bytes, is_answered, IsReplyToTree, is_not_made, is_made, made, made_in, Unmade, Reason, Reply, refused, circular, full, State, free_bytes}
use Rattle.session_laws.proofs.{Shared.{trees, IsReply, FitsOnTheWay, fits_by_bytes, fits_by_nodes}, AskedLines.{evaluated as line_evaluated}, MadeTrees.{made_deep, made_has_room, made_is}}
use Rattle.breakers.specs.State.{State as Breaker}
use Rattle.calc_session.specs.Evaluations.{is_interrupted, does_not_fit}

answered_not_full : (answer : Tree) (store : Option (List ℕ)) (reply : Reply) (refusal : Full) → IsReplyWith answer store reply → reply ≡ refused (full refusal) → ⊥
answered_not_full answer store reply refusal (has_no_value d) e = cc
answered_not_full answer store reply refusal (holds_its_name d m) e = cc
answered_not_full answer store reply refusal (is_shown d) e = cc
answered_not_full answer store reply refusal (is_stored d m) e = cc

answered_with : (answer : Tree) (store : Option (List ℕ)) (reply : Reply) → IsReplyWith answer store reply → ((x : List ℕ) → reply ≡ refused (circular x) → ⊥) → IsAnswered reply
answered_with answer store reply (has_no_value d) clear = tt
answered_with answer store reply (holds_its_name {x = x} d m) clear = absurd (clear x refl)
answered_with answer store reply (is_shown d) clear = tt
answered_with answer store reply (is_stored d m) clear = tt

name_is : (x y : List ℕ) → refused (circular x) ≡ refused (circular y) → x ≡ y
name_is x y e = cc

circular_with : (answer : Tree) (store : Option (List ℕ)) (reply : Reply) (x : List ℕ) → IsReplyWith answer store reply → reply ≡ refused (circular x) → (store ≡ Some x) × Contains (names answer) x
circular_with answer store reply x (has_no_value d) e = absurd cc
circular_with answer store reply x (holds_its_name {x = y} d m) e = subst (λ z. (Some y ≡ Some z) × Contains (names answer) z) (name_is y x e) (refl, m)
circular_with answer store reply x (is_shown d) e = absurd cc
circular_with answer store reply x (is_stored d m) e = absurd cc

lacks_none : (making m : Filling) → making ≡ m → {reason : Reason} → Unmade making reason → ((f : Full) → m ≡ lacks f → ⊥) → (refusal : Full) → refused reason ≡ refused (full refusal) → ⊥
lacks_none making m same u none refusal e = grind arith

never_circular : (making : Filling) {reason : Reason} → Unmade making reason → (x : List ℕ) → refused reason ≡ refused (circular x) → ⊥
never_circular making u x e = grind arith

module _ (room bits : Option (Tree → ℕ)) (old : State) (before after : List Breaker) (line : List ℕ) (store : Option (List ℕ)) (t : Tree) (reads : ReadsFilled old line store t) where
  finds_room : HasBytesFor old t → FitsOnTheWay (free_bytes old) (values old.table (trees old)) reads.tree
  finds_room (of_the_tree large small) = fits_by_bytes (free_bytes old) (values old.table (trees old)) reads.tree large (subst (λ u. size u + 16 ≤ free_bytes old) reads.filled_is small)
  finds_room (of_its_nodes small) = fits_by_nodes (free_bytes old) (values old.table (trees old)) reads.tree (subst (λ u. 40 * nodes u + 16 ≤ free_bytes old) reads.filled_is small)

  lacks_no_bytes : HasBytesFor old t → (refusal : Full) → made_in old reads.tree ≡ lacks refusal → ⊥
  lacks_no_bytes h refusal e = made_has_room (free_bytes old) (values old.table (trees old)) reads.tree (finds_room h) refusal e

  pub evaluated : (reply : Reply) → IsReply room bits old before after line reply → IsReplyToTree room bits old before after store reads.tree reply
  evaluated reply h = line_evaluated room bits old before after line reads.reads h

  -- its reduction is that of the filled tree
  pub of_filled : {reply : Reply} (left : ℕ) (u : Tree) → made (free_bytes old) (values old.table (trees old)) reads.tree ≡ fills left u → IsReduction room bits (free_bytes old) u before after store reply → IsReduction room bits (free_bytes old) t before after store reply
  of_filled {reply} left u m r = subst (λ w. IsReduction room bits (free_bytes old) w before after store reply) (made_is (free_bytes old) (values old.table (trees old)) reads.tree left u m ∙ sym reads.filled_is) r

  module _ (bytes : HasBytesFor old t) (roomy : ¬ (MayExceed room t (free_bytes old))) where
    reduced_not_full : (reply : Reply) (refusal : Full) → IsReduction room bits (free_bytes old) t before after store reply → reply ≡ refused (full refusal) → ⊥
    reduced_not_full reply refusal (is_interrupted h) e = cc
    reduced_not_full reply refusal (does_not_fit o h) e = cc
    reduced_not_full reply refusal (lacks_bytes h) e = roomy h.beyond_room
    reduced_not_full reply refusal (is_answered {answer = r} c a w) e = answered_not_full r store reply refusal w e

    evaluated_not_full : (reply : Reply) (refusal : Full) → IsReplyToTree room bits old before after store reads.tree reply → reply ≡ refused (full refusal) → ⊥
    evaluated_not_full reply refusal (is_not_made m same) e = lacks_none (made_in old reads.tree) (made_in old reads.tree) refl m (λ f. lacks_no_bytes bytes f) refusal e
    evaluated_not_full reply refusal (is_made {left = left} {t = u} m r) e = reduced_not_full reply refusal (of_filled left u m r) e

    pub not_full : (reply : Reply) → IsReply room bits old before after line reply → (refusal : Full) → reply ≡ refused (full refusal) → ⊥
    not_full reply h refusal = evaluated_not_full reply refusal (evaluated reply h)

    module _ (shallow : depth t ≤ 64) (narrow : ¬ (MayExceed bits t 124)) (calm : (place : ℕ) → ¬ (TripsWithin (nodes t) before after place)) where
      reduced_answered : (reply : Reply) → IsReduction room bits (free_bytes old) t before after store reply → ((x : List ℕ) → reply ≡ refused (circular x) → ⊥) → IsAnswered reply
      reduced_answered reply (is_interrupted {by = by} h) clear = absurd (calm by h)
      reduced_answered reply (does_not_fit o h) clear = absurd (narrow h.beyond_bits)
      reduced_answered reply (lacks_bytes h) clear = absurd (roomy h.beyond_room)
      reduced_answered reply (is_answered {answer = r} c a w) clear = answered_with r store reply w clear

      evaluated_answered : (reply : Reply) → IsReplyToTree room bits old before after store reads.tree reply → ((x : List ℕ) → reply ≡ refused (circular x) → ⊥) → IsAnswered reply
      evaluated_answered reply (is_not_made m same) clear = absurd (never_unmade (made_in old reads.tree) refl _ m)
        where
          never_unmade : (making : Filling) → made_in old reads.tree ≡ making → (reason : Reason) → Unmade making reason → ⊥
          never_unmade (lacks f) e reason u = lacks_no_bytes bytes f e
          never_unmade too_deep e reason u = let deep_there = made_deep (free_bytes old) (values old.table (trees old)) reads.tree e in omega (arith, deep_there, shallow, ap depth reads.filled_is)
          never_unmade (fills left w) e reason u = u
      evaluated_answered reply (is_made {left = left} {t = u} m r) clear = reduced_answered reply (of_filled left u m r) clear

      pub answered : (reply : Reply) → ((x : List ℕ) → reply ≡ refused (circular x) → ⊥) → IsReply room bits old before after line reply → IsAnswered reply
      answered reply clear h = evaluated_answered reply (evaluated reply h) clear

  -- ---- circular stores

  reduced_circular : (reply : Reply) (x : List ℕ) → IsReduction room bits (free_bytes old) t before after store reply → reply ≡ refused (circular x) → (store ≡ Some x) × Contains (names t) x
  reduced_circular reply x (is_interrupted h) e = absurd cc
  reduced_circular reply x (does_not_fit o h) e = absurd cc
  reduced_circular reply x (lacks_bytes h) e = absurd cc
  reduced_circular reply x (is_answered {answer = r} c a w) e = let there = circular_with r store reply x w e in (there.0, a.reduces.no_new_name.name x there.1)

  evaluated_circular : (reply : Reply) (x : List ℕ) → IsReplyToTree room bits old before after store reads.tree reply → reply ≡ refused (circular x) → (store ≡ Some x) × Contains (names t) x
  evaluated_circular reply x (is_not_made m same) e = absurd (never_circular (made_in old reads.tree) m x e)
  evaluated_circular reply x (is_made {left = left} {t = u} m r) e = reduced_circular reply x (of_filled left u m r) e

  pub circular_holds : (x : List ℕ) → IsReply room bits old before after line (refused (circular x)) → (store ≡ Some x) × Contains (names t) x
  circular_holds x h = evaluated_circular (refused (circular x)) x (evaluated (refused (circular x)) h) refl
