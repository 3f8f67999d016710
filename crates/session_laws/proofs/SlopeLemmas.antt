-- What the answers to lines that ask for a derivative mean, and when there is one.
use Rattle.session_laws.proofs.Shared.{◌≡◌, ℕ, ◌+◌, ◌≤◌, List, length, codes, false, Option, None, ◌⊎◌, inl, inr, refl, sym, subst, arith, reduced_face_means, Reduces, face, text, Tree, undef}
use Rattle.session_laws.proofs.Shared.{is_undef, nodes, size, HasDerivative, derivative, MayExceed, TripsWithin, IsReplyToDerivative, has_none, IsReduction, lacks_bytes, is_answered, IsReplyWith}
use Rattle.session_laws.proofs.Shared.{has_no_value, holds_its_name, is_shown, is_stored, Reply, report, reported, State, free_bytes, diff, IsCommandLine, ExpressionBecomes, IsReply, trees, values}
use Rattle.session_laws.proofs.{Shared.{slope_means, TellsSlope, TellsNoSlope, TellsDerivative, no_store}, MadeTrees.{made_left}, MeaningLemmas.{nothing_meant}}
use Rattle.session_laws.proofs.{AskedLines.{commanded_report, commanded_reply}, ExpressionReplies.{reply_to_text, reply_to_tree}}
use Rattle.calc_algebra.proofs.ReducedLaws.{undef_words as undef_is}
use Rattle.breakers.specs.State.{State as Breaker}
use Rattle.calc_session.specs.Evaluations.{is_interrupted, does_not_fit}
use Rattle.calc_session.specs.Deriving as derived

module _ (room bits : Option (Tree → ℕ)) (old : State) (before checked : List Breaker) (line x behind : List ℕ) (asked : IsCommandLine line (diff x behind)) where
  -- ---- what a report tells

  report_is : (a b : List ℕ) → report a ≡ report b → b ≡ a
  report_is a b e = cc

  told_answer : (answer : Tree) (store : Option (List ℕ)) (reply : Reply) (told : List ℕ) → IsReplyWith answer store reply → reported reply ≡ report told
      → ((is_undef answer ≡ false) × (told ≡ text (face answer))) ⊎ ((answer ≡ undef) × (told ≡ codes "undef"))
  told_answer answer store reply told (has_no_value d) e = inr (undef_is answer d, report_is (codes "undef") told e)
  told_answer answer store reply told (holds_its_name d m) e = absurd cc
  told_answer answer store reply told (is_shown d) e = inl (d, report_is (text (face answer)) told e)
  told_answer answer store reply told (is_stored d m) e = inl (d, report_is (text (face answer)) told e)

  told_slope : (t answer : Tree) (told : List ℕ) → Reduces (derivative x t) answer → ((is_undef answer ≡ false) × (told ≡ text (face answer))) ⊎ ((answer ≡ undef) × (told ≡ codes "undef")) → TellsSlope x t told ⊎ TellsNoSlope x t told
  told_slope t answer told r (inl (defined, is)) = inl (record {
    answer = answer;
    reduced = r.reduced;
    defined = defined;
    told_is = is;
    slopes = λ f a p h. let m = r.meanings.means f a p.slope (slope_means x f t p h) in (m, reduced_face_means answer r.reduced f p.slope m);
  })
  told_slope t answer told r (inr (same, is)) = inr (record {
    told_is = is;
    none = λ f a p h. nothing_meant (derivative x t) (subst (Reduces (derivative x t)) same r) f a p.slope (slope_means x f t p h);
  })

  told_reduced : (t : Tree) (store : Option (List ℕ)) (reply : Reply) (told : List ℕ) → IsReduction room bits (free_bytes old) (derivative x t) before checked store reply → reported reply ≡ report told → TellsSlope x t told ⊎ TellsNoSlope x t told
  told_reduced t store reply told (is_interrupted h) e = absurd cc
  told_reduced t store reply told (does_not_fit o h) e = absurd cc
  told_reduced t store reply told (lacks_bytes h) e = absurd cc
  told_reduced t store reply told (is_answered {answer = r} c a w) e = told_slope t r told a.reduces (told_answer r store reply told w e)

  told_tree : (left : ℕ) (t : Tree) (reply : Reply) (told : List ℕ) → IsReplyToDerivative room bits (free_bytes old) before checked x left t reply → reply ≡ report told → TellsSlope x t told ⊎ TellsNoSlope x t told
  told_tree left t reply told (has_none h same) e = absurd cc
  told_tree left t reply told (derived.lacks_bytes l same) e = absurd cc
  told_tree left t reply told (derived.is_reduced {reply = r} d l h) e = told_reduced t None r told h e

  pub tells_derivative : (told : List ℕ) → IsReply room bits old before checked line (report told) → TellsDerivative old line x told
  tells_derivative told h =
      let read = reply_to_text (commanded_report room bits old before checked line (diff x behind) refl asked told h) in
      record {
        tree = read.tree;
        becomes = record { text = behind; asks = asked; becomes = read.becomes };
        tells = told_tree read.becomes.left read.tree (report told) told read.reply_is refl;
      }

  -- ---- where nothing is lacking

  module _ {t : Tree} (b : ExpressionBecomes old behind t) where
    told_with : (answer : Tree) (store : Option (List ℕ)) (reply : Reply) → store ≡ None → IsReplyWith answer store reply → (told : List ℕ) × (reported reply ≡ report told)
    told_with answer store reply e (has_no_value d) = (codes "undef", refl)
    told_with answer store reply e (holds_its_name {x = y} d m) = absurd (no_store y (sym e))
    told_with answer store reply e (is_shown d) = (text (face answer), refl)
    told_with answer store reply e (is_stored d m) = (text (face answer), refl)

    module _ (derivable : HasDerivative x t) (small : size t + size (derivative x t) ≤ free_bytes old) (roomy : ¬ (MayExceed room (derivative x t) (free_bytes old))) (narrow : ¬ (MayExceed bits (derivative x t) 124)) (calm : (place : ℕ) → ¬ (TripsWithin (nodes (derivative x t)) before checked place)) where
      all : b.left + size t ≡ free_bytes old
      all = made_left (free_bytes old) (values old.table (trees old)) b.tree b.left t b.is_made

      answered : (store : Option (List ℕ)) (reply : Reply) → store ≡ None → IsReduction room bits (free_bytes old) (derivative x t) before checked store reply → (told : List ℕ) × (reported reply ≡ report told)
      answered store reply e (is_interrupted {by = by} h) = absurd (calm by h)
      answered store reply e (does_not_fit o h) = absurd (narrow h.beyond_bits)
      answered store reply e (lacks_bytes h) = absurd (roomy h.beyond_room)
      answered store reply e (is_answered {answer = r} c a w) = told_with r store reply e w

      from_tree : (reply : Reply) → IsReplyToDerivative room bits (free_bytes old) before checked x b.left t reply → (told : List ℕ) × (reply ≡ report told)
      from_tree reply (has_none n same) = absurd (n derivable)
      from_tree reply (derived.lacks_bytes l same) = absurd (let short = l.short in omega (arith, short, small, all))
      from_tree reply (derived.is_reduced {reply = r} d l h) = answered None r refl h

      pub is_told : length line ≤ 1024 → (reply : Reply) → IsReply room bits old before checked line reply → (told : List ℕ) × (reply ≡ report told)
      is_told short reply h = from_tree reply (reply_to_tree b reply (commanded_reply room bits old before checked line (diff x behind) refl asked short reply h))
