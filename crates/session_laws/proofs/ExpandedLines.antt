-- What the answers to lines that ask for an expansion mean, and when there is one.
use Rattle.session_laws.proofs.Shared.{both_ways, ◌≡◌, ◌↔◌, ℕ, ◌≤◌, List, length, true, false, Option, refl, ap, arith, reduced_face_means, IsCommandLine, expand, face, text, Tree, nodes, expanded}
use Rattle.session_laws.proofs.Shared.{sum_tree, term_trees, expansion_room, is_polynomial, polynomial_of, tree_expanded_reduced, TripsWithin, IsReplyToExpansion, expansion_text, is_no_polynomial}
use Rattle.session_laws.proofs.Shared.{is_expanded, Reply, refused, not_polynomial, report, State, free_bytes, IsReply, expanded_means, one_normal_form, AsksExpansionOf, HaveSameCoefficients}
use Rattle.session_laws.proofs.{Shared.{TellsExpansion}, AskedLines.{commanded_report, commanded_reply}, ExpressionReplies.{reply_to_text, reply_to_tree}}
use Rattle.breakers.specs.State.{State as Breaker}
use Rattle.calc_measures.specs.Measures.{bits as bits_of}
use Rattle.calc_session.specs.Expanding.{is_interrupted, does_not_fit, lacks_bytes}

told_is : (a b : List ℕ) → report a ≡ report b → b ≡ a
told_is a b e = cc

-- ---- the replies to a tree

module _ {free left : ℕ} {before after : List Breaker} {t : Tree} where
  -- a report
  told_tree : (reply : Reply) (told : List ℕ) → IsReplyToExpansion free before after left t reply → reply ≡ report told → (is_polynomial t ≡ true) × (told ≡ expansion_text t)
  told_tree reply told (is_no_polynomial n same) e = absurd cc
  told_tree reply told (is_interrupted p h) e = absurd cc
  told_tree reply told (does_not_fit o p h) e = absurd cc
  told_tree reply told (lacks_bytes p h) e = absurd cc
  told_tree reply told (is_expanded p c) e = (p, told_is (expansion_text t) told e)

  -- no polynomial
  denied_tree : (reply : Reply) → IsReplyToExpansion free before after left t reply → (reply ≡ refused not_polynomial) ↔ (is_polynomial t ≡ false)
  denied_tree reply (is_no_polynomial n same) = (λ e. n, λ e. refl)
  denied_tree reply (is_interrupted p h) = (λ e. absurd cc, λ e. absurd (both_ways (is_polynomial t) e p))
  denied_tree reply (does_not_fit o p h) = (λ e. absurd cc, λ e. absurd (both_ways (is_polynomial t) e p))
  denied_tree reply (lacks_bytes p h) = (λ e. absurd cc, λ e. absurd (both_ways (is_polynomial t) e p))
  denied_tree reply (is_expanded p c) = (λ e. absurd cc, λ e. absurd (both_ways (is_polynomial t) e p))

  -- where nothing is lacking
  expanded_tree : (reply : Reply) → is_polynomial t ≡ true → bits_of t ≤ 124 → expansion_room t ≤ free → ((place : ℕ) → ¬ (TripsWithin (nodes t) before after place)) → IsReplyToExpansion free before after left t reply → reply ≡ report (expansion_text t)
  expanded_tree reply is narrow roomy calm (is_no_polynomial n same) = absurd (both_ways (is_polynomial t) n is)
  expanded_tree reply is narrow roomy calm (is_interrupted {by = by} p h) = absurd (calm by h)
  expanded_tree reply is narrow roomy calm (does_not_fit o p h) = absurd (let beyond = h.beyond_bits in omega (arith, beyond, narrow))
  expanded_tree reply is narrow roomy calm (lacks_bytes p h) = absurd (let beyond = h.beyond_room in omega (arith, beyond, roomy))
  expanded_tree reply is narrow roomy calm (is_expanded p c) = refl

-- ---- the replies to a line

module _ (room bits : Option (Tree → ℕ)) (old : State) (before checked : List Breaker) (line : List ℕ) where
  module _ (behind : List ℕ) (asked : IsCommandLine line (expand behind)) where
    pub tells_expansion : (told : List ℕ) → IsReply room bits old before checked line (report told) → TellsExpansion old line told
    tells_expansion told h =
        let read = reply_to_text (commanded_report room bits old before checked line (expand behind) refl asked told h) in
        let t = read.tree in
        let (is, same) = told_tree (report told) told read.reply_is refl in
        record {
          tree = t;
          becomes = record { text = behind; asks = asked; becomes = read.becomes };
          polynomial = is;
          told_is = same;
          meanings = record { means = λ f a v m. expanded_means f a t v is m };
          shown_meanings = record { means = λ f a v m. reduced_face_means (expanded (polynomial_of t)) (tree_expanded_reduced t) f v (expanded_means f a t v is m) };
        }

  module _ {t : Tree} (a : AsksExpansionOf old line t) where
    pub told_of : (told : List ℕ) → IsReply room bits old before checked line (report told) → told ≡ expansion_text t
    told_of told h = (told_tree (report told) told (reply_to_tree a.becomes (report told) (commanded_report room bits old before checked line (expand a.text) refl a.asks told h)) refl).1

    module _ (short : length line ≤ 1024) (reply : Reply) (h : IsReply room bits old before checked line reply) where
      within : IsReplyToExpansion (free_bytes old) before checked a.becomes.left t reply
      within = reply_to_tree a.becomes reply (commanded_reply room bits old before checked line (expand a.text) refl a.asks short reply h)

      pub is_denied : (reply ≡ refused not_polynomial) ↔ (is_polynomial t ≡ false)
      is_denied = denied_tree reply within

      pub is_told : is_polynomial t ≡ true → bits_of t ≤ 124 → expansion_room t ≤ free_bytes old → ((place : ℕ) → ¬ (TripsWithin (nodes t) before checked place)) → reply ≡ report (expansion_text t)
      is_told is narrow roomy calm = expanded_tree reply is narrow roomy calm within

-- ---- two lines

pub one_expansion_text : (t u : Tree) → HaveSameCoefficients t u → expansion_text t ≡ expansion_text u
one_expansion_text t u same = ap (λ v. text (face (sum_tree (term_trees v)))) (one_normal_form (polynomial_of t) (polynomial_of u) same)
