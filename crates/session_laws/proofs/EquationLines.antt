-- What the answers to lines that ask for solutions mean, and when there is one.
use Rattle.session_laws.proofs.Shared.{◌≡◌, ◌∙◌, ℕ, ◌+◌, ◌≤◌, List, length, Option, Some, None, Err, refl, sym, ap, subst, arith, AllZip, IsCommandLine, solve, Tree, Equation, nodes_of_sides, Misfit}
use Rattle.session_laws.proofs.Shared.{solving, values, bytes_before, all_placed, form_room, Reply, report, AreNamesOf, solution_text, AsksToSolve, TellsSolutionsOf, IsReplyToEquations}
use Rattle.session_laws.proofs.Shared.{are_not_written, are_too_many, are_not_read, are_read, IsReplyToRead, are_not_made, are_made, IsReplyToSolve, have_too_many_names, are_not_linear, are_linear}
use Rattle.session_laws.proofs.Shared.{IsSolution, is_interrupted, does_not_fit, is_told, IsNoEquation, ReadsEquation, first_not_linear, State, free_bytes, trees, IsReply, trips_among_all, names_once}
use Rattle.session_laws.proofs.{Shared.{over_six, split_once, told_says}, AskedLines.{commanded_report}, OneReading.{all_read, become_at_all, become_once, read_once}}
use Rattle.breakers.specs.{State.{State as Breaker}, Breakers.{TripsWithin}}
use Rattle.calc_session.specs.Solving.{lacks_bytes}

solves_told : (free : ℕ) (xs : List (List ℕ)) (es : List Equation) (before after : List Breaker) (reply : Reply) → IsSolution free xs es before after reply → ((m : Misfit) → solving xs es ≡ Err m → ⊥) → form_room ≤ free
    → ((by : ℕ) → ¬ (TripsWithin (nodes_of_sides es + length xs) before after by)) → (told : List ℕ) × (reply ≡ report told)
solves_told free xs es before after reply (is_interrupted {by} t) fits room calm = absurd (calm by (trips_among_all xs es t))
solves_told free xs es before after reply (does_not_fit {m} e c) fits room calm = absurd (fits m e)
solves_told free xs es before after reply (lacks_bytes e c l short) fits room calm = absurd (omega (arith, short, room))
solves_told free xs es before after reply (is_told {answer} e c) fits room calm = (solution_text xs answer, refl)

no_place : (n : ℕ) → None ≡ Some n → ⊥
no_place n e = cc

-- ---- what a report tells

module _ (room bits : Option (Tree → ℕ)) (old : State) (before checked : List Breaker) (line text : List ℕ) (asked : IsCommandLine line (solve text)) where
  told_equations : {told : List ℕ} → IsReplyToEquations old before checked (bytes_before line text) text (report told) → TellsSolutionsOf old line told
  told_equations {told} (are_read {es = written} {read = read} s l r (are_made {built = es} {left = left} become (are_linear {xs = xs} n m f h))) = record {
    equations = es;
    asked = record { text = text; asks = asked; written = written; splits = s; few = l; read = read; reads = r; left = left; become = become };
    tells = told_says xs es n f (free_bytes old) before checked told (report told) refl h;
  }

  pub tells_solutions : (told : List ℕ) → IsReply room bits old before checked line (report told) → TellsSolutionsOf old line told
  tells_solutions told h = told_equations (commanded_report room bits old before checked line (solve text) refl asked told h)

-- ---- where nothing is lacking

module _ (old : State) (before checked : List Breaker) (line : List ℕ) {es : List Equation} (a : AsksToSolve old line es) {xs : List (List ℕ)} (names : AreNamesOf es xs) (few : length xs ≤ 6) (linear : first_not_linear es ≡ None)
    (fits : (m : Misfit) → solving xs es ≡ Err m → ⊥) (roomy : form_room ≤ free_bytes old) (calm : (by : ℕ) → ¬ (TripsWithin (nodes_of_sides es + length xs) before checked by)) where
  from_solved : (reply : Reply) → IsReplyToSolve (free_bytes old) es before checked reply → (told : List ℕ) × (reply ≡ report told)
  from_solved reply (have_too_many_names h same) = absurd (over_six names few h)
  from_solved reply (are_not_linear {at = at} n l f same) = absurd (no_place at (sym linear ∙ f))
  from_solved reply (are_linear {xs = ys} n l f h) = solves_told (free_bytes old) xs es before checked reply (subst (λ zs. IsSolution (free_bytes old) zs es before checked reply) (names_once n names) h) fits roomy calm

  from_read : (reply : Reply) → IsReplyToRead (values old.table (trees old)) (free_bytes old) a.read before checked reply → (told : List ℕ) × (reply ≡ report told)
  from_read reply (are_not_made u same) = absurd (become_at_all (values old.table (trees old)) (free_bytes old) a.left a.read es a.become u)
  from_read reply (are_made {built = built} {left = left} become h) =
      from_solved reply (subst (λ fs. IsReplyToSolve (free_bytes old) fs before checked reply) (become_once (values old.table (trees old)) (free_bytes old) left a.left a.read built es become a.become) h)

  pub is_solved : (reply : Reply) → IsReplyToEquations old before checked (bytes_before line a.text) a.text reply → (told : List ℕ) × (reply ≡ report told)
  is_solved reply (are_not_written n same) = absurd (n a.written a.splits)
  is_solved reply (are_too_many {es = others} s l same) = absurd (let same-many = ap length (split_once s a.splits) in let few-written = a.few in omega (arith, l, same-many, few-written))
  is_solved reply (are_not_read {es = others} {reason = reason} s l h same) = absurd (all_read a.read a.reads (subst (λ ws. IsNoEquation (all_placed (bytes_before line a.text) ws) reason) (split_once s a.splits) h))
  is_solved reply (are_read {es = others} {read = read} s l r h) =
      let there = subst (λ ws. AllZip ReadsEquation (all_placed (bytes_before line a.text) ws) read) (split_once s a.splits) r in
      from_read reply (subst (λ fs. IsReplyToRead (values old.table (trees old)) (free_bytes old) fs before checked reply) (read_once (all_placed (bytes_before line a.text) a.written) read a.read there a.reads) h)
