-- The replies to equations that are to be solved.
use Rattle.std.specs.{Prelude.{ℕ, suc, ◌≡◌, ◌≤◌, ◌<◌, ◌+◌, List, [], ◌∷◌, length, position, Bool, not, ◌&&◌, Option, Some, None, Ok, Err}, List.{AllZip}}
use Rattle.breakers.specs.{Breakers.{CalmChecks, TripsWithin}, State.{State as Breaker}}
use Rattle.calc_terms.specs.Trees.{Tree}
use Rattle.calc_tokens.specs.Placed.{Placed}
use Rattle.linear_solve.specs.{Checks.{solving_checks}, Equations.{Equation, nodes_of_sides}, Fitting.{Misfit}, Forms.{Answer, Form, solved}, Linear.{is_linear}, Solving.{solving}}
use Rattle.linear_solve.specs.RisingNames.{AreNamesOf, HoldOverSixNames}
use Rattle.name_table.specs.Filling.{NamedTree, fills, values}
use Rattle.node_pool.specs.declared.full.Full.{Full}
use Rattle.calc_session.specs.{Arguments.{IsNoExpression, ReadsText}, Evaluations.{Unmade, made}, Forms.{form_room}, Replies.{Reason, Reply, report, refused, full, overflow, interrupted, command}}
use Rattle.calc_session.specs.{Replies.{not_linear, too_many}, SolutionTexts.{solution_text}, States.{State, free_bytes, trees}}
use Rattle.calc_commands.specs.Equations.{Piece, Pieces, Sides, Splits, all_placed}

-- ---- the sides are read

-- the text of a side reads as an expression with this tree
abbrev pub ReadsSide : Piece → Tree → Type 0
ReadsSide p t = (tokens : List Placed) × ReadsText p.text tokens None t

pub record ReadsEquation (p : Pieces) (e : Equation) : Type 0 where
  pub left : ReadsSide p.left e.left
  pub right : ReadsSide p.right e.right

abbrev pub IsNoSide : Piece → Reason → Type 0
IsNoSide p reason = IsNoExpression p.before p.text reason

-- why equations are not read: because of the first side that is no expression, from left to right
pub data IsNoEquation : List Pieces → Reason → Type 0 where
  at_left : {p : Pieces} {ps : List Pieces} {reason : Reason} → IsNoSide p.left reason → IsNoEquation (p ∷ ps) reason
  at_right : {p : Pieces} {ps : List Pieces} {t : Tree} {reason : Reason} → ReadsSide p.left t → IsNoSide p.right reason → IsNoEquation (p ∷ ps) reason
  later : {p : Pieces} {ps : List Pieces} {e : Equation} {reason : Reason} → ReadsEquation p e → IsNoEquation ps reason → IsNoEquation (p ∷ ps) reason

-- ---- they are built

-- Where so many bytes are free and the names stand for these values, equations become these: one side after another is built in the bytes that are left, and filled.
pub data Become (values : List NamedTree) : (free : ℕ) → List Equation → (left : ℕ) → List Equation → Type 0 where
  nothing : {free : ℕ} → Become values free [] free []
  equation : {free between behind left : ℕ} {e : Equation} {es fs : List Equation} {l r : Tree} → made free values e.left ≡ fills between l → made between values e.right ≡ fills behind r
      → Become values behind es left fs → Become values free (e ∷ es) left (record { left = l; right = r } ∷ fs)

-- why a side is not made: the first such, from left to right
pub data AreUnmade (values : List NamedTree) : (free : ℕ) → List Equation → Reason → Type 0 where
  at_left : {free : ℕ} {e : Equation} {es : List Equation} {reason : Reason} → Unmade (made free values e.left) reason → AreUnmade values free (e ∷ es) reason
  at_right : {free between : ℕ} {e : Equation} {es : List Equation} {l : Tree} {reason : Reason} → made free values e.left ≡ fills between l → Unmade (made between values e.right) reason → AreUnmade values free (e ∷ es) reason
  later : {free between behind : ℕ} {e : Equation} {es : List Equation} {l r : Tree} {reason : Reason} → made free values e.left ≡ fills between l → made between values e.right ≡ fills behind r
      → AreUnmade values behind es reason → AreUnmade values free (e ∷ es) reason

-- ---- they are solved

abbrev pub is_linear_equation : Equation → Bool
is_linear_equation e = is_linear e.left && is_linear e.right

-- the place of the first equation with a side that is not linear
abbrev pub first_not_linear : List Equation → Option ℕ
first_not_linear es = position (λ e. not (is_linear_equation e)) es

-- The replies to linear equations in these names, where so many bytes are free without their sides.
pub data IsSolution (free : ℕ) (xs : List (List ℕ)) (es : List Equation) (before after : List Breaker) : Reply → Type 0 where
  is_interrupted : {by : ℕ} → TripsWithin (solving_checks xs es) before after by → IsSolution free xs es before after (refused (interrupted by))
  does_not_fit : {m : Misfit} → solving xs es ≡ Err m → CalmChecks (solving_checks xs es) before after → IsSolution free xs es before after (refused (overflow m.op m.a m.b))
  lacks_bytes : {forms : List Form} {refusal : Full} → solving xs es ≡ Ok (solved forms) → CalmChecks (nodes_of_sides es + length xs) before after → refusal.free < refusal.needed → free < form_room
      → IsSolution free xs es before after (refused (full refusal))
  is_told : {answer : Answer} → solving xs es ≡ Ok answer → CalmChecks (nodes_of_sides es + length xs) before after → IsSolution free xs es before after (report (solution_text xs answer))

-- the replies to equations that were built
pub data IsReplyToSolve (free : ℕ) (es : List Equation) (before after : List Breaker) : Reply → Type 0 where
  have_too_many_names : HoldOverSixNames es → after ≡ before → IsReplyToSolve free es before after (refused too_many)
  are_not_linear : {xs : List (List ℕ)} {at : ℕ} → AreNamesOf es xs → length xs ≤ 6 → first_not_linear es ≡ Some at → after ≡ before → IsReplyToSolve free es before after (refused (not_linear (suc at)))
  are_linear : {xs : List (List ℕ)} {reply : Reply} → AreNamesOf es xs → length xs ≤ 6 → first_not_linear es ≡ None → IsSolution free xs es before after reply → IsReplyToSolve free es before after reply

-- the replies to equations that were read, where so many bytes are free and the names stand for these values
pub data IsReplyToRead (values : List NamedTree) (free : ℕ) (read : List Equation) (before after : List Breaker) : Reply → Type 0 where
  are_not_made : {reason : Reason} → AreUnmade values free read reason → after ≡ before → IsReplyToRead values free read before after (refused reason)
  are_made : {built : List Equation} {left : ℕ} {reply : Reply} → Become values free read left built → IsReplyToSolve free built before after reply → IsReplyToRead values free read before after reply

-- The replies to equations that are to be solved, where so many bytes of the line stand before their text.
pub data IsReplyToEquations (old : State) (before after : List Breaker) (place : ℕ) (text : List ℕ) : Reply → Type 0 where
  are_not_written : ((es : List Sides) → Splits text es → ⊥) → after ≡ before → IsReplyToEquations old before after place text (refused command)
  are_too_many : {es : List Sides} → Splits text es → 6 < length es → after ≡ before → IsReplyToEquations old before after place text (refused too_many)
  are_not_read : {es : List Sides} {reason : Reason} → Splits text es → length es ≤ 6 → IsNoEquation (all_placed place es) reason → after ≡ before
      → IsReplyToEquations old before after place text (refused reason)
  are_read : {es : List Sides} {read : List Equation} {reply : Reply} → Splits text es → length es ≤ 6 → AllZip ReadsEquation (all_placed place es) read
      → IsReplyToRead (values old.table (trees old)) (free_bytes old) read before after reply → IsReplyToEquations old before after place text reply
