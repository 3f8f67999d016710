-- Lemmas on the answers to equations.
use Rattle.calc_session.proofs.Shared.{◌≡◌, ◌∙◌, suc, map, refl, sym, ap, subst, arith, AllZip, Equation, Form, HoldLaterFreeNames, solved, Solution, IfNever, IfSolved, answer_told, form_told}
use Rattle.calc_session.proofs.Shared.{entries_of, forms_are_later, forms_are_many, multipliers_are_many, solving, NamedTree, values, Table, Full, free_of, forest, Refusal, EquationRange, reply_of}
use Rattle.calc_session.proofs.Shared.{form_room, names_listed, AreSplit, pieces_at, Reply, report, AreNamesOf, solution_text, AreSolved, Become, equation, nothing, IsReplyToEquations, IsReplyToRead}
use Rattle.calc_session.proofs.{Shared.{ReadsEquation, are_linear, are_made, are_read, first_not_linear, is_told, state_of, Solved, rises_distinct}, SolutionMeanings.{linear_in}}
use Rattle.std.proofs.Common.{ℕ, ◌<◌, ◌≤◌, List, length, None, Ok}
use Rattle.breakers.specs.State.{State as Breaker}
use Rattle.node_pool.specs.State.{State as PoolState}
use Rattle.calc_session.specs.Solving.{lacks_bytes}
use Rattle.linear_solve.specs.declared.solution.Solution.TheVariants as solution
use Rattle.calc_session.specs.declared.answers.Refusal.TheVariants as refusal

module _ (p : PoolState) (table : Table) (before after : List Breaker) (text : List ℕ) (n : ℕ) (rs : List EquationRange) (split : AreSplit text rs) where
  -- where the sides are read
  pub read_reply : (es : List Equation) (reply : Reply) → AllZip ReadsEquation (map (pieces_at n text) rs) es → IsReplyToRead (values table (forest p)) (free_of p) es before after reply → IsReplyToEquations (state_of p table) before after n text reply
  read_reply es reply reads h = are_read split.splits split.few (subst (λ ps. AllZip ReadsEquation ps es) (split.placed_are n) reads) h

  -- and the equations solved
  module _ (es built : List Equation) (left : ℕ) (s : Solved) (reads : AllZip ReadsEquation (map (pieces_at n text) rs) es) (become : Become (values table (forest p)) (free_of p) es left built) (h : AreSolved built before after s) where
    pub solved_reply : IsReplyToEquations (state_of p table) before after n text (report (solution_text (names_listed s.names.items) (answer_told s.solution)))
    solved_reply = read_reply es _ reads (are_made become (are_linear h.names h.few h.linear (is_told h.calculated h.checks)))

    pub lacking_reply : (forms : List Form) (lack : Full) (r : Refusal) → r ≡ refusal.Full lack.needed lack.free → answer_told s.solution ≡ solved forms → lack.free < lack.needed → free_of p < form_room → IsReplyToEquations (state_of p table) before after n text (reply_of r)
    lacking_reply forms lack r e told short room =
        subst (λ (x : Refusal). IsReplyToEquations (state_of p table) before after n text (reply_of x)) (sym e)
        (read_reply es _ reads (are_made become (are_linear h.names h.few h.linear (lacks_bytes {refusal = lack} (h.calculated ∙ ap Ok told) h.checks short room))))

pub become_many : {vs : List NamedTree} {free left : ℕ} {es fs : List Equation} → Become vs free es left fs → length fs ≡ length es
become_many nothing = refl
become_many (equation a b rest) = ap suc (become_many rest)

-- what is told of the forms and of the multipliers
module _ (xs : List (List ℕ)) (es : List Equation) (names : AreNamesOf es xs) (linear : first_not_linear es ≡ None) where
  pub forms_told : (n : ℕ) (s : Solution) → n ≡ length xs → solving xs es ≡ Ok (answer_told s) → IfSolved (Ok s) (λ forms. (length forms ≡ n) × HoldLaterFreeNames forms)
  forms_told n (solution.Solved lines) many e =
      let distinct = rises_distinct xs names.rising in
      let lin = linear_in xs es names linear in
      (forms_are_many xs es distinct lin (map form_told lines.items) e ∙ sym many, forms_are_later xs es distinct lin (map form_told lines.items) e)
  forms_told n (solution.Never cs) many e = tt

  pub multipliers_told : (s : Solution) → length es ≤ 6 → solving xs es ≡ Ok (answer_told s) → IfNever (Ok s) (λ cs. length cs ≤ 6)
  multipliers_told (solution.Solved lines) few e = tt
  multipliers_told (solution.Never cs) few e = omega (arith, few, multipliers_are_many xs es (rises_distinct xs names.rising) (linear_in xs es names linear) (entries_of cs) e)
