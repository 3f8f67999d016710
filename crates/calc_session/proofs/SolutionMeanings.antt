-- What the texts of solutions say is so.
use Rattle.calc_session.proofs.Shared.{◌≡◌, ◌∙◌, ◌↔◌, inl, inr, zero, suc, [], ◌∷◌, get_or, map, true, sym, subst, arith, length-map-range_with_len, All, ⊤, AllZip, enumerate_from, and_parts}
use Rattle.calc_session.proofs.Shared.{not-false, fails_before_first, reduced_face_means, Assignment, IsAssignment, Means, surd_of, Same-refl, face, Fraction, plus, symbol, names, Assigns, Equation}
use Rattle.calc_session.proofs.Shared.{IsLinearIn, SolvesAll, and_then, Answer, never, solved, Form, free, bound, HasItsValue, HaveTheirValues, answer_of, answer_with, form_of, forms_of, multipliers}
use Rattle.calc_session.proofs.Shared.{Row, worth, solving, forms_are_later, forms_are_many, multipliers_are_many, never_solved, one_from, solved_where, Reply, report, AreNamesOf, IsNameIn, Rises}
use Rattle.calc_session.proofs.Shared.{form_tree, solution_text, HasPrintedValue, TellsSolutions, tells_forms, tells_none, IsSolution, first_not_linear, is_linear_equation, Rows, equation_rows}
use Rattle.calc_session.proofs.{Shared.{first_with, row_at, settled_up_to, both, ok_is, one_rational_meaning, rises_distinct}, FormLemmas.{form_means, form_reduced}}
use Rattle.std.proofs.Common.{◌<◌, ◌≤◌, ℕ, List, length, Option, Some, None, Ok}
use Rattle.breakers.specs.State.{State as Breaker}
use Rattle.calc_algebra.specs.Meanings.{Gives}

-- ---- the equations are linear in their names

none_at : (es : List Equation) (k : ℕ) (d : Equation) → first_not_linear es ≡ None → k < length es → is_linear_equation (get_or es k d) ≡ true
none_at es k d e l = grind (arith, not-false, fails_before_first)

name_in : (es : List Equation) (k : ℕ) (d : Equation) (x : List ℕ) → k < length es → IsNameIn (get_or es k d ∷ []) x → IsNameIn es x
name_in [] k d x l h = absurd (omega (arith, l))
name_in (e ∷ es) zero d x l (inl h) = inl h
name_in (e ∷ es) zero d x l (inr h) = absurd h
name_in (e ∷ es) (suc k) d x l h = inr (name_in es k d x (omega (arith, l)) h)

pub linear_in : (xs : List (List ℕ)) (es : List Equation) → AreNamesOf es xs → first_not_linear es ≡ None → All (IsLinearIn xs) es
linear_in xs es names e k d l =
    let (left, right) = and_parts _ _ (none_at es k d e l) in
    record {
      left = left;
      right = right;
      left_names = λ x c. (names.all x).1 (name_in es k d x l (inl (inl c)));
      right_names = λ x c. (names.all x).1 (name_in es k d x l (inl (inr c)));
    }

-- ---- a form has at most as many multiples as there are names

abbrev pub IsWide : ℕ → Form → Type 0
IsWide n free = ⊤
IsWide n (bound q qs) = length qs ≤ n

abbrev pub AreWide : ℕ → List Form → Type 0
AreWide n [] = ⊤
AreWide n (form ∷ forms) = IsWide n form × AreWide n forms

wide_form : (n at : ℕ) (r : Option Row) → IsWide n (form_of n at r)
wide_form n at r = grind (arith, length-map-range_with_len)

wide_forms : (n : ℕ) (ps : List (ℕ × Option Row)) → AreWide n (map (λ (p : ℕ × Option Row). form_of n p.0 p.1) ps)
wide_forms n [] = tt
wide_forms n (p ∷ ps) = (wide_form n p.0 p.1, wide_forms n ps)

forms_wide : (xs : List (List ℕ)) (es : List Equation) (forms : List Form) → solving xs es ≡ Ok (solved forms) → AreWide (length xs) forms
unfolding solving
forms_wide xs es forms e =
    let (rows, p, e1) = both (equation_rows xs es) (λ rows. and_then (settled_up_to (length xs) (record { pivots = []; left = rows })) (λ s. answer_of (length xs) s)) (solved forms) e in
    let (s, q, e2) = both (settled_up_to (length xs) (record { pivots = []; left = rows })) (λ s. answer_of (length xs) s) (solved forms) e1 in
    by s (first_with (length xs) s.left) e2
  where
    by : (s : Rows) (at : Option ℕ) → answer_with (length xs) at s ≡ Ok (solved forms) → AreWide (length xs) forms
    by s None e = subst (AreWide (length xs)) (same (ok_is _ _ e)) (wide_forms (length xs) (enumerate_from 0 s.pivots))
      where
        same : solved (forms_of (length xs) s.pivots) ≡ solved forms → forms_of (length xs) s.pivots ≡ forms
        same e = cc
    by s (Some at) e = let (cs, p, q) = both (multipliers (length xs) (row_at at s.left)) (λ cs. Ok (never cs)) (solved forms) e in absurd (clash cs (ok_is _ _ q))
      where
        clash : (cs : List Fraction) → never cs ≡ solved forms → ⊥
        clash cs e = cc

-- ---- a name has the value of its form where it has that of the tree that is printed

module _ (f : Assignment) (once : IsAssignment f) (xs : List (List ℕ)) (vs : List Fraction) (gives : Assigns f xs vs) (rises : Rises xs) where
  printed_means : (q : Fraction) (qs : List Fraction) → length qs ≤ length xs → Means (face (form_tree xs q qs)) f (surd_of (plus q (worth qs vs)))
  printed_means q qs l = reduced_face_means (form_tree xs q qs) (form_reduced xs q qs rises) f (surd_of (plus q (worth qs vs))) (form_means f xs q qs vs gives l)

  value_printed : (x : List ℕ) (v : Fraction) (form : Form) → Gives f x v → IsWide (length xs) form → HasItsValue vs form v → HasPrintedValue f xs x form
  value_printed x v free g w h = tt
  value_printed x v (bound q qs) g w h = (v, g, subst (λ (u : Fraction). Means (face (form_tree xs q qs)) f (surd_of u)) (sym h) (printed_means q qs w))

  printed_value : (x : List ℕ) (v : Fraction) (form : Form) → Gives f x v → IsWide (length xs) form → HasPrintedValue f xs x form → HasItsValue vs form v
  printed_value x v free g w h = tt
  printed_value x v (bound q qs) g w (u, gu, m) =
      one_rational_meaning f once (symbol x) v u (v, g, Same-refl (surd_of v)) (u, gu, Same-refl (surd_of u))
      ∙ one_rational_meaning f once (face (form_tree xs q qs)) u (plus q (worth qs vs)) m (printed_means q qs w)

  all_printed : (ys : List (List ℕ)) (us : List Fraction) (forms : List Form) → Assigns f ys us → AreWide (length xs) forms → AllZip (HasItsValue vs) forms us → AllZip (HasPrintedValue f xs) ys forms
  all_printed [] [] [] g w h = tt
  all_printed [] [] (form ∷ forms) g w h = absurd h
  all_printed [] (u ∷ us) forms g w h = absurd g
  all_printed (y ∷ ys) [] forms g w h = absurd g
  all_printed (y ∷ ys) (u ∷ us) [] g w h = absurd h
  all_printed (y ∷ ys) (u ∷ us) (form ∷ forms) g w h = (value_printed y u form g.0 w.0 h.0, all_printed ys us forms g.1 w.1 h.1)

  all_values : (ys : List (List ℕ)) (us : List Fraction) (forms : List Form) → Assigns f ys us → AreWide (length xs) forms → AllZip (HasPrintedValue f xs) ys forms → AllZip (HasItsValue vs) forms us
  all_values [] [] [] g w h = tt
  all_values [] [] (form ∷ forms) g w h = absurd h
  all_values [] (u ∷ us) forms g w h = absurd g
  all_values (y ∷ ys) [] forms g w h = absurd g
  all_values (y ∷ ys) (u ∷ us) [] g w h = absurd h
  all_values (y ∷ ys) (u ∷ us) (form ∷ forms) g w h = (printed_value y u form g.0 w.0 h.0, all_values ys us forms g.1 w.1 h.1)

-- ---- the texts

module _ (xs : List (List ℕ)) (es : List Equation) (are : AreNamesOf es xs) (linear : first_not_linear es ≡ None) where
  says_forms : (forms : List Form) → solving xs es ≡ Ok (solved forms) → TellsSolutions es (solution_text xs (solved forms))
  says_forms forms e =
      let distinct = rises_distinct xs are.rising in
      let lin = linear_in xs es are linear in
      let wide = forms_wide xs es forms e in
      tells_forms forms are (forms_are_many xs es distinct lin forms e) (forms_are_later xs es distinct lin forms e) (λ f vs once gives.
      let w : SolvesAll f es ↔ HaveTheirValues forms vs = solved_where xs es distinct lin f vs once gives forms e in
      (λ s. all_printed f once xs vs gives are.rising xs vs forms gives wide (w.0 s), λ h. w.1 (all_values f once xs vs gives are.rising xs vs forms gives wide h)))

  says_none : (cs : List Fraction) → solving xs es ≡ Ok (never cs) → TellsSolutions es (solution_text xs (never cs))
  says_none cs e =
      let distinct = rises_distinct xs are.rising in
      let lin = linear_in xs es are linear in
      tells_none cs are (multipliers_are_many xs es distinct lin cs e) (λ f vs ls rs once gives hl hr. one_from xs es distinct lin f vs once gives cs ls rs e hl hr) (λ f vs once gives. never_solved xs es distinct lin f vs once gives cs e)

  says : (answer : Answer) → solving xs es ≡ Ok answer → TellsSolutions es (solution_text xs answer)
  says answer e = grind (arith, says_none, says_forms)

  pub told_says : (room : ℕ) (before after : List Breaker) (told : List ℕ) (reply : Reply) → reply ≡ report told → IsSolution room xs es before after reply → TellsSolutions es told
  told_says room before after told reply e h = grind (arith, says)
