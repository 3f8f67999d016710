-- Lemmas on what is written of pictures.
use Rattle.poincare_run.proofs.Shared.{◌≡◌, ℕ, List, Bool, true, Option, sym, ap, subst, arith, Appends, AppendsPart, IsDrawnInPart, rows_in, State, AnswersLine, FailsAtLine, Place, TakesLine}
use Rattle.poincare_run.proofs.Shared.{picture_if, picture_text, written, LineAnswer}
use Rattle.calc_session.specs.Drawing.{IsDrawn}

pub drawn_whole : (s : State) (a b : Option (List ℕ)) → IsDrawn (rows_in s) a b → Appends a b (picture_text s)
drawn_whole s a b h = grind (arith)

pub drawn_part : (s : State) (a b : Option (List ℕ)) → IsDrawnInPart (rows_in s) a b → AppendsPart a b (picture_text s)
drawn_part s a b h = grind (arith)

module _ (old mid : Place) (bytes : List ℕ) (answer : LineAnswer) (text : List ℕ) (t : TakesLine old mid bytes answer text) (a b : Option (List ℕ)) (out : List ℕ) (is : written t.reply mid.now ≡ out) where
  pub answers_so : (new : Place) → new ≡ mid → Appends a b out → AnswersLine old new bytes a b
  answers_so new same all = subst (λ (p : Place). AnswersLine old p bytes a b) (sym same) (record { reply = t.reply; step = t.step; appended = subst (Appends a b) (sym is) all })

  pub fails_so : AppendsPart a b out → FailsAtLine old bytes a b
  fails_so part = record { reply = t.reply; next = mid.now; step = t.step; appended = subst (AppendsPart a b) (sym is) part }

-- drawing leaves the place as it was
pub same_place : (p : Place) (s : State) → s ≡ p.now.state → (let q : Place = record { now = record { state = s; breakers = p.now.breakers; draws = p.now.draws }; line = p.line } in q) ≡ p
same_place p s e = ap (λ (x : State). let q : Place = record { now = record { state = x; breakers = p.now.breakers; draws = p.now.draws }; line = p.line } in q) e

-- ---- pictures where they are wanted

pub picture_wanted : (draws : Bool) (s : State) → draws ≡ true → picture_if draws s ≡ picture_text s
picture_wanted draws s e = ap (λ (b : Bool). picture_if b s) e
