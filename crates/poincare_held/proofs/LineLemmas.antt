-- The lines of a text, taken from its front.
use Rattle.poincare_held.proofs.Shared.{◌≡◌, ◌∙◌, ℕ, List, [], ◌∷◌, ◌++◌, map, Bool, true, false, refl, sym, ap, All, slice_split-cons_no, slice_split-cons_yes, slice_split_at, slice_split_none}
use Rattle.poincare_held.proofs.Shared.{onto_first, strip_carriage_return, is_newline, parts, all_but_last, last_of, line_of_rest, lines_of}
use Rattle.poincare_run.specs.Lines.{rest_of, whole_lines}

-- the parts of any bytes are some
record Some (ps : List (List ℕ)) : Type 0 where
  first : List ℕ
  more : List (List ℕ)
  are : ps ≡ first ∷ more

some_parts : (bytes : List ℕ) → Some (parts bytes)
some_parts [] = record { first = []; more = []; are = refl }
some_parts (x ∷ bytes) = by (is_newline x) refl (some_parts bytes)
  where
    by : (b : Bool) → is_newline x ≡ b → Some (parts bytes) → Some (parts (x ∷ bytes))
    by true e s = record { first = []; more = parts bytes; are = slice_split-cons_yes is_newline x bytes e }
    by false e s = record { first = x ∷ s.first; more = s.more; are = slice_split-cons_no is_newline x bytes e ∙ ap (onto_first x) s.are }

module _ (line rest : List ℕ) (clear : All (λ x. is_newline x ≡ false) line) where
  -- a line that ends in a newline is the first one
  pub lines_first : lines_of (line ++ 10 ∷ rest) ≡ strip_carriage_return line ∷ lines_of rest
  unfolding whole_lines rest_of
  lines_first =
      let s = some_parts rest in
      let e : parts (line ++ 10 ∷ rest) ≡ line ∷ s.first ∷ s.more = slice_split_at is_newline line 10 rest clear refl ∙ ap (λ ps. line ∷ ps) s.are in
      let lines : List (List ℕ) → List (List ℕ) = λ ps. map strip_carriage_return (all_but_last ps) ++ line_of_rest (last_of ps) in
      ap lines e ∙ ap (λ ps. strip_carriage_return line ∷ lines ps) (sym s.are)

-- bytes without a newline are one line, if any
pub lines_last : (bytes : List ℕ) → All (λ x. is_newline x ≡ false) bytes → lines_of bytes ≡ line_of_rest bytes
unfolding whole_lines rest_of
lines_last bytes clear =
    let lines : List (List ℕ) → List (List ℕ) = λ ps. map strip_carriage_return (all_but_last ps) ++ line_of_rest (last_of ps) in
    ap lines (slice_split_none is_newline bytes clear)

pub no_lines : lines_of [] ≡ []
unfolding whole_lines rest_of
no_lines = refl
