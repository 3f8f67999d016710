-- Lemmas on lines: what one more byte does to them.
use Rattle.std.proofs.{Common.{◌≡◌, ◌∙◌, ℕ, List, [], ◌∷◌, ◌++◌, map, Bool, true, false, refl, sym, ap, append_assoc, append-nil}, lemmas.List.Splits.{slice_split-cons_yes, slice_split-cons_no}}
use Rattle.poincare_run.proofs.Shared.{map-append, eqb-true, onto_first, strip_carriage_return, is_newline, parts, all_but_last, last_of, whole_lines, rest_of}

-- the parts of the bytes, and those with one more byte behind them
record Cut (bytes : List ℕ) : Type 0 where
  front : List (List ℕ)
  last : List ℕ
  parts_are : parts bytes ≡ front ++ last ∷ []
  newline : parts (bytes ++ 10 ∷ []) ≡ front ++ last ∷ [] ∷ []
  other : (b : ℕ) → is_newline b ≡ false → parts (bytes ++ b ∷ []) ≡ front ++ (last ++ b ∷ []) ∷ []

cut : (bytes : List ℕ) → Cut bytes
cut [] = record { front = []; last = []; parts_are = refl; newline = refl; other = λ b e. slice_split-cons_no is_newline b [] e }
cut (x ∷ bytes) = by (is_newline x) refl (cut bytes)
  where
    joined : (c : Cut bytes) → is_newline x ≡ false → (front : List (List ℕ)) → c.front ≡ front → Cut (x ∷ bytes)
    joined c e [] f = record {
      front = [];
      last = x ∷ c.last;
      parts_are = slice_split-cons_no is_newline x bytes e ∙ ap (onto_first x) (c.parts_are ∙ ap (λ ps. ps ++ c.last ∷ []) f);
      newline = slice_split-cons_no is_newline x (bytes ++ 10 ∷ []) e ∙ ap (onto_first x) (c.newline ∙ ap (λ ps. ps ++ c.last ∷ [] ∷ []) f);
      other = λ b g. slice_split-cons_no is_newline x (bytes ++ b ∷ []) e ∙ ap (onto_first x) (c.other b g ∙ ap (λ ps. ps ++ (c.last ++ b ∷ []) ∷ []) f);
    }
    joined c e (p ∷ ps) f = record {
      front = (x ∷ p) ∷ ps;
      last = c.last;
      parts_are = slice_split-cons_no is_newline x bytes e ∙ ap (onto_first x) (c.parts_are ∙ ap (λ qs. qs ++ c.last ∷ []) f);
      newline = slice_split-cons_no is_newline x (bytes ++ 10 ∷ []) e ∙ ap (onto_first x) (c.newline ∙ ap (λ qs. qs ++ c.last ∷ [] ∷ []) f);
      other = λ b g. slice_split-cons_no is_newline x (bytes ++ b ∷ []) e ∙ ap (onto_first x) (c.other b g ∙ ap (λ qs. qs ++ (c.last ++ b ∷ []) ∷ []) f);
    }

    by : (b : Bool) → is_newline x ≡ b → Cut bytes → Cut (x ∷ bytes)
    by true e c = record {
      front = [] ∷ c.front;
      last = c.last;
      parts_are = slice_split-cons_yes is_newline x bytes e ∙ ap (λ ps. [] ∷ ps) c.parts_are;
      newline = slice_split-cons_yes is_newline x (bytes ++ 10 ∷ []) e ∙ ap (λ ps. [] ∷ ps) c.newline;
      other = λ b g. slice_split-cons_yes is_newline x (bytes ++ b ∷ []) e ∙ ap (λ ps. [] ∷ ps) (c.other b g);
    }
    by false e c = joined c e c.front refl

all_but_last-append : (front : List (List ℕ)) (last : List ℕ) → all_but_last (front ++ last ∷ []) ≡ front
all_but_last-append [] last = refl
all_but_last-append (p ∷ []) last = refl
all_but_last-append (p ∷ q ∷ ps) last = ap (λ rest. p ∷ rest) (all_but_last-append (q ∷ ps) last)

last_of-append : (front : List (List ℕ)) (last : List ℕ) → last_of (front ++ last ∷ []) ≡ last
last_of-append [] last = refl
last_of-append (p ∷ []) last = refl
last_of-append (p ∷ q ∷ ps) last = last_of-append (q ∷ ps) last

-- both, where the parts are known
lines_from : (bytes : List ℕ) (front : List (List ℕ)) (last : List ℕ) → parts bytes ≡ front ++ last ∷ [] → (whole_lines bytes ≡ map strip_carriage_return front) × (rest_of bytes ≡ last)
unfolding whole_lines rest_of
lines_from bytes front last e = (
  ap (λ ps. map strip_carriage_return (all_but_last ps)) e ∙ ap (map strip_carriage_return) (all_but_last-append front last),
  ap last_of e ∙ last_of-append front last,
)

before_newline : (bytes : List ℕ) (c : Cut bytes) → parts (bytes ++ 10 ∷ []) ≡ (c.front ++ c.last ∷ []) ++ [] ∷ []
before_newline bytes c = c.newline ∙ sym (append_assoc c.front (c.last ∷ []) ([] ∷ []))

pub whole_lines-newline : (bytes : List ℕ) → whole_lines (bytes ++ 10 ∷ []) ≡ whole_lines bytes ++ strip_carriage_return (rest_of bytes) ∷ []
whole_lines-newline bytes =
    let c = cut bytes in
    let known = lines_from bytes c.front c.last c.parts_are in
    (lines_from (bytes ++ 10 ∷ []) (c.front ++ c.last ∷ []) [] (before_newline bytes c)).0
    ∙ map-append strip_carriage_return c.front (c.last ∷ [])
    ∙ ap (λ ls. ls ++ strip_carriage_return c.last ∷ []) (sym known.0) ∙ ap (λ l. whole_lines bytes ++ strip_carriage_return l ∷ []) (sym known.1)

pub rest_of-newline : (bytes : List ℕ) → rest_of (bytes ++ 10 ∷ []) ≡ []
rest_of-newline bytes = let c = cut bytes in (lines_from (bytes ++ 10 ∷ []) (c.front ++ c.last ∷ []) [] (before_newline bytes c)).1

pub whole_lines-other : (bytes : List ℕ) (b : ℕ) → is_newline b ≡ false → whole_lines (bytes ++ b ∷ []) ≡ whole_lines bytes
whole_lines-other bytes b e =
    let c = cut bytes in
    (lines_from (bytes ++ b ∷ []) c.front (c.last ++ b ∷ []) (c.other b e)).0 ∙ sym (lines_from bytes c.front c.last c.parts_are).0

pub rest_of-other : (bytes : List ℕ) (b : ℕ) → is_newline b ≡ false → rest_of (bytes ++ b ∷ []) ≡ rest_of bytes ++ b ∷ []
rest_of-other bytes b e =
    let c = cut bytes in
    (lines_from (bytes ++ b ∷ []) c.front (c.last ++ b ∷ []) (c.other b e)).1 ∙ ap (λ l. l ++ b ∷ []) (sym (lines_from bytes c.front c.last c.parts_are).1)

is_newline-eq : (b : ℕ) → is_newline b ≡ true → b ≡ 10
is_newline-eq b e = eqb-true b 10 e

one_more : (bytes : List ℕ) (b : ℕ) → (lines : List (List ℕ)) × (whole_lines (bytes ++ b ∷ []) ≡ whole_lines bytes ++ lines)
one_more bytes b = by (is_newline b) refl
  where
    by : (t : Bool) → is_newline b ≡ t → (lines : List (List ℕ)) × (whole_lines (bytes ++ b ∷ []) ≡ whole_lines bytes ++ lines)
    by true e = (strip_carriage_return (rest_of bytes) ∷ [], ap (λ c. whole_lines (bytes ++ c ∷ [])) (is_newline-eq b e) ∙ whole_lines-newline bytes)
    by false e = ([], whole_lines-other bytes b e ∙ sym (append-nil (whole_lines bytes)))

-- more bytes leave the whole lines in front
pub whole_lines-front : (bytes more : List ℕ) → (lines : List (List ℕ)) × (whole_lines (bytes ++ more) ≡ whole_lines bytes ++ lines)
whole_lines-front bytes [] = ([], ap whole_lines (append-nil bytes) ∙ sym (append-nil (whole_lines bytes)))
whole_lines-front bytes (b ∷ more) =
    let first = one_more bytes b in
    let others = whole_lines-front (bytes ++ b ∷ []) more in
    (first.0 ++ others.0, ap whole_lines (sym (append_assoc bytes (b ∷ []) more)) ∙ others.1 ∙ ap (λ ls. ls ++ others.0) first.1 ∙ append_assoc (whole_lines bytes) first.0 others.0)
