-- A picture of one line is the text of its face.
use Rattle.pool_layouts.proofs.Shared.{⊤, ◌≡◌, ◌∙◌, ℕ, ◌+◌, List, [], ◌∷◌, ◌++◌, codes, nat_abs, Bool, true, false, ◌||◌, if◌then◌else◌, encode_utf8_all}
use Rattle.pool_layouts.proofs.Shared.{refl, sym, ap, subst, arith, append_assoc, append-nil, encodes-append, left_of_difference, first_of_sum, later_of_sum, first_of_product, later_of_product}
use Rattle.pool_layouts.proofs.Shared.{admits, at_place, in_parentheses, text, text_of_sum, text_of_terms, text_of_product, text_of_factors, decimal, IsWritable, times_sign, Tree}
use Rattle.pool_layouts.proofs.Shared.{num, symbol, undef, add, mult, power, root, neg, sub, div, Trees, none, more, is_div, IsDefined, AreDefined, Layout, number, name, plus, minus, times, row}
use Rattle.pool_layouts.proofs.Shared.{fraction, raised, radical, paren, Layouts, nothing, beside, boxed, unless, layout, layout_of_sum, layout_of_terms, layout_of_product, layout_of_factors}
use Rattle.pool_layouts.proofs.Shared.{IsBlack, Block, cut, height, level, level_line, level_lines, line_or_blanks, most_above, most_below, picture, pictures, serial, serials}
use Rattle.pool_layouts.proofs.{Characters.{ArePlain, plain_black, plain_small, small_bytes, times_encoded}, Lines.{HasPlainLeaves, HavePlainLeaves, plain_leaves, cut_black}}
use Rattle.calc_language.specs.Texts.{Place}

-- ---- layouts of one line

abbrev mutual
  IsFlat : Layout → Type 0
  IsFlat (row ls) = AreFlat ls
  IsFlat (fraction a b) = ⊥
  IsFlat (raised a) = ⊥
  IsFlat (radical a) = ⊥
  IsFlat (paren a) = IsFlat a
  IsFlat l = ⊤

  AreFlat : Layouts → Type 0
  AreFlat nothing = ⊤
  AreFlat (beside l ls) = IsFlat l × AreFlat ls

-- a row that such a layout makes: none of its characters is a blank, and these are its bytes
record IsLineOf (F : Type 0) (cs bytes : List ℕ) : Type 0 where
  flat : F
  black : IsBlack cs
  encoded : encode_utf8_all cs ≡ bytes

plain_line : {F : Type 0} (cs : List ℕ) → F → ArePlain cs → IsLineOf F cs cs
plain_line cs f h = record { flat = f; black = plain_black cs h; encoded = small_bytes cs (plain_small cs h) }

black_append : (xs ys : List ℕ) → IsBlack xs → IsBlack ys → IsBlack (xs ++ ys)
black_append [] ys h k = k
black_append (x ∷ xs) ys h k = (h.0, black_append xs ys h.1 k)

line_append : {F G H : Type 0} {a b x y : List ℕ} → H → IsLineOf F a x → IsLineOf G b y → IsLineOf H (a ++ b) (x ++ y)
line_append {a = a} {b = b} f g h = record { flat = f; black = black_append a b g.black h.black; encoded = encodes-append a b ∙ (λ i. g.encoded i ++ h.encoded i) }

-- its line is in row 0 of a picture of one line
in_line : (b : Block) → b.above ≡ 0 → b.below ≡ 0 → level_line 0 0 b ≡ b.line 0
in_line b e f = ap (λ (x : ℕ). line_or_blanks b (level 0 0 x (x + 1 + b.below))) e ∙ ap (λ (y : ℕ). line_or_blanks b (level 0 0 0 (0 + 1 + y))) f

mutual
  line_of : (l : Layout) → (picture l).above ≡ 0 → (picture l).below ≡ 0 → HasPlainLeaves l → IsLineOf (IsFlat l) ((picture l).line 0) (serial l)
  line_of (number q) e f h = plain_line (decimal (nat_abs q.num)) tt h
  line_of (name x) e f h = plain_line x tt h
  line_of plus e f h = plain_line (codes "+") tt (omega arith, omega arith, tt)
  line_of minus e f h = plain_line (codes "-") tt (omega arith, omega arith, tt)
  line_of times e f h = record { flat = tt; black = (omega arith, tt); encoded = times_encoded }
  line_of (row ls) e f h = subst (λ (n : ℕ). IsLineOf (AreFlat ls) (level_lines n 0 (pictures ls)) (serials ls)) (sym e) (lines_of ls e f h)
  line_of (paren a) e f h =
      let inner = line_of a e f h in
      line_append inner.flat (plain_line {F = ⊤} (codes "(") tt (omega arith, omega arith, tt)) (line_append {H = ⊤} tt inner (plain_line {F = ⊤} (codes ")") tt (omega arith, omega arith, tt)))
  line_of l e f h = absurd (omega (arith, e))

  lines_of : (ls : Layouts) → most_above (pictures ls) ≡ 0 → most_below (pictures ls) ≡ 0 → HavePlainLeaves ls → IsLineOf (AreFlat ls) (level_lines 0 0 (pictures ls)) (serials ls)
  lines_of nothing e f h = plain_line [] tt tt
  lines_of (beside l ls) e f h =
      let a : (picture l).above ≡ 0 = omega (arith, e) in
      let b : (picture l).below ≡ 0 = omega (arith, f) in
      let first = line_of l a b h.0 in
      let others = lines_of ls (omega (arith, e)) (omega (arith, f)) h.1 in
      line_append (first.flat, others.flat) (subst (λ (cs : List ℕ). IsLineOf (IsFlat l) cs (serial l)) (sym (in_line (picture l) a b)) first) others

cut_whole : (cs : List ℕ) → IsBlack cs → cut cs ≡ cs
cut_whole [] h = refl
cut_whole (c ∷ cs) h = cut_black c cs h

-- ---- the text

div_not_flat : (t : Tree) → is_div t ≡ true → IsFlat (layout t) → ⊥
div_not_flat (div a b) e h = h
div_not_flat t e h = cc

-- what stands in parentheses in a row does so in the text
boxed_text : (p : Place) (t : Tree) → IsFlat (boxed p t (layout t)) → (IsFlat (layout t) → serial (layout t) ≡ text t) → serial (boxed p t (layout t)) ≡ at_place p t (text t)
boxed_text p t h known = by (is_div t) (admits p t) refl h
  where
    by : (d x : Bool) → is_div t ≡ d → IsFlat (unless (d || x) (layout t)) → serial (unless (d || x) (layout t)) ≡ (if x then text t else in_parentheses (text t))
    by false true e k = known k
    by false false e k = ap in_parentheses (known k)
    by true x e k = absurd (div_not_flat t e k)

both : (a b c d : List ℕ) → a ≡ b → c ≡ d → a ++ c ≡ b ++ d
both a b c d e f = ap (λ (x : List ℕ). x ++ c) e ∙ ap (λ (x : List ℕ). b ++ x) f

mutual
  flat_text : (u : Tree) → IsDefined u → IsFlat (layout u) → serial (layout u) ≡ text u
  flat_text (num q) d h = refl
  flat_text (symbol x) d h = refl
  flat_text undef d h = absurd d
  flat_text (add ts) d h = flat_sum ts d h
  flat_text (mult ts) d h = flat_product ts d h
  flat_text (power b e) d h = absurd h.1.0
  flat_text (root a) d h = absurd h
  flat_text (neg a) d h = ap (λ (x : List ℕ). codes "-" ++ x) (append-nil (serial (boxed later_of_sum a (layout a))) ∙ boxed_text later_of_sum a h.1.0 (λ k. flat_text a d k))
  flat_text (sub a b) d h =
      both (serial (boxed left_of_difference a (layout a))) (text a) _ _ (boxed_text left_of_difference a h.0 (λ k. flat_text a d.0 k))
      (ap (λ (x : List ℕ). codes "-" ++ x) (append-nil (serial (boxed later_of_sum b (layout b))) ∙ boxed_text later_of_sum b h.1.1.0 (λ k. flat_text b d.1 k)))
      ∙ sym (append_assoc (text a) (codes "-") (at_place later_of_sum b (text b)))
  flat_text (div a b) d h = absurd h

  flat_sum : (ts : Trees) → AreDefined ts → AreFlat (layout_of_sum ts) → serials (layout_of_sum ts) ≡ text_of_sum ts
  flat_sum none d h = refl
  flat_sum (more t ts) d h = both (serial (boxed first_of_sum t (layout t))) (at_place first_of_sum t (text t)) _ _ (boxed_text first_of_sum t h.0 (λ k. flat_text t d.0 k)) (flat_terms ts d.1 h.1)

  flat_terms : (ts : Trees) → AreDefined ts → AreFlat (layout_of_terms ts) → serials (layout_of_terms ts) ≡ text_of_terms ts
  flat_terms none d h = refl
  flat_terms (more t ts) d h =
      ap (λ (x : List ℕ). codes "+" ++ x)
      (both (serial (boxed later_of_sum t (layout t))) (at_place later_of_sum t (text t)) _ _ (boxed_text later_of_sum t h.1.0 (λ k. flat_text t d.0 k)) (flat_terms ts d.1 h.1.1))

  flat_product : (ts : Trees) → AreDefined ts → AreFlat (layout_of_product ts) → serials (layout_of_product ts) ≡ text_of_product ts
  flat_product none d h = refl
  flat_product (more t ts) d h =
      both (serial (boxed first_of_product t (layout t))) (at_place first_of_product t (text t)) _ _ (boxed_text first_of_product t h.0 (λ k. flat_text t d.0 k)) (flat_factors ts d.1 h.1)

  flat_factors : (ts : Trees) → AreDefined ts → AreFlat (layout_of_factors ts) → serials (layout_of_factors ts) ≡ text_of_factors ts
  flat_factors none d h = refl
  flat_factors (more t ts) d h =
      ap (λ (x : List ℕ). times_sign ++ x)
      (both (serial (boxed later_of_product t (layout t))) (at_place later_of_product t (text t)) _ _ (boxed_text later_of_product t h.1.0 (λ k. flat_text t d.0 k)) (flat_factors ts d.1 h.1.1))

pub one_line_text : (u : Tree) → IsDefined u → IsWritable u → height (picture (layout u)) ≡ 1 → encode_utf8_all (cut ((picture (layout u)).line 0)) ≡ text u
one_line_text u d w h =
    let e : (picture (layout u)).above ≡ 0 = omega (arith, h) in
    let f : (picture (layout u)).below ≡ 0 = omega (arith, h) in
    let line = line_of (layout u) e f (plain_leaves u w) in
    ap encode_utf8_all (cut_whole ((picture (layout u)).line 0) line.black) ∙ line.encoded ∙ flat_text u d line.flat
