-- The rows of a picture: how long they are, how many bytes they take, and how many columns.
use Rattle.pool_layouts.proofs.Shared.{⊤, ◌≡◌, ◌≢◌, ◌∙◌, if◌then◌else◌, ℕ, zero, suc, ◌+◌, ◌-◌, ◌*◌, ◌/◌, ◌≤◌, max, List, [], ◌∷◌, ◌++◌, length, replicate, nat_lt, nat_le, nat_eq, nat_abs, Bool, true}
use Rattle.pool_layouts.proofs.Shared.{false, Option, Some, None, encode_utf8_all, refl, ap, arith, length-append, length-replicate, encodes-append, decimal, nat_tests, IsWritable, AreWritable, Tree}
use Rattle.pool_layouts.proofs.Shared.{num, symbol, undef, add, mult, power, root, neg, sub, div, Trees, none, more, Layout, number, name, plus, minus, times, row, fraction, raised, radical, paren}
use Rattle.pool_layouts.proofs.Shared.{Layouts, nothing, beside, unless, layout, layout_of_sum, layout_of_terms, layout_of_product, layout_of_factors, Block, height, blanks, root_character, level}
use Rattle.pool_layouts.proofs.Shared.{line_or_blanks, level_lines, centred, widths, most_above, picture, pictures, cut, before_cut, IsBlack, str_width, str_width-simple, TakeOneColumnEach}
use Rattle.pool_layouts.proofs.Characters.{AreNarrow, ArePlain, printable, times_narrow, root_narrow, narrow_append, narrow_replicate, one_each, all_simple, all_columns, plain_small, plain_narrow}
use Rattle.pool_layouts.proofs.Characters.{small_bytes, replicate_small, times_encoded, root_encoded, decimal_plain, names_plain}

-- the sign characters of a layout that take more than one byte
abbrev mutual
  pub signs : Layout → ℕ
  signs (number q) = 0
  signs (name x) = 0
  signs plus = 0
  signs minus = 0
  signs times = 1
  signs (row ls) = all_signs ls
  signs (fraction a b) = signs a + signs b
  signs (raised a) = signs a
  signs (radical a) = 1 + signs a
  signs (paren a) = signs a

  pub all_signs : Layouts → ℕ
  all_signs nothing = 0
  all_signs (beside l ls) = signs l + all_signs ls

-- the characters of each number and name are plain
abbrev mutual
  pub HasPlainLeaves : Layout → Type 0
  HasPlainLeaves (number q) = ArePlain (decimal (nat_abs q.num))
  HasPlainLeaves (name x) = ArePlain x
  HasPlainLeaves (row ls) = HavePlainLeaves ls
  HasPlainLeaves (fraction a b) = HasPlainLeaves a × HasPlainLeaves b
  HasPlainLeaves (raised a) = HasPlainLeaves a
  HasPlainLeaves (radical a) = HasPlainLeaves a
  HasPlainLeaves (paren a) = HasPlainLeaves a
  HasPlainLeaves l = ⊤

  pub HavePlainLeaves : Layouts → Type 0
  HavePlainLeaves nothing = ⊤
  HavePlainLeaves (beside l ls) = HasPlainLeaves l × HavePlainLeaves ls

-- ---- rows

-- so many characters; where the leaves are plain, each of one column, with two bytes more for each of so many signs
record IsRow (P : Type 0) (cs : List ℕ) (w n : ℕ) : Type 0 where
  long : length cs ≡ w
  narrow : P → AreNarrow cs
  bytes : P → length (encode_utf8_all cs) ≤ w + 2 * n

bytes-append : (a b : List ℕ) → length (encode_utf8_all (a ++ b)) ≡ length (encode_utf8_all a) + length (encode_utf8_all b)
bytes-append a b = ap length (encodes-append a b) ∙ length-append (encode_utf8_all a) (encode_utf8_all b)

row_append : {P : Type 0} {a b : List ℕ} {w v n m u k : ℕ} → IsRow P a w n → IsRow P b v m → w + v ≡ u → n + m ≡ k → IsRow P (a ++ b) u k
row_append {a = a} {b = b} g h e l = record {
  long = omega (arith, length-append a b, g.long, h.long);
  narrow = λ p. narrow_append a b (g.narrow p) (h.narrow p);
  bytes = λ p. omega (arith, bytes-append a b, g.bytes p, h.bytes p);
}

row_more : {P : Type 0} {cs : List ℕ} {w n k : ℕ} → IsRow P cs w n → n ≤ k → IsRow P cs w k
row_more h l = record { long = h.long; narrow = h.narrow; bytes = λ p. omega (arith, h.bytes p, l) }

row_plain : {P : Type 0} (cs : List ℕ) → (P → ArePlain cs) → IsRow P cs (length cs) 0
row_plain cs f = record { long = refl; narrow = λ p. plain_narrow cs (f p); bytes = λ p. omega (arith, ap length (small_bytes cs (plain_small cs (f p)))) }

row_replicate : {P : Type 0} {n : ℕ} (k c : ℕ) → nat_lt c 127 ≡ true → nat_le 32 c ≡ true → IsRow P (replicate k c) k n
row_replicate k c g h = record {
  long = length-replicate k c;
  narrow = λ p. narrow_replicate k c (printable c g h);
  bytes = λ p. omega (arith, ap length (small_bytes (replicate k c) (replicate_small k c (grind (arith, nat_tests)))), length-replicate k c);
}

row_if : {P : Type 0} {a b : List ℕ} {w n : ℕ} (t : Bool) → IsRow P a w n → IsRow P b w n → IsRow P (if t then a else b) w n
row_if true g h = g
row_if false g h = h

row_centred : {P : Type 0} {n k : ℕ} (w : ℕ) (b : Block) (y : ℕ) → b.width ≤ w → IsRow P (b.line y) b.width n → n ≤ k → IsRow P (centred w b y) w k
row_centred w b y few h l =
    row_append (row_replicate {n = 0} ((w - b.width) / 2) 32 refl refl) (row_append (row_more h l)
    (row_replicate {n = 0} (w - b.width - (w - b.width) / 2) 32 refl refl) refl refl) (omega (arith, few)) (omega arith)

row_level : {P : Type 0} {n : ℕ} (b : Block) (o : Option ℕ) → ((y : ℕ) → IsRow P (b.line y) b.width n) → IsRow P (line_or_blanks b o) b.width n
row_level b (Some y) h = h y
row_level b None h = row_replicate b.width 32 refl refl

row_root : {P : Type 0} (t : Bool) → IsRow P ((if t then root_character else 32) ∷ []) 1 1
row_root true = record { long = refl; narrow = λ p. (root_narrow, tt); bytes = λ p. omega (arith, ap length root_encoded) }
row_root false = row_replicate 1 32 refl refl

mutual
  rows : {P : Type 0} (l : Layout) → (P → HasPlainLeaves l) → (y : ℕ) → IsRow P ((picture l).line y) (picture l).width (signs l)
  rows (number q) f y = row_plain (decimal (nat_abs q.num)) f
  rows (name x) f y = row_plain x f
  rows plus f y = row_replicate 1 43 refl refl
  rows minus f y = row_replicate 1 45 refl refl
  rows times f y = record { long = refl; narrow = λ p. (times_narrow, tt); bytes = λ p. omega (arith, ap length times_encoded) }
  rows (row ls) f y = level_rows ls f (most_above (pictures ls)) y
  rows (fraction a b) f y =
      let w = max (picture a).width (picture b).width in
      row_if (nat_lt y (height (picture a))) (row_centred w (picture a) y (omega arith) (rows a (λ p. (f p).0) y) (omega arith))
      (row_if (nat_eq y (height (picture a))) (row_replicate w 45 refl refl)
      (row_centred w (picture b) (y - height (picture a) - 1) (omega arith) (rows b (λ p. (f p).1) (y - height (picture a) - 1)) (omega arith)))
  rows (raised a) f y = row_if (nat_lt y (height (picture a))) (rows a f y) (row_replicate (picture a).width 32 refl refl)
  rows (radical a) f y =
      row_if (nat_eq y 0) (row_append (row_replicate {n = 0} 1 32 refl refl) (row_replicate {n = 1 + signs a} (picture a).width 95 refl refl) refl (omega arith))
      (row_append (row_root (nat_eq y ((picture a).above + 1))) (rows a f (y - 1)) refl refl)
  rows (paren a) f y =
      row_append (row_replicate {n = 0} 1 40 refl refl) (row_append (rows a f y) (row_replicate {n = 0} 1 41 refl refl) refl refl) (omega arith) (omega arith)

  level_rows : {P : Type 0} (ls : Layouts) → (P → HavePlainLeaves ls) → (above y : ℕ) → IsRow P (level_lines above y (pictures ls)) (widths (pictures ls)) (all_signs ls)
  level_rows nothing f above y = row_plain [] (λ p. tt)
  level_rows (beside l ls) f above y =
      row_append (row_level (picture l) (level above y (picture l).above (height (picture l))) (rows l (λ p. (f p).0))) (level_rows ls (λ p. (f p).1) above y) refl refl

-- each row has as many characters as the picture is wide
pub lines_long : (l : Layout) (y : ℕ) → length ((picture l).line y) ≡ (picture l).width
lines_long l y = (rows {P = ⊥} l (λ p. absurd p) y).long

pub lines_bytes : (l : Layout) → HasPlainLeaves l → (y : ℕ) → length (encode_utf8_all ((picture l).line y)) ≤ (picture l).width + 2 * signs l
lines_bytes l h y = (rows {P = ⊤} l (λ p. h) y).bytes tt

-- ---- faces

plain_unless : (t : Bool) (l : Layout) → HasPlainLeaves l → HasPlainLeaves (unless t l)
plain_unless true l h = h
plain_unless false l h = h

mutual
  pub plain_leaves : (u : Tree) → IsWritable u → HasPlainLeaves (layout u)
  plain_leaves (num q) w = decimal_plain (nat_abs q.num)
  plain_leaves (symbol x) w = names_plain x w
  plain_leaves undef w = tt
  plain_leaves (add ts) w = plain_sum ts w
  plain_leaves (mult ts) w = plain_product ts w
  plain_leaves (power b e) w = (plain_unless _ (layout b) (plain_leaves b w.0), (plain_leaves e w.1, tt))
  plain_leaves (root a) w = plain_leaves a w
  plain_leaves (neg a) w = (tt, (plain_unless _ (layout a) (plain_leaves a w), tt))
  plain_leaves (sub a b) w = (plain_unless _ (layout a) (plain_leaves a w.0), (tt, (plain_unless _ (layout b) (plain_leaves b w.1), tt)))
  plain_leaves (div a b) w = (plain_leaves a w.0, plain_leaves b w.1)

  plain_sum : (ts : Trees) → AreWritable ts → HavePlainLeaves (layout_of_sum ts)
  plain_sum none w = tt
  plain_sum (more t ts) w = (plain_unless _ (layout t) (plain_leaves t w.0), plain_terms ts w.1)

  plain_terms : (ts : Trees) → AreWritable ts → HavePlainLeaves (layout_of_terms ts)
  plain_terms none w = tt
  plain_terms (more t ts) w = (tt, (plain_unless _ (layout t) (plain_leaves t w.0), plain_terms ts w.1))

  plain_product : (ts : Trees) → AreWritable ts → HavePlainLeaves (layout_of_product ts)
  plain_product none w = tt
  plain_product (more t ts) w = (plain_unless _ (layout t) (plain_leaves t w.0), plain_factors ts w.1)

  plain_factors : (ts : Trees) → AreWritable ts → HavePlainLeaves (layout_of_factors ts)
  plain_factors none w = tt
  plain_factors (more t ts) w = (tt, (plain_unless _ (layout t) (plain_leaves t w.0), plain_factors ts w.1))

narrow_picture : (u : Tree) → IsWritable u → (y : ℕ) → AreNarrow ((picture (layout u)).line y)
narrow_picture u w y = (rows {P = ⊤} (layout u) (λ p. plain_leaves u w) y).narrow tt

pub picture_columns : (u : Tree) → IsWritable u → (y : ℕ) → TakeOneColumnEach ((picture (layout u)).line y)
picture_columns u w y = one_each _ (narrow_picture u w y)

pub row_columns : (u : Tree) → IsWritable u → (y : ℕ) → str_width false ((picture (layout u)).line y) ≡ (picture (layout u)).width
row_columns u w y =
    let cs = (picture (layout u)).line y in
    str_width-simple false cs (all_simple cs (narrow_picture u w y)) ∙ all_columns cs (narrow_picture u w y) ∙ lines_long (layout u) y

-- ---- blanks at the end

-- blanks are cut
pub cut_blanks : (n : ℕ) → cut (blanks n) ≡ []
cut_blanks zero = refl
cut_blanks (suc n) = ap (before_cut 32) (cut_blanks n)

pub cut-append_blanks : (xs : List ℕ) (n : ℕ) → cut (xs ++ blanks n) ≡ cut xs
cut-append_blanks [] n = cut_blanks n
cut-append_blanks (x ∷ xs) n = ap (before_cut x) (cut-append_blanks xs n)

black_head : (c : ℕ) → c ≢ 32 → before_cut c [] ≡ c ∷ []
black_head c h = grind arith

-- what ends with other characters keeps all of them
pub cut_black : (c : ℕ) (cs : List ℕ) → IsBlack (c ∷ cs) → cut (c ∷ cs) ≡ c ∷ cs
cut_black c [] h = black_head c h.0
cut_black c (d ∷ ds) h = ap (before_cut c) (cut_black d ds h.1)

pub cut_kept : (xs : List ℕ) (c : ℕ) (cs : List ℕ) → IsBlack (c ∷ cs) → cut (xs ++ (c ∷ cs)) ≡ xs ++ (c ∷ cs)
cut_kept [] c cs h = cut_black c cs h
cut_kept (x ∷ []) c cs h = ap (before_cut x) (cut_black c cs h)
cut_kept (x ∷ y ∷ xs) c cs h = ap (before_cut x) (cut_kept (y ∷ xs) c cs h)

before_short : (c : ℕ) (cs : List ℕ) → length (before_cut c cs) ≤ suc (length cs)
before_short c cs = grind arith

pub cut_short : (cs : List ℕ) → length (cut cs) ≤ length cs
cut_short [] = omega arith
cut_short (c ∷ cs) = omega (arith, before_short c (cut cs), cut_short cs)
