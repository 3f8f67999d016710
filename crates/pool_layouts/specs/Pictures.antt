-- Pictures of layouts: blocks of rows of characters, each one column wide.
use Rattle.std.specs.Prelude.{ℕ, ◌+◌, ◌-◌, ◌/◌, max, List, [], ◌∷◌, ◌++◌, length, replicate, nat_abs, codes, ◌&&◌, nat_le, nat_lt, ◌==◌, if◌then◌else◌, Option, Some, None}
use Rattle.calc_language.specs.Texts.{decimal}
use Rattle.pool_layouts.specs.Layouts.{Layout, number, name, plus, minus, times, row, fraction, raised, radical, paren, Layouts, nothing, beside}

-- how many columns wide, how many rows above its base row and how many below, and the characters of each row, from 0 at the top
pub record Block : Type 0 where
  pub width : ℕ
  pub above : ℕ
  pub below : ℕ
  pub line : ℕ → List ℕ

abbrev pub height : Block → ℕ
height b = b.above + 1 + b.below

-- ---- rows of one character

abbrev pub blanks : ℕ → List ℕ
blanks n = replicate n 32

abbrev pub bar : ℕ → List ℕ
bar n = replicate n 45

abbrev pub roof : ℕ → List ℕ
roof n = replicate n 95

abbrev pub root_character : ℕ
root_character = 0x221A

abbrev pub times_character : ℕ
times_character = 0xD7

-- ---- blocks

-- one row of characters
abbrev pub one_line : List ℕ → Block
one_line cs = record { width = length cs; above = 0; below = 0; line = λ y. cs }

-- the row, of a block so high with so many rows above its base, that is level with row y of one with other rows above its base
abbrev pub level : ℕ → ℕ → ℕ → ℕ → Option ℕ
level above y own_above own_height = if nat_le above (y + own_above) && nat_lt (y + own_above - above) own_height then Some (y + own_above - above) else None

abbrev pub line_or_blanks : Block → Option ℕ → List ℕ
line_or_blanks b (Some y) = b.line y
line_or_blanks b None = blanks b.width

-- what a block shows in row y of a picture with so many rows above its base
abbrev pub level_line : ℕ → ℕ → Block → List ℕ
level_line above y b = line_or_blanks b (level above y b.above (height b))

abbrev pub widths : List Block → ℕ
widths [] = 0
widths (b ∷ bs) = b.width + widths bs

abbrev pub most_above : List Block → ℕ
most_above [] = 0
most_above (b ∷ bs) = max b.above (most_above bs)

abbrev pub most_below : List Block → ℕ
most_below [] = 0
most_below (b ∷ bs) = max b.below (most_below bs)

abbrev pub level_lines : ℕ → ℕ → List Block → List ℕ
level_lines above y [] = []
level_lines above y (b ∷ bs) = level_line above y b ++ level_lines above y bs

-- blocks side by side, their base rows level
abbrev pub side_by_side : List Block → Block
side_by_side bs = record { width = widths bs; above = most_above bs; below = most_below bs; line = λ y. level_lines (most_above bs) y bs }

-- in the middle of so many columns, the floor of half of what is left over on its left
abbrev pub centred : ℕ → Block → ℕ → List ℕ
centred w b y = blanks ((w - b.width) / 2) ++ (b.line y ++ blanks (w - b.width - (w - b.width) / 2))

-- one above the other with a bar between, which is the base row
abbrev pub stacked : Block → Block → Block
stacked a b =
    let w = max a.width b.width in
    record {
      width = w;
      above = height a;
      below = height b;
      line = λ y. if nat_lt y (height a) then centred w a y else (if y == height a then bar w else centred w b (y - height a - 1));
    }

-- above a blank row, which is the base row
abbrev pub lifted : Block → Block
lifted a = record { width = a.width; above = height a; below = 0; line = λ y. if nat_lt y (height a) then a.line y else blanks a.width }

-- the root sign before the base row, and a roof over the block
abbrev pub under_root : Block → Block
under_root a = record {
  width = 1 + a.width;
  above = a.above + 1;
  below = a.below;
  line = λ y. if y == 0 then 32 ∷ roof a.width else (if y == a.above + 1 then root_character else 32) ∷ a.line (y - 1);
}

-- parentheses on either side of each row
abbrev pub between_parens : Block → Block
between_parens a = record { width = a.width + 2; above = a.above; below = a.below; line = λ y. codes "(" ++ (a.line y ++ codes ")") }

-- ---- the picture of a layout

abbrev mutual
  pub picture : Layout → Block
  picture (number q) = one_line (decimal (nat_abs q.num))
  picture (name x) = one_line x
  picture plus = one_line (codes "+")
  picture minus = one_line (codes "-")
  picture times = one_line (times_character ∷ [])
  picture (row ls) = side_by_side (pictures ls)
  picture (fraction a b) = stacked (picture a) (picture b)
  picture (raised a) = lifted (picture a)
  picture (radical a) = under_root (picture a)
  picture (paren a) = between_parens (picture a)

  pub pictures : Layouts → List Block
  pictures nothing = []
  pictures (beside l ls) = picture l ∷ pictures ls

-- ---- rows as they are written

-- a character before others, unless it and they are blanks
abbrev pub before_cut : ℕ → List ℕ → List ℕ
before_cut c [] = if c == 32 then [] else c ∷ []
before_cut c (d ∷ ds) = c ∷ d ∷ ds

-- without the blanks at the end
abbrev pub cut : List ℕ → List ℕ
cut [] = []
cut (c ∷ cs) = before_cut c (cut cs)
