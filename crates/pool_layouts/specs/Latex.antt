-- The LaTeX text of a layout.
use Rattle.std.specs.Prelude.{ℕ, List, [], ◌++◌, Bool, ◌==◌, ◌&&◌, nat_lt, if◌then◌else◌, length, take, drop, nat_abs, codes}
use Rattle.std.specs.List.{list_all}
use Rattle.calc_language.specs.Texts.{decimal}
use Rattle.calc_terms.specs.Name.{is_digit}
use Rattle.pool_layouts.specs.Layouts.{Layout, number, name, plus, minus, times, row, fraction, raised, radical, paren, Layouts, nothing, beside}

-- one letter, and then digits alone
abbrev pub is_indexed : List ℕ → Bool
is_indexed x = nat_lt 1 (length x) && list_all is_digit (drop 1 x)

-- a name of one letter stands as it is, digits after a letter stand below it, and any other name is upright
abbrev pub latex_name : List ℕ → List ℕ
latex_name x = if length x == 1 then x else (if is_indexed x then take 1 x ++ (codes "_{" ++ (drop 1 x ++ codes "}")) else codes "\\mathrm{" ++ (x ++ codes "}"))

abbrev mutual
  pub latex : Layout → List ℕ
  latex (number q) = decimal (nat_abs q.num)
  latex (name x) = latex_name x
  latex plus = codes "+"
  latex minus = codes "-"
  latex times = codes " \\times "
  latex (row ls) = latexes ls
  latex (fraction a b) = codes "\\frac{" ++ (latex a ++ (codes "}{" ++ (latex b ++ codes "}")))
  latex (raised a) = codes "^{" ++ (latex a ++ codes "}")
  latex (radical a) = codes "\\sqrt{" ++ (latex a ++ codes "}")
  latex (paren a) = codes "\\left(" ++ (latex a ++ codes "\\right)")

  -- one layout after another
  pub latexes : Layouts → List ℕ
  latexes nothing = []
  latexes (beside l ls) = latex l ++ latexes ls
