-- The serial text of a layout: one line, with parentheses round whatever does not stand side by side.
use Rattle.std.specs.Prelude.{ℕ, List, [], ◌++◌, nat_abs, codes}
use Rattle.calc_language.specs.{Texts.{decimal}, Tokens.{times_sign, root_sign}}
use Rattle.pool_layouts.specs.Layouts.{Layout, number, name, plus, minus, times, row, fraction, raised, radical, paren, Layouts, nothing, beside}

abbrev mutual
  pub serial : Layout → List ℕ
  serial (number q) = decimal (nat_abs q.num)
  serial (name x) = x
  serial plus = codes "+"
  serial minus = codes "-"
  serial times = times_sign
  serial (row ls) = serials ls
  serial (fraction a b) = codes "((" ++ (serial a ++ (codes ")/(" ++ (serial b ++ codes "))")))
  serial (raised a) = codes "^(" ++ (serial a ++ codes ")")
  serial (radical a) = (root_sign ++ codes "(") ++ (serial a ++ codes ")")
  serial (paren a) = codes "(" ++ (serial a ++ codes ")")

  -- one layout behind the other
  pub serials : Layouts → List ℕ
  serials nothing = []
  serials (beside l ls) = serial l ++ serials ls
