-- Trees of the worked examples.
use Rattle.std.specs.Prelude.{ℕ, ℤ, codes}
use Rattle.calc_terms.specs.{Fractions.{lowest}, Trees.{Tree, num, symbol, add, mult, root, div, Trees, none, more, whole_num}}

abbrev pub x : Tree
x = symbol (codes "x")

abbrev pub y : Tree
y = symbol (codes "y")

abbrev pub z : Tree
z = symbol (codes "z")

-- p/q as one Num
abbrev pub ratio : ℤ → ℕ → Tree
ratio p q = num (lowest p q)

-- √(r)
abbrev pub root_of : ℕ → Tree
root_of r = root (whole_num r)

abbrev pub two : Tree → Tree → Trees
two s t = more s (more t none)

abbrev pub three : Tree → Tree → Tree → Trees
three s t u = more s (two t u)

abbrev pub sum : Tree → Tree → Tree
sum s t = add (two s t)

abbrev pub product : Tree → Tree → Tree
product s t = mult (two s t)

-- 1/3+1/6
abbrev pub third_and_sixth : Tree
third_and_sixth = sum (div (whole_num 1) (whole_num 3)) (div (whole_num 1) (whole_num 6))

-- 1/(√(2)+√(3))
abbrev pub one_over_two_roots : Tree
one_over_two_roots = div (whole_num 1) (sum (root_of 2) (root_of 3))
