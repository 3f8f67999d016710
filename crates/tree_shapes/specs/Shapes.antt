-- The trees that shapes are.
use Rattle.std.specs.Prelude.{ℕ, List, codes, if◌then◌else◌, pos, neg_ℤ}
use Rattle.calc_terms.specs.{declared.kind.Kind.{Kind}, declared.kind.Kind.TheVariants.{Add, Sub, Mult, Div, Pow, Neg, Root as RootKind}, Fractions.{whole_fraction}, Name.{is_name}}
use Rattle.calc_terms.specs.Trees.{Tree, num, symbol, undef, more, none}
use Rattle.tree_handles.specs.Expressions.{compound}
use Rattle.tree_shapes.specs.{declared.shapes.Pair.{Pair}, declared.shapes.Pair.TheVariants.{Sum, Difference, Product, Quotient, Power}, declared.shapes.Single.{Single}}
use Rattle.tree_shapes.specs.{declared.shapes.Single.TheVariants.{Opposite, Root}, declared.shapes.Shape.{Shape, Name, Number, Negative, Undef, Two', One'}}

abbrev pub kind_of_pair : Pair → Kind
kind_of_pair Sum = Add
kind_of_pair Difference = Sub
kind_of_pair Product = Mult
kind_of_pair Quotient = Div
kind_of_pair Power = Pow

abbrev pub kind_of_single : Single → Kind
kind_of_single Opposite = Neg
kind_of_single Root = RootKind

-- the name that these bytes are, and that of the last answer where they are none
abbrev pub name_or_ans : List ℕ → List ℕ
name_or_ans bytes = if is_name bytes then bytes else codes "ans"

-- a node for each of the shape, over the trees of its children
abbrev pub tree_of : Shape → Tree
tree_of (Name bytes) = symbol (name_or_ans bytes.now)
tree_of (Number n) = num (whole_fraction (pos n))
tree_of (Negative n) = num (whole_fraction (neg_ℤ (pos n)))
tree_of Undef = undef
tree_of (Two' pair p left q right) = compound (kind_of_pair pair) (more (tree_of left) (more (tree_of right) none))
tree_of (One' single p child) = compound (kind_of_single single) (more (tree_of child) none)
