-- Sums and products as one thing, and differences and quotients as sums and products of two.
use Rattle.std.specs.Prelude.{ℕ, ℤ, pos, ◌+◌}
use Rattle.calc_terms.specs.{Fractions.{minus_one_fraction}, Trees.{Tree, num, power, neg, sub, div, Trees}, declared.kind.Kind.{Kind}}
use Rattle.deep_reduce.specs.declared.connective.Connective.{Connective}
use Rattle.node_bounds.specs.NodeRooms.{factors_room}
use Rattle.tree_handles.specs.Expressions.{compound}
use Rattle.tree_room.specs.{Handed.{sum_count}, Needs.{sum_room, product_room, product_power_room}}
use Rattle.calc_terms.specs.declared.kind.Kind.TheVariants as kind
use Rattle.deep_reduce.specs.declared.connective.Connective.TheVariants as connective

abbrev pub kind_of : Connective → Kind
kind_of connective.Sum = kind.Add
kind_of connective.Product = kind.Mult

abbrev pub neutral_of : Connective → ℤ
neutral_of connective.Sum = pos 0
neutral_of connective.Product = pos 1

-- the sum or the product of these
abbrev pub joined_by : Connective → Trees → Tree
joined_by k ts = compound (kind_of k) ts

-- the difference or the quotient of two
abbrev pub of_sides : Connective → Tree → Tree → Tree
of_sides connective.Sum a b = sub a b
of_sides connective.Product a b = div a b

-- as the sum or the product of the left side with this: the opposite of the right one, or its inverse
abbrev pub turned : Connective → Tree → Tree
turned connective.Sum b = neg b
turned connective.Product b = power b (num minus_one_fraction)

-- bytes that suffice for a sum or a product, where m products of radicands may be chosen
abbrev pub joined_room : Connective → Trees → ℕ → ℕ
joined_room connective.Sum ts m = sum_room (sum_count ts) m
joined_room connective.Product ts m = factors_room ts m

-- and for the opposite or the inverse of what counts c
abbrev pub turned_room : Connective → ℕ → ℕ → ℕ
turned_room connective.Sum c m = product_room (2 + c) m
turned_room connective.Product c m = product_power_room c m
