-- Trees as factors, and their products.
use Rattle.std.specs.Prelude.{List, map, if◌then◌else◌}
use Rattle.calc_algebra.specs.{Numbers.{is_number, value}, Surds.{Surd, surd_of, surd_one, surd_times}}
use Rattle.calc_terms.specs.{Fractions.{minus_one_fraction}, Trees.{Tree, Trees, none, more, append}}
use Rattle.tree_bits.specs.HeldTrees.{Addend, addend, addend_of}

-- a Number is a coefficient alone, a product is taken apart, and any other tree is one factor
abbrev pub as_factor : Tree → Addend
as_factor t = if is_number t then addend (value t) none else addend_of t

abbrev pub multiplied : Addend → Addend → Addend
multiplied x y = addend (surd_times x.coefficient y.coefficient) (append x.factors y.factors)

-- the product of the trees
abbrev pub product_of : Trees → Addend
product_of none = addend surd_one none
product_of (more t ts) = multiplied (as_factor t) (product_of ts)

-- c times each addend
abbrev pub distributed : Surd → List Addend → List Addend
distributed c xs = map (λ (x : Addend). addend (surd_times c x.coefficient) x.factors) xs

abbrev pub surd_minus_one : Surd
surd_minus_one = surd_of minus_one_fraction
