-- A rational, neither 0 nor 1, times a term or a sum.
use Rattle.std.specs.Prelude.{Bool, false, if◌then◌else◌}
use Rattle.calc_terms.specs.{Fractions.{Fraction, times, is_one_fraction}, Trees.{Tree, num, add, mult, Trees, none, more}}
use Rattle.calc_algebra.specs.{Numbers.{is_number}, Reduced.{product_tree}}

-- each of the trees in another form
abbrev pub mapped : (Tree → Tree) → Trees → Trees
mapped f none = none
mapped f (more t ts) = more (f t) (mapped f ts)

-- into the rational that leads the factors, or before them
abbrev pub rational_times_factors : Fraction → Trees → Tree
rational_times_factors q (more (num c) ts) = if is_one_fraction (times q c) then product_tree ts else mult (more (num (times q c)) ts)
rational_times_factors q ts = mult (more (num q) ts)

-- into the rational that leads a term
abbrev pub rational_times : Fraction → Tree → Tree
rational_times q (num c) = num (times q c)
rational_times q (mult ts) = rational_times_factors q ts
rational_times q t = mult (more (num q) (more t none))

-- into each term of a Number of two classes or more
abbrev pub rational_times_number : Fraction → Trees → Tree
rational_times_number q ts = add (mapped (rational_times q) ts)

-- into the coefficient of a term
abbrev pub rational_times_term : Fraction → Tree → Tree
rational_times_term q (mult (more (add us) ts)) = if is_number (add us) then mult (more (rational_times_number q us) ts) else mult (more (num q) (more (add us) ts))
rational_times_term q t = rational_times q t

-- a coefficient of two classes or more stands in front
abbrev pub leads_sum : Tree → Bool
leads_sum (mult (more (add us) ts)) = is_number (add us)
leads_sum t = false

-- into each term of a sum
abbrev pub rational_times_sum : Fraction → Trees → Tree
rational_times_sum q ts = add (mapped (rational_times_term q) ts)
