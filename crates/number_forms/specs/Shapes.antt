-- The shapes of terms.
use Rattle.std.specs.Prelude.{Bool, true, false, ◌≡◌, ◌==◌, ◌&&◌, pos, if◌then◌else◌, List, [], ◌∷◌, drop}
use Rattle.calc_terms.specs.{Fractions.{is_one_fraction, whole_fraction}, Rat.{value_of}, Trees.{Tree, num, add, mult, root, none, more}, declared.kind.Kind.{Kind}}
use Rattle.calc_algebra.specs.Surds.{Term}
use Rattle.calc_terms.specs.declared.kind.Kind.TheVariants as kind
use Rattle.tree_handles.specs.declared.visits.Visit.{Visit}
use Rattle.number_forms.specs.declared.shape.Shape.{Shape}
use Rattle.number_forms.specs.declared.shape.Shape.TheVariants as shape

-- a rational, the root of one, or a rational times the root of one
abbrev pub has_term_shape : Tree → Bool
has_term_shape (num q) = true
has_term_shape (root (num r)) = true
has_term_shape (mult (more (num q) (more (root (num r)) none))) = true
has_term_shape _ = false

-- the tree has the shape, with these rationals
abbrev pub IsShape : Shape → Tree → Type 0
IsShape (shape.Rational q) t = t ≡ num (value_of q)
IsShape (shape.Root r) t = t ≡ root (num (value_of r))
IsShape (shape.Multiple q r) t = t ≡ mult (more (num (value_of q)) (more (root (num (value_of r))) none))
IsShape shape.Other t = has_term_shape t ≡ false

-- the root of a rational
abbrev pub is_root_of_num : Tree → Bool
is_root_of_num (root (num r)) = true
is_root_of_num _ = false

-- the tree of a term: a rational, a root, or a rational other than 1 times a root
abbrev pub term_tree : Term → Tree
term_tree t =
    if t.radicand == 1 then num t.coefficient
    else if is_one_fraction t.coefficient then root (num (whole_fraction (pos t.radicand)))
    else mult (more (num t.coefficient) (more (root (num (whole_fraction (pos t.radicand)))) none))

-- the tree of the sum of two terms
abbrev pub sum_of_terms : Term → Term → Tree
sum_of_terms s t = add (more (term_tree s) (more (term_tree t) none))

-- the kind of the first of some nodes, and Undef where there is none
abbrev pub first_kind : List Visit → Kind
first_kind [] = kind.Undef
first_kind (v ∷ vs) = v.kind

-- the kind of a number, and that of a root
abbrev pub is_num_kind : Kind → Bool
is_num_kind kind.Num = true
is_num_kind _ = false

abbrev pub is_root_kind : Kind → Bool
is_root_kind kind.Root = true
is_root_kind _ = false

-- a number comes next
abbrev pub is_number_next : List Visit → Bool
is_number_next vs = is_num_kind (first_kind vs)

-- a number, a root and a number come next
abbrev pub is_multiple_next : List Visit → Bool
is_multiple_next vs = is_num_kind (first_kind vs) && (is_root_kind (first_kind (drop 1 vs)) && is_number_next (drop 1 (drop 1 vs)))
