-- The order of trees: by kind, then by value or by bytes, then child by child.
use Rattle.std.specs.{declared.cmp.Ordering.{Ordering}, declared.cmp.Ordering.TheVariants.{Less, Equal, Greater}, Ordering.{nat_cmp, ordering_then}, Cmp.Lexicographic.{slice_cmp}}
use Rattle.calc_terms.specs.{Fractions.{fraction_cmp}, Trees.{Tree, num, symbol, undef, add, mult, power, root, neg, sub, div, Trees, none, more, root_code}}

-- by the codes of their kinds
abbrev pub kind_cmp : Tree → Tree → Ordering
kind_cmp t u = nat_cmp (root_code t) (root_code u)

-- by kind; of one kind, rationals by value, symbols by their bytes, and other trees by their children
abbrev mutual
  pub tree_cmp : Tree → Tree → Ordering
  tree_cmp (num p) u = elim u [ num q ↦ fraction_cmp p q | w ↦ kind_cmp (num p) w ]
  tree_cmp (symbol x) u = elim u [ symbol y ↦ slice_cmp nat_cmp x y | w ↦ kind_cmp (symbol x) w ]
  tree_cmp undef u = kind_cmp undef u
  tree_cmp (add ts) u = elim u [ add us ↦ trees_cmp ts us | w ↦ kind_cmp (add ts) w ]
  tree_cmp (mult ts) u = elim u [ mult us ↦ trees_cmp ts us | w ↦ kind_cmp (mult ts) w ]
  tree_cmp (power a b) u = elim u [ power c d ↦ ordering_then (tree_cmp a c) (tree_cmp b d) | w ↦ kind_cmp (power a b) w ]
  tree_cmp (root a) u = elim u [ root c ↦ tree_cmp a c | w ↦ kind_cmp (root a) w ]
  tree_cmp (neg a) u = elim u [ neg c ↦ tree_cmp a c | w ↦ kind_cmp (neg a) w ]
  tree_cmp (sub a b) u = elim u [ sub c d ↦ ordering_then (tree_cmp a c) (tree_cmp b d) | w ↦ kind_cmp (sub a b) w ]
  tree_cmp (div a b) u = elim u [ div c d ↦ ordering_then (tree_cmp a c) (tree_cmp b d) | w ↦ kind_cmp (div a b) w ]

  -- from left to right, then fewer children first
  pub trees_cmp : Trees → Trees → Ordering
  trees_cmp none us = elim us [ none ↦ Equal | more u us' ↦ Less ]
  trees_cmp (more t ts) us = elim us [ none ↦ Greater | more u us' ↦ ordering_then (tree_cmp t u) (trees_cmp ts us') ]
