-- A tree in the place of a name.
use Rattle.std.specs.{Prelude.{ℕ, zero, suc, ◌+◌, ◌-◌, List, nat_le, if◌then◌else◌, Result, Ok, Err}, List.{count_by}, Str.{bytes_eq}}
use Rattle.calc_terms.specs.Trees.{Tree, num, symbol, undef, add, mult, power, root, neg, sub, div, Trees, none, more, names}
use Rattle.node_pool.specs.declared.full.Full.{Full}

-- each leaf of the name becomes the other tree
abbrev mutual
  pub replaced : List ℕ → Tree → Tree → Tree
  replaced x u (num q) = num q
  replaced x u (symbol y) = if bytes_eq y x then u else symbol y
  replaced x u undef = undef
  replaced x u (add ts) = add (replaced_in x u ts)
  replaced x u (mult ts) = mult (replaced_in x u ts)
  replaced x u (power b e) = power (replaced x u b) (replaced x u e)
  replaced x u (root a) = root (replaced x u a)
  replaced x u (neg a) = neg (replaced x u a)
  replaced x u (sub a b) = sub (replaced x u a) (replaced x u b)
  replaced x u (div a b) = div (replaced x u a) (replaced x u b)

  pub replaced_in : List ℕ → Tree → Trees → Trees
  replaced_in x u none = none
  replaced_in x u (more t ts) = more (replaced x u t) (replaced_in x u ts)

-- how many leaves of the name there are
abbrev pub occurrences : List ℕ → Tree → ℕ
occurrences x t = count_by (λ y. bytes_eq y x) (names t)

-- Copies are placed one after the other, and after each of them a leaf goes: the bytes that are free then, or, at the first
-- copy that needs more than is free, what it needs and what is free.
abbrev pub replacing : (free copies copy leaf : ℕ) → Result ℕ Full
replacing free zero copy leaf = Ok free
replacing free (suc n) copy leaf = if nat_le copy free then replacing (free - copy + leaf) n copy leaf else Err (record { needed = copy; free = free })
