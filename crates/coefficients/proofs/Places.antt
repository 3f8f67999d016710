-- The children of a root, and the roots that a call takes them to.
use Rattle.coefficients.proofs.{Shared.{◌≡◌, ℕ, ◌≤◌, arith, true, is_reduced, is_mult, plain, IsExpression, Forest, arity, tree_at, kids_of, children_number}, Lengths.{long}}

-- ---- reading

-- a reduced product has two children or more
pub two_children : (i : ℕ) (f : Forest) → IsExpression i f → is_mult (plain (tree_at i f)) ≡ true → is_reduced (plain (tree_at i f)) ≡ true → 2 ≤ arity (kids_of i f)
two_children i f e m h = omega (arith, children_number i f e, (long (plain (tree_at i f)) m h).two)
