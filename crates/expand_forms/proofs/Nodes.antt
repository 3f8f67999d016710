-- A node is a polynomial by its root and its children.
use Rattle.expand_forms.proofs.Shared.{◌≡◌, ◌<◌, ◌≤◌, ℕ, zero, suc, true, false, refl, ap, arith, ◌&&◌, Tree, Trees, none, more, count, nodes, are_polynomials, has_polynomial_root}
use Rattle.expand_forms.proofs.Shared.{is_polynomial, nth, children_of}
use Rattle.tree_handles.proofs.{SmallLaws.{nodes_nth as at_most_all}, Plains.{nodes_grown as below}}

-- the trees from a place on, counted from 0
abbrev pub from : ℕ → Trees → Trees
from zero ts = ts
from (suc n) none = none
from (suc n) (more t ts) = from n ts

-- ---- what the root and the children say of the tree

pub by_children : (t : Tree) → has_polynomial_root t ≡ true → are_polynomials (children_of t) ≡ is_polynomial t
by_children t h = grind arith

pub by_root : (t : Tree) → has_polynomial_root t ≡ false → is_polynomial t ≡ false
by_root t h = grind arith

-- ---- a loop over the children

pub next_is : (n : ℕ) (ts : Trees) → n < count ts → is_polynomial (nth n ts) ≡ true → are_polynomials (from n ts) ≡ are_polynomials (from (suc n) ts)
next_is n none l h = absurd (omega arith)
next_is zero (more t ts) l h = ap (λ x. x && are_polynomials ts) h
next_is (suc n) (more t ts) l h = next_is n ts (omega arith) h

pub next_is_not : (n : ℕ) (ts : Trees) → n < count ts → is_polynomial (nth n ts) ≡ false → are_polynomials (from n ts) ≡ false
next_is_not n none l h = absurd (omega arith)
next_is_not zero (more t ts) l h = ap (λ x. x && are_polynomials ts) h
next_is_not (suc n) (more t ts) l h = next_is_not n ts (omega arith) h

pub none_left : (n : ℕ) (ts : Trees) → count ts ≤ n → are_polynomials (from n ts) ≡ true
none_left zero none l = refl
none_left (suc n) none l = refl
none_left zero (more t ts) l = absurd (omega arith)
none_left (suc n) (more t ts) l = none_left n ts (omega arith)

-- ---- a child has fewer nodes

pub fewer_nodes : (n : ℕ) (t : Tree) → n < count (children_of t) → nodes (nth n (children_of t)) < nodes t
fewer_nodes n t l = omega (arith, below t, at_most_all n (children_of t) l)
