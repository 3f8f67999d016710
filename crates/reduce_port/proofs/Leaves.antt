-- Trees of one node are their own answers.
use Rattle.reduce_port.proofs.Shared.{◌≡◌, ℕ, ◌≤◌, true, List, arith, bad_part, IsEasy, is_reduced, Fraction, Tree, num, symbol, undef, nodes, itself, plain_value, Evaluates, HasEasyBadPart}
use Rattle.reduce_port.proofs.Shared.{IsPlainAnswer, plain}
use Rattle.calc_terms.specs.declared.kind.Kind.TheVariants as kind

-- the tree may be answered by itself after one check
pub record IsOwnAnswer (t : Tree) : Type 0 where
  pub one : nodes t ≡ 1
  pub reduced : is_reduced t ≡ true
  pub easy : IsEasy t → Evaluates t t
  pub bad_part : HasEasyBadPart t → t ≡ undef
  pub plain : IsPlainAnswer (plain_value t) t

-- a number, a symbol or undef
data IsLeaf : Tree → Type 0 where
  number : (q : Fraction) → IsLeaf (num q)
  named : (x : List ℕ) → IsLeaf (symbol x)
  undefined : IsLeaf undef
