-- Lemmas on what the derivative of a tree comes to.
use Rattle.std.proofs.Common.{◌≡◌, ℕ, ◌+◌, ◌≤◌, ◌<◌, List, [], ◌∷◌, Option, None, subst, arith}
use Rattle.calc_session.proofs.Shared.{IsWritable, Tree, size, HasDerivative, derivative, free_of, Forest, tree_of, Gives, KeepsFront, without_root, Stands, forest, behind_first, behind_new}
use Rattle.calc_session.proofs.Shared.{front_after_one, front_at, front_end, front_same, front_without, given_rest, given_told, Evaluation, ComesTo, IsDisplayOf}
use Rattle.calc_session.proofs.{Shared.{IsReplyToDerivative, IsReduction, reported}, EvaluationLemmas.{comes_as, free_same}}
use Rattle.breakers.specs.State.{State as Breaker}
use Rattle.node_pool.specs.State.{State}
use Rattle.calc_session.specs.Deriving.{is_reduced}

pub over : (a b : ℕ) → (a ≤ b → ⊥) → b < a
over a b h = grind arith

-- ---- the derivative in the place of its tree

pub front_beside : {old mid new end : Forest} {i d : ℕ} {P : Tree → Type 0} → Gives old mid d P → new ≡ without_root i mid → KeepsFront (d ∷ []) new end → KeepsFront (i ∷ []) old end
front_beside g e k = front_after_one (behind_new g.ends front_same) (front_at (front_without behind_first (front_end g.ends front_same)) e) k

module _ (room bits : Option (Tree → ℕ)) (before after : List Breaker) (x : List ℕ) where
  pub comes_reduced : (old mid : State) (new : Forest) {i d : ℕ} {P : Tree → Type 0} (result : Evaluation) → Stands old → Stands mid → mid.size ≡ old.size → Gives (without_root i (forest old)) (forest old) i P
      → (g : Gives (without_root i (forest old)) (forest mid) d (λ t. t ≡ derivative x (tree_of i old))) → HasDerivative x (tree_of i old) → size (derivative x (tree_of i old)) ≤ free_of old
      → ComesTo (IsReduction room bits (free_of mid + size (tree_of d mid)) (tree_of d mid) before after None) (IsDisplayOf None (tree_of d mid)) None (without_root d (forest mid)) new result
      → ComesTo (λ r. IsReplyToDerivative room bits (free_of old + size (tree_of i old)) before after x (free_of old) (tree_of i old) (reported r)) IsWritable None (without_root i (forest old)) new result
  comes_reduced old mid new {i} {d} result st st' e g k derivable fits h =
      comes_as {Now = λ r. IsReplyToDerivative room bits (free_of old + size (tree_of i old)) before after x (free_of old) (tree_of i old) (reported r)} None new result
      (λ r m. is_reduced derivable fits
      (subst (λ n. IsReduction room bits n (derivative x (tree_of i old)) before after None r) (free_same st st' e g k)
      (subst (λ t. IsReduction room bits (free_of mid + size (tree_of d mid)) t before after None r) (given_told k) m)))
      (λ u w. w.writable) (given_rest k) h
