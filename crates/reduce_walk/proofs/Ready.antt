-- A node over the answers of its children, before its own step.
use Rattle.reduce_walk.proofs.Shared.{◌≡◌, ℕ, List, true, sym, ap, ◌∙◌, subst, Payload, Tree, count, AreAnswers, IsOver, children_of-plain, children_of, grown, plain, takes, Forest, IsHanded}
use Rattle.reduce_walk.proofs.{Shared.{root_tree}, Parents.{held_at, handed_node, parent_is_handed}, Walks.{AllWalked, answers_count}}
use Rattle.breakers.specs.State.{State as BreakerState}

pub record IsReady (A : Tree → Tree → Type 0) (i : ℕ) (old new : Forest) : Type 0 where
  pub handed : IsHanded i new
  pub over : IsOver A (plain (root_tree i old)) (plain (root_tree i new))

pub walked_ready : {A : Tree → Tree → Type 0} {i : ℕ} {old new : Forest} {before after : List BreakerState} → IsHanded i old → AllWalked A i old new before after → IsReady A i old new
walked_ready {A = A} {i = i} {old = old} {new = new} h w =
    let x = held_at i old in
    let node = handed_node h in
    let right : takes x (count w.answers) ≡ true = ap (takes x) (sym (answers_count A (children_of (plain (root_tree i old))) w.answers w.become)) ∙ node.takes in
    let handed = parent_is_handed w.parent right in
    let are : children_of (plain (root_tree i new)) ≡ w.answers = children_of-plain (root_tree i new) handed.whole ∙ w.parent.kids.plain_trees in
    record {
      handed = handed;
      over = record {
        holds = x;
        takes = node.takes;
        whole = node.grown;
        node = (handed_node handed).grown ∙ ap (λ (y : Payload). grown y (children_of (plain (root_tree i new)))) w.parent.payload;
        children = subst (AreAnswers A (children_of (plain (root_tree i old)))) (sym are) w.become;
      };
    }
