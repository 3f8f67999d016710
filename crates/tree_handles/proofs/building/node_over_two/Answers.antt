use Rattle.tree_handles.proofs.Shared.{◌≡◌, ℕ, List, ap, refl, Ends, Err, Forest, Full, IfErr, IfOk, IsRefused, KeepsFront, Result, State, bare, forest, last_trees, one_tree}
use Rattle.tree_handles.proofs.{Outcomes.if_map, Fronts.{behind_first, behind_later, front_same, front_at, front_end, front_without}}
use Rattle.tree_handles.proofs.Given.{represents_none, represents_handed, represents_join, represents_with, represents_node, gives, gives_as, handed_beside}
use Rattle.tree_handles.proofs.{Lasts.{ends_as, last_held, last_apart, other_root}, Roots.{tree-without, without-swap}}
use Rattle.std.specs.Prelude.{Ok}
use Rattle.node_pool.proofs.Ids.{eqb_sym as eqb-sym}
use Rattle.tree_handles.proofs.building.node_over_two.Goals as goal

pub add_child-requires-clause-live : goal.add_child-requires-clause-live
add_child-requires-clause-live c = last_held c.in_ok-pair.ensures.ok

pub add_child-requires-clause-root : goal.add_child-requires-clause-root
add_child-requires-clause-root c = other_root c.args.right c.in_ok-pair.ensures.ok c.requires.second.root

pub add_child-requires-clause-apart : goal.add_child-requires-clause-apart
add_child-requires-clause-apart c = last_apart c.args.right c.in_ok-pair.ensures.stands c.in_ok-pair.ensures.ok c.requires.second.root

pub add_child-requires-2-clause-root : goal.add_child-requires-2-clause-root
add_child-requires-2-clause-root c =
    other_root c.args.left (c.add_child.ensures.last _ _ c.in_ok-pair.ensures.ok c.requires.second.root) (handed_beside c.args.right (eqb-sym c.args.left c.args.right c.requires.apart) c.requires.first).root

pub add_child-requires-2-clause-apart : goal.add_child-requires-2-clause-apart
add_child-requires-2-clause-apart c =
    last_apart c.args.left c.add_child.ensures.stands (c.add_child.ensures.last _ _ c.in_ok-pair.ensures.ok c.requires.second.root) (handed_beside c.args.right (eqb-sym c.args.left c.args.right c.requires.apart) c.requires.first).root

pub returns-clause-ok : goal.returns-clause-ok
returns-clause-ok c =
    let turned = eqb-sym c.args.left c.args.right c.requires.apart in
    let one = c.add_child.ensures.last _ _ c.in_ok-pair.ensures.ok c.requires.second.root in
    let beside = handed_beside c.args.right turned c.requires.first in
    let two = c.add_child-2.ensures.last _ _ one beside.root in
    gives_as
    (gives two (represents_node c.in_ok-pair.pair (bare c.args.kind) (represents_with 0 (represents_handed beside) (represents_with 0 (represents_handed c.requires.second) represents_none)) c.requires.takes)
    (rw (tree-without c.args.right c.args.left (forest c.args.pool.now) turned) refl))
    (without-swap c.args.left c.args.right (forest c.args.pool.now) c.requires.apart) (λ t e. e)

pub returns-clause-front : goal.returns-clause-front
returns-clause-front c =
    let one = c.add_child.ensures.last _ _ c.in_ok-pair.ensures.ok c.requires.second.root in
    let two = c.add_child-2.ensures.last _ _ one (handed_beside c.args.right (eqb-sym c.args.left c.args.right c.requires.apart) c.requires.first).root in
    front_end two (front_without behind_first (front_without (behind_later behind_first) front_same))

-- ---- where both stand last

pub returns-in-Some-clause-ok : goal.returns-in-Some-clause-ok
returns-in-Some-clause-ok c = if_map c.node_over_last.result _ _ c.node_over_last.ensures.ok (λ h e.
    gives_as
    (gives (ends_as e (ap (one_tree h (bare c.args.kind)) c.in-Some.ensures.trees) c.in-Some.ensures.others)
    (represents_node h (bare c.args.kind) (represents_join (represents_handed c.requires.first) (represents_handed c.requires.second)) c.requires.takes) refl)
    (without-swap c.args.left c.args.right (forest c.args.pool.now) c.requires.apart) (λ t e. e))

-- what stood first, whatever the answer is
kept : (n : ℕ) (s t : State) {handed : List ℕ} {f g : Forest} (r : Result ℕ Full) (T : ℕ → Forest) → IfOk r (λ h. Ends h (T h) f (forest t)) → f ≡ g → IfErr r (IsRefused n s t) → KeepsFront handed (forest s) g → KeepsFront handed (forest s) (forest t)
kept n s t (Ok h) T e q r k = front_end (ends_as e refl q) k
kept n s t (Err x) T e q r k = front_at front_same r.same

pub returns-in-Some-clause-front : goal.returns-in-Some-clause-front
returns-in-Some-clause-front c =
    kept _ c.args.pool.now c.node_over_last.new.pool c.node_over_last.result (λ h. one_tree h (bare c.args.kind) (last_trees 2 (forest c.args.pool.now))) c.node_over_last.ensures.ok c.in-Some.ensures.others c.node_over_last.ensures.full
    (front_without behind_first (front_without (behind_later behind_first) front_same))
