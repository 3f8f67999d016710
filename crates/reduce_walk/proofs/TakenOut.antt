-- A child of a root is taken out.
use Rattle.reduce_walk.proofs.Shared.{tree_put, payload_with, count_with, ◌≡◌, ℕ, refl, arith, Payload, Tree, Trees, more, append, count, cut_at, gives, other_root, other_tree, by_test, root_arity}
use Rattle.reduce_walk.proofs.Shared.{root-put, kids-put, Forest, empty, tree, arity, kids, root_payload, root_count, with_root_kids, tree_nth, without_nth, AllOnce, IsOwned, Represents, Ends, Gives}
use Rattle.reduce_walk.proofs.{Shared.{root_tree, put}, Parents.{IsParent}}
use Rattle.tree_handles.proofs.SmallLaws.{once_one as once_of}

-- it has other children
pub parent_put : {x : Payload} {i : ℕ} {ts us : Trees} {f : Forest} (n : Forest) → IsParent x i ts f → Represents n us → IsParent x i us (put i n f)
parent_put n h k = grind (arith, root-put, tree_put, payload_with, count_with, kids-put)

-- another tree comes
pub parent_end : {x : Payload} {i j : ℕ} {ts : Trees} {t f g : Forest} → IsParent x i ts g → Ends j t g f → IsParent x i ts f
parent_end h k = grind (arith, other_tree, other_root)

pub record IsTakenOut (x : Payload) (i : ℕ) (t : Tree) (others : Trees) (f new : Forest) (h : ℕ) : Type 0 where
  pub now : Forest
  pub kids : Represents now others
  pub gives : Gives (put i now f) new h (λ u. u ≡ t)
  pub parent : IsParent x i others (put i now f)

pub taken_out : {x : Payload} {i : ℕ} {f new : Forest} {h : ℕ} (n : ℕ) (ts : Trees) (t : Tree) (us : Trees) → IsParent x i (append ts (more t us)) f → n ≡ count ts
    → Ends h (tree_nth n (kids (root_tree i f))) (put i (without_nth n (kids (root_tree i f))) f) new → IsTakenOut x i t (append ts us) f new h
taken_out {i = i} {f = f} n ts t us o e d =
    let c = cut_at n ts t us (kids (root_tree i f)) e o.kids in
    let now = without_nth n (kids (root_tree i f)) in
    record { now = now; kids = c.rest; gives = gives d c.one refl; parent = parent_put now o c.rest }

pub parent_owned : {x : Payload} {i : ℕ} {ts : Trees} {f : Forest} → IsParent x i ts f → IsOwned i f
parent_owned {i = i} {f = f} h = record { root = h.root; once = once_of (root_tree i f) (root_arity i f h.root) h.count h.kids.once }
