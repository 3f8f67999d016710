-- A root with its children, whatever it holds: a child is taken out.
use Rattle.deep_reduce.proofs.Shared.{◌≡◌, ℕ, [], ◌∷◌, refl, ap, ◌∙◌, subst, arith, gives_without, Payload, Tree, Trees, none, more, count, represents_count, without_put, GivesSides, State, IsParent}
use Rattle.deep_reduce.proofs.Shared.{held_at, parent_handed, behind_first, front_same, front_put, front_end, gives_as, ends_at, kids_of_root, nth, plain, children_of, Forest, arity, kids, tree_nth}
use Rattle.deep_reduce.proofs.Shared.{without_nth, IsOwned, IsHanded, Ends, Gives, KeepsFront, kids_of, root_tree, without_root, put, Stands, forest, parent_end, IsTakenOut, taken_out, parent_owned}

-- how many children a reader finds
pub parent_children : {s : State} {x : Payload} {i : ℕ} {ts : Trees} → Stands s → IsParent x i ts (forest s) → arity (kids_of i (forest s)) ≡ count ts
parent_children {i = i} st h = ap arity (kids_of_root i st h.root) ∙ represents_count h.kids

-- ---- a parent that goes

-- the first child of two, and then the other, before the parent goes
pub record AreTakenOut (i : ℕ) (ts : Trees) (old new : Forest) (left right : ℕ) : Type 0 where
  pub owned : IsOwned i new
  pub sides : GivesSides ts (without_root i old) (without_root i new) left right
  pub front : KeepsFront (i ∷ []) old new

two_of : (ts : Trees) → count ts ≡ 2 → ts ≡ more (nth 0 ts) (more (nth 1 ts) none)
two_of (more t (more u none)) e = refl
two_of t e = absurd (omega arith)

pub first_out : {i h : ℕ} {old mid : Forest} → IsHanded i old → count (children_of (plain (root_tree i old))) ≡ 2
    → Ends h (tree_nth 0 (kids (root_tree i old))) (put i (without_nth 0 (kids (root_tree i old))) old) mid
    → IsTakenOut (held_at i old) i (nth 0 (children_of (plain (root_tree i old)))) (more (nth 1 (children_of (plain (root_tree i old)))) none) old mid h
first_out {i = i} {old = old} h e d =
    let ts = children_of (plain (root_tree i old)) in
    taken_out 0 none (nth 0 ts) (more (nth 1 ts) none) (subst (λ (us : Trees). IsParent (held_at i old) i us old) (two_of ts e) (parent_handed h)) refl d

pub both_out : {i h k : ℕ} {t u : Tree} {x : Payload} {old mid new : Forest} (a : IsTakenOut x i t (more u none) old mid h)
    → Ends k (tree_nth 0 (kids (root_tree i mid))) (put i (without_nth 0 (kids (root_tree i mid))) mid) new
    → (ts : Trees) → t ≡ nth 0 ts → u ≡ nth 1 ts → AreTakenOut i ts old new h k
both_out {i = i} {u = u} {old = old} {mid = mid} a d ts p q =
    let b = taken_out 0 none u none (parent_end a.parent a.gives.ends) refl d in
    record {
      owned = parent_owned (parent_end b.parent b.gives.ends);
      sides = record {
        between = without_root i mid;
        left-given = gives_as (gives_without i a.gives a.parent.root refl) (without_put i a.now old) (λ v e. e ∙ p);
        right-given = gives_as (gives_without i b.gives b.parent.root refl) (without_put i b.now mid) (λ v e. e ∙ q);
      };
      front = front_end b.gives.ends (front_put b.now behind_first (front_end a.gives.ends (front_put a.now behind_first front_same)));
    }

-- the only child is taken out before the parent goes
pub record IsTakenAlone (i : ℕ) (t : Tree) (old new : Forest) (h : ℕ) : Type 0 where
  pub owned : IsOwned i new
  pub given : {end : Forest} → end ≡ without_root i new → Gives (without_root i old) end h (λ u. u ≡ t)

pub alone_out : {i h : ℕ} {old new : Forest} (t : Tree) → IsHanded i old → children_of (plain (root_tree i old)) ≡ more t none
    → Ends h (tree_nth 0 (kids (root_tree i old))) (put i (without_nth 0 (kids (root_tree i old))) old) new
    → IsTakenAlone i t old new h
alone_out {i = i} {h = h} {old = old} {new = new} t hand e d =
    let a = taken_out 0 none t none (subst (λ (us : Trees). IsParent (held_at i old) i us old) e (parent_handed hand)) refl d in
    let given : Gives (without_root i old) (without_root i new) h (λ u. u ≡ t) = gives_as (gives_without i a.gives a.parent.root refl) (without_put i a.now old) (λ v k. k) in
    record {
      owned = parent_owned (parent_end a.parent a.gives.ends);
      given = λ {end} q. record { tree = given.tree; ends = ends_at given.ends q; once = given.once; whole = given.whole; told = given.told };
    }
