-- A power is rewritten where it stands: the node of its base goes, and the exponent is replaced.
use Rattle.power_reduce.proofs.Shared.{◌≡◌, ℕ, ◌≤◌, [], ◌∷◌, refl, sym, ap, ◌∙◌, subst, arith, true, false, Tree, root, Trees, none, more, append, is_root, size, IsOver, IsTaken, taken, over_put}
use Rattle.power_reduce.proofs.Shared.{over_same, over_end, without_put, IsAdded, cut, cut_rest, gives_put, State, free_of, released_free, is_power, base_in, exponent_in, tree_of, IsOnce, IsHanded}
use Rattle.power_reduce.proofs.Shared.{Represents, Ends, Gives, KeepsFront, nth, children_of, Forest, kids, root_count, tree_nth, without_nth, merged_nth, holds, kids_of, root_tree, without_root, put}
use Rattle.power_reduce.proofs.Shared.{Stands, forest, KeepsRefusals, all-kids, behind_first, front_same, front_at, front_put, gives_as, given_root, represents_join, apart, kids_of_root, other_apart}
use Rattle.power_reduce.proofs.{Shared.{eqb-sym, children_of-plain, whole_kids, put-put, IsHole, Place, Kind}, Powers.{over_power}}
use Rattle.calc_terms.specs.declared.kind.Kind.TheVariants as kind

-- ---- the node of the first child goes

pub first_alone : {k : Kind} {i : ℕ} {t : Tree} {ts : Trees} {s : State} → Stands s → IsOver k i (more t ts) (forest s) → root_count (tree_nth 0 (kids_of i (forest s))) ≡ 1
first_alone h o = grind (arith, kids_of_root)

pub merged : {k : Kind} {i : ℕ} {t : Tree} {ts : Trees} {f new : Forest} → IsOver k i (more t ts) f → new ≡ put i (merged_nth 0 (kids (root_tree i f))) f → IsAdded k i (append (children_of t) ts) f new
merged {i = i} {t = t} {ts = ts} {f = f} o e =
    let k = kids (root_tree i f) in
    let one = cut (more t none) ts k o.kids in
    let rest = cut_rest (more t none) ts k o.kids in
    let inner : Represents (kids (tree_nth 0 k)) (children_of t) = record {
      once = all-kids IsOnce (tree_nth 0 k) one.once;
      whole = whole_kids (tree_nth 0 k) one.whole;
      plain_trees = sym (children_of-plain (tree_nth 0 k) one.whole) ∙ ap (λ (us : Trees). children_of (nth 0 us)) one.plain_trees;
    } in
    let both = represents_join inner rest in
    record { now = merged_nth 0 k; kids = both; whole = e; over = over_same (over_put (merged_nth 0 k) o both) e }

pub merged_front : {k : Kind} {i : ℕ} {ts : Trees} {f new : Forest} → IsAdded k i ts f new → KeepsFront (i ∷ []) f new
merged_front m = front_at (front_put m.now behind_first front_same) m.whole

-- ---- a child that was taken, with another behind it

-- the root's tree and what stands behind it, with other children
pub taken_on : {k : Kind} {i n h : ℕ} {t : Tree} {ts us : Trees} {f new : Forest} (now : Forest) → IsOver k i us f → IsTaken k i n t ts f new h → Gives (put i now f) (put i now new) h (λ u. u ≡ t)
taken_on {i = i} {f = f} now o a = gives_as (gives_put i now a.gives (over_put a.now o a.kids).root) (put-put i now a.now f) (λ t x. x)

-- the root goes, with whichever children
pub without_added : {k : Kind} {i : ℕ} {ts : Trees} {f new : Forest} → IsAdded k i ts f new → without_root i new ≡ without_root i f
without_added {i = i} {f = f} a = ap (without_root i) a.whole ∙ without_put i a.now f

-- a root beside the last one that is given
pub apart_last : {k : Kind} {i j : ℕ} {ts : Trees} {g : Forest} {s : State} {Told : Tree → Type 0} → Stands s → IsOver k i ts g → Gives g (forest s) j Told → holds i (root_tree j (forest s)) ≡ false
apart_last {i = i} {j = j} st o g = apart i j st (eqb-sym j i (other_apart i g.ends o.root)) (over_end o g.ends).root (given_root g)

-- ---- a power of a root

root_is : (b : Tree) → is_root b ≡ true → b ≡ root (nth 0 (children_of b))
root_is b h = grind arith

-- over the argument and the exponent
pub root_merged : {i : ℕ} {new : Forest} (s : State) → IsHanded i (forest s) → is_power (tree_of i s) ≡ true → is_root (base_in (tree_of i s)) ≡ true
    → new ≡ put i (merged_nth 0 (kids (root_tree i (forest s)))) (forest s) → IsAdded kind.Pow i (more (nth 0 (children_of (base_in (tree_of i s)))) (more (exponent_in (tree_of i s)) none)) (forest s) new
root_merged {i = i} {new = new} s h p r e =
    let m = merged (over_power h p) e in
    subst (λ (ts : Trees). IsAdded kind.Pow i ts (forest s) new) (ap (λ (b : Tree). append (children_of b) (more (exponent_in (tree_of i s)) none)) (root_is (base_in (tree_of i s)) r)) m

-- the exponent is taken
pub second_taken : {i h : ℕ} {a e : Tree} {f new : Forest} → IsOver kind.Pow i (more a (more e none)) f
    → Ends h (tree_nth 1 (kids (root_tree i f))) (put i (without_nth 1 (kids (root_tree i f))) f) new → IsTaken kind.Pow i 1 e (more a none) f new h
second_taken {a = a} {e = e} o d = taken 1 (more a none) e none o refl d

-- the bytes of a rational that goes
pub number_bytes : {s t : State} {i : ℕ} → Stands s → Stands t → KeepsRefusals s t → IsHanded i (forest s) → forest t ≡ without_root i (forest s) → size (tree_of i s) ≤ free_of t
number_bytes {s = s} {i = i} h k r o e = omega (arith, released_free h k r o e)

-- a hole beside which another tree is gone
pub hole_at : {p : Place} {i n : ℕ} {old f g : Forest} → IsHole p i n old f → g ≡ f → IsHole p i n old g
hole_at h e = record { is = h.is; handed = h.handed; within = h.within; whole = e ∙ h.whole }
