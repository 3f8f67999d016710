-- A root becomes the first factor of another, and its factors take its place.
use Rattle.coefficients.proofs.Shared.{◌≡◌, ℕ, ◌<◌, [], ◌∷◌, eqb, refl, sym, ap, ◌∙◌, arith, true, false, Tree, mult, Trees, none, more, append, is_mult, State, plain, nth, children_of, Forest}
use Rattle.coefficients.proofs.Shared.{arity, kids, root_count, tree_nth, with_nth, merged_nth, IsOnce, IsHanded, Represents, Ends, Gives, KeepsFront, kids_of, root_tree, without_root, put}
use Rattle.coefficients.proofs.Shared.{Stands, forest, behind_first, behind_later, front_same, front_at, front_end, front_put, front_without, gives_as, represents_handed, represents_join}
use Rattle.coefficients.proofs.Shared.{represents_with, kids_of_root, eqb-sym, children_of-plain, whole_kids, put-put, factors_of, IsOver, over_product, over_put, over_beside, over_same}
use Rattle.coefficients.proofs.Shared.{over_gives, without_put, once_count, cut, cut_rest, represents_count, all-kids}
use Rattle.calc_terms.specs.declared.kind.Kind.TheVariants as kind

-- ---- a root becomes the first factor

pub record IsFirst (i j : ℕ) (ts : Trees) (old new : Forest) : Type 0 where
  pub now : Forest
  pub whole : new ≡ put i now (without_root j old)
  pub over : IsOver kind.Mult i ts new

pub first_factor : {i j : ℕ} {old new : Forest} → IsHanded i old → IsHanded j old → eqb i j ≡ false → is_mult (plain (root_tree i old)) ≡ true
    → new ≡ put i (with_nth 0 (root_tree j old) (kids (root_tree i old))) (without_root j old)
    → IsFirst i j (more (plain (root_tree j old)) (children_of (plain (root_tree i old)))) old new
first_factor {i = i} {j = j} {old = old} {new = new} a b d m e =
    let o = over_product a m in
    let now = with_nth 0 (root_tree j old) (kids (root_tree i old)) in
    record { now = now; whole = e; over = over_same (over_put now (over_beside j (eqb-sym i j d) o) (represents_with 0 (represents_handed b) o.kids)) e }

pub first_front : {i j : ℕ} {ts : Trees} {old new : Forest} → IsFirst i j ts old new → KeepsFront (i ∷ j ∷ []) old new
first_front f = front_at (front_put f.now behind_first (front_without (behind_later behind_first) front_same)) f.whole

-- the root goes last
pub first_last : {i j : ℕ} {ts : Trees} {old f new : Forest} → IsFirst i j ts old f → Ends i (root_tree i f) (without_root i f) new
    → Gives (without_root i (without_root j old)) new i (λ t. t ≡ mult ts)
first_last {i = i} {j = j} {old = old} x e = gives_as (over_gives x.over refl e refl) (ap (without_root i) x.whole ∙ without_put i x.now (without_root j old)) (λ t y. y)

pub last_front : {i j : ℕ} {ts : Trees} {t old f new : Forest} → IsFirst i j ts old f → Ends i t (without_root i f) new → KeepsFront (i ∷ j ∷ []) old new
last_front x e = front_end e (front_without behind_first (first_front x))

-- ---- its factors take its place

one_arity : {k : Forest} {t : Tree} → Represents k (more t none) → arity k ≡ 1
one_arity h = represents_count h

pub first_alone : {i : ℕ} {t : Tree} {ts : Trees} {s : State} → Stands s → IsOver kind.Mult i (more t ts) (forest s) → root_count (tree_nth 0 (kids_of i (forest s))) ≡ 1
first_alone h o = grind (arith, kids_of_root, once_count, one_arity)

pub first_within : {i : ℕ} {t : Tree} {ts : Trees} {s : State} → Stands s → IsOver kind.Mult i (more t ts) (forest s) → 0 < arity (kids_of i (forest s))
first_within {i = i} st o = omega (arith, ap arity (kids_of_root i st o.root), represents_count o.kids)

pub first_merged : {i j : ℕ} {t : Tree} {ts : Trees} {old f new : Forest} → IsFirst i j (more t ts) old f → new ≡ put i (merged_nth 0 (kids (root_tree i f))) f
    → IsFirst i j (append (children_of t) ts) old new
first_merged {i = i} {j = j} {t = t} {ts = ts} {old = old} {f = f} {new = new} x e =
    let k = kids (root_tree i f) in
    let one = cut (more t none) ts k x.over.kids in
    let rest = cut_rest (more t none) ts k x.over.kids in
    let inner : Represents (kids (tree_nth 0 k)) (children_of t) = record {
      once = all-kids IsOnce (tree_nth 0 k) one.once;
      whole = whole_kids (tree_nth 0 k) one.whole;
      plain_trees = sym (children_of-plain (tree_nth 0 k) one.whole) ∙ ap (λ (us : Trees). children_of (nth 0 us)) one.plain_trees;
    } in
    let now = merged_nth 0 k in
    record { now = now; whole = e ∙ ap (put i now) x.whole ∙ put-put i now x.now (without_root j old); over = over_same (over_put now x.over (represents_join inner rest)) e }

pub product_children : (t : Tree) → is_mult t ≡ true → children_of t ≡ factors_of t
product_children t m = grind arith
