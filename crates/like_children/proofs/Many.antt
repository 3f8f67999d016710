-- Roots that are sums or products, from call to call.
use Rattle.tree_handles.proofs.FreeBytes.{beside_bytes as handed_bytes}
use Rattle.like_children.proofs.Shared.{ℕ, ◌+◌, ◌≤◌, ◌<◌, ◌≡◌, true, refl, sym, ap, ◌∙◌, subst, arith, Tree, Trees, count, size, sizes, IsSumOrProduct, State, free_of}
use Rattle.like_children.proofs.Shared.{removed, nth, compound, plain, children_of, takes_kind, Forest, arity, kids, bytes_in, root_count, tree_nth, without_nth, IsOnce, IsHanded, Represents, Ends}
use Rattle.like_children.proofs.Shared.{Gives, kids_of, root_tree, without_root, put, Stands, forest, all-tree_nth, arity-tree_nth, gives, kids_of_root, size-plain, root_arity, Kind, IsOver, over_sum}
use Rattle.like_children.proofs.Shared.{over_product, over_handed, over_plain, over_put, over_end, over_same, once_count, without_put, represents_count, used, bytes_without, used_forest}
use Rattle.like_children.proofs.Kids.{represents_nth, represents_without}

-- a root of a kind that has any number of children, over these
pub record IsMany (i : ℕ) (ts : Trees) (f : Forest) : Type 0 where
  pub kind : Kind
  pub any : (n : ℕ) → takes_kind kind n ≡ true
  pub same : (us : Trees) → children_of (compound kind us) ≡ us
  pub bytes : (us vs : Trees) → size (compound kind us) + sizes vs ≡ size (compound kind vs) + sizes us
  pub over : IsOver kind i ts f

pub many : {i : ℕ} {f : Forest} → IsHanded i f → IsSumOrProduct (plain (root_tree i f)) → IsMany i (children_of (plain (root_tree i f))) f
many h k = grind (arith, over_sum, over_product)

many_over : {i : ℕ} {ts us : Trees} {f g : Forest} (m : IsMany i ts f) → IsOver m.kind i us g → IsMany i us g
many_over m o = record { kind = m.kind; any = m.any; same = m.same; bytes = m.bytes; over = o }

pub many_put : {i : ℕ} {ts us : Trees} {f : Forest} (n : Forest) → IsMany i ts f → Represents n us → IsMany i us (put i n f)
many_put n m r = many_over m (over_put n m.over r)

pub many_end : {i j : ℕ} {ts : Trees} {t f g : Forest} → IsMany i ts g → Ends j t g f → IsMany i ts f
many_end m e = many_over m (over_end m.over e)

pub many_same : {i : ℕ} {ts : Trees} {f g : Forest} → IsMany i ts f → g ≡ f → IsMany i ts g
many_same m e = many_over m (over_same m.over e)

pub many_handed : {i : ℕ} {ts : Trees} {f : Forest} → IsMany i ts f → IsHanded i f
many_handed m = over_handed m.over (m.any _)

pub many_children : {i : ℕ} {ts : Trees} {f : Forest} → IsMany i ts f → children_of (plain (root_tree i f)) ≡ ts
many_children {ts = ts} m = ap children_of (over_plain m.over (m.any _)) ∙ m.same ts

-- ---- a child by its place

pub place_within : {i : ℕ} {ts : Trees} {f : Forest} (n : ℕ) → IsMany i ts f → n < count ts → n < arity (kids (root_tree i f))
place_within n m l = omega (arith, l, represents_count m.over.kids)

pub child_within : {s : State} {i : ℕ} {ts : Trees} (n : ℕ) → Stands s → IsMany i ts (forest s) → n < count ts → n < arity (kids_of i (forest s))
child_within {i = i} n st m l = omega (arith, place_within n m l, ap arity (kids_of_root i st m.over.root))

pub child_once : {s : State} {i : ℕ} {ts : Trees} (n : ℕ) → Stands s → IsMany i ts (forest s) → n < count ts → root_count (tree_nth n (kids_of i (forest s))) ≡ 1
child_once {s = s} {i = i} n st m l =
    let k = kids (root_tree i (forest s)) in
    subst (λ (x : Forest). root_count (tree_nth n x) ≡ 1) (sym (kids_of_root i st m.over.root))
    (once_count (tree_nth n k) (arity-tree_nth n k (place_within n m l)) (all-tree_nth IsOnce n k m.over.kids.once))

-- it was taken out, and stands last
pub record IsOut (i n : ℕ) (ts : Trees) (old new : Forest) (h : ℕ) : Type 0 where
  pub now : Forest
  pub are : Represents now (removed n ts)
  pub given : Gives (put i now old) new h (λ u. u ≡ nth n ts)
  pub left : IsMany i (removed n ts) new

pub out : {i h : ℕ} {ts : Trees} {f g : Forest} (n : ℕ) → IsMany i ts f → n < count ts → Ends h (tree_nth n (kids (root_tree i f))) (put i (without_nth n (kids (root_tree i f))) f) g
    → IsOut i n ts f g h
out {i = i} {ts = ts} {f = f} n m l e =
    let now = without_nth n (kids (root_tree i f)) in
    let r = represents_without n m.over.kids in
    record { now = now; are = r; given = gives {Told = λ u. u ≡ nth n ts} e (represents_nth n (place_within n m l) m.over.kids) refl; left = many_end (many_put now m r) e }

-- ---- bytes

over_bytes : {i : ℕ} {ts : Trees} {f : Forest} (k : Kind) → ((n : ℕ) → takes_kind k n ≡ true) → IsOver k i ts f → bytes_in f ≡ bytes_in (without_root i f) + size (compound k ts)
over_bytes {i = i} {f = f} k any o = handed_bytes i f (over_handed o (any _)) ∙ ap (λ (t : Tree). bytes_in (without_root i f) + size t) (over_plain o (any _))

-- a root with other children has their bytes
pub put_bytes : {i : ℕ} {ts us : Trees} {f : Forest} (n : Forest) → IsMany i ts f → Represents n us → bytes_in (put i n f) + sizes ts ≡ bytes_in f + sizes us
put_bytes {i = i} {ts = ts} {us = us} {f = f} n m r =
    omega (arith, over_bytes m.kind m.any m.over, over_bytes m.kind m.any (over_put n m.over r), ap bytes_in (without_put i n f), m.bytes ts us)
