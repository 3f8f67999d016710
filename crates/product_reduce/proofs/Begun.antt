-- A product beside its first Number, or 1, and what it leaves when the others are multiplied in.
use Rattle.product_reduce.proofs.Shared.{ℕ, ◌+◌, ◌≤◌, ◌≡◌, true, refl, sym, ap, ◌∙◌, subst, arith, is_number, are_reduced, num_one, Trees, count, size, LeavesChildren, IsNextNumber, NoNumberBetween}
use Rattle.product_reduce.proofs.Shared.{IsMany, IsOut, all_bytes, handed_bytes, put_bytes, State, free_of, plain, Forest, bytes_in, kids, tree_of, IsHanded, Gives, root_tree, without_root, put}
use Rattle.product_reduce.proofs.Shared.{Stands, forest, KeepsRefusals, gives_as, given_handed, given_rest, given_told, ends_as, last_tree, other_apart, put-put, put-same, IsBegun, IsUnderway}
use Rattle.product_reduce.proofs.{Shared.{IsProduct, IsTakenOut}, Beside.{beside_given, beside_product}, Products.{becomes_put, product_beside}, Progress.{started, started_at_one}}

pub underway_first : {i n h : ℕ} {ts : Trees} {f new : Forest} → IsOut i n ts f new h → are_reduced ts ≡ true → IsNextNumber 0 n ts → IsUnderway i ts f new h
underway_first {n = n} {ts = ts} o r w = record {
  us = _;
  left = record { kids = o.now; are = o.are; given = gives_as o.given refl (λ t x. tt) };
  begun = subst (IsBegun ts _) (sym (given_told o.given)) (started n ts r w);
}

pub underway_one : {i h : ℕ} {ts : Trees} {f new : Forest} → IsMany i ts f → are_reduced ts ≡ true → NoNumberBetween 0 (count ts) ts → Gives f new h (λ t. t ≡ num_one) → IsUnderway i ts f new h
underway_one {i = i} {ts = ts} {f = f} m r b g = record {
  us = ts;
  left = record { kids = kids (root_tree i f); are = m.over.kids; given = gives_as g (sym (put-same i f)) (λ t x. tt) };
  begun = subst (IsBegun ts ts) (sym (given_told g)) (started_at_one ts r b);
}

-- ---- the product as the call on its Numbers sees it

pub record IsSeen (i : ℕ) (us : Trees) (f : Forest) (h : ℕ) : Type 0 where
  pub product : IsProduct i f us
  pub handed : IsHanded i (without_root h f)
  pub number : Gives (without_root h f) f h (λ t. is_number t ≡ true)

pub seen : {i h : ℕ} {ts : Trees} {old f : Forest} → IsProduct i old ts → (w : IsUnderway i ts old f h) → IsSeen i w.us f h
seen {i = i} {h = h} {old = old} {f = f} p w =
    let k = w.left.given in
    let q = (becomes_put p w.left.are refl).product in
    let product = beside_product (beside_given k) q in
    record {
      product = product;
      handed = (product_beside h (other_apart i k.ends q.handed.root) product).handed;
      number = record { tree = k.tree; ends = ends_as k.ends refl (sym (given_rest k)); once = k.once; whole = k.whole; told = subst (λ (t : Forest). is_number (plain t) ≡ true) (last_tree k.ends) w.begun.number };
    }

pub taken_out : {i h m : ℕ} {ts us vs : Trees} {old f new : Forest} → IsProduct i old ts → LeavesChildren i us old f h → LeavesChildren i vs (without_root h f) new m
    → IsTakenOut i vs old new m (plain (root_tree m new))
taken_out {i = i} {old = old} p l k =
    let given = gives_as k.given (ap (put i k.kids) (given_rest l.given) ∙ put-put i k.kids l.kids old) (λ t x. x) in
    record { left = put i k.kids old; beside = beside_given given; becomes = becomes_put p k.are refl }

-- no bytes are gone, but for those of a 1
pub begun_free : {s t : State} {i h : ℕ} {ts : Trees} → Stands s → Stands t → KeepsRefusals s t → IsMany i ts (forest s) → (w : IsUnderway i ts (forest s) (forest t) h)
    → free_of s ≤ free_of t + size (tree_of h t)
begun_free {s = s} {t = t} {h = h} st su k m w =
    omega (
      arith,
      all_bytes s st,
      all_bytes t su,
      k.size,
      handed_bytes h (forest t) (given_handed w.left.given),
      ap bytes_in (given_rest w.left.given),
      put_bytes w.left.kids m w.left.are,
      w.begun.fewer,
    )
