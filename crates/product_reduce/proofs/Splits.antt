-- A factor is split into its base and its exponent.
use Rattle.product_reduce.proofs.Shared.{ℕ, ◌≡◌, [], ◌∷◌, true, false, refl, sym, ap, ◌∙◌, subst, arith, represents_kids, represents_without, removed, is_transparent_power, base_of, num_one, Tree}
use Rattle.product_reduce.proofs.Shared.{Trees, none, more, count, nth, plain, children_of, Forest, arity, kids, with_root_kids, tree_nth, without_nth, IsOnce, AllOnce, IsHanded, IsOwned, Represents}
use Rattle.product_reduce.proofs.Shared.{Ends, KeepsFront, has_root, root_tree, without_root, put, all-without_nth, arity-without_nth, behind_first, front_same, front_put, front_end, front_without}
use Rattle.product_reduce.proofs.{Shared.{represents_handed, root-put, kids-put, exponent_of, IsBeside, IsSplit, without_put, count-plains, children_of-plain, tree_put}, Beside.{beside_as}}
use Rattle.product_reduce.proofs.Beside.{beside_root, beside_tree, beside_without, taken_beside}

-- ---- powers that are not opaque, and other factors

record IsTransparent (t : Tree) : Type 0 where
  two : count (children_of t) ≡ 2
  base : base_of t ≡ nth 0 (children_of t)
  exponent : exponent_of t ≡ nth 1 (children_of t)

transparent : (t : Tree) → is_transparent_power t ≡ true → IsTransparent t
transparent t h = grind arith

record IsOpaque (t : Tree) : Type 0 where
  base : base_of t ≡ t
  exponent : exponent_of t ≡ num_one

opaque : (t : Tree) → is_transparent_power t ≡ false → IsOpaque t
opaque t h = grind arith

-- ---- a root that keeps fewer children

with_fewer : (n t : Forest) → AllOnce n → AllOnce t → AllOnce (with_root_kids n t)
with_fewer n t h k = grind arith

once_put : (i : ℕ) (f n : Forest) → AllOnce (root_tree i f) → AllOnce n → AllOnce (root_tree i (put i n f))
once_put i f n h k = subst AllOnce (sym (tree_put i n f)) (with_fewer n (root_tree i f) k h)

first_of_two : (ts : Trees) → count ts ≡ 2 → nth 0 (removed 1 ts) ≡ nth 0 ts
first_of_two none h = absurd (omega arith)
first_of_two (more t ts) h = refl

-- ---- the exponent is taken, then the base, and the node goes

-- while its exponent is out
pub record IsHalved (i : ℕ) (f g : Forest) (a : ℕ) : Type 0 where
  pub exponent : IsBeside a (exponent_of (plain (root_tree i f))) (put i (without_nth 1 (kids (root_tree i f))) f) g
  pub root : has_root i g ≡ true
  pub once : AllOnce (root_tree i g)
  pub below : Represents (kids (root_tree i g)) (removed 1 (children_of (plain (root_tree i f))))
  pub one : arity (kids (root_tree i g)) ≡ 1
  pub first : nth 0 (removed 1 (children_of (plain (root_tree i f)))) ≡ base_of (plain (root_tree i f))
  pub front : KeepsFront (i ∷ []) f g

children_arity : (i : ℕ) (f : Forest) → IsHanded i f → arity (kids (root_tree i f)) ≡ count (children_of (plain (root_tree i f)))
children_arity i f h = sym (count-plains (kids (root_tree i f))) ∙ ap count (sym (children_of-plain (root_tree i f) h.whole))

pub two_children : (i : ℕ) (f : Forest) → IsHanded i f → is_transparent_power (plain (root_tree i f)) ≡ true → arity (kids (root_tree i f)) ≡ 2
two_children i f h t = children_arity i f h ∙ (transparent (plain (root_tree i f)) t).two

pub halved : (i : ℕ) (f g : Forest) (a : ℕ) → IsHanded i f → is_transparent_power (plain (root_tree i f)) ≡ true
    → Ends a (tree_nth 1 (kids (root_tree i f))) (put i (without_nth 1 (kids (root_tree i f))) f) g → IsHalved i f g a
halved i f g a h t e =
    let x = transparent (plain (root_tree i f)) t in
    let k = represents_kids (represents_handed h) in
    let two : arity (kids (root_tree i f)) ≡ 2 = two_children i f h t in
    let n = without_nth 1 (kids (root_tree i f)) in
    let b = taken_beside i 1 f k (omega (arith, two)) e in
    let root : has_root i (put i n f) ≡ true = root-put i i n f ∙ h.root in
    let same = beside_tree i b root in
    let now : kids (root_tree i g) ≡ n = ap kids same ∙ kids-put i n f h.root in
    record {
      exponent = beside_as b (sym x.exponent) refl refl;
      root = beside_root i b root;
      once = subst AllOnce (sym same) (once_put i f n h.once (all-without_nth IsOnce 1 (kids (root_tree i f)) k.once));
      below = subst (λ (y : Forest). Represents y (removed 1 (children_of (plain (root_tree i f))))) (sym now) (represents_without 1 k);
      one = ap arity now ∙ omega (arith, arity-without_nth 1 (kids (root_tree i f)) (omega (arith, two)), two);
      first = first_of_two (children_of (plain (root_tree i f))) x.two ∙ sym x.base;
      front = front_end e (front_put n behind_first front_same);
    }

-- while its base is out too
pub record IsEmptied (i : ℕ) (f g h : Forest) (a b : ℕ) : Type 0 where
  pub owned : IsOwned i h
  pub split : IsSplit i f (without_root i h) b a
  pub front : KeepsFront (i ∷ []) f (without_root i h)

pub emptied : (i : ℕ) (f g h : Forest) (a b : ℕ) → has_root i f ≡ true → IsHalved i f g a → Ends b (tree_nth 0 (kids (root_tree i g))) (put i (without_nth 0 (kids (root_tree i g))) g) h
    → IsEmptied i f g h a b
emptied i f g h a b top x e =
    let one = x.one in
    let n = without_nth 0 (kids (root_tree i g)) in
    let d = taken_beside i 0 g x.below (omega (arith, one)) e in
    let root : has_root i (put i n g) ≡ true = root-put i i n g ∙ x.root in
    let first_root : has_root i (put i (without_nth 1 (kids (root_tree i f))) f) ≡ true = root-put i i (without_nth 1 (kids (root_tree i f))) f ∙ top in
    record {
      owned = record { root = beside_root i d root; once = subst AllOnce (sym (beside_tree i d root)) (once_put i g n x.once (all-without_nth IsOnce 0 (kids (root_tree i g)) x.below.once)) };
      split = record {
        left = without_root i g;
        base = beside_as (beside_without i d root) x.first (without_put i n g) refl;
        exponent = beside_as (beside_without i x.exponent first_root) refl (without_put i (without_nth 1 (kids (root_tree i f))) f) refl;
      };
      front = front_without behind_first (front_end e (front_put n behind_first x.front));
    }

-- any other factor is its own base, beside a new 1
pub unsplit : (i : ℕ) (f g : Forest) (a : ℕ) → IsHanded i f → is_transparent_power (plain (root_tree i f)) ≡ false → IsBeside a num_one f g
    → IsBeside i (plain (root_tree i g)) (without_root i g) g → IsSplit i f g i a
unsplit i f g a h t one self =
    let x = opaque (plain (root_tree i f)) t in
    record {
      left = without_root i g;
      base = beside_as self (ap plain (beside_tree i one h.root) ∙ sym x.base) refl refl;
      exponent = beside_as (beside_without i one h.root) (sym x.exponent) refl refl;
    }

pub split_at : {i a b : ℕ} {f g h : Forest} → IsSplit i f g b a → h ≡ g → IsSplit i f h b a
split_at s e = record { left = s.left; base = beside_as s.base refl refl e; exponent = s.exponent }
