-- The loop over the powers of a product, each of which is reduced in its place.
use Rattle.deep_reduce.proofs.Shared.{◌≡◌, ℕ, suc, ◌+◌, ◌≤◌, ◌<◌, refl, sym, ap, ◌∙◌, subst, arith, nest, nest_of, weight, Tree, Trees, none, more, append, count, IsReducedPower, weight_of_bases}
use Rattle.deep_reduce.proofs.Shared.{IsTransparent, AreTransparent, AreReducedPowers, base_in, exponent_in, Forest, Gives, root_tree, append-none, count_append, mult, nth, plain, children_of}
use Rattle.deep_reduce.proofs.Shared.{set_child, set_tree, ChangesTree, changes_after, changes_as, changes_none, IsHanded, given_told, none_left, append_assoc}

-- ---- lists

powers_count : (ts us : Trees) → AreReducedPowers ts us → count us ≡ count ts
powers_count none none h = refl
powers_count (more t ts) (more u us) h = ap suc (powers_count ts us h.1)
powers_count ts us h = absurd h

powers_behind : (ts us : Trees) (t u : Tree) → AreReducedPowers ts us → IsReducedPower (base_in t) (exponent_in t) u → AreReducedPowers (append ts (more t none)) (append us (more u none))
powers_behind none none t u h k = (k, tt)
powers_behind (more x ts) (more y us) t u h k = (h.0, powers_behind ts us t u h.1 k)
powers_behind ts us t u h k = absurd h

-- a power of a product
pub record IsPowerOf (ts : Trees) (t : Tree) : Type 0 where
  pub transparent : IsTransparent t
  pub nests : nest t ≤ nest_of ts
  pub weighs : weight (base_in t) ≤ weight_of_bases ts

pub power_among : (before : Trees) (t : Tree) (rest : Trees) → AreTransparent (append before (more t rest)) → IsPowerOf (append before (more t rest)) t
power_among none t rest h = record { transparent = h.0; nests = omega arith; weighs = omega arith }
power_among (more u us) t rest h = let p = power_among us t rest h.1 in record { transparent = p.transparent; nests = omega (arith, p.nests); weighs = omega (arith, p.weighs) }

-- the tree behind some, and another in its place
nth_behind : {n : ℕ} (ts : Trees) (t : Tree) (us : Trees) → n ≡ count ts → nth n (append ts (more t us)) ≡ t
nth_behind ts t us e = ap (λ (n : ℕ). nth n (append ts (more t us))) e ∙ by ts
  where
    by : (ts : Trees) → nth (count ts) (append ts (more t us)) ≡ t
    by none = refl
    by (more x ts) = by ts

set_behind : {n : ℕ} (ts : Trees) (t u : Tree) (us : Trees) → n ≡ count ts → set_tree n u (append ts (more t us)) ≡ append (append ts (more u none)) us
set_behind ts t u us e = ap (λ (n : ℕ). set_tree n u (append ts (more t us))) e ∙ by ts
  where
    by : (ts : Trees) → set_tree (count ts) u (append ts (more t us)) ≡ append (append ts (more u none)) us
    by none = refl
    by (more x ts) = ap (more x) (by ts)

-- ---- the loop

-- the first powers are reduced, and nothing else
pub record IsPartReduced (i at : ℕ) (ts : Trees) (old new : Forest) : Type 0 where
  pub done : Trees
  pub reduced : Trees
  pub rest : Trees
  pub split : ts ≡ append done rest
  pub count-is : at ≡ count reduced
  pub are : AreReducedPowers done reduced
  pub now : ChangesTree i (mult (append reduced rest)) old new

pub none_reduced : {i : ℕ} {ts : Trees} {old : Forest} → IsHanded i old → plain (root_tree i old) ≡ mult ts → IsPartReduced i 0 ts old old
none_reduced {ts = ts} h e = record { done = none; reduced = none; rest = ts; split = refl; count-is = refl; are = tt; now = changes_as (changes_none h) e }

-- the next power
pub record IsNext (i at : ℕ) (ts : Trees) (old new : Forest) : Type 0 where
  pub done : Trees
  pub reduced : Trees
  pub t : Tree
  pub rest : Trees
  pub split : ts ≡ append done (more t rest)
  pub count-is : at ≡ count reduced
  pub are : AreReducedPowers done reduced
  pub now : ChangesTree i (mult (append reduced (more t rest))) old new

pub next_power : {i at : ℕ} {ts : Trees} {old new : Forest} → IsPartReduced i at ts old new → at < count ts → IsNext i at ts old new
next_power {i} {at} {ts} {old} {new} p l = by p.rest p.split p.now
  where
    by : (rest : Trees) → ts ≡ append p.done rest → ChangesTree i (mult (append p.reduced rest)) old new → IsNext i at ts old new
    by none s o = absurd (omega (arith, ap count s, p.count-is, count_append p.done none, powers_count p.done p.reduced p.are))
    by (more t rest) s o = record { done = p.done; reduced = p.reduced; t = t; rest = rest; split = s; count-is = p.count-is; are = p.are; now = o }

pub next_within : {i at : ℕ} {ts : Trees} {old : Forest} {new : Forest} (n : IsNext i at ts old new) → at < count (children_of (plain (root_tree i new)))
next_within n = omega (arith, n.count-is, ap (λ (x : Tree). count (children_of x)) n.now.tree, count_append n.reduced (more n.t n.rest))

pub next_of : {i at : ℕ} {ts : Trees} {old new : Forest} (n : IsNext i at ts old new) → AreTransparent ts → IsPowerOf ts n.t
next_of {ts = ts} n h = subst (λ (x : Trees). IsPowerOf x n.t) (sym n.split) (power_among n.done n.t n.rest (subst AreTransparent n.split h))

-- it is taken out
pub next_told : {i at h : ℕ} {ts : Trees} {old mid others new : Forest} (n : IsNext i at ts old mid) → Gives others new h (λ u. u ≡ nth at (children_of (plain (root_tree i mid))))
    → plain (root_tree h new) ≡ n.t
next_told {at = at} n g = given_told g ∙ ap (λ (x : Tree). nth at (children_of x)) n.now.tree ∙ nth_behind n.reduced n.t n.rest n.count-is

-- and put back reduced
pub next_reduced : {i at : ℕ} {ts : Trees} {old mid new : Forest} (n : IsNext i at ts old mid) (u : Tree) → IsReducedPower (base_in n.t) (exponent_in n.t) u
    → ChangesTree i (set_child at u (plain (root_tree i mid))) mid new → IsPartReduced i (at + 1) ts old new
next_reduced {at = at} n u power a = record {
  done = append n.done (more n.t none);
  reduced = append n.reduced (more u none);
  rest = n.rest;
  split = n.split ∙ sym (append_assoc n.done (more n.t none) n.rest);
  count-is = omega (arith, n.count-is, count_append n.reduced (more u none));
  are = powers_behind n.done n.reduced n.t u n.are power;
  now = changes_after n.now (changes_as a (ap (set_child at u) n.now.tree ∙ ap mult (set_behind n.reduced n.t u n.rest n.count-is)));
}

-- all powers are reduced
pub record AreAllReduced (i : ℕ) (ts : Trees) (old new : Forest) : Type 0 where
  pub factors : Trees
  pub are : AreReducedPowers ts factors
  pub now : ChangesTree i (mult factors) old new

pub all_reduced : {i at : ℕ} {ts : Trees} {old new : Forest} → IsPartReduced i at ts old new → count ts ≤ at → AreAllReduced i ts old new
all_reduced p l =
    let rest : p.rest ≡ none = none_left p.done p.rest (omega (arith, l, p.count-is, ap count p.split, powers_count p.done p.reduced p.are)) in
    record {
      factors = p.reduced;
      are = subst (λ (x : Trees). AreReducedPowers x p.reduced) (sym (p.split ∙ ap (append p.done) rest ∙ append-none p.done)) p.are;
      now = changes_as p.now (ap mult (ap (append p.reduced) rest ∙ append-none p.reduced));
    }
