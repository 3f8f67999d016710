-- A product whose joint is reduced in its place.
use Rattle.deep_reduce.proofs.Shared.{replaced_count, ◌≡◌, ℕ, zero, suc, ◌+◌, ◌≤◌, ◌<◌, inl, inr, true, false, refl, sym, ap, ◌∙◌, subst, arith, add-one, Option, MatchOption, and_parts}
use Rattle.deep_reduce.proofs.Shared.{Contains-append_left, Contains-append_right, Contains-append_cases, nest, nest_of, weight, load_of_factor, load_of_factors, is_reduced, is_opaque_exponent}
use Rattle.deep_reduce.proofs.Shared.{base_of, are_reduced, Tree, add, mult, power, Trees, none, more, count, is_mult, names, KeepsMeanings-refl, KeepsMeanings-power, IsReducedProduct, IsReducedPower}
use Rattle.deep_reduce.proofs.Shared.{nest_of_joint, set_tree, Joins, joins_gathered, joins_pair, joins_then, HandsOn, IsLess, IsSummed, IsSettled, removed, base_in, exponent_in, AreJoinable}
use Rattle.deep_reduce.proofs.Shared.{IsFinished, IsGathered, exponent_of, have_partners, IsJointAt, IsNextPair, IsPairAt, NoPairBetween, joined_pair, joint_there, neighbours_joint, Rewrites, keeps}
use Rattle.deep_reduce.proofs.Shared.{kept, Rewrites-refl, Rewrites-trans, rewrites_of, reduces_after, IsSumAnswer, nth, children_of, load_product, base_is_reduced, exponent_is_reduced}
use Rattle.deep_reduce.proofs.Shared.{KeepsSumBounds, KeepsProductBounds, contrary, undef_words, settled_hands_on, hands_on_next, keeps_next, finished_keeps, first_reduced, settled_held}
use Rattle.deep_reduce.proofs.{Shared.{product_counts, product_joins_none, some_weight}, Heavy.{factor_load, over_power}, Joined.{JointsBelow, IsLessLoaded, pair_loaded, numbers_opened}}
use Rattle.deep_reduce.proofs.{Joined.{factors_rewritten, pair_rewritten}, Joints.{transparent_exponent, joint_load, reduced_joint}}
use Rattle.std.proofs.Common.{IfSome}
use Rattle.product_reduce.specs.Joining.{joint as joint_of}

-- ---- rewritings inside a tree

pub exponent_rewritten : (b : Tree) {e g : Tree} → Rewrites e g → Rewrites (power b e) (power b g)
exponent_rewritten b {e} {g} h = record {
  no_new_name = record { name = λ x c. elim (Contains-append_cases (names b) (names g) x c) [ inl l ↦ Contains-append_left (names b) (names e) x l | inr r ↦ Contains-append_right (names b) (names e) x (h.no_new_name.name x r) ] };
  meanings = keeps (KeepsMeanings-power (KeepsMeanings-refl b) (kept h.meanings));
}

replaced_rewritten : (n : ℕ) (u : Tree) (ts : Trees) → Rewrites (nth n ts) u → Rewrites (mult ts) (mult (set_tree n u ts))
replaced_rewritten n u none h = Rewrites-refl (mult none)
replaced_rewritten zero u (more t ts) h = factors_rewritten h (Rewrites-refl (mult ts))
replaced_rewritten (suc n) u (more t ts) h = factors_rewritten (Rewrites-refl t) (replaced_rewritten n u ts h)

-- ---- another tree at a place

replaced_reduced : (n : ℕ) (u : Tree) (ts : Trees) → is_reduced u ≡ true → are_reduced (removed n ts) ≡ true → are_reduced (set_tree n u ts) ≡ true
replaced_reduced n u none h k = refl
replaced_reduced zero u (more t ts) h k = rw (h, k) refl
replaced_reduced (suc n) u (more t ts) h k =
    let b = and_parts (is_reduced t) (are_reduced (removed n ts)) k in
    rw (b.0, replaced_reduced n u ts h b.1) refl

replaced_load : (n : ℕ) (u : Tree) (ts : Trees) → n < count ts → load_of_factors (set_tree n u ts) + load_of_factor (nth n ts) ≡ load_of_factors ts + load_of_factor u
replaced_load n u none h = absurd (omega arith)
replaced_load zero u (more t ts) h = omega arith
replaced_load (suc n) u (more t ts) h = omega (arith, replaced_load n u ts (omega arith))

below_reduced : (n : ℕ) (ts : Trees) → JointsBelow n ts → are_reduced ts ≡ true → nest_of ts ≤ n
below_reduced n none h k = omega arith
below_reduced n (more t ts) h k = let b = and_parts _ _ k in omega (arith, reduced_joint t b.0, h.0, below_reduced n ts h.1 b.1)

replaced_nest : (n m : ℕ) (u : Tree) (ts : Trees) → n < count ts → JointsBelow m ts → are_reduced (removed n ts) ≡ true → nest u ≤ nest_of_joint (nth n ts) → nest_of (set_tree n u ts) ≤ m
replaced_nest n m u none l h k w = absurd (omega arith)
replaced_nest zero m u (more t ts) l h k w = omega (arith, h.0, below_reduced m ts h.1 k)
replaced_nest (suc n) m u (more t ts) l h k w = let b = and_parts _ _ k in omega (arith, reduced_joint t b.0, h.0, replaced_nest n m u ts (omega arith) h.1 b.1 w)

pub joint_within : (n m : ℕ) (ts : Trees) → n < count ts → JointsBelow m ts → nest_of_joint (nth n ts) ≤ m
joint_within n m none l h = absurd (omega arith)
joint_within zero m (more t ts) l h = h.0
joint_within (suc n) m (more t ts) l h = joint_within n m ts (omega arith) h.1

nth_load : (n : ℕ) (ts : Trees) → n < count ts → load_of_factor (nth n ts) ≤ load_of_factors ts
nth_load n none h = absurd (omega arith)
nth_load zero (more t ts) h = omega arith
nth_load (suc n) (more t ts) h = omega (arith, nth_load n ts (omega arith))

-- ---- the joint

-- the joint at a place by its base and the two exponents
pub record IsJoint (t : Tree) : Type 0 where
  pub base : Tree
  pub first : Tree
  pub second : Tree
  pub is : t ≡ power base (add (more first (more second none)))
  pub base_reduced : is_reduced base ≡ true
  pub first_reduced : is_reduced first ≡ true
  pub second_reduced : is_reduced second ≡ true
  pub first_transparent : is_opaque_exponent first ≡ false
  pub second_transparent : is_opaque_exponent second ≡ false

-- what is handed on for it
pub record IsReadyJoint (t : Tree) : Type 0 where
  pub is : t ≡ power (base_in t) (add (children_of (exponent_in t)))
  pub some : 1 ≤ count (children_of (exponent_in t))
  pub reduced : are_reduced (children_of (exponent_in t)) ≡ true
  pub base_reduced : is_reduced (base_in t) ≡ true

pub ready_joint : (t : Tree) → IsJoint t → IsReadyJoint t
ready_joint t j = subst IsReadyJoint (sym j.is) (record { is = refl; some = omega arith; reduced = rw (j.first_reduced, j.second_reduced) refl; base_reduced = j.base_reduced })

-- a power whose exponent, such a sum, is reduced
pub record IsReadySummed (t : Tree) : Type 0 where
  pub is : t ≡ power (base_in t) (exponent_in t)
  pub base_reduced : is_reduced (base_in t) ≡ true
  pub exponent_reduced : is_reduced (exponent_in t) ≡ true

pub ready_summed : (b : Tree) (ts : Trees) (t : Tree) → is_reduced b ≡ true → IsSummed b ts t → IsReadySummed t
ready_summed b ts t r s = subst IsReadySummed (sym s.is) (record { is = refl; base_reduced = r; exponent_reduced = s.sum.reduces.reduced })

-- what is put in its place
record IsAnswered (t r : Tree) : Type 0 where
  rewrites : Rewrites t r
  reduced : is_reduced r ≡ true
  nests : nest r ≤ nest_of_joint t
  loads : load_of_factor r ≤ load_of_factor t + 1

answered_sum : (b e f s r : Tree) → is_opaque_exponent e ≡ false → is_opaque_exponent f ≡ false → IsSumAnswer (more e (more f none)) s → IsReducedPower b s r
    → IsAnswered (power b (add (more e (more f none)))) r
answered_sum b e f s r o p sum answer = record {
  rewrites = Rewrites-trans (exponent_rewritten b (rewrites_of sum.reduces)) (rewrites_of answer.reduces);
  reduced = answer.reduces.reduced;
  nests = omega (arith, answer.nest, over_power b (more e (more f none)) s sum.number sum.nest);
  loads = omega (arith, joint_load b e f o p, factor_load r (1 + weight b) (omega (arith, some_weight b)) answer.opaque_load);
}

answered : (t s r : Tree) → IsJoint t → IsSumAnswer (children_of (exponent_in t)) s → IsReducedPower (base_in t) s r → IsAnswered t r
answered t s r j sum answer =
    let j-is = j.is in
    subst (λ (x : Tree). IsAnswered x r) (sym j-is) (answered_sum j.base j.first j.second s r j.first_transparent j.second_transparent
    (subst (λ (x : Tree). IsSumAnswer (children_of (exponent_in x)) s) j-is sum) (subst (λ (x : Tree). IsReducedPower (base_in x) s r) j-is answer))

pub joint_at : {at : ℕ} {ts : Trees} → IsJointAt at ts → IsJoint (nth at ts)
joint_at h = grind (arith, base_is_reduced, exponent_is_reduced, transparent_exponent)

-- ---- the product is reduced on

-- two neighbours of a product are joined
pub record IsPairJoined (at : ℕ) (ts : Trees) (u : Tree) : Type 0 where
  pub is : u ≡ mult (children_of u)
  pub joint : IsJointAt at (children_of u)
  pub less : IsLessLoaded ts (children_of u)
  pub rewrites : Rewrites (mult ts) u
  pub pair : IsPairAt at ts
  pub reduced : are_reduced ts ≡ true
  pub whole : children_of u ≡ joined_pair at (suc at) ts
  pub joint-is : nth at (children_of u) ≡ joint_of (nth at ts) (nth (suc at) ts)

pub pair_joined : (at : ℕ) (ts : Trees) (u : Tree) → are_reduced ts ≡ true → IsPairAt at ts → u ≡ mult (joined_pair at (at + 1) ts) → IsPairJoined at ts u
pair_joined at ts u r p e =
    let whole : u ≡ mult (joined_pair at (suc at) ts) = e ∙ ap (λ (n : ℕ). mult (joined_pair at n ts)) (add-one at) in
    subst (IsPairJoined at ts) (sym whole) (record {
      is =
          refl;
      joint = neighbours_joint at ts r p;
      less = pair_loaded at ts r p;
      rewrites = pair_rewritten at ts p;
      pair = p;
      reduced = r;
      whole = refl;
      joint-is = joint_there at ts p;
    })

pub settled_less : (at : ℕ) (ts : Trees) (u v : Tree) → IsPairJoined at ts u → IsSettled at (children_of u) v → IsLess ts v
settled_less at ts u v j s =
    let us = children_of u in
    let p = j.joint in
    let a = answered (nth at us) s.exponent s.factor (joint_at p) s.sum s.answer in
    let here : Rewrites (mult us) (mult (set_tree at s.factor us)) = replaced_rewritten at s.factor us a.rewrites in
    let sum = subst (λ (x : Tree). IsSumAnswer (children_of (exponent_in x)) s.exponent) j.joint-is s.sum in
    let bounds = subst (λ (x : Tree). KeepsSumBounds (children_of (exponent_in x)) s.exponent) j.joint-is s.bounds in
    let answer = subst (λ (x : Tree). IsReducedPower (base_in x) s.exponent s.factor) j.joint-is s.answer in
    subst (IsLess ts) (sym s.is) (record {
      is = refl;
      some = omega (arith, replaced_count at s.factor us, p.within);
      reduced = replaced_reduced at s.factor us a.reduced p.others;
      rewrites = Rewrites-trans (subst (Rewrites (mult ts)) j.is j.rewrites) here;
      nests = replaced_nest at (nest_of ts) s.factor us p.within j.less.nests p.others a.nests;
      loads = omega (arith, replaced_load at s.factor us p.within, a.loads, j.less.load);
      joins = subst (λ (xs : Trees). Joins ts (set_tree at s.factor xs)) (sym j.whole) (joins_pair at s.exponent s.factor j.pair sum answer);
      hands_on =
          settled_hands_on at ts us (base_of (nth at ts)) (exponent_of (nth at ts)) (exponent_of (nth (suc at) ts)) s.exponent s.factor j.pair j.whole p.within j.joint-is sum bounds.room answer.room
          (settled_held at ts us j.pair j.reduced j.whole s.exponent s.factor
          (base_is_reduced (nth at ts) (first_reduced at ts us j.pair j.reduced j.whole)) s.sum.reduces.reduced bounds.counts answer);
    })

pub settled_within : (at : ℕ) (us : Trees) (v : Tree) → IsJointAt at us → IsSettled at us v → at < count (children_of v)
settled_within at us v p s = omega (arith, ap (λ (x : Tree). count (children_of x)) s.is, replaced_count at s.factor us, p.within)

-- the joint is less than the product
pub record IsJointLess (ts : Trees) (t : Tree) : Type 0 where
  pub nests : nest_of_joint t ≤ nest_of ts
  pub weighs : weight (base_in t) + 2 ≤ load_of_factors ts

pub joint_less : (at : ℕ) (ts : Trees) (u : Tree) → IsPairJoined at ts u → IsJointLess ts (nth at (children_of u))
joint_less at ts u j =
    let us = children_of u in
    let p = j.joint in
    let k = joint_at p in
    let weight-is : weight (base_in (nth at us)) ≡ weight k.base = ap (λ (x : Tree). weight (base_in x)) k.is in
    let load-is : load_of_factor (nth at us) ≡ weight k.base = ap load_of_factor k.is ∙ joint_load k.base k.first k.second k.first_transparent k.second_transparent in
    record {
      nests = joint_within at (nest_of ts) us p.within j.less.nests;
      weighs = omega (arith, weight-is, load-is, nth_load at us p.within, j.less.load);
    }

-- from the gathered product
pub less_gathered : (ts : Trees) (u v : Tree) → IsGathered ts u → HandsOn ts (children_of u) → IsLess (children_of u) v → IsLess ts v
less_gathered ts u v g k l =
    let product : u ≡ mult (children_of u) = subst (λ (x : Tree). x ≡ mult (children_of x)) (sym g.is) refl in
    record {
      is = l.is;
      some = l.some;
      reduced = l.reduced;
      rewrites = Rewrites-trans (subst (Rewrites (mult ts)) product g.rewrites) l.rewrites;
      nests = omega (arith, l.nests, g.nest);
      loads = omega (arith, l.loads, g.load);
      joins = joins_then (joins_gathered u g) l.joins;
      hands_on = hands_on_next ts (children_of u) (children_of v) k l.hands_on;
    }

pub less_next : (ts : Trees) (u v : Tree) → IsLess ts u → IsLess (children_of u) v → IsLess ts v
less_next ts u v k l = record {
  is = l.is;
  some = l.some;
  reduced = l.reduced;
  rewrites = Rewrites-trans (subst (Rewrites (mult ts)) k.is k.rewrites) l.rewrites;
  nests = omega (arith, l.nests, k.nests);
  loads = omega (arith, l.loads, k.loads);
  joins = joins_then k.joins l.joins;
  hands_on = hands_on_next ts (children_of u) (children_of v) k.hands_on l.hands_on;
}

pub gathered_product : (ts : Trees) (u : Tree) → IsGathered ts u → is_mult u ≡ true
gathered_product ts u g = ap is_mult g.is

pub some_pair : (from : ℕ) (ts : Trees) (r : Option ℕ) → MatchOption r (NoPairBetween from (count ts) ts) (λ at. IsNextPair from at ts) → IfSome r (λ at. IsPairAt at ts)
some_pair from ts r h = grind arith

pub product_after : (ts : Trees) (c v t : Tree) → are_reduced ts ≡ true → AreJoinable c ts → IsLess ts v → IsReducedProduct (children_of v) t → IsReducedProduct ts t
product_after ts c v t r j l a = record {
  reduces = reduces_after (subst (Rewrites (mult ts)) l.is l.rewrites) a.reduces;
  undefined = λ e. contrary e j.defined;
  number = λ e. contrary (j.partners) (ap have_partners (numbers_opened ts e));
  nest = omega (arith, a.nest, l.nests);
  load = omega (arith, a.load, load_product ts, load_product (children_of v), l.loads);
  room = keeps_next _ (mult (children_of v)) l.hands_on.room a.room;
  held = λ d h m k. a.held d h m (l.hands_on.held h m k);
  counts = product_joins_none ts t r j.partners;
}

pub product_finished : (ts : Trees) (t : Tree) → are_reduced ts ≡ true → IsFinished ts t → KeepsProductBounds ts t → IsReducedProduct ts t
product_finished ts t r f b = record {
  reduces = f.reduces;
  undefined = λ e. undef_words t (f.undefined ∙ e);
  number = f.number;
  nest = f.nest;
  load = f.load;
  room = finished_keeps ts t b;
  held = λ d h l a. b.held h l (sym f.undefined ∙ d) a;
  counts = product_counts ts t r f;
}
