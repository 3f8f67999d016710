-- Roots that are sums, from call to call.
use Rattle.sum_reduce.proofs.Shared.{ℕ, ◌<◌, ◌≡◌, List, [], ◌∷◌, eqb, true, false, refl, sym, ap, ◌∙◌, subst, arith, inl, Tree, Trees, add, none, more, count, is_add, State, IsOver, over_sum}
use Rattle.sum_reduce.proofs.Shared.{over_handed, over_plain, over_put, over_same, over_end, over_beside, without_put, live, expression, seen, nth, plain, inserted, children_of, IsExpression, Forest}
use Rattle.sum_reduce.proofs.Shared.{arity, kids, root_count, tree_nth, without_nth, with_nth, merged_nth, IsHanded, Represents, Ends, Gives, KeepsFront, holds, tree_at, kids_of, root_tree}
use Rattle.sum_reduce.proofs.Shared.{without_root, Stands, forest, IsBehind, behind_first, behind_later, behind_new, front_same, front_at, front_end, front_put, front_without, gives, gives_as}
use Rattle.sum_reduce.proofs.Shared.{given_handed, given_root, given_rest, given_same, given_told, given_other, given_without, handed_by_put, represents_handed, represents_with, apart, other_apart}
use Rattle.sum_reduce.proofs.Shared.{last_tree, eqb-sym, root-put, put-put, put-same, tree-put, without-put, represents_nth, represents_without, represents_merged, terms_in, IsSum, Changes, Takes}
use Rattle.sum_reduce.proofs.Shared.{removed, set_removed, GivesTwo, represents_count, gives_without, hole_behind, put-left, tree-left, ChangesTree, IsHole, Place, set_child, set_tree, join, has_root}
use Rattle.sum_reduce.proofs.Shared.{LeavesChildren, many, child_within, child_once}
use Rattle.tree_handles.specs.Roots.{put}
use Rattle.calc_terms.specs.declared.kind.Kind.TheVariants as kind

-- ---- a sum

pub sum_over : {i : ℕ} {f : Forest} → IsSum i f → IsOver kind.Add i (terms_in i f) f
sum_over h = over_sum h.handed h.sum

pub over_is_sum : {i : ℕ} {ts : Trees} {f : Forest} → IsOver kind.Add i ts f → IsSum i f
over_is_sum h = record { handed = over_handed h refl; sum = ap is_add (over_plain h refl) }

pub over_terms : {i : ℕ} {ts : Trees} {f : Forest} → IsOver kind.Add i ts f → terms_in i f ≡ ts
over_terms h = ap children_of (over_plain h refl)

pub sum_live : (s : State) {i j : ℕ} → j ≡ i → IsSum i (forest s) → holds j (forest s) ≡ true
sum_live s e h = live s e h.handed.root

pub sum_expression : {s : State} {i j : ℕ} → j ≡ i → Stands s → IsSum i (forest s) → IsExpression j (forest s)
sum_expression e st h = expression e st h.handed

pub sum_seen : {s : State} {i j : ℕ} → j ≡ i → Stands s → IsSum i (forest s) → children_of (plain (tree_at j (forest s))) ≡ terms_in i (forest s)
sum_seen e st h = ap children_of (seen e st h.handed)

pub sum_within : {s : State} {i : ℕ} (n : ℕ) → Stands s → IsSum i (forest s) → n < count (terms_in i (forest s)) → n < arity (kids_of i (forest s))
sum_within n st h l = child_within n st (many h.handed (inl h.sum)) l

pub root_within : {i : ℕ} {f : Forest} (n : ℕ) → IsSum i f → n < count (terms_in i f) → n < arity (kids (root_tree i f))
root_within n h l = omega (arith, represents_count (sum_over h).kids)

pub sum_once : {s : State} {i : ℕ} (n : ℕ) → Stands s → IsSum i (forest s) → n < count (terms_in i (forest s)) → root_count (tree_nth n (kids_of i (forest s))) ≡ 1
sum_once n st h l = child_once n st (many h.handed (inl h.sum)) l

-- ---- its terms change

pub record IsChanged (i : ℕ) (us : Trees) (old new : Forest) : Type 0 where
  pub changes : Changes i old new
  pub terms : terms_in i new ≡ us

pub changed : {i : ℕ} {f g n : Forest} {us : Trees} → IsSum i f → Represents n us → g ≡ put i n f → IsChanged i us f g
changed {i = i} {f = f} {n = n} h r e =
    let o = over_same (over_put n (sum_over h) r) e in
    record { changes = record { kids = n; whole = e; sum = over_is_sum o }; terms = over_terms o }

pub merged : {i : ℕ} {f g : Forest} (n : ℕ) → IsSum i f → n < count (terms_in i f) → g ≡ put i (merged_nth n (kids (root_tree i f))) f
    → IsChanged i (inserted n (children_of (nth n (terms_in i f))) (removed n (terms_in i f))) f g
merged n h l e = changed h (represents_merged n (root_within n h l) (sum_over h).kids) e

-- a term is another
add_set : (n : ℕ) (u s : Tree) → is_add s ≡ true → set_child n u s ≡ add (set_tree n u (children_of s))
add_set n u s h = grind arith

pub filled : {i : ℕ} {f g : Forest} (n : ℕ) (u : Tree) → IsSum i f → n < count (terms_in i f) → ChangesTree i (set_child n u (plain (root_tree i f))) f g
    → IsChanged i (inserted n (more u none) (removed n (terms_in i f))) f g
filled {i = i} {f = f} n u h l a =
    let is = a.tree ∙ add_set n u (plain (root_tree i f)) h.sum in
    record { changes = record { kids = a.kids; whole = a.whole; sum = record { handed = a.handed; sum = ap is_add is } }; terms = ap children_of is ∙ set_removed n u (terms_in i f) l }

pub changes_same : {i : ℕ} {f : Forest} → IsSum i f → Changes i f f
changes_same {i = i} {f = f} h = record { kids = kids (root_tree i f); whole = sym (put-same i f); sum = h }

pub changes_after : {i : ℕ} {f g h : Forest} → Changes i f g → Changes i g h → Changes i f h
changes_after {i = i} {f = f} a b = record { kids = b.kids; whole = b.whole ∙ ap (put i b.kids) a.whole ∙ put-put i b.kids a.kids f; sum = b.sum }

pub changes_rest : {i : ℕ} {f g : Forest} → Changes i f g → without_root i g ≡ without_root i f
changes_rest {i = i} {f = f} c = ap (without_root i) c.whole ∙ without_put i c.kids f

pub changes_front : {i : ℕ} {f g : Forest} {handed : List ℕ} → Changes i f g → KeepsFront (i ∷ handed) f g
changes_front c = front_at (front_put c.kids behind_first front_same) c.whole

-- ---- a tree stands beside it

pub takes_handed : {i h : ℕ} {f g : Forest} → Takes i f g h → IsHanded h g
takes_handed t = given_handed t.given

pub takes_rest : {i h : ℕ} {f g : Forest} (t : Takes i f g h) → without_root h g ≡ put i t.kids f
takes_rest t = given_rest t.given

pub takes_apart : {i h : ℕ} {f g : Forest} → Takes i f g h → eqb h i ≡ false
takes_apart {i = i} {f = f} t = other_apart i t.given.ends (root-put i i t.kids f ∙ t.was.handed.root)

pub takes_front : {i h : ℕ} {f g : Forest} {handed : List ℕ} → Takes i f g h → KeepsFront (i ∷ handed) f g
takes_front t = front_end t.given.ends (front_put t.kids behind_first front_same)

pub takes_behind : {i h : ℕ} {f g : Forest} {handed : List ℕ} → Takes i f g h → IsBehind h (i ∷ handed) f
takes_behind t = behind_new t.given.ends (front_put t.kids behind_first front_same)

-- a term was taken out
pub record IsOut (i n : ℕ) (old new : Forest) (h : ℕ) : Type 0 where
  pub takes : Takes i old new h
  pub terms : terms_in i new ≡ removed n (terms_in i old)
  pub tree : plain (root_tree h new) ≡ nth n (terms_in i old)

pub term_out : {i h : ℕ} {f g : Forest} (n : ℕ) → IsSum i f → n < count (terms_in i f) → Ends h (tree_nth n (kids (root_tree i f))) (put i (without_nth n (kids (root_tree i f))) f) g → IsOut i n f g h
term_out {i = i} {f = f} n s l e =
    let k = (sum_over s).kids in
    let r = represents_nth n (root_within n s l) k in
    let now = without_nth n (kids (root_tree i f)) in
    let o = over_end (over_put now (sum_over s) (represents_without n k)) e in
    let g = gives {Told = λ t. t ≡ nth n (terms_in i f)} e r refl in
    record {
      takes = record { was = s; kids = now; given = gives_as g refl (λ t x. tt); sum = over_is_sum o };
      terms = over_terms o;
      tree = given_told g;
    }

pub record IsLeft (i : ℕ) (us : Trees) (old new : Forest) (m : ℕ) : Type 0 where
  pub takes : Takes i old new m
  pub terms : terms_in i new ≡ us

-- what is rewritten beside it
pub record IsRewritten (i : ℕ) (old mid new : Forest) (m : ℕ) : Type 0 where
  pub takes : Takes i old new m
  pub terms : terms_in i new ≡ terms_in i mid

pub beside_over : {i h : ℕ} {f g : Forest} → Takes i f g h → IsOver kind.Add i (terms_in i g) (without_root h g)
beside_over {h = h} t = over_beside h (takes_apart t) (sum_over t.sum)

pub rewritten : {i h m : ℕ} {f g new : Forest} {Told : Tree → Type 0} → Takes i f g h → Gives (without_root h g) new m Told → IsRewritten i f g new m
rewritten t k =
    let o = over_end (beside_over t) k.ends in
    record { takes = record { was = t.was; kids = t.kids; given = gives_as k (takes_rest t) (λ u x. tt); sum = over_is_sum o }; terms = over_terms o }

pub takes_after : {i h m : ℕ} {f g new : Forest} → Takes i f g h → Takes i (without_root h g) new m → Takes i f new m
takes_after {i = i} {f = f} t u = record { was = t.was; kids = u.kids; given = gives_as u.given (ap (put i u.kids) (takes_rest t) ∙ put-put i u.kids t.kids f) (λ x y. y); sum = u.sum }

-- it is handed on, and comes back beside a sum with other terms
pub taken_given : {i h : ℕ} {f g : Forest} {P : Tree → Type 0} → Takes i f g h → P (plain (root_tree h g)) → Gives (without_root h g) g h P
taken_given t p = grind (arith, given_rest, last_tree)

pub taken_on : {i h m : ℕ} {us : Trees} {f g new : Forest} → Takes i f g h → LeavesChildren i us (without_root h g) new m → IsLeft i us f new m
taken_on {i = i} {f = f} t l =
    let o = over_end (over_put l.kids (beside_over t) l.are) l.given.ends in
    record { takes = record { was = t.was; kids = l.kids; given = gives_as l.given (ap (put i l.kids) (takes_rest t) ∙ put-put i l.kids t.kids f) (λ x y. y); sum = over_is_sum o }; terms = over_terms o }

-- it goes
pub record IsReleased (i : ℕ) (old mid new : Forest) : Type 0 where
  pub changes : Changes i old new
  pub terms : terms_in i new ≡ terms_in i mid

pub released : {i h : ℕ} {f g new : Forest} → Takes i f g h → new ≡ without_root h g → IsReleased i f g new
released t e =
    let o = over_same (beside_over t) e in
    record { changes = record { kids = t.kids; whole = e ∙ takes_rest t; sum = over_is_sum o }; terms = over_terms o }

-- it comes back
pub put_in : {i h : ℕ} {f g new : Forest} (n : ℕ) → Takes i f g h → new ≡ put i (with_nth n (root_tree h g) (kids (root_tree i g))) (without_root h g)
    → IsChanged i (inserted n (more (plain (root_tree h g)) none) (terms_in i g)) f new
put_in {i = i} {h = h} {f = f} {g = g} n t e =
    let r = represents_with n (represents_handed (takes_handed t)) (sum_over t.sum).kids in
    let now = with_nth n (root_tree h g) (kids (root_tree i g)) in
    let o = over_same (over_put now (beside_over t) r) e in
    record {
      changes = record { kids = now; whole = e ∙ ap (put i now) (takes_rest t) ∙ put-put i now t.kids f; sum = over_is_sum o };
      terms = over_terms o;
    }

-- whatever `put_in` wants of the calls
pub roots_apart : {i h : ℕ} {f : Forest} {s : State} → Stands s → Takes i f (forest s) h → holds i (root_tree h (forest s)) ≡ false
roots_apart {i = i} {h = h} st t = apart i h st (eqb-sym h i (takes_apart t)) t.sum.handed.root (given_root t.given)

-- ---- a third tree stands beside both

-- it is as before
pub other_handed : {i h a : ℕ} {f g : Forest} → eqb a i ≡ false → IsHanded a f → Takes i f g h → IsHanded a g
other_handed {i = i} {a = a} d x t = given_other t.given (handed_by_put i t.kids (eqb-sym a i d) x)

pub other_same : {i h a : ℕ} {f g : Forest} → eqb a i ≡ false → IsHanded a f → Takes i f g h → plain (root_tree a g) ≡ plain (root_tree a f)
other_same {i = i} {a = a} {f = f} d x t = ap plain (given_same a t.given (root-put i a t.kids f ∙ x.root) ∙ tree-put i a t.kids f (eqb-sym a i d))

pub other_clear : {i h a : ℕ} {f g : Forest} → eqb a i ≡ false → IsHanded a f → Takes i f g h → eqb h a ≡ false
other_clear {i = i} {a = a} d x t = other_apart a t.given.ends (handed_by_put i t.kids (eqb-sym a i d) x).root

-- it goes
pub sum_beside : {i : ℕ} {f : Forest} (a : ℕ) → eqb a i ≡ false → IsSum i f → IsSum i (without_root a f)
sum_beside a d s = over_is_sum (over_beside a d (sum_over s))

-- both become one
pub both_rewritten : {i h a m : ℕ} {f g new : Forest} {Told : Tree → Type 0} → eqb a i ≡ false → IsHanded a f → Takes i f g h → Gives (without_root h (without_root a g)) new m Told
    → IsRewritten i (without_root a f) g new m
both_rewritten {i = i} {h = h} {a = a} {f = f} {g = g} d x t k =
    let y = handed_by_put i t.kids (eqb-sym a i d) x in
    let o = over_end (over_beside h (takes_apart t) (over_beside a d (sum_over t.sum))) k.ends in
    record {
      takes = record { was = sum_beside a d t.was; kids = t.kids; given = gives_as k (given_without t.given y ∙ without-put i a t.kids f (eqb-sym a i d)) (λ u v. tt); sum = over_is_sum o };
      terms = over_terms o;
    }

-- ---- a term as its coefficient and its part

-- the part goes
pub part_gone : {c p : ℕ} {others new end : Forest} {C P : Tree → Type 0} → GivesTwo others new c p C P → end ≡ without_root p new → Gives others end c C
part_gone {c = c} {others = others} {C = C} k e = subst (λ (x : Forest). Gives others x c C) (sym (e ∙ given_rest k.second-given)) k.first-given

-- or comes back
pub record IsSplit (i : ℕ) (ts : Trees) (old new : Forest) (c : ℕ) (C : Tree → Type 0) : Type 0 where
  pub takes : Takes i old new c
  pub terms : terms_in i new ≡ ts
  pub told : C (plain (root_tree c new))

pub part_back : {place : Place} {i c p : ℕ} {f others new end : Forest} {C P : Tree → Type 0} (n : ℕ) (u : Tree) → IsSum i f → n < count (terms_in i f) → IsHole place i n f others
    → (k : GivesTwo others new c p C P)
    → ChangesTree i (set_child n u (plain (root_tree i (join f k.first-given.tree)))) (join f k.first-given.tree) end → IsSplit i (inserted n (more u none) (removed n (terms_in i f))) f end c C
part_back {i = i} {c = c} {f = f} {end = end} {C = C} n u s l o k a =
    let one = k.first-given in
    let both = hole_behind o one.ends in
    let root = s.handed.root in
    let terms : terms_in i (join f one.tree) ≡ terms_in i f = ap (λ (t : Forest). children_of (plain t)) (tree-left i f one.tree root) in
    let x = filled {f = join f one.tree} n u (record { handed = both.handed; sum = ap (λ (t : Forest). is_add (plain t)) (tree-left i f one.tree root) ∙ s.sum }) (omega (arith, ap count terms, l)) a in
    let clear : has_root c (put i a.kids f) ≡ false = root-put i c a.kids f ∙ sym (root-put i c (without_nth n (kids (root_tree i f))) f) ∙ ap (has_root c) (sym o.whole) ∙ one.ends.clear in
    let there : Gives (put i a.kids f) end c C = record { tree = one.tree; ends = record { whole = a.whole ∙ put-left i a.kids f one.tree root; alone = one.ends.alone; root = one.ends.root; clear = clear }; once = one.once; whole = one.whole; told = one.told } in
    record { takes = record { was = s; kids = a.kids; given = gives_as there refl (λ x y. tt); sum = x.changes.sum }; terms = x.terms ∙ ap (λ (ts : Trees). inserted n (more u none) (removed n ts)) terms; told = given_told there }

-- what stood beside the sum went into it
pub takes_changes : {i h : ℕ} {f g new : Forest} → Takes i f g h → Changes i (without_root h g) new → Changes i f new
takes_changes {i = i} {f = f} t c = record { kids = c.kids; whole = c.whole ∙ ap (put i c.kids) (takes_rest t) ∙ put-put i c.kids t.kids f; sum = c.sum }

pub beside_front : {i a : ℕ} {f g : Forest} → Changes i (without_root a f) g → KeepsFront (i ∷ a ∷ []) f g
beside_front c = front_at (front_put c.kids behind_first (front_without (behind_later behind_first) front_same)) c.whole

pub root_arity : {i : ℕ} {f : Forest} → IsSum i f → arity (kids (root_tree i f)) ≡ count (terms_in i f)
root_arity h = represents_count (sum_over h).kids

-- what was taken out stays, and the sum goes
pub only_left : {i h : ℕ} {u : Tree} {f g new : Forest} → Takes i f g h → new ≡ without_root i g → plain (root_tree h g) ≡ u → Gives (without_root i f) new h (λ t. t ≡ u)
only_left {i = i} {h = h} {u = u} {f = f} {g = g} t e q =
    let k = t.given in
    let told : Gives (put i t.kids f) g h (λ x. x ≡ u) = record { tree = k.tree; ends = k.ends; once = k.once; whole = k.whole; told = ap plain (sym (last_tree k.ends)) ∙ q } in
    let w = gives_without i told (root-put i i t.kids f ∙ t.was.handed.root) refl in
    subst (λ (x : Forest). Gives (without_root i f) x h (λ y. y ≡ u)) (sym e) (gives_as w (without_put i t.kids f) (λ x y. y))
