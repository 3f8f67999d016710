-- The walk over a node's children.
use Rattle.reduce_walk.proofs.Shared.{count_append, append_assoc, starts_behind, no_trees, ◌≡◌, ℕ, zero, suc, ◌+◌, ◌-◌, ◌≤◌, ◌<◌, List, [], ◌∷◌, ◌++◌, length, true, false, refl, sym, ap, ◌∙◌, subst}
use Rattle.reduce_walk.proofs.Shared.{arith, length-append, CalmChecks-append, CalmChecks, Tree, Trees, none, more, append, count, nodes, nodes_of, cut, cut_rest, represents_count, expression, seen}
use Rattle.reduce_walk.proofs.Shared.{AreAnswers, EachTree, IsNext, is_leaf, BeginWithLeaves, State, AllOnce, tree_of, IsHanded, Represents, Ends, Gives, KeepsFront, join-empty, join_assoc}
use Rattle.reduce_walk.proofs.Shared.{arity-join, first-rest, first_trees-join, rest_trees-join, starts_same, starts_join, starts_without, behind_new, front_end, front_after_one, append-none, gives}
use Rattle.reduce_walk.proofs.Shared.{gives_as, given_told, given_rest, represents_as, represents_join, ends_as, kids_of_root, last_root, last_tree, last_rest, alone, top, root-right, tree-right}
use Rattle.reduce_walk.proofs.Shared.{put-right, IsExpression, nth, plain, children_of, Label, Forest, empty, tree, join, arity, flatten, kids, node_of, root_payload, first_trees, rest_trees}
use Rattle.reduce_walk.proofs.Shared.{tree_nth, without_nth, holds, tree_at, kids_of, has_root, root_tree, without_root, put, behind_root, adopted, Stands, forest, behind_there, adopted_all, arity_le}
use Rattle.reduce_walk.proofs.{Shared.{few_nodes}, Parents.{IsParent, held_at, parent_handed}}
use Rattle.tree_handles.proofs.{Cuts.{cut_empty as no_node}, Parts.{at as node_place}}
use Rattle.breakers.specs.State.{State as BreakerState}

-- ---- lists

pub nodes_append : (ts us : Trees) → nodes_of (append ts us) ≡ nodes_of ts + nodes_of us
nodes_append none us = omega arith
nodes_append (more t ts) us = omega (arith, nodes_append ts us)

-- a tree has one node more than its children
pub nodes_by_children : (t : Tree) → nodes t ≡ nodes_of (children_of t) + 1
nodes_by_children t = grind arith

answers_append : (A : Tree → Tree → Type 0) (ts us : Trees) (t u : Tree) → AreAnswers A ts us → A t u → AreAnswers A (append ts (more t none)) (append us (more u none))
answers_append A none none t u h k = (k, tt)
answers_append A none (more v vs) t u h k = absurd h
answers_append A (more s ss) none t u h k = absurd h
answers_append A (more s ss) (more v vs) t u h k = (h.0, answers_append A ss vs t u h.1 k)

pub answers_count : (A : Tree → Tree → Type 0) (ts us : Trees) → AreAnswers A ts us → count ts ≡ count us
answers_count A none none h = refl
answers_count A none (more v vs) h = absurd h
answers_count A (more s ss) none h = absurd h
answers_count A (more s ss) (more v vs) h = ap suc (answers_count A ss vs h.1)

-- one of these trees
among : (P : Tree → Type 0) (ts : Trees) (t : Tree) (us : Trees) → EachTree P (append ts (more t us)) → P t
among P none t us h = h.0
among P (more s ss) t us h = among P ss t us h.1

-- ---- leaves

pub leaf_nodes : (t : Tree) → is_leaf t ≡ true → nodes t ≡ 1
leaf_nodes t h = grind arith

-- the leaves in front, which are their own answers, and the other trees
pub record AreSplit (A : Tree → Tree → Type 0) (n : ℕ) (ts : Trees) : Type 0 where
  pub leaves : Trees
  pub rest : Trees
  pub split : ts ≡ append leaves rest
  pub count-is : n ≡ count leaves
  pub become : AreAnswers A leaves leaves
  pub nodes-are : nodes_of leaves ≡ n

leaves_split : (A : Tree → Tree → Type 0) (P : Tree → Type 0) (n : ℕ) (ts : Trees) → ((t : Tree) → P t → is_leaf t ≡ true → A t t) → EachTree P ts → BeginWithLeaves n ts → AreSplit A n ts
leaves_split A P zero ts own p h = record { leaves = none; rest = ts; split = refl; count-is = refl; become = tt; nodes-are = refl }
leaves_split A P (suc n) none own p h = absurd h
leaves_split A P (suc n) (more t ts) own p h =
    let s = leaves_split A P n ts own p.1 h.1 in
    record {
      leaves = more t s.leaves;
      rest = s.rest;
      split = ap (more t) s.split;
      count-is = ap suc s.count-is;
      become = (own t p.0 h.0, s.become);
      nodes-are = omega (arith, leaf_nodes t h.0, s.nodes-are);
    }

pub leaves_within : (n : ℕ) (ts : Trees) → BeginWithLeaves n ts → n ≤ count ts
leaves_within zero ts h = omega arith
leaves_within (suc n) none h = absurd h
leaves_within (suc n) (more t ts) h = omega (arith, leaves_within n ts h.1)

-- one more
pub leaves_more : (n : ℕ) (ts : Trees) → BeginWithLeaves n ts → n < count ts → is_leaf (nth n ts) ≡ true → BeginWithLeaves (suc n) ts
leaves_more zero none h l e = absurd (omega arith)
leaves_more zero (more t ts) h l e = (e, tt)
leaves_more (suc n) none h l e = absurd h
leaves_more (suc n) (more t ts) h l e = (h.0, leaves_more n ts h.1 (omega arith) e)

-- a node has fewer children than a pool has nodes
pub few_children : {s : State} (i : ℕ) → Stands s → holds i (forest s) ≡ true → arity (kids_of i (forest s)) < 65535
few_children {s = s} i st h =
    let p = node_place i (forest s) h in
    let k = kids_of i (forest s) in
    let size : length s.nodes ≡ length (p.before ++ (node_of p.label k ∷ (flatten k ++ p.after))) = ap length (st.flat ∙ p.flat) in
    omega (arith, arity_le k, length-append (flatten k) p.after, length-append p.before (node_of p.label k ∷ (flatten k ++ p.after)), size, few_nodes s st.pool)

-- ---- the loop

-- the first children have their answers, each after one check for each of its nodes: the leaves in front stay in their parent, and
-- the answers of the others stand behind it; nothing else is changed
pub record IsWalked (A : Tree → Tree → Type 0) (i leaves at : ℕ) (old new : Forest) (before after : List BreakerState) : Type 0 where
  pub done : Trees
  pub answers : Trees
  pub rest : Trees
  pub split : children_of (plain (root_tree i old)) ≡ append done rest
  pub count-is : at ≡ count done
  pub become : AreAnswers A done answers
  pub calm : CalmChecks (nodes_of done) before after
  pub label : Label
  pub id-is : label.id ≡ i
  pub once : label.count ≡ 1
  pub payload : label.payload ≡ held_at i old
  pub clear : has_root i (without_root i old) ≡ false
  pub front : Forest
  pub back : Forest
  pub behind : Forest
  pub whole : new ≡ join (without_root i old) (tree label (join front back) behind)
  pub leaves-are : leaves ≡ arity front
  pub behind-are : at ≡ leaves + arity behind
  pub answered : Represents (join front behind) answers
  pub left : Represents back rest

pub leaves_walked : (A : Tree → Tree → Type 0) (P : Tree → Type 0) {i n : ℕ} {old : Forest} {before after : List BreakerState} → ((t : Tree) → P t → is_leaf t ≡ true → A t t) → EachTree P (children_of (plain (root_tree i old))) → IsHanded i old → Ends i (root_tree i old) (without_root i old) old → BeginWithLeaves n (children_of (plain (root_tree i old))) → CalmChecks n before after
    → IsWalked A i n n old old before after
leaves_walked A P {i = i} {n = n} {old = old} {before = before} {after = after} own taken h e b c =
    let p = top i old h.root in
    let k = p.kids-are in
    let ts = children_of (plain (root_tree i old)) in
    let s = leaves_split A P n ts own taken b in
    let all : Represents k (append s.leaves s.rest) = represents_as (parent_handed h).kids (ap kids p.tree-is) s.split in
    let first : Represents (first_trees n k) s.leaves = subst (λ (m : ℕ). Represents (first_trees m k) s.leaves) (sym s.count-is) (cut s.leaves s.rest k all) in
    let once : AllOnce (tree p.label k empty) = subst AllOnce p.tree-is h.once in
    record {
      done = s.leaves;
      answers = s.leaves;
      rest = s.rest;
      split = s.split;
      count-is = s.count-is;
      become = s.become;
      calm = subst (λ (m : ℕ). CalmChecks m before after) (sym s.nodes-are) c;
      label = p.label;
      id-is = p.id-is;
      once = once.0;
      payload = sym (ap root_payload p.tree-is);
      clear = e.clear;
      front = first_trees n k;
      back = rest_trees n k;
      behind = empty;
      whole = e.whole ∙ ap (join (without_root i old)) (p.tree-is ∙ ap (λ (x : Forest). tree p.label x empty) (sym (first-rest n k)));
      leaves-are = s.count-is ∙ sym (represents_count first);
      behind-are = omega arith;
      answered = represents_as first (sym (join-empty (first_trees n k))) refl;
      left = subst (λ (m : ℕ). Represents (rest_trees m k) s.rest) (sym s.count-is) (cut_rest s.leaves s.rest k all);
    }

-- the next child, which is not among the leaves in front
pub record IsNextChild {A : Tree → Tree → Type 0} {i leaves at : ℕ} {old new : Forest} {before after : List BreakerState} (w : IsWalked A i leaves at old new before after) : Type 0 where
  pub child : Tree
  pub rest : Trees
  pub split : children_of (plain (root_tree i old)) ≡ append w.done (more child rest)
  pub label : Label
  pub below : Forest
  pub others : Forest
  pub whole : new ≡ join (without_root i old) (tree w.label (join w.front (tree label below others)) w.behind)
  pub one : Represents (tree label below empty) (more child none)
  pub left : Represents others rest

pub next_child : {A : Tree → Tree → Type 0} {i leaves at : ℕ} {old new : Forest} {before after : List BreakerState} (w : IsWalked A i leaves at old new before after) → at < count (children_of (plain (root_tree i old))) → IsNextChild w
next_child {i = i} {at = at} {old = old} {new = new} w l = by w.rest w.back w.split w.whole w.left
  where
    by : (rest : Trees) (back : Forest) → children_of (plain (root_tree i old)) ≡ append w.done rest → new ≡ join (without_root i old) (tree w.label (join w.front back) w.behind) → Represents back rest → IsNextChild w
    by none back s e r = absurd (omega (arith, ap count s, w.count-is, count_append w.done none, l))
    by (more t rest) empty s e r = absurd (no_node r.plain_trees)
    by (more t rest) (tree m b k) s e r = record {
      child = t;
      rest = rest;
      split = s;
      label = m;
      below = b;
      others = k;
      whole = e;
      one = cut (more t none) rest (tree m b k) r;
      left = cut_rest (more t none) rest (tree m b k) r;
    }

pub is_next : {A : Tree → Tree → Type 0} {i leaves at : ℕ} {old new : Forest} {before after : List BreakerState} {w : IsWalked A i leaves at old new before after} (n : IsNextChild w) → IsNext A (plain (root_tree i old)) w.done w.answers n.child n.rest
is_next {w = w} n = record { split = n.split; answered = w.become }

-- what holds of each child holds of it
pub next_taken_too : {A : Tree → Tree → Type 0} (P : Tree → Type 0) {i leaves at : ℕ} {old new : Forest} {before after : List BreakerState} {w : IsWalked A i leaves at old new before after} (n : IsNextChild w) → EachTree P (children_of (plain (root_tree i old))) → P n.child
next_taken_too P {w = w} n h = among P w.done n.child n.rest (subst (EachTree P) n.split h)

-- it has fewer nodes than its parent
pub fewer_nodes : {A : Tree → Tree → Type 0} {i leaves at : ℕ} {old new : Forest} {before after : List BreakerState} {w : IsWalked A i leaves at old new before after} (n : IsNextChild w) → nodes_of w.done + nodes n.child < nodes (plain (root_tree i old))
fewer_nodes {i = i} {old = old} {w = w} n = omega (arith, nodes_by_children (plain (root_tree i old)), ap nodes_of n.split, nodes_append w.done (more n.child n.rest))

-- the parent, and its tree
pub record IsThere (i : ℕ) (label : Label) (below others behind f : Forest) : Type 0 where
  pub root : has_root i f ≡ true
  pub tree-is : root_tree i f ≡ tree label below empty
  pub put-is : (n : Forest) → put i n f ≡ join others (tree label n behind)

there : {i : ℕ} {label : Label} {below others behind f : Forest} → has_root i others ≡ false → label.id ≡ i → f ≡ join others (tree label below behind) → IsThere i label below others behind f
there c q e = grind (arith, root-right, tree-right, put-right)

pub next_there : {A : Tree → Tree → Type 0} {i leaves at : ℕ} {old new : Forest} {before after : List BreakerState} {w : IsWalked A i leaves at old new before after} (n : IsNextChild w)
    → IsThere i w.label (join w.front (tree n.label n.below n.others)) (without_root i old) w.behind new
next_there {w = w} n = there w.clear w.id-is n.whole

-- it is among its children
pub next_within : {A : Tree → Tree → Type 0} {i leaves at : ℕ} {s : State} {old : Forest} {before after : List BreakerState} {w : IsWalked A i leaves at old (forest s) before after} (n : IsNextChild w) → Stands s → leaves < arity (kids_of i (forest s))
next_within {i = i} {w = w} n st =
    let p = next_there n in
    omega (arith, ap arity (kids_of_root i st p.root), ap (λ (x : Forest). arity (kids x)) p.tree-is, arity-join w.front (tree n.label n.below n.others), w.leaves-are)

-- it is taken out
pub next_taken : {A : Tree → Tree → Type 0} {i leaves at h : ℕ} {old new g : Forest} {before after : List BreakerState} {w : IsWalked A i leaves at old new before after} (n : IsNextChild w)
    → Ends h (tree_nth leaves (kids (root_tree i new))) (put i (without_nth leaves (kids (root_tree i new))) new) g
    → Gives (join (without_root i old) (tree w.label (join w.front n.others) w.behind)) g h (λ u. u ≡ n.child)
next_taken {i = i} {leaves = leaves} {new = new} {w = w} n d =
    let p = next_there n in
    let c = tree n.label n.below n.others in
    let k : kids (root_tree i new) ≡ join w.front c = ap kids p.tree-is in
    let behind : rest_trees leaves (join w.front c) ≡ c = ap (λ (m : ℕ). rest_trees m (join w.front c)) w.leaves-are ∙ rest_trees-join w.front c in
    let before : first_trees leaves (join w.front c) ≡ w.front = ap (λ (m : ℕ). first_trees m (join w.front c)) w.leaves-are ∙ first_trees-join w.front c in
    let taken : tree_nth leaves (kids (root_tree i new)) ≡ tree n.label n.below empty = ap (tree_nth leaves) k ∙ ap (first_trees 1) behind in
    let left : without_nth leaves (kids (root_tree i new)) ≡ join w.front n.others = ap (without_nth leaves) k ∙ ap (λ (x : Forest). join x (rest_trees 1 (rest_trees leaves (join w.front c)))) before ∙ ap (λ (x : Forest). join w.front (rest_trees 1 x)) behind in
    gives (ends_as d taken (ap (λ (x : Forest). put i x new) left ∙ p.put-is (join w.front n.others))) n.one refl

-- what a call gave stands last
pub stands_last : {others f : Forest} {j : ℕ} {Told : Tree → Type 0} → Gives others f j Told → Ends j (root_tree j f) (without_root j f) f
stands_last g = ends_as g.ends (sym (last_tree g.ends)) (sym (last_rest g.ends))

-- and has its answer
pub next_walked : {A : Tree → Tree → Type 0} {i leaves at h j : ℕ} {old new g end : Forest} {before after last : List BreakerState} {w : IsWalked A i leaves at old new before after} (n : IsNextChild w)
    → Gives (join (without_root i old) (tree w.label (join w.front n.others) w.behind)) g h (λ u. u ≡ n.child)
    → Gives (without_root h g) end j (A (plain (root_tree h g))) → CalmChecks (nodes (plain (root_tree h g))) after last → IsWalked A i leaves (at + 1) old end before last
next_walked {A = A} {i = i} {leaves = leaves} {h = h} {old = old} {g = g} {end = end} {before = before} {after = after} {last = last} {w = w} n a r c =
    let child : plain (root_tree h g) ≡ n.child = given_told a in
    let x = gives_as r (given_rest a) (λ t k. k) in
    let done = append w.done (more n.child none) in
    let answer = plain x.tree in
    let checks : CalmChecks (nodes n.child) after last = subst (λ (t : Tree). CalmChecks (nodes t) after last) child c in
    let all : nodes_of w.done + nodes n.child ≡ nodes_of done = omega (arith, nodes_append w.done (more n.child none)) in
    record {
      done = done;
      answers = append w.answers (more answer none);
      rest = n.rest;
      split = n.split ∙ sym (append_assoc w.done (more n.child none) n.rest);
      count-is = omega (arith, w.count-is, count_append w.done (more n.child none));
      become = answers_append A w.done w.answers n.child answer w.become (subst (λ (t : Tree). A t answer) child x.told);
      calm = subst (λ (m : ℕ). CalmChecks m before last) all (CalmChecks-append (nodes_of w.done) (nodes n.child) before after last w.calm checks);
      label = w.label;
      id-is = w.id-is;
      once = w.once;
      payload = w.payload;
      clear = w.clear;
      front = w.front;
      back = n.others;
      behind = join w.behind x.tree;
      whole = x.ends.whole ∙ join_assoc (without_root i old) (tree w.label (join w.front n.others) w.behind) x.tree;
      leaves-are = w.leaves-are;
      behind-are = omega (arith, w.behind-are, arity-join w.behind x.tree, x.ends.alone);
      answered = represents_as (represents_join w.answered (record { once = x.once; whole = x.whole; plain_trees = alone x.tree x.ends.alone })) (join_assoc w.front w.behind x.tree) refl;
      left = n.left;
    }

-- ---- all children

pub record AllWalked (A : Tree → Tree → Type 0) (i : ℕ) (old new : Forest) (before after : List BreakerState) : Type 0 where
  pub answers : Trees
  pub become : AreAnswers A (children_of (plain (root_tree i old))) answers
  pub calm : CalmChecks (nodes_of (children_of (plain (root_tree i old)))) before after
  pub parent : IsParent (held_at i old) i answers new
  pub last : Ends i (root_tree i new) (without_root i new) new
  pub rest : without_root i new ≡ without_root i old
  pub front : KeepsFront (i ∷ []) old new

pub none_left : (first rest : Trees) → count (append first rest) ≤ count first → rest ≡ none
none_left first none l = refl
none_left first (more t rest) l = absurd (omega (arith, count_append first (more t rest)))

-- the parent is there, with the answers right behind it
pub record IsLeft (i leaves at : ℕ) (f : Forest) : Type 0 where
  pub root : has_root i f ≡ true
  pub within : at - leaves ≤ arity (behind_root i f)

pub to_adopt : {A : Tree → Tree → Type 0} {i leaves at count : ℕ} {old new : Forest} {before after : List BreakerState} (w : IsWalked A i leaves at old new before after) → count ≤ at → IsLeft i leaves count new
to_adopt w l = grind (arith, there, behind_there)

pub all_walked : {A : Tree → Tree → Type 0} {i leaves at n : ℕ} {old new end : Forest} {before after : List BreakerState} (w : IsWalked A i leaves at old new before after) → n ≡ count (children_of (plain (root_tree i old))) → n ≤ at
    → end ≡ adopted i (n - leaves) new → AllWalked A i old end before after
all_walked w m l e = grind (arith, none_left, no_trees, represents_count, append-none, count_append, adopted_all, join-empty, last_tree, last_root, represents_as, ends_as, last_rest, starts_behind)

-- how many children a reader tells of a handed tree
pub many_children : {s : State} {i j n : ℕ} → j ≡ i → Stands s → IsHanded i (forest s) → (IsExpression j (forest s) → n ≡ count (children_of (plain (tree_at j (forest s))))) → n ≡ count (children_of (tree_of i s))
many_children e st h told = told (expression e st h) ∙ ap (λ (t : Tree). count (children_of t)) (seen e st h)

-- what stood first before a child was taken still does
pub child_front : {i h : ℕ} {old g end : Forest} {u : Tree} (f : Forest) → Gives (join (without_root i old) f) g h (λ t. t ≡ u) → KeepsFront (h ∷ []) g end → KeepsFront (i ∷ []) old end
child_front {i = i} {old = old} f a k =
    let front : KeepsFront (i ∷ []) old (join (without_root i old) f) = starts_behind f refl in
    front_after_one (behind_new a.ends front) (front_end a.ends front) k

-- ---- a tree that is brought to the end

pub record IsMoved (i : ℕ) (old new : Forest) : Type 0 where
  pub same : root_tree i new ≡ root_tree i old
  pub rest : without_root i new ≡ without_root i old
  pub handed : IsHanded i new
  pub last : Ends i (root_tree i new) (without_root i new) new
  pub front : KeepsFront (i ∷ []) old new

pub moved : {i : ℕ} {old new : Forest} → IsHanded i old → Ends i (root_tree i old) (without_root i old) new → IsMoved i old new
moved h e = grind (arith, last_tree, last_rest, last_root, ends_as, starts_behind)
