-- A name is replaced in the last tree: how it begins, goes on and ends, and what finds room.
use Rattle.tree_walks.proofs.Shared.{◌≡◌, ℕ, suc, ◌+◌, ◌-◌, ◌<◌, ◌≤◌, List, ◌∷◌, ◌++◌, length, refl, sym, ap, ◌∙◌, subst, arith, append_assoc, inl, inr, true, false, [], le-leb, lt-leb, length-append}
use Rattle.tree_walks.proofs.Shared.{Payload, Tree, Trees, symbol, none, more, size, root_size, State, free_of, nth, grown, plains, plain, AllExpressions, IsExpression, Label, Forest, empty, tree}
use Rattle.tree_walks.proofs.Shared.{join, arity, kids, root_id, root_count, root_payload, flatten, set_nth, tree_nth, bytes_in, AllOnce, IsOwned, Ends, Gives, IsHanded, KeepsFront, tree_of, holds}
use Rattle.tree_walks.proofs.Shared.{tree_at, kids_of, with_kids, payload_in, without_root, Stands, forest, KeepsRefusals, IsRefused, Refuses, Distinct, distinct, distinct_parts, other_id}
use Rattle.tree_walks.proofs.Shared.{clear_front, arity-tree_nth, bytes_in-join, flatten-join, keeps_none, keeps_after, refuses_after, given_handed, given_other, given_root, given_told, ends_at}
use Rattle.tree_walks.proofs.Shared.{ends_without, last_root, last_tree, other_tree, tree_of_root, one_at, alone, size-plain, replaced, replaced_in, replacing, occurrences, IsLeafAt, PutsCopy}
use Rattle.tree_walks.proofs.Shared.{has_name, leaves_of, leb, Ok, Err, Full, AreDistinct, AreDistinct-parts, starts_join, starts_same, starts_without, holds-left, holds-right, kids_of-join_right}
use Rattle.tree_walks.proofs.{Shared.{tree_at-join_left, with_kids-join_right, used_forest, given_free, released_free}, Holes.{IsBelow, hole}, LeafLists.{later, later-all, later-none, leaves_plain}}
use Rattle.tree_handles.proofs.SmallLaws.{starts_behind as front_kept}
use Rattle.std.proofs.Common.{append-nil}

-- ---- a leaf goes

once_leaf : (t : Forest) → arity t ≡ 1 → kids t ≡ empty → root_count t ≡ 1 → AllOnce t
once_leaf (tree l b empty) a k c = (c, subst AllOnce (sym k) tt, tt)
once_leaf t a k c = absurd (omega arith)

-- it stands last, and no other root is held by its handle
pub record IsLastLeaf (t others : Forest) (h : ℕ) (s : State) : Type 0 where
  pub ends : Ends h t others (forest s)
  pub owned : IsOwned h (forest s)

pub last_leaf : {at parent i h : ℕ} {f : Forest} (t : Forest) (s : State) → Stands s → IsLeafAt at parent i f → h ≡ i
    → forest s ≡ join (with_kids parent (set_nth at t (kids_of parent f)) f) (tree_nth at (kids_of parent f))
    → IsLastLeaf (tree_nth at (kids_of parent f)) (with_kids parent (set_nth at t (kids_of parent f)) f) h s
last_leaf {at = at} {parent = parent} {h = h} {f = f} t s st l e q =
    let leaf = tree_nth at (kids_of parent f) in
    let others = with_kids parent (set_nth at t (kids_of parent f)) f in
    let one = arity-tree_nth at (kids_of parent f) l.child.within in
    let is : h ≡ root_id leaf = e ∙ l.child.id-is in
    let ends : Ends h leaf others (forest s) = record { whole = q; alone = one; root = sym is; clear = clear_front h others leaf (forest s) q is one (distinct s st) } in
    record { ends = ends; owned = record { root = last_root ends; once = subst AllOnce (sym (last_tree ends)) (once_leaf leaf one l.bare l.once) } }

-- ---- the tree that is put in

-- it stands in some trees
pub record IsSource (j : ℕ) (u : Tree) (others : Forest) : Type 0 where
  pub live : holds j others ≡ true
  pub whole : AllExpressions (tree_at j others)
  pub told : plain (tree_at j others) ≡ u

pub source : {others f : Forest} {i : ℕ} {Told : Tree → Type 0} (j : ℕ) → Gives others f i Told → IsExpression j f → holds j others ≡ true → IsSource j (plain (tree_at j f)) others
source {others = others} j g w h =
    let same = ap (tree_at j) g.ends.whole ∙ tree_at-join_left j others g.tree h in
    record { live = h; whole = subst AllExpressions same w.whole; told = ap plain (sym same) }

-- and so in those with others behind them
pub record IsSourceIn (j : ℕ) (u : Tree) (f : Forest) : Type 0 where
  pub expression : IsExpression j f
  pub told : plain (tree_at j f) ≡ u
  pub bytes : bytes_in (tree_at j f) ≡ size u

pub source_in : {j : ℕ} {u : Tree} {others f : Forest} (now : Forest) → IsSource j u others → f ≡ join others now → IsSourceIn j u f
source_in {j = j} {others = others} now h e =
    let same = ap (tree_at j) e ∙ tree_at-join_left j others now h.live in
    record {
      expression = record { live = ap (holds j) e ∙ holds-left j others now h.live; whole = subst AllExpressions (sym same) h.whole };
      told = ap plain same ∙ h.told;
      bytes = ap bytes_in same ∙ sym (size-plain (tree_at j others) (one_at j others h.live) h.whole) ∙ ap size h.told;
    }

-- ---- copies and room

-- one copy more finds room, or it does not
more_room : (free n copy leaf : ℕ) → copy ≤ free → replacing free (suc n) copy leaf ≡ replacing (free - copy + leaf) n copy leaf
more_room free n copy leaf h = let yes : leb copy free ≡ true = le-leb copy free h in rw yes refl

no_room : {full : Full} (n leaf : ℕ) → full.free < full.needed → replacing full.free (suc n) full.needed leaf ≡ Err full
no_room {full = full} n leaf h = let no : leb full.needed full.free ≡ false = lt-leb full.needed full.free h in rw no refl

-- a refused copy tells both
refused_room : {need : ℕ} {s v : State} {full : Full} (n leaf : ℕ) (u : Tree) → need ≡ size u → IsRefused need s v full → replacing (free_of s) (suc n) (size u) leaf ≡ Err full
refused_room {s = s} {full = full} n leaf u e f =
    let told : full ≡ record { needed = size u; free = free_of s } = f.told ∙ ap (λ (m : ℕ). record { needed = m; free = free_of s }) e in
    sym (ap (λ (y : Full). replacing y.free (suc n) y.needed leaf) told) ∙ no_room n leaf f.lacks.lacking

-- ---- the walk

pub record IsFilling (i : ℕ) (x : List ℕ) (u : Tree) (start s : State) (n : ℕ) (todo : List ℕ) : Type 0 where
  pub now : Forest
  pub ends : Ends i now (without_root i (forest start)) (forest s)
  pub once : AllOnce now
  pub whole : AllExpressions now
  pub inner : has_name x (root_payload now) ≡ false
  pub passed : List ℕ
  pub many : length passed ≡ n
  pub leaves : leaves_of x now ≡ passed ++ todo
  pub told : later x u n now ≡ more (replaced x u (tree_of i start)) none
  pub room : replacing (free_of s) (length todo) (size u) (root_size (symbol x)) ≡ replacing (free_of start) (occurrences x (tree_of i start)) (size u) (root_size (symbol x))
  pub kept : KeepsRefusals start s
  pub stands : Stands s

pub begins : {i : ℕ} {s : State} {Told : Tree → Type 0} (x : List ℕ) (u : Tree) → Stands s → Gives (without_root i (forest s)) (forest s) i Told
    → has_name x (payload_in i (forest s)) ≡ false → IsFilling i x u s s 0 (leaves_of x (tree_at i (forest s)))
begins {i = i} {s = s} x u st g h =
    let root : tree_at i (forest s) ≡ g.tree = tree_of_root i st (last_root g.ends) ∙ last_tree g.ends in
    let told : plain g.tree ≡ tree_of i s = ap plain (sym (last_tree g.ends)) in
    record {
      now = g.tree;
      ends = g.ends;
      once = g.once;
      whole = g.whole;
      inner = sym (ap (λ (t : Forest). has_name x (root_payload t)) root) ∙ h;
      passed = [];
      many = refl;
      leaves = sym (ap (leaves_of x) root);
      told = later-none x u 0 g.tree refl ∙ ap (replaced_in x u) (alone g.tree g.ends.alone) ∙ ap (λ (t : Tree). more (replaced x u t) none) told;
      room = ap (λ (n : ℕ). replacing (free_of s) n (size u) (root_size (symbol x)))
          (ap (λ (t : Forest). length (leaves_of x t)) root ∙ leaves_plain x g.tree g.ends.alone g.whole ∙ ap (occurrences x) told);
      kept = keeps_none s;
      stands = st;
    }

-- the leaves of the tree
pub leaves_now : {i n : ℕ} {x todo : List ℕ} {u : Tree} {start s : State} (w : IsFilling i x u start s n todo) → leaves_of x (tree_at i (forest s)) ≡ w.passed ++ todo
leaves_now {i = i} {x = x} w = ap (leaves_of x) (tree_of_root i w.stands (last_root w.ends) ∙ last_tree w.ends) ∙ w.leaves

-- ---- one leaf more

apart : (i : ℕ) (f g : Forest) → Distinct (join f g) → holds i g ≡ true → holds i f ≡ false
apart i empty g d h = refl
apart i (tree l k r) g d h = let p = distinct_parts l k (join r g) d in grind (arith, holds-right, other_id, p.apart i, apart i r g p.behind)

not_root : (x : List ℕ) (t : Forest) (l : Label) (at : ℕ) → arity t ≡ 1 → at < arity t → tree_nth at t ≡ tree l empty empty → has_name x l.payload ≡ true → has_name x (root_payload t) ≡ false → ⊥
not_root x t l at a h e p q = grind arith

pub record IsNext (i : ℕ) (x : List ℕ) (u : Tree) (start s : State) (n j : ℕ) (rest : List ℕ) : Type 0 where
  pub at : ℕ
  pub parent : ℕ
  pub leaf : IsLeafAt at parent j (forest s)
  pub goes : (v : State) → PutsCopy u at parent (forest s) (forest v) → size u ≤ free_of s → KeepsRefusals s v → Stands v → IsFilling i x u start v (n + occurrences x u) rest

pub next : {i n j : ℕ} {x rest : List ℕ} {u : Tree} {start s : State} → IsFilling i x u start s n (j ∷ rest) → IsNext i x u start s n j rest
next {i = i} {n = n} {j = j} {x = x} {rest = rest} {u = u} {start = start} {s = s} w =
    let others = without_root i (forest start) in
    let all : Distinct (join others w.now) = subst Distinct w.ends.whole (distinct s w.stands) in
    let p = hole x w.now w.passed rest j (AreDistinct-parts (flatten others) (flatten w.now) (subst AreDistinct (flatten-join others w.now) all)).1 w.once w.whole w.leaves in
    let b : IsBelow w.now p.label p.fill = elim p.place [ inl a ↦ absurd (not_root x w.now p.label a.at w.ends.alone a.within a.tree-is p.named w.inner) | inr b ↦ b ] in
    let clear : holds b.parent others ≡ false = apart b.parent others w.now all b.live in
    let same : kids_of b.parent (forest s) ≡ kids_of b.parent w.now = ap (kids_of b.parent) w.ends.whole ∙ kids_of-join_right b.parent others w.now clear in
    let leaf : tree_nth b.at (kids_of b.parent (forest s)) ≡ tree p.label empty empty = ap (tree_nth b.at) same ∙ b.tree-is in
    record {
      at = b.at;
      parent = b.parent;
      leaf = record { child = record { within = rw same b.within; id-is = sym p.id-is ∙ ap root_id (sym leaf) }; bare = ap kids leaf; once = ap root_count leaf ∙ p.held_once };
      goes = λ v c room kept sv.
          let copy = c.copy in
          let one : arity copy ≡ 1 = one_tree copy c.is.plain_trees in
          let told : plain copy ≡ u = ap (nth 0) c.is.plain_trees in
          let count : length (leaves_of x copy) ≡ occurrences x u = leaves_plain x copy one c.is.whole ∙ ap (occurrences x) told in
          let whole : forest v ≡ join others (p.fill copy) = c.forest-is ∙ ap (λ (k : Forest). with_kids b.parent (set_nth b.at copy k) (forest s)) same
          ∙ ap (with_kids b.parent (set_nth b.at copy (kids_of b.parent w.now))) w.ends.whole
          ∙ with_kids-join_right b.parent (set_nth b.at copy (kids_of b.parent w.now)) others w.now clear ∙ ap (join others) (sym (b.fill-is copy)) in
          let left : free_of v ≡ free_of s - size u + root_size (symbol x) =
          omega (arith, used_forest s w.stands, used_forest v sv, kept.size, w.stands.pool.fits, sv.pool.fits, ap bytes_in w.ends.whole, ap bytes_in whole, bytes_in-join others w.now, bytes_in-join others (p.fill copy), p.bytes copy, size-plain copy one c.is.whole, ap size told, room) in
          record {
            now = p.fill copy;
            ends = record { whole = whole; alone = p.many copy one ∙ w.ends.alone; root = (b.root copy).0 ∙ w.ends.root; clear = w.ends.clear };
            once = p.once copy c.is.once;
            whole = p.whole copy one c.is.whole;
            inner = ap (has_name x) ((b.root copy).1) ∙ w.inner;
            passed = w.passed ++ leaves_of x copy;
            many = omega (arith, length-append w.passed (leaves_of x copy), w.many, count);
            leaves = p.leaves copy ∙ sym (append_assoc w.passed (leaves_of x copy) rest);
            told = ap (λ (m : ℕ). later x u m (p.fill copy)) (omega (arith, w.many, count)) ∙ p.told u copy c.is.plain_trees ∙ ap (λ (m : ℕ). later x u m w.now) w.many ∙ w.told;
            room = ap (λ (m : ℕ). replacing m (length rest) (size u) (root_size (symbol x))) left ∙ sym (more_room (free_of s) (length rest) (size u) (root_size (symbol x)) room) ∙ w.room;
            kept = keeps_after start s v w.kept kept;
            stands = sv;
          };
    }
  where
    one_tree : (c : Forest) {t : Tree} → plains c ≡ more t none → arity c ≡ 1
    one_tree (tree l k empty) e = refl
    one_tree c e = absurd cc

-- ---- it ends

-- a copy finds no room
pub record IsStopped (i : ℕ) (x : List ℕ) (u : Tree) (start v : State) (full : Full) : Type 0 where
  pub told : replacing (free_of start) (occurrences x (tree_of i start)) (size u) (root_size (symbol x)) ≡ Err full
  pub refuses : Refuses start v full
  pub front : KeepsFront (i ∷ []) (forest start) (forest v)

pub stopped : {i n j need : ℕ} {x rest : List ℕ} {u : Tree} {start s v : State} {full : Full} → IsFilling i x u start s n (j ∷ rest) → need ≡ size u → IsRefused need s v full
    → IsStopped i x u start v full
stopped {x = x} {rest = rest} {u = u} {start = start} {s = s} {v = v} {full = full} w e f = record {
  told = sym w.room ∙ refused_room (length rest) (root_size (symbol x)) u e f;
  refuses = refuses_after start s v full w.kept f.refuses;
  front = front_kept w.now (f.same ∙ w.ends.whole);
}

-- no leaf is left
pub record IsDone (i h : ℕ) (x : List ℕ) (u : Tree) (start v : State) : Type 0 where
  pub gives : Gives (without_root i (forest start)) (forest v) h (λ t. t ≡ replaced x u (tree_of i start))
  pub room : replacing (free_of start) (occurrences x (tree_of i start)) (size u) (root_size (symbol x)) ≡ Ok (free_of v)
  pub front : KeepsFront (i ∷ []) (forest start) (forest v)

pub ended : {i n : ℕ} {x todo : List ℕ} {u : Tree} {start s : State} → IsFilling i x u start s n todo → todo ≡ [] → IsDone i i x u start s
ended {n = n} {x = x} {u = u} {s = s} w e =
    let all : leaves_of x w.now ≡ w.passed = w.leaves ∙ ap (λ (ys : List ℕ). w.passed ++ ys) e ∙ append-nil w.passed in
    record {
      gives = record { tree = w.now; ends = w.ends; once = w.once; whole = w.whole; told = ap (nth 0) (sym (later-all x u n w.now (omega (arith, ap length all, w.many))) ∙ w.told) };
      room = sym w.room ∙ ap (λ (ys : List ℕ). replacing (free_of s) (length ys) (size u) (root_size (symbol x))) e;
      front = front_kept w.now w.ends.whole;
    }

-- ---- the whole tree is a leaf of the name

pub record IsLeaf (x : List ℕ) (u t : Tree) : Type 0 where
  pub count : occurrences x t ≡ suc 0
  pub told : u ≡ replaced x u t
  pub bytes : size t ≡ root_size (symbol x)

leaf_told : (x : List ℕ) (u : Tree) (q : Payload) (ts : Trees) → has_name x q ≡ true → IsLeaf x u (grown q ts)
leaf_told x u q ts h = grind arith

leaf_tree : (x : List ℕ) (u : Tree) (t : Forest) → arity t ≡ 1 → has_name x (root_payload t) ≡ true → IsLeaf x u (plain t)
leaf_tree x u t a h = grind (arith, leaf_told)

pub leaf : {i : ℕ} {s : State} {Told : Tree → Type 0} (x : List ℕ) (u : Tree) → Stands s → Gives (without_root i (forest s)) (forest s) i Told
    → has_name x (payload_in i (forest s)) ≡ true → IsLeaf x u (tree_of i s)
leaf {i = i} {s = s} x u st g h =
    let root : tree_at i (forest s) ≡ g.tree = tree_of_root i st (last_root g.ends) ∙ last_tree g.ends in
    subst (IsLeaf x u) (ap plain (sym (last_tree g.ends))) (leaf_tree x u g.tree g.ends.alone (sym (ap (λ (t : Forest). has_name x (root_payload t)) root) ∙ h))

-- it is refused
pub leaf_stopped : {need : ℕ} {x : List ℕ} {u : Tree} {s t : State} {full : Full} (i : ℕ) → IsLeaf x u (tree_of i s) → need ≡ size u → IsRefused need s t full
    → replacing (free_of s) (occurrences x (tree_of i s)) (size u) (root_size (symbol x)) ≡ Err full
leaf_stopped {x = x} {u = u} {s = s} i l e f = ap (λ (n : ℕ). replacing (free_of s) n (size u) (root_size (symbol x))) l.count ∙ refused_room 0 (root_size (symbol x)) u e f

-- or a copy takes its place
pub leaf_goes : {i h : ℕ} {others f g : Forest} {Told P : Tree → Type 0} → Gives others f i Told → Gives f g h P → IsHanded i g
leaf_goes g c = given_other c (given_handed g)

pub leaf_done : {i h : ℕ} {x : List ℕ} {u : Tree} {s t v : State} {Told : Tree → Type 0} → IsLeaf x u (tree_of i s) → Stands s → Stands t → Stands v
    → Gives (without_root i (forest s)) (forest s) i Told → Gives (forest s) (forest t) h (λ y. y ≡ u)
    → KeepsRefusals s t → KeepsRefusals t v → forest v ≡ without_root i (forest t) → IsDone i h x u s v
leaf_done {i = i} {x = x} {u = u} {s = s} {t = t} {v = v} l ss st sv g c a b e =
    let ends = ends_at (ends_without i c.ends (given_root g)) e in
    let same : tree_of i t ≡ tree_of i s = ap plain (other_tree i c.ends (given_root g)) in
    let taken : free_of s ≡ free_of t + size u = given_free ss st a c ∙ ap (λ (y : Tree). free_of t + size y) (given_told c) in
    let back : free_of v ≡ free_of t + root_size (symbol x) = released_free st sv b (leaf_goes g c) e ∙ ap (λ (y : Tree). free_of t + size y) same ∙ ap (λ (n : ℕ). free_of t + n) l.bytes in
    record {
      gives = record { tree = c.tree; ends = ends; once = c.once; whole = c.whole; told = c.told ∙ l.told };
      room = ap (λ (n : ℕ). replacing (free_of s) n (size u) (root_size (symbol x))) l.count ∙ more_room (free_of s) 0 (size u) (root_size (symbol x)) (omega (arith, taken))
          ∙ ap Ok (omega (arith, taken, back));
      front = front_kept c.tree ends.whole;
    }

-- ---- results
