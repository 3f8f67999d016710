-- The building of a tree, node by node.
use Rattle.calc_parser.proofs.Shared.{◌≡◌, ℕ, ◌+◌, ◌-◌, ◌<◌, ◌≤◌, List, [], ◌∷◌, ◌++◌, length, take, drop, map, true, Bool, Err, IsOk, Option, Some, None, MatchOption, if◌then◌else◌, refl, sym, ap}
use Rattle.calc_parser.proofs.Shared.{◌∙◌, subst, arith, leb, drop-cons, add-one, le-leb, lt-leb, leb-true, leb-false, get_or-append_right, drop_all, Payload, size_of_payload, Tree, Trees, none, more}
use Rattle.calc_parser.proofs.Shared.{append, count, free_of, Full, LacksBytes, Stands, forest, KeepsRefusals, IsRefused, Refuses, Forest, empty, tree, join, arity, one_tree, bytes_in, before_last}
use Rattle.calc_parser.proofs.Shared.{last_trees, Ends, Gives, Represents, KeepsFront, IsOnce, ends_as, represents_none, represents_node, represents_join, represents_as, gives, free_forest, by_test}
use Rattle.calc_parser.proofs.Shared.{Step, Node, postfix, bytes_of_node, placing, children_in, tree_over, takes_children, Grows, before-last, arity-last_trees, before_last-join, last_trees-join}
use Rattle.calc_parser.proofs.Shared.{IsSome, take-append_seam, takes, plains, IsWhole, arity-join, bytes_in-join, join_assoc, all-first_trees, all-rest_trees, keeps_after, refuses_after, join-empty}
use Rattle.calc_parser.proofs.{Shared.{starts_join, starts_same, front_at, plains-join, count-plains}, Replay.{Takes, Makes, same_parts, replayed}}
use Rattle.calc_terms.proofs.SmallLaws.{count_append as count-append}
use Rattle.std.specs.Prelude.{get_or}
use Rattle.node_pool.specs.State.{State}
use Rattle.tree_handles.proofs.Refused.{kept_same as keeps_none}

-- ---- where trees begin

-- trees that stand one behind the other from a place on begin at these places
abbrev pub places_from : ℕ → Forest → List ℕ
places_from at empty = []
places_from at (tree l k r) = at ∷ places_from (at + bytes_in (tree l k empty)) r

places_as : (at to : ℕ) (f : Forest) → at ≡ to → places_from at f ≡ places_from to f
places_as at to f e = ap (λ k. places_from k f) e

pub places_from-join : (at : ℕ) (f g : Forest) → places_from at (join f g) ≡ places_from at f ++ places_from (at + bytes_in f) g
places_from-join at empty g = places_as at (at + 0) g (omega arith)
places_from-join at (tree l k r) g = grind (arith, places_as, places_from-join (at + bytes_in (tree l k empty)) r g)

pub length-places_from : (at : ℕ) (f : Forest) → length (places_from at f) ≡ arity f
length-places_from at empty = refl
length-places_from at (tree l k r) = omega (arith, length-places_from (at + bytes_in (tree l k empty)) r)

begins_first : (at : ℕ) (f : Forest) → get_or (places_from at f) 0 (at + bytes_in f) ≡ at
begins_first at empty = omega arith
begins_first at (tree l k r) = refl

-- ---- one node further

-- the last trees beside the others
pub record IsParted (n : Node) (base trees : Forest) (below us : Trees) (f : Forest) : Type 0 where
  pub front : Forest
  pub last : Forest
  pub whole : trees ≡ join front last
  pub many : arity last ≡ children_in n
  pub fronts : Represents front below
  pub lasts : Represents last us
  pub before-is : before_last (children_in n) f ≡ join base front
  pub last-is : last_trees (children_in n) f ≡ last
  pub few : children_in n ≤ arity f

pub parted : (n : Node) (base trees f : Forest) (plain below us : Trees) → f ≡ join base trees → Represents trees plain → Takes n plain below us → IsParted n base trees below us f
parted n base trees f plain below us e r t =
    let k = children_in n in
    let front = before_last k trees in
    let last = last_trees k trees in
    let counted : arity trees ≡ count below + count us = sym (count-plains trees) ∙ ap count (r.plain_trees ∙ t.whole) ∙ count-append below us in
    let few : k ≤ arity trees = omega (arith, t.many) in
    let whole : join front last ≡ trees = before-last k trees in
    let many : arity last ≡ k = arity-last_trees k trees few in
    let same : count (plains last) ≡ count us = count-plains last ∙ many ∙ sym t.many in
    let parts = same_parts (plains front) (plains last) below us (sym (plains-join front last) ∙ ap plains whole ∙ r.plain_trees ∙ t.whole) same in
    let grouped : f ≡ join (join base front) last = e ∙ ap (join base) (sym whole) ∙ sym (join_assoc base front last) in
    let size : arity f ≡ arity base + arity trees = ap arity e ∙ arity-join base trees in
    record {
      front = front;
      last = last;
      whole = sym whole;
      many = many;
      fronts = record { once = all-first_trees IsOnce (arity trees - k) trees r.once; whole = all-first_trees IsWhole (arity trees - k) trees r.whole; plain_trees = parts.fronts };
      lasts = record { once = all-rest_trees IsOnce (arity trees - k) trees r.once; whole = all-rest_trees IsWhole (arity trees - k) trees r.whole; plain_trees = parts.ends };
      before-is = ap (before_last k) grouped ∙ before_last-join k (join base front) last (sym many);
      last-is = ap (last_trees k) grouped ∙ last_trees-join k (join base front) last (sym many);
      few = omega arith;
    }

-- ---- the building

-- since the old state these trees were built behind the others, and the rest of the nodes goes on with them
pub record IsUnderWay (old now : State) (places : List ℕ) (all rest : List Node) : Type 0 where
  pub trees : Forest
  pub plain : Trees
  pub whole : forest now ≡ join (forest old) trees
  pub places-are : places ≡ places_from (bytes_in (forest old)) trees
  pub represents : Represents trees plain
  pub goal : Tree
  pub all-are : all ≡ postfix goal
  pub makes : Makes plain rest goal
  pub budget : placing (free_of old) all ≡ placing (free_of now) rest
  pub keeps : KeepsRefusals old now
  pub stands : Stands now

pub begins : (old : State) (all : List Node) (t : Tree) → all ≡ postfix t → Stands old → IsUnderWay old old [] all all
begins old all t e h = grind (arith, join-empty, represents_none, replayed, keeps_none)

-- a node that may be placed over the last trees, which begin at a place
pub record IsReady (n : Node) (now : State) (from : ℕ) : Type 0 where
  pub takes : takes_children n ≡ true
  pub few : children_in n ≤ arity (forest now)
  pub begin : from ≡ bytes_in (before_last (children_in n) (forest now))

begin_of : (base front last : Forest) (places : List ℕ) (k from end : ℕ) → places ≡ places_from (bytes_in base) (join front last) → arity last ≡ k → end ≡ bytes_in (join base (join front last)) → from ≡ get_or places (length places - k) end
    → from ≡ bytes_in (join base front)
begin_of base front last places k from end p e h f =
    let at = bytes_in base in
    let split : places ≡ places_from at front ++ places_from (at + bytes_in front) last = p ∙ places_from-join at front last in
    let long : length places ≡ arity front + arity last = ap length p ∙ length-places_from at (join front last) ∙ arity-join front last in
    let short : length (places_from at front) ≡ arity front = length-places_from at front in
    let index : length places - k ≡ arity front = omega arith in
    let size : end ≡ at + bytes_in front + bytes_in last = omega (arith, h, bytes_in-join base (join front last), bytes_in-join front last) in
    let read : get_or places (length places - k) end ≡ get_or (places_from (at + bytes_in front) last) (arity front - arity front) end
    = ap (λ i. get_or places i end) index ∙ ap (λ ps. get_or ps (arity front) end) split ∙ get_or-append_right (places_from at front) (places_from (at + bytes_in front) last) (arity front) (arity front) end short (omega arith) in
    let zero_is : arity front - arity front ≡ 0 = omega arith in
    let first : get_or (places_from (at + bytes_in front) last) (arity front - arity front) end ≡ at + bytes_in front
    = ap (λ i. get_or (places_from (at + bytes_in front) last) i end) zero_is ∙ ap (get_or (places_from (at + bytes_in front) last) 0) size ∙ begins_first (at + bytes_in front) last in
    f ∙ read ∙ first ∙ sym (bytes_in-join base front)

first_places : (base front last : Forest) (places : List ℕ) (k : ℕ) → places ≡ places_from (bytes_in base) (join front last) → arity last ≡ k → take (length places - k) places ≡ places_from (bytes_in base) front
first_places base front last places k p e =
    let at = bytes_in base in
    let long : length places ≡ arity front + arity last = ap length p ∙ length-places_from at (join front last) ∙ arity-join front last in
    let short : length (places_from at front) ≡ arity front = length-places_from at front in
    let index : length places - k ≡ length (places_from at front) = omega arith in
    ap (λ i. take i places) index ∙ ap (take (length (places_from at front))) (p ∙ places_from-join at front last) ∙ take-append_seam (places_from at front) (places_from (at + bytes_in front) last)

grown_bytes : (base front last f g : Forest) (id : ℕ) (x : Payload) (n : Node) → f ≡ join base (join front last) → g ≡ join (join base front) (one_tree id x last) → size_of_payload x ≡ bytes_of_node n → bytes_in g ≡ bytes_in f + bytes_of_node n
grown_bytes base front last f g id x n e h s = grind (arith, bytes_in-join)

pub by_room : (n : Node) (rest : List Node) (free : ℕ) → bytes_of_node n ≤ free → placing free (n ∷ rest) ≡ placing (free - bytes_of_node n) rest
by_room n rest free h = ap (λ (t : Bool). if t then placing (free - bytes_of_node n) rest else Err (record { needed = bytes_of_node n; free = free })) (le-leb (bytes_of_node n) free h)

no_room : (n : Node) (rest : List Node) (free : ℕ) → free < bytes_of_node n → placing free (n ∷ rest) ≡ Err (record { needed = bytes_of_node n; free = free })
no_room n rest free h = ap (λ (t : Bool). if t then placing (free - bytes_of_node n) rest else Err (record { needed = bytes_of_node n; free = free })) (lt-leb (bytes_of_node n) free h)

fits_next : (n : Node) (rest : List Node) (now next : State) → Stands now → Stands next → KeepsRefusals now next → bytes_of_node n ≤ free_of now → bytes_in (forest next) ≡ bytes_in (forest now) + bytes_of_node n
    → placing (free_of now) (n ∷ rest) ≡ placing (free_of next) rest
fits_next n rest now next h k l m e = grind (arith, free_forest, by_room)

module _ (old now : State) (places : List ℕ) (all : List Node) (n : Node) (rest : List Node) (u : IsUnderWay old now places all (n ∷ rest)) where
  pub ready : (from end : ℕ) → end ≡ bytes_in (forest now) → from ≡ get_or places (length places - children_in n) end → IsReady n now from
  ready from end e f =
      let (below, us, taken, rest_made) = u.makes in
      let p = parted n (forest old) u.trees (forest now) u.plain below us u.whole u.represents taken in
      let at = begin_of (forest old) p.front p.last places (children_in n) from end (u.places-are ∙ ap (places_from (bytes_in (forest old))) p.whole) p.many (e ∙ ap bytes_in (u.whole ∙ ap (join (forest old)) p.whole)) f in
      record { takes = taken.takes; few = p.few; begin = at ∙ sym (ap bytes_in p.before-is) }

  -- the node was placed
  pub placed : (next : State) (id from end : ℕ) → end ≡ bytes_in (forest now) → from ≡ get_or places (length places - children_in n) end → Grows n (forest now) (forest next) id → KeepsRefusals now next → bytes_of_node n ≤ free_of now → Stands next
      → IsUnderWay old next (take (length places - children_in n) places ++ from ∷ []) all rest
  placed next id from end e f g kept room st =
      let (below, us, taken, rest_made) = u.makes in
      let k = children_in n in
      let base = forest old in
      let at = bytes_in base in
      let p = parted n base u.trees (forest now) u.plain below us u.whole u.represents taken in
      let split : places ≡ places_from at (join p.front p.last) = u.places-are ∙ ap (places_from at) p.whole in
      let begin : from ≡ bytes_in (join base p.front) = begin_of base p.front p.last places k from end split p.many (e ∙ ap bytes_in (u.whole ∙ ap (join base) p.whole)) f in
      let node = one_tree id g.payload p.last in
      let grew : forest next ≡ join (join base p.front) node
      = g.ends.whole ∙ ap (λ (x : Forest). join x (one_tree id g.payload (last_trees k (forest now)))) p.before-is ∙ ap (λ (x : Forest). join (join base p.front) (one_tree id g.payload x)) p.last-is in
      let number : takes g.payload (count us) ≡ true = ap (takes g.payload) taken.many ∙ g.takes_them taken.takes in
      let kept_places : take (length places - k) places ≡ places_from at p.front = first_places base p.front p.last places k split p.many in
      record {
        trees = join p.front node;
        plain = append below (more (tree_over n us) none);
        whole = grew ∙ join_assoc base p.front node;
        places-are = ap (λ ps. ps ++ from ∷ []) kept_places ∙ ap (λ x. places_from at p.front ++ x ∷ []) (begin ∙ bytes_in-join base p.front) ∙ sym (places_from-join at p.front node);
        represents = represents_as (represents_join p.fronts (represents_node id g.payload p.lasts number)) refl (ap (λ v. append below (more v none)) (g.tree_is us));
        goal = u.goal;
        all-are = u.all-are;
        makes = rest_made;
        budget = u.budget ∙ fits_next n rest now next u.stands st kept room (grown_bytes base p.front p.last (forest now) (forest next) id g.payload n (u.whole ∙ ap (join base) p.whole) grew g.bytes_are);
        keeps = keeps_after old now next u.keeps kept;
        stands = st;
      }

-- ---- how it ends

pub front : (old now : State) (places : List ℕ) (all rest : List Node) → IsUnderWay old now places all rest → KeepsFront [] (forest old) (forest now)
front old now places all rest u = record { keeps = λ p s n. starts_same p (join (forest old) u.trees) (forest now) u.whole (starts_join p (forest old) u.trees s) }

-- a node found no room
pub record IsStopped (old next : State) (all : List Node) (full : Full) : Type 0 where
  pub full-is : placing (free_of old) all ≡ Err full
  pub refuses : Refuses old next full
  pub lacks : LacksBytes next full
  pub front : KeepsFront [] (forest old) (forest next)

pub stopped : (old now next : State) (places : List ℕ) (all : List Node) (n : Node) (rest : List Node) (full : Full) → IsUnderWay old now places all (n ∷ rest) → free_of now < bytes_of_node n → IsRefused (bytes_of_node n) now next full
    → IsStopped old next all full
stopped old now next places all n rest full u short r =
    record {
      full-is = u.budget ∙ no_room n rest (free_of now) short ∙ ap Err (sym r.told);
      refuses = refuses_after old now next full u.keeps r.refuses;
      lacks = r.lacks;
      front = front_at (front old now places all (n ∷ rest) u) r.same;
    }

-- the last root
pub record IsLast (id : ℕ) (f : Forest) : Type 0 where
  pub tree : Forest
  pub others : Forest
  pub ends : Ends id tree others f

pub last_of_grown : (n : Node) (f g : Forest) (id : ℕ) → Grows n f g id → IsLast id g
last_of_grown n f g id h = record { tree = one_tree id h.payload (last_trees (children_in n) f); others = before_last (children_in n) f; ends = h.ends }

pub whole_tree : (old now : State) (places : List ℕ) (all : List Node) (id : ℕ) → IsUnderWay old now places all [] → IsLast id (forest now) → Gives (forest old) (forest now) id (λ t. all ≡ postfix t)
whole_tree old now places all id u l =
    let one : 1 ≡ arity u.trees = sym (ap count (u.represents.plain_trees ∙ u.makes)) ∙ count-plains u.trees in
    let before : forest old ≡ l.others = sym (before_last-join 1 (forest old) u.trees one) ∙ ap (before_last 1) (sym u.whole ∙ l.ends.whole) ∙ before_last-join 1 l.others l.tree (sym l.ends.alone) in
    let last : u.trees ≡ l.tree = sym (last_trees-join 1 (forest old) u.trees one) ∙ ap (last_trees 1) (sym u.whole ∙ l.ends.whole) ∙ last_trees-join 1 l.others l.tree (sym l.ends.alone) in
    gives (ends_as l.ends (sym last) (sym before)) (represents_as u.represents refl u.makes) u.all-are

-- no tree has no nodes
pub some_nodes : (t : Tree) → [] ≡ postfix t → ⊥
some_nodes t e = let m : Makes none [] t = replayed t [] e in none_left t m
  where
    none_left : (t : Tree) → none ≡ more t none → ⊥
    none_left t e = cc

-- ---- the steps of the code

-- the step that comes next, and those behind it
pub next_step : (f : Step → Node) (steps : List Step) (at : ℕ) (d : Step) → at < length steps → map f (drop at steps) ≡ f (get_or steps at d) ∷ map f (drop (at + 1) steps)
next_step f steps at d inside = rw (add-one, drop-cons steps at d inside) refl

pub no_step : (f : Step → Node) (steps : List Step) (at : ℕ) → length steps ≤ at → map f (drop at steps) ≡ []
no_step f steps at past = ap (map f) (drop_all at steps past)

-- the building before the next step
pub at_step : (old now : State) (places : List ℕ) (f : Step → Node) (steps : List Step) (at : ℕ) (d : Step) → at < length steps → IsUnderWay old now places (map f steps) (map f (drop at steps))
    → IsUnderWay old now places (map f steps) (f (get_or steps at d) ∷ map f (drop (at + 1) steps))
at_step old now places f steps at d inside u = subst (IsUnderWay old now places (map f steps)) (next_step f steps at d inside) u

-- a root was placed unless there were no steps
pub some_root : (P : ℕ → Type 0) (f : Step → Node) (steps : List Step) (t : Tree) (root : Option ℕ) (at : ℕ) → MatchOption root (at ≡ 0) P → length steps ≤ at → map f steps ≡ postfix t → IsSome root
some_root P f steps t (Some h) at m past e = refl
some_root P f steps t None at m past e = absurd (some_nodes t (sym (no_step f steps 0 (omega arith)) ∙ e))

pub that_root : (P : ℕ → Type 0) (root : Option ℕ) (h at : ℕ) → MatchOption root (at ≡ 0) P → root ≡ Some h → P h
that_root P root h at m e = subst (λ (r : Option ℕ). MatchOption r (at ≡ 0) P) e m

-- what is not Ok was short of bytes
pub was_short : (full : Full) (a b : ℕ) → (a ≤ b → IsOk {T = ℕ} (Err full)) → b < a
was_short full a b h = by_test (λ t. leb a b ≡ t → b < a) (leb a b) (λ x q. absurd (cc (h (leb-true a b q)))) (λ x q. leb-false a b q) refl
