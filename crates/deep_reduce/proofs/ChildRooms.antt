-- While a child is reduced in its own room, the other children and the node stand within the tree's room.
use Rattle.deep_reduce.proofs.Shared.{◌≡◌, ℕ, ◌+◌, ◌*◌, ◌^◌, ◌≤◌, ◌<◌, List, length, Bool, true, false, if◌then◌else◌, inl, inr, refl, sym, ap, ◌∙◌, arith, and_parts, all_simple, are_all_simple, room}
use Rattle.deep_reduce.proofs.Shared.{roots, roots_of, unbounded_room, Tree, add, Trees, none, more, append, names, nodes, size, sizes, HasNodesFor, SpansNode, IsReducedFrom, MayLack, IsCalmAtZero}
use Rattle.deep_reduce.proofs.Shared.{SpansRootOf, is_half_num, nodes_by_children, State, free_of, LacksBelow, base_in, exponent_in, handed_bytes, children_of, tree_of, IsHanded, Stands, forest}
use Rattle.deep_reduce.proofs.Shared.{NumberFault, used_forest, answer_bytes, answers_bytes, simple_room, more_rooms, reduced_bytes, room_is, five_times, spanned_room, term_room, two_simple}
use Rattle.deep_reduce.proofs.{Shared.{power_simple, each_once, cases_Bool}, NodeRewrites.{AreReducedFrom, IsOver}, TreeRooms.{ready}, Lacking.{lacks_as}}
use Rattle.tree_room.proofs.Rooms.{simple_among as simple_child}

-- ---- a child's room in its parent's

simple_before : (ts us : Trees) → are_all_simple (append ts us) ≡ true → are_all_simple ts ≡ true
simple_before none us h = refl
simple_before (more x ts) us h = let (p, q) = and_parts (all_simple x) (are_all_simple (append ts us)) h in rw (p, simple_before ts us q) refl

-- the children before the child, which are reduced, and it itself
pub record HasRoomFor (t : Tree) (before : Trees) (c : Tree) (rest : Trees) : Type 0 where
  pub simple : all_simple c ≡ true
  pub others : are_all_simple before ≡ true
  pub fits : 8 + (answers_bytes before + answers_bytes rest) + room c ≤ room t

simple_children : (t : Tree) → all_simple t ≡ true → are_all_simple (children_of t) ≡ true
simple_children t h = grind (arith, power_simple, two_simple)

roots_over : (t : Tree) → roots_of (children_of t) ≤ roots t
roots_over t = grind arith

-- a node has the room of the sum of its children
room_over : (t : Tree) → all_simple t ≡ true → room (add (children_of t)) ≤ room t
room_over t h = grind (arith, room_is, simple_children, more_rooms, roots_over, nodes_by_children)

pub child_room : (t : Tree) (before : Trees) (c : Tree) (rest : Trees) → children_of t ≡ append before (more c rest) → all_simple t ≡ true → HasRoomFor t before c rest
child_room t before c rest h s =
    let all = ap are_all_simple (sym h) ∙ simple_children t s in
    record {
      simple = simple_child before rest c all;
      others = simple_before before (more c rest) all;
      fits = omega (arith, term_room before rest c all, ap (λ (us : Trees). room (add us)) h, room_over t s);
    }

-- ---- the bytes of answers

pub one_small : (t u : Tree) → all_simple t ≡ true → IsReducedFrom t u → size u ≤ answer_bytes t
one_small t u s h = let x = h.room s in reduced_bytes x.radicands t u h.reduces.reduced x.spanned x.counts x.few

pub all_small : (ts us : Trees) → are_all_simple ts ≡ true → AreReducedFrom ts us → sizes us ≤ answers_bytes ts
all_small none none s h = omega arith
all_small (more t ts) (more u us) s h = let (p, q) = and_parts (all_simple t) (are_all_simple ts) s in omega (arith, one_small t u p h.0, all_small ts us q h.1)
all_small ts us s h = absurd h

-- ---- bytes at hand

-- a tree whose powers are not all simple has more room than any pool
unbounded : (t : Tree) → all_simple t ≡ false → room t ≡ unbounded_room
unbounded t h = ap (λ (z : Bool). if z then 1024 * nodes t * 2 ^ roots t else unbounded_room) h

-- a handed tree stands within its pool
within_pool : (i : ℕ) (s : State) → Stands s → IsHanded i (forest s) → free_of s + size (tree_of i s) ≤ 524280
within_pool i s st h = omega (arith, used_forest s st, st.pool.fits, st.pool.size.most, handed_bytes i (forest s) h)

pub lacks_room : (i : ℕ) (s : State) → Stands s → IsHanded i (forest s) → MayLack (tree_of i s) (free_of s + size (tree_of i s)) → free_of s + size (tree_of i s) < room (tree_of i s)
lacks_room i s st h l = elim (cases_Bool (all_simple (tree_of i s))) [ inl e ↦ l e | inr e ↦ omega (arith, within_pool i s st h, unbounded (tree_of i s) e) ]

-- five times the answer are within the room
pub five_answers : (i : ℕ) (t : Tree) (s : State) → Stands s → IsHanded i (forest s) → IsReducedFrom t (tree_of i s) → 5 * size (tree_of i s) ≤ room t
five_answers i t s st h a = elim (cases_Bool (all_simple t)) [ inl e ↦ omega (arith, one_small t (tree_of i s) e a, five_times t e) | inr e ↦ omega (arith, within_pool i s st h, unbounded t e) ]

-- ---- the node itself

-- the clauses on room of a call on the node u
pub record LacksAsNode (u : Tree) (bytes : ℕ) (f : NumberFault) : Type 0 where
  pub room : (gs : List ℕ) (ns : List (List ℕ)) (n : ℕ) → HasNodesFor n u → IsCalmAtZero ns u → SpansNode gs u → LacksBelow (simple_room n (2 ^ length gs)) bytes f
  pub root_room : (gs : List ℕ) (n : ℕ) → HasNodesFor n u → is_half_num (exponent_in u) ≡ true → SpansRootOf gs (base_in u) → LacksBelow (simple_room n (2 ^ length gs)) bytes f

pub node_lacks : (t u : Tree) (bytes : ℕ) (f : NumberFault) → IsOver t u → all_simple t ≡ true → LacksAsNode u bytes f → LacksBelow (room t) bytes f
node_lacks t u bytes f h s c = elim (ready t u s h) [
  | inl p ↦
      let o = each_once (names t) in
      lacks_as f (c.room p.radicands o.names (nodes t) p.fits (record { once = o.once; calm = p.calm o.names o.once o.all }) p.spanned) (λ l. omega (arith, l, spanned_room p.radicands t s p.few))
  | inr p ↦ lacks_as f (c.root_room p.radicands (nodes t) p.fits p.half p.spanned) (λ l. omega (arith, l, spanned_room p.radicands t s p.few))
]
