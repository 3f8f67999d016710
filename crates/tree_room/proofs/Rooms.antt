-- The room of a tree against that of its children.
use Rattle.tree_room.proofs.Shared.{◌≡◌, ℕ, ◌+◌, ◌*◌, ◌^◌, ◌≤◌, List, length, true, ◌&&◌, ap, arith, and_parts, pow_pos, mul-le, pow-le-pow_right, if◌then◌else◌, is_reduced, reduced_words, roots}
use Rattle.tree_room.proofs.Shared.{roots_of, all_simple, are_all_simple, is_simple_power, room, unbounded_room, counted, SpansTree, tree_bytes, Tree, num, symbol, undef, add, mult, power, root, neg}
use Rattle.tree_room.proofs.Shared.{sub, div, Trees, none, more, append, nodes, nodes_of, size, sizes, root_most, answer_bytes, answers_bytes, simple_room}
use Rattle.calc_terms.proofs.SmallLaws.{lesser_power as within}

-- ---- multiples of powers of 2

grown : (a b : ℕ) → a ≤ b → 2 ^ a ≤ 2 ^ b
grown a b h = pow-le-pow_right {n = 2} (omega arith) h

-- ---- the bytes of answers

pub more_rooms : (n a b : ℕ) → a ≤ b → simple_room n (2 ^ a) ≤ simple_room n (2 ^ b)
more_rooms n a b h = within (1024 * n) a b h

-- trees of n nodes and r roots have s bytes in answers
record Answers (s n r : ℕ) : Type 0 where
  bytes : s ≤ 204 * n * 2 ^ r

together : (s u n k a b : ℕ) → Answers s n a → Answers u k b → Answers (s + u) (n + k) (a + b)
together s u n k a b h l =
    let x : s ≤ 204 * n * 2 ^ a = h.bytes in
    let y : u ≤ 204 * k * 2 ^ b = l.bytes in
    let p : 204 * n * 2 ^ a ≤ 204 * n * 2 ^ (a + b) = within (204 * n) a (a + b) (omega arith) in
    let q : 204 * k * 2 ^ b ≤ 204 * k * 2 ^ (a + b) = within (204 * k) b (a + b) (omega arith) in
    record { bytes = omega arith }

one_answer : (t : Tree) → Answers (answer_bytes t) (nodes t) (roots t)
one_answer t = record { bytes = omega arith }

all_answers : (ts : Trees) → Answers (answers_bytes ts) (nodes_of ts) (roots_of ts)
all_answers none = record { bytes = omega arith }
all_answers (more t ts) = together (answer_bytes t) (answers_bytes ts) (nodes t) (nodes_of ts) (roots t) (roots_of ts) (one_answer t) (all_answers ts)

no_answer : Answers 0 0 0
no_answer = record { bytes = omega arith }

pub reduced_bytes : (gs : List ℕ) (t r : Tree) → is_reduced r ≡ true → SpansTree gs r → counted r ≤ nodes t → length gs ≤ roots t → size r ≤ answer_bytes t
reduced_bytes gs t r h s c l =
    let x : size r ≤ 204 * counted r * 2 ^ length gs = tree_bytes gs r (reduced_words r h) s in
    let y : 204 * counted r * 2 ^ length gs ≤ 204 * nodes t * 2 ^ roots t = mul-le (204 * counted r) (2 ^ length gs) (204 * nodes t) (2 ^ roots t) (omega arith) (grown (length gs) (roots t) l) in
    omega arith

-- ---- trees as they are written

mutual
  written : (t : Tree) → size t ≤ 40 * nodes t
  written (num q) = root_most (num q)
  written (symbol x) = root_most (symbol x)
  written undef = root_most undef
  written (add ts) = omega (arith, root_most (add ts), all_written ts)
  written (mult ts) = omega (arith, root_most (mult ts), all_written ts)
  written (power b e) = omega (arith, root_most (power b e), written b, written e)
  written (root a) = omega (arith, root_most (root a), written a)
  written (neg a) = omega (arith, root_most (neg a), written a)
  written (sub a b) = omega (arith, root_most (sub a b), written a, written b)
  written (div a b) = omega (arith, root_most (div a b), written a, written b)

  all_written : (ts : Trees) → sizes ts ≤ 40 * nodes_of ts
  all_written none = omega arith
  all_written (more t ts) = omega (arith, written t, all_written ts)

pub written_bytes : (t : Tree) → size t ≤ answer_bytes t
written_bytes t =
    let x : size t ≤ 40 * nodes t = written t in
    let y : 204 * nodes t * 1 ≤ 204 * nodes t * 2 ^ roots t = mul-le (204 * nodes t) 1 (204 * nodes t) (2 ^ roots t) (omega arith) (pow_pos (roots t)) in
    omega arith

pub all_written_bytes : (ts : Trees) → sizes ts ≤ answers_bytes ts
all_written_bytes none = omega arith
all_written_bytes (more t ts) = omega (arith, written_bytes t, all_written_bytes ts)

-- ---- rooms

pub room_is : (t : Tree) → all_simple t ≡ true → room t ≡ simple_room (nodes t) (2 ^ roots t)
room_is t h = ap (λ z. if z then 1024 * nodes t * 2 ^ roots t else unbounded_room) h

pub five_times : (t : Tree) → all_simple t ≡ true → 5 * answer_bytes t ≤ room t
five_times t h = omega (arith, room_is t h)

pub spanned_room : (gs : List ℕ) (t : Tree) → all_simple t ≡ true → length gs ≤ roots t → simple_room (nodes t) (2 ^ length gs) ≤ room t
spanned_room gs t h l = omega (arith, room_is t h, more_rooms (nodes t) (length gs) (roots t) l)

-- beside others, whose answers have s bytes, a part of a node has its room
beside : (u t : Tree) (s n r : ℕ) → Answers s n r → nodes u ≡ 1 + n + nodes t → r + roots t ≤ roots u → all_simple u ≡ true → all_simple t ≡ true → 8 + s + room t ≤ room u
beside u t s n r a e l h k =
    let x : s ≤ 204 * n * 2 ^ r = a.bytes in
    let p : 204 * n * 2 ^ r ≤ 204 * n * 2 ^ roots u = within (204 * n) r (roots u) (omega arith) in
    let q : 1024 * nodes t * 2 ^ roots t ≤ 1024 * nodes t * 2 ^ roots u = within (1024 * nodes t) (roots t) (roots u) (omega arith) in
    let y : 1024 * nodes u * 2 ^ roots u ≡ 1024 * (1 + n + nodes t) * 2 ^ roots u = ap (λ k. 1024 * k * 2 ^ roots u) e in
    let z : 1 ≤ 2 ^ roots u = pow_pos (roots u) in
    omega (arith, room_is u h, room_is t k)

-- ---- nodes with a list of children

pub simple_among : (ts us : Trees) (t : Tree) → are_all_simple (append ts (more t us)) ≡ true → all_simple t ≡ true
simple_among none us t h = (and_parts (all_simple t) (are_all_simple us) h).0
simple_among (more x ts) us t h = simple_among ts us t (and_parts (all_simple x) (are_all_simple (append ts (more t us))) h).1

nodes_among : (ts us : Trees) (t : Tree) → nodes_of (append ts (more t us)) ≡ nodes_of ts + nodes_of us + nodes t
nodes_among none us t = omega arith
nodes_among (more x ts) us t = omega (arith, nodes_among ts us t)

roots_among : (ts us : Trees) (t : Tree) → roots_of (append ts (more t us)) ≡ roots_of ts + roots_of us + roots t
roots_among none us t = omega arith
roots_among (more x ts) us t = omega (arith, roots_among ts us t)

others : (ts us : Trees) → Answers (answers_bytes ts + answers_bytes us) (nodes_of ts + nodes_of us) (roots_of ts + roots_of us)
others ts us = together (answers_bytes ts) (answers_bytes us) (nodes_of ts) (nodes_of us) (roots_of ts) (roots_of us) (all_answers ts) (all_answers us)

pub term_room : (ts us : Trees) (t : Tree) → all_simple (add (append ts (more t us))) ≡ true → 8 + (answers_bytes ts + answers_bytes us) + room t ≤ room (add (append ts (more t us)))
term_room ts us t h =
    beside (add (append ts (more t us))) t (answers_bytes ts + answers_bytes us) (nodes_of ts + nodes_of us) (roots_of ts + roots_of us) (others ts us)
    (omega (arith, nodes_among ts us t)) (omega (arith, roots_among ts us t)) h (simple_among ts us t h)

pub factor_room : (ts us : Trees) (t : Tree) → all_simple (mult (append ts (more t us))) ≡ true → 8 + (answers_bytes ts + answers_bytes us) + room t ≤ room (mult (append ts (more t us)))
factor_room ts us t h =
    beside (mult (append ts (more t us))) t (answers_bytes ts + answers_bytes us) (nodes_of ts + nodes_of us) (roots_of ts + roots_of us) (others ts us)
    (omega (arith, nodes_among ts us t)) (omega (arith, roots_among ts us t)) h (simple_among ts us t h)

-- ---- nodes with one child or two

alone : (u t : Tree) → nodes u ≡ 1 + nodes t → roots t ≤ roots u → all_simple u ≡ true → all_simple t ≡ true → 8 + room t ≤ room u
alone u t e l h k = let x : 8 + 0 + room t ≤ room u = beside u t 0 0 0 no_answer (omega arith) (omega arith) h k in omega arith

pub root_room : (a : Tree) → all_simple (root a) ≡ true → 8 + room a ≤ room (root a)
root_room a h = alone (root a) a (omega arith) (omega arith) h h

pub opposite_room : (a : Tree) → all_simple (neg a) ≡ true → 8 + room a ≤ room (neg a)
opposite_room a h = alone (neg a) a (omega arith) (omega arith) h h

-- t beside x
pub pair_room : (u t x : Tree) → nodes u ≡ 1 + nodes x + nodes t → roots x + roots t ≤ roots u → all_simple u ≡ true → all_simple t ≡ true → 8 + answer_bytes x + room t ≤ room u
pair_room u t x e l h k = beside u t (answer_bytes x) (nodes x) (roots x) (one_answer x) e l h k

pub two_simple : (a b : Tree) → (all_simple a && all_simple b) ≡ true → (all_simple a ≡ true) × (all_simple b ≡ true)
two_simple a b h = and_parts (all_simple a) (all_simple b) h

pub power_simple : (b e : Tree) → all_simple (power b e) ≡ true → (all_simple b ≡ true) × (all_simple e ≡ true)
power_simple b e h =
    let (x, y) = and_parts (is_simple_power b e && all_simple b) (all_simple e) h in
    ((and_parts (is_simple_power b e) (all_simple b) x).1, y)
