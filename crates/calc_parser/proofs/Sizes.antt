-- The room that the nodes of a tree take.
use Rattle.calc_parser.proofs.Shared.{◌≡◌, ℕ, ◌+◌, ◌-◌, ◌≤◌, ◌↔◌, List, [], ◌∷◌, ◌++◌, if◌then◌else◌, Ok, Err, refl, ap, arith, leb, leb-true, Tree, num, add, mult, power, root, neg}
use Rattle.calc_parser.proofs.{Shared.{sub, div, Trees, none, more, count, size, sizes, by_test, Node, parent, postfix, postfixes, bytes_of_node, placing, building}, UnderWay.by_room}
use Rattle.calc_terms.specs.declared.kind.Kind.TheVariants as kind

-- the bytes that nodes take
abbrev bytes_of : List Node → ℕ
bytes_of [] = 0
bytes_of (n ∷ ns) = bytes_of_node n + bytes_of ns

bytes_of-append : (ns ms : List Node) → bytes_of (ns ++ ms) ≡ bytes_of ns + bytes_of ms
bytes_of-append [] ms = omega arith
bytes_of-append (n ∷ ns) ms = omega (arith, bytes_of-append ns ms)

bytes_behind : (ns : List Node) (n : Node) → bytes_of (ns ++ n ∷ []) ≡ bytes_of ns + bytes_of_node n
bytes_behind ns n = omega (arith, bytes_of-append ns (n ∷ []))

mutual
  bytes_of-postfix : (t : Tree) → bytes_of (postfix t) ≡ size t
  bytes_of-postfix (num q) = omega arith
  bytes_of-postfix (add ts) = omega (arith, bytes_behind (postfixes ts) (parent kind.Add (count ts)), bytes_of-postfixes ts)
  bytes_of-postfix (mult ts) = omega (arith, bytes_behind (postfixes ts) (parent kind.Mult (count ts)), bytes_of-postfixes ts)
  bytes_of-postfix (power b e) = omega (arith, bytes_behind (postfix b ++ postfix e) (parent kind.Pow 2), bytes_of-append (postfix b) (postfix e), bytes_of-postfix b, bytes_of-postfix e)
  bytes_of-postfix (root a) = omega (arith, bytes_behind (postfix a) (parent kind.Root 1), bytes_of-postfix a)
  bytes_of-postfix (neg a) = omega (arith, bytes_behind (postfix a) (parent kind.Neg 1), bytes_of-postfix a)
  bytes_of-postfix (sub a b) = omega (arith, bytes_behind (postfix a ++ postfix b) (parent kind.Sub 2), bytes_of-append (postfix a) (postfix b), bytes_of-postfix a, bytes_of-postfix b)
  bytes_of-postfix (div a b) = omega (arith, bytes_behind (postfix a ++ postfix b) (parent kind.Div 2), bytes_of-append (postfix a) (postfix b), bytes_of-postfix a, bytes_of-postfix b)
  bytes_of-postfix _ = refl

  bytes_of-postfixes : (ts : Trees) → bytes_of (postfixes ts) ≡ sizes ts
  bytes_of-postfixes none = refl
  bytes_of-postfixes (more t ts) = omega (arith, bytes_of-append (postfix t) (postfixes ts), bytes_of-postfix t, bytes_of-postfixes ts)

fits : (ns : List Node) (free : ℕ) → bytes_of ns ≤ free → placing free ns ≡ Ok (free - bytes_of ns)
fits [] free h = ap Ok (omega arith)
fits (n ∷ ns) free h = grind (arith, by_room, fits ns (free - bytes_of_node n) (omega arith))

-- whatever is answered with bytes left had room
room : (ns : List Node) (free left : ℕ) → placing free ns ≡ Ok left → bytes_of ns ≤ free
room [] free left e = omega arith
room (n ∷ ns) free left e =
    by_test (λ t. leb (bytes_of_node n) free ≡ t → (if t then placing (free - bytes_of_node n) ns else Err (record { needed = bytes_of_node n; free = free })) ≡ Ok left → bytes_of (n ∷ ns) ≤ free) (leb (bytes_of_node n) free)
    (λ x q h. omega (arith, leb-true (bytes_of_node n) free q, room ns (free - bytes_of_node n) left h)) (λ x q h. absurd cc) refl e

pub building_takes_the_size : (free : ℕ) (t : Tree) → (building free t ≡ Ok (free - size t)) ↔ (size t ≤ free)
building_takes_the_size free t = grind (arith, bytes_of-postfix, room, fits)

pub takes_room : (free left : ℕ) (t : Tree) → building free t ≡ Ok left → size t ≤ free
takes_room free left t e = omega (arith, room (postfix t) free left e, bytes_of-postfix t)
