-- What is written of a tree has at most twice the bytes of its nodes.
use Rattle.line_text.proofs.Shared.{◌≡◌, ℕ, ◌+◌, ◌-◌, ◌*◌, ◌≤◌, List, [], ◌++◌, if◌then◌else◌, length, nat_abs, Bool, true, codes, refl, ap, arith, length-append, Kind, Payload, rational, named, bare}
use Rattle.line_text.proofs.Shared.{kind_of_payload, size_of_payload, IsPayload, lowest, State, Forest, empty, tree, AllNodes, node_of, nodes_in, bytes_in, holds, tree_at, kids_of, Stands, forest}
use Rattle.line_text.proofs.Shared.{Place, WholeText, sign_before, opening, leaf_bytes, parentheses, closing_of, front_of, is_admitted, written, first_place, next_place, is_short, live_at, decimal}
use Rattle.line_text.proofs.{Shared.{spelled, length-take-le, size_from}, Leaves.{numerator_is}, Lengths.{number_text}, Valid.{HoldsPayload, valid}}

opening_short : (p : Place) (b : Bool) → length (opening p b) ≤ 5
opening_short p b = omega (arith, sign_short p, one_short b, length-append (sign_before p) (if b then [] else codes "("))
  where
    sign_short : (p : Place) → length (sign_before p) ≤ 4
    sign_short p = grind arith

    one_short : (b : Bool) → length {A = ℕ} (if b then [] else codes "(") ≤ 1
    one_short b = grind arith

pub closing_few : (k : Kind) (b : Bool) → closing_of k b ≤ 3
closing_few k b = grind arith

pub parentheses_length : (n : ℕ) → n ≤ 3 → length (parentheses n) ≡ n
parentheses_length n h = length-take-le n (codes ")))") h

pub leaf_short : (x : Payload) → IsPayload x → length (leaf_bytes x) + 8 ≤ 2 * size_of_payload x
leaf_short (rational r) h = omega (arith, number_text (is_short (lowest r.num r.den)) (lowest r.num r.den) refl (omega (arith, h.num_fits, ap nat_abs (numerator_is r h))), ap (λ z. length (decimal (nat_abs z))) (numerator_is r h))
leaf_short (named x) h = omega (arith, (spelled x h).short)
leaf_short (bare k) h = bare_short k
  where
    bare_short : (k : Kind) → length (leaf_bytes (bare k)) + 8 ≤ 2 * size_of_payload (bare k)
    bare_short k = grind arith

pub written_short : (p : Place) (f : Forest) → AllNodes HoldsPayload f → length (written p f) ≤ 2 * bytes_in f
written_short p empty h = omega arith
written_short p (tree l k r) h =
    let t = tree l k empty in
    let kind = kind_of_payload l.payload in
    let n = closing_of kind (is_admitted p t) in
    let below = written (first_place kind) k in
    omega (
      arith,
      leaf_short l.payload h.0,
      opening_short p (is_admitted p t),
      closing_few kind (is_admitted p t),
      parentheses_length n (closing_few kind (is_admitted p t)),
      written_short (first_place kind) k h.1,
      written_short (next_place p) r h.2,
      length-append (opening p (is_admitted p t)) (leaf_bytes l.payload),
      length-append below (parentheses n),
      length-append (front_of p t) (below ++ parentheses n),
      length-append (front_of p t ++ (below ++ parentheses n)) (written (next_place p) r),
    )

-- twice its bytes have room for a tree
pub has_room : (i : ℕ) (s : State) (capacity : ℕ) (bytes : List ℕ) → Stands s → holds i (forest s) ≡ true → 2 * bytes_in (tree_at i (forest s)) ≤ capacity - length bytes
    → length (bytes ++ written WholeText (tree_at i (forest s))) ≤ capacity
has_room i s capacity bytes st h room =
    let t = tree_at i (forest s) in
    let p = live_at i s h in
    omega (arith, written_short WholeText t (valid s i st h), length-append bytes (written WholeText t), ap bytes_in p.tree-is, size_from (node_of p.label (kids_of i (forest s))))

-- and eight bytes stand for each node
pub bytes_nodes : (f : Forest) → 8 * nodes_in f ≤ bytes_in f
bytes_nodes empty = omega arith
bytes_nodes (tree l k r) = omega (arith, bytes_nodes k, bytes_nodes r, size_from (node_of l k))
