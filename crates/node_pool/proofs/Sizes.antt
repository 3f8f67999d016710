-- Sizes and bytes of lists of nodes.
use Rattle.node_pool.proofs.Shared.{List, [], ap, append_assoc, arith, drop, length, refl, suc, sym, zero, ℕ, ◌*◌, ◌++◌, ◌+◌, ◌∙◌, ◌∷◌, ◌≡◌, ◌≤◌, drop_at, length-append, Node, encoding, node_at}
use Rattle.node_pool.proofs.Shared.{size_of, Payload, size_of_payload, length-encoding, node_at-encoding, nodes_of, AreNodes, encodings, used, payload_least}
use Rattle.calc_terms.proofs.Sizes.{payload_least as size_leaf}

pub size_from : (n : Node) → 8 ≤ size_of n
size_from n = size_leaf n.payload

pub used-append : (a b : List Node) → used (a ++ b) ≡ used a + used b
used-append [] b = omega arith
used-append (n ∷ a) b = omega (arith, used-append a b)

pub encodings-append : (a b : List Node) → encodings (a ++ b) ≡ encodings a ++ encodings b
encodings-append [] b = refl
encodings-append (n ∷ a) b = ap (λ (x : List ℕ). encoding n ++ x) (encodings-append a b) ∙ sym (append_assoc (encoding n) (encodings a) (encodings b))

pub length-encodings : (ns : List Node) → AreNodes ns → length (encodings ns) ≡ used ns
length-encodings [] h = refl
length-encodings (n ∷ ns) h = omega (arith, length-append (encoding n) (encodings ns), length-encoding n h.0, length-encodings ns h.1)

pub length_le_used : (ns : List Node) → 8 * length ns ≤ used ns
length_le_used [] = omega arith
length_le_used (n ∷ ns) = omega (arith, length_le_used ns, size_from n)

pub nodes_of-encodings : (ns : List Node) (rest : List ℕ) → AreNodes ns → nodes_of (length ns) (encodings ns ++ rest) ≡ ns
unfolding nodes_of
nodes_of-encodings [] rest h = refl
nodes_of-encodings (n ∷ ns) rest h =
    let regrouped : encodings (n ∷ ns) ++ rest ≡ encoding n ++ (encodings ns ++ rest) = append_assoc (encoding n) (encodings ns) rest in
    let first : node_at (encodings (n ∷ ns) ++ rest) ≡ n = ap node_at regrouped ∙ node_at-encoding n (encodings ns ++ rest) h.0 in
    let others : drop (size_of n) (encodings (n ∷ ns) ++ rest) ≡ encodings ns ++ rest = ap (drop (size_of n)) regrouped ∙ drop_at (encoding n) (encodings ns ++ rest) (size_of n) (length-encoding n h.0) in
    rw (first, others, nodes_of-encodings ns rest h.1) refl

pub length-nodes_of : (k : ℕ) (bs : List ℕ) → length (nodes_of k bs) ≡ k
unfolding nodes_of
length-nodes_of zero bs = refl
length-nodes_of (suc k) bs = ap suc (length-nodes_of k (drop (size_of (node_at bs)) bs))

pub AreNodes-append : (a b : List Node) → AreNodes a → AreNodes b → AreNodes (a ++ b)
AreNodes-append [] b h k = k
AreNodes-append (n ∷ a) b h k = (h.0, AreNodes-append a b h.1 k)

pub AreNodes-left : (a b : List Node) → AreNodes (a ++ b) → AreNodes a
AreNodes-left [] b h = tt
AreNodes-left (n ∷ a) b h = (h.0, AreNodes-left a b h.1)

pub AreNodes-right : (a b : List Node) → AreNodes (a ++ b) → AreNodes b
AreNodes-right [] b h = h
AreNodes-right (n ∷ a) b h = AreNodes-right a b h.1
