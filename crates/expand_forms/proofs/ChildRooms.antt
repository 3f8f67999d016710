-- The room of an expansion, from that of a child's.
use Rattle.expand_forms.proofs.Shared.{◌≡◌, ◌⊎◌, inl, inr, ℕ, suc, ◌+◌, ◌*◌, ◌≤◌, ◌<◌, List, [], ◌++◌, Bool, true, refl, sym, ap, ◌∙◌, subst, arith, ◌&&◌, le-max_left, le-max_right, max-le, and_parts}
use Rattle.expand_forms.proofs.Shared.{mul-le, Within, names_of-append, within_both, within_eq, within_left, within_none, within_right, within_same, within_trans, root_most, Tree, num, symbol, undef}
use Rattle.expand_forms.proofs.Shared.{add, mult, power, root, neg, sub, div, Trees, none, more, append, names, names_of, nodes, nodes_of, size, sizes, count_distinct, expanded, expansion_room}
use Rattle.expand_forms.proofs.Shared.{most_terms, most_terms_of, node_bytes, sum_bytes, are_polynomials, is_polynomial, polynomial_of, AreExpandedFrom, IsOver, nodes_append, nodes_by_children}
use Rattle.expand_forms.proofs.Shared.{children_of, AreReadyFrom, IsReadyFrom, is_power_of_sum, answer_most, most_of_all, some_nodes, some_terms, names_rise}

-- ---- trees

mutual
  pub tree_most : (t : Tree) → size t ≤ 40 * nodes t
  tree_most (num q) = omega (arith, root_most (num q))
  tree_most (symbol x) = omega arith
  tree_most undef = omega arith
  tree_most (add ts) = omega (arith, trees_most ts)
  tree_most (mult ts) = omega (arith, trees_most ts)
  tree_most (power b e) = omega (arith, tree_most b, tree_most e)
  tree_most (root a) = omega (arith, tree_most a)
  tree_most (neg a) = omega (arith, tree_most a)
  tree_most (sub a b) = omega (arith, tree_most a, tree_most b)
  tree_most (div a b) = omega (arith, tree_most a, tree_most b)

  pub trees_most : (ts : Trees) → sizes ts ≤ 40 * nodes_of ts
  trees_most none = omega arith
  trees_most (more t ts) = omega (arith, tree_most t, trees_most ts)

-- ---- children

two_names : (a b : Tree) → Within (names a ++ names b) (names a ++ (names b ++ []))
two_names a b = within_both (names a ++ names b) (names a) (names b ++ []) (within_left (names a) (names b))
    (within_both (names a ++ names b) (names b) [] (within_right (names a) (names b)) (within_none (names a ++ names b)))

one_name : (a : Tree) → Within (names a) (names a ++ [])
one_name a = within_both (names a) (names a) [] (within_same (names a)) (within_none (names a))

pub child_names : (t : Tree) → Within (names t) (names_of (children_of t))
child_names t = grind (arith, within_none, within_same, two_names, one_name)

pub child_terms : (t : Tree) → most_terms_of (children_of t) ≤ most_terms t
child_terms t = grind arith

-- ---- the answers of children

pub answers_most : (ns : List (List ℕ)) (m : ℕ) (ts us : Trees) → are_polynomials ts ≡ true → Within ns (names_of ts) → most_terms_of ts ≤ m → AreExpandedFrom ts us
    → sizes us ≤ sum_bytes ns m * nodes_of ts
answers_most ns m none none p h l e = omega arith
answers_most ns m none (more u us) p h l e = absurd e
answers_most ns m (more t ts) none p h l e = absurd e
answers_most ns m (more t ts) (more u us) p h l e =
    let (a, b) = and_parts (is_polynomial t) (are_polynomials ts) p in
    let one = answer_most ns m t a (within_trans h (within_left (names t) (names_of ts))) (omega (arith, l, le-max_left (most_terms t) (most_terms_of ts))) in
    let more_nodes = mul-le (sum_bytes ns m) 1 (sum_bytes ns m) (nodes t) (omega arith) (some_nodes t) in
    let rest = answers_most ns m ts us b (within_trans h (within_right (names t) (names_of ts))) (omega (arith, l, le-max_right (most_terms t) (most_terms_of ts))) e.1 in
    omega (arith, ap size (e.0 a), one, more_nodes, rest)

-- ---- what has become of them

pub all_polynomials : (t : Tree) → is_polynomial t ≡ true → are_polynomials (children_of t) ≡ true
all_polynomials t h = grind arith

pub root_bytes : (t : Tree) → size t ≤ 40 + sizes (children_of t)
root_bytes t = grind arith

ready_most : (ns : List (List ℕ)) (m : ℕ) (t u : Tree) → is_polynomial t ≡ true → Within ns (names t) → most_terms t ≤ m → IsReadyFrom t u → size u ≤ sum_bytes ns m * nodes t
ready_most ns m t u p h l r = by (r p)
  where
    by : (u ≡ expanded (polynomial_of t)) ⊎ ((is_power_of_sum u ≡ true) × IsOver t u) → size u ≤ sum_bytes ns m * nodes t
    by (inl e) = omega (arith, ap size e, answer_most ns m t p h l, mul-le (sum_bytes ns m) 1 (sum_bytes ns m) (nodes t) (omega arith) (some_nodes t))
    by (inr (k, o)) =
        let below = answers_most ns m (children_of t) (children_of u) (all_polynomials t p) (within_trans h (child_names t)) (omega (arith, l, child_terms t)) o.children in
        let some : 1 ≤ m = omega (arith, some_terms t p, most_of_all t, l) in
        let wide = mul-le (64 * suc (count_distinct ns)) 1 (64 * suc (count_distinct ns)) m (omega arith) some in
        omega (arith, root_bytes u, below, nodes_by_children t, wide, ap (λ (n : ℕ). sum_bytes ns m * n) (nodes_by_children t))

all_ready_most : (ns : List (List ℕ)) (m : ℕ) (ts us : Trees) → are_polynomials ts ≡ true → Within ns (names_of ts) → most_terms_of ts ≤ m → AreReadyFrom ts us
    → sizes us ≤ sum_bytes ns m * nodes_of ts
all_ready_most ns m none none p h l e = omega arith
all_ready_most ns m none (more u us) p h l e = absurd e
all_ready_most ns m (more t ts) none p h l e = absurd e
all_ready_most ns m (more t ts) (more u us) p h l e =
    let (a, b) = and_parts (is_polynomial t) (are_polynomials ts) p in
    let one = ready_most ns m t u a (within_trans h (within_left (names t) (names_of ts))) (omega (arith, l, le-max_left (most_terms t) (most_terms_of ts))) e.0 in
    let rest = all_ready_most ns m ts us b (within_trans h (within_right (names t) (names_of ts))) (omega (arith, l, le-max_right (most_terms t) (most_terms_of ts))) e.1 in
    omega (arith, one, rest)

-- ---- some of the children

first_terms : (ts us : Trees) → most_terms_of ts ≤ most_terms_of (append ts us)
first_terms none us = omega arith
first_terms (more t ts) us =
    let r = most_terms_of (append ts us) in
    max-le (le-max_left (most_terms t) r) (omega (arith, first_terms ts us, le-max_right (most_terms t) r))

last_terms : (ts us : Trees) → most_terms_of us ≤ most_terms_of (append ts us)
last_terms none us = omega arith
last_terms (more t ts) us = omega (arith, last_terms ts us, le-max_right (most_terms t) (most_terms_of (append ts us)))

first_polynomials : (ts us : Trees) → are_polynomials (append ts us) ≡ true → (are_polynomials ts ≡ true) × (are_polynomials us ≡ true)
first_polynomials none us h = (refl, h)
first_polynomials (more t ts) us h =
    let (a, b) = and_parts (is_polynomial t) (are_polynomials (append ts us)) h in
    let (x, y) = first_polynomials ts us b in
    (ap (λ (p : Bool). p && are_polynomials ts) a ∙ x, y)

-- ---- bytes at hand

more_fold : (x n : ℕ) → 1 ≤ x → n ≤ x * n
more_fold x n l = omega (arith, mul-le 1 n x n l (omega arith))

-- where they are too few for a child, they were too few for its parent, beside the answers of the children before it and the children behind it
child_lacks : (x d c r e u s : ℕ) → 1 ≤ x → e < 512 * x * c → u ≤ (8 + 64 * x) * d → s ≤ 40 * r → e + (40 + u + s) < 512 * x * suc (d + (c + r))
child_lacks x d c r e u s some l k h = omega (arith, more_fold x d some, more_fold x r some)

node_lacks : (x d e u : ℕ) → 1 ≤ x → e < 96 + 2 * (64 * x) → u ≤ (8 + 64 * x) * d → e + (40 + u) < 512 * x * suc d
node_lacks x d e u some l k = omega (arith, more_fold x d some)

some_width : (t : Tree) → is_polynomial t ≡ true → 1 ≤ suc (count_distinct (names t)) * most_terms t
some_width t p = mul-le 1 1 (suc (count_distinct (names t))) (most_terms t) (omega arith) (omega (arith, some_terms t p, most_of_all t))

room_of : (t : Tree) (n : ℕ) → nodes t ≡ n → 512 * (suc (count_distinct (names t)) * most_terms t) * n ≡ expansion_room t
room_of t n e = grind arith

pub room_above : (t c : Tree) (done rest us : Trees) (e : ℕ) → is_polynomial t ≡ true → are_polynomials (children_of t) ≡ true → children_of t ≡ append done (more c rest) → AreReadyFrom done us
    → e < expansion_room c
    → e + (40 + sizes us + sizes rest) < expansion_room t
room_above t c done rest us e p ps split answers few =
    let ns = names t in
    let m = most_terms t in
    let within : Within ns (names_of done ++ (names c ++ names_of rest)) = within_trans (child_names t) (within_eq (sym (ap names_of split ∙ names_of-append done (more c rest)))) in
    let terms_within : most_terms_of (append done (more c rest)) ≤ m = omega (arith, child_terms t, ap most_terms_of split) in
    let done_polynomials = (first_polynomials done (more c rest) (sym (ap are_polynomials split) ∙ ps)).0 in
    let before = all_ready_most ns m done us done_polynomials (within_trans within (within_left (names_of done) (names c ++ names_of rest)))
    (omega (arith, first_terms done (more c rest), terms_within)) answers in
    let fewer_names = names_rise ns (names c) (within_trans within (within_trans (within_right (names_of done) (names c ++ names_of rest)) (within_left (names c) (names_of rest)))) in
    let fewer_terms : most_terms c ≤ m = omega (arith, last_terms done (more c rest), le-max_left (most_terms c) (most_terms_of rest), terms_within) in
    let narrower = mul-le (suc (count_distinct (names c))) (most_terms c) (suc (count_distinct ns)) m (omega (arith, fewer_names)) fewer_terms in
    let x = suc (count_distinct ns) * m in
    let less_room = mul-le (suc (count_distinct (names c)) * most_terms c) (nodes c) x (nodes c) narrower (omega arith) in
    let lacks = child_lacks x (nodes_of done) (nodes c) (nodes_of rest) e (sizes us) (sizes rest) (some_width t p) (omega (arith, few, less_room)) (omega (arith, before)) (trees_most rest) in
    let count : nodes t ≡ suc (nodes_of done + (nodes c + nodes_of rest)) = omega (arith, nodes_by_children t, ap nodes_of split, nodes_append done (more c rest)) in
    subst (λ (r : ℕ). e + (40 + sizes us + sizes rest) < r) (room_of t _ count) lacks

pub room_at_node : (t : Tree) (us : Trees) (e : ℕ) → is_polynomial t ≡ true → are_polynomials (children_of t) ≡ true → AreReadyFrom (children_of t) us → e < node_bytes (names t) (most_terms t)
    → e + (40 + sizes us) < expansion_room t
room_at_node t us e p ps answers few =
    let all = all_ready_most (names t) (most_terms t) (children_of t) us ps (child_names t) (child_terms t) answers in
    let lacks = node_lacks (suc (count_distinct (names t)) * most_terms t) (nodes_of (children_of t)) e (sizes us) (some_width t p) (omega (arith, few)) (omega (arith, all)) in
    subst (λ (r : ℕ). e + (40 + sizes us) < r) (room_of t _ (omega (arith, nodes_by_children t))) lacks

-- a child has no wider terms and no more of them
pub narrower : (t c : Tree) (before behind : Trees) → children_of t ≡ append before (more c behind) → node_bytes (names c) (most_terms c) ≤ node_bytes (names t) (most_terms t)
narrower t c before behind split =
    let within = within_trans (child_names t) (within_eq (sym (ap names_of split ∙ names_of-append before (more c behind)))) in
    let fewer_names = names_rise (names t) (names c) (within_trans within (within_trans (within_right (names_of before) (names c ++ names_of behind)) (within_left (names c) (names_of behind)))) in
    let fewer_terms : most_terms c ≤ most_terms t = omega (arith, last_terms before (more c behind), le-max_left (most_terms c) (most_terms_of behind), child_terms t, ap most_terms_of split) in
    omega (arith, mul-le (64 * suc (count_distinct (names c))) (most_terms c) (64 * suc (count_distinct (names t))) (most_terms t) (omega (arith, fewer_names)) fewer_terms)
