-- The first nodes of a tree tell whether it has a term's shape.
use Rattle.number_forms.proofs.Shared.{◌≡◌, ◌≢◌, ◌⊎◌, inl, inr, ℕ, List, ◌++◌, append_assoc, true, false, ◌&&◌, map, refl, sym, ap, ◌∙◌, arith, drop, Fraction, Tree, Trees, none, more, num, mult}
use Rattle.number_forms.proofs.Shared.{root, has_term_shape, root_kind, count, children_of, nth, grown, takes, plain, plains, count-plains, eqb-true, AllExpressions, Payload, rational, named}
use Rattle.number_forms.proofs.Shared.{bare, Forest, empty, tree, arity, first_kind, is_multiple_next, is_num_kind, is_number_next, is_root_kind, is_root_of_num, Node, kind_of_payload, flatten}
use Rattle.number_forms.proofs.Shared.{visit_of, visits_of, no_trees}
use Rattle.calc_terms.specs.declared.kind.Kind.TheVariants as kind

-- ---- by the kind of the root

pub number_has_shape : (t : Tree) → root_kind t ≡ kind.Num → true ≡ has_term_shape t
number_has_shape t e = grind arith

pub other_shape : (t : Tree) → root_kind t ≢ kind.Num → root_kind t ≢ kind.Root → root_kind t ≢ kind.Mult → false ≡ has_term_shape t
other_shape t a b c = grind arith

-- ---- node by node

root_node : (x : Payload) (ts : Trees) (n : ℕ) → takes x n ≡ true → kind_of_payload x ≡ root_kind (grown x ts)
root_node x ts n h = grind arith

-- the first node of a tree is its root
pub root_next : (f : Forest) → arity f ≡ 1 → AllExpressions f → first_kind (visits_of f) ≡ root_kind (plain f)
root_next empty a h = absurd (omega arith)
root_next (tree l k r) a h = root_node l.payload (plains k) (arity k) h.0

-- ---- a root

number_under : (x : Payload) (ts : Trees) (n : ℕ) → takes x n ≡ true → is_num_kind (kind_of_payload x) ≡ is_root_of_num (root (grown x ts))
number_under x ts n h = grind arith

-- one tree under a root
under_root : (k : Forest) (rest : List Node) → arity k ≡ 1 → AllExpressions k → is_number_next (map visit_of (flatten k ++ rest)) ≡ is_root_of_num (root (nth 0 (plains k)))
under_root empty rest a h = absurd (omega arith)
under_root (tree l k r) rest a h = number_under l.payload (plains k) (arity k) h.0

root_over : (x : Payload) (k : Forest) (rest : List Node) → takes x (arity k) ≡ true → AllExpressions k → kind_of_payload x ≡ kind.Root
    → is_number_next (map visit_of (flatten k ++ rest)) ≡ is_root_of_num (grown x (plains k))
root_over x k rest h w e = grind (arith, under_root, eqb-true)

root_shape : (t : Tree) → root_kind t ≡ kind.Root → is_root_of_num t ≡ has_term_shape t
root_shape t e = grind arith

pub root_has_shape : (f : Forest) → AllExpressions f → root_kind (plain f) ≡ kind.Root → is_number_next (drop 1 (visits_of f)) ≡ has_term_shape (plain f)
root_has_shape empty h e = absurd cc
root_has_shape (tree l k r) h e = root_over l.payload k (flatten r) h.0 h.1 (root_node l.payload (plains k) (arity k) h.0 ∙ e) ∙ root_shape (grown l.payload (plains k)) e

-- ---- products

multiple_shape : (q : Fraction) (t : Tree) → is_root_of_num t ≡ has_term_shape (mult (more (num q) (more t none)))
multiple_shape q t = grind arith

no_root : (x : Payload) (ts : Trees) (n : ℕ) → takes x n ≡ true → kind_of_payload x ≢ kind.Root → (is_root_kind (kind_of_payload x) ≡ false) × (is_root_of_num (grown x ts) ≡ false)
no_root x ts n h e = grind arith

is_root : (x : Payload) → (kind_of_payload x ≡ kind.Root) ⊎ (kind_of_payload x ≢ kind.Root)
is_root x = grind arith

-- the second factor
second : (x : Payload) (k : Forest) (rest : List Node) → takes x (arity k) ≡ true → AllExpressions k
    → (is_root_kind (kind_of_payload x) && is_number_next (map visit_of (flatten k ++ rest))) ≡ is_root_of_num (grown x (plains k))
second x k rest h w = grind (arith, is_root, no_root, root_over)

-- a factor behind a number
behind_number : (s : Forest) (rest : List Node) → arity s ≡ 1 → AllExpressions s
    → (is_root_kind (first_kind (map visit_of (flatten s ++ rest))) && is_number_next (drop 1 (map visit_of (flatten s ++ rest)))) ≡ is_root_of_num (nth 0 (plains s))
behind_number empty rest a w = absurd (omega arith)
behind_number (tree l k r) rest a w =
    ap (λ (ns : List Node). is_root_kind (kind_of_payload l.payload) && is_number_next (map visit_of ns)) (append_assoc (flatten k) (flatten r) rest) ∙ second l.payload k (flatten r ++ rest) w.0 w.1

only_one : (ts : Trees) → count ts ≡ 1 → ts ≡ more (nth 0 ts) none
only_one none e = absurd (omega arith)
only_one (more t none) e = refl
only_one (more t (more u ts)) e = absurd (omega arith)

not_num : (x : Payload) (ts us : Trees) (n : ℕ) → takes x n ≡ true → kind_of_payload x ≢ kind.Num
    → (is_num_kind (kind_of_payload x) ≡ false) × (has_term_shape (mult (more (grown x ts) us)) ≡ false)
not_num x ts us n h e = grind arith

num_is : (x : Payload) (ts : Trees) (n : ℕ) → takes x n ≡ true → kind_of_payload x ≡ kind.Num → (n ≡ 0) × (q : Fraction) × (grown x ts ≡ num q)
num_is (rational r) ts n h e = (eqb-true n 0 h, _, refl)
num_is (named y) ts n h e = cc
num_is (bare k) ts n h e = absurd (clash n (ap (λ c. takes (bare c) n) (sym e) ∙ h))
  where
    clash : (n : ℕ) → takes (bare kind.Num) n ≡ true → ⊥
    clash n h = cc

is_number_kind : (x : Payload) → (kind_of_payload x ≡ kind.Num) ⊎ (kind_of_payload x ≢ kind.Num)
is_number_kind x = grind arith

both : (x : Payload) (j s : Forest) (rest : List Node) → takes x (arity j) ≡ true → arity s ≡ 1 → AllExpressions s
    → (is_num_kind (kind_of_payload x) && (is_root_kind (first_kind (map visit_of ((flatten j ++ flatten s) ++ rest))) && is_number_next (drop 1 (map visit_of ((flatten j ++ flatten s) ++ rest))))) ≡ has_term_shape (mult (more (grown x (plains j)) (plains s)))
both x j s rest h a w = elim (is_number_kind x) [
  | inl e ↦ let (n, q, g) = num_is x (plains j) (arity j) h e in
      let nodes : (flatten j ++ flatten s) ++ rest ≡ flatten s ++ rest = ap (λ (f : Forest). (flatten f ++ flatten s) ++ rest) (no_trees j n) in
      ap (λ c. is_num_kind c && (is_root_kind (first_kind (map visit_of ((flatten j ++ flatten s) ++ rest))) && is_number_next (drop 1 (map visit_of ((flatten j ++ flatten s) ++ rest))))) e
      ∙ ap (λ (ns : List Node). is_root_kind (first_kind (map visit_of ns)) && is_number_next (drop 1 (map visit_of ns))) nodes
      ∙ behind_number s rest a w ∙ multiple_shape q (nth 0 (plains s)) ∙ sym (λ i. has_term_shape (mult (more (g i) (only_one (plains s) (count-plains s ∙ a) i))))
  | inr e ↦
      let (b, c) = not_num x (plains j) (plains s) (arity j) h e in
      ap (λ t. t && (is_root_kind (first_kind (map visit_of ((flatten j ++ flatten s) ++ rest))) && is_number_next (drop 1 (map visit_of ((flatten j ++ flatten s) ++ rest))))) b ∙ sym c
]

two_factors : (k : Forest) (rest : List Node) → AllExpressions k → count (plains k) ≡ 2 → is_multiple_next (map visit_of (flatten k ++ rest)) ≡ has_term_shape (mult (plains k))
two_factors empty rest w n = absurd (omega arith)
two_factors (tree a j s) rest w n = both a.payload j s rest w.0 (omega (arith, count-plains s)) w.2

product_over : (x : Payload) (k : Forest) (rest : List Node) → AllExpressions k → root_kind (grown x (plains k)) ≡ kind.Mult → count (children_of (grown x (plains k))) ≡ 2
    → is_multiple_next (map visit_of (flatten k ++ rest)) ≡ has_term_shape (grown x (plains k))
product_over x k rest w e n = grind (arith, two_factors)

pub product_has_shape : (f : Forest) → AllExpressions f → root_kind (plain f) ≡ kind.Mult → count (children_of (plain f)) ≡ 2
    → is_multiple_next (drop 1 (visits_of f)) ≡ has_term_shape (plain f)
product_has_shape empty h e n = absurd cc
product_has_shape (tree l k r) h e n = product_over l.payload k (flatten r) h.1 e n
