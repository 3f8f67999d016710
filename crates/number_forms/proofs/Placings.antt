-- Whether the bytes of a term's tree suffice.
use Rattle.tree_handles.proofs.SmallLaws.{grown_free as free_before}
use Rattle.calc_terms.proofs.FractionFacts.{one_test as not_one_test}
use Rattle.number_forms.proofs.Shared.{◌≡◌, ◌≢◌, ◌↔◌, ℕ, ◌+◌, ◌-◌, ◌==◌, ◌<◌, ◌≤◌, true, false, pos, List, [], ◌∷◌, ◌++◌, Result, Ok, Err, refl, sym, ap, ◌∙◌, subst, arith, IsOk, IsErr, OnOk, IfOk}
use Rattle.number_forms.proofs.Shared.{IfErr, if◌then◌else◌, eq-eqb, lt-leb, Fraction, lowest, one_fraction, is_one_fraction, whole_fraction, gcd, Tree, num, add, mult, power, root, neg, sub, div}
use Rattle.number_forms.proofs.Shared.{Trees, more, none, size, sizes, root_size, value, classes, Term, State, free_of, Full, term_tree, building, node_sizes, nodes_sizes, taking}
use Rattle.number_forms.proofs.Shared.{LacksLongForm, Forest, tree_of, Gives, root_tree, plain, last_tree, Stands, forest, KeepsRefusals, IsRefused, given_told}

-- a refusal where a fact does not hold
pub refused : {A E : Type 0} (r : Result A E) (P : Type 0) → IsErr r → (P → ⊥) → IsOk r ↔ P
refused r P e n = grind arith

-- ---- the first node that lacks bytes

pub taken : (free left n : ℕ) (ns : List ℕ) → free ≡ left + n → taking free (n ∷ ns) ≡ taking left ns
taken free left n ns e = grind arith

pub lacking : {s t : State} {n : ℕ} {full : Full} (ns : List ℕ) → IsRefused n s t full → taking (free_of s) (n ∷ ns) ≡ Err full
lacking {s = s} {n = n} {full = full} ns r = let least : free_of s < n = subst (λ (f : Full). f.free < f.needed) r.told r.lacks.lacking in
    ap (λ b. if b then taking (free_of s - n) ns else Err (record { needed = n; free = free_of s })) (lt-leb n (free_of s) least) ∙ ap (λ (f : Full). Err f) (sym r.told)

-- what lacks bytes lacks them before others too
pub lacking_on : (free : ℕ) (ns ms : List ℕ) (full : Full) → taking free ns ≡ Err full → taking free (ns ++ ms) ≡ Err full
lacking_on free [] ms full e = cc
lacking_on free (n ∷ ns) ms full e = grind (arith, lacking_on (free - n) ns ms full)

-- nodes for which there is room, before others
abbrev total : List ℕ → ℕ
total [] = 0
total (n ∷ ns) = n + total ns

past : (free left : ℕ) (ns ms : List ℕ) → free ≡ left + total ns → taking free (ns ++ ms) ≡ taking left ms
past free left [] ms e = ap (λ f. taking f ms) (omega arith)
past free left (n ∷ ns) ms e = taken free (left + total ns) n (ns ++ ms) (omega arith) ∙ past (left + total ns) left ns ms refl

total-behind : (ns : List ℕ) (n : ℕ) → total (ns ++ n ∷ []) ≡ total ns + n
total-behind [] n = omega arith
total-behind (m ∷ ns) n = omega (arith, total-behind ns n)

total-both : (ns ms : List ℕ) → total (ns ++ ms) ≡ total ns + total ms
total-both [] ms = omega arith
total-both (n ∷ ns) ms = omega (arith, total-both ns ms)

mutual
  total-node_sizes : (t : Tree) → total (node_sizes t) ≡ size t
  total-node_sizes (add ts) = omega (arith, total-behind (nodes_sizes ts) (root_size (add ts)), total-nodes_sizes ts)
  total-node_sizes (mult ts) = omega (arith, total-behind (nodes_sizes ts) (root_size (mult ts)), total-nodes_sizes ts)
  total-node_sizes (power b e) = omega (arith, total-behind (node_sizes b ++ node_sizes e) (root_size (power b e)), total-both (node_sizes b) (node_sizes e), total-node_sizes b, total-node_sizes e)
  total-node_sizes (root a) = omega (arith, total-behind (node_sizes a) (root_size (root a)), total-node_sizes a)
  total-node_sizes (neg a) = omega (arith, total-behind (node_sizes a) (root_size (neg a)), total-node_sizes a)
  total-node_sizes (sub a b) = omega (arith, total-behind (node_sizes a ++ node_sizes b) (root_size (sub a b)), total-both (node_sizes a) (node_sizes b), total-node_sizes a, total-node_sizes b)
  total-node_sizes (div a b) = omega (arith, total-behind (node_sizes a ++ node_sizes b) (root_size (div a b)), total-both (node_sizes a) (node_sizes b), total-node_sizes a, total-node_sizes b)
  total-node_sizes _ = omega arith

  total-nodes_sizes : (ts : Trees) → total (nodes_sizes ts) ≡ sizes ts
  total-nodes_sizes none = refl
  total-nodes_sizes (more t ts) = omega (arith, total-both (node_sizes t) (nodes_sizes ts), total-node_sizes t, total-nodes_sizes ts)

-- a tree for which there is room, before other nodes
pub built : (free left : ℕ) (t : Tree) (ms : List ℕ) → free ≡ left + size t → taking free (node_sizes t ++ ms) ≡ taking left ms
built free left t ms e = past free left (node_sizes t) ms (omega (arith, total-node_sizes t))

lacking_total : (free : ℕ) (ns : List ℕ) (full : Full) → taking free ns ≡ Err full → free < total ns
lacking_total free [] full e = cc
lacking_total free (n ∷ ns) full e = grind (arith, lacking_total (free - n) ns full)

-- trees that lack bytes
pub lacking_below : (free : ℕ) (ts : Trees) (full : Full) → taking free (nodes_sizes ts) ≡ Err full → free < sizes ts
lacking_below free ts full e = omega (arith, lacking_total free (nodes_sizes ts) full e, total-nodes_sizes ts)

-- an answer where the bytes suffice, and only there
pub exact : {s t : State} (u : Tree) (r : Result ℕ Full) → Stands s → Stands t → OnOk r (KeepsRefusals s t) → IfOk r (λ h. Gives (forest s) (forest t) h (λ x. x ≡ u))
    → IfErr r (λ full. building (free_of s) u ≡ Err full) → IsOk r ↔ (size u ≤ free_of s)
exact u (Ok h) st su k g e = (λ o. omega (arith, free_before st su k g), λ l. refl)
exact {s = s} u (Err full) st su k g e = (λ o. absurd cc, λ l. absurd (omega (arith, l, lacking_total (free_of s) (node_sizes u) full e, total-node_sizes u)))

-- ---- two trees, and then other nodes

pub first_lacks : (free : ℕ) (x y : Tree) (ms : List ℕ) {full : Full} → building free x ≡ Err full → taking free (nodes_sizes (more x (more y none)) ++ ms) ≡ Err full
first_lacks free x y ms e = lacking_on free (nodes_sizes (more x (more y none))) ms _ (lacking_on free (node_sizes x) (nodes_sizes (more y none)) _ e)

module _ {r s : State} {x : Tree} {a : ℕ} (sr : Stands r) (ss : Stands s) (k : KeepsRefusals r s) (p : Gives (forest r) (forest s) a (λ u. u ≡ x)) where
  pub second_lacks : (y : Tree) (ms : List ℕ) {full : Full} → building (free_of s) y ≡ Err full → taking (free_of r) (nodes_sizes (more x (more y none)) ++ ms) ≡ Err full
  second_lacks y ms e =
      lacking_on (free_of r) (nodes_sizes (more x (more y none))) ms _
      (built (free_of r) (free_of s) x (nodes_sizes (more y none)) (free_before sr ss k p) ∙ lacking_on (free_of s) (node_sizes y) [] _ e)

  pub parent_lacks : {t u : State} {y : Tree} {b n : ℕ} {full : Full} → Stands t → KeepsRefusals s t → Gives (forest s) (forest t) b (λ u. u ≡ y) → IsRefused n t u full
      → taking (free_of r) (nodes_sizes (more x (more y none)) ++ n ∷ []) ≡ Err full
  parent_lacks {t} {y = y} {n = n} st l q f =
      past (free_of r) (free_of t) (nodes_sizes (more x (more y none))) (n ∷ [])
      (omega (arith, total-nodes_sizes (more x (more y none)), free_before sr ss k p, free_before ss st l q)) ∙ lacking [] f

pub number_lacks : {A : Type 0} (s t : State) (n : ℕ) (r : Result A Full) → IfErr r (IsRefused n s t) → IfErr r (λ full. taking (free_of s) (n ∷ []) ≡ Err full)
number_lacks s t n r h = grind arith

-- a number that lacks bytes where those of a short one are free
pub number_alone : (q : Fraction) (free : ℕ) (full : Full) → 16 ≤ free → building free (num q) ≡ Err full → LacksLongForm full
number_alone q free full h e = grind arith

pub one_test : is_one_fraction one_fraction ≡ true
unfolding one_fraction lowest gcd
one_test = refl

not_one : (n : ℕ) → n ≢ 1 → (n == 1) ≡ false
not_one n h = grind arith

pub rational_term : (t : Term) → t.radicand ≡ 1 → term_tree t ≡ num t.coefficient
rational_term t e = ap (λ b. if b then num t.coefficient else if is_one_fraction t.coefficient then root (num (whole_fraction (pos t.radicand))) else mult
    (more (num t.coefficient) (more (root (num (whole_fraction (pos t.radicand)))) none))) (eq-eqb t.radicand 1 e)

pub root_term : (t : Term) → t.radicand ≢ 1 → t.coefficient ≡ one_fraction → term_tree t ≡ root (num (whole_fraction (pos t.radicand)))
root_term t h e = grind (arith, not_one, one_test)

pub multiple_term : (t : Term) → t.radicand ≢ 1 → t.coefficient ≢ one_fraction → term_tree t ≡ mult (more (num t.coefficient) (more (root (num (whole_fraction (pos t.radicand)))) none))
multiple_term t h e = grind (arith, not_one, not_one_test)

-- a rational has one class at most
pub rational_classes : (t : Tree) (q : Fraction) → t ≡ num q → classes t ≡ 2 → ⊥
rational_classes t q e f = grind arith

-- a term that is a rational has radicand 1
pub rational_radicand : (t : Tree) (q : Fraction) (x : Term) → t ≡ num q → value t ≡ x ∷ [] → x.radicand ≡ 1
rational_radicand t q x e f = grind arith

-- ---- the very tree

-- an answer that is this tree
pub told_tree : {E : Type 0} (r : Result ℕ E) (f : Forest) (s : State) (u v : Tree) → IfOk r (λ h. Gives f (forest s) h (λ t. t ≡ u)) → u ≡ v → IfOk r (λ h. tree_of h s ≡ v)
told_tree r f s u v g e = grind (arith, given_told)

-- what is given is this one
pub given_is : {f g : Forest} {i : ℕ} {P : Tree → Type 0} {u : Tree} → Gives f g i P → plain (root_tree i g) ≡ u → Gives f g i (λ t. t ≡ u)
given_is g e = record { tree = g.tree; ends = g.ends; once = g.once; whole = g.whole; told = sym (ap plain (last_tree g.ends)) ∙ e }

pub if_tree : {E : Type 0} (r : Result ℕ E) (f : Forest) (s : State) (P : Tree → Type 0) (u v : Tree) → IfOk r (λ h. Gives f (forest s) h P) → IfOk r (λ h. tree_of h s ≡ u) → u ≡ v
    → IfOk r (λ h. Gives f (forest s) h (λ t. t ≡ v))
if_tree r f s P u v g e q = grind (arith, given_is)
