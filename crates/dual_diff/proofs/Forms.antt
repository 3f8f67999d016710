-- The form of a tree by the kind of its root, and its children.
use Rattle.dual_diff.proofs.Shared.{nodes_nth, ◌≡◌, ℕ, zero, suc, ◌+◌, ◌<◌, ◌≤◌, refl, sym, ap, ◌∙◌, arith, Tree, root, div, Trees, none, more, append, count, root_kind, nodes, size, sizes}
use Rattle.dual_diff.proofs.Shared.{nth, children_of, behind, first, ◌==◌, true, Kind, bare, compound, size_of_payload, takes_kind, eqb-true}
use Rattle.tree_handles.proofs.Plains.{nodes_grown as nodes_children}
pub use Rattle.dual_diff.specs.WritingLaws.{sizes_append}
use Rattle.calc_terms.specs.declared.kind.Kind.TheVariants as kind

pub quotient_form : (t : Tree) → root_kind t ≡ kind.Div → t ≡ div (nth 0 (children_of t)) (nth 1 (children_of t))
quotient_form t h = grind arith

pub quotient_nodes : (t : Tree) {a b : Tree} → root_kind t ≡ kind.Div → a ≡ nth 0 (children_of t) → b ≡ nth 1 (children_of t) → nodes t ≡ suc (nodes a + nodes b)
quotient_nodes t h e f = omega (arith, ap nodes (quotient_form t h), ap nodes e, ap nodes f)

pub root_form : (t : Tree) → root_kind t ≡ kind.Root → t ≡ root (nth 0 (children_of t))
root_form t h = grind arith

pub root_of : (t : Tree) {a : Tree} → root_kind t ≡ kind.Root → a ≡ nth 0 (children_of t) → t ≡ root a
root_of t h e = root_form t h ∙ ap root (sym e)

pub two_children : (t : Tree) → root_kind t ≡ kind.Div → count (children_of t) ≡ 2
two_children t h = grind arith

pub base_and_exponent : (t : Tree) → root_kind t ≡ kind.Pow → count (children_of t) ≡ 2
base_and_exponent t h = grind arith

pub one_argument : (t : Tree) → root_kind t ≡ kind.Root → count (children_of t) ≡ 1
one_argument t h = grind arith

-- ---- children by their places

-- a child has fewer nodes
pub fewer : (n : ℕ) (t : Tree) → n < count (children_of t) → nodes (nth n (children_of t)) < nodes t
fewer n t h = omega (arith, nodes_children t, nodes_nth n (children_of t) h)

pub smaller_child : {a : Tree} (n : ℕ) (t : Tree) → n < count (children_of t) → a ≡ nth n (children_of t) → nodes a < nodes t
smaller_child n t h e = omega (arith, ap nodes e, fewer n t h)

pub first_all : (n : ℕ) (ts : Trees) → count ts ≤ n → first n ts ≡ ts
first_all zero none h = refl
first_all (suc n) none h = refl
first_all zero (more t ts) h = absurd (omega arith)
first_all (suc n) (more t ts) h = ap (more t) (first_all n ts (omega arith))

pub first_next : (n : ℕ) (ts : Trees) → n < count ts → first (suc n) ts ≡ append (first n ts) (more (nth n ts) none)
first_next n none h = absurd (omega arith)
first_next zero (more t ts) h = refl
first_next (suc n) (more t ts) h = ap (more t) (first_next n ts (omega arith))

pub behind_at : (n : ℕ) (ts : Trees) → n < count ts → behind n ts ≡ more (nth n ts) (behind (suc n) ts)
behind_at n none h = absurd (omega arith)
behind_at zero (more t ts) h = refl
behind_at (suc n) (more t ts) h = behind_at n ts (omega arith)

pub behind_all : (n : ℕ) (ts : Trees) → count ts ≤ n → behind n ts ≡ none
behind_all zero none h = refl
behind_all (suc n) none h = refl
behind_all zero (more t ts) h = absurd (omega arith)
behind_all (suc n) (more t ts) h = behind_all n ts (omega arith)

pub count_first : (n : ℕ) (ts : Trees) → n ≤ count ts → count (first n ts) ≡ n
count_first zero ts h = refl
count_first (suc n) none h = absurd (omega arith)
count_first (suc n) (more t ts) h = ap suc (count_first n ts (omega arith))

pub count_behind : (n : ℕ) (ts : Trees) → n ≤ count ts → count (behind n ts) + n ≡ count ts
count_behind zero ts h = omega arith
count_behind (suc n) none h = absurd (omega arith)
count_behind (suc n) (more t ts) h = omega (arith, count_behind n ts (omega arith))

pub first_behind : (n : ℕ) (ts : Trees) → append (first n ts) (behind n ts) ≡ ts
first_behind zero ts = refl
first_behind (suc n) none = refl
first_behind (suc n) (more t ts) = ap (more t) (first_behind n ts)

pub nth_behind : (n m : ℕ) (ts : Trees) → nth m (behind n ts) ≡ nth (n + m) ts
nth_behind zero m ts = ap (λ (k : ℕ). nth k ts) (omega arith)
nth_behind (suc n) m none = refl
nth_behind (suc n) m (more t ts) = nth_behind n m ts ∙ ap (λ (k : ℕ). nth k (more t ts)) (let e : suc (n + m) ≡ suc n + m = omega arith in e)

pub append_one : (ts : Trees) (t : Tree) (us : Trees) → append (append ts (more t none)) us ≡ append ts (more t us)
append_one none t us = refl
append_one (more u ts) t us = ap (more u) (append_one ts t us)

-- ---- the bytes of a node over trees

none_of : (ts : Trees) → (count ts == 0) ≡ true → ts ≡ none
none_of none h = refl
none_of (more t ts) h = absurd (omega (arith, eqb-true (count (more t ts)) 0 h))

one_of : (ts : Trees) → (count ts == 1) ≡ true → ts ≡ more (nth 0 ts) none
one_of none h = absurd cc
one_of (more t none) h = refl
one_of (more t (more u us)) h = absurd (omega (arith, eqb-true (count (more t (more u us))) 1 h))

two_of : (ts : Trees) → (count ts == 2) ≡ true → ts ≡ more (nth 0 ts) (more (nth 1 ts) none)
two_of none h = absurd cc
two_of (more t none) h = absurd cc
two_of (more t (more u none)) h = refl
two_of (more t (more u (more v vs))) h = absurd (omega (arith, eqb-true (count (more t (more u (more v vs)))) 2 h))

pub compound_size : (k : Kind) (ts : Trees) → takes_kind k (count ts) ≡ true → size (compound k ts) ≡ size_of_payload (bare k) + sizes ts
compound_size k ts h = grind (arith, none_of, one_of, two_of)
