-- The derivative of a tree by the kind of its root, where the tree holds the name.
use Rattle.dual_diff.proofs.Shared.{◌≡◌, ℕ, ◌+◌, ℤ, List, true, false, refl, ap, sym, subst, ◌∙◌, arith, Some, whole_literal, Kind, bare, size_of_payload, Tree, mult, div, Trees, none, more, append}
use Rattle.dual_diff.proofs.Shared.{count, root_kind, size, sizes, whole_num, nth, children_of, compound, takes_kind, derivative, derivatives, is_linear, power_rule, products, quotient_rule}
use Rattle.dual_diff.proofs.{Shared.{root_rule, sum_of_products, occurs, occurs_in, two}, Forms.root_of}
use Rattle.calc_terms.specs.declared.kind.Kind.TheVariants as kind

-- ---- a tree without the name

no_products : (x : List ℕ) (earlier ts : Trees) → occurs_in x ts ≡ false → products x earlier ts ≡ none
no_products x earlier none o = refl
no_products x earlier (more t ts) o = grind (arith, no_products x (append earlier (more t none)) ts)

pub absent_zero : (x : List ℕ) (t : Tree) → occurs x t ≡ false → derivative x t ≡ whole_num 0
absent_zero x (mult ts) o = ap sum_of_products (no_products x none ts o)
absent_zero x t o = grind arith

-- ---- a tree with the name

pub symbol_one : (x : List ℕ) (t : Tree) → root_kind t ≡ kind.Sym → occurs x t ≡ true → derivative x t ≡ whole_num 1
symbol_one x t h o = grind arith

-- a sum, a difference or an opposite
pub record IsSame (x : List ℕ) (k : Kind) (t : Tree) : Type 0 where
  pub rule : derivative x t ≡ compound k (derivatives x (children_of t))
  pub bytes : size (derivative x t) ≡ size_of_payload (bare k) + sizes (derivatives x (children_of t))
  pub takes : takes_kind k (count (children_of t)) ≡ true

same_root : (x : List ℕ) (t : Tree) → occurs x t ≡ true → is_linear (root_kind t) ≡ true → IsSame x (root_kind t) t
same_root x t o l = grind arith

pub same_node : (x : List ℕ) (k : Kind) (t : Tree) → k ≡ root_kind t → is_linear k ≡ true → occurs x t ≡ true → IsSame x k t
same_node x k t e l o = subst (λ (j : Kind). is_linear j ≡ true → IsSame x j t) (sym e) (same_root x t o) l

-- the kind of a tree that holds the name and is none of those with a rule of their own
pub other_linear : (x : List ℕ) (k : Kind) (t : Tree) → k ≡ root_kind t → occurs x t ≡ true → (k ≡ kind.Sym → ⊥) → (k ≡ kind.Mult → ⊥) → (k ≡ kind.Div → ⊥) → (k ≡ kind.Pow → ⊥)
    → (k ≡ kind.Root → ⊥) → is_linear k ≡ true
other_linear x k t e o s m d p r = grind arith

pub product_sum : (x : List ℕ) (t : Tree) → root_kind t ≡ kind.Mult → derivative x t ≡ sum_of_products (products x none (children_of t))
product_sum x t h = grind arith

pub product_held : (x : List ℕ) (t : Tree) → root_kind t ≡ kind.Mult → occurs x t ≡ true → occurs_in x (children_of t) ≡ true
product_held x t h o = grind arith

-- a quotient a/b whose divisor holds the name, and one whose dividend alone does
pub quotient_whole : (x : List ℕ) (t : Tree) {a b : Tree} → root_kind t ≡ kind.Div → a ≡ nth 0 (children_of t) → b ≡ nth 1 (children_of t) → occurs x b ≡ true
    → derivative x t ≡ quotient_rule a (derivative x a) b (derivative x b)
quotient_whole x t h e f o = grind arith

pub quotient_divided : (x : List ℕ) (t : Tree) {a b : Tree} → root_kind t ≡ kind.Div → occurs x t ≡ true → a ≡ nth 0 (children_of t) → b ≡ nth 1 (children_of t)
    → occurs x b ≡ false → derivative x t ≡ div (derivative x a) b
quotient_divided x t h o e f n = grind arith

-- the power of a base b
pub power_by_rule : (x : List ℕ) (t : Tree) (n : ℤ) {b : Tree} → root_kind t ≡ kind.Pow → occurs x t ≡ true → whole_literal (nth 1 (children_of t)) ≡ Some n
    → b ≡ nth 0 (children_of t) → derivative x t ≡ power_rule n b (derivative x b)
power_by_rule x t n h o l f = grind arith

-- the root of an argument a
pub root_by_rule : (x : List ℕ) (t : Tree) {a : Tree} → root_kind t ≡ kind.Root → occurs x t ≡ true → a ≡ nth 0 (children_of t) → derivative x t ≡ root_rule a (derivative x a)
root_by_rule x t h o e = grind arith

-- the same, with the root as the tree itself
pub root_slope : (x : List ℕ) (t : Tree) {a : Tree} → root_kind t ≡ kind.Root → occurs x t ≡ true → a ≡ nth 0 (children_of t) → derivative x t ≡ div (derivative x a) (mult (two (whole_num 2) t))
root_slope x t {a} h o e = root_by_rule x t h o e ∙ ap (λ v. div (derivative x a) (mult (two (whole_num 2) v))) (sym (root_of t h e))
