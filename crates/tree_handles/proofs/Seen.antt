-- What a reader sees of a root.
use Rattle.tree_handles.proofs.Shared.{arith, ◌≡◌, ℕ, sym, ap, ◌∙◌, subst, true, false, Kind, Tree, root_kind, is_mult, is_add, State, tree_of, IsHanded, plain, IsExpression}
use Rattle.tree_handles.proofs.{Shared.{holds, tree_at, has_root, Stands, forest}, Lasts.{expression_root, plain_root}, Roots.root_held}
use Rattle.calc_terms.specs.declared.kind.Kind.TheVariants as kind

-- ---- reading a root

pub live : {i j : ℕ} (s : State) → j ≡ i → has_root i (forest s) ≡ true → holds j (forest s) ≡ true
live {i = i} {j = j} s e h = subst (λ (x : ℕ). holds x (forest s) ≡ true) (sym e) (root_held i (forest s) h)

pub expression : {s : State} {i j : ℕ} → j ≡ i → Stands s → IsHanded i (forest s) → IsExpression j (forest s)
expression {s = s} {i = i} {j = j} e st h = subst (λ (x : ℕ). IsExpression x (forest s)) (sym e) (expression_root st h)

-- what is read there is the root's tree
pub seen : {s : State} {i j : ℕ} → j ≡ i → Stands s → IsHanded i (forest s) → plain (tree_at j (forest s)) ≡ tree_of i s
seen {s = s} {i = i} {j = j} e st h = ap (λ (x : ℕ). plain (tree_at x (forest s))) e ∙ plain_root i st h.root

-- ---- kinds

pub kind_of_root : {s : State} {i j : ℕ} {k : Kind} → j ≡ i → Stands s → IsHanded i (forest s) → (IsExpression j (forest s) → k ≡ root_kind (plain (tree_at j (forest s)))) → k ≡ root_kind (tree_of i s)
kind_of_root e st h told = told (expression e st h) ∙ ap root_kind (seen e st h)

pub product_kind : (t : Tree) → kind.Mult ≡ root_kind t → is_mult t ≡ true
product_kind t e = grind arith

pub no_product_kind : (t : Tree) → (kind.Mult ≡ root_kind t → ⊥) → is_mult t ≡ false
no_product_kind t h = grind arith

pub sum_kind : (t : Tree) → kind.Add ≡ root_kind t → is_add t ≡ true
sum_kind t e = grind arith

pub no_sum_kind : (t : Tree) → (kind.Add ≡ root_kind t → ⊥) → is_add t ≡ false
no_sum_kind t h = grind arith
