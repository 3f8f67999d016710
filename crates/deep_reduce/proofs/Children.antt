-- A child of a power or of a product that is taken out, reduced and put back.
use Rattle.std.proofs.Common.{◌≡◌, ℕ, ◌<◌, refl, sym, ap, ◌∙◌, subst, arith, true, false, [], ◌∷◌, ◌+◌, ◌*◌}
use Rattle.deep_reduce.proofs.Shared.{Tree, power, count, set_tree, base_in, exponent_in, nth, plain, children_of, Forest, IsHanded, Gives, root_tree, gives_as, KeepsFront, without_root, behind_first}
use Rattle.deep_reduce.proofs.Shared.{behind_new, front_same, front_without, front_after_one, given_rest, Kind, nest_of, weight, load_of_factors, mult, root_kind, is_mult, expression, seen}
use Rattle.deep_reduce.proofs.Shared.{nest_of_rewritten, weight_below, IsNested, IsUnfinished, IsMultiplied, IsLifted, State, tree_of, IsExpression, tree_at, Stands, forest, given_told, set_child}
use Rattle.deep_reduce.proofs.{Shared.{arity, kids_of, handed_arity}, Measures.{of_product, of_exponent, exponents_fall, rank}}

-- ---- powers

-- its exponent is taken out, and another is put in; and so its base
pub exponent_told : {t b e : Tree} {h : ℕ} {others new : Forest} → t ≡ power b e → Gives others new h (λ u. u ≡ nth 1 (children_of t)) → plain (root_tree h new) ≡ exponent_in t
exponent_told e g = given_told g ∙ ap (λ (x : Tree). nth 1 (children_of x)) e ∙ sym (ap exponent_in e)

pub exponent_set : {t b e : Tree} (u : Tree) → t ≡ power b e → set_child 1 u t ≡ power (base_in t) u
exponent_set u e = ap (set_child 1 u) e ∙ ap (λ (x : Tree). power (base_in x) u) (sym e)

pub base_told : {t b e : Tree} {h : ℕ} {others new : Forest} → t ≡ power b e → Gives others new h (λ u. u ≡ nth 0 (children_of t)) → plain (root_tree h new) ≡ base_in t
base_told e g = given_told g ∙ ap (λ (x : Tree). nth 0 (children_of x)) e ∙ sym (ap base_in e)

pub base_set : {t b e : Tree} (u : Tree) → t ≡ power b e → set_child 0 u t ≡ power u (exponent_in t)
base_set u e = ap (set_child 0 u) e ∙ ap (λ (x : Tree). power u (exponent_in x)) (sym e)

pub two_sides : {t b e : Tree} → t ≡ power b e → count (children_of t) ≡ 2
two_sides e = ap (λ (x : Tree). count (children_of x)) e

-- how many a reader of the root meets
pub handed_within : {s : State} {i j : ℕ} → j ≡ i → Stands s → IsHanded i (forest s) → arity (kids_of j (forest s)) ≡ count (children_of (tree_of i s))
handed_within {s = s} e st h = ap (λ (x : ℕ). arity (kids_of x (forest s))) e ∙ handed_arity st h

pub factor_set : (t : Tree) (n : ℕ) (u : Tree) → is_mult t ≡ true → set_child n u t ≡ mult (set_tree n u (children_of t))
factor_set t n u m = grind arith

-- ---- from call to call

pub gives_next : {others g h : Forest} {j k : ℕ} {P Q R : Tree → Type 0} → Gives others g j P → Gives (without_root j g) h k Q → ((t : Tree) → Q t → R t) → Gives others h k R
gives_next a b q = gives_as b (given_rest a) q

pub front_next : {f g h : Forest} {i j : ℕ} {P : Tree → Type 0} → Gives (without_root i f) g j P → KeepsFront (i ∷ []) f g → KeepsFront (j ∷ []) g h → KeepsFront (i ∷ []) f h
front_next a k n = front_after_one (behind_new a.ends (front_without behind_first front_same)) k n

-- ---- exponents

-- what is read of the exponent
pub exponent_seen : {s : State} {i j k : ℕ} {x : Kind} → j ≡ i → Stands s → IsHanded i (forest s) → tree_of i s ≡ power (base_in (tree_of i s)) (exponent_in (tree_of i s))
    → (IsExpression j (forest s) → IsExpression k (forest s)) → (IsExpression j (forest s) → plain (tree_at k (forest s)) ≡ nth 1 (children_of (plain (tree_at j (forest s)))))
    → (IsExpression k (forest s) → x ≡ root_kind (plain (tree_at k (forest s)))) → x ≡ root_kind (exponent_in (tree_of i s))
exponent_seen h k a b c d e = grind (arith, expression, seen)

-- the exponent, as it is read
pub exponent_at : {s : State} {i j : ℕ} (k : ℕ) → j ≡ i → Stands s → IsHanded i (forest s) → tree_of i s ≡ power (base_in (tree_of i s)) (exponent_in (tree_of i s))
    → (IsExpression j (forest s) → plain (tree_at k (forest s)) ≡ nth 1 (children_of (plain (tree_at j (forest s))))) → plain (tree_at k (forest s)) ≡ exponent_in (tree_of i s)
exponent_at {s} {i} {j} k e st h p child = child (expression e st h) ∙ ap (λ (t : Tree). nth 1 (children_of t)) (seen e st h ∙ p)

-- a power with a product as its exponent
pub record HasProduct (t : Tree) : Type 0 where
  pub exponent-is : exponent_in t ≡ mult (children_of (exponent_in t))
  pub nested : IsNested (base_in t) (children_of (exponent_in t))
  pub lifted : (u : Tree) → IsMultiplied (base_in t) (children_of (exponent_in t)) u → IsLifted t u
  pub falls : 3 * load_of_factors (children_of (exponent_in t)) < 1048576
      → rank (nest_of (children_of (exponent_in t))) (3 * load_of_factors (children_of (exponent_in t))) < rank (nest_of_rewritten t) (3 * weight_below t + 1)

-- the product of the exponents is less than the power
pub taken_falls : (t x : Tree) → HasProduct t → x ≡ exponent_in t → 3 * load_of_factors (children_of x) < 1048576 → of_product x < of_exponent t
taken_falls t x p e h = subst (λ (y : Tree). 3 * load_of_factors (children_of y) < 1048576 → of_product y < of_exponent t) (sym e) p.falls h

has_product : (b x : Tree) → is_mult x ≡ true → IsUnfinished (power b x) → HasProduct (power b x)
has_product b (mult ts) m w = record { exponent-is = refl; nested = w; lifted = λ u h. h; falls = exponents_fall b ts (weight b) }
has_product b x m w = cc

pub with_product : (t : Tree) → t ≡ power (base_in t) (exponent_in t) → is_mult (exponent_in t) ≡ true → IsUnfinished t → HasProduct t
with_product t e m w = subst HasProduct (sym e) (has_product (base_in t) (exponent_in t) m (subst IsUnfinished e w))

no_product : (b x : Tree) → is_mult x ≡ false → IsLifted (power b x) (power b x)
no_product b x h = grind arith

-- one with another exponent stays
pub without_product : (t : Tree) → t ≡ power (base_in t) (exponent_in t) → is_mult (exponent_in t) ≡ false → IsLifted t t
without_product t e m = subst (λ (x : Tree). IsLifted x x) (sym e) (no_product (base_in t) (exponent_in t) m)
