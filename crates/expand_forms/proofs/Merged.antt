-- The factors of two terms, merged into new trees.
use Rattle.expand_forms.proofs.Shared.{◌≡◌, ◌≤◌, ◌<◌, ◌^◌, ℕ, ◌+◌, [], ◌∷◌, ◌++◌, length, drop, refl, sym, ap, ◌∙◌, subst, arith, append_assoc, append-nil, Option, Some, length-append, Trees}
use Rattle.expand_forms.proofs.Shared.{represents_count, factor_tree, factor_trees, AddsTrees, GoesOn, IsNext, Next, Monomial, monomial_times, State, Forest, arity, Gives, Stands, forest, arity-join}
use Rattle.expand_forms.proofs.{Shared.{arity_le, few_nodes}, AddedTrees.{adds_more, adds_none}, TermReadings.{count_factors, drop_length, drop_more, factors_append}}

-- so many factors of each are placed, and the product goes on with that of the others
pub record IsMerged (m n : Monomial) (i j k : ℕ) (old now : Forest) : Type 0 where
  pub done : Monomial
  pub adds : AddsTrees (factor_trees done) old now
  pub split : done ++ monomial_times (drop i m) (drop j n) ≡ monomial_times m n
  pub left : i ≤ length m
  pub right : j ≤ length n
  pub many : k ≡ length done

pub merged_none : (m n : Monomial) (f : Forest) → IsMerged m n 0 0 0 f f
merged_none m n f = record { done = []; adds = adds_none f; split = refl; left = omega arith; right = omega arith; many = refl }

pub merged_more : {m n : Monomial} {i j many p : ℕ} {old now new : Forest} (w : IsMerged m n i j many old now) (x : Next) (h : IsNext (drop i m) (drop j n) x)
    → Gives now new p (λ t. t ≡ factor_tree h.factor) → IsMerged m n (i + x.left) (j + x.right) (many + 1) old new
merged_more {m} {n} {i} {j} {old = old} {new = new} w x h g =
    let f = h.factor in
    let rest = monomial_times (drop (i + x.left) m) (drop (j + x.right) n) in
    record {
      done = w.done ++ f ∷ [];
      adds = subst (λ (ts : Trees). AddsTrees ts old new) (factors_append w.done (f ∷ [])) (adds_more w.adds g);
      split =
          append_assoc w.done (f ∷ []) rest
          ∙ ap (λ (k : Monomial). w.done ++ f ∷ k) (sym (λ k. monomial_times (drop_more i x.left m k) (drop_more j x.right n k)))
          ∙ ap (λ (k : Monomial). w.done ++ k) (sym h.product) ∙ w.split;
      left = omega (arith, drop_length i m w.left, h.left_within, w.left);
      right = omega (arith, drop_length j n w.right, h.right_within, w.right);
      many = omega (arith, w.many, length-append w.done (f ∷ []));
    }

-- all of both are
pub merged_all : {m n : Monomial} {i j many : ℕ} {old now : Forest} (w : IsMerged m n i j many old now) → drop i m ≡ [] → drop j n ≡ [] → w.done ≡ monomial_times m n
merged_all w e k = sym (append-nil w.done) ∙ sym (λ s. w.done ++ monomial_times (e s) (k s)) ∙ w.split

pub all_gone : {m n : Monomial} (o : Option Next) → GoesOn m n o → ((x : Next) → o ≡ Some x → ⊥) → (m ≡ []) × (n ≡ [])
all_gone o h k = grind arith

-- one more is among those of the product
pub merged_length : {m n : Monomial} {i j many : ℕ} {old now : Forest} {x : Next} (w : IsMerged m n i j many old now) → IsNext (drop i m) (drop j n) x → length w.done + 1 ≤ length (monomial_times m n)
merged_length {m} {n} {i} {j} w h =
    omega (arith, length-append w.done (monomial_times (drop i m) (drop j n)), ap (λ (k : Monomial). length k) w.split, ap (λ (k : Monomial). length k) h.product)

-- a pool has fewer trees than 2 ^ 16
pub few_merged : {m n : Monomial} {i j many : ℕ} {old : Forest} {s : State} → Stands s → IsMerged m n i j many old (forest s) → many < 2 ^ 16
few_merged {old = old} {s = s} st w =
    omega (arith, w.many, count_factors w.done, represents_count w.adds.represents, ap arity w.adds.whole, arity-join old w.adds.trees, arity_le (forest s), few_nodes s st.pool, ap length st.flat)
