-- Factors that stand in order beside their coefficient.
use Rattle.product_reduce.proofs.Shared.{ℕ, ◌≤◌, ◌≡◌, eqb, true, false, refl, sym, ap, ◌∙◌, subst, IsSortedByKey, is_number, product_tree, base_of, Tree, Trees, none, count, Permuted-refl}
use Rattle.product_reduce.proofs.Shared.{with_coefficient, IsPermutation-refl, tree_cmp, list_of, plain, Forest, IsHanded, Gives, root_tree, without_root, gives_as, given_rest, given_same, given_told}
use Rattle.product_reduce.proofs.Shared.{handed_beside, eqb-sym, tree-without, without-swap, AreOthers, IsEnding, have_partners, factors_in, AreFactors}
use Rattle.product_reduce.proofs.{LastSteps.{coefficient_alone, ending, sorted_factors}, Sorted.{sorted_rising}}

-- ---- no other factor

pub alone_ends : (c : Tree) (ts : Trees) (t : Tree) → ts ≡ none → is_number c ≡ true → t ≡ c → IsEnding c ts t
alone_ends c ts t z n e = subst (λ (us : Trees). IsEnding c us t) (sym z) (subst (IsEnding c none) (sym e) (coefficient_alone c n))

-- ---- other factors

pub part_factors : (ts : Trees) → AreOthers ts → have_partners ts ≡ false → IsSortedByKey base_of tree_cmp (list_of ts) → 1 ≤ count ts → AreFactors ts
part_factors ts o n s l = sorted_factors ts ts o (Permuted-refl ts) (sorted_rising ts ts n (IsPermutation-refl (list_of ts)) s) l

-- the coefficient is as before where their product stands last
pub beside_part : {P : Tree → Type 0} {p : ℕ} {g : Forest} (i c : ℕ) (f : Forest) → eqb c i ≡ false → IsHanded c f → Gives (without_root i f) g p P → plain (root_tree c g) ≡ plain (root_tree c f)
beside_part i c f d h k = ap plain (given_same c k (handed_beside i (eqb-sym c i d) h).root ∙ tree-without i c f (eqb-sym c i d))

pub put_given : (i c p h : ℕ) (f g new : Forest) → eqb c i ≡ false → IsHanded c f → AreOthers (factors_in i f) → have_partners (factors_in i f) ≡ false
    → IsSortedByKey base_of tree_cmp (list_of (factors_in i f)) → is_number (plain (root_tree c f)) ≡ true → 1 ≤ count (factors_in i f)
    → Gives (without_root i f) g p (λ t. t ≡ product_tree (factors_in i f))
    → Gives (without_root c (without_root p g)) new h (λ t. t ≡ with_coefficient (plain (root_tree c g)) (plain (root_tree p g)))
    → Gives (without_root i (without_root c f)) new h (IsEnding (plain (root_tree c f)) (factors_in i f))
put_given i c p h f g new d x o n s k l a e =
    let ts = factors_in i f in
    let moved = IsPermutation-refl (list_of ts) in
    let ends = ending (plain (root_tree c f)) ts ts o k (record { front = refl; moved = moved; rising = s }) (Permuted-refl ts) (sorted_rising ts ts n moved s) l in
    gives_as e (ap (without_root c) (given_rest a) ∙ without-swap c i f d)
    (λ t q. subst (IsEnding (plain (root_tree c f)) ts) (sym (q ∙ (λ j. with_coefficient (beside_part i c f d x a j) (given_told a j)))) ends)
