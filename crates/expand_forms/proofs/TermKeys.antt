-- The keys of monomials, and their order.
use Rattle.expand_forms.proofs.Shared.{◌≡◌, ◌≢◌, [], ◌∷◌, refl, sym, ap, ◌∙◌, arith, None, Less, Greater, product_tree, tree_cmp, one_fraction, Tree, num, count, root_kind, factor_trees, monomial_cmp}
use Rattle.expand_forms.proofs.Shared.{Monomial, HasMonomial, IsMonomialKey, factors_in, term_cmp, Forest, on_factor, on_monomial}
use Rattle.calc_terms.specs.declared.kind.Kind.TheVariants as kind

-- ---- how many factors there are

pub number_factors : (t : Tree) → kind.Num ≡ root_kind t → count (factors_in t) ≡ 0
number_factors t e = grind arith

no_factors : (m : Monomial) → count (factor_trees m) ≡ 0 → m ≡ []
no_factors [] e = refl
no_factors (f ∷ m) e = absurd (omega (arith, e))

pub no_key : {m : Monomial} {t : Tree} (f : Forest) → HasMonomial m t → count (factors_in t) ≡ 0 → IsMonomialKey m f None
no_key {m} f h e = no_factors m (sym (ap count h.factors) ∙ e)

-- ---- their order

pub monomial_order : {m n : Monomial} {t u : Tree} → HasMonomial m t → HasMonomial n u → term_cmp t u ≡ monomial_cmp m n
monomial_order h k = λ i. tree_cmp (product_tree (h.factors i)) (product_tree (k.factors i))

pub one_first : (m n : Monomial) → m ≡ [] → n ≢ [] → Less ≡ monomial_cmp m n
one_first m [] e h = absurd (h refl)
one_first m (f ∷ n) e h =
    sym (ap (λ (x : Monomial). monomial_cmp x (f ∷ n)) e ∙ on_monomial (λ v. tree_cmp (num one_fraction) v ≡ Less) f n (on_factor (λ v. tree_cmp (num one_fraction) v ≡ Less) f refl refl)
    (λ g k. refl))

pub one_last : (m n : Monomial) → m ≢ [] → n ≡ [] → Greater ≡ monomial_cmp m n
one_last [] n h e = absurd (h refl)
one_last (f ∷ m) n h e =
    sym (ap (monomial_cmp (f ∷ m)) e ∙ on_monomial (λ v. tree_cmp v (num one_fraction) ≡ Greater) f m (on_factor (λ v. tree_cmp v (num one_fraction) ≡ Greater) f refl refl) (λ g k. refl))
