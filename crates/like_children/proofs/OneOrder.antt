-- Trees whose keys rise have one order.
use Rattle.like_children.proofs.Shared.{arith, ◌≡◌, ◌⊎◌, inl, inr, refl, sym, ap, ◌∙◌, RisesBy, tree_cmp, Permuted, permuted_none, permuted_more, permuted_swap, permuted_trans}
use Rattle.like_children.proofs.Shared.{Permuted-sym, Tree, Trees, none, more, Less, tree_cmp_refl, tree_cmp_total}

-- ---- which trees they are

abbrev IsAmong : Tree → Trees → Type 0
IsAmong t none = ⊥
IsAmong t (more u us) = (t ≡ u) ⊎ IsAmong t us

among_permuted : {ts us : Trees} (t : Tree) → Permuted ts us → IsAmong t ts → IsAmong t us
among_permuted t permuted_none h = h
among_permuted t (permuted_more k) (inl e) = inl e
among_permuted t (permuted_more k) (inr x) = inr (among_permuted t k x)
among_permuted t permuted_swap (inl e) = inr (inl e)
among_permuted t permuted_swap (inr (inl e)) = inl e
among_permuted t permuted_swap (inr (inr x)) = inr (inr x)
among_permuted t (permuted_trans k l) h = among_permuted t l (among_permuted t k h)

module _ (key : Tree → Tree) where
  -- ---- the first has the least key

  first_least : (t u : Tree) (ts : Trees) → RisesBy key (more t ts) → IsAmong u ts → tree_cmp (key t) (key u) ≡ Less
  first_least t u none r h = absurd h
  first_least t u (more v ts) r (inl e) = ap (λ (x : Tree). tree_cmp (key t) (key x)) e ∙ r.0
  first_least t u (more v ts) r (inr x) = tree_cmp_total.trans (key t) (key v) (key u) r.0 (first_least v u ts r.1 x)

  rising_rest : (t : Tree) (ts : Trees) → RisesBy key (more t ts) → RisesBy key ts
  rising_rest t ts r = grind arith

  not_below_itself : (t u : Tree) → t ≡ u → tree_cmp (key t) (key u) ≡ Less → ⊥
  not_below_itself t u e l = grind (arith, tree_cmp_refl)

  not_below_both : (t u : Tree) → tree_cmp (key t) (key u) ≡ Less → tree_cmp (key u) (key t) ≡ Less → ⊥
  not_below_both t u l m = grind (arith, tree_cmp_total)

  -- ---- one order

  same_first : (t u : Tree) (ts us : Trees) → RisesBy key (more t ts) → RisesBy key (more u us) → IsAmong t (more u us) → IsAmong u (more t ts) → t ≡ u
  same_first t u ts us r s (inl e) h = e
  same_first t u ts us r s (inr x) (inl e) = sym e
  same_first t u ts us r s (inr x) (inr y) = absurd (not_below_both t u (first_least t u ts r y) (first_least u t us s x))

  among_rest : (t u v : Tree) (ts us : Trees) → RisesBy key (more t ts) → t ≡ u → IsAmong v ts → IsAmong v (more u us) → IsAmong v us
  among_rest t u v ts us r e x h = grind (arith, not_below_itself, first_least)

  one_order : (ts us : Trees) → RisesBy key ts → RisesBy key us → ((t : Tree) → IsAmong t ts → IsAmong t us) → ((t : Tree) → IsAmong t us → IsAmong t ts) → ts ≡ us
  one_order none none r s f g = refl
  one_order none (more u us) r s f g = absurd (g u (inl refl))
  one_order (more t ts) none r s f g = absurd (f t (inl refl))
  one_order (more t ts) (more u us) r s f g =
      let e = same_first t u ts us r s (f t (inl refl)) (g u (inl refl)) in
      let rest = one_order ts us (rising_rest t ts r) (rising_rest u us s)
      (λ v x. among_rest t u v ts us r e x (f v (inr x)))
      (λ v x. among_rest u t v us ts s (sym e) x (g v (inr x))) in
      ap (λ (x : Tree). more x ts) e ∙ ap (more u) rest

  pub rising_once : {us vs : Trees} → Permuted us vs → RisesBy key us → RisesBy key vs → us ≡ vs
  rising_once {us = us} {vs = vs} p r s = one_order us vs r s (λ t x. among_permuted t p x) (λ t x. among_permuted t (Permuted-sym p) x)
