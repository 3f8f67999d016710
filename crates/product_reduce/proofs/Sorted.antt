-- Factors in the order of their bases, no two of which are identical.
use Rattle.product_reduce.proofs.Shared.{less_of, ⊤, IsPermutation, IsSortedByKey, suc, arith, add-one, ◌≡◌, false, sym, ap, ◌∙◌, Ordering, Less, is_eq, is_lt, ordering_reverse, base_of, NoneIs}
use Rattle.product_reduce.proofs.Shared.{RisesBy, tree_cmp, Tree, Trees, none, more, Permuted, permuted_none, permuted_more, permuted_swap, permuted_trans, tree_cmp_total, list_of, is_partner}
use Rattle.product_reduce.proofs.Shared.{has_partner, have_partners, none_permuted, of_lists}

-- ---- no two factors with one base

abbrev pub AreApart : Trees → Type 0
AreApart none = ⊤
AreApart (more t ts) = NoneIs (is_partner t) ts × AreApart ts

no_partner_words : (t : Tree) (ts : Trees) → has_partner t ts ≡ false → NoneIs (is_partner t) ts
no_partner_words t none h = tt
no_partner_words t (more u ts) h = grind (arith, no_partner_words t ts)

pub apart_words : (ts : Trees) → have_partners ts ≡ false → AreApart ts
apart_words none h = tt
apart_words (more t ts) h = grind (arith, apart_words ts, no_partner_words)

turned : (o : Ordering) → is_eq (ordering_reverse o) ≡ is_eq o
turned o = grind arith

partner_turned : (t u : Tree) → is_partner t u ≡ is_partner u t
partner_turned t u = ap is_eq (tree_cmp_total.antisymm (base_of t) (base_of u)) ∙ turned (tree_cmp (base_of u) (base_of t))

pub apart_permuted : {ts us : Trees} → Permuted ts us → AreApart ts → AreApart us
apart_permuted permuted_none h = tt
apart_permuted (permuted_more {t} k) h = (none_permuted (is_partner t) k h.0, apart_permuted k h.1)
apart_permuted (permuted_swap {t} {u} {ts}) h = ((partner_turned u t ∙ h.0.0, h.1.0), (h.0.1, h.1.1))
apart_permuted (permuted_trans k l) h = apart_permuted l (apart_permuted k h)

-- ---- rising strictly

rises_strictly : (us : Trees) → AreApart us → IsSortedByKey base_of tree_cmp (list_of us) → RisesBy base_of us
rises_strictly none h s = tt
rises_strictly (more t none) h s = tt
rises_strictly (more t (more u us)) h s = (
  less_of (tree_cmp (base_of t) (base_of u)) h.0.0 (ap is_lt (sym (tree_cmp_total.antisymm (base_of u) (base_of t))) ∙ s 0 t (omega arith) (omega arith)),
  rises_strictly (more u us) h.1 (λ k d l m. rw add-one (rw add-one at (s (suc k) d (omega arith) (omega arith)))),
)

-- sorted factors, no two with one base
pub sorted_rising : (ts us : Trees) → have_partners ts ≡ false → IsPermutation (list_of ts) (list_of us) → IsSortedByKey base_of tree_cmp (list_of us) → RisesBy base_of us
sorted_rising ts us h m s = rises_strictly us (apart_permuted (of_lists ts us m) (apart_words ts h)) s
