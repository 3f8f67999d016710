-- A sum that stands last, with other terms.
use Rattle.expand_forms.proofs.Shared.{refl, Forest, Gives, without_root, gives_as, ◌≡◌, ℕ, ◌<◌, ◌≤◌, sym, ap, ◌∙◌, subst, Less, term_cmp, Tree, Trees, add, count, IsSum, children_of, nth, true}
use Rattle.expand_forms.proofs.{Shared.{is_add}, SumPlaces.{below_up_to}, TermReadings.{sum_children}}

pub sum_is : {t : Tree} → IsSum t → t ≡ add (children_of t)
sum_is s = s.tree ∙ sym (ap (λ (u : Tree). add (children_of u)) s.tree)

-- it is one where the trees are the same
pub sum_still : {i : ℕ} {f h : Forest} → Gives (without_root i f) f i IsSum → h ≡ f → Gives (without_root i h) h i (λ t. is_add t ≡ true)
sum_still {i = i} e q = subst (λ (f : Forest). Gives (without_root i f) f i (λ t. is_add t ≡ true)) (sym q) (gives_as e refl (λ t s. ap is_add s.tree))

-- ---- its order

pub sum_below : {t : Tree} (s : IsSum t) (j n : ℕ) (u : Tree) → j ≤ n → n < count (children_of t) → term_cmp (nth n (children_of t)) u ≡ Less → term_cmp (nth j (children_of t)) u ≡ Less
sum_below {t} s j n u i l e =
    let c = sum_children s in
    subst (λ (ts : Trees). term_cmp (nth j ts) u ≡ Less) (sym c)
    (below_up_to s.summands j n u s.normal i (subst (λ (ts : Trees). n < count ts) c l) (subst (λ (ts : Trees). term_cmp (nth n ts) u ≡ Less) c e))
