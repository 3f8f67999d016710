-- Children that are opened from the last to the first.
use Rattle.like_children.proofs.Shared.{Option, MatchOption, ℕ, zero, suc, ◌+◌, ◌-◌, ◌≤◌, ◌<◌, ◌≡◌, refl, sym, ap, ◌∙◌, subst, arith, Tree, Trees, none, more, count, opened_from, nth_opened}
use Rattle.like_children.proofs.Shared.{opened_at, opened_beside, IsSumOrProduct, HasChildren, NoneOpensBetween, IsLastToOpen, removed, nth, inserted, plain, children_of, Forest, kids, IsHanded}
use Rattle.like_children.proofs.{Shared.{Represents, root_tree, put, put-put, put-same}, Many.{IsMany, many, many_put, many_same}}

-- ---- the last one that gives way

-- with one more child seen
pub last_here : (parts : Tree → Trees) (n : ℕ) (ts : Trees) → parts (nth n ts) ≡ children_of (nth n ts) → IsLastToOpen parts n (n + 1) ts
last_here parts n ts e = record { before = omega arith; opens = e; last = λ k a b. absurd (omega (arith, a, b)) }

pub last_still : (parts : Tree → Trees) (r : Option ℕ) (n : ℕ) (ts : Trees) → MatchOption r (NoneOpensBetween parts 0 n ts) (λ at. IsLastToOpen parts at n ts)
    → parts (nth n ts) ≡ more (nth n ts) none
    → MatchOption r (NoneOpensBetween parts 0 (n + 1) ts) (λ at. IsLastToOpen parts at (n + 1) ts)
last_still parts r n ts h e = grind arith

-- ---- the children before those that were opened

pub nth_before : (parts : Tree → Trees) (n at : ℕ) (ts : Trees) → n < at → at ≤ count ts → nth n (opened_from parts at ts) ≡ nth n ts
nth_before parts n zero ts h l = absurd (omega arith)
nth_before parts n (suc at) none h l = absurd (omega arith)
nth_before parts zero (suc at) (more t ts) h l = refl
nth_before parts (suc n) (suc at) (more t ts) h l = nth_before parts n at ts (omega arith) (omega arith)

pub count_before : (parts : Tree → Trees) (at : ℕ) (ts : Trees) → at ≤ count ts → at ≤ count (opened_from parts at ts)
count_before parts zero ts l = omega arith
count_before parts (suc at) none l = absurd (omega arith)
count_before parts (suc at) (more t ts) l = omega (arith, count_before parts at ts (omega arith))

opened_by : (parts : Tree → Trees) (d n : ℕ) (ts : Trees) → n + d ≤ count ts → NoneOpensBetween parts n (n + d) (opened_from parts (n + d) ts)
    → opened_from parts (n + d) ts ≡ opened_from parts n ts
opened_by parts zero n ts l h = let q : n + 0 ≡ n = omega arith in ap (λ (m : ℕ). opened_from parts m ts) q
opened_by parts (suc d) n ts l h =
    let q : n + suc d ≡ suc (n + d) = omega arith in
    let e = ap (λ (m : ℕ). opened_from parts m ts) q in
    let same : nth (n + d) (opened_from parts (n + suc d) ts) ≡ nth (n + d) ts = ap (nth (n + d)) e ∙ nth_opened parts (n + d) ts (omega (arith, l)) in
    let alone : parts (nth (n + d) ts) ≡ more (nth (n + d) ts) none = subst (λ (t : Tree). parts t ≡ more t none) same (h (n + d) (omega arith) (omega arith)) in
    let still : opened_from parts (n + suc d) ts ≡ opened_from parts (n + d) ts = e ∙ opened_beside parts (n + d) ts (omega (arith, l)) alone in
    still ∙ opened_by parts d n ts (omega (arith, l)) (λ k a b. subst (λ (us : Trees). parts (nth k us) ≡ more (nth k us) none) still (h k a (omega (arith, b))))

-- where none of them gives way, they are as they would be opened
pub opened_down : (parts : Tree → Trees) (n at : ℕ) (ts : Trees) → n ≤ at → at ≤ count ts → NoneOpensBetween parts n at (opened_from parts at ts)
    → opened_from parts at ts ≡ opened_from parts n ts
opened_down parts n at ts le l h =
    let q : n + (at - n) ≡ at = omega arith in
    subst (λ (m : ℕ). m ≤ count ts → NoneOpensBetween parts n m (opened_from parts m ts) → opened_from parts m ts ≡ opened_from parts n ts) q (opened_by parts (at - n) n ts) l h

-- ---- one gives way

pub record IsFound (parts : Tree → Trees) (at : ℕ) (ts us : Trees) : Type 0 where
  pub few : at < count ts
  pub within : at < count us
  pub opened : inserted at (children_of (nth at us)) (removed at us) ≡ opened_from parts at ts

pub found : (parts : Tree → Trees) (at first : ℕ) (ts : Trees) → first ≤ count ts → IsLastToOpen parts at first (opened_from parts first ts)
    → IsFound parts at ts (opened_from parts first ts)
found parts at first ts l h =
    let few : at < count ts = omega (arith, h.before, l) in
    let here = opened_down parts (suc at) first ts (omega (arith, h.before)) l h.last in
    let us = opened_from parts first ts in
    let same : nth at us ≡ nth at ts = ap (nth at) here ∙ nth_opened parts at ts few in
    record {
      few = few;
      within = omega (arith, count_before parts first ts l, h.before);
      opened = (λ i. inserted at (children_of (same i)) (removed at (here i))) ∙ opened_at parts at ts few (subst (λ (t : Tree). children_of t ≡ parts t) same (sym h.opens));
    }

-- ---- roots with other children

pub has_same : {i : ℕ} {f : Forest} → IsHanded i f → IsSumOrProduct (plain (root_tree i f)) → HasChildren i (children_of (plain (root_tree i f))) f f
has_same {i = i} {f = f} h e = record { kids = kids (root_tree i f); are = (many h e).over.kids; whole = sym (put-same i f) }

pub has_after : {i : ℕ} {ts us : Trees} {f g k : Forest} (n : Forest) → HasChildren i ts f g → Represents n us → k ≡ put i n g → HasChildren i us f k
has_after {i = i} {f = f} n h r e = record { kids = n; are = r; whole = e ∙ ap (put i n) h.whole ∙ put-put i n h.kids f }

pub has_as : {i : ℕ} {ts us : Trees} {f g : Forest} → HasChildren i ts f g → ts ≡ us → HasChildren i us f g
has_as {i = i} {f = f} {g = g} h e = subst (λ (vs : Trees). HasChildren i vs f g) e h

pub has_many : {i : ℕ} {ts us : Trees} {f g : Forest} → IsMany i ts f → HasChildren i us f g → IsMany i us g
has_many m h = many_same (many_put h.kids m h.are) h.whole
