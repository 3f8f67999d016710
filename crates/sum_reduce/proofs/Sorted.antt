-- Terms in the order of their parts.
use Rattle.sum_reduce.proofs.Shared.{ℕ, zero, suc, ◌<◌, ◌≤◌, arith, ◌≡◌, Bool, true, false, refl, sym, ap, ◌∙◌, subst, is_number, part_of, NoneIs, Tree, Trees, none, more, append, count, Permuted}
use Rattle.sum_reduce.proofs.Shared.{Permuted-append_right, IsSorting, SortsChildren, nth, plains, Forest, kids, root_tree, IsLead, IsLed, IsArranged, terms_in, IsSum, is_loose, none_permuted}
use Rattle.sum_reduce.proofs.{Shared.{sorted_behind, of_lists, count_append, behind_none}, Sums.{sum_over, changed, IsChanged}}
pub use Rattle.sum_reduce.proofs.Joins.{formed_reduced as formed_nth}

-- ---- terms by their places

pub none_nth : (p : Tree → Bool) (n : ℕ) (ts : Trees) → n < count ts → NoneIs p ts → p (nth n ts) ≡ false
none_nth p n none l h = absurd (omega arith)
none_nth p zero (more t ts) l h = h.0
none_nth p (suc n) (more t ts) l h = none_nth p n ts (omega arith) h.1

-- behind a leading Number
behind_lead : (lead os : Trees) → IsLead lead → NoneIs is_number os → (n : ℕ) → count lead ≤ n → n < count (append lead os) → is_number (nth n (append lead os)) ≡ false
behind_lead lead os h k n l m = grind (arith, none_nth)

pub led_behind : (ts : Trees) (h : IsLed ts) (n : ℕ) → count h.lead ≤ n → n < count ts → is_number (nth n ts) ≡ false
led_behind ts h n l m = subst (λ (x : Trees). is_number (nth n x) ≡ false) (sym h.split) (behind_lead h.lead h.others h.one h.no_number n l (subst (λ (x : Trees). n < count x) h.split m))

lead_one : (lead os : Trees) → IsLead lead → NoneIs is_number os → is_number (nth 0 (append lead os)) ≡ true → 1 ≤ count (append lead os) → count lead ≡ 1
lead_one lead os h k e l = grind (arith, none_nth)

lead_none : (lead os : Trees) → IsLead lead → is_number (nth 0 (append lead os)) ≡ false → count lead ≡ 0
lead_none lead os h e = grind arith

pub one_leads : (ts : Trees) (h : IsLed ts) → is_number (nth 0 ts) ≡ true → 1 ≤ count ts → 1 ≡ count h.lead
one_leads ts h e l = sym (lead_one h.lead h.others h.one h.no_number (ap (λ (x : Trees). is_number (nth 0 x)) (sym h.split) ∙ e) (subst (λ (x : Trees). 1 ≤ count x) h.split l))

pub none_leads : (ts : Trees) (h : IsLed ts) → is_number (nth 0 ts) ≡ false → 0 ≡ count h.lead
none_leads ts h e = sym (lead_none h.lead h.others h.one (ap (λ (x : Trees). is_number (nth 0 x)) (sym h.split) ∙ e))

-- ---- sorted behind a leading Number

pub record IsOrdered (ts us : Trees) : Type 0 where
  pub permuted : Permuted ts us
  pub arranged : IsArranged us

ordered : (lead os us : Trees) → IsLead lead → NoneIs is_number os → NoneIs is_loose os → IsSorting (count lead) part_of (append lead os) us → IsOrdered (append lead os) us
ordered lead os us l n s h =
    let b = sorted_behind part_of lead os us h in
    let there = of_lists os b.vs b.sorted.moved in
    record {
      permuted = subst (Permuted (append lead os)) (sym b.is) (Permuted-append_right lead there);
      arranged = record {
        lead = lead;
        others = b.vs;
        split = b.is;
        one = l;
        no_number = none_permuted is_number there n;
        no_sum = none_permuted is_loose there s;
        rising = b.sorted.rising;
      };
    }

pub led_ordered : (ts us : Trees) (h : IsLed ts) → NoneIs is_loose ts → IsSorting (count h.lead) part_of ts us → IsOrdered ts us
led_ordered ts us h s x =
    subst (λ (y : Trees). IsOrdered y us) (sym h.split)
    (ordered h.lead h.others us h.one h.no_number (behind_none is_loose h.lead h.others (subst (NoneIs is_loose) h.split s)) (subst (λ (y : Trees). IsSorting (count h.lead) part_of y us) h.split x))

-- ---- the children of a root

pub record IsSorted (i : ℕ) (old new : Forest) : Type 0 where
  pub us : Trees
  pub changed : IsChanged i us old new
  pub ordered : IsOrdered (terms_in i old) us

pub children_sorted : {i n : ℕ} {f g : Forest} → IsSum i f → (h : IsLed (terms_in i f)) → n ≡ count h.lead → NoneIs is_loose (terms_in i f) → SortsChildren i n part_of f g → IsSorted i f g
children_sorted {i = i} {f = f} s h e l x =
    let same = (sum_over s).kids.plain_trees in
    record {
      us = plains x.children;
      changed = changed s (record { once = x.once; whole = x.expressions; plain_trees = refl }) x.whole;
      ordered =
          led_ordered (terms_in i f) (plains x.children) h l
          (subst (λ (ts : Trees). IsSorting (count h.lead) part_of ts (plains x.children)) same
          (subst (λ (m : ℕ). IsSorting m part_of (plains (kids (root_tree i f))) (plains x.children)) e x.sorted));
    }

pub lead_few : (ts : Trees) (h : IsLed ts) → count h.lead ≤ count ts
lead_few ts h = omega (arith, ap count h.split, count_append h.lead h.others)
