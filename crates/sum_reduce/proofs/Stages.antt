-- From stage to stage of a sum.
use Rattle.sum_reduce.proofs.Shared.{◌≤◌, ◌≡◌, ◌++◌, Bool, true, ◌&&◌, refl, sym, ap, ◌∙◌, arith, HasForm, permuted_parts, and_parts, and_from, is_number, value, are_numbers, Same, Tree, Trees, more}
use Rattle.sum_reduce.proofs.Shared.{count, names, names_of, Permuted, Permuted-refl, permuted_none, permuted_more, permuted_swap, permuted_trans, permuted_sum, joined_in_sum, number_words}
use Rattle.sum_reduce.proofs.Shared.{sum_of_numbers, SharesDenominators, number_parts, keeps, Rewrites-trans, collects_opened, collects_ordered, collects_numbers, collects_then, IsStage, AreFormed}
use Rattle.sum_reduce.proofs.Shared.{opened, no_new_name, within_both, within_trans, within_right, within_none, within_eq, names_permuted, number_names, nest_permuted, nest_number, count_permuted}
use Rattle.sum_reduce.proofs.{Shared.{to_lists}, Held.{held_after, held_permuted}, HeldTerms.{opened_held, added_held}, Opened.{opened_keeps, names_opened, nest_opened, widths_opened, opened_formed}}
use Rattle.sum_reduce.proofs.{Opened.{opened_some, opened_numbers, opened_tight}, Rearranged.{tight_opened, unlike_after, rearranged_permuted, rearranged_opened, rearranged_after, rearranged_added}}
use Rattle.sum_reduce.proofs.Widths.{widths_permuted, width_number}

-- ---- the same terms in another order

pub formed_permuted : {ts us : Trees} → Permuted ts us → AreFormed ts → AreFormed us
formed_permuted k h = permuted_parts HasForm k h

swapped : (a b c : Bool) → (a && (b && c)) ≡ (b && (a && c))
swapped a b c = grind arith

numbers_permuted : {ts us : Trees} → Permuted ts us → are_numbers ts ≡ are_numbers us
numbers_permuted permuted_none = refl
numbers_permuted (permuted_more {t} h) = ap (λ (b : Bool). is_number t && b) (numbers_permuted h)
numbers_permuted (permuted_swap {t} {u} {ts}) = swapped (is_number t) (is_number u) (are_numbers ts)
numbers_permuted (permuted_trans h k) = numbers_permuted h ∙ numbers_permuted k

-- ---- stages

pub stage_after : {ts us vs : Trees} → IsStage ts us → IsStage us vs → IsStage ts vs
stage_after a b = record {
  rewrites = Rewrites-trans a.rewrites b.rewrites;
  formed = b.formed;
  some = b.some;
  nest = omega (arith, a.nest, b.nest);
  numbers = λ h. b.numbers (a.numbers h);
  width = omega (arith, a.width, b.width);
  collects = collects_then a.collects b.collects;
  rearranged = λ h. let x = a.rearranged h in rearranged_after x (b.rearranged (unlike_after x h));
  held = held_after a.held b.held;
}

pub stage_permuted : {ts us : Trees} → Permuted ts us → AreFormed ts → 1 ≤ count ts → IsStage ts us
stage_permuted h f l = record {
  rewrites = record { no_new_name = no_new_name (names_permuted h); meanings = keeps (permuted_sum h) };
  formed = formed_permuted h f;
  some = omega (arith, count_permuted h);
  nest = omega (arith, nest_permuted h);
  numbers = λ e. sym (numbers_permuted h) ∙ e;
  width = omega (arith, widths_permuted h);
  collects = collects_ordered (to_lists h);
  rearranged = λ u. rearranged_permuted h;
  held = held_permuted h;
}

pub stage_same : (ts : Trees) → AreFormed ts → 1 ≤ count ts → IsStage ts ts
stage_same ts f l = stage_permuted (Permuted-refl ts) f l

pub stage_opened : (ts : Trees) → AreFormed ts → 1 ≤ count ts → IsStage ts (opened ts)
stage_opened ts f l = record {
  rewrites = record { no_new_name = no_new_name (names_opened ts); meanings = keeps (opened_keeps ts) };
  formed = opened_formed ts f;
  some = opened_some ts f l;
  nest = omega (arith, nest_opened ts);
  numbers = λ e. ap are_numbers (opened_numbers ts e) ∙ e;
  width = omega (arith, widths_opened ts);
  collects = collects_opened;
  rearranged = λ u. rearranged_opened ts (opened ts) (tight_opened (opened ts) (opened_tight ts f));
  held = opened_held ts f;
}

-- two Numbers become one
pub stage_added : (d n e : Tree) (ts : Trees) → is_number d ≡ true → is_number n ≡ true → is_number e ≡ true → Same (value e) (value d ++ value n)
    → SharesDenominators (value d ++ value n) (value e) → AreFormed ts → IsStage (more d (more n ts)) (more e ts)
stage_added d n e ts hd hn he w s f = record {
  rewrites = record {
    no_new_name = no_new_name (within_both (names d ++ (names n ++ names_of ts)) (names e) (names_of ts)
        (within_trans (within_none (names d ++ (names n ++ names_of ts))) (within_eq (number_names e he)))
        (within_trans (within_right (names d) (names n ++ names_of ts)) (within_right (names n) (names_of ts))));
    meanings = keeps (joined_in_sum d n e ts (sum_of_numbers d n e (number_words d hd) (number_words n hn) (number_words e he) w));
  };
  formed = (number_parts e (number_words e he), f);
  some = omega arith;
  nest = omega (arith, nest_number e he);
  numbers = λ h.
      let (a, b) = and_parts (is_number d) (is_number n && are_numbers ts) h in
      let (x, y) = and_parts (is_number n) (are_numbers ts) b in
      and_from _ _ he y;
  width = omega (arith, width_number d hd, width_number n hn, width_number e he);
  collects = collects_numbers hd hn (record { number = he; worth = w });
  rearranged = λ u. rearranged_added d n e ts hd hn he w;
  held = added_held d n e ts hd hn he w s;
}
