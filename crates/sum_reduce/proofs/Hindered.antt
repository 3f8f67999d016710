-- Which operation does not fit, from stage to stage of a sum.
use Rattle.sum_reduce.proofs.Shared.{Result, Ok, Err, IfErr, ℕ, suc, ◌<◌, ◌≤◌, ◌≡◌, false, ◌&&◌, sym, ap, ◌∙◌, subst, arith, count_removed, add_op, Fraction, is_number, value, part_of, calculated}
use Rattle.sum_reduce.proofs.Shared.{Tree, num, Trees, more, append, count, is_num, permuted_trans, Permuted-append_right, coefficient_of, NamesPut, OfOverflow, monic_part, State, AnswersRationals}
use Rattle.sum_reduce.proofs.Shared.{removed, Overflow, nth, NumberFault, IsPairAt, Collects, collects_ordered, collects_then, IsJoining, NamesSum, Overflows, hinders_like, hinders_part, is_partner}
use Rattle.sum_reduce.proofs.{Shared.{SumOverflows, nth_behind_removed, taken_permuted, of_lists, to_lists}, Joins.{partners}}
use Rattle.tree_handles.specs.declared.fault.NumberFault.TheVariants as fault

-- ---- two Numbers

sum_named : (a b : Tree) (o : Overflow) (new : State) → ((p q : Fraction) → a ≡ num p → b ≡ num q → AnswersRationals (calculated add_op p q) new (Err (fault.Overflow o)))
    → ((is_num a && is_num b) ≡ false → SumOverflows (value a) (value b) o) → NamesSum a b o
sum_named a b o new h k = grind arith

pub numbers_named : (a b : Tree) (new : State) (r : Result ℕ NumberFault) → ((p q : Fraction) → a ≡ num p → b ≡ num q → AnswersRationals (calculated add_op p q) new r)
    → ((is_num a && is_num b) ≡ false → IfErr r (OfOverflow (SumOverflows (value a) (value b)))) → IfErr r (OfOverflow (NamesSum a b))
numbers_named a b new (Ok x) h k = tt
numbers_named a b new (Err (fault.Full full)) h k = tt
numbers_named a b new (Err (fault.Overflow o)) h k = sum_named a b o new h k

pub names_as : {a b c d : Tree} (o : Overflow) → a ≡ c → b ≡ d → NamesSum a b o → NamesSum c d o
names_as {b = b} {c = c} o e f h = subst (λ (x : Tree). NamesSum c x o) f (subst (λ (x : Tree). NamesSum x b o) e h)

-- ---- after other steps

pub overflows_after : {ts us : Trees} → Collects ts us → (o : Overflow) → Overflows us o → Overflows ts o
overflows_after k o h = record { us = h.us; collects = collects_then k h.collects; hinders = h.hinders }

pub overflows_as : {ts us : Trees} → ts ≡ us → (o : Overflow) → Overflows ts o → Overflows us o
overflows_as e o h = subst (λ (x : Trees). Overflows x o) e h

pub taken_first : (at : ℕ) (ts : Trees) → at < count ts → Collects ts (more (nth at ts) (removed at ts))
taken_first at ts l = collects_ordered (to_lists (taken_permuted at ts l))

-- the coefficient of a partner cannot be added
pub partner_hinders : (ts : Trees) (c : Tree) (us : Trees) (at less : ℕ) → IsJoining ts c (nth at us) (removed at us) less → IsPairAt is_partner at us → (o : Overflow)
    → NamesSum c (coefficient_of (nth (suc at) us)) o → Overflows ts o
partner_hinders ts c us at less j h o e =
    let next : nth at (removed at us) ≡ nth (suc at) us = nth_behind_removed at at us (omega arith) in
    let w = h.within in
    let l : at < count us = omega (arith, w) in
    let few : at < count (removed at us) = omega (arith, count_removed at us l, w) in
    let a = partners (nth at us) (nth (suc at) us) h.pair in
    let k = j.added in
    let u = nth at (removed at us) in
    record {
      us = append k.like (more u (removed at (removed at us)));
      collects = collects_ordered (to_lists (permuted_trans (of_lists ts (append k.like (removed at us)) k.moved) (Permuted-append_right k.like (taken_permuted at (removed at us) few))));
      hinders = hinders_like k.like (removed at (removed at us)) c (nth at us) u k.some k.are (record { number = j.number; worth = k.worth }) (ap is_number next ∙ a.second)
          (ap part_of next ∙ sym a.parts ∙ monic_part (nth at us) j.monic) (subst (λ (x : Tree). NamesSum c (coefficient_of x) o) (sym next) e);
    }

-- the coefficient of all does not go into the part
pub part_hinders : {ts : Trees} {c p : Tree} {rest : Trees} {less : ℕ} → IsJoining ts c p rest less → 1 ≤ less → (o : Overflow) → NamesPut c p o → Overflows ts o
part_hinders {c = c} {p = p} {rest = rest} j l o e =
    let k = j.added in
    record {
      us = append k.like rest;
      collects = collects_ordered k.moved;
      hinders = hinders_part k.like rest c p (k.two l) k.are (record { number = j.number; worth = k.worth }) e;
    }
