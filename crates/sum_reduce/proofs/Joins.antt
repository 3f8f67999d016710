-- Terms with identical parts become one.
use Rattle.sum_reduce.proofs.Shared.{ℕ, zero, suc, ◌+◌, ◌≤◌, ◌<◌, ◌≡◌, ◌++◌, [], ◌∷◌, Bool, true, false, ◌&&◌, not, refl, sym, ap, ◌∙◌, subst, arith, append-nil, true≢false, other_in, count_removed}
use Rattle.sum_reduce.proofs.Shared.{is_eq, is_number, value, are_numbers, part_of, NoneIs, is_reduced, Same, tree_cmp, Tree, add, mult, Trees, none, more, append, count, names, names_of, nodes}
use Rattle.sum_reduce.proofs.Shared.{is_add, is_undef, KeepsMeanings, KeepsMeanings-refl, KeepsMeanings-eq, KeepsMeanings-trans, KeepsMeanings-sum_more, Permuted, Permuted-sym, Permuted-append_right}
use Rattle.sum_reduce.proofs.Shared.{Permuted-to_front, permuted_more, permuted_trans, permuted_sum, joined_in_sum, same_factor, number_words, number_test, sum_of_numbers, coefficient_times_part}
use Rattle.sum_reduce.proofs.Shared.{Same-Agree, Agree-refl, Agree-trans, Agree-Same, Agree-append, append_comm, tree_cmp_equal, tree_cmp_refl, SharesDenominators, coefficient_of, factors_of}
use Rattle.sum_reduce.proofs.Shared.{with_coefficient, taken, coefficient_same, put_formed, put_reduces, monic_part, monic_parts, monic_no_number, parts_reduced, parts_defined, keeps, kept, nth}
use Rattle.sum_reduce.proofs.Shared.{inserted, IsPairAt, others_in, AreUnlike, AreLike, sum_of_coefficients, collects_ordered, collects_like, collects_then, IsAdded, IsJoining, IsStage, widths}
use Rattle.sum_reduce.proofs.Shared.{removed, AreFormed, is_loose, is_partner, opened, IsNumberOver, Within, no_new_name, within_of, within_same, within_both, within_beside, within_trans}
use Rattle.sum_reduce.proofs.Shared.{within_right, within_none, within_eq, names_permuted, number_names, addends_of_each, addend, nest_permuted, nest_number, Same-eq, coefficient_nest}
use Rattle.sum_reduce.proofs.Shared.{coefficient_keeps, term_addends, count_inserted, inserted_permuted, nth_behind_inserted, nth_behind_removed, nth_inserted, removed_inserted, removed_two}
use Rattle.sum_reduce.proofs.{Shared.{taken_permuted, of_lists, to_lists, none_permuted}, Held.{held_after, held_beside, held_behind, held_equal, held_permuted, held_same}}
use Rattle.sum_reduce.proofs.{HeldTerms.{partner_held, put_held}, Splits.{names_of_part, nest_of_part}, Rearranged.{tight_opened, others_permuted, unlike_permuted}}
use Rattle.sum_reduce.proofs.{Stages.{formed_permuted, stage_after, stage_permuted}, Widths.{widths_permuted, width_other, coefficient_width}}
use Rattle.calc_algebra.proofs.NumberRewrites.{with_coefficient as coefficient_for}
use Rattle.number_forms.proofs.Exchanged.{nth_before as nth_removed}

-- ---- what partners are

pub record ArePartners (t u : Tree) : Type 0 where
  pub first : is_number t ≡ false
  pub second : is_number u ≡ false
  pub parts : part_of t ≡ part_of u

pub partners : (t u : Tree) → is_partner t u ≡ true → ArePartners t u
partners t u h = grind (arith, tree_cmp_equal)

-- neither a Number nor a sum
pub tight_other : (t : Tree) → is_loose t ≡ false → is_number t ≡ false → is_add t ≡ false
tight_other t h n = grind arith

-- each term is its coefficient times its part
split_term : (t : Tree) → KeepsMeanings t (mult (more (coefficient_of t) (more (part_of t) none)))
split_term t = KeepsMeanings-trans (coefficient_times_part t) (KeepsMeanings-eq (ap (λ (c : Tree). mult (more c (more (part_of t) none))) (sym (coefficient_same t))))

none_numbers : (t : Tree) (ts : Trees) → is_number t ≡ false → are_numbers (more t ts) ≡ false
none_numbers t ts h = ap (λ (b : Bool). b && are_numbers ts) h

-- ---- a coefficient is taken off

pub joining_first : (t : Tree) (ts rest : Trees) → Permuted ts (more t rest) → AreFormed ts → NoneIs is_loose ts → is_number t ≡ false → are_numbers ts ≡ false
    → IsJoining ts (coefficient_of t) (part_of t) rest 0
joining_first t ts rest p f s n o =
    let g = formed_permuted p f in
    let l = none_permuted is_loose p s in
    let x = taken t (parts_reduced t g.0) (parts_defined t g.0) n in
    record {
      number = number_test (coefficient_of t) x.number;
      monic = x.monic;
      formed = g.1;
      no_sum = l.1;
      meanings = keeps (KeepsMeanings-trans (permuted_sum p) (KeepsMeanings-sum_more (split_term t) (KeepsMeanings-refl (add rest))));
      no_new_name = no_new_name (within_trans (names_permuted p) (within_beside (names t) (names (part_of t)) (names_of rest) (names_of rest) (names_of_part t) (within_same (names_of rest))));
      nest = omega (arith, nest_permuted p, nest_of_part t);
      other = o;
      width = omega (arith, widths_permuted p, width_other t n (tight_other t l.0 n));
      added = record {
        like = more t none;
        flat = s;
        moved = to_lists p;
        are = (n, refl, tt);
        some = omega arith;
        two = λ h. absurd (omega (arith, h));
        worth = Same-eq (sym (append-nil (value (coefficient_of t))));
      };
      held = held_after (held_permuted p) (held_beside (held_equal (term_addends t g.0 n (tight_other t l.0 n))) (held_same (addends_of_each rest)));
    }

-- ---- a partner's coefficient is added

-- one more term with that part
added_more : (ts : Trees) (c e p : Tree) (rest others : Trees) (u : Tree) (less : ℕ) → IsAdded ts c p rest less → Permuted rest (more u others) → is_number u ≡ false → part_of u ≡ p
    → Same (value e) (value c ++ value (coefficient_of u)) → IsAdded ts e p others (less + nodes p)
added_more ts c e p rest others u less a perm n same w = record {
  like = more u a.like;
  flat = a.flat;
  moved = to_lists (permuted_trans (of_lists ts (append a.like rest) a.moved) (permuted_trans (Permuted-append_right a.like perm) (Permuted-to_front a.like u others)));
  are = (n, same, a.are);
  some = omega arith;
  two = λ h. let l = a.some in omega (arith, l);
  worth =
      Agree-Same (Agree-trans (Same-Agree w)
      (Agree-trans (Agree-append (Same-Agree a.worth) (Agree-refl (value (coefficient_of u)))) (append_comm (sum_of_coefficients a.like) (value (coefficient_of u)))));
}

more_meanings : (c d e p u : Tree) (rest : Trees) → is_number c ≡ true → is_number d ≡ true → is_number e ≡ true → Same (value e) (value c ++ value d) → KeepsMeanings u (mult (more d (more p none)))
    → KeepsMeanings (add (more (mult (more c (more p none))) (more u rest))) (add (more (mult (more e (more p none))) rest))
more_meanings c d e p u rest hc hd he w k =
    KeepsMeanings-trans (KeepsMeanings-sum_more (KeepsMeanings-refl (mult (more c (more p none)))) (KeepsMeanings-sum_more k (KeepsMeanings-refl (add rest))))
    (joined_in_sum (mult (more c (more p none))) (mult (more d (more p none))) (mult (more e (more p none))) rest
    (KeepsMeanings-trans (same_factor c d p) (coefficient_for (add (more c (more d none))) e p (sum_of_numbers c d e (number_words c hc) (number_words d hd) (number_words e he) w))))

pub joining_more : (ts : Trees) (c p : Tree) (rest : Trees) (less at : ℕ) (e : Tree) → IsJoining ts c p rest less → at < count rest → is_partner p (nth at rest) ≡ true
    → is_number e ≡ true → Same (value e) (value c ++ value (coefficient_of (nth at rest))) → SharesDenominators (value c ++ value (coefficient_of (nth at rest))) (value e)
    → IsJoining ts e p (removed at rest) (less + nodes p)
joining_more ts c p rest less at e j l q he w d =
    let u = nth at rest in
    let perm = taken_permuted at rest l in
    let a = partners p u q in
    let same : part_of u ≡ p = sym a.parts ∙ monic_part p j.monic in
    let f = formed_permuted perm j.formed in
    let s = none_permuted is_loose perm j.no_sum in
    let x = taken u (parts_reduced u f.0) (parts_defined u f.0) a.second in
    let split = KeepsMeanings-trans (split_term u) (KeepsMeanings-eq (ap (λ (y : Tree). mult (more (coefficient_of u) (more y none))) same)) in
    record {
      number = he;
      monic = j.monic;
      formed = f.1;
      no_sum = s.1;
      meanings = keeps (KeepsMeanings-trans (kept j.meanings) (KeepsMeanings-trans (permuted_sum (permuted_more perm))
          (more_meanings c (coefficient_of u) e p u (removed at rest) j.number (number_test (coefficient_of u) x.number) he w split)));
      no_new_name = no_new_name (within_trans (within_of j.no_new_name) (within_beside (names p) (names p) (names_of rest) (names_of (removed at rest)) (within_same (names p))
          (within_trans (names_permuted perm) (within_right (names u) (names_of (removed at rest))))));
      nest = omega (arith, j.nest, nest_permuted perm);
      other = j.other;
      width = omega (arith, j.width, widths_permuted perm, width_other u a.second (tight_other u s.0 a.second), ap nodes same);
      added = added_more ts c e p rest (removed at rest) u less j.added perm a.second same w;
      held =
          held_after j.held (held_after (held_behind (addend (value c) (factors_of p) ∷ []) (held_permuted perm))
          (partner_held c e p u (removed at rest) f.0 a.second (tight_other u s.0 a.second) same he w d));
    }

-- fewer may be told
pub joining_less : {ts : Trees} {c p : Tree} {rest : Trees} {less : ℕ} (fewer : ℕ) → fewer ≤ less → IsJoining ts c p rest less → IsJoining ts c p rest fewer
joining_less fewer l j = grind arith

-- ---- terms that were added are not unlike

equal_test : (t : Tree) → is_eq (tree_cmp t t) ≡ true
equal_test t = ap is_eq (tree_cmp_refl t)

like_partners : (p t u : Tree) → is_number t ≡ false → is_number u ≡ false → part_of t ≡ p → part_of u ≡ p → is_partner t u ≡ true
like_partners p t u n m e f = grind (arith, equal_test)

two_like : (p : Tree) (us rest : Trees) → AreLike p us → 2 ≤ count us → AreUnlike (others_in (append us rest)) → ⊥
two_like p none rest a l h = absurd (omega arith)
two_like p (more t none) rest a l h = absurd (omega arith)
two_like p (more t (more u us)) rest a l h = grind (arith, other_in, like_partners)

not_unlike : (ts : Trees) (c p : Tree) (rest : Trees) (less : ℕ) → IsAdded ts c p rest less → 1 ≤ less → AreUnlike (others_in (opened ts)) → ⊥
not_unlike ts c p rest less a l h =
    let u : AreUnlike (others_in ts) = subst (λ (x : Trees). AreUnlike (others_in x)) (tight_opened ts a.flat) h in
    two_like p a.like rest a.are (a.two l) (unlike_permuted (others_permuted (of_lists ts (append a.like rest) a.moved)) u)

-- ---- the coefficient is put back

pub record IsJoined (ts us : Trees) : Type 0 where
  pub stage : IsStage ts us
  pub fewer : widths us < widths ts

written : (c p : Tree) (ts rest : Trees) (less : ℕ) → IsJoining ts c p rest less → 1 ≤ less → IsJoined ts (more (with_coefficient c p) rest)
written c p ts rest less j l =
    let t = with_coefficient c p in
    let n = number_words c j.number in
    let r = put_reduces c p n j.monic in
    let w = coefficient_width c p n j.monic in
    let fewer : widths (more t rest) < widths ts = omega (arith, j.width, w) in
    record {
      stage = record {
        rewrites = record {
          no_new_name = no_new_name (within_trans (within_of j.no_new_name)
              (within_beside (names p) (names t) (names_of rest) (names_of rest) (within_trans part_names (within_of r.no_new_name)) (within_same (names_of rest))));
          meanings = keeps (KeepsMeanings-trans (kept j.meanings) (KeepsMeanings-sum_more (coefficient_keeps c p) (KeepsMeanings-refl (add rest))));
        };
        formed = (put_formed c p n j.monic, j.formed);
        some = omega arith;
        nest = omega (arith, j.nest, coefficient_nest c p, nest_number c j.number);
        numbers = λ h. absurd (true≢false (sym h ∙ j.other));
        width = omega (arith, fewer);
        collects = collects_then (collects_ordered j.added.moved) (collects_like j.added.like c p (j.added.two l) j.added.are (record { number = j.number; worth = j.added.worth }));
        rearranged = λ u. absurd (not_unlike ts c p rest less j.added l u);
        held = held_after j.held (held_beside (put_held c p n j.monic) (held_same (addends_of_each rest)));
      };
      fewer = fewer;
    }
  where
    part_names : Within (names p) (names c ++ (names p ++ names_of none))
    part_names =
        within_both (names p) (names c) (names p ++ names_of none) (within_trans (within_none (names p)) (within_eq (number_names c j.number)))
        (within_both (names p) (names p) (names_of none) (within_same (names p)) (within_none (names p)))

pub joining_done : (c p : Tree) (ts rest : Trees) (less at : ℕ) → IsJoining ts c p rest less → 1 ≤ less → IsJoined ts (inserted at (more (with_coefficient c p) none) rest)
joining_done c p ts rest less at j l =
    let w = written c p ts rest less j l in
    let perm = Permuted-sym (inserted_permuted at (with_coefficient c p) rest) in
    record {
      stage = stage_after w.stage (stage_permuted perm w.stage.formed w.stage.some);
      fewer = omega (arith, w.fewer, widths_permuted perm);
    }

-- the other terms are as before it
pub joined_others : (at : ℕ) (t : Tree) (us vs : Trees) → at < count us → NoneIs is_loose (removed at us) → vs ≡ inserted at (more t none) (removed at us) → NoneIs is_loose (removed at vs)
joined_others at t us vs l s e = subst (NoneIs is_loose) (sym (ap (removed at) e ∙ removed_inserted at t (removed at us) (omega (arith, count_removed at us l, l)))) s

pub joined_within : (at : ℕ) (t : Tree) (us vs : Trees) → at < count us → vs ≡ inserted at (more t none) (removed at us) → at < count vs
joined_within at t us vs l e = omega (arith, ap count e, count_inserted at t (removed at us), count_removed at us l, l)

-- no term is a sum where neither this one nor another is
pub none_anywhere : (p : Tree → Bool) (at : ℕ) (ts : Trees) → at < count ts → p (nth at ts) ≡ false → NoneIs p (removed at ts) → NoneIs p ts
none_anywhere p at ts l h s = none_permuted p (Permuted-sym (taken_permuted at ts l)) (h, s)

-- ---- by their places

numbers_false : (n : ℕ) (ts : Trees) → n < count ts → is_number (nth n ts) ≡ false → are_numbers ts ≡ false
numbers_false n none l h = absurd (omega arith)
numbers_false zero (more t ts) l h = none_numbers t ts h
numbers_false (suc n) (more t ts) l h = grind (arith, numbers_false n ts (omega arith) h)

pub formed_reduced : (n : ℕ) (ts : Trees) → n < count ts → AreFormed ts → is_reduced (nth n ts) ≡ true
formed_reduced n ts l f = parts_reduced (nth n ts) (formed_permuted (taken_permuted n ts l) f).0

formed_defined : (n : ℕ) (ts : Trees) → n < count ts → AreFormed ts → is_undef (nth n ts) ≡ false
formed_defined n ts l f = parts_defined (nth n ts) (formed_permuted (taken_permuted n ts l) f).0

-- all terms are in their form
pub joining_formed : (ts : Trees) (c : Tree) (us : Trees) (at less : ℕ) → IsJoining ts c (nth at us) (removed at us) less → at < count us → AreFormed us
joining_formed ts c us at less j l = formed_permuted (Permuted-sym (taken_permuted at us l)) (monic_parts (nth at us) j.monic, j.formed)

joining_at : {ts : Trees} {c p : Tree} {rest : Trees} {less : ℕ} (us : Trees) (at : ℕ) → nth at us ≡ p → removed at us ≡ rest → IsJoining ts c p rest less
    → IsJoining ts c (nth at us) (removed at us) less
joining_at us at e q j = grind arith

-- the coefficient of a term that has a partner
joining_start : (ts us : Trees) (c : Tree) (at : ℕ) → AreFormed ts → NoneIs is_loose ts → IsPairAt is_partner at ts → us ≡ inserted at (more (part_of (nth at ts)) none) (removed at ts)
    → c ≡ coefficient_of (nth at ts)
    → IsJoining ts c (nth at us) (removed at us) 0
joining_start ts us c at f s h q e =
    let l : at < count ts = let w = h.within in omega (arith, w) in
    let few : at ≤ count (removed at ts) = omega (arith, count_removed at ts l, l) in
    let a = partners (nth at ts) (nth (suc at) ts) h.pair in
    let j = joining_first (nth at ts) ts (removed at ts) (taken_permuted at ts l) f s a.first (numbers_false at ts l a.first) in
    joining_at us at (ap (nth at) q ∙ nth_inserted at (part_of (nth at ts)) (removed at ts) few) (ap (removed at) q ∙ removed_inserted at (part_of (nth at ts)) (removed at ts) few)
    (subst (λ (x : Tree). IsJoining ts x (part_of (nth at ts)) (removed at ts) 0) (sym e) j)

-- it stays a pair
pair_start : (ts us : Trees) (at : ℕ) → AreFormed ts → IsPairAt is_partner at ts → us ≡ inserted at (more (part_of (nth at ts)) none) (removed at ts) → IsPairAt is_partner at us
pair_start ts us at f h q =
    let l : at < count ts = let w = h.within in omega (arith, w) in
    let t = nth at ts in
    let p = part_of t in
    let few : at ≤ count (removed at ts) = omega (arith, count_removed at ts l, l) in
    let a = partners t (nth (suc at) ts) h.pair in
    let x = taken t (formed_reduced at ts l f) (formed_defined at ts l f) a.first in
    let here : nth at us ≡ p = ap (nth at) q ∙ nth_inserted at p (removed at ts) few in
    let next : nth (suc at) us ≡ nth (suc at) ts = ap (nth (suc at)) q ∙ nth_behind_inserted at p (removed at ts) few ∙ nth_behind_removed at at ts (omega arith) in
    let numbers : is_number p ≡ is_number t = monic_no_number p x.monic ∙ sym a.first in
    let parts : part_of p ≡ part_of t = monic_part p x.monic in
    record {
      within = omega (arith, ap count q, count_inserted at p (removed at ts), count_removed at ts l, h.within);
      pair = (λ i. is_partner (here i) (next i)) ∙ (λ i. not (numbers i) && not (is_number (nth (suc at) ts)) && is_eq (tree_cmp (parts i) (part_of (nth (suc at) ts)))) ∙ h.pair;
    }

-- the coefficient of a term that has a partner stands beside its part, which has that partner
pub record IsBegun (ts us : Trees) (c : Tree) (at : ℕ) : Type 0 where
  pub pair : IsPairAt is_partner at us
  pub joining : IsJoining ts c (nth at us) (removed at us) 0

pub begins : (ts us : Trees) (c : Tree) (at : ℕ) → AreFormed ts → NoneIs is_loose ts → IsPairAt is_partner at ts → us ≡ inserted at (more (part_of (nth at ts)) none) (removed at ts)
    → c ≡ coefficient_of (nth at ts) → IsBegun ts us c at
begins ts us c at f n h q k = record { pair = pair_start ts us at f h q; joining = joining_start ts us c at f n h q k }

-- the next term
pub record IsNextPartner (at : ℕ) (us : Trees) : Type 0 where
  pub reduced : is_reduced (nth (suc at) us) ≡ true
  pub defined : is_undef (nth (suc at) us) ≡ false
  pub no_number : is_number (nth (suc at) us) ≡ false

pub next_partner : (us : Trees) (at : ℕ) → AreFormed us → IsPairAt is_partner at us → IsNextPartner at us
next_partner us at f h = grind (arith, formed_reduced, formed_defined)

pub partner_step : (ts : Trees) (c e : Tree) (us vs : Trees) (at less : ℕ) → IsJoining ts c (nth at us) (removed at us) less → IsPairAt is_partner at us → vs ≡ removed (suc at) us
    → IsNumberOver (value c ++ value (coefficient_of (nth (suc at) us))) e
    → IsJoining ts e (nth at vs) (removed at vs) (less + nodes (nth at us))
partner_step ts c e us vs at less j h q w =
    let next : nth at (removed at us) ≡ nth (suc at) us = nth_behind_removed at at us (omega arith) in
    let l : at < count us = let w = h.within in omega (arith, w) in
    let few : at < count (removed at us) = omega (arith, count_removed at us l, h.within) in
    joining_at vs at (ap (nth at) q ∙ nth_removed at (suc at) us (omega arith)) (ap (removed at) q ∙ removed_two at us)
    (joining_more ts c (nth at us) (removed at us) less at e j few (ap (is_partner (nth at us)) next ∙ h.pair) w.number (rw next w.worth) (rw next w.parts))

-- the first two of a pair
pub two_joined : (ts us vs : Trees) (c e : Tree) (at : ℕ) → AreFormed ts → NoneIs is_loose ts → IsPairAt is_partner at ts → us ≡ inserted at (more (part_of (nth at ts)) none) (removed at ts)
    → c ≡ coefficient_of (nth at ts)
    → vs ≡ removed (suc at) us → IsNumberOver (value c ++ value (coefficient_of (nth (suc at) us))) e → IsJoining ts e (nth at vs) (removed at vs) (0 + nodes (nth at us))
two_joined ts us vs c e at f n h q k r w = partner_step ts c e us vs at 0 (joining_start ts us c at f n h q k) (pair_start ts us at f h q) r w

pub partner_within : (us vs : Trees) (at : ℕ) → IsPairAt is_partner at us → vs ≡ removed (suc at) us → at < count vs
partner_within us vs at h q = omega (arith, ap count q, count_removed (suc at) us h.within, h.within)

pub pair_here : (at : ℕ) (us : Trees) → IsPairAt is_partner at us → at < count us
pair_here at us h = let w = h.within in omega (arith, w)

pub here_reduced : (at : ℕ) (us : Trees) → AreFormed us → IsPairAt is_partner at us → is_reduced (nth at us) ≡ true
here_reduced at us f h = formed_reduced at us (pair_here at us h) f

pub here_defined : (at : ℕ) (us : Trees) → AreFormed us → IsPairAt is_partner at us → is_undef (nth at us) ≡ false
here_defined at us f h = formed_defined at us (pair_here at us h) f
