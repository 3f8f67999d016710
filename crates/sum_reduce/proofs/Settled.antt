-- What is answered for settled terms.
use Rattle.sum_reduce.proofs.Shared.{less_of, ⊤, IsSortedByKey, suc, ◌≤◌, arith, add-one, ◌≡◌, Bool, true, false, if◌then◌else◌, refl, sym, ap, ◌∙◌, subst, true≢false, is_eq, is_lt}
use Rattle.sum_reduce.proofs.Shared.{nest, nest_of, is_number, are_numbers, part_of, NoneIs, RisesBy, HasForm, is_reduced, tree_cmp, Tree, undef, add, Trees, none, more, append}
use Rattle.sum_reduce.proofs.Shared.{count, names, names_of, is_add, AllParts, in_add, has_undef, KeepsMeanings, single_sum, number_test, numbers_defined, tree_cmp_total, parts_reduced, parts_defined}
use Rattle.sum_reduce.proofs.Shared.{list_of, keeps, reduces_after, NoPairBetween, IsLead, IsSettled, IsStage, IsSumAnswer, AreFormed, is_loose, is_partner, terms_of_number, sum_tree, written_tree}
use Rattle.sum_reduce.proofs.{Shared.{Within, no_new_name, within_left, within_none, undef_part, undef_inside}, WrittenSums.{AreOthers, written_sum, written_formed, written_keeps, written_names}}
use Rattle.sum_reduce.proofs.WrittenSums.{written_nest}

-- ---- reduced terms

-- ---- Undef

pub undef_answer : (ts : Trees) → has_undef ts ≡ true → IsSumAnswer ts undef
unfolding is_reduced
undef_answer ts h = record {
  reduces = record { reduced = refl; no_new_name = no_new_name (within_none (names_of ts)); meanings = keeps (undef_part (add ts) (in_add (undef_inside ts h))) };
  undefined = sym h;
  number = λ e. absurd (true≢false (sym h ∙ numbers_defined ts e));
  nest = omega arith;
}

-- ---- parts that rise strictly

abbrev pub AreApart : Trees → Type 0
AreApart (more t (more u ts)) = (is_partner t u ≡ false) × AreApart (more u ts)
AreApart _ = ⊤

pub apart_words : (ts : Trees) → NoPairBetween is_partner 0 (count ts) ts → AreApart ts
apart_words none h = tt
apart_words (more t none) h = tt
apart_words (more t (more u ts)) h = (h 0 (omega arith) (omega arith), apart_words (more u ts) (λ k f l. h (suc k) (omega arith) (omega arith)))

pub apart_behind : (t : Tree) (ts : Trees) → AreApart (more t ts) → AreApart ts
apart_behind t ts h = grind arith

apart_parts : (t u : Tree) → is_number t ≡ false → is_number u ≡ false → is_partner t u ≡ false → is_eq (tree_cmp (part_of t) (part_of u)) ≡ false
apart_parts t u a b h = grind arith

pub rises_strictly : (us : Trees) → NoneIs is_number us → AreApart us → IsSortedByKey part_of tree_cmp (list_of us) → RisesBy part_of us
rises_strictly none n h s = tt
rises_strictly (more t none) n h s = tt
rises_strictly (more t (more u us)) n h s = (
  less_of (tree_cmp (part_of t) (part_of u)) (apart_parts t u n.0 n.1.0 h.0) (ap is_lt (sym (tree_cmp_total.antisymm (part_of u) (part_of t))) ∙ s 0 t (omega arith) (omega arith)),
  rises_strictly (more u us) n.1 h.1 (λ k d l m. rw add-one (rw add-one at (s (suc k) d (omega arith) (omega arith)))),
)

pub no_sums : (ts : Trees) → NoneIs is_number ts → NoneIs is_loose ts → NoneIs is_add ts
no_sums none n h = tt
no_sums (more t ts) n h = grind (arith, no_sums ts n.1 h.1)

-- ---- what is written

-- a tree in its form, with the meanings, the names and the nest of a sum
record IsWritten (us : Trees) (t : Tree) : Type 0 where
  formed : AllParts HasForm t
  keeps-meanings : KeepsMeanings (add us) t
  no-name : Within (names_of us) (names t)
  nest-is : nest t ≤ nest_of us
  number-is : are_numbers us ≡ true → is_number t ≡ true

alone : (t : Tree) → AllParts HasForm t → IsWritten (more t none) t
alone t f = grind (arith, single_sum, within_left)

others_of : (os : Trees) → AreFormed os → NoneIs is_number os → NoneIs is_loose os → IsSortedByKey part_of tree_cmp (list_of os) → AreApart os → AreOthers os
others_of os f n s r a = record { formed = f; no_number = n; no_sum = no_sums os n s; rising = rises_strictly os n a r }

-- behind a Number
led : (n : Tree) (o : Tree) (os : Trees) → is_number n ≡ true → AreOthers (more o os) → IsWritten (more n (more o os)) (written_sum n (more o os))
led n o os h x = grind (arith, written_formed, written_keeps, written_names, written_nest)

-- without one
unled : (t u : Tree) (os : Trees) → AreOthers (more t (more u os)) → IsWritten (more t (more u os)) (add (more t (more u os)))
unled t u os x = grind (arith, number_test)

-- terms in order, however they begin
settled : (lead os : Trees) → IsLead lead → AreFormed (append lead os) → NoneIs is_number os → NoneIs is_loose os → IsSortedByKey part_of tree_cmp (list_of os) → AreApart (append lead os)
    → 1 ≤ count (append lead os)
    → IsWritten (append lead os) (written_tree (append lead os))
settled none none l f n s r a c = absurd (omega arith)
settled none (more t none) l f n s r a c = alone t f.0
settled none (more t (more u os)) l f n s r a c =
    let all = more t (more u os) in
    subst (IsWritten all) (sym (ap (λ (b : Bool). if b then sum_tree (append (terms_of_number t) (more u os)) else add all) n.0)) (unled t u os (others_of all f n s r a))
settled (more m none) none l f n s r a c = alone m f.0
settled (more m none) (more o os) l f n s r a c =
    let rest = more o os in
    subst (IsWritten (more m rest)) (sym (ap (λ (b : Bool). if b then sum_tree (append (terms_of_number m) rest) else add (more m rest)) l))
    (led m o os l (others_of rest f.1 n s r (apart_behind m rest a)))
settled (more m (more k ks)) os l f n s r a c = absurd l

written : (us : Trees) → AreFormed us → 1 ≤ count us → IsSettled us → IsWritten us (written_tree us)
written us f c h =
    let a = h.arranged in
    subst (λ (x : Trees). IsWritten x (written_tree x)) (sym a.split)
    (settled a.lead a.others a.one (subst AreFormed a.split f) a.no_number a.no_sum a.rising (subst AreApart a.split (apart_words us h.apart)) (subst (λ (x : Trees). 1 ≤ count x) a.split c))

pub settled_answer : (ts us : Trees) → has_undef ts ≡ false → IsStage ts us → IsSettled us → IsSumAnswer ts (written_tree us)
settled_answer ts us d s h =
    let w = written us s.formed s.some h in
    let t = written_tree us in
    record {
      reduces = reduces_after s.rewrites (record { reduced = parts_reduced t w.formed; no_new_name = no_new_name w.no-name; meanings = keeps w.keeps-meanings });
      undefined = parts_defined t w.formed ∙ sym d;
      number = λ e. w.number-is (s.numbers e);
      nest = omega (arith, w.nest-is, s.nest);
    }
