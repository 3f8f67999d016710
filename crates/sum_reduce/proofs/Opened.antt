-- Sums among the terms are opened.
use Rattle.sum_reduce.proofs.Shared.{◌≤◌, ◌≡◌, Bool, true, false, not, ◌&&◌, if◌then◌else◌, refl, ap, subst, arith, nest, nest_of, is_number, are_numbers, HasForm, IsSumForm, NoneIs, Tree, add, Trees}
use Rattle.sum_reduce.proofs.Shared.{none, more, count, names, names_of, is_add, AllParts, KeepsMeanings, KeepsMeanings-refl, KeepsMeanings-sum_append, flat_sum, number_test, AllPartsOf-append}
use Rattle.sum_reduce.proofs.Shared.{children_of, append_none, count_append, width, widths, AreFormed, is_loose, terms_of_loose, opened, Within, within_same, within_beside, within_trans, within_eq}
use Rattle.sum_reduce.proofs.{Shared.{within_both, names_of-append, nest-append, Opens, NoneIs-append, two_count}, Widths.{widths-append}}

-- ---- one tree

loose_terms : (t : Tree) → is_loose t ≡ true → children_of t ≡ terms_of_loose t
loose_terms t h = grind arith

pub tight_terms : (t : Tree) → is_loose t ≡ false → terms_of_loose t ≡ more t none
tight_terms t h = grind arith

pub loose_opens : (t : Tree) (b : Bool) → b ≡ is_loose t → Opens terms_of_loose t b
loose_opens t b e = grind (arith, loose_terms, tight_terms)

-- ---- what stays

first_opened : (t : Tree) → KeepsMeanings (add (more t none)) (add (terms_of_loose t))
first_opened (add us) = by (is_number (add us))
  where
    by : (k : Bool) → KeepsMeanings (add (more (add us) none)) (add (if k then more (add us) none else us))
    by true = KeepsMeanings-refl _
    by false = subst (λ (x : Trees). KeepsMeanings (add (more (add us) none)) (add x)) (append_none us) (flat_sum us none)
first_opened t = KeepsMeanings-refl _

pub opened_keeps : (ts : Trees) → KeepsMeanings (add ts) (add (opened ts))
opened_keeps none = KeepsMeanings-refl (add none)
opened_keeps (more t ts) = KeepsMeanings-sum_append {ts = more t none} (first_opened t) (opened_keeps ts)

first_names : (t : Tree) → Within (names t) (names_of (terms_of_loose t))
first_names t = grind (arith, within_both, within_same)

pub names_opened : (ts : Trees) → Within (names_of ts) (names_of (opened ts))
names_opened none = within_same _
names_opened (more t ts) =
    within_trans (within_beside (names t) (names_of (terms_of_loose t)) (names_of ts) (names_of (opened ts)) (first_names t) (names_opened ts))
    (within_eq (names_of-append (terms_of_loose t) (opened ts)))

first_nest : (t : Tree) → nest_of (terms_of_loose t) ≡ nest t
first_nest (add us) = grind arith
first_nest t = omega arith

pub nest_opened : (ts : Trees) → nest_of (opened ts) ≡ nest_of ts
nest_opened none = refl
nest_opened (more t ts) = omega (arith, nest-append (terms_of_loose t) (opened ts), first_nest t, nest_opened ts)

first_width : (t : Tree) → widths (terms_of_loose t) ≡ width t
first_width (add us) = grind arith
first_width t = omega arith

pub widths_opened : (ts : Trees) → widths (opened ts) ≡ widths ts
widths_opened none = refl
widths_opened (more t ts) = omega (arith, widths-append (terms_of_loose t) (opened ts), first_width t, widths_opened ts)

-- ---- the terms of a reduced sum that is no Number

sum_form : (ts : Trees) → HasForm (add ts) → is_number (add ts) ≡ false → IsSumForm ts
sum_form ts h n = grind (arith, number_test)

first_formed : (t : Tree) → AllParts HasForm t → AreFormed (terms_of_loose t)
first_formed t h = grind arith

pub opened_formed : (ts : Trees) → AreFormed ts → AreFormed (opened ts)
opened_formed none h = tt
opened_formed (more t ts) h = AllPartsOf-append HasForm (terms_of_loose t) (opened ts) (first_formed t h.0) (opened_formed ts h.1)

no_sum_tight : (t : Tree) → is_add t ≡ false → is_loose t ≡ false
no_sum_tight t h = ap (λ (b : Bool). b && not (is_number t)) h

no_sums_tight : (ts : Trees) → NoneIs is_add ts → NoneIs is_loose ts
no_sums_tight none h = tt
no_sums_tight (more t ts) h = (no_sum_tight t h.0, no_sums_tight ts h.1)

first_tight : (t : Tree) → AllParts HasForm t → NoneIs is_loose (terms_of_loose t)
first_tight (add us) h = grind (arith, no_sums_tight us, λ (e : is_number (add us) ≡ false). (sum_form us h.0 e).no_sum)
first_tight t h = (refl, tt)

pub opened_tight : (ts : Trees) → AreFormed ts → NoneIs is_loose (opened ts)
opened_tight none h = tt
opened_tight (more t ts) h = NoneIs-append is_loose (terms_of_loose t) (opened ts) (first_tight t h.0) (opened_tight ts h.1)

first_some : (t : Tree) → AllParts HasForm t → 1 ≤ count (terms_of_loose t)
first_some t h = grind (arith, sum_form, two_count)

pub opened_some : (ts : Trees) → AreFormed ts → 1 ≤ count ts → 1 ≤ count (opened ts)
opened_some none h l = l
opened_some (more t ts) h l = omega (arith, count_append (terms_of_loose t) (opened ts), first_some t h.0)

-- ---- Numbers stay

pub number_tight : (t : Tree) → is_number t ≡ true → is_loose t ≡ false
number_tight t h = grind arith

pub opened_numbers : (ts : Trees) → are_numbers ts ≡ true → opened ts ≡ ts
opened_numbers none h = refl
opened_numbers (more t ts) h = grind (arith, tight_terms t, number_tight t, opened_numbers ts)
