-- A Number's terms and other terms whose parts rise are a reduced sum, with the meanings, the names and the nest of its parts.
use Rattle.sum_reduce.proofs.Shared.{◌≡◌, inl, inr, ◌≤◌, true, if◌then◌else◌, sym, ap, ◌∙◌, arith, [], Bool, number_terms-terms, other_terms-terms, zero_fraction, nest, nest_of, is_number, terms_of}
use Rattle.sum_reduce.proofs.Shared.{IsNumber, IsTerm, AreTerms, Rises, part_of, HasForm, NoneIs, RisesBy, Tree, num, add, Trees, none, more, append, names, names_of, AllParts, AllPartsOf, HasTwo}
use Rattle.sum_reduce.proofs.Shared.{is_add, KeepsMeanings, KeepsMeanings-eq, KeepsMeanings-trans, flat_sum, zero_goes, empty_sum, single_sum, zero_test, number_words, AsNumber, as_number}
use Rattle.sum_reduce.proofs.Shared.{AllPartsOf-append, terms_parts, terms_of_number, sum_tree, Within, within_same, within_both, within_beside, within_trans, within_left, within_eq, names_of-append}
use Rattle.sum_reduce.proofs.Shared.{nest-append, value, surd_of, terms_no_sum, NoneIs-append}
use Rattle.calc_terms.proofs.SmallLaws.{zero_is_zero as nothing_is}

-- a Number's terms, and then the other terms
abbrev pub written_sum : Tree → Trees → Tree
written_sum a us = sum_tree (append (terms_of_number a) us)

-- what stands behind a sum's Number: terms in their form, none a Number or a sum, whose parts rise
pub record AreOthers (us : Trees) : Type 0 where
  pub formed : AllPartsOf HasForm us
  pub no_number : NoneIs is_number us
  pub no_sum : NoneIs is_add us
  pub rising : RisesBy part_of us

-- ---- the terms of a Number

pub zero_terms : (a : Tree) → a ≡ num zero_fraction → terms_of_number a ≡ none
zero_terms a e = ap terms_of_number e ∙ ap (λ b. if b then none else more (num zero_fraction) none) nothing_is

pub zero_value : value (num zero_fraction) ≡ []
zero_value = ap (λ (b : Bool). if b then [] else surd_of zero_fraction) nothing_is

pub term_in : (a : Tree) → IsTerm a → terms_of_number a ≡ more a none
term_in a h = grind (arith, zero_test)

-- ---- which terms make the Number

-- the terms of a Number: rising, in their form, and none of them a sum
pub record AreNumberTerms (ts : Trees) : Type 0 where
  pub terms : AreTerms ts
  pub rising : Rises (terms_of ts)

pub number_terms_in : (a : Tree) → IsNumber a → AreNumberTerms (terms_of_number a)
number_terms_in a h = grind (arith, as_number, zero_terms, term_in)

-- two terms or more in the form of a sum
sum_formed : (ts us : Trees) → AreNumberTerms ts → AreOthers us → HasTwo (append ts us) → AllParts HasForm (add (append ts us))
sum_formed ts us n o h = grind (arith, NoneIs-append, terms_no_sum, number_terms-terms, other_terms-terms, AllPartsOf-append, terms_parts)

any_formed : (ts : Trees) → (HasTwo ts → AllParts HasForm (add ts)) → AllPartsOf HasForm ts → AllParts HasForm (sum_tree ts)
any_formed ts f h = grind arith

-- what is written has its form
pub written_formed : (a : Tree) (us : Trees) → is_number a ≡ true → AreOthers us → AllParts HasForm (written_sum a us)
written_formed a us h o = grind (arith, number_terms_in, number_words, any_formed, sum_formed, AllPartsOf-append, terms_parts)

-- ---- meanings

tree_keeps : (ts : Trees) → KeepsMeanings (add ts) (sum_tree ts)
tree_keeps ts = grind (arith, empty_sum, single_sum)

number_opened : (a : Tree) (us : Trees) → IsNumber a → KeepsMeanings (add (more a us)) (add (append (terms_of_number a) us))
number_opened a us h = by (as_number a h)
  where
    by : AsNumber a → KeepsMeanings (add (more a us)) (add (append (terms_of_number a) us))
    by (inl z) = KeepsMeanings-trans (zero_goes a us (KeepsMeanings-eq z.is)) (KeepsMeanings-eq (ap (λ (x : Trees). add (append x us)) (sym (zero_terms a z.is))))
    by (inr (inl s)) = KeepsMeanings-eq (ap (λ (x : Trees). add (append x us)) (sym (term_in a s.one)))
    by (inr (inr s)) =
        KeepsMeanings-trans (KeepsMeanings-eq (ap (λ (x : Tree). add (more x us)) s.is))
        (KeepsMeanings-trans (flat_sum s.ts us) (KeepsMeanings-eq (ap (λ (x : Tree). add (append (terms_of_number x) us)) (sym s.is))))

-- and has each meaning of the Number and the other terms
pub written_keeps : (a : Tree) (us : Trees) → is_number a ≡ true → KeepsMeanings (add (more a us)) (written_sum a us)
written_keeps a us h = KeepsMeanings-trans (number_opened a us (number_words a h)) (tree_keeps (append (terms_of_number a) us))

-- ---- names and nest

tree_names : (ts : Trees) → Within (names_of ts) (names (sum_tree ts))
tree_names ts = grind (arith, within_left, within_same)

tree_nest : (ts : Trees) → nest (sum_tree ts) ≤ nest_of ts
tree_nest ts = grind arith

number_terms_names : (a : Tree) → Within (names a) (names_of (terms_of_number a))
number_terms_names a = grind (arith, within_same, within_both)

number_terms_nest : (a : Tree) → nest_of (terms_of_number a) ≤ nest a
number_terms_nest a = grind arith

pub written_names : (a : Tree) (us : Trees) → Within (names_of (more a us)) (names (written_sum a us))
written_names a us =
    within_trans (within_trans (within_beside (names a) (names_of (terms_of_number a)) (names_of us) (names_of us) (number_terms_names a) (within_same (names_of us)))
    (within_eq (names_of-append (terms_of_number a) us))) (tree_names (append (terms_of_number a) us))

pub written_nest : (a : Tree) (us : Trees) → nest (written_sum a us) ≤ nest_of (more a us)
written_nest a us = omega (arith, tree_nest (append (terms_of_number a) us), nest-append (terms_of_number a) us, number_terms_nest a)
