-- The names in trees, and in lists of trees.
use Rattle.calc_algebra.proofs.Shared.{IsNumber, ℕ, ◌≡◌, ◌⊎◌, inl, inr, true, List, ◌++◌, refl, sym, ap, ◌∙◌, subst, append_assoc, arith, Contains, Contains-append_left, Contains-append_right, []}
use Rattle.calc_algebra.proofs.{Shared.{Contains-append_cases, IsTerm, AreTerms, is_number, Tree, Trees, none, more, append, names, names_of, HasNoNewName}, MeaningRewrites.{Permuted}}
use Rattle.calc_algebra.proofs.{MeaningRewrites.{permuted_none, permuted_more, permuted_swap, permuted_trans}, NumberLaws.{number_words}, MeaningLaws.{none_in}}

-- each name in the second list is one in the first
pub record Within (old new : List (List ℕ)) : Type 0 where
  pub name : (x : List ℕ) → Contains new x → Contains old x

pub within_eq : {a b : List (List ℕ)} → a ≡ b → Within b a
within_eq e = record { name = λ x h. subst (λ (l : List (List ℕ)). Contains l x) e h }

pub within_same : (a : List (List ℕ)) → Within a a
within_same a = record { name = λ x h. h }

pub within_trans : {a b c : List (List ℕ)} → Within a b → Within b c → Within a c
within_trans h k = record { name = λ x m. h.name x (k.name x m) }

pub within_both : (a b c : List (List ℕ)) → Within a b → Within a c → Within a (b ++ c)
within_both a b c h k = record { name = λ x m. by x (Contains-append_cases b c x m) }
  where
    by : (x : List ℕ) → Contains b x ⊎ Contains c x → Contains a x
    by x (inl m) = h.name x m
    by x (inr m) = k.name x m

pub within_left : (a b : List (List ℕ)) → Within (a ++ b) a
within_left a b = record { name = λ x m. Contains-append_left a b x m }

pub within_right : (a b : List (List ℕ)) → Within (a ++ b) b
within_right a b = record { name = λ x m. Contains-append_right a b x m }

pub within_beside : (a b c d : List (List ℕ)) → Within a b → Within c d → Within (a ++ c) (b ++ d)
within_beside a b c d h k = within_both (a ++ c) b d (within_trans (within_left a c) h) (within_trans (within_right a c) k)

pub within_none : (a : List (List ℕ)) → Within a []
within_none a = record { name = λ x m. absurd (none_in m) }

pub no_new_name : {t u : Tree} → Within (names t) (names u) → HasNoNewName t u
no_new_name h = record { name = h.name }

pub within_of : {t u : Tree} → HasNoNewName t u → Within (names t) (names u)
within_of h = record { name = h.name }

-- ---- lists of trees

pub names_of-append : (ts us : Trees) → names_of (append ts us) ≡ names_of ts ++ names_of us
names_of-append none us = refl
names_of-append (more t ts) us = ap (λ (l : List (List ℕ)). names t ++ l) (names_of-append ts us) ∙ sym (append_assoc (names t) (names_of ts) (names_of us))

pub names_permuted : {ts us : Trees} → Permuted ts us → Within (names_of ts) (names_of us)
names_permuted permuted_none = within_same []
names_permuted (permuted_more {t} {ts} {us} h) = within_beside (names t) (names t) (names_of ts) (names_of us) (within_same (names t)) (names_permuted h)
names_permuted (permuted_swap {t} {u} {ts}) =
    let a = names t in
    let b = names u in
    let c = names_of ts in
    let behind = within_trans (within_right a (b ++ c)) (within_left b c) in
    within_both (a ++ (b ++ c)) b (a ++ c) behind (within_both (a ++ (b ++ c)) a c (within_left a (b ++ c)) (within_trans (within_right a (b ++ c)) (within_right b c)))
names_permuted (permuted_trans h k) = within_trans (names_permuted h) (names_permuted k)

-- ---- Numbers have no names

pub names_of_term : (t : Tree) → IsTerm t → names t ≡ []
names_of_term t h = grind arith

pub names_of_terms : (ts : Trees) → AreTerms ts → names_of ts ≡ []
names_of_terms none h = refl
names_of_terms (more t ts) h = rw (names_of_term t h.0, names_of_terms ts h.1) refl

names_of_a_number : (t : Tree) → IsNumber t → names t ≡ []
names_of_a_number t h = grind (arith, names_of_terms, names_of_term)

pub number_names : (t : Tree) → is_number t ≡ true → names t ≡ []
number_names t h = names_of_a_number t (number_words t h)
