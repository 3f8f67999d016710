-- The nest of lists of trees, and of Numbers.
use Rattle.calc_measures.proofs.Shared.{max, ◌≡◌, true, refl, ◌∙◌, arith, nest, nest_of, is_number, IsNumber, IsTerm, AreTerms, Tree, num, add, mult, root, Trees, none, more, append}
use Rattle.calc_measures.proofs.Shared.{Permuted, permuted_none, permuted_more, permuted_swap, permuted_trans, number_words}

pub nest-append : (ts us : Trees) → nest_of (append ts us) ≡ max (nest_of ts) (nest_of us)
nest-append none us = omega arith
nest-append (more t ts) us = omega (arith, nest-append ts us)

pub nest_term : (t : Tree) → IsTerm t → nest t ≡ 0
nest_term t h = grind arith

pub nest_terms : (ts : Trees) → AreTerms ts → nest_of ts ≡ 0
nest_terms none h = refl
nest_terms (more t ts) h = omega (arith, nest_term t h.0, nest_terms ts h.1)

nest_is : (t : Tree) → IsNumber t → nest t ≡ 0
nest_is t h = grind (arith, nest_terms, nest_term)

pub nest_number : (t : Tree) → is_number t ≡ true → nest t ≡ 0
nest_number t h = nest_is t (number_words t h)

pub nest_permuted : {ts us : Trees} → Permuted ts us → nest_of ts ≡ nest_of us
nest_permuted permuted_none = refl
nest_permuted (permuted_more h) = omega (arith, nest_permuted h)
nest_permuted permuted_swap = omega arith
nest_permuted (permuted_trans h k) = nest_permuted h ∙ nest_permuted k
