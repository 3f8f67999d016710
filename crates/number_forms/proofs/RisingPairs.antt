-- Two terms that stay apart, and their sum.
use Rattle.number_forms.proofs.Shared.{◌≡◌, ◌<◌, ◌^◌, ◌++◌, [], ◌∷◌, Some, true, arith, slice_get, Ordering, clean_square_free}
use Rattle.number_forms.proofs.Shared.{as_number, IsNumberOver, IsTerm, Rises, Term, Tree, add, classes, is_number, more, none, number_words, parts_append, parts_left, parts_right, term_of}
use Rattle.number_forms.proofs.{Shared.{value, Same-append_comm, AreRising, Ranks, RanksTerms}, Worth.{some_term}, Over.{over_as}, Shaped.{sum_number, term_value}, SquareFreeSums.{apart_small}}
use Rattle.calc_algebra.specs.Numbers.{term_of as term_of_tree}
use Rattle.surd_terms.specs.declared.term.Term.{Term as CodeTerm}

pub rising_terms : (a b : CodeTerm) → a.radicand < 10 ^ 12 → b.radicand < 10 ^ 12 → a.radicand < b.radicand → Rises (term_of a ∷ term_of b ∷ [])
rising_terms a b l m h =
    let apart = apart_small a.radicand b.radicand (clean_square_free a.radicand a.clean l) (clean_square_free b.radicand b.clean m) (λ e. absurd (omega (arith, h, e))) in
    ((h, apart, tt), (tt, tt))

pub record IsOneTerm (t : Tree) (x : Term) : Type 0 where
  pub is : IsTerm t
  pub term : x ≡ term_of_tree t

pub one_term : (t : Tree) (x : Term) → is_number t ≡ true → classes t ≡ 1 → slice_get (value t) 0 ≡ Some x → IsOneTerm t x
one_term t x h k e = grind (arith, as_number, number_words, some_term)

pub ranked : (o : Ordering) (a b : Tree) (x y : Term) → IsOneTerm a x → IsOneTerm b y → RanksTerms o x y → Ranks o a b
ranked o a b x y f g r = grind arith

pub rising_pair : (a b t : Tree) → AreRising a b → t ≡ add (more a (more b none)) → IsNumberOver (value a ++ value b) t
rising_pair a b t h e = grind (arith, term_value, sum_number)

pub falling_pair : (a b t : Tree) → AreRising b a → t ≡ add (more b (more a none)) → IsNumberOver (value a ++ value b) t
falling_pair a b t h e =
    over_as (rising_pair b a t h e) (Same-append_comm (value b) (value a)) (λ d p. parts_append d (value b) (value a) (parts_right d (value a) (value b) p) (parts_left d (value a) (value b) p))
