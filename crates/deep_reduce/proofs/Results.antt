-- What calls on numbers return, in other words.
use Rattle.deep_reduce.proofs.Shared.{arith, ◌≡◌, ℕ, List, Result, refl, sym, subst, IfErr, IsErrAnd, PlainValue, SpansTree, Tree, gives_itself, State, IfOverflow, OfOverflow, Overflow, IsPlainAnswer}
use Rattle.deep_reduce.proofs.Shared.{IsPlainOverflow, gives_as, last_tree, Forest, tree_of, Gives, forest, NumberFault, AnswersRationals}
use Rattle.std.proofs.Common.{Ok, Err, IfOk, IsErr}

-- an answer, with what is said of it where the operands are rationals
pub answered : {C : Type 0} (others : Forest) (v : PlainValue) (s : State) (r : Result ℕ NumberFault) (P Q : Tree → Type 0) → IfOk r (λ h. Gives others (forest s) h P) → (C → AnswersRationals v s r)
    → ((t : Tree) → P t → (C → IsPlainAnswer v t) → Q t) → IfOk r (λ h. Gives others (forest s) h Q)
answered others v s r P Q h k a = grind (arith, last_tree)

pub answer_as : (others rest : Forest) (s : State) (r : Result ℕ NumberFault) (P Q : Tree → Type 0) → IfOk r (λ h. Gives others (forest s) h P) → others ≡ rest → ((t : Tree) → P t → Q t)
    → IfOk r (λ h. Gives rest (forest s) h Q)
answer_as others rest s r P Q h k a = grind (arith, gives_as)

pub overflow_as : (r : Result ℕ NumberFault) (P Q : Overflow → Type 0) → IfOverflow r P → ((o : Overflow) → P o → Q o) → IfOverflow r Q
overflow_as r P Q h k = grind arith

-- an error that a `?` hands on
pub overflow_on : {A B : Type 0} (q : Result A NumberFault) (r : Result B NumberFault) (e : NumberFault) (P Q : Overflow → Type 0) → q ≡ Err e → IfOverflow q P → IsErr r
    → IsErrAnd r (λ x. x ≡ e) → ((o : Overflow) → P o → Q o) → IfOverflow r Q
overflow_on q r e P Q h k a b c = grind arith

-- an overflow, of trees that are defined
pub overflowed_defined : {C D : Type 0} (v : PlainValue) (s : State) (r : Result ℕ NumberFault) (Q : Overflow → Type 0) → (C → AnswersRationals v s r) → IfErr r (OfOverflow (λ o. D))
    → ((o : Overflow) → D → (C → IsPlainOverflow v o) → Q o)
    → IfOverflow r Q
overflowed_defined v s r Q h k a = grind arith

-- what is said of the answer beside
pub with_facts : (others : Forest) (s : State) (r : Result ℕ NumberFault) (P Q : Tree → Type 0) → IfOk r (λ h. Gives others (forest s) h P) → IfOk r (λ h. Q (tree_of h s))
    → IfOk r (λ h. Gives others (forest s) h (λ t. P t × Q t))
with_facts others s (Ok h) P Q g q = gives_as (gives_itself g) refl (λ t k. (k.0, subst Q (sym k.1) q))
with_facts others s (Err e) P Q g q = tt

pub span_facts : (u : Tree) (s : State) (r : Result ℕ NumberFault) → ((gs : List ℕ) → SpansTree gs u → IfOk r (λ h. SpansTree gs (tree_of h s)))
    → IfOk r (λ h. (gs : List ℕ) → SpansTree gs u → SpansTree gs (tree_of h s))
span_facts u s (Ok h) k = k
span_facts u s (Err f) k = tt
