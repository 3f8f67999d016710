-- What is answered where all terms are rationals.
use Rattle.sum_reduce.proofs.Shared.{Err, arith, ◌≡◌, true, plain_value, Tree, num, add, Trees, none, more, is_add, are_rationals, has_undef, State, AnswersRationals, NumberFault, children_of}
use Rattle.sum_reduce.proofs.Shared.{IsFolded, AnswersFold, written_tree, IsPlainAnswer, sum_whole}

-- Undef is no rational
pub undef_rationals : (ts : Trees) → are_rationals ts ≡ true → has_undef ts ≡ true → ⊥
undef_rationals none q h = absurd cc
undef_rationals (more (num r) ts) q h = undef_rationals ts q h
undef_rationals (more _ ts) q h = absurd cc

pub rationals_answer : (t u : Tree) (us : Trees) → is_add t ≡ true → IsFolded (plain_value (add (children_of t))) us → u ≡ written_tree us → IsPlainAnswer (plain_value t) u
rationals_answer t u us m f e = grind (arith, sum_whole)

pub rationals_fault : (t : Tree) (us : Trees) (new : State) (f : NumberFault) → is_add t ≡ true → AnswersFold (plain_value (add (children_of t))) us (Err f)
    → AnswersRationals (plain_value t) new (Err f)
rationals_fault t us new f m h = grind (arith, sum_whole)
