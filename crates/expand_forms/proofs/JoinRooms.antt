-- For how few bytes products of terms find no room in a sum.
use Rattle.expand_forms.proofs.Shared.{ℕ, ◌+◌, ◌<◌, ◌≤◌, List, ◌∷◌, length, arith, size, HasFewTerms, sum_bytes, term_bytes, IsMonomial, Polynomial, Summand, polynomial_of, State, free_of, IsHanded}
use Rattle.expand_forms.proofs.{Shared.{tree_of, Stands, forest, given_told, sum_most, terms_rise, few_factors}, JoinLoops.{IsJoined, joined_lacks}}

-- a term found none
pub term_lacks : {ns : List (List ℕ)} {n i : ℕ} {left whole : Polynomial} {old now : State} (z : Summand) → IsMonomial z.monomial → IsJoined i left whole old now → Stands old → IsHanded i (forest old)
    → HasFewTerms ns n (z ∷ polynomial_of (tree_of i now)) → free_of now < term_bytes (length z.monomial) → free_of old + size (tree_of i old) < sum_bytes ns n
term_lacks {ns} {n} {i} {now = now} z m j st o few short =
    let k = length (polynomial_of (tree_of i now)) in
    let most = sum_most (given_told j.gives).sum (record { named = few.named.1; few = let e : k ≤ k = omega arith in e }) in
    joined_lacks (sum_bytes ns n) j st o (omega (arith, most, few_factors ns z.monomial m few.named.0, terms_rise ns (k + 1) n (omega (arith, few.few)), short))
