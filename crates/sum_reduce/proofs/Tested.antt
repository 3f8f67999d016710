-- Trees that the tests build.
use Rattle.sum_reduce.proofs.Shared.{ℕ, ◌≡◌, sym, ap, Tree, add, none, is_add, children_of, Forest, kids, Gives, root_tree, gives_as, given_handed, given_told, put-same, over_end, IsSum, terms_in}
use Rattle.sum_reduce.proofs.Sums.{IsRewritten, sum_over, over_is_sum, over_terms}
pub use Rattle.coefficients.proofs.Factors.{symbol_monic}

-- a sum without terms
pub empty_sum : {i : ℕ} {f g : Forest} → Gives f g i (λ t. t ≡ add none) → IsSum i g
empty_sum k = record { handed = given_handed k; sum = ap is_add (given_told k) }

pub empty_terms : {i : ℕ} {f g : Forest} → Gives f g i (λ t. t ≡ add none) → terms_in i g ≡ none
empty_terms k = ap children_of (given_told k)

-- a tree is placed beside a sum
pub placed : {i h : ℕ} {f g : Forest} {Told : Tree → Type 0} → IsSum i f → Gives f g h Told → IsRewritten i f f g h
placed {i = i} {f = f} s k =
    let o = over_end (sum_over s) k.ends in
    record { takes = record { was = s; kids = kids (root_tree i f); given = gives_as k (sym (put-same i f)) (λ t x. tt); sum = over_is_sum o }; terms = over_terms o }
