-- The sum that a Number is made of, as a tree.
use Rattle.number_forms.proofs.Shared.{◌≡◌, arith, true, Tree, add, IsSum, children_of, is_add}
pub use Rattle.child_lists.proofs.LastSums.{plains-without_nth}

pub sum_is : (t : Tree) → IsSum t → t ≡ add (children_of t)
sum_is t h = grind arith

pub sum_add : (t : Tree) → IsSum t → is_add t ≡ true
sum_add t h = grind arith
