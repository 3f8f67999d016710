-- Lists of terms beside a sum that stands last.
use Rattle.expand_forms.proofs.Shared.{arith, ℕ, List, ap, Option, Tree, Lists, lists_with, kept_kids, root_ids, IsExpression, Forest, Gives, tree_at-join_left}

-- the children of another node stay
pub lists_beside : {l : Option (List ℕ)} {g f h : Forest} {i j : ℕ} {P Q : Tree → Type 0} → Gives g f i P → Gives g h i Q → IsExpression j g → Lists l j f → Lists l j h
lists_beside a b e h = grind (arith, lists_with, tree_at-join_left)

pub lists_before : {l : Option (List ℕ)} {g f h : Forest} {i j : ℕ} {P Q : Tree → Type 0} → Gives g f i P → Gives f h j Q → Lists l i h → Lists l i f
lists_before a b lists = lists_with (ap root_ids (kept_kids a.ends b.ends)) lists
