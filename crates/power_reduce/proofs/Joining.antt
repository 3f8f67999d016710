-- The exponents of a power of a power are joined in a product, which takes their place.
use Rattle.power_reduce.proofs.Shared.{arith, ◌≡◌, ℕ, refl, ap, subst, true, false, Some, bare, is_opaque_exponent, Tree, mult, power, Trees, none, more, append, IsOver, IsTaken, taken, over_put}
use Rattle.power_reduce.proofs.Shared.{IsAdded, is_power, base_in, exponent_in, goes_inside, rewritten, State, tree_of, IsHanded, Ends, Gives, Forest, empty, kids, one_tree, with_root_kids, tree_nth}
use Rattle.power_reduce.proofs.Shared.{with_nth, without_nth, merged_nth, root_tree, without_root, put, forest, gives, given_handed, given_rest, given_told, represents_handed, represents_node}
use Rattle.power_reduce.proofs.{Shared.{represents_none, represents_with, ends_as}, Exponents.{as_whole, inside_whole, whole_no_half}, InPlace.{merged, taken_on}, Powers.{over_power, power_children}}
pub use Rattle.power_reduce.proofs.InPlace.{second_taken as then_taken}
use Rattle.calc_terms.specs.declared.kind.Kind.TheVariants as kind

-- the sides of the base, and the exponent
pub sides_merged : {i : ℕ} {new : Forest} (s : State) → IsHanded i (forest s) → is_power (tree_of i s) ≡ true → is_power (base_in (tree_of i s)) ≡ true
    → new ≡ put i (merged_nth 0 (kids (root_tree i (forest s)))) (forest s)
    → IsAdded kind.Pow i (more (base_in (base_in (tree_of i s))) (more (exponent_in (base_in (tree_of i s))) (more (exponent_in (tree_of i s)) none))) (forest s) new
sides_merged {i = i} {new = new} s h p r e =
    let m = merged (over_power h p) e in
    subst (λ (ts : Trees). IsAdded kind.Pow i ts (forest s) new) (ap (λ (us : Trees). append us (more (exponent_in (tree_of i s)) none)) (power_children (base_in (tree_of i s)) r)) m

-- ---- the two exponents are taken

pub first_taken : {i h : ℕ} {c x e : Tree} {f new : Forest} → IsOver kind.Pow i (more c (more x (more e none))) f
    → Ends h (tree_nth 1 (kids (root_tree i f))) (put i (without_nth 1 (kids (root_tree i f))) f) new → IsTaken kind.Pow i 1 x (more c (more e none)) f new h
first_taken {c = c} {x = x} {e = e} o d = taken 1 (more c none) x (more e none) o refl d

-- the first one, once the second stands no more behind it
pub first_on : {i h k : ℕ} {c x e : Tree} {f g new : Forest} → IsOver kind.Pow i (more c (more x (more e none))) f → (a : IsTaken kind.Pow i 1 x (more c (more e none)) f g h) → (b : IsTaken kind.Pow i 1 e (more c none) g new k)
    → Gives (put i b.now f) (put i b.now g) h (λ u. u ≡ x)
first_on o a b = taken_on b.now o a

-- they are the children of a new product
pub product_given : {i h k p : ℕ} {c x e : Tree} {f g new end : Forest} (o : IsOver kind.Pow i (more c (more x (more e none))) f) (a : IsTaken kind.Pow i 1 x (more c (more e none)) f g h) (b : IsTaken kind.Pow i 1 e (more c none) g new k)
    → Ends p (with_root_kids (with_nth 0 (root_tree h (put i b.now g)) (with_nth 0 (root_tree k new) empty)) (one_tree p (bare kind.Mult) empty)) (without_root h (put i b.now g)) end
    → Gives (put i b.now f) end p (λ u. u ≡ mult (more x (more e none)))
product_given {p = p} o a b d =
    let one = first_on o a b in
    gives (ends_as d refl (given_rest one)) (represents_node p (bare kind.Mult) (represents_with 0 (represents_handed (given_handed one)) (represents_with 0 (represents_handed (given_handed b.gives)) represents_none)) refl)
    (λ j. mult (more (given_told one j) (more (given_told b.gives j) none)))

-- the power over the inner base alone
pub alone_over : {i k : ℕ} {c e : Tree} {ts : Trees} {f g new : Forest} → IsOver kind.Pow i ts f → (b : IsTaken kind.Pow i 1 e (more c none) g new k) → IsOver kind.Pow i (more c none) (put i b.now f)
alone_over o b = over_put b.now o b.kids

-- ---- the tree

pub joined : (b e : Tree) → is_power b ≡ true → goes_inside e ≡ true → is_opaque_exponent (exponent_in b) ≡ false → rewritten b e ≡ Some (power (base_in b) (mult (more (exponent_in b) (more e none))))
joined b e p i o = grind (arith, as_whole, whole_no_half, inside_whole)
