-- Changes of a list of nodes that is known in parts.
use Rattle.node_pool.proofs.Shared.{List, [], ap, append_assoc, arith, false, refl, subst, sym, ℕ, ◌++◌, ◌+◌, ◌-◌, ◌<◌, ◌∙◌, ◌∷◌, ◌≡◌, eq-eqb, Node, has, place_of}
use Rattle.node_pool.proofs.{Shared.{used, with_children, with_count, IsBoundary, between, moved, since, swapped, until, without}, Sizes.used-append, Cuts.{since-append, until-append}}

pub boundary-append : (a b : List Node) (at : ℕ) → at ≡ used a → IsBoundary at (a ++ b)
boundary-append a b at e = ap (λ (k : ℕ). used (until k (a ++ b))) e ∙ ap used (until-append a b) ∙ sym e

pub place_of-append : (i : ℕ) (a : List Node) (n : Node) (b : List Node) → has i a ≡ false → n.id ≡ i → place_of i (a ++ n ∷ b) ≡ used a
place_of-append i [] n b h e = grind (arith, eq-eqb)
place_of-append i (m ∷ a) n b h e = grind (arith, place_of-append i a n b)

pub with_count-append : (i c : ℕ) (a : List Node) (n : Node) (b : List Node) → has i a ≡ false → n.id ≡ i → with_count i c (a ++ n ∷ b) ≡ a ++ record n { count = c } ∷ b
with_count-append i c [] n b h e = grind (arith, eq-eqb)
with_count-append i c (m ∷ a) n b h e = grind (arith, with_count-append i c a n b)

pub with_children-append : (i c : ℕ) (a : List Node) (n : Node) (b : List Node) → has i a ≡ false → n.id ≡ i → with_children i c (a ++ n ∷ b) ≡ a ++ record n { children = c } ∷ b
with_children-append i c [] n b h e = grind (arith, eq-eqb)
with_children-append i c (m ∷ a) n b h e = grind (arith, with_children-append i c a n b)

-- a block between two places
pub between-append : (a x b : List Node) (i j : ℕ) → i ≡ used a → j ≡ used a + used x → between i j (a ++ (x ++ b)) ≡ x
between-append a x b i j hi hj =
    let e : since i (a ++ (x ++ b)) ≡ x ++ b = ap (λ (k : ℕ). since k (a ++ (x ++ b))) hi ∙ since-append a (x ++ b) in
    let d : j - i ≡ used x = omega arith in
    rw (e, d) (until-append x b)

pub since-append_two : (a x b : List Node) (j : ℕ) → j ≡ used a + used x → since j (a ++ (x ++ b)) ≡ b
since-append_two a x b j hj =
    ap (since j) (sym (append_assoc a x b)) ∙ ap (λ (k : ℕ). since k ((a ++ x) ++ b)) (hj ∙ sym (used-append a x)) ∙ since-append (a ++ x) b

pub without-append : (a x b : List Node) (i j : ℕ) → i ≡ used a → j ≡ used a + used x → without i j (a ++ (x ++ b)) ≡ a ++ b
without-append a x b i j h k = grind (arith, until-append, since-append_two)

pub swapped-append : (a x y d : List Node) (i j k : ℕ) → i ≡ used a → j ≡ used a + used x → k ≡ used a + used x + used y → swapped i j k (a ++ (x ++ (y ++ d))) ≡ a ++ (y ++ (x ++ d))
swapped-append a x y d i j k hi hj hk =
    let ns = a ++ (x ++ (y ++ d)) in
    let grouped : (a ++ x) ++ (y ++ d) ≡ ns = append_assoc a x (y ++ d) in
    let first : until i ns ≡ a = ap (λ (n : ℕ). until n ns) hi ∙ until-append a (x ++ (y ++ d)) in
    let second : between i j ns ≡ x = between-append a x (y ++ d) i j hi hj in
    let third : between j k ns ≡ y = subst (λ (t : List Node). between j k t ≡ y) grouped (between-append (a ++ x) y d j k (hj ∙ sym (used-append a x)) (omega (arith, used-append a x))) in
    let last : since k ns ≡ d = subst (λ (t : List Node). since k t ≡ d) grouped (since-append_two (a ++ x) y d k (omega (arith, used-append a x))) in
    rw (first, second, third, last) refl

-- a block goes to the right, or to the left
pub moved_right : (a x y d : List Node) (from len to : ℕ) → from ≡ used a → len ≡ used x → to ≡ used a + used x + used y → 0 < len → moved from len to (a ++ (x ++ (y ++ d))) ≡ a ++ (y ++ (x ++ d))
moved_right a x y d from len to h k l m = grind (arith, swapped-append)

pub moved_left : (a x y d : List Node) (from len to : ℕ) → to ≡ used a → from ≡ used a + used x → len ≡ used y → moved from len to (a ++ (x ++ (y ++ d))) ≡ a ++ (y ++ (x ++ d))
moved_left a x y d from len to h k l = grind (arith, swapped-append)
