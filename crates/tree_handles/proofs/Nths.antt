-- The trees of a forest by their places.
use Rattle.tree_handles.proofs.Shared.{◌≡◌, ℕ, ◌-◌, ◌<◌, refl, sym, ap, ◌∙◌, arith, Forest, join, arity, first_trees, rest_trees, tree_nth, without_nth, with_nth, set_nth}
use Rattle.tree_handles.proofs.{Shared.swapped_nth, Forests.{join_assoc, arity-join, first_trees-join, rest_trees-join, first-rest, arity-first_trees, arity-rest_trees, arity-tree_nth}}

-- behind some trees
pub first_trees-behind : (n : ℕ) (a b : Forest) → n ≡ arity a → first_trees n (join a b) ≡ a
first_trees-behind n a b h = ap (λ (k : ℕ). first_trees k (join a b)) h ∙ first_trees-join a b

pub rest_trees-behind : (n : ℕ) (a b : Forest) → n ≡ arity a → rest_trees n (join a b) ≡ b
rest_trees-behind n a b h = ap (λ (k : ℕ). rest_trees k (join a b)) h ∙ rest_trees-join a b

pub tree_nth-behind : (n : ℕ) (a t b : Forest) → n ≡ arity a → arity t ≡ 1 → tree_nth n (join a (join t b)) ≡ t
tree_nth-behind n a t b h one = ap (first_trees 1) (rest_trees-behind n a (join t b) h) ∙ first_trees-behind 1 t b (sym one)

pub set_nth-behind : (n : ℕ) (c a t b : Forest) → n ≡ arity a → arity t ≡ 1 → set_nth n c (join a (join t b)) ≡ join a (join c b)
set_nth-behind n c a t b h one = rw (first_trees-behind n a (join t b) h, rest_trees-behind n a (join t b) h, rest_trees-behind 1 t b (sym one)) refl

-- a tree goes, and others come in its place
pub with_nth-without_nth : (n : ℕ) (c f : Forest) → n < arity f → with_nth n c (without_nth n f) ≡ set_nth n c f
with_nth-without_nth n c f h = grind (arith, arity-first_trees, first_trees-behind, rest_trees-behind)

-- the trees round one
pub record IsThird (n : ℕ) (f : Forest) : Type 0 where
  pub whole : f ≡ join (first_trees n f) (join (tree_nth n f) (rest_trees 1 (rest_trees n f)))
  pub count : n ≡ arity (first_trees n f)
  pub one : arity (tree_nth n f) ≡ 1

pub third : (n : ℕ) (f : Forest) → n < arity f → IsThird n f
third n f h = grind (arith, first-rest, arity-first_trees, arity-tree_nth)

pub set_nth-same : (n : ℕ) (f : Forest) → set_nth n (tree_nth n f) f ≡ f
set_nth-same n f = ap (join (first_trees n f)) (first-rest 1 (rest_trees n f)) ∙ first-rest n f

pub swapped_nth-same : (n : ℕ) (f : Forest) → swapped_nth n n f ≡ f
swapped_nth-same n f = ap (set_nth n (tree_nth n f)) (set_nth-same n f) ∙ set_nth-same n f

-- two trees, and the trees round them
pub record IsPair (i j : ℕ) (f : Forest) : Type 0 where
  pub between : Forest
  pub behind : Forest
  pub whole : f ≡ join (first_trees i f) (join (tree_nth i f) (join between (join (tree_nth j f) behind)))
  pub first : first_trees j f ≡ join (first_trees i f) (join (tree_nth i f) between)
  pub rest : rest_trees j f ≡ join (tree_nth j f) behind
  pub swapped : swapped_nth i j f ≡ join (first_trees i f) (join (tree_nth j f) (join between (join (tree_nth i f) behind)))
  pub back : swapped_nth j i f ≡ join (first_trees i f) (join (tree_nth j f) (join between (join (tree_nth i f) behind)))

pub pair : (i j : ℕ) (f : Forest) → i < j → j < arity f → IsPair i j f
pair i j f lt h =
    let a = first_trees i f in
    let t = tree_nth i f in
    let rest = rest_trees 1 (rest_trees i f) in
    let b = first_trees (j - i - 1) rest in
    let tail = rest_trees (j - i - 1) rest in
    let x = third i f (omega arith) in
    let room : j - i - 1 < arity rest = omega (arith, arity-rest_trees 1 (rest_trees i f), arity-rest_trees i f) in
    let y = third (j - i - 1) rest room in
    let u = tree_nth (j - i - 1) rest in
    let d = rest_trees 1 tail in
    let split : f ≡ join a (join t (join b (join u d))) = x.whole ∙ ap (λ (r : Forest). join a (join t r)) y.whole in
    let front = join a (join t b) in
    let count : j ≡ arity front = omega (arith, arity-join a (join t b), arity-join t b, x.count, x.one, y.count) in
    let grouped : f ≡ join front (join u d) = split ∙ ap (join a) (sym (join_assoc t b (join u d))) ∙ sym (join_assoc a (join t b) (join u d)) in
    let nth-j : tree_nth j f ≡ u = ap (tree_nth j) grouped ∙ tree_nth-behind j front u d count y.one in
    let regroup : (p q : Forest) → join (join a (join p b)) (join q d) ≡ join a (join p (join b (join q d))) = λ p q. join_assoc a (join p b) (join q d) ∙ ap (join a) (join_assoc p b (join q d)) in
    let set-j : (c : Forest) → set_nth j c f ≡ join a (join t (join b (join c d))) = λ c. ap (set_nth j c) grouped ∙ set_nth-behind j c front u d count y.one ∙ regroup t c in
    let set-i : (c : Forest) → set_nth i c f ≡ join a (join c (join b (join u d))) = λ c. ap (set_nth i c) split ∙ set_nth-behind i c a t (join b (join u d)) x.count x.one in
    let swap : set_nth i u (set_nth j t f) ≡ join a (join u (join b (join t d))) = ap (set_nth i u) (set-j t) ∙ set_nth-behind i u a t (join b (join t d)) x.count x.one in
    let counted : j ≡ arity (join a (join u b)) = omega (arith, arity-join a (join u b), arity-join u b, x.count, y.one, y.count) in
    let swap-back : set_nth j t (set_nth i u f) ≡ join a (join u (join b (join t d))) = ap (set_nth j t) (set-i u ∙ sym (regroup u u)) ∙ set_nth-behind j t (join a (join u b)) u d counted y.one ∙ regroup u t in
    record {
      between = b;
      behind = d;
      whole = split ∙ ap (λ (v : Forest). join a (join t (join b (join v d)))) (sym nth-j);
      first = ap (first_trees j) grouped ∙ first_trees-behind j front (join u d) count;
      rest = ap (rest_trees j) grouped ∙ rest_trees-behind j front (join u d) count ∙ ap (λ (v : Forest). join v d) (sym nth-j);
      swapped = ap (λ (v : Forest). set_nth i v (set_nth j t f)) nth-j ∙ swap ∙ ap (λ (v : Forest). join a (join v (join b (join t d)))) (sym nth-j);
      back = ap (λ (v : Forest). set_nth j t (set_nth i v f)) nth-j ∙ swap-back ∙ ap (λ (v : Forest). join a (join v (join b (join t d)))) (sym nth-j);
    }
