-- The order of trees is total, and Equal exactly for identical trees.
use Rattle.calc_algebra.proofs.Shared.{ℕ, ◌+◌, ◌*◌, ◌≡◌, ℤ, pos, ◌*ℤ◌, ◌<ℤ◌, ◌<◌, false, ◌&&◌, nat_eq, refl, sym, ap, ◌∙◌, arith, Ordering, Less, Equal, int_cmp, ordering_then, ordering_reverse}
use Rattle.calc_algebra.proofs.Shared.{MatchOrdering, ints, Fraction, same_fraction, den_pos, fraction_cmp, tree_cmp, trees_cmp, root_code, Tree, num, symbol, undef, add, mult, exact_bytes}
use Rattle.calc_algebra.proofs.Shared.{exact_signed, power, root, neg, sub, div, Trees, none, more, nat_list_cmp_total, int_cmp_total, tied_itself, int_ranked, IsTotalOrder, up, down}

both_equal : (a b : Ordering) → ordering_then a b ≡ Equal → (a ≡ Equal) × (b ≡ Equal)
both_equal a b h = grind arith

mutual
  pub tree_cmp_equal : (t u : Tree) → tree_cmp t u ≡ Equal → t ≡ u
  tree_cmp_equal (num p) (num q) h = ap num (same_fraction p q (exact_signed _ _ h))
  tree_cmp_equal (symbol x) (symbol y) h = ap symbol (exact_bytes x y h)
  tree_cmp_equal undef undef h = refl
  tree_cmp_equal (add ts) (add us) h = ap add (trees_cmp_equal ts us h)
  tree_cmp_equal (mult ts) (mult us) h = ap mult (trees_cmp_equal ts us h)
  tree_cmp_equal (power a b) (power c d) h = let (p, q) = both_equal _ _ h in λ i. power (tree_cmp_equal a c p i) (tree_cmp_equal b d q i)
  tree_cmp_equal (root a) (root c) h = ap root (tree_cmp_equal a c h)
  tree_cmp_equal (neg a) (neg c) h = ap neg (tree_cmp_equal a c h)
  tree_cmp_equal (sub a b) (sub c d) h = let (p, q) = both_equal _ _ h in λ i. sub (tree_cmp_equal a c p i) (tree_cmp_equal b d q i)
  tree_cmp_equal (div a b) (div c d) h = let (p, q) = both_equal _ _ h in λ i. div (tree_cmp_equal a c p i) (tree_cmp_equal b d q i)
  tree_cmp_equal _ _ h = cc

  pub trees_cmp_equal : (ts us : Trees) → trees_cmp ts us ≡ Equal → ts ≡ us
  trees_cmp_equal none none h = refl
  trees_cmp_equal (more t ts) (more u us) h = let (p, q) = both_equal _ _ h in λ i. more (tree_cmp_equal t u p i) (trees_cmp_equal ts us q i)
  trees_cmp_equal _ _ h = cc

then_turned : (a b c d : Ordering) → a ≡ ordering_reverse c → b ≡ ordering_reverse d → ordering_then a b ≡ ordering_reverse (ordering_then c d)
then_turned a b c d p q = grind arith

mutual
  pub tree_cmp_turned : (t u : Tree) → tree_cmp t u ≡ ordering_reverse (tree_cmp u t)
  tree_cmp_turned (num p) (num q) = int_cmp_total.antisymm (p.num *ℤ pos q.den) (q.num *ℤ pos p.den)
  tree_cmp_turned (symbol x) (symbol y) = nat_list_cmp_total.antisymm x y
  tree_cmp_turned undef undef = refl
  tree_cmp_turned (add ts) (add us) = trees_cmp_turned ts us
  tree_cmp_turned (mult ts) (mult us) = trees_cmp_turned ts us
  tree_cmp_turned (power a b) (power c d) = then_turned _ _ _ _ (tree_cmp_turned a c) (tree_cmp_turned b d)
  tree_cmp_turned (root a) (root c) = tree_cmp_turned a c
  tree_cmp_turned (neg a) (neg c) = tree_cmp_turned a c
  tree_cmp_turned (sub a b) (sub c d) = then_turned _ _ _ _ (tree_cmp_turned a c) (tree_cmp_turned b d)
  tree_cmp_turned (div a b) (div c d) = then_turned _ _ _ _ (tree_cmp_turned a c) (tree_cmp_turned b d)
  tree_cmp_turned _ _ = refl

  pub trees_cmp_turned : (ts us : Trees) → trees_cmp ts us ≡ ordering_reverse (trees_cmp us ts)
  trees_cmp_turned none none = refl
  trees_cmp_turned (more t ts) (more u us) = then_turned _ _ _ _ (tree_cmp_turned t u) (trees_cmp_turned ts us)
  trees_cmp_turned _ _ = refl

chain_then : (ab bc ac ab' bc' ac' : Ordering)
    → (ab ≡ Less → bc ≡ Less → ac ≡ Less) → (ab ≡ Equal → ac ≡ bc) → (bc ≡ Equal → ac ≡ ab)
    → (ab' ≡ Less → bc' ≡ Less → ac' ≡ Less)
    → ordering_then ab ab' ≡ Less → ordering_then bc bc' ≡ Less → ordering_then ac ac' ≡ Less
chain_then ab bc ac ab' bc' ac' f g k m p q = grind arith

equal_left : (t u z : Tree) → tree_cmp t u ≡ Equal → tree_cmp t z ≡ tree_cmp u z
equal_left t u z h = rw (tree_cmp_equal t u h) refl

equal_right : (t u z : Tree) → tree_cmp u z ≡ Equal → tree_cmp t z ≡ tree_cmp t u
equal_right t u z h = rw (tree_cmp_equal u z h) refl

is_less : (A B C : Type 0) (r : Ordering) → MatchOrdering r A B C → r ≡ Less → A
is_less A B C r m h = rw h at m

less_int : (x y : ℤ) → x <ℤ y → int_cmp x y ≡ Less
less_int x y h = grind arith

scale_lt : (x y k : ℕ) → 0 < k → x < y → x * k < y * k
scale_lt x y k p h = grind arith

unscale_lt : (x y k : ℕ) → k * x < k * y → x < y
unscale_lt x y k h = grind arith

nat_chain : (a a' b b' c c' p q r : ℕ) → 0 < p → 0 < r → a * q + b' * p < b * p + a' * q → b * r + c' * q < c * q + b' * r → a * r + c' * p < c * p + a' * r
nat_chain a a' b b' c c' p q r hp hr h k = unscale_lt _ _ q (omega (arith, scale_lt _ _ r hr h, scale_lt _ _ p hp k))

cross_chain : (a b c : ℤ) (p q r : ℕ) → 0 < p → 0 < q → 0 < r → (a *ℤ pos q) <ℤ (b *ℤ pos p) → (b *ℤ pos r) <ℤ (c *ℤ pos q) → (a *ℤ pos r) <ℤ (c *ℤ pos p)
cross_chain a b c p q r hp hq hr h k =
    let h' : up a * q + down b * p < up b * p + down a * q = omega (arith, ints) in
    let k' : up b * r + down c * q < up c * q + down b * r = omega (arith, ints) in
    let g : up a * r + down c * p < up c * p + down a * r = nat_chain (up a) (down a) (up b) (down b) (up c) (down c) p q r hp hr h' k' in
    omega (arith, ints)

mixed : (t u z : Tree) → (nat_eq (root_code t) (root_code u) && nat_eq (root_code u) (root_code z)) ≡ false → tree_cmp t u ≡ Less → tree_cmp u z ≡ Less → tree_cmp t z ≡ Less
mixed t u z d h k = grind arith

fraction_chain : (p q r : Fraction) → fraction_cmp p q ≡ Less → fraction_cmp q r ≡ Less → fraction_cmp p r ≡ Less
fraction_chain p q r h k =
    let x = p.num *ℤ pos q.den in let y = q.num *ℤ pos p.den in let x' = q.num *ℤ pos r.den in let y' = r.num *ℤ pos q.den in
    less_int _ _ (cross_chain p.num q.num r.num p.den q.den r.den (den_pos p) (den_pos q) (den_pos r)
    (is_less (x <ℤ y) (x ≡ y) (y <ℤ x) _ (int_ranked x y _ refl) h)
    (is_less (x' <ℤ y') (x' ≡ y') (y' <ℤ x') _ (int_ranked x' y' _ refl) k))

mutual
  pub tree_chain : (t u z : Tree) → tree_cmp t u ≡ Less → tree_cmp u z ≡ Less → tree_cmp t z ≡ Less
  tree_chain (num p) (num q) (num r) h k = fraction_chain p q r h k
  tree_chain (symbol x) (symbol y) (symbol z) h k = nat_list_cmp_total.trans x y z h k
  tree_chain undef undef undef h k = cc
  tree_chain (add ts) (add us) (add zs) h k = trees_chain ts us zs h k
  tree_chain (mult ts) (mult us) (mult zs) h k = trees_chain ts us zs h k
  tree_chain (power a b) (power c d) (power e f) h k = chain_then _ _ _ _ _ _ (tree_chain a c e) (equal_left a c e) (equal_right a c e) (tree_chain b d f) h k
  tree_chain (root a) (root c) (root e) h k = tree_chain a c e h k
  tree_chain (neg a) (neg c) (neg e) h k = tree_chain a c e h k
  tree_chain (sub a b) (sub c d) (sub e f) h k = chain_then _ _ _ _ _ _ (tree_chain a c e) (equal_left a c e) (equal_right a c e) (tree_chain b d f) h k
  tree_chain (div a b) (div c d) (div e f) h k = chain_then _ _ _ _ _ _ (tree_chain a c e) (equal_left a c e) (equal_right a c e) (tree_chain b d f) h k
  tree_chain t u z h k = mixed t u z refl h k

  pub trees_chain : (ts us zs : Trees) → trees_cmp ts us ≡ Less → trees_cmp us zs ≡ Less → trees_cmp ts zs ≡ Less
  trees_chain none (more u us) none h k = cc
  trees_chain none (more u us) (more z zs) h k = refl
  trees_chain (more t ts) (more u us) (more z zs) h k = chain_then _ _ _ _ _ _ (tree_chain t u z) (equal_left t u z) (equal_right t u z) (trees_chain ts us zs) h k
  trees_chain _ _ _ h k = cc

pub tree_cmp_total : IsTotalOrder tree_cmp
tree_cmp_total = record { antisymm = tree_cmp_turned; trans = tree_chain; congr = equal_left }

pub tree_cmp_refl : (t : Tree) → tree_cmp t t ≡ Equal
tree_cmp_refl t = tied_itself tree_cmp_total t

pub tree_cmp_same : (t u : Tree) → t ≡ u → tree_cmp t u ≡ Equal
tree_cmp_same t u e = ap (tree_cmp t) (sym e) ∙ tree_cmp_refl t
