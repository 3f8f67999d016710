-- Products of monomials and of polynomials: their order and their brackets.
use Rattle.expansions.proofs.Shared.{◌≡◌, ℕ, suc, ◌+◌, List, [], ◌∷◌, refl, sym, ap, ◌∙◌, arith, subst, Ordering, Less, Equal, Greater, nat_cmp, ordering_reverse, nat_list_cmp_total, slice_cmp}
use Rattle.expansions.proofs.{Shared.{tree_cmp_same, symbol, Factor, IsBelowAll, IsMonomial, Monomial, factor, monomial_times, with_factor}, PackedOrders.{above as names_above}}
use Rattle.expansions.proofs.{TreeMonomials.{below_more, below_with, names_turned}, ValueLaws.{names_equal}}

-- ---- the order of names

names_same : (x y : List ℕ) → x ≡ y → slice_cmp nat_cmp x y ≡ Equal
names_same x y e = tree_cmp_same (symbol x) (symbol y) (ap symbol e)

names_chain : (x y z : List ℕ) → slice_cmp nat_cmp x y ≡ Less → slice_cmp nat_cmp y z ≡ Less → slice_cmp nat_cmp x z ≡ Less
names_chain x y z a b = nat_list_cmp_total.trans x y z a b

-- ---- one more factor

with_less : (f h : Factor) (m : Monomial) → slice_cmp nat_cmp f.name h.name ≡ Less → with_factor f (h ∷ m) ≡ f ∷ h ∷ m
with_less f h m e = ap (λ (o : Ordering). elim o [ Less ↦ f ∷ h ∷ m | Equal ↦ factor f.name (f.exponent + h.exponent) ∷ m | Greater ↦ h ∷ with_factor f m ]) e

with_equal : (f h : Factor) (m : Monomial) → slice_cmp nat_cmp f.name h.name ≡ Equal → with_factor f (h ∷ m) ≡ factor f.name (f.exponent + h.exponent) ∷ m
with_equal f h m e = ap (λ (o : Ordering). elim o [ Less ↦ f ∷ h ∷ m | Equal ↦ factor f.name (f.exponent + h.exponent) ∷ m | Greater ↦ h ∷ with_factor f m ]) e

with_greater : (f h : Factor) (m : Monomial) → slice_cmp nat_cmp f.name h.name ≡ Greater → with_factor f (h ∷ m) ≡ h ∷ with_factor f m
with_greater f h m e = ap (λ (o : Ordering). elim o [ Less ↦ f ∷ h ∷ m | Equal ↦ factor f.name (f.exponent + h.exponent) ∷ m | Greater ↦ h ∷ with_factor f m ]) e

-- two of one name
with_same : (x : List ℕ) (a b : ℕ) (m : Monomial) → with_factor (factor x a) (with_factor (factor x b) m) ≡ with_factor (factor x (a + b)) m
with_same x a b [] = with_equal (factor x a) (factor x b) [] (names_same x x refl)
with_same x a b (h ∷ m) = let go = with_same x a b m in grind (arith, with_less, with_equal, with_greater, names_same)

pub name_again : (x : List ℕ) (n : ℕ) → with_factor (factor x 1) (factor x n ∷ []) ≡ factor x (suc n) ∷ []
name_again x n = let s : 1 + n ≡ suc n = omega arith in with_equal (factor x 1) (factor x n) [] (names_same x x refl) ∙ ap (λ (k : ℕ). factor x k ∷ []) s

with_turned_less : (f g : Factor) (m : Monomial) → slice_cmp nat_cmp f.name g.name ≡ Less → with_factor f (with_factor g m) ≡ with_factor g (with_factor f m)
with_turned_less f g [] l = with_less f g [] l ∙ sym (with_greater g f [] (names_above f.name g.name l))
with_turned_less f g (h ∷ m) l = let go = with_turned_less f g m l in grind (arith, with_less, with_equal, with_greater, names_above, names_chain, names_equal)

pub with_turned : (f g : Factor) (m : Monomial) → with_factor f (with_factor g m) ≡ with_factor g (with_factor f m)
with_turned f g m = by (slice_cmp nat_cmp f.name g.name) refl
  where
    by : (o : Ordering) → slice_cmp nat_cmp f.name g.name ≡ o → with_factor f (with_factor g m) ≡ with_factor g (with_factor f m)
    by Less e = with_turned_less f g m e
    by Equal e =
        let x = names_equal f.name g.name e in
        let s : f.exponent + g.exponent ≡ g.exponent + f.exponent = omega arith in
        ap (λ (y : List ℕ). with_factor f (with_factor (factor y g.exponent) m)) (sym x) ∙ with_same f.name f.exponent g.exponent m ∙ ap (λ (n : ℕ). with_factor (factor f.name n) m) s
        ∙ sym (ap (λ (y : List ℕ). with_factor (factor y g.exponent) (with_factor f m)) (sym x) ∙ with_same f.name g.exponent f.exponent m)
    by Greater e = sym (with_turned_less g f m (names_turned f.name g.name e))

-- ---- brackets

-- ---- powers

-- ---- the first factor of a product

-- it is below all of another monomial
pub put_first : (f : Factor) (m : Monomial) → IsBelowAll f.name m → with_factor f m ≡ f ∷ m
put_first f [] h = refl
put_first f (g ∷ m) h = with_less f g m h.0

pub below_times : (x : List ℕ) (m n : Monomial) → IsBelowAll x m → IsBelowAll x n → IsBelowAll x (monomial_times m n)
below_times x [] n h k = k
below_times x (f ∷ m) n h k = below_with x f (monomial_times m n) h.0 (below_times x m n h.1 k)

pub right_first : (g : Factor) (m n : Monomial) → IsBelowAll g.name m → monomial_times m (g ∷ n) ≡ g ∷ monomial_times m n
right_first g [] n h = refl
right_first g (f ∷ m) n h = ap (with_factor f) (right_first g m n h.1) ∙ with_greater f g (monomial_times m n) (names_above g.name f.name h.0)

pub left_first : (f g : Factor) (m n : Monomial) → IsMonomial (f ∷ m) → IsMonomial (g ∷ n) → slice_cmp nat_cmp f.name g.name ≡ Less → monomial_times (f ∷ m) (g ∷ n) ≡ f ∷ monomial_times m (g ∷ n)
left_first f g m n h k l = put_first f (monomial_times m (g ∷ n)) (below_times f.name m (g ∷ n) h.1 (l, below_more f.name g.name n l k.1))

pub right_is_first : (f g : Factor) (m n : Monomial) → IsMonomial (f ∷ m) → IsMonomial (g ∷ n) → slice_cmp nat_cmp f.name g.name ≡ Greater
    → monomial_times (f ∷ m) (g ∷ n) ≡ g ∷ monomial_times (f ∷ m) n
right_is_first f g m n h k e = grind (arith, names_turned, right_first, below_more)

pub both_first : (f g : Factor) (m n : Monomial) → IsMonomial (f ∷ m) → IsMonomial (g ∷ n) → slice_cmp nat_cmp f.name g.name ≡ Equal
    → monomial_times (f ∷ m) (g ∷ n) ≡ factor f.name (f.exponent + g.exponent) ∷ monomial_times m n
both_first f g m n h k e =
    let below : IsBelowAll g.name m = subst (λ (x : List ℕ). IsBelowAll x m) (names_equal f.name g.name e) h.1 in
    ap (with_factor f) (right_first g m n below) ∙ with_equal f g (monomial_times m n) e
