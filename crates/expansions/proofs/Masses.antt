-- How large sums and products of polynomials are, and normal polynomials.
use Rattle.expansions.proofs.Shared.{magnitude_plus, ◌≡◌, ℕ, ◌+◌, ◌*◌, ◌≤◌, ◌<◌, ℤ, ◌+ℤ◌, List, [], ◌∷◌, ◌++◌, map, Bool, true, false, refl, sym, ap, ◌∙◌, subst, arith, nat_abs, if◌then◌else◌, ints}
use Rattle.expansions.proofs.Shared.{dvd_trans, dvd-mul_left, Ordering, Less, Equal, Greater, nat_cmp, ordering_reverse, nat_list_cmp_total, slice_cmp, magnitude_over, den_divides, magnitude_lowest}
use Rattle.expansions.proofs.Shared.{magnitude_scale, magnitude_times, over_multiple, plus_den, plus_over, times_den, whole_over, whole_over-abs, Fraction, is_zero_fraction, lowest, plus, joined}
use Rattle.expansions.proofs.Shared.{monomial_cmp, normal, with_summand, without_zeros, AreWhole, HasExponents, HaveExponents, mass, Factor, IsBelowAll, IsMonomial, Monomial, Polynomial, Summand}
use Rattle.expansions.proofs.{Shared.{factor, monomial_times, product, summand, summand_times, with_factor, ◌∣◌}, AllMonomials.{AllHave, normal_all}, ValueLaws.{names_equal}}
use Rattle.calc_bits.proofs.ClassMasses.{abs_plus as sum_magnitude}

-- ---- sums

pub whole_append : (d : ℕ) (v w : Polynomial) → AreWhole d v → AreWhole d w → AreWhole d (v ++ w)
whole_append d [] w h k = k
whole_append d (s ∷ v) w h k = (h.0, whole_append d v w h.1 k)

pub whole_left : (d : ℕ) (v w : Polynomial) → AreWhole d (v ++ w) → AreWhole d v
whole_left d [] w h = tt
whole_left d (s ∷ v) w h = (h.0, whole_left d v w h.1)

pub whole_right : (d : ℕ) (v w : Polynomial) → AreWhole d (v ++ w) → AreWhole d w
whole_right d [] w h = h
whole_right d (s ∷ v) w h = whole_right d v w h.1

pub mass_append : (d : ℕ) (v w : Polynomial) → mass d (v ++ w) ≡ mass d v + mass d w
mass_append d [] w = omega arith
mass_append d (s ∷ v) w = omega (arith, mass_append d v w)

pub exponents_append : (n : ℕ) (v w : Polynomial) → HaveExponents n v → HaveExponents n w → HaveExponents n (v ++ w)
exponents_append n [] w h k = k
exponents_append n (s ∷ v) w h k = (h.0, exponents_append n v w h.1 k)

pub exponents_left : (n : ℕ) (v w : Polynomial) → HaveExponents n (v ++ w) → HaveExponents n v
exponents_left n [] w h = tt
exponents_left n (s ∷ v) w h = (h.0, exponents_left n v w h.1)

pub exponents_right : (n : ℕ) (v w : Polynomial) → HaveExponents n (v ++ w) → HaveExponents n w
exponents_right n [] w h = h
exponents_right n (s ∷ v) w h = exponents_right n v w h.1

-- ---- multiples of a denominator

pub whole_scale : (j d : ℕ) (v : Polynomial) → AreWhole d v → AreWhole (j * d) v
whole_scale j d [] h = tt
whole_scale j d (s ∷ v) h = (dvd_trans s.coefficient.den h.0 (dvd-mul_left d j), whole_scale j d v h.1)

pub mass_scale : (j d : ℕ) (v : Polynomial) → AreWhole d v → mass (j * d) v ≡ j * mass d v
mass_scale j d [] h = omega arith
mass_scale j d (s ∷ v) h = omega (arith, magnitude_scale j d s.coefficient h.0, mass_scale j d v h.1)

-- ---- products

whole_row : (d e : ℕ) (s : Summand) (w : Polynomial) → s.coefficient.den ∣ d → AreWhole e w → AreWhole (d * e) (map (summand_times s) w)
whole_row d e s [] h k = tt
whole_row d e s (t ∷ w) h k = (times_den s.coefficient t.coefficient d e h k.0, whole_row d e s w h k.1)

pub whole_product : (d e : ℕ) (v w : Polynomial) → AreWhole d v → AreWhole e w → AreWhole (d * e) (product v w)
whole_product d e [] w h k = tt
whole_product d e (s ∷ v) w h k = whole_append (d * e) (map (summand_times s) w) (product v w) (whole_row d e s w h.0 k) (whole_product d e v w h.1 k)

mass_row : (d e : ℕ) (s : Summand) (w : Polynomial) → s.coefficient.den ∣ d → AreWhole e w → mass (d * e) (map (summand_times s) w) ≡ magnitude_over d s.coefficient * mass e w
mass_row d e s [] h k = omega arith
mass_row d e s (t ∷ w) h k = omega (arith, magnitude_times s.coefficient t.coefficient d e h k.0, mass_row d e s w h k.1)

pub mass_product : (d e : ℕ) (v w : Polynomial) → AreWhole d v → AreWhole e w → mass (d * e) (product v w) ≡ mass d v * mass e w
mass_product d e [] w h k = omega arith
mass_product d e (s ∷ v) w h k = omega (arith, mass_append (d * e) (map (summand_times s) w) (product v w), mass_row d e s w h.0 k, mass_product d e v w h.1 k)

-- ---- exponents of products

-- no factor of that name has an exponent above n
abbrev HasAt : List ℕ → ℕ → Monomial → Type 0
HasAt x n [] = Unit {0}
HasAt x n (f ∷ m) = (f.name ≡ x → f.exponent ≤ n) × HasAt x n m

exponents_at : (x : List ℕ) (n : ℕ) (m : Monomial) → HasExponents n m → HasAt x n m
exponents_at x n [] h = tt
exponents_at x n (f ∷ m) h = ((λ e. h.0), exponents_at x n m h.1)

with_other : (x : List ℕ) (n : ℕ) (f : Factor) (m : Monomial) → (f.name ≡ x → ⊥) → HasAt x n m → HasAt x n (with_factor f m)
with_other x n f [] a h = ((λ e. absurd (a e)), tt)
with_other x n f (g ∷ m) a h = let go = with_other x n f m a h.1 in grind arith

no_less : (x : List ℕ) → slice_cmp nat_cmp x x ≡ Less → ⊥
no_less x l = let g : slice_cmp nat_cmp x x ≡ Greater = nat_list_cmp_total.antisymm x x ∙ ap ordering_reverse l in cc

times_other : (x : List ℕ) (k : ℕ) (m n : Monomial) → IsBelowAll x m → HasAt x k n → HasAt x k (monomial_times m n)
times_other x k [] n b h = h
times_other x k (f ∷ m) n b h = with_other x k f (monomial_times m n) (λ e. no_less x (subst (λ (y : List ℕ). slice_cmp nat_cmp x y ≡ Less) e b.0)) (times_other x k m n b.1 h)

with_exponents : (j k : ℕ) (f : Factor) (m : Monomial) → f.exponent ≤ j → HasAt f.name k m → HasExponents (j + k) m → HasExponents (j + k) (with_factor f m)
with_exponents j k f [] l a h = (omega (arith, l), tt)
with_exponents j k f (g ∷ m) l a h = by (slice_cmp nat_cmp f.name g.name) refl (with_exponents j k f m l a.1 h.1)
  where
    by : (o : Ordering) → slice_cmp nat_cmp f.name g.name ≡ o → HasExponents (j + k) (with_factor f m)
        → HasExponents (j + k) (elim o [ Less ↦ f ∷ g ∷ m | Equal ↦ factor f.name (f.exponent + g.exponent) ∷ m | Greater ↦ g ∷ with_factor f m ])
    by Less e go = (omega (arith, l), h)
    by Equal e go = (omega (arith, l, a.0 (sym (names_equal f.name g.name e))), h.1)
    by Greater e go = (h.0, go)

pub larger_exponents : (a b : ℕ) (m : Monomial) → a ≤ b → HasExponents a m → HasExponents b m
larger_exponents a b [] l h = tt
larger_exponents a b (f ∷ m) l h = (omega (arith, l, h.0), larger_exponents a b m l h.1)

pub times_exponents : (j k : ℕ) (m n : Monomial) → IsMonomial m → HasExponents j m → HasExponents k n → HasExponents (j + k) (monomial_times m n)
times_exponents j k [] n w h l = larger_exponents k (j + k) n (omega arith) l
times_exponents j k (f ∷ m) n w h l =
    with_exponents j k f (monomial_times m n) h.0 (times_other f.name k m n w.1 (exponents_at f.name k n l)) (times_exponents j k m n w.2 h.1 l)

pub later_exponents : (k : ℕ) (m n : Monomial) → HasExponents k (m ++ n) → HasExponents k n
later_exponents k [] n h = h
later_exponents k (f ∷ m) n h = later_exponents k m n h.1

row_exponents : (j k : ℕ) (s : Summand) (w : Polynomial) → IsMonomial s.monomial → HasExponents j s.monomial → HaveExponents k w → HaveExponents (j + k) (map (summand_times s) w)
row_exponents j k s [] a h l = tt
row_exponents j k s (t ∷ w) a h l = (times_exponents j k s.monomial t.monomial a h l.0, row_exponents j k s w a h l.1)

pub product_exponents : (j k : ℕ) (v w : Polynomial) → AllHave IsMonomial v → HaveExponents j v → HaveExponents k w → HaveExponents (j + k) (product v w)
product_exponents j k [] w a h l = tt
product_exponents j k (s ∷ v) w a h l = exponents_append (j + k) (map (summand_times s) w) (product v w) (row_exponents j k s w a.0 h.0 l) (product_exponents j k v w a.1 h.1 l)

pub more_exponents : (a b : ℕ) (v : Polynomial) → a ≤ b → HaveExponents a v → HaveExponents b v
more_exponents a b [] l h = tt
more_exponents a b (s ∷ v) l h = (larger_exponents a b s.monomial l h.0, more_exponents a b v l h.1)

pub all_exponents : (n : ℕ) (v : Polynomial) → HaveExponents n v → AllHave (HasExponents n) v
all_exponents n [] h = tt
all_exponents n (s ∷ v) h = (h.0, all_exponents n v h.1)

pub have_exponents : (n : ℕ) (v : Polynomial) → AllHave (HasExponents n) v → HaveExponents n v
have_exponents n [] h = tt
have_exponents n (s ∷ v) h = (h.0, have_exponents n v h.1)

-- ---- normal polynomials

with_whole : (d : ℕ) (s : Summand) (v : Polynomial) → 0 < d → s.coefficient.den ∣ d → AreWhole d v → AreWhole d (with_summand s v)
with_whole d s [] z h k = (h, tt)
with_whole d s (t ∷ v) z h k = by (monomial_cmp s.monomial t.monomial) (with_whole d s v z h k.1)
  where
    by : (o : Ordering) → AreWhole d (with_summand s v) → AreWhole d (elim o [ Less ↦ s ∷ t ∷ v | Equal ↦ summand (plus s.coefficient t.coefficient) s.monomial ∷ v | Greater ↦ t ∷ with_summand s v ])
    by Less go = (h, k)
    by Equal go = (plus_den s.coefficient t.coefficient d z h k.0, k.1)
    by Greater go = (k.0, go)

with_mass : (d : ℕ) (s : Summand) (v : Polynomial) → 0 < d → s.coefficient.den ∣ d → AreWhole d v → mass d (with_summand s v) ≤ magnitude_over d s.coefficient + mass d v
with_mass d s [] z h k = omega arith
with_mass d s (t ∷ v) z h k = by (monomial_cmp s.monomial t.monomial) (with_mass d s v z h k.1)
  where
    by : (o : Ordering) → mass d (with_summand s v) ≤ magnitude_over d s.coefficient + mass d v
        → mass d (elim o [ Less ↦ s ∷ t ∷ v | Equal ↦ summand (plus s.coefficient t.coefficient) s.monomial ∷ v | Greater ↦ t ∷ with_summand s v ]) ≤ magnitude_over d s.coefficient + (magnitude_over d t.coefficient + mass d v)
    by Less go = omega arith
    by Equal go = omega (arith, magnitude_plus s.coefficient t.coefficient d z h k.0)
    by Greater go = omega (arith, go)

joined_whole : (d : ℕ) (v : Polynomial) → 0 < d → AreWhole d v → AreWhole d (joined v)
joined_whole d [] z h = tt
joined_whole d (s ∷ v) z h = with_whole d s (joined v) z h.0 (joined_whole d v z h.1)

joined_mass : (d : ℕ) (v : Polynomial) → 0 < d → AreWhole d v → mass d (joined v) ≤ mass d v
joined_mass d [] z h = omega arith
joined_mass d (s ∷ v) z h = omega (arith, with_mass d s (joined v) z h.0 (joined_whole d v z h.1), joined_mass d v z h.1)

without_whole : (d : ℕ) (v : Polynomial) → AreWhole d v → AreWhole d (without_zeros v)
without_whole d [] h = tt
without_whole d (s ∷ v) h = by (is_zero_fraction s.coefficient) (without_whole d v h.1)
  where
    by : (b : Bool) → AreWhole d (without_zeros v) → AreWhole d (if b then without_zeros v else s ∷ without_zeros v)
    by true go = go
    by false go = (h.0, go)

without_mass : (d : ℕ) (v : Polynomial) → mass d (without_zeros v) ≤ mass d v
without_mass d [] = omega arith
without_mass d (s ∷ v) = by (is_zero_fraction s.coefficient) (without_mass d v)
  where
    by : (b : Bool) → mass d (without_zeros v) ≤ mass d v → mass d (if b then without_zeros v else s ∷ without_zeros v) ≤ magnitude_over d s.coefficient + mass d v
    by true go = omega (arith, go)
    by false go = omega (arith, go)

pub normal_whole : (d : ℕ) (v : Polynomial) → 0 < d → AreWhole d v → AreWhole d (normal v)
normal_whole d v z h = without_whole d (joined v) (joined_whole d v z h)

pub normal_mass : (d : ℕ) (v : Polynomial) → 0 < d → AreWhole d v → mass d (normal v) ≤ mass d v
normal_mass d v z h = omega (arith, without_mass d (joined v), joined_mass d v z h)

pub exponents_normal : (n : ℕ) (v : Polynomial) → HaveExponents n v → HaveExponents n (normal v)
exponents_normal n v h = have_exponents n (normal v) (normal_all (HasExponents n) v (all_exponents n v h))
