-- Polynomials with the same coefficients, in sums and products.
use Rattle.expansions.proofs.Shared.{◌≡◌, [], ◌∷◌, ◌++◌, map, refl, sym, ap, ◌∙◌, append-nil, append_assoc, if◌then◌else◌, Ordering, Less, Equal, Greater, times_zero, zero_is, arith, raised, zero}
use Rattle.expansions.proofs.Shared.{suc, ℕ, one_times, times_comm, times_plus, zero_plus, zero_times, Fraction, one_fraction, plus, plus_assoc, plus_comm, times, zero_fraction, joined, monomial_cmp}
use Rattle.expansions.proofs.Shared.{normal, with_summand, without_zeros, Monomial, Polynomial, Summand, coefficient_at, constant, is_same_monomial, monomial_times, product, scaled, summand}
use Rattle.expansions.proofs.{Shared.{summand_times, AreSame, plus_both, plus_left_comm, plus_times}, MonomialTrees.{equal_is}, NormalForms.{normal_coefficient, one_normal_form}}

-- ---- the relation

pub same_refl : (v : Polynomial) → AreSame v v
same_refl v = record { at = λ m. refl }

pub same_is : {v w : Polynomial} → v ≡ w → AreSame v w
same_is e = record { at = λ m. ap (coefficient_at m) e }

pub same_sym : {v w : Polynomial} → AreSame v w → AreSame w v
same_sym h = record { at = λ m. sym (h.at m) }

pub same_trans : {u v w : Polynomial} → AreSame u v → AreSame v w → AreSame u w
same_trans h k = record { at = λ m. h.at m ∙ k.at m }

pub same_normal : (v : Polynomial) → AreSame (normal v) v
same_normal v = record { at = λ m. normal_coefficient m v }

pub normal_same : {v w : Polynomial} → AreSame v w → normal v ≡ normal w
normal_same {v = v} {w = w} h = one_normal_form v w h.at

-- ---- sums

pub coefficient_append : (m : Monomial) (v w : Polynomial) → coefficient_at m (v ++ w) ≡ plus (coefficient_at m v) (coefficient_at m w)
coefficient_append m [] w = sym (zero_plus (coefficient_at m w))
coefficient_append m (s ∷ v) w = let go = coefficient_append m v w in grind (arith, plus_assoc)

pub same_append : {v v' w w' : Polynomial} → AreSame v v' → AreSame w w' → AreSame (v ++ w) (v' ++ w')
same_append {v} {v'} {w} {w'} h k = record { at = λ m. coefficient_append m v w ∙ plus_both (h.at m) (k.at m) ∙ sym (coefficient_append m v' w') }

pub same_turned : (v w : Polynomial) → AreSame (v ++ w) (w ++ v)
same_turned v w = record { at = λ m. coefficient_append m v w ∙ plus_comm (coefficient_at m v) (coefficient_at m w) ∙ sym (coefficient_append m w v) }

-- the second of three in front
pub same_second : (u v w : Polynomial) → AreSame (u ++ (v ++ w)) (v ++ (u ++ w))
same_second u v w = same_trans (same_is (sym (append_assoc u v w))) (same_trans (same_append (same_turned u v) (same_refl w)) (same_is (append_assoc v u w)))

pub same_cons : (s : Summand) {v w : Polynomial} → AreSame v w → AreSame (s ∷ v) (s ∷ w)
same_cons s h = same_append (same_refl (s ∷ [])) h

-- ---- each fraction times what a function gives its monomial, added

abbrev pub weighed : (Monomial → Fraction) → Polynomial → Fraction
weighed g [] = zero_fraction
weighed g (s ∷ v) = plus (times s.coefficient (g s.monomial)) (weighed g v)

weighed_with : (g : Monomial → Fraction) (s : Summand) (v : Polynomial) → weighed g (with_summand s v) ≡ weighed g (s ∷ v)
weighed_with g s [] = refl
weighed_with g s (t ∷ v) = by (monomial_cmp s.monomial t.monomial) refl (weighed_with g s v)
  where
    by : (o : Ordering) → monomial_cmp s.monomial t.monomial ≡ o → weighed g (with_summand s v) ≡ weighed g (s ∷ v)
        → weighed g (elim o [ Less ↦ s ∷ t ∷ v | Equal ↦ summand (plus s.coefficient t.coefficient) s.monomial ∷ v | Greater ↦ t ∷ with_summand s v ]) ≡ weighed g (s ∷ t ∷ v)
    by Less e go = refl
    by Equal e go =
        ap (λ x. plus x (weighed g v)) (plus_times s.coefficient t.coefficient (g s.monomial))
        ∙ plus_assoc (times s.coefficient (g s.monomial)) (times t.coefficient (g s.monomial)) (weighed g v)
        ∙ ap (λ k. plus (times s.coefficient (g s.monomial)) (plus (times t.coefficient (g k)) (weighed g v))) (equal_is s.monomial t.monomial e)
    by Greater e go = ap (plus (times t.coefficient (g t.monomial))) go ∙ plus_left_comm (times t.coefficient (g t.monomial)) (times s.coefficient (g s.monomial)) (weighed g v)

weighed_joined : (g : Monomial → Fraction) (v : Polynomial) → weighed g (joined v) ≡ weighed g v
weighed_joined g [] = refl
weighed_joined g (s ∷ v) = weighed_with g s (joined v) ∙ ap (plus (times s.coefficient (g s.monomial))) (weighed_joined g v)

weighed_without : (g : Monomial → Fraction) (v : Polynomial) → weighed g (without_zeros v) ≡ weighed g v
weighed_without g [] = refl
weighed_without g (s ∷ v) = let go = weighed_without g v in grind (arith, zero_is, zero_times, zero_plus)

weighed_normal : (g : Monomial → Fraction) (v : Polynomial) → weighed g (normal v) ≡ weighed g v
weighed_normal g v = weighed_without g (joined v) ∙ weighed_joined g v

weighed_same : (g : Monomial → Fraction) {v w : Polynomial} → AreSame v w → weighed g v ≡ weighed g w
weighed_same g {v} {w} h = sym (weighed_normal g v) ∙ ap (weighed g) (normal_same h) ∙ weighed_normal g w

-- ---- products

abbrev row : Monomial → Monomial → Polynomial → Fraction
row m k w = coefficient_at m (map (summand_times (summand one_fraction k)) w)

row_scaled : (m : Monomial) (s : Summand) (w : Polynomial) → coefficient_at m (map (summand_times s) w) ≡ times s.coefficient (row m s.monomial w)
row_scaled m s [] = sym (times_zero s.coefficient)
row_scaled m s (t ∷ w) = let go = row_scaled m s w in grind (arith, one_times, times_plus)

product_weighed : (m : Monomial) (v w : Polynomial) → coefficient_at m (product v w) ≡ weighed (λ k. row m k w) v
product_weighed m [] w = refl
product_weighed m (s ∷ v) w = coefficient_append m (map (summand_times s) w) (product v w) ∙ plus_both (row_scaled m s w) (product_weighed m v w)

pub product_left : {v v' : Polynomial} (w : Polynomial) → AreSame v v' → AreSame (product v w) (product v' w)
product_left {v} {v'} w h = record { at = λ m. product_weighed m v w ∙ weighed_same (λ k. row m k w) h ∙ sym (product_weighed m v' w) }

abbrev where_same : Monomial → Summand → Monomial → Fraction
where_same m s k = if is_same_monomial (monomial_times s.monomial k) m then s.coefficient else zero_fraction

row_weighed : (m : Monomial) (s : Summand) (w : Polynomial) → coefficient_at m (map (summand_times s) w) ≡ weighed (where_same m s) w
row_weighed m s [] = refl
row_weighed m s (t ∷ w) = let go = row_weighed m s w in grind (arith, times_comm, times_zero, zero_plus)

pub product_right : (v : Polynomial) {w w' : Polynomial} → AreSame w w' → AreSame (product v w) (product v w')
product_right [] h = same_refl []
product_right (s ∷ v) {w} {w'} h =
    same_append (record { at = λ m. row_weighed m s w ∙ weighed_same (where_same m s) h ∙ sym (row_weighed m s w') }) (product_right v h)

pub product_both : {v v' w w' : Polynomial} → AreSame v v' → AreSame w w' → AreSame (product v w) (product v' w')
product_both {v} {v'} {w} {w'} h k = same_trans (product_left w h) (product_right v' k)

pub product_nil : (v : Polynomial) → product v [] ≡ []
product_nil [] = refl
product_nil (s ∷ v) = product_nil v

-- ---- a constant factor

pub constant_product : (c : Fraction) (v : Polynomial) → product (constant c) v ≡ scaled c v
constant_product c v = append-nil (scaled c v)

pub scaled_one : (v : Polynomial) → scaled one_fraction v ≡ v
scaled_one [] = refl
scaled_one (s ∷ v) = λ i. summand (one_times s.coefficient i) s.monomial ∷ scaled_one v i

pub scaled_same : (c : Fraction) {v w : Polynomial} → AreSame v w → AreSame (scaled c v) (scaled c w)
scaled_same c {v} {w} h = same_trans (same_is (sym (constant_product c v))) (same_trans (product_right (constant c) h) (same_is (constant_product c w)))

pub raised_same : (n : ℕ) {v w : Polynomial} → AreSame v w → AreSame (raised v n) (raised w n)
raised_same zero h = same_refl (raised [] zero)
raised_same (suc n) h = product_both h (raised_same n h)
