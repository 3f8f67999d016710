-- What polynomials are worth, and which are the same.
use Rattle.polynomials.proofs.Shared.{plus_both, ◌≡◌, ℕ, zero, suc, [], ◌∷◌, ◌++◌, refl, sym, ap, ◌∙◌, append_assoc, times_comm, times_assoc, times_plus, zero_plus, zero_times, Fraction, plus, times}
use Rattle.polynomials.proofs.Shared.{zero_fraction, plus_comm, plus_assoc, Monomial, Polynomial, Summand, AreSame, monomial_times, product, raised, row, scaled, summand, worth}

pub plus_times : (a b c : Fraction) → times (plus a b) c ≡ plus (times a c) (times b c)
plus_times a b c = times_comm (plus a b) c ∙ times_plus c a b ∙ plus_both (times_comm c a) (times_comm c b)

pub plus_left_comm : (a b c : Fraction) → plus a (plus b c) ≡ plus b (plus a c)
plus_left_comm a b c = sym (plus_assoc a b c) ∙ ap (λ x. plus x c) (plus_comm a b) ∙ plus_assoc b a c

worth_append : (g : Monomial → Fraction) (v w : Polynomial) → worth g (v ++ w) ≡ plus (worth g v) (worth g w)
worth_append g [] w = sym (zero_plus (worth g w))
worth_append g (s ∷ v) w = ap (plus (times s.coefficient (g s.monomial))) (worth_append g v w) ∙ sym (plus_assoc (times s.coefficient (g s.monomial)) (worth g v) (worth g w))

-- ---- the relation

pub same_is : {v w : Polynomial} → v ≡ w → AreSame v w
same_is e = record { at = λ g. ap (worth g) e }

pub same_sym : {v w : Polynomial} → AreSame v w → AreSame w v
same_sym h = record { at = λ g. sym (h.at g) }

pub same_trans : {u v w : Polynomial} → AreSame u v → AreSame v w → AreSame u w
same_trans h k = record { at = λ g. h.at g ∙ k.at g }

pub same_append : {v v' w w' : Polynomial} → AreSame v v' → AreSame w w' → AreSame (v ++ w) (v' ++ w')
same_append {v} {v'} {w} {w'} h k = record { at = λ g. worth_append g v w ∙ plus_both (h.at g) (k.at g) ∙ sym (worth_append g v' w') }

pub same_cons : (s : Summand) {v w : Polynomial} → AreSame v w → AreSame (s ∷ v) (s ∷ w)
same_cons s h = record { at = λ g. ap (plus (times s.coefficient (g s.monomial))) (h.at g) }

-- the first summand at the end
pub same_turned : (s : Summand) (v : Polynomial) → AreSame (s ∷ v) (v ++ s ∷ [])
same_turned s v = record { at = λ g. plus_comm (times s.coefficient (g s.monomial)) (worth g v) ∙ ap (plus (worth g v)) (sym (plus_comm (times s.coefficient (g s.monomial)) zero_fraction ∙ zero_plus _)) ∙ sym (worth_append g v (s ∷ [])) }

-- a summand between others in front of them
pub same_moved : (v : Polynomial) (s : Summand) (w : Polynomial) → AreSame (v ++ s ∷ w) (s ∷ v ++ w)
same_moved [] s w = same_is refl
same_moved (t ∷ v) s w = same_trans (same_cons t (same_moved v s w))
    (record { at = λ g. plus_left_comm (times t.coefficient (g t.monomial)) (times s.coefficient (g s.monomial)) (worth g (v ++ w)) })

-- one summand for two of one monomial
pub same_joined : (p q : Fraction) (m : Monomial) (v : Polynomial) → AreSame (summand (plus p q) m ∷ v) (summand q m ∷ summand p m ∷ v)
same_joined p q m v = record { at = λ g. ap (λ x. plus x (worth g v)) (plus_times p q (g m)) ∙ plus_assoc (times p (g m)) (times q (g m)) (worth g v) ∙ plus_left_comm (times p (g m)) (times q (g m)) (worth g v) }

-- none for one whose coefficient is 0
pub same_without : (q : Fraction) (m : Monomial) (v : Polynomial) → q ≡ zero_fraction → AreSame v (summand q m ∷ v)
same_without q m v e = record { at = λ g. sym (ap (λ x. plus (times x (g m)) (worth g v)) e ∙ ap (λ x. plus x (worth g v)) (zero_times (g m)) ∙ zero_plus (worth g v)) }

-- ---- products

worth_row : (g : Monomial → Fraction) (s : Summand) (w : Polynomial) → worth g (row s w) ≡ times s.coefficient (worth (λ n. g (monomial_times s.monomial n)) w)
worth_row g s [] = sym (times_comm s.coefficient zero_fraction ∙ zero_times s.coefficient)
worth_row g s (t ∷ w) =
    let x : Fraction = g (monomial_times s.monomial t.monomial) in
    plus_both (times_assoc s.coefficient t.coefficient x) (worth_row g s w)
    ∙ sym (times_plus s.coefficient (times t.coefficient x) (worth (λ n. g (monomial_times s.monomial n)) w))

row_same : (s : Summand) {w w' : Polynomial} → AreSame w w' → AreSame (row s w) (row s w')
row_same s {w} {w'} h = record { at = λ g. worth_row g s w ∙ ap (times s.coefficient) (h.at (λ n. g (monomial_times s.monomial n))) ∙ sym (worth_row g s w') }

pub product_right : (v : Polynomial) {w w' : Polynomial} → AreSame w w' → AreSame (product v w) (product v w')
product_right [] h = same_is refl
product_right (s ∷ v) h = same_append (row_same s h) (product_right v h)

worth_product : (g : Monomial → Fraction) (v w : Polynomial) → worth g (product v w) ≡ worth (λ m. worth (λ n. g (monomial_times m n)) w) v
worth_product g [] w = refl
worth_product g (s ∷ v) w = worth_append g (row s w) (product v w) ∙ plus_both (worth_row g s w) (worth_product g v w)

pub product_left : {v v' : Polynomial} (w : Polynomial) → AreSame v v' → AreSame (product v w) (product v' w)
product_left {v} {v'} w h = record { at = λ g. worth_product g v w ∙ h.at (λ m. worth (λ n. g (monomial_times m n)) w) ∙ sym (worth_product g v' w) }

pub product_both : {v v' w w' : Polynomial} → AreSame v v' → AreSame w w' → AreSame (product v w) (product v' w')
product_both {v} {v'} {w} {w'} h k = same_trans (product_left w h) (product_right v' k)

pub raised_same : {v w : Polynomial} (n : ℕ) → AreSame v w → AreSame (raised v n) (raised w n)
raised_same zero h = same_is refl
raised_same (suc n) h = product_both h (raised_same n h)

worth_scaled : (g : Monomial → Fraction) (c : Fraction) (v : Polynomial) → worth g (scaled c v) ≡ times c (worth g v)
worth_scaled g c [] = sym (times_comm c zero_fraction ∙ zero_times c)
worth_scaled g c (s ∷ v) =
    let x : Fraction = g s.monomial in
    plus_both (times_assoc c s.coefficient x) (worth_scaled g c v) ∙ sym (times_plus c (times s.coefficient x) (worth g v))

pub scaled_same : (c : Fraction) {v w : Polynomial} → AreSame v w → AreSame (scaled c v) (scaled c w)
scaled_same c {v} {w} h = record { at = λ g. worth_scaled g c v ∙ ap (times c) (h.at g) ∙ sym (worth_scaled g c w) }

pub product_append : (u v w : Polynomial) → product (u ++ v) w ≡ product u w ++ product v w
product_append [] v w = refl
product_append (s ∷ u) v w = ap (λ (x : Polynomial). row s w ++ x) (product_append u v w) ∙ sym (append_assoc (row s w) (product u w) (product v w))
