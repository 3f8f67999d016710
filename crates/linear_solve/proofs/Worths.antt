-- What rows are worth.
use Rattle.linear_solve.proofs.Shared.{◌≡◌, ◌<◌, ℕ, zero, suc, ◌+◌, List, [], ◌∷◌, ◌++◌, length, drop, map, Result, Ok, refl, sym, ap, ◌∙◌, subst, arith, zip, replicate, length-replicate, times_zero}
use Rattle.linear_solve.proofs.Shared.{add_op, mul_op, times_comm, zero_plus, zero_times, one_times, Fraction, plus, times, negative, zero_fraction, one_fraction, plus_assoc, unit, Misfit, and_then}
use Rattle.linear_solve.proofs.{Shared.{each, sum_of, product_of, Row, added, entry, negated, scaled, without, worth, plus_both, times_one, plus_zero}, Arithmetic.{combined_entry, scaled_entry}}
use Rattle.linear_solve.proofs.{Arithmetic.{negative_is, negative_zero, negative_plus, times_negative}, Calculations.{both, each_cons, each_pure, fitted_is, ok_is}}

pub worth-nil : (r : Row) → worth r [] ≡ zero_fraction
worth-nil [] = refl
worth-nil (e ∷ r) = refl

-- ---- multiples

-- t is k times r
pub record IsMultiple (k : Fraction) (r t : Row) : Type 0 where
  pub long : length t ≡ length r
  pub value : (vs : List Fraction) → worth t vs ≡ times k (worth r vs)

multiple_cons : (k a : Fraction) (r t : Row) → IsMultiple k r t → IsMultiple k (a ∷ r) (times k a ∷ t)
multiple_cons k a r t m = grind (arith, times_zero, scaled_entry)

each_multiple : (k : Fraction) (f : Fraction → Result Fraction Misfit) → ((a c : Fraction) → f a ≡ Ok c → c ≡ times k a) → (r t : Row) → each f r ≡ Ok t → IsMultiple k r t
each_multiple k f h [] t e = subst (IsMultiple k []) (ok_is _ _ e) (record { long = refl; value = λ vs. sym (times_zero k) })
each_multiple k f h (a ∷ r) t e =
    let (c, cs, p, q, n) = each_cons f a r t e in
    subst (IsMultiple k (a ∷ r)) (ap (λ x. x ∷ cs) (sym (h a c p)) ∙ sym n) (multiple_cons k a r cs (each_multiple k f h r cs q))

pub scaled_is : (k : Fraction) (r t : Row) → scaled k r ≡ Ok t → IsMultiple k r t
scaled_is k r t e = each_multiple k (λ a. product_of a k) (λ a c h. fitted_is mul_op a k c h ∙ times_comm a k) r t e

pub negated_is : (r : Row) → IsMultiple (negative one_fraction) r (negated r)
negated_is r = each_multiple (negative one_fraction) (λ a. Ok (negative a)) (λ a c h. sym (ok_is _ _ h) ∙ negative_is a) r (negated r) (each_pure negative r)

-- ---- rows combined

-- t is r and k times s
pub record IsCombined (k : Fraction) (r s t : Row) : Type 0 where
  pub long : length t ≡ length r
  pub value : (vs : List Fraction) → worth t vs ≡ plus (worth r vs) (times k (worth s vs))

nothing_added : (k : Fraction) → zero_fraction ≡ plus zero_fraction (times k zero_fraction)
nothing_added k = sym (zero_plus (times k zero_fraction) ∙ times_zero k)

combined_cons : (k a b : Fraction) (r s t : Row) → IsCombined k r s t → IsCombined k (a ∷ r) (b ∷ s) (plus a (times k b) ∷ t)
combined_cons k a b r s t m = grind (arith, nothing_added, combined_entry)

each_combined : (k : Fraction) (f : Fraction × Fraction → Result Fraction Misfit) → ((a b c : Fraction) → f (a, b) ≡ Ok c → c ≡ plus a (times k b)) → (r s t : Row)
    → length r ≡ length s → each f (zip r s) ≡ Ok t → IsCombined k r s t
each_combined k f h [] [] t l e = subst (IsCombined k [] []) (ok_is _ _ e) (record { long = refl; value = λ vs. nothing_added k })
each_combined k f h [] (b ∷ s) t l e = absurd (omega arith)
each_combined k f h (a ∷ r) [] t l e = absurd (omega arith)
each_combined k f h (a ∷ r) (b ∷ s) t l e =
    let (c, cs, p, q, n) = each_cons f (a, b) (zip r s) t e in
    subst (IsCombined k (a ∷ r) (b ∷ s)) (ap (λ x. x ∷ cs) (sym (h a b c p)) ∙ sym n) (combined_cons k a b r s cs (each_combined k f h r s cs (omega arith) q))

pub added_is : (r s t : Row) → length r ≡ length s → added r s ≡ Ok t → IsCombined one_fraction r s t
added_is r s t l e = each_combined one_fraction (λ (p : Fraction × Fraction). sum_of p.0 p.1) (λ a b c h. fitted_is add_op a b c h ∙ ap (plus a) (sym (one_times b))) r s t l e

pub without_is : (g : Fraction) (r s t : Row) → length r ≡ length s → without g s r ≡ Ok t → IsCombined (negative g) r s t
without_is g r s t l e = each_combined (negative g) (λ (p : Fraction × Fraction). and_then (product_of (negative g) p.1) (λ m. sum_of p.0 m)) entrywise r s t l e
  where
    entrywise : (a b c : Fraction) → and_then (product_of (negative g) b) (λ m. sum_of a m) ≡ Ok c → c ≡ plus a (times (negative g) b)
    entrywise a b c h =
        let (m, p, q) = both (product_of (negative g) b) (λ m. sum_of a m) c h in
        fitted_is add_op a m c q ∙ ap (plus a) (fitted_is mul_op (negative g) b m p)

-- ---- entries are worths

-- 1 at a place, and 0 before
abbrev pub basis : ℕ → List Fraction
basis zero = one_fraction ∷ []
basis (suc j) = zero_fraction ∷ basis j

pub entry_is : (j : ℕ) (r : Row) → entry j r ≡ worth r (basis j)
entry_is j [] = refl
entry_is zero (e ∷ r) = sym (ap (plus (times e one_fraction)) (worth-nil r) ∙ plus_zero (times e one_fraction) ∙ times_one e)
entry_is (suc j) (e ∷ r) = entry_is j r ∙ sym (ap (λ x. plus x (worth r (basis j))) (times_zero e) ∙ zero_plus (worth r (basis j)))

pub multiple_entry : (k : Fraction) (r t : Row) (j : ℕ) → IsMultiple k r t → entry j t ≡ times k (entry j r)
multiple_entry k r t j m = entry_is j t ∙ m.value (basis j) ∙ ap (times k) (sym (entry_is j r))

pub combined_entries : (k : Fraction) (r s t : Row) (j : ℕ) → IsCombined k r s t → entry j t ≡ plus (entry j r) (times k (entry j s))
combined_entries k r s t j m = entry_is j t ∙ m.value (basis j) ∙ plus_both (sym (entry_is j r)) (ap (times k) (sym (entry_is j s)))

-- ---- parts of rows

pub worth-append : (r s : Row) (vs us : List Fraction) → length r ≡ length vs → worth (r ++ s) (vs ++ us) ≡ plus (worth r vs) (worth s us)
worth-append [] s [] us l = sym (zero_plus (worth s us))
worth-append [] s (v ∷ vs) us l = absurd (omega arith)
worth-append (e ∷ r) s [] us l = absurd (omega arith)
worth-append (e ∷ r) s (v ∷ vs) us l = ap (plus (times e v)) (worth-append r s vs us (omega arith)) ∙ sym (plus_assoc (times e v) (worth r vs) (worth s us))

-- the constant behind the names
pub worth_constant : (r : Row) (vs : List Fraction) (c : Fraction) → worth r (vs ++ c ∷ []) ≡ plus (worth r vs) (times (entry (length vs) r) c)
worth_constant [] vs c = sym (ap (plus zero_fraction) (zero_times c) ∙ zero_plus zero_fraction)
worth_constant (e ∷ r) [] c = ap (plus (times e c)) (worth-nil r) ∙ plus_zero (times e c) ∙ sym (zero_plus (times e c))
worth_constant (e ∷ r) (v ∷ vs) c = ap (plus (times e v)) (worth_constant r vs c) ∙ sym (plus_assoc (times e v) (worth r vs) (times (entry (length vs) r) c))

pub drop-nil : (n : ℕ) → drop {A = Fraction} n [] ≡ []
drop-nil n = grind arith

-- a row without names
pub worth_behind : (r : Row) (vs us : List Fraction) → ((j : ℕ) → j < length vs → entry j r ≡ zero_fraction)
    → worth r (vs ++ one_fraction ∷ us) ≡ plus (entry (length vs) r) (worth (drop (length vs + 1) r) us)
worth_behind r [] us h = first r
  where
    first : (r : Row) → worth r (one_fraction ∷ us) ≡ plus (entry 0 r) (worth (drop 1 r) us)
    first [] = sym (zero_plus zero_fraction)
    first (e ∷ r) = ap (λ x. plus x (worth r us)) (times_one e)
worth_behind [] (v ∷ vs) us h = sym (ap (λ r. plus zero_fraction (worth r us)) (drop-nil (suc (length vs) + 1)) ∙ zero_plus zero_fraction)
worth_behind (e ∷ r) (v ∷ vs) us h =
    let next : suc (length vs + 1) ≡ suc (length vs) + 1 = omega arith in
    ap (λ x. plus x (worth r (vs ++ one_fraction ∷ us))) (ap (λ x. times x v) (h 0 (omega arith)) ∙ zero_times v)
    ∙ zero_plus (worth r (vs ++ one_fraction ∷ us))
    ∙ worth_behind r vs us (λ j l. h (suc j) (omega arith))
    ∙ ap (λ n. plus (entry (length vs) r) (worth (drop n (e ∷ r)) us)) next

worth_zeros : (n : ℕ) (us : List Fraction) → worth (replicate n zero_fraction) us ≡ zero_fraction
worth_zeros zero us = refl
worth_zeros (suc n) [] = refl
worth_zeros (suc n) (u ∷ us) = plus_both (zero_times u) (worth_zeros n us) ∙ zero_plus zero_fraction

pub worth_unit : (n k : ℕ) (us : List Fraction) → length us ≡ n → worth (unit n k) us ≡ entry k us
worth_unit zero k [] l = refl
worth_unit zero k (u ∷ us) l = absurd (omega arith)
worth_unit (suc n) k [] l = absurd (omega arith)
worth_unit (suc n) zero (u ∷ us) l = plus_both (one_times u) (worth_zeros n us) ∙ plus_zero u
worth_unit (suc n) (suc k) (u ∷ us) l = ap (λ x. plus x (worth (unit n k) us)) (zero_times u) ∙ zero_plus (worth (unit n k) us) ∙ worth_unit n k us (omega arith)

pub length-unit : (n k : ℕ) → length (unit n k) ≡ n
length-unit zero k = refl
length-unit (suc n) zero = ap suc (length-replicate n zero_fraction)
length-unit (suc n) (suc k) = ap suc (length-unit n k)

-- opposite coordinates
pub worth_negated : (r : Row) (vs : List Fraction) → worth r (map negative vs) ≡ negative (worth r vs)
worth_negated [] vs = sym negative_zero
worth_negated (e ∷ r) [] = sym negative_zero
worth_negated (e ∷ r) (v ∷ vs) = plus_both (times_negative e v) (worth_negated r vs) ∙ sym (negative_plus (times e v) (worth r vs))
