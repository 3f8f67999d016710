-- What the rows of nodes are worth where the names have values.
use Rattle.linear_solve.proofs.Shared.{or_false, arith, ◌≡◌, ℕ, suc, List, [], ◌∷◌, length, Bool, true, false, Ok, refl, sym, ap, ◌∙◌, subst, ◌&&◌, ◌||◌, times_comm, times_assoc, one_times, Fraction}
use Rattle.linear_solve.proofs.Shared.{plus, times, negative, inverse, zero_fraction, one_fraction, plus_assoc, Row, added, entry, negated, scaled, worth, Side, constant_of, difference_row}
use Rattle.linear_solve.proofs.{Shared.{joined_rows, over_both, product_row, quotient_row, sum_row, plus_both, times_one, plus_zero}, Arithmetic.{negative_is}, Calculations.{both, ok_is}}
use Rattle.linear_solve.proofs.Worths.{added_is, scaled_is, negated_is, multiple_entry, combined_entries}
use Rattle.calc_terms.proofs.SmallLaws.{either_left as or_first, either_right as or_second}
use Rattle.std.specs.Prelude.{if◌then◌else◌}

-- a row of so many names and a constant has a value at a point; where no name occurs, that is its constant
pub record IsRow (n : ℕ) (vs : List Fraction) (v : Fraction) (named : Bool) (r : Side) : Type 0 where
  pub long : length r.entries ≡ suc n
  pub value : worth r.entries vs ≡ v
  pub flag : r.named ≡ named
  pub constant : named ≡ false → entry n r.entries ≡ v

module _ {n : ℕ} {vs : List Fraction} {v w : Fraction} {b c : Bool} {r s : Side} where
  pub sum_is : (t : Side) → IsRow n vs v b r → IsRow n vs w c s → sum_row r s ≡ Ok t → IsRow n vs (plus v w) (b || c) t
  sum_is t h k e =
      let (x, p, q) = both (added r.entries s.entries) _ t e in
      let m = added_is r.entries s.entries x (h.long ∙ sym k.long) p in
      subst (IsRow n vs (plus v w) (b || c)) (ok_is _ _ q) (record {
        long = m.long ∙ h.long;
        value = m.value vs ∙ plus_both h.value (one_times (worth s.entries vs) ∙ k.value);
        flag = (λ i. h.flag i || k.flag i);
        constant = λ f. combined_entries _ r.entries s.entries x n m ∙ plus_both (h.constant (or_first b c f)) (one_times (entry n s.entries) ∙ k.constant (or_second b c f));
      })

  pub difference_is : (t : Side) → IsRow n vs v b r → IsRow n vs w c s → difference_row r s ≡ Ok t → IsRow n vs (plus v (negative w)) (b || c) t
  difference_is t h k e =
      let (x, p, q) = both (added r.entries (negated s.entries)) _ t e in
      let o = negated_is s.entries in
      let m = added_is r.entries (negated s.entries) x (h.long ∙ sym k.long ∙ sym o.long) p in
      subst (IsRow n vs (plus v (negative w)) (b || c)) (ok_is _ _ q) (record {
        long = m.long ∙ h.long;
        value = m.value vs ∙ plus_both h.value (one_times (worth (negated s.entries) vs) ∙ o.value vs ∙ sym (negative_is (worth s.entries vs)) ∙ ap negative k.value);
        flag = (λ i. h.flag i || k.flag i);
        constant = λ f. combined_entries _ r.entries (negated s.entries) x n m ∙ plus_both (h.constant (or_first b c f))
            (one_times (entry n (negated s.entries)) ∙ multiple_entry _ s.entries (negated s.entries) n o ∙ sym (negative_is (entry n s.entries)) ∙ ap negative (k.constant (or_second b c f)));
      })

  pub product_is : (t : Side) → (b && c) ≡ false → IsRow n vs v b r → IsRow n vs w c s → product_row n r s ≡ Ok t → IsRow n vs (times v w) (b || c) t
  product_is t apart h k e =
      let (x, p, q) = both (if s.named then scaled (constant_of n r) s.entries else scaled (constant_of n s) r.entries) _ t e in
      subst (IsRow n vs (times v w) (b || c)) (ok_is _ _ q) (by s.named k.flag x p)
    where
      by : (f : Bool) → f ≡ c → (x : Row) → (if f then scaled (constant_of n r) s.entries else scaled (constant_of n s) r.entries) ≡ Ok x → IsRow n vs (times v w) (b || c) (over_both r s x)
      by true f x p =
          let m = scaled_is (constant_of n r) s.entries x p in
          let u : b ≡ false = unnamed b c (sym f) apart in
          record {
            long = m.long ∙ k.long;
            value = m.value vs ∙ (λ i. times (h.constant u i) (k.value i));
            flag = (λ i. h.flag i || k.flag i);
            constant = λ g. absurd (clash c (sym f) (or_second b c g));
          }
        where
          unnamed : (b c : Bool) → c ≡ true → (b && c) ≡ false → b ≡ false
          unnamed true c e g = sym e ∙ g
          unnamed false c e g = refl

          clash : (c : Bool) → c ≡ true → c ≡ false → ⊥
          clash c e g = cc
      by false f x p =
          let m = scaled_is (constant_of n s) r.entries x p in
          record {
            long = m.long ∙ h.long;
            value = m.value vs ∙ (λ i. times (k.constant (sym f) i) (h.value i)) ∙ times_comm w v;
            flag = (λ i. h.flag i || k.flag i);
            constant = λ g. multiple_entry _ r.entries x n m ∙ (λ i. times (k.constant (sym f) i) (h.constant (or_first b c g) i)) ∙ times_comm w v;
          }

  pub quotient_is : (t : Side) → c ≡ false → IsRow n vs v b r → IsRow n vs w c s → quotient_row n r s ≡ Ok t → IsRow n vs (times v (inverse w)) (b || c) t
  quotient_is t u h k e =
      let (x, p, q) = both (scaled (inverse (constant_of n s)) r.entries) _ t e in
      let m = scaled_is (inverse (constant_of n s)) r.entries x p in
      subst (IsRow n vs (times v (inverse w)) (b || c)) (ok_is _ _ q) (record {
        long = m.long ∙ h.long;
        value = m.value vs ∙ (λ i. times (inverse (k.constant u i)) (h.value i)) ∙ times_comm (inverse w) v;
        flag = (λ i. h.flag i || k.flag i);
        constant = λ g. multiple_entry _ r.entries x n m ∙ (λ i. times (inverse (k.constant u i)) (h.constant (or_first b c g) i)) ∙ times_comm (inverse w) v;
      })

pub opposite_row : {n : ℕ} {vs : List Fraction} {v : Fraction} {b : Bool} {r : Side} → IsRow n vs v b r → IsRow n vs (negative v) b (record r { entries = negated r.entries })
opposite_row {n} {vs} {v} {b} {r} h =
    let o = negated_is r.entries in
    record {
      long = o.long ∙ h.long;
      value = o.value vs ∙ sym (negative_is (worth r.entries vs)) ∙ ap negative h.value;
      flag = h.flag;
      constant = λ f. multiple_entry _ r.entries (negated r.entries) n o ∙ sym (negative_is (entry n r.entries)) ∙ ap negative (h.constant f);
    }

-- ---- several rows

abbrev pub total : List Fraction → Fraction
total [] = zero_fraction
total (w ∷ ws) = plus w (total ws)

abbrev pub product : List Fraction → Fraction
product [] = one_fraction
product (w ∷ ws) = times w (product ws)

abbrev pub any : List Bool → Bool
any [] = false
any (b ∷ bs) = b || any bs

-- at most one of them is true
abbrev pub AtMostOne : Bool → List Bool → Type 0
AtMostOne b [] = Unit {0}
AtMostOne b (c ∷ cs) = ((b && c) ≡ false) × AtMostOne (b || c) cs

-- rows with these values
abbrev pub AreRows : ℕ → List Fraction → List Fraction → List Bool → List Side → Type 0
AreRows n vs [] [] [] = Unit {0}
AreRows n vs (w ∷ ws) (b ∷ bs) (r ∷ rs) = IsRow n vs w b r × AreRows n vs ws bs rs
AreRows n vs _ _ _ = ⊥

pub or_assoc : (a b c : Bool) → ((a || b) || c) ≡ (a || (b || c))
or_assoc a b c = grind arith

row_as : {n : ℕ} {vs : List Fraction} {v w : Fraction} {b c : Bool} {r : Side} → v ≡ w → b ≡ c → IsRow n vs v b r → IsRow n vs w c r
row_as {n} {vs} {v} {w} {b} {c} {r} p q h = subst (λ x. IsRow n vs x c r) p (subst (λ x. IsRow n vs v x r) q h)

module _ {n : ℕ} {vs : List Fraction} where
  pub sums_are : (v : Fraction) (b : Bool) (r : Side) (ws : List Fraction) (bs : List Bool) (rs : List Side) (t : Side) → IsRow n vs v b r → AreRows n vs ws bs rs
      → joined_rows sum_row r rs ≡ Ok t → IsRow n vs (plus v (total ws)) (b || any bs) t
  sums_are v b r [] [] [] t h k e = row_as (sym (plus_zero v)) (sym (or_false b)) (subst (IsRow n vs v b) (ok_is _ _ e) h)
  sums_are v b r (w ∷ ws) (c ∷ cs) (s ∷ rs) t h k e =
      let (u, p, q) = both (sum_row r s) (λ t. joined_rows sum_row t rs) t e in
      row_as (plus_assoc v w (total ws)) (or_assoc b c (any cs)) (sums_are (plus v w) (b || c) u ws cs rs t (sum_is u h k.0 p) k.1 q)
  sums_are v b r ws bs rs t h k e = absurd k

  pub products_are : (v : Fraction) (b : Bool) (r : Side) (ws : List Fraction) (bs : List Bool) (rs : List Side) (t : Side) → AtMostOne b bs → IsRow n vs v b r
      → AreRows n vs ws bs rs → joined_rows (product_row n) r rs ≡ Ok t → IsRow n vs (times v (product ws)) (b || any bs) t
  products_are v b r [] [] [] t a h k e = row_as (sym (times_one v)) (sym (or_false b)) (subst (IsRow n vs v b) (ok_is _ _ e) h)
  products_are v b r (w ∷ ws) (c ∷ cs) (s ∷ rs) t a h k e =
      let (u, p, q) = both (product_row n r s) (λ t. joined_rows (product_row n) t rs) t e in
      row_as (times_assoc v w (product ws)) (or_assoc b c (any cs)) (products_are (times v w) (b || c) u ws cs rs t a.1 (product_is u a.0 h k.0 p) k.1 q)
  products_are v b r ws bs rs t a h k e = absurd k
