-- The row of a linear tree is worth what the tree means.
use Rattle.linear_solve.proofs.Shared.{clash, ◌≡◌, ◌≢◌, ◌≤◌, ◌⊎◌, inl, inr, ℕ, suc, ◌+◌, List, [], ◌∷◌, ◌++◌, length, map, Bool, true, false, Ok, refl, sym, ap, ◌∙◌, subst, arith, pos}
use Rattle.linear_solve.proofs.Shared.{bytes_eq-Decides, ◌&&◌, ◌||◌, nat_le, Contains, bytes_eq, and_parts, leb-true, false_from_ne_true, length-map, get_or_at, Contains-append_left}
use Rattle.linear_solve.proofs.Shared.{Contains-append_right, Contains-push, Assignment, IsAssignment, Gives, Means, surd_of, surd_one, Inverts-surd_of, inverse_times_itself, Same-sym, one_meaning}
use Rattle.linear_solve.proofs.Shared.{surd_of_one, Same-trans, Same-eq, Same-refl, joined_radicand, surd_times-terms, zero_term, no_zero, negative_lowest, one_times, zero_times, zero_plus, Fraction}
use Rattle.linear_solve.proofs.Shared.{plus, times, negative, inverse, zero_fraction, one_fraction, minus_one_fraction, Tree, num, symbol, undef, add, mult, power, root, neg, sub, div, Trees, none}
use Rattle.linear_solve.proofs.Shared.{more, names, names_of, AreDistinct, Assigns, and_then, are_linear, count_named, has_name, have_name, is_divisor, is_linear, is_nonzero, Row, worth, Side}
use Rattle.linear_solve.proofs.Shared.{constant_row, difference_row, joined_from, name_row, own_row, product_row, quotient_row, row_of, rows_of, sum_row, plus_both, times_one, plus_zero, sum_more}
use Rattle.linear_solve.proofs.{Shared.{sum_none, product_more, product_none}, Arithmetic.{negative_is, negative_zero, negative_twice}, Calculations.{both, ok_is}, SideWorths.{IsRow, AreRows, any}}
use Rattle.linear_solve.proofs.{SideWorths.{AtMostOne, difference_is, opposite_row, product, products_are, quotient_is, sums_are, total}, Worths.{worth-append}}
use Rattle.calc_algebra.proofs.MeaningLaws.{at_front as first_or_later, none_in as nothing_in}
use Rattle.std.proofs.Common.{length-append}
use Rattle.std.specs.Prelude.{if◌then◌else◌}

-- ---- meanings that are rationals

minus_one_is : minus_one_fraction ≡ negative one_fraction
unfolding one_fraction
minus_one_is = sym (negative_lowest (pos 1) 1 (omega arith))

scaled_negative : (v : Fraction) → times minus_one_fraction v ≡ negative v
scaled_negative v = ap (λ x. times x v) minus_one_is ∙ sym (negative_is v)

pub one_rational_meaning : (f : Assignment) → IsAssignment f → (t : Tree) (p q : Fraction) → Means t f (surd_of p) → Means t f (surd_of q) → p ≡ q
one_rational_meaning f once t p q m n = surd_of_one p q (one_meaning f once t (surd_of p) (surd_of q) m n)

neg_means : (f : Assignment) (a : Tree) (v : Fraction) → Means a f (surd_of v) → Means (neg a) f (surd_of (negative v))
neg_means f a v m = (surd_of v, m, Same-eq (ap surd_of (sym (scaled_negative v))))

sub_means : (f : Assignment) (a b : Tree) (v w : Fraction) → Means a f (surd_of v) → Means b f (surd_of w) → Means (sub a b) f (surd_of (plus v (negative w)))
sub_means f a b v w m n = (surd_of v, surd_of w, m, n, Same-sym (Same-trans (joined_radicand v (times minus_one_fraction w) 1) (Same-eq (ap (λ x. surd_of (plus v x)) (scaled_negative w)))))

div_means : (f : Assignment) (a b : Tree) (v w : Fraction) → w ≢ zero_fraction → Means a f (surd_of v) → Means b f (surd_of w) → Means (div a b) f (surd_of (times v (inverse w)))
div_means f a b v w ne m n = (surd_of v, surd_of w, surd_of (inverse w), m, n, Inverts-surd_of w (inverse w) (inverse_times_itself w ne), Same-eq (sym (surd_times-terms v (inverse w) 1 1)))

-- the trees have these values
abbrev AreWorth : Assignment → Trees → List Fraction → Type 0
AreWorth f none [] = Unit {0}
AreWorth f (more t ts) (w ∷ ws) = Means t f (surd_of w) × AreWorth f ts ws
AreWorth f _ _ = ⊥

add_means : (f : Assignment) (ts : Trees) (ws : List Fraction) → AreWorth f ts ws → Means (add ts) f (surd_of (total ws))
add_means f none [] h = sum_none f (surd_of zero_fraction) (zero_term 1)
add_means f (more t ts) (w ∷ ws) h = sum_more f t ts (surd_of (plus w (total ws))) (surd_of w) (surd_of (total ws)) h.0 (add_means f ts ws h.1) (Same-sym (joined_radicand w (total ws) 1))
add_means f none (w ∷ ws) h = absurd h
add_means f (more t ts) [] h = absurd h

mult_means : (f : Assignment) (ts : Trees) (ws : List Fraction) → AreWorth f ts ws → Means (mult ts) f (surd_of (product ws))
mult_means f none [] h = product_none f (surd_of one_fraction) (Same-refl surd_one)
mult_means f (more t ts) (w ∷ ws) h = product_more f t ts (surd_of (times w (product ws))) (surd_of w) (surd_of (product ws)) h.0 (mult_means f ts ws h.1)
    (Same-eq (sym (surd_times-terms w (product ws) 1 1)))
mult_means f none (w ∷ ws) h = absurd h
mult_means f (more t ts) [] h = absurd h

-- ---- leaves

zeros_worth : (xs : List (List ℕ)) (vs : List Fraction) → worth (map (λ x. zero_fraction) xs) vs ≡ zero_fraction
zeros_worth [] vs = refl
zeros_worth (x ∷ xs) [] = refl
zeros_worth (x ∷ xs) (v ∷ vs) = plus_both (zero_times v) (zeros_worth xs vs) ∙ zero_plus zero_fraction

abbrev unit_entries : List (List ℕ) → List ℕ → Row
unit_entries xs x = map (λ y. if bytes_eq y x then one_fraction else zero_fraction) xs

in_tail : {X : Type 0} (y : X) (ys : List X) (x : X) → Contains ys x → Contains (y ∷ ys) x
in_tail y ys x (k, l, e) = (suc k, omega arith, e)

absent_worth : (xs : List (List ℕ)) (x : List ℕ) (vs : List Fraction) → ¬ (Contains xs x) → worth (unit_entries xs x) vs ≡ zero_fraction
absent_worth [] x vs h = refl
absent_worth (y ∷ ys) x [] h = refl
absent_worth (y ∷ ys) x (v ∷ vs) h =
    let apart : bytes_eq y x ≡ false = false_from_ne_true _ (λ e. h (0, omega arith, (bytes_eq-Decides y x).0 e)) in
    plus_both (ap (λ b. times (if b then one_fraction else zero_fraction) v) apart ∙ zero_times v) (absent_worth ys x vs (λ c. h (in_tail y ys x c))) ∙ zero_plus zero_fraction

-- a name is worth its value
pub record HasWorth (f : Assignment) (xs : List (List ℕ)) (vs : List Fraction) (x : List ℕ) : Type 0 where
  pub value : Fraction
  pub given : Gives f x value
  pub is : worth (unit_entries xs x) vs ≡ value

name_worth : (f : Assignment) (xs : List (List ℕ)) (vs : List Fraction) (x : List ℕ) → AreDistinct xs → Assigns f xs vs → Contains xs x → HasWorth f xs vs x
name_worth f [] vs x d g c = absurd (nothing_in c)
name_worth f (y ∷ ys) [] x d g c = absurd g
name_worth f (y ∷ ys) (v ∷ vs) x d g c = by (bytes_eq y x) refl (first_or_later y ys x c) (λ m. name_worth f ys vs x d.1 g.1 m)
  where
    by : (b : Bool) → bytes_eq y x ≡ b → (y ≡ x) ⊎ Contains ys x → (Contains ys x → HasWorth f ys vs x) → HasWorth f (y ∷ ys) (v ∷ vs) x
    by true e m go =
        let same : y ≡ x = (bytes_eq-Decides y x).0 e in
        record {
          value = v;
          given = subst (λ z. Gives f z v) same g.0;
          is = plus_both (ap (λ b. times (if b then one_fraction else zero_fraction) v) e ∙ one_times v) (absent_worth ys x vs (subst (λ z. ¬ (Contains ys z)) same d.0)) ∙ plus_zero v;
        }
    by false e (inl s) go = absurd (clash (bytes_eq y x) e ((bytes_eq-Decides y x).1 s))
    by false e (inr m) go =
        let rest = go m in
        record {
          value = rest.value;
          given = rest.given;
          is = plus_both (ap (λ b. times (if b then one_fraction else zero_fraction) v) e ∙ zero_times v) rest.is ∙ zero_plus rest.value;
        }

pub long_values : (f : Assignment) (xs : List (List ℕ)) (vs : List Fraction) → Assigns f xs vs → length vs ≡ length xs
long_values f [] [] g = refl
long_values f [] (v ∷ vs) g = absurd g
long_values f (x ∷ xs) [] g = absurd g
long_values f (x ∷ xs) (v ∷ vs) g = ap suc (long_values f xs vs g.1)

-- ---- trees

module _ (f : Assignment) (once : IsAssignment f) (xs : List (List ℕ)) (vs : List Fraction) (distinct : AreDistinct xs) (gives : Assigns f xs vs) where
  abbrev pub point : List Fraction
  point = vs ++ one_fraction ∷ []

  -- the row of a tree is worth what the tree means
  pub record IsRowOf (t : Tree) (r : Side) : Type 0 where
    pub value : Fraction
    pub row : IsRow (length xs) (vs ++ one_fraction ∷ []) value (has_name t) r
    pub means : Means t f (surd_of value)

  -- behind entries for the names stands a constant
  entries_worth : (es : Row) (q w : Fraction) → length es ≡ length vs → worth es vs ≡ w → worth (es ++ q ∷ []) (vs ++ one_fraction ∷ []) ≡ plus w q
  entries_worth es q w l e = worth-append es (q ∷ []) vs (one_fraction ∷ []) l ∙ plus_both e (plus_zero (times q one_fraction) ∙ times_one q)

  constant_is : (q : Fraction) → IsRow (length xs) (vs ++ one_fraction ∷ []) q false (constant_row xs q)
  constant_is q =
      let l : length (map (λ (x : List ℕ). zero_fraction) xs) ≡ length xs = length-map xs _ in
      record {
        long = length-append (map (λ x. zero_fraction) xs) (q ∷ []) ∙ omega (arith, l);
        value = entries_worth (map (λ x. zero_fraction) xs) q zero_fraction (l ∙ sym (long_values f xs vs gives)) (zeros_worth xs vs) ∙ zero_plus q;
        flag = refl;
        constant = λ e. get_or_at (map (λ x. zero_fraction) xs) q [] zero_fraction (length xs) l;
      }

  name_is : (x : List ℕ) → Contains xs x → IsRowOf (symbol x) (name_row xs x)
  name_is x c =
      let w = name_worth f xs vs x distinct gives c in
      let l : length (unit_entries xs x) ≡ length xs = length-map xs _ in
      record {
        value = w.value;
        row = record {
          long = length-append (unit_entries xs x) (zero_fraction ∷ []) ∙ omega (arith, l);
          value = entries_worth (unit_entries xs x) zero_fraction w.value (l ∙ sym (long_values f xs vs gives)) w.is ∙ plus_zero w.value;
          flag = refl;
          constant = λ e. cc;
        };
        means = (w.value, w.given, Same-refl (surd_of w.value));
      }

  -- the rows of trees
  pub record AreRowsOf (ts : Trees) (rs : List Side) : Type 0 where
    pub values : List Fraction
    pub flags : List Bool
    pub rows : AreRows (length xs) (vs ++ one_fraction ∷ []) values flags rs
    pub flagged : any flags ≡ have_name ts
    pub named : (b : Bool) → (if b then 1 else 0) + count_named ts ≤ 1 → AtMostOne b flags
    pub mean : AreWorth f ts values

  no_rows : AreRowsOf none []
  no_rows = record { values = []; flags = []; rows = tt; flagged = refl; named = λ b l. tt; mean = tt }

  more_rows : (t : Tree) (ts : Trees) (r : Side) (rs : List Side) → IsRowOf t r → AreRowsOf ts rs → AreRowsOf (more t ts) (r ∷ rs)
  more_rows t ts r rs h k = record {
    values = h.value ∷ k.values;
    flags = has_name t ∷ k.flags;
    rows = (h.row, k.rows);
    flagged = ap (λ b. has_name t || b) k.flagged;
    named = λ b l. (apart b (has_name t) l, k.named (b || has_name t) (fewer b (has_name t) l));
    mean = (h.means, k.mean);
  }
    where
      apart : (b c : Bool) → (if b then 1 else 0) + ((if c then 1 else 0) + count_named ts) ≤ 1 → (b && c) ≡ false
      apart true true l = absurd (omega arith)
      apart true false l = refl
      apart false c l = refl

      fewer : (b c : Bool) → (if b then 1 else 0) + ((if c then 1 else 0) + count_named ts) ≤ 1 → (if (b || c) then 1 else 0) + count_named ts ≤ 1
      fewer b c l = grind arith

  sum_of_rows : (ts : Trees) (rs : List Side) (t : Side) → AreRowsOf ts rs → joined_from sum_row (constant_row xs zero_fraction) rs ≡ Ok t → IsRowOf (add ts) t
  sum_of_rows ts rs t h e = record {
    value = total h.values;
    row = subst (λ b. IsRow (length xs) (vs ++ one_fraction ∷ []) (total h.values) b t) h.flagged (by h.values h.flags rs h.rows e);
    means = add_means f ts h.values h.mean;
  }
    where
      by : (ws : List Fraction) (bs : List Bool) (rs : List Side) → AreRows (length xs) (vs ++ one_fraction ∷ []) ws bs rs
          → joined_from sum_row (constant_row xs zero_fraction) rs ≡ Ok t → IsRow (length xs) (vs ++ one_fraction ∷ []) (total ws) (any bs) t
      by [] [] [] k e = subst (IsRow (length xs) (vs ++ one_fraction ∷ []) zero_fraction false) (ok_is _ _ e) (constant_is zero_fraction)
      by (w ∷ ws) (b ∷ bs) (r ∷ rs) k e = sums_are w b r ws bs rs t k.0 k.1 e
      by ws bs rs k e = absurd k

  product_of_rows : (ts : Trees) (rs : List Side) (t : Side) → count_named ts ≤ 1 → AreRowsOf ts rs → joined_from (product_row (length xs)) (constant_row xs one_fraction) rs ≡ Ok t
      → IsRowOf (mult ts) t
  product_of_rows ts rs t l h e = record {
    value = product h.values;
    row = subst (λ b. IsRow (length xs) (vs ++ one_fraction ∷ []) (product h.values) b t) h.flagged (by h.values h.flags rs (h.named false (omega arith)) h.rows e);
    means = mult_means f ts h.values h.mean;
  }
    where
      by : (ws : List Fraction) (bs : List Bool) (rs : List Side) → AtMostOne false bs → AreRows (length xs) (vs ++ one_fraction ∷ []) ws bs rs
          → joined_from (product_row (length xs)) (constant_row xs one_fraction) rs ≡ Ok t → IsRow (length xs) (vs ++ one_fraction ∷ []) (product ws) (any bs) t
      by [] [] [] a k e = subst (IsRow (length xs) (vs ++ one_fraction ∷ []) one_fraction false) (ok_is _ _ e) (constant_is one_fraction)
      by (w ∷ ws) (b ∷ bs) (r ∷ rs) a k e = products_are w b r ws bs rs t a.1 k.0 k.1 e
      by ws bs rs a k e = absurd k

  -- the value of a divisor is not 0
  nonzero_worth : (a : Tree) (v : Fraction) → is_nonzero a ≡ true → Means a f (surd_of v) → v ≢ zero_fraction
  nonzero_worth (num q) v h m = λ e. no_zero q h (sym (one_rational_meaning f once (num q) v q m (Same-refl (surd_of q))) ∙ e)
  nonzero_worth a v h m = cc

  opposite_worth : (a : Tree) (v : Fraction) → is_nonzero a ≡ true → Means (neg a) f (surd_of v) → v ≢ zero_fraction
  opposite_worth (num q) v h m = λ e. no_zero q h
      (sym (negative_twice q) ∙ ap negative (sym (one_rational_meaning f once (neg (num q)) v (negative q) m (neg_means f (num q) q (Same-refl (surd_of q)))) ∙ e) ∙ negative_zero)
  opposite_worth a v h m = cc

  divisor_worth : (c : Tree) (v : Fraction) → is_divisor c ≡ true → Means c f (surd_of v) → v ≢ zero_fraction
  divisor_worth c v h m = grind (arith, opposite_worth, nonzero_worth)

  divisor_unnamed : (c : Tree) → is_divisor c ≡ true → (has_name c ≡ false) × (is_linear c ≡ true)
  divisor_unnamed c h = grind arith

  among_left : (ms ns : List (List ℕ)) → ((x : List ℕ) → Contains (ms ++ ns) x → Contains xs x) → (x : List ℕ) → Contains ms x → Contains xs x
  among_left ms ns h x c = h x (Contains-append_left ms ns x c)

  among_right : (ms ns : List (List ℕ)) → ((x : List ℕ) → Contains (ms ++ ns) x → Contains xs x) → (x : List ℕ) → Contains ns x → Contains xs x
  among_right ms ns h x c = h x (Contains-append_right ms ns x c)

  mutual
    pub row_means : (t : Tree) → is_linear t ≡ true → ((x : List ℕ) → Contains (names t) x → Contains xs x) → (r : Side) → row_of xs t ≡ Ok r → IsRowOf t r
    row_means (num q) l n r e = subst (IsRowOf (num q)) (ok_is _ _ e) (record { value = q; row = constant_is q; means = Same-refl (surd_of q) })
    row_means (symbol x) l n r e = subst (IsRowOf (symbol x)) (ok_is _ _ e) (name_is x (n x (Contains-push [] x)))
    row_means undef l n r e = cc
    row_means (add ts) l n r e =
        let (rs, p, q) = both (rows_of xs ts) (λ rs. own_row xs (add ts) rs) r e in
        let (s, p', q') = both (joined_from sum_row (constant_row xs zero_fraction) rs) (λ r. Ok r) r q in
        subst (IsRowOf (add ts)) (ok_is _ _ q') (sum_of_rows ts rs s (rows_mean ts l n rs p) p')
    row_means (mult ts) l n r e =
        let (l1, l2) = and_parts (are_linear ts) (nat_le (count_named ts) 1) l in
        let (rs, p, q) = both (rows_of xs ts) (λ rs. own_row xs (mult ts) rs) r e in
        let (s, p', q') = both (joined_from (product_row (length xs)) (constant_row xs one_fraction) rs) (λ r. Ok r) r q in
        subst (IsRowOf (mult ts)) (ok_is _ _ q') (product_of_rows ts rs s (leb-true _ _ l2) (rows_mean ts l1 n rs p) p')
    row_means (power b x) l n r e = cc
    row_means (root a) l n r e = cc
    row_means (neg a) l n r e =
        let (s, p, q) = both (row_of xs a) (λ r. own_row xs (neg a) (r ∷ [])) r e in
        let h = row_means a l n s p in
        subst (IsRowOf (neg a)) (ok_is _ _ q) (record { value = negative h.value; row = opposite_row h.row; means = neg_means f a h.value h.means })
    row_means (sub a b) l n r e =
        let (la, lb) = and_parts (is_linear a) (is_linear b) l in
        let (s, p, e1) = both (row_of xs a) (λ r. and_then (row_of xs b) (λ s. own_row xs (sub a b) (r ∷ s ∷ []))) r e in
        let (t, q, e2) = both (row_of xs b) (λ t. own_row xs (sub a b) (s ∷ t ∷ [])) r e1 in
        let (u, o, e3) = both (and_then (difference_row s t) (λ t. Ok t)) (λ r. Ok r) r e2 in
        let (w, k, e4) = both (difference_row s t) (λ t. Ok t) u o in
        let h = row_means a la (among_left (names a) (names b) n) s p in
        let g = row_means b lb (among_right (names a) (names b) n) t q in
        subst (IsRowOf (sub a b)) (ok_is _ _ e4 ∙ ok_is _ _ e3)
        (record { value = plus h.value (negative g.value); row = difference_is w h.row g.row k; means = sub_means f a b h.value g.value h.means g.means })
    row_means (div a c) l n r e =
        let (la, lc) = and_parts (is_linear a) (is_divisor c) l in
        let u = divisor_unnamed c lc in
        let (s, p, e1) = both (row_of xs a) (λ r. and_then (row_of xs c) (λ s. own_row xs (div a c) (r ∷ s ∷ []))) r e in
        let (t, q, e2) = both (row_of xs c) (λ t. own_row xs (div a c) (s ∷ t ∷ [])) r e1 in
        let (x, o, e3) = both (and_then (quotient_row (length xs) s t) (λ t. Ok t)) (λ r. Ok r) r e2 in
        let (w, k, e4) = both (quotient_row (length xs) s t) (λ t. Ok t) x o in
        let h = row_means a la (among_left (names a) (names c) n) s p in
        let g = row_means c u.1 (among_right (names a) (names c) n) t q in
        subst (IsRowOf (div a c)) (ok_is _ _ e4 ∙ ok_is _ _ e3) (record {
          value = times h.value (inverse g.value);
          row = quotient_is w u.0 h.row g.row k;
          means = div_means f a c h.value g.value (divisor_worth c g.value lc g.means) h.means g.means;
        })

    pub rows_mean : (ts : Trees) → are_linear ts ≡ true → ((x : List ℕ) → Contains (names_of ts) x → Contains xs x) → (rs : List Side) → rows_of xs ts ≡ Ok rs → AreRowsOf ts rs
    rows_mean none l n rs e = subst (AreRowsOf none) (ok_is _ _ e) no_rows
    rows_mean (more t ts) l n rs e =
        let (lt, lts) = and_parts (is_linear t) (are_linear ts) l in
        let (s, p, e1) = both (row_of xs t) (λ r. and_then (rows_of xs ts) (λ rs. Ok (r ∷ rs))) rs e in
        let (ss, q, e2) = both (rows_of xs ts) (λ rs. Ok (s ∷ rs)) rs e1 in
        subst (AreRowsOf (more t ts)) (ok_is _ _ e2) (more_rows t ts s ss (row_means t lt (among_left (names t) (names_of ts) n) s p) (rows_mean ts lts (among_right (names t) (names_of ts) n) ss q))
