-- One name after another is eliminated, and the rows keep their solutions.
use Rattle.linear_solve.proofs.Shared.{◌≡◌, ◌≢◌, ◌<◌, ◌⊎◌, inl, inr, ℕ, zero, suc, ◌+◌, ◌-◌, List, [], ◌∷◌, ◌++◌, length, get_or, set, Bool, true, false, Option, Some, None, Result, Ok, refl, sym, ap}
use Rattle.linear_solve.proofs.Shared.{◌∙◌, subst, arith, add-one, position-Some, All, cases_eq, cases_lt, not-false, get_or_append_left, get_or_push, get_or_past, get_or_default, length_push}
use Rattle.linear_solve.proofs.Shared.{All-drop, All-set, All-get_or, prefix_len_passes, inverse_times_itself, times_zero, zero_is, no_zero, times_comm, times_assoc, one_times, zero_times}
use Rattle.linear_solve.proofs.Shared.{plus_negative, Fraction, plus, times, negative, inverse, is_zero_fraction, zero_fraction, one_fraction, Rows, cleared, cleared_pivot, first_with, others, row_at}
use Rattle.linear_solve.proofs.{Shared.{settled, settled_at, settled_up_to, Misfit, and_then, each, Row, entry, scaled, without, worth, times_one, plus_zero}, Arithmetic.{negative_zero}}
use Rattle.linear_solve.proofs.{Calculations.{both, each_at, each_long, each_forward, each_back, ok_is}, RowLists.{others_first, others_long, others_same}, Worths.{IsMultiple, IsCombined, scaled_is}}
use Rattle.linear_solve.proofs.Worths.{without_is, multiple_entry, combined_entries}
use Rattle.std.specs.Prelude.{if◌then◌else◌}

-- ---- pivots

abbrev pub pivot_at : ℕ → List (Option Row) → Option Row
pivot_at c ps = get_or ps c None

pub some_within : (c : ℕ) (ps : List (Option Row)) (r : Row) → pivot_at c ps ≡ Some r → c < length ps
some_within c ps r e = grind (arith, get_or_past)

-- one more pivot, or none
pushed : (ps : List (Option Row)) (x : Option Row) (n c : ℕ) (r : Row) → length ps ≡ n → pivot_at c (ps ++ x ∷ []) ≡ Some r
    → ((c < n) × (pivot_at c ps ≡ Some r)) ⊎ ((c ≡ n) × (x ≡ Some r))
pushed ps x n c r l e = elim (cases_lt c n) [
  | inl b ↦ inl (b, sym (get_or_append_left ps (x ∷ []) None c (omega arith)) ∙ e)
  | inr b ↦
      let m : c < length (ps ++ x ∷ []) = some_within c (ps ++ x ∷ []) r e in
      let k : c ≡ n = omega (arith, length_push ps x) in
      inr (k, sym (get_or_push ps x None c (l ∙ sym k)) ∙ e)
]

-- a row that was there before no pivot was added
unpushed : (ps : List (Option Row)) (n c : ℕ) (r : Row) → length ps ≡ n → pivot_at c (ps ++ None ∷ []) ≡ Some r → pivot_at c ps ≡ Some r
unpushed ps n c r l e = grind (arith, pushed)

push_below : (ps : List (Option Row)) (x : Option Row) (n c : ℕ) (r : Row) → length ps ≡ n → pivot_at c ps ≡ Some r → pivot_at c (ps ++ x ∷ []) ≡ Some r
push_below ps x n c r l e = get_or_append_left ps (x ∷ []) None c (some_within c ps r e) ∙ e

-- ---- the first row that has a name

pub none_has : (n : ℕ) (rs : List Row) → first_with n rs ≡ None → All (λ r. entry n r ≡ zero_fraction) rs
none_has n rs e k d l = grind (arith, zero_is, not-false, prefix_len_passes)

-- a row that has it
pub record HasName (n at : ℕ) (rs : List Row) : Type 0 where
  pub within : at < length rs
  pub has : entry n (row_at at rs) ≢ zero_fraction

pub first_has : (n at : ℕ) (rs : List Row) → first_with n rs ≡ Some at → HasName n at rs
first_has n at rs e = grind (arith, position-Some, no_zero)

-- ---- the first row and another change places, and the first is left out

others_all : (Q : Row → Type 0) (at : ℕ) (rs : List Row) → at < length rs → All Q rs → All Q (others at rs)
others_all Q at [] l h = absurd (omega arith)
others_all Q at (d ∷ ys) l h =
    All-drop Q 1 (set (set (d ∷ ys) 0 (get_or (d ∷ ys) at d)) at d)
    (All-set Q (set (d ∷ ys) 0 (get_or (d ∷ ys) at d)) at d (h 0 d (omega arith)) (All-set Q (d ∷ ys) 0 (get_or (d ∷ ys) at d) (h at d l) h))

all_others : (Q : Row → Type 0) (at : ℕ) (rs : List Row) → at < length rs → Q (row_at at rs) → All Q (others at rs) → All Q rs
all_others Q at rs l q h k d m = elim (cases_eq k at) [
  | inl e ↦ subst (λ i. Q (get_or rs i d)) (sym e) (subst Q (get_or_default rs at [] d l) q)
  | inr ne ↦ elim (cases_eq k 0) [
    | inl z ↦ subst (λ j. Q (get_or rs j d)) (sym z) (subst Q (others_first at (at - 1) rs d l (omega arith)) (h (at - 1) d (omega (arith, others_long at rs))))
    | inr nz ↦
        let back : k - 1 + 1 ≡ k = omega arith in
        subst Q (others_same at (k - 1) rs d l (λ e. ne (sym back ∙ e)) ∙ ap (λ j. get_or rs j d) back) (h (k - 1) d (omega (arith, others_long at rs)))
  ]
]

-- ---- a row without a name

cleared_is : (n : ℕ) (q r t : Row) → length r ≡ length q → cleared n q r ≡ Ok t → IsCombined (negative (entry n r)) r q t
cleared_is n q r t l e = by (is_zero_fraction (entry n r)) refl e
  where
    same : entry n r ≡ zero_fraction → IsCombined (negative (entry n r)) r q r
    same z = record {
      long = refl;
      value = λ vs. sym (ap (plus (worth r vs)) (ap (λ x. times x (worth q vs)) (ap negative z ∙ negative_zero) ∙ zero_times (worth q vs)) ∙ plus_zero (worth r vs));
    }

    by : (b : Bool) → is_zero_fraction (entry n r) ≡ b → (if b then Ok r else without (entry n r) q r) ≡ Ok t → IsCombined (negative (entry n r)) r q t
    by true z f = subst (IsCombined (negative (entry n r)) r q) (ok_is _ _ f) (same (zero_is (entry n r) z))
    by false z f = without_is (entry n r) r q t l f

-- a pivot: its entry for its name is 1, and it has no earlier name
pub record IsPivot (n width : ℕ) (q : Row) : Type 0 where
  pub wide : length q ≡ width
  pub one : entry n q ≡ one_fraction
  pub before : (j : ℕ) → j < n → entry j q ≡ zero_fraction

-- what is left of a row: its name is gone, the entries before are the same, and so is its worth where the pivot's is 0
record IsCleared (n width : ℕ) (q r t : Row) : Type 0 where
  wide : length t ≡ width
  gone : entry n t ≡ zero_fraction
  before : (j : ℕ) → j < n → entry j t ≡ entry j r
  value : (vs : List Fraction) → worth q vs ≡ zero_fraction → worth t vs ≡ worth r vs

nothing_more : (a k u : Fraction) → u ≡ zero_fraction → plus a (times k u) ≡ a
nothing_more a k u e = ap (λ x. plus a (times k x)) e ∙ ap (plus a) (times_zero k) ∙ plus_zero a

cleared_from : (n width : ℕ) (q r t : Row) → IsPivot n width q → length r ≡ width → cleared n q r ≡ Ok t → IsCleared n width q r t
cleared_from n width q r t p l e =
    let m = cleared_is n q r t (l ∙ sym p.wide) e in
    record {
      wide = m.long ∙ l;
      gone = combined_entries _ r q t n m ∙ ap (plus (entry n r)) (ap (times (negative (entry n r))) p.one ∙ times_one (negative (entry n r))) ∙ plus_negative (entry n r);
      before = λ j b. combined_entries _ r q t j m ∙ nothing_more (entry j r) (negative (entry n r)) (entry j q) (p.before j b);
      value = λ vs z. m.value vs ∙ nothing_more (worth r vs) (negative (entry n r)) (worth q vs) z;
    }

-- the pivots after it
cleared_back : (n : ℕ) (q : Row) (ps ts : List (Option Row)) (c : ℕ) (t : Row) → each (cleared_pivot n q) ps ≡ Ok ts → pivot_at c ts ≡ Some t
    → (r : Row) × (pivot_at c ps ≡ Some r) × (cleared n q r ≡ Ok t)
cleared_back n q ps ts c t e h =
    let l : c < length ps = omega (arith, some_within c ts t h, each_long (cleared_pivot n q) ps ts e) in
    by (pivot_at c ps) (each_at (cleared_pivot n q) ps ts c None None e l ∙ ap Ok h)
  where
    by : (o : Option Row) → cleared_pivot n q o ≡ Ok (Some t) → (r : Row) × (o ≡ Some r) × (cleared n q r ≡ Ok t)
    by None f = cc
    by (Some r) f = let (s, p, g) = both (cleared n q r) (λ s. Ok (Some s)) (Some t) f in (r, refl, p ∙ ap Ok (same s g))
      where
        same : (s : Row) → ◌≡◌ {A = Result (Option Row) Misfit} (Ok (Some s)) (Ok (Some t)) → s ≡ t
        same s g = cc

cleared_on : (n : ℕ) (q : Row) (ps ts : List (Option Row)) (c : ℕ) (r : Row) → each (cleared_pivot n q) ps ≡ Ok ts → pivot_at c ps ≡ Some r
    → (t : Row) × (pivot_at c ts ≡ Some t) × (cleared n q r ≡ Ok t)
cleared_on n q ps ts c r e h =
    by (pivot_at c ts) (sym (ap (cleared_pivot n q) h) ∙ each_at (cleared_pivot n q) ps ts c None None e (some_within c ps r h))
  where
    by : (o : Option Row) → and_then (cleared n q r) (λ s. Ok (Some s)) ≡ Ok o → (t : Row) × (o ≡ Some t) × (cleared n q r ≡ Ok t)
    by o f = let (s, p, g) = both (cleared n q r) (λ s. Ok (Some s)) o f in (s, sym (ok_is _ _ g), p)

-- ---- so many names are eliminated

pub record IsSettled (n width : ℕ) (s : Rows) : Type 0 where
  pub many : length s.pivots ≡ n
  pub left_wide : All (λ r. length r ≡ width) s.left
  pub left_clear : (j : ℕ) → j < n → All (λ r. entry j r ≡ zero_fraction) s.left
  pub pivots : (c : ℕ) (r : Row) → pivot_at c s.pivots ≡ Some r → IsPivot c width r
  pub apart : (c j : ℕ) (r q : Row) → pivot_at c s.pivots ≡ Some r → pivot_at j s.pivots ≡ Some q → j ≢ c → entry j r ≡ zero_fraction

-- each row is worth 0 at a point
pub record AreZero (vs : List Fraction) (s : Rows) : Type 0 where
  pub left : All (λ r. worth r vs ≡ zero_fraction) s.left
  pub pivots : (c : ℕ) (r : Row) → pivot_at c s.pivots ≡ Some r → worth r vs ≡ zero_fraction

-- rows that are worth 0 at the same points
pub record KeepsZeros (s t : Rows) : Type 0 where
  pub on : (vs : List Fraction) → AreZero vs s → AreZero vs t
  pub back : (vs : List Fraction) → AreZero vs t → AreZero vs s

-- no row has the name
none_settled : (n width : ℕ) (s : Rows) → IsSettled n width s → first_with n s.left ≡ None → IsSettled (n + 1) width (record s { pivots = s.pivots ++ None ∷ [] })
none_settled n width s h e = record {
  many = length_push s.pivots None ∙ ap (λ m. m + 1) h.many;
  left_wide = h.left_wide;
  left_clear = λ j l. elim (cases_eq j n) [ inl k ↦ subst (λ i. All (λ r. entry i r ≡ zero_fraction) s.left) (sym k) (none_has n s.left e) | inr k ↦ h.left_clear j (omega arith) ];
  pivots = λ c r p. h.pivots c r (unpushed s.pivots n c r h.many p);
  apart = λ c j r q p o. h.apart c j r q (unpushed s.pivots n c r h.many p) (unpushed s.pivots n j q h.many o);
}

none_keeps : (n : ℕ) (s : Rows) → length s.pivots ≡ n → KeepsZeros s (record s { pivots = s.pivots ++ None ∷ [] })
none_keeps n s l = record {
  on = λ vs z. record { left = z.left; pivots = λ c r p. z.pivots c r (unpushed s.pivots n c r l p) };
  back = λ vs z. record { left = z.left; pivots = λ c r p. z.pivots c r (push_below s.pivots None n c r l p) };
}

-- a row is the pivot
module _ (n width at : ℕ) (s : Rows) (q : Row) (ps : List (Option Row)) (rs : List Row) (h : IsSettled n width s) (o : HasName n at s.left)
    (made : scaled (inverse (entry n (row_at at s.left))) (row_at at s.left) ≡ Ok q) (up : each (cleared_pivot n q) s.pivots ≡ Ok ps) (down : each (cleared n q) (others at s.left) ≡ Ok rs) where
  pivot_multiple : IsMultiple (inverse (entry n (row_at at s.left))) (row_at at s.left) q
  pivot_multiple = scaled_is _ _ _ made

  new_pivot : IsPivot n width q
  new_pivot = record {
    wide = pivot_multiple.long ∙ All-get_or (λ r. length r ≡ width) s.left at [] o.within h.left_wide;
    one = multiple_entry _ (row_at at s.left) q n pivot_multiple ∙ inverse_times_itself _ o.has;
    before = λ j l. multiple_entry _ (row_at at s.left) q j pivot_multiple ∙ ap (times (inverse (entry n (row_at at s.left))))
        (All-get_or (λ r. entry j r ≡ zero_fraction) s.left at [] o.within (h.left_clear j l)) ∙ times_zero _;
  }

  others_wide : All (λ r. length r ≡ width) (others at s.left)
  others_wide = others_all (λ r. length r ≡ width) at s.left o.within h.left_wide

  by_settled : IsSettled (n + 1) width (record { pivots = ps ++ Some q ∷ []; left = rs })
  by_settled = record {
    many = length_push ps (Some q) ∙ ap (λ m. m + 1) long;
    left_wide = each_forward (cleared n q) (λ r. length r ≡ width) (λ r. length r ≡ width) (λ r t l e. (cleared_from n width q r t new_pivot l e).wide) (others at s.left) rs down others_wide;
    left_clear = λ j l. elim (cases_eq j n) [ inl k ↦ subst (λ i. All (λ r. entry i r ≡ zero_fraction) rs) (sym k) gone | inr k ↦ still j (omega arith) ];
    pivots = pivots;
    apart = apart;
  }
    where
      long : length ps ≡ n
      long = each_long (cleared_pivot n q) s.pivots ps up ∙ h.many

      gone : All (λ r. entry n r ≡ zero_fraction) rs
      gone = each_forward (cleared n q) (λ r. length r ≡ width) (λ r. entry n r ≡ zero_fraction) (λ r t l e. (cleared_from n width q r t new_pivot l e).gone) (others at s.left) rs down others_wide

      still : (j : ℕ) → j < n → All (λ r. entry j r ≡ zero_fraction) rs
      still j l = each_forward (cleared n q) (λ r. (length r ≡ width) × (entry j r ≡ zero_fraction)) (λ r. entry j r ≡ zero_fraction)
          (λ r t w e. (cleared_from n width q r t new_pivot w.0 e).before j l ∙ w.1) (others at s.left) rs down
          (λ k d b. (others_wide k d b, others_all (λ r. entry j r ≡ zero_fraction) at s.left o.within (h.left_clear j l) k d b))

      -- an old pivot, cleared
      old : (c : ℕ) (t : Row) → pivot_at c ps ≡ Some t → (r : Row) × (pivot_at c s.pivots ≡ Some r) × IsCleared n width q r t
      old c t p =
          let (r, a, e) = cleared_back n q s.pivots ps c t up p in
          (r, a, cleared_from n width q r t new_pivot (h.pivots c r a).wide e)

      pivots : (c : ℕ) (r : Row) → pivot_at c (ps ++ Some q ∷ []) ≡ Some r → IsPivot c width r
      pivots c t p = elim (pushed ps (Some q) n c t long p) [
        | inl x ↦
            let (r, a, k) = old c t x.1 in
            let u = h.pivots c r a in
            record { wide = k.wide; one = k.before c x.0 ∙ u.one; before = λ j l. k.before j (omega arith) ∙ u.before j l }
        | inr x ↦ let same : q ≡ t = cc in subst (λ i. IsPivot i width t) (sym x.0) (subst (IsPivot n width) same new_pivot)
      ]

      apart : (c j : ℕ) (r u : Row) → pivot_at c (ps ++ Some q ∷ []) ≡ Some r → pivot_at j (ps ++ Some q ∷ []) ≡ Some u → j ≢ c → entry j r ≡ zero_fraction
      apart c j t u p p' ne = elim (pushed ps (Some q) n c t long p) [
        | inl x ↦
            let (r, a, k) = old c t x.1 in
            elim (pushed ps (Some q) n j u long p') [
              | inl y ↦ let (v, b, m) = old j u y.1 in k.before j y.0 ∙ h.apart c j r v a b ne
              | inr y ↦ subst (λ i. entry i t ≡ zero_fraction) (sym y.0) k.gone
            ]
        | inr x ↦
            let same : q ≡ t = cc in
            elim (pushed ps (Some q) n j u long p') [
              | inl y ↦ subst (λ z. entry j z ≡ zero_fraction) same (new_pivot.before j y.0)
              | inr y ↦ absurd (ne (y.0 ∙ sym x.0))
            ]
      ]

  by_keeps : KeepsZeros s (record { pivots = ps ++ Some q ∷ []; left = rs })
  by_keeps = record { on = on; back = back }
    where
      long : length ps ≡ n
      long = each_long (cleared_pivot n q) s.pivots ps up ∙ h.many

      unscaled : (w : Fraction) → times (inverse (entry n (row_at at s.left))) w ≡ zero_fraction → w ≡ zero_fraction
      unscaled w e =
          let a : Fraction = entry n (row_at at s.left) in
          sym (one_times w) ∙ ap (λ x. times x w) (sym (times_comm a (inverse a) ∙ inverse_times_itself a o.has)) ∙ times_assoc a (inverse a) w ∙ ap (times a) e ∙ times_zero a

      on : (vs : List Fraction) → AreZero vs s → AreZero vs (record { pivots = ps ++ Some q ∷ []; left = rs })
      on vs z =
          let p0 : worth q vs ≡ zero_fraction = pivot_multiple.value vs ∙ ap (times (inverse (entry n (row_at at s.left))))
          (All-get_or (λ r. worth r vs ≡ zero_fraction) s.left at [] o.within z.left) ∙ times_zero _ in
          record {
            left = each_forward (cleared n q) (λ r. (length r ≡ width) × (worth r vs ≡ zero_fraction)) (λ r. worth r vs ≡ zero_fraction)
                (λ r t w e. (cleared_from n width q r t new_pivot w.0 e).value vs p0 ∙ w.1) (others at s.left) rs down
                (λ k d b. (others_wide k d b, others_all (λ r. worth r vs ≡ zero_fraction) at s.left o.within z.left k d b));
            pivots = λ c t p. elim (pushed ps (Some q) n c t long p) [
              | inl x ↦ let (r, a, e) = cleared_back n q s.pivots ps c t up x.1 in (cleared_from n width q r t new_pivot (h.pivots c r a).wide e).value vs p0 ∙ z.pivots c r a
              | inr x ↦ let same : q ≡ t = cc in subst (λ y. worth y vs ≡ zero_fraction) same p0
            ];
          }

      back : (vs : List Fraction) → AreZero vs (record { pivots = ps ++ Some q ∷ []; left = rs }) → AreZero vs s
      back vs z =
          let p0 : worth q vs ≡ zero_fraction = z.pivots n q (get_or_push ps (Some q) None n long) in
          let p1 : worth (row_at at s.left) vs ≡ zero_fraction = unscaled _ (sym (pivot_multiple.value vs) ∙ p0) in
          record {
            left = all_others (λ r. worth r vs ≡ zero_fraction) at s.left o.within p1
                (each_back (cleared n q) (λ r. worth r vs ≡ zero_fraction) (λ r. worth r vs ≡ zero_fraction) (λ r. length r ≡ width)
                (λ r t l e w. sym ((cleared_from n width q r t new_pivot l e).value vs p0) ∙ w) (others at s.left) rs down others_wide z.left);
            pivots = λ c r p.
                let (t, b, e) = cleared_on n q s.pivots ps c r up p in
                sym ((cleared_from n width q r t new_pivot (h.pivots c r p).wide e).value vs p0) ∙ z.pivots c t (push_below ps (Some q) n c t long b);
          }

-- ---- one name, and the first names

pub record IsStep (n width : ℕ) (s t : Rows) : Type 0 where
  pub settled : IsSettled n width t
  pub keeps : KeepsZeros s t

settled_step : (n width : ℕ) (s t : Rows) → IsSettled n width s → settled n s ≡ Ok t → IsStep (n + 1) width s t
settled_step n width s t h e = by (first_with n s.left) refl e
  where
    by : (at : Option ℕ) → first_with n s.left ≡ at → settled_at n at s ≡ Ok t → IsStep (n + 1) width s t
    by None f e = subst (IsStep (n + 1) width s) (ok_is _ _ e) (record { settled = none_settled n width s h f; keeps = none_keeps n s h.many })
    by (Some at) f e =
        let (q, a, e1) = both (scaled (inverse (entry n (row_at at s.left))) (row_at at s.left)) _ t e in
        let (ps, b, e2) = both (each (cleared_pivot n q) s.pivots) _ t e1 in
        let (rs, c, e3) = both (each (cleared n q) (others at s.left)) _ t e2 in
        let o = first_has n at s.left f in
        subst (IsStep (n + 1) width s) (ok_is _ _ e3) (record { settled = by_settled n width at s q ps rs h o a b c; keeps = by_keeps n width at s q ps rs h o a b c })

keeps_both : {s t u : Rows} → KeepsZeros s t → KeepsZeros t u → KeepsZeros s u
keeps_both a b = record { on = λ vs z. b.on vs (a.on vs z); back = λ vs z. a.back vs (b.back vs z) }

pub settled_all : (n width : ℕ) (s t : Rows) → IsSettled 0 width s → settled_up_to n s ≡ Ok t → IsStep n width s t
settled_all zero width s t h e = subst (IsStep 0 width s) (ok_is _ _ e) (record { settled = h; keeps = record { on = λ vs z. z; back = λ vs z. z } })
settled_all (suc n) width s t h e =
    let (u, p, q) = both (settled_up_to n s) (λ u. settled n u) t e in
    let a = settled_all n width s u h p in
    let b = settled_step n width u t a.settled q in
    record { settled = subst (λ m. IsSettled m width t) (add-one n) b.settled; keeps = keeps_both a.keeps b.keeps }
