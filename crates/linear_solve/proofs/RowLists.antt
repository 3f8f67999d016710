-- Lists of rows, and loops over them.
use Rattle.linear_solve.proofs.Shared.{zero-add, Option, ◌≡◌, ◌<◌, ◌≤◌, ℕ, zero, suc, ◌+◌, ◌-◌, Bool, cond, List, [], ◌∷◌, ◌++◌, length, get_or, map, Some, None, Ok, Err, refl, sym, ap, ◌∙◌, arith}
use Rattle.linear_solve.proofs.Shared.{length-drop, add-one, inl, inr, position, not, nat_lt, swap, ◌==◌, enumerate_from, length-enumerate_from, get_or-enumerate_from, form_of, forms_of, free}
use Rattle.linear_solve.proofs.Shared.{prefix_len, cases_eq, eq-eqb, ne_eqb, get_or-drop, get_or-map, get_or-replicate, length-map, map_push, length-swap, swapped_from_swap, one_fraction}
use Rattle.linear_solve.proofs.{Shared.{zero_fraction, Rows, others, settled, settled_up_to, unit, Misfit, Row, entry, entries_of}, Calculations.{then_err, then_ok}}
use Rattle.std.specs.Prelude.{if◌then◌else◌}
use Rattle.linear_solve.specs.declared.row.Row.{Row as RowOfCode}

prefix_len-map : {A B : Type 0} (q : B → Bool) (f : A → B) (xs : List A) → prefix_len q (map f xs) ≡ prefix_len (λ x. q (f x)) xs
prefix_len-map q f [] = refl
prefix_len-map q f (x ∷ xs) = ap (λ n. cond (q (f x)) (1 + n) 0) (prefix_len-map q f xs)

pub position-map : {A B : Type 0} (p : B → Bool) (f : A → B) (xs : List A) → position p (map f xs) ≡ position (λ x. p (f x)) xs
position-map p f xs =
    let n = prefix_len-map (λ x. not (p x)) f xs in
    λ i. cond (nat_lt (n i) (length-map xs f i)) (Some (n i)) None

-- one entry of a unit row
pub unit_entry : (n k i : ℕ) → i < n → entry i (unit n k) ≡ (if i == k then one_fraction else zero_fraction)
unit_entry zero k i l = absurd (omega arith)
unit_entry (suc n) zero zero l = refl
unit_entry (suc n) zero (suc i) l = get_or-replicate n i zero_fraction zero_fraction (omega arith) ∙ sym
    (ap (λ b. if b then one_fraction else zero_fraction) (ne_eqb (suc i) 0 (λ e. absurd (omega arith))))
unit_entry (suc n) (suc k) zero l = sym (ap (λ b. if b then one_fraction else zero_fraction) (ne_eqb 0 (suc k) (λ e. absurd (omega arith))))
unit_entry (suc n) (suc k) (suc i) l = unit_entry n k i (omega arith) ∙ ap (λ b. if b then one_fraction else zero_fraction) (shifted i k)
  where
    shifted : (i k : ℕ) → (i == k) ≡ (suc i == suc k)
    shifted i k = elim (cases_eq i k) [ inl e ↦ eq-eqb i k e ∙ sym (eq-eqb (suc i) (suc k) (omega arith)) | inr n ↦ ne_eqb i k n ∙ sym (ne_eqb (suc i) (suc k) (λ e. n (omega arith))) ]

-- the others, once the first row has the place of another
pub others_long : (at : ℕ) (rs : List Row) → length (others at rs) ≡ length rs - 1
others_long at rs = length-drop 1 (swap rs 0 at) ∙ ap (λ n. n - 1) (length-swap rs 0 at)

pub others_first : (at i : ℕ) (rs : List Row) (d : Row) → at < length rs → i + 1 ≡ at → get_or (others at rs) i d ≡ get_or rs 0 d
others_first at i rs d l e =
    let s = swapped_from_swap rs (swap rs 0 at) 0 at d (omega arith) l refl in
    let there : 1 + i ≡ at = omega arith in
    get_or-drop 1 (swap rs 0 at) i d ∙ ap (λ j. get_or (swap rs 0 at) j d) there ∙ s.1

pub others_same : (at i : ℕ) (rs : List Row) (d : Row) → at < length rs → (i + 1 ≡ at → ⊥) → get_or (others at rs) i d ≡ get_or rs (i + 1) d
others_same at i rs d l ne =
    let s = swapped_from_swap rs (swap rs 0 at) 0 at d (omega arith) l refl in
    let there : 1 + i ≡ i + 1 = omega arith in
    get_or-drop 1 (swap rs 0 at) i d ∙ s.2 (1 + i) (λ e. absurd (omega arith)) (λ e. ne (sym there ∙ e)) ∙ ap (λ j. get_or rs j d) there

-- the row that is read for a place among the others
pub other_row : {limit : ℕ} (at place other : ℕ) (rows : List (RowOfCode limit)) (r : RowOfCode limit) (d : Row) → 1 ≤ place → place < length rows → at < length rows
    → other ≡ (if place == at then 0 else place) → r ≡ get_or rows other r → get_or (others at (map entries_of rows)) (place - 1) d ≡ entries_of r
other_row at place other rows r d one l k o e =
    let i : ℕ = place - 1 in
    let back : (place - 1) + 1 ≡ place = omega arith in
    let inside : at < length (map entries_of rows) = omega (arith, length-map rows entries_of) in
    elim (cases_eq place at) [
      | inl same ↦
          let z : other ≡ 0 = o ∙ ap (λ b. if b then 0 else place) (eq-eqb place at same) in
          others_first at (place - 1) (map entries_of rows) d inside (back ∙ same) ∙ get_or-map entries_of rows 0 r d (omega arith) ∙ ap (λ j. entries_of (get_or rows j r)) (sym z)
          ∙ ap entries_of (sym e)
      | inr apart ↦
          let z : other ≡ place = o ∙ ap (λ b. if b then 0 else place) (ne_eqb place at apart) in
          others_same at (place - 1) (map entries_of rows) d inside (λ q. apart (sym back ∙ q)) ∙ ap (λ j. get_or (map entries_of rows) j d) back
          ∙ get_or-map entries_of rows place r d l ∙ ap (λ j. entries_of (get_or rows j r)) (sym z) ∙ ap entries_of (sym e)
    ]

-- what is read at a place
pub read_row : {A : Type 0} {B : Type 0} (f : A → B) (xs : List A) (i : ℕ) (x : A) (d : B) → i < length xs → x ≡ get_or xs i x → get_or (map f xs) i d ≡ f x
read_row f xs i x d l e = get_or-map f xs i x d l ∙ ap f (sym e)

pub mapped_push : {A : Type 0} {B : Type 0} (f : A → B) (new old : List A) (x : A) → new ≡ old ++ x ∷ [] → map f new ≡ map f old ++ f x ∷ []
mapped_push f new old x e = ap (map f) e ∙ map_push f old x

-- elimination that stops
pub settled_stops : (k n : ℕ) (s t : Rows) (m : Misfit) → settled_up_to n s ≡ Ok t → settled n t ≡ Err m → n < k → settled_up_to k s ≡ Err m
settled_stops zero n s t m e h l = absurd (omega arith)
settled_stops (suc k) n s t m e h l = elim (cases_eq k n) [
  | inl same ↦ then_ok (settled_up_to k s) (λ u. settled k u) t (ap (λ j. settled_up_to j s) same ∙ e) ∙ ap (λ j. settled j t) same ∙ h
  | inr apart ↦ then_err (settled_up_to k s) (λ u. settled k u) m (settled_stops k n s t m e h (omega arith))
]

pub settled_next : (n : ℕ) (s t u : Rows) → settled_up_to n s ≡ Ok t → settled n t ≡ Ok u → settled_up_to (n + 1) s ≡ Ok u
settled_next n s t u e h = ap (λ j. settled_up_to j s) (add-one n) ∙ then_ok (settled_up_to n s) (λ v. settled n v) t e ∙ h

-- ---- forms

pub forms_long : (n : ℕ) (ps : List (Option Row)) → length (forms_of n ps) ≡ length ps
forms_long n ps = length-map (enumerate_from 0 ps) _ ∙ length-enumerate_from 0 ps

pub form_at : (n c : ℕ) (ps : List (Option Row)) → c < length ps → get_or (forms_of n ps) c free ≡ form_of n c (get_or ps c None)
form_at n c ps l =
    get_or-map (λ (p : ℕ × Option Row). form_of n p.0 p.1) (enumerate_from 0 ps) c (0, None) free (omega (arith, length-enumerate_from 0 ps))
    ∙ ap (λ (p : ℕ × Option Row). form_of n p.0 p.1) (get_or-enumerate_from 0 ps c (0, None) l ∙ (λ i. (zero-add c i, get_or ps c None)))
