-- What the grammar allows is read, so it has one tree.
use Rattle.calc_language.proofs.Shared.{ℕ, suc, ◌+◌, ◌≡◌, List, [], ◌∷◌, ◌++◌, Bool, true, false, Some, refl, ap, ◌∙◌, arith, append_assoc, SoFar, single, as_tree, plus_term, minus_term, times_factor}
use Rattle.calc_language.proofs.Shared.{over_factor, joined_tree, joins, Sum, first_term, plus_more, minus_more, Signed, minus_signed, plain_signed, Product, first_factor, times_more, over_more}
use Rattle.calc_language.proofs.Shared.{Right, minus_right, plain_right, Joined, one_power, another_power, Power, plain_power, raised_power, Exponent, minus_exponent, plain_exponent, Primary}
use Rattle.calc_language.proofs.Shared.{a_literal, a_name, an_undef, parenthesized, a_root, name, Token, literal, undef_mark, root_mark, plus_mark, minus_mark, times_mark, slash_mark, caret_mark}
use Rattle.calc_language.proofs.{Shared.{left_mark, right_mark, Tree, power, root, neg, Trees, none, more, append}, Reader.{Read, andthen, closed, sum_at, terms_at, signed_at, product_at, factors_at}}
use Rattle.calc_language.proofs.{Reader.{right_at, joined_at, powers_at, power_at, raise_at, exponent_at, primary_at}, ReaderSteps.{More, mono, raised_to, one_answer}}

-- what may come behind
abbrev pub ends_power : List Token → Bool
ends_power (caret_mark ∷ ts) = false
ends_power _ = true

abbrev pub ends_joined : List Token → Bool
ends_joined (caret_mark ∷ ts) = false
ends_joined (name x ∷ ts) = false
ends_joined (undef_mark ∷ ts) = false
ends_joined (left_mark ∷ ts) = false
ends_joined (root_mark ∷ ts) = false
ends_joined _ = true

abbrev pub ends_product : List Token → Bool
ends_product (times_mark ∷ ts) = false
ends_product (slash_mark ∷ ts) = false
ends_product ts = ends_joined ts

abbrev pub ends_sum : List Token → Bool
ends_sum (plus_mark ∷ ts) = false
ends_sum (minus_mark ∷ ts) = false
ends_sum ts = ends_product ts

joined_power : (ts : List Token) → ends_joined ts ≡ true → ends_power ts ≡ true
joined_power (caret_mark ∷ ts) e = e
joined_power _ e = refl

product_joined : (ts : List Token) → ends_product ts ≡ true → ends_joined ts ≡ true
product_joined (times_mark ∷ ts) e = refl
product_joined (slash_mark ∷ ts) e = refl
product_joined _ e = e

joins_power : (b c : List Token) → joins b ≡ true → ends_power (b ++ c) ≡ true
joins_power (caret_mark ∷ b) c e = cc
joins_power [] c e = cc
joins_power _ c e = refl

pub joins_before : (b c : List Token) → joins b ≡ true → joins (b ++ c) ≡ true
joins_before [] c e = cc
joins_before (name x ∷ b) c e = refl
joins_before _ c e = e

-- the first token of a power
abbrev pub begins : List Token → Bool
begins (literal q ∷ ts) = true
begins ts = joins ts

primary_begins : {a : List Token} {t : Tree} → Primary a t → (c : List Token) → begins (a ++ c) ≡ true
primary_begins a_literal c = refl
primary_begins a_name c = refl
primary_begins an_undef c = refl
primary_begins (parenthesized d) c = refl
primary_begins (a_root d) c = refl

pub power_begins : {a : List Token} {t : Tree} → Power a t → (c : List Token) → begins (a ++ c) ≡ true
power_begins (plain_power d) c = primary_begins d c
power_begins (raised_power {a} {b} d e) c = rw append_assoc (primary_begins d (caret_mark ∷ b ++ c))

powers_begins : {a : List Token} {ts : Trees} → Joined a ts → (c : List Token) → begins (a ++ c) ≡ true
powers_begins (one_power d) c = power_begins d c
powers_begins (another_power {a} {b} d e h) c = rw append_assoc (powers_begins d (b ++ c))

product_begins : {a : List Token} {s : SoFar} → Product a s → (c : List Token) → begins (a ++ c) ≡ true
product_begins (first_factor d) c = powers_begins d c
product_begins (times_more {a} {b} d e) c = rw append_assoc (product_begins d (times_mark ∷ b ++ c))
product_begins (over_more {a} {b} d e) c = rw append_assoc (product_begins d (slash_mark ∷ b ++ c))

signed_plain : (k : ℕ) (ts : List Token) → begins ts ≡ true → signed_at (suc k) ts ≡ andthen (product_at k ts) (λ s r. Some (as_tree s, r))
unfolding sum_at
signed_plain k (minus_mark ∷ ts) e = cc
signed_plain k _ e = refl

right_plain : (k : ℕ) (ts : List Token) → begins ts ≡ true → right_at (suc k) ts ≡ joined_at k ts
unfolding sum_at
right_plain k (minus_mark ∷ ts) e = cc
right_plain k _ e = refl

exponent_plain : (k : ℕ) (ts : List Token) → begins ts ≡ true → exponent_at (suc k) ts ≡ power_at k ts
unfolding sum_at
exponent_plain k (minus_mark ∷ ts) e = cc
exponent_plain k _ e = refl

pub terms_end : (s : SoFar) (ts : List Token) → ends_sum ts ≡ true → terms_at 1 s ts ≡ Some (s, ts)
unfolding sum_at
terms_end s (plus_mark ∷ ts) e = cc
terms_end s (minus_mark ∷ ts) e = cc
terms_end s _ e = refl

factors_end : (s : SoFar) (ts : List Token) → ends_product ts ≡ true → factors_at 1 s ts ≡ Some (s, ts)
unfolding sum_at
factors_end s (times_mark ∷ ts) e = cc
factors_end s (slash_mark ∷ ts) e = cc
factors_end s _ e = refl

powers_end : (d : Trees) (ts : List Token) → ends_joined ts ≡ true → powers_at 1 d ts ≡ Some (joined_tree d, ts)
unfolding sum_at
powers_end d (name x ∷ ts) e = cc
powers_end d (undef_mark ∷ ts) e = cc
powers_end d (left_mark ∷ ts) e = cc
powers_end d (root_mark ∷ ts) e = cc
powers_end d _ e = refl

pub powers_on : (k : ℕ) (d : Trees) (ts : List Token) → joins ts ≡ true → powers_at (suc k) d ts ≡ andthen (power_at k ts) (λ u r. powers_at k (append d (more u none)) r)
unfolding sum_at
powers_on k d (name x ∷ ts) e = refl
powers_on k d (undef_mark ∷ ts) e = refl
powers_on k d (left_mark ∷ ts) e = refl
powers_on k d (root_mark ∷ ts) e = refl
powers_on k d _ e = cc

raise_end : (t : Tree) (ts : List Token) → ends_power ts ≡ true → raise_at 1 t ts ≡ Some (t, ts)
unfolding sum_at
raise_end t (caret_mark ∷ ts) e = cc
raise_end t _ e = refl

abbrev pub Reads_at : {A : Type 0} → (ℕ → Read A) → A × List Token → Type 0
Reads_at p y = (k : ℕ) × (p k ≡ Some y)

-- one reader after another
in_turn : {A B : Type 0} (p : ℕ → Read A) (q : ℕ → A → List Token → Read B)
    → ((k : ℕ) → More (p k) (p (suc k))) → ((k : ℕ) (x : A) (ts : List Token) → More (q k x ts) (q (suc k) x ts))
    → (x : A) (r : List Token) (y : B × List Token) → Reads_at p (x, r) → Reads_at (λ k. q k x r) y
    → (k : ℕ) × (andthen (p k) (q k) ≡ Some y)
in_turn p q hp hq x r y (k, e) (n, f) =
    let a : p (n + k) ≡ Some (x, r) = raised_to p hp k n (x, r) e in
    let b : q (k + n) x r ≡ Some y = raised_to (λ k. q k x r) (λ k. hq k x r) n k y f in
    (n + k, rw a (ap (λ j. q j x r) (omega arith) ∙ b))

-- one reader, and then a wrapper
wrapped : {A B : Type 0} (p : ℕ → Read A) (f : A → List Token → Read B) (x : A) (r : List Token) → Reads_at p (x, r) → (k : ℕ) × (andthen (p k) f ≡ f x r)
wrapped p f x r (k, e) = (k, rw e refl)

mutual
  unfolding sum_at

  pub sum_reads : {a : List Token} {s : SoFar} → Sum a s → (c : List Token) (y : SoFar × List Token) → ends_product c ≡ true → Reads_at (λ k. terms_at k s c) y → Reads_at (λ k. sum_at k (a ++ c)) y
  sum_reads (first_term {a} {t} d) c y e f =
      let (k, g) = in_turn (λ k. signed_at k (a ++ c)) (λ k t r. terms_at k (single t) r) (λ k. (mono k).signed (a ++ c)) (λ k t r. (mono k).terms (single t) r) t c y (signed_reads d c e) f in
      (suc k, g)
  sum_reads (plus_more {a} {b} {s} {u} d d') c y e f =
      let (k, g) = in_turn (λ k. signed_at k (b ++ c)) (λ k u r. terms_at k (plus_term s u) r) (λ k. (mono k).signed (b ++ c)) (λ k u r. (mono k).terms (plus_term s u) r) u c y (signed_reads d' c e) f in
      rw append_assoc (sum_reads d (plus_mark ∷ b ++ c) y refl (suc k, g))
  sum_reads (minus_more {a} {b} {s} {u} d d') c y e f =
      let (k, g) = in_turn (λ k. signed_at k (b ++ c)) (λ k u r. terms_at k (minus_term s u) r) (λ k. (mono k).signed (b ++ c)) (λ k u r. (mono k).terms (minus_term s u) r) u c y (signed_reads d' c e) f in
      rw append_assoc (sum_reads d (minus_mark ∷ b ++ c) y refl (suc k, g))

  signed_reads : {a : List Token} {t : Tree} → Signed a t → (c : List Token) → ends_product c ≡ true → Reads_at (λ k. signed_at k (a ++ c)) (t, c)
  signed_reads (minus_signed {a} {t} d) c e =
      let (k, g) = wrapped (λ k. signed_at k (a ++ c)) (λ t r. Some (neg t, r)) t c (signed_reads d c e) in (suc k, g)
  signed_reads (plain_signed {a} {s} d) c e =
      let (k, g) = wrapped (λ k. product_at k (a ++ c)) (λ s r. Some (as_tree s, r)) s c (product_reads d c (s, c) (product_joined c e) (1, factors_end s c e)) in
      (suc k, signed_plain k (a ++ c) (product_begins d c) ∙ g)

  product_reads : {a : List Token} {s : SoFar} → Product a s → (c : List Token) (y : SoFar × List Token) → ends_joined c ≡ true → Reads_at (λ k. factors_at k s c) y → Reads_at (λ k. product_at k (a ++ c)) y
  product_reads (first_factor {a} {ts} d) c y e f =
      let (k, g) = in_turn (λ k. joined_at k (a ++ c)) (λ k t r. factors_at k (single t) r) (λ k. (mono k).joined (a ++ c)) (λ k t r. (mono k).factors (single t) r) (joined_tree ts) c y
      (powers_reads d c (joined_tree ts, c) (joined_power c e) (1, powers_end ts c e)) f in
      (suc k, g)
  product_reads (times_more {a} {b} {s} {u} d d') c y e f =
      let (k, g) = in_turn (λ k. right_at k (b ++ c)) (λ k u r. factors_at k (times_factor s u) r) (λ k. (mono k).right (b ++ c)) (λ k u r. (mono k).factors (times_factor s u) r) u c y (right_reads d' c e) f in
      rw append_assoc (product_reads d (times_mark ∷ b ++ c) y refl (suc k, g))
  product_reads (over_more {a} {b} {s} {u} d d') c y e f =
      let (k, g) = in_turn (λ k. right_at k (b ++ c)) (λ k u r. factors_at k (over_factor s u) r) (λ k. (mono k).right (b ++ c)) (λ k u r. (mono k).factors (over_factor s u) r) u c y (right_reads d' c e) f in
      rw append_assoc (product_reads d (slash_mark ∷ b ++ c) y refl (suc k, g))

  right_reads : {a : List Token} {t : Tree} → Right a t → (c : List Token) → ends_joined c ≡ true → Reads_at (λ k. right_at k (a ++ c)) (t, c)
  right_reads (minus_right {a} {t} d) c e =
      let (k, g) = wrapped (λ k. right_at k (a ++ c)) (λ t r. Some (neg t, r)) t c (right_reads d c e) in (suc k, g)
  right_reads (plain_right {a} {ts} d) c e =
      let (k, g) = powers_reads d c (joined_tree ts, c) (joined_power c e) (1, powers_end ts c e) in
      (suc k, right_plain k (a ++ c) (powers_begins d c) ∙ g)

  powers_reads : {a : List Token} {ts : Trees} → Joined a ts → (c : List Token) (y : Tree × List Token) → ends_power c ≡ true → Reads_at (λ k. powers_at k ts c) y → Reads_at (λ k. joined_at k (a ++ c)) y
  powers_reads (one_power {a} {t} d) c y e f =
      let (k, g) = in_turn (λ k. power_at k (a ++ c)) (λ k t r. powers_at k (more t none) r) (λ k. (mono k).power (a ++ c)) (λ k t r. (mono k).powers (more t none) r) t c y (power_reads d c e) f in
      (suc k, g)
  powers_reads (another_power {a} {b} {ts} {u} d d' h) c y e f =
      let (k, g) = in_turn (λ k. power_at k (b ++ c)) (λ k u r. powers_at k (append ts (more u none)) r) (λ k. (mono k).power (b ++ c)) (λ k u r. (mono k).powers (append ts (more u none)) r) u c y (power_reads d' c e) f in
      rw append_assoc (powers_reads d (b ++ c) y (joins_power b c h) (suc k, powers_on k ts (b ++ c) (joins_before b c h) ∙ g))

  power_reads : {a : List Token} {t : Tree} → Power a t → (c : List Token) → ends_power c ≡ true → Reads_at (λ k. power_at k (a ++ c)) (t, c)
  power_reads (plain_power {a} {t} d) c e =
      let (k, g) = in_turn (λ k. primary_at k (a ++ c)) (λ k t r. raise_at k t r) (λ k. (mono k).primary (a ++ c)) (λ k t r. (mono k).raise t r) t c (t, c) (primary_reads d c) (1, raise_end t c e) in
      (suc k, g)
  power_reads (raised_power {a} {b} {t} {e = x} d d') c e =
      let (n, h) = wrapped (λ k. exponent_at k (b ++ c)) (λ x r. Some (power t x, r)) x c (exponent_reads d' c e) in
      let (k, g) = in_turn (λ k. primary_at k (a ++ (caret_mark ∷ b ++ c))) (λ k t r. raise_at k t r) (λ k. (mono k).primary (a ++ (caret_mark ∷ b ++ c))) (λ k t r. (mono k).raise t r) t (caret_mark ∷ b ++ c) (power t x, c)
      (primary_reads d (caret_mark ∷ b ++ c)) (suc n, h) in
      rw append_assoc (suc k, g)

  exponent_reads : {a : List Token} {t : Tree} → Exponent a t → (c : List Token) → ends_power c ≡ true → Reads_at (λ k. exponent_at k (a ++ c)) (t, c)
  exponent_reads (minus_exponent {a} {t} d) c e =
      let (k, g) = wrapped (λ k. exponent_at k (a ++ c)) (λ t r. Some (neg t, r)) t c (exponent_reads d c e) in (suc k, g)
  exponent_reads (plain_exponent {a} {t} d) c e =
      let (k, g) = power_reads d c e in (suc k, exponent_plain k (a ++ c) (power_begins d c) ∙ g)

  primary_reads : {a : List Token} {t : Tree} → Primary a t → (c : List Token) → Reads_at (λ k. primary_at k (a ++ c)) (t, c)
  primary_reads a_literal c = (1, refl)
  primary_reads a_name c = (1, refl)
  primary_reads an_undef c = (1, refl)
  primary_reads (parenthesized {a} {s} d) c =
      let (k, g) = wrapped (λ k. sum_at k (a ++ right_mark ∷ c)) (λ s r. closed (as_tree s) r) s (right_mark ∷ c) (sum_reads d (right_mark ∷ c) (s, right_mark ∷ c) refl (1, terms_end s (right_mark ∷ c) refl)) in
      rw append_assoc (suc k, g)
  primary_reads (a_root {a} {s} d) c =
      let (k, g) = wrapped (λ k. sum_at k (a ++ right_mark ∷ c)) (λ s r. closed (root (as_tree s)) r) s (right_mark ∷ c) (sum_reads d (right_mark ∷ c) (s, right_mark ∷ c) refl (1, terms_end s (right_mark ∷ c) refl)) in
      rw append_assoc (suc k, g)

pub one_sum : {a : List Token} {s s' : SoFar} → Sum a s → Sum a s' → s ≡ s'
one_sum {a} {s} {s'} d d' =
    let (k, e) = sum_reads d [] (s, []) refl (1, terms_end s [] refl) in
    let (n, f) = sum_reads d' [] (s', []) refl (1, terms_end s' [] refl) in
    ap (λ y. y.0) (one_answer (λ k. sum_at k (a ++ [])) (λ k. (mono k).sum (a ++ [])) k n (s, []) (s', []) e f)
