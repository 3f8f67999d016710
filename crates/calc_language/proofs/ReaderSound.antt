-- What is read is in the grammar.
use Rattle.calc_language.proofs.Shared.{ℕ, zero, suc, ◌≡◌, List, [], ◌∷◌, ◌++◌, Bool, true, false, Some, None, arith, refl, sym, ap, ◌∙◌, subst, append_assoc, append-nil}
use Rattle.calc_language.proofs.Shared.{SoFar, single, as_tree, plus_term, minus_term, times_factor, over_factor, joined_tree, joins, Sum, first_term, plus_more, minus_more, Signed}
use Rattle.calc_language.proofs.Shared.{minus_signed, plain_signed, Product, first_factor, times_more, over_more, Right, minus_right, plain_right, Joined, one_power, another_power, Power}
use Rattle.calc_language.proofs.Shared.{plain_power, raised_power, Exponent, minus_exponent, plain_exponent, Primary, a_literal, a_name, an_undef, parenthesized, a_root, name, Token, literal}
use Rattle.calc_language.proofs.Shared.{undef_mark, root_mark, plus_mark, minus_mark, times_mark, slash_mark, caret_mark, left_mark, right_mark, Tree, num, symbol, undef, power, root, neg}
use Rattle.calc_language.proofs.{Shared.{Trees, none, more, append}, Reader.{Read, andthen, closed, sum_at, terms_at, signed_at, product_at, factors_at, right_at, joined_at, powers_at, power_at}}
use Rattle.calc_language.proofs.{Reader.{raise_at, exponent_at, primary_at}, ReaderComplete.{begins, power_begins, powers_on}}

-- a front of the tokens is of this kind
pub record Took {A : Type 0} (P : List Token → A → Type 0) (ts : List Token) (y : A × List Token) : Type 0 where
  pub front : List Token
  pub split : ts ≡ front ++ y.1
  pub kind : P front y.0

-- with a before it
pub record TookAfter {A : Type 0} (P : List Token → A → Type 0) (a ts : List Token) (y : A × List Token) : Type 0 where
  pub front : List Token
  pub split : ts ≡ front ++ y.1
  pub kind : P (a ++ front) y.0

abbrev pub JoinedTree : List Token → Tree → Type 0
JoinedTree a t = (d : Trees) × Joined a d × (joined_tree d ≡ t)

andthen_some : {A B : Type 0} (r : Read A) (f : A → List Token → Read B) (y : B × List Token) → andthen r f ≡ Some y → (p : A × List Token) × (r ≡ Some p) × (f p.0 p.1 ≡ Some y)
andthen_some None f y e = cc
andthen_some (Some p) f y e = (p, refl, e)

pub some_is : {A : Type 0} (x y : A) → Some x ≡ Some y → x ≡ y
some_is x y e = cc

nothing_more : {A : Type 0} (P : List Token → A → Type 0) (a ts : List Token) (s : A) (y : A × List Token) → P a s → Some (s, ts) ≡ Some y → TookAfter P a ts y
nothing_more P a ts s y d e =
    let q : (s, ts) ≡ y = some_is (s, ts) y e in
    subst (λ z. TookAfter P a ts z) q (record { front = []; split = refl; kind = rw append-nil d })

pub record Sound (k : ℕ) : Type 0 where
  pub sum : (ts : List Token) (y : SoFar × List Token) → sum_at k ts ≡ Some y → Took Sum ts y
  pub terms : (s : SoFar) (ts : List Token) (y : SoFar × List Token) → terms_at k s ts ≡ Some y → (a : List Token) → Sum a s → TookAfter Sum a ts y
  pub signed : (ts : List Token) (y : Tree × List Token) → signed_at k ts ≡ Some y → Took Signed ts y
  pub product : (ts : List Token) (y : SoFar × List Token) → product_at k ts ≡ Some y → Took Product ts y
  pub factors : (s : SoFar) (ts : List Token) (y : SoFar × List Token) → factors_at k s ts ≡ Some y → (a : List Token) → Product a s → TookAfter Product a ts y
  pub right : (ts : List Token) (y : Tree × List Token) → right_at k ts ≡ Some y → Took Right ts y
  pub joined : (ts : List Token) (y : Tree × List Token) → joined_at k ts ≡ Some y → Took JoinedTree ts y
  pub powers : (d : Trees) (ts : List Token) (y : Tree × List Token) → powers_at k d ts ≡ Some y → (a : List Token) → Joined a d → TookAfter JoinedTree a ts y
  pub power : (ts : List Token) (y : Tree × List Token) → power_at k ts ≡ Some y → Took Power ts y
  pub raise : (t : Tree) (ts : List Token) (y : Tree × List Token) → raise_at k t ts ≡ Some y → (a : List Token) → Primary a t → TookAfter Power a ts y
  pub exponent : (ts : List Token) (y : Tree × List Token) → exponent_at k ts ≡ Some y → Took Exponent ts y
  pub primary : (ts : List Token) (y : Tree × List Token) → primary_at k ts ≡ Some y → Took Primary ts y

split_further : (ts a b r r' : List Token) → ts ≡ a ++ r → r ≡ b ++ r' → ts ≡ (a ++ b) ++ r'
split_further ts a b r r' e f = e ∙ ap (λ z. a ++ z) f ∙ sym (append_assoc a b r')

-- a part, and then more of the same
chained : {A B : Type 0} (P : List Token → A → Type 0) (Q : List Token → B → Type 0) (ts : List Token) (p : A × List Token) (y : B × List Token)
    → Took P ts p → ((a : List Token) → P a p.0 → TookAfter Q a p.1 y) → Took Q ts y
chained P Q ts p y h f =
    let n = f h.front h.kind in
    record { front = h.front ++ n.front; split = split_further ts h.front n.front p.1 y.1 h.split n.split; kind = n.kind }

-- a mark, a part, and then more of the same
chained_mark : {A B : Type 0} (P : List Token → A → Type 0) (Q : List Token → B → Type 0) (m : Token) (a ts : List Token) (p : A × List Token) (y : B × List Token)
    → Took P ts p → ((b : List Token) → P b p.0 → TookAfter Q (a ++ m ∷ b) p.1 y) → TookAfter Q a (m ∷ ts) y
chained_mark P Q m a ts p y h f = grind (arith, append_assoc)

-- a mark before it, and a node round it
mark_before : {A B : Type 0} (P : List Token → A → Type 0) (Q : List Token → B → Type 0) (m : Token) (node : A → B) → ((a : List Token) (x : A) → P a x → Q (m ∷ a) (node x))
    → (ts : List Token) (p : A × List Token) (y : B × List Token) → Took P ts p → Some (node p.0, p.1) ≡ Some y → Took Q (m ∷ ts) y
mark_before P Q m node f ts p y h e =
    subst (λ z. Took Q (m ∷ ts) z) (some_is (node p.0, p.1) y e) (record { front = m ∷ h.front; split = ap (λ r. m ∷ r) h.split; kind = f h.front p.0 h.kind })

node_round : {A B : Type 0} (P : List Token → A → Type 0) (Q : List Token → B → Type 0) (node : A → B) → ((a : List Token) (x : A) → P a x → Q a (node x))
    → (ts : List Token) (p : A × List Token) (y : B × List Token) → Took P ts p → Some (node p.0, p.1) ≡ Some y → Took Q ts y
node_round P Q node f ts p y h e = grind arith

joins_front : (b c : List Token) → begins b ≡ true → joins (b ++ c) ≡ joins b
joins_front b c e = grind arith

front_joins : (front rest ts : List Token) → begins front ≡ true → ts ≡ front ++ rest → joins ts ≡ true → joins front ≡ true
front_joins front rest ts b e j = sym (joins_front front rest b) ∙ sym (ap joins e) ∙ j

regrouped : (a b c : List Token) (t : Tree) → JoinedTree ((a ++ b) ++ c) t → JoinedTree (a ++ (b ++ c)) t
regrouped a b c t d = subst (λ z. JoinedTree z t) (append_assoc a b c) d

powers_off : (k : ℕ) (d : Trees) (ts : List Token) → joins ts ≡ false → powers_at (suc k) d ts ≡ Some (joined_tree d, ts)
unfolding sum_at
powers_off k d ts e = grind arith

module _ (k : ℕ) (h : Sound k) where
  terms_sound : (s : SoFar) (ts : List Token) (y : SoFar × List Token) → terms_at (suc k) s ts ≡ Some y → (a : List Token) → Sum a s → TookAfter Sum a ts y
  unfolding sum_at
  terms_sound s (plus_mark ∷ ts) y e a d =
      let (p, q, r) = andthen_some (signed_at k ts) _ y e in
      chained_mark Signed Sum plus_mark a ts p y (h.signed ts p q) (λ b d'. h.terms (plus_term s p.0) p.1 y r (a ++ plus_mark ∷ b) (plus_more d d'))
  terms_sound s (minus_mark ∷ ts) y e a d =
      let (p, q, r) = andthen_some (signed_at k ts) _ y e in
      chained_mark Signed Sum minus_mark a ts p y (h.signed ts p q) (λ b d'. h.terms (minus_term s p.0) p.1 y r (a ++ minus_mark ∷ b) (minus_more d d'))
  terms_sound s ts y e a d = nothing_more Sum a ts s y d e

  factors_sound : (s : SoFar) (ts : List Token) (y : SoFar × List Token) → factors_at (suc k) s ts ≡ Some y → (a : List Token) → Product a s → TookAfter Product a ts y
  unfolding sum_at
  factors_sound s (times_mark ∷ ts) y e a d =
      let (p, q, r) = andthen_some (right_at k ts) _ y e in
      chained_mark Right Product times_mark a ts p y (h.right ts p q) (λ b d'. h.factors (times_factor s p.0) p.1 y r (a ++ times_mark ∷ b) (times_more d d'))
  factors_sound s (slash_mark ∷ ts) y e a d =
      let (p, q, r) = andthen_some (right_at k ts) _ y e in
      chained_mark Right Product slash_mark a ts p y (h.right ts p q) (λ b d'. h.factors (over_factor s p.0) p.1 y r (a ++ slash_mark ∷ b) (over_more d d'))
  factors_sound s ts y e a d = nothing_more Product a ts s y d e

  signed_sound : (ts : List Token) (y : Tree × List Token) → signed_at (suc k) ts ≡ Some y → Took Signed ts y
  unfolding sum_at
  signed_sound (minus_mark ∷ ts) y e =
      let (p, q, r) = andthen_some (signed_at k ts) _ y e in mark_before Signed Signed minus_mark neg (λ a t d. minus_signed d) ts p y (h.signed ts p q) r
  signed_sound ts y e =
      let (p, q, r) = andthen_some (product_at k ts) _ y e in node_round Product Signed as_tree (λ a s d. plain_signed d) ts p y (h.product ts p q) r

  from_joined : (ts : List Token) (y : Tree × List Token) → joined_at k ts ≡ Some y → Took Right ts y
  from_joined ts y e =
      let j = h.joined ts y e in
      record { front = j.front; split = j.split; kind = subst (Right j.front) (j.kind.2) (plain_right (j.kind.1)) }

  right_sound : (ts : List Token) (y : Tree × List Token) → right_at (suc k) ts ≡ Some y → Took Right ts y
  unfolding sum_at
  right_sound (minus_mark ∷ ts) y e =
      let (p, q, r) = andthen_some (right_at k ts) _ y e in mark_before Right Right minus_mark neg (λ a t d. minus_right d) ts p y (h.right ts p q) r
  right_sound ts y e = from_joined ts y e

  exponent_sound : (ts : List Token) (y : Tree × List Token) → exponent_at (suc k) ts ≡ Some y → Took Exponent ts y
  unfolding sum_at
  exponent_sound (minus_mark ∷ ts) y e =
      let (p, q, r) = andthen_some (exponent_at k ts) _ y e in mark_before Exponent Exponent minus_mark neg (λ a t d. minus_exponent d) ts p y (h.exponent ts p q) r
  exponent_sound ts y e =
      let p = h.power ts y e in record { front = p.front; split = p.split; kind = plain_exponent (p.kind) }

  sum_sound : (ts : List Token) (y : SoFar × List Token) → sum_at (suc k) ts ≡ Some y → Took Sum ts y
  unfolding sum_at
  sum_sound ts y e =
      let (p, q, r) = andthen_some (signed_at k ts) _ y e in
      chained Signed Sum ts p y (h.signed ts p q) (λ a d. h.terms (single p.0) p.1 y r a (first_term d))

  product_sound : (ts : List Token) (y : SoFar × List Token) → product_at (suc k) ts ≡ Some y → Took Product ts y
  unfolding sum_at
  product_sound ts y e =
      let (p, q, r) = andthen_some (joined_at k ts) _ y e in
      chained JoinedTree Product ts p y (h.joined ts p q) (λ a d. h.factors (single p.0) p.1 y r a (subst (λ t. Product a (single t)) (d.2) (first_factor (d.1))))

  joined_sound : (ts : List Token) (y : Tree × List Token) → joined_at (suc k) ts ≡ Some y → Took JoinedTree ts y
  unfolding sum_at
  joined_sound ts y e =
      let (p, q, r) = andthen_some (power_at k ts) _ y e in
      chained Power JoinedTree ts p y (h.power ts p q) (λ a d. h.powers (more p.0 none) p.1 y r a (one_power d))

  power_sound : (ts : List Token) (y : Tree × List Token) → power_at (suc k) ts ≡ Some y → Took Power ts y
  unfolding sum_at
  power_sound ts y e =
      let (p, q, r) = andthen_some (primary_at k ts) _ y e in
      chained Primary Power ts p y (h.primary ts p q) (λ a d. h.raise p.0 p.1 y r a d)

  raise_sound : (t : Tree) (ts : List Token) (y : Tree × List Token) → raise_at (suc k) t ts ≡ Some y → (a : List Token) → Primary a t → TookAfter Power a ts y
  unfolding sum_at
  raise_sound t (caret_mark ∷ ts) y e a d =
      let (p, q, r) = andthen_some (exponent_at k ts) _ y e in
      chained_mark Exponent Power caret_mark a ts p y (h.exponent ts p q) (λ b d'. nothing_more Power (a ++ caret_mark ∷ b) p.1 (power t p.0) y (raised_power d d') r)
  raise_sound t ts y e a d = nothing_more Power a ts t y (plain_power d) e

  powers_sound : (d : Trees) (ts : List Token) (y : Tree × List Token) → powers_at (suc k) d ts ≡ Some y → (a : List Token) → Joined a d → TookAfter JoinedTree a ts y
  unfolding sum_at
  powers_sound d ts y e a x = by (joins ts) refl
    where
      by : (b : Bool) → joins ts ≡ b → TookAfter JoinedTree a ts y
      by true j =
          let (p, q, r) = andthen_some (power_at k ts) _ y (sym (powers_on k d ts j) ∙ e) in
          let t = h.power ts p q in
          let jb : joins t.front ≡ true = front_joins t.front p.1 ts (rw append-nil at (power_begins (t.kind) [])) t.split j in
          let n = h.powers (append d (more p.0 none)) p.1 y r (a ++ t.front) (another_power x (t.kind) jb) in
          record {
            front = t.front ++ n.front;
            split = split_further ts t.front n.front p.1 y.1 t.split n.split;
            kind = regrouped a t.front n.front y.0 n.kind;
          }
      by false j = nothing_more JoinedTree a ts (joined_tree d) y (d, x, refl) (sym (powers_off k d ts j) ∙ e)

  closing : (t : Tree) (ts : List Token) (y : Tree × List Token) → closed t ts ≡ Some y → (ts ≡ right_mark ∷ y.1) × (t ≡ y.0)
  closing t ts y e = grind arith

  -- a token by itself
  alone : (m : Token) (t : Tree) (ts : List Token) (y : Tree × List Token) → Primary (m ∷ []) t → Some (t, ts) ≡ Some y → Took Primary (m ∷ ts) y
  alone m t ts y d e = subst (λ z. Took Primary (m ∷ ts) z) (some_is (t, ts) y e) (record { front = m ∷ []; split = refl; kind = d })

  bracketed : (before : List Token) (node : SoFar → Tree) → ((a : List Token) (s : SoFar) → Sum a s → Primary (before ++ (a ++ right_mark ∷ [])) (node s))
      → (ts : List Token) (p : SoFar × List Token) (y : Tree × List Token) → Took Sum ts p → closed (node p.0) p.1 ≡ Some y → Took Primary (before ++ ts) y
  bracketed before node f ts p y t e = grind (arith, closing, append_assoc)

  primary_sound : (ts : List Token) (y : Tree × List Token) → primary_at (suc k) ts ≡ Some y → Took Primary ts y
  unfolding sum_at
  primary_sound (literal q ∷ ts) y e = alone (literal q) (num q) ts y a_literal e
  primary_sound (name x ∷ ts) y e = alone (name x) (symbol x) ts y a_name e
  primary_sound (undef_mark ∷ ts) y e = alone undef_mark undef ts y an_undef e
  primary_sound (left_mark ∷ ts) y e =
      let (p, q, r) = andthen_some (sum_at k ts) _ y e in bracketed (left_mark ∷ []) as_tree (λ a s d. parenthesized d) ts p y (h.sum ts p q) r
  primary_sound (root_mark ∷ left_mark ∷ ts) y e =
      let (p, q, r) = andthen_some (sum_at k ts) _ y e in bracketed (root_mark ∷ left_mark ∷ []) (λ s. root (as_tree s)) (λ a s d. a_root d) ts p y (h.sum ts p q) r
  primary_sound _ y e = cc

  sound_next : Sound (suc k)
  sound_next = grind (arith, sum_sound, terms_sound, signed_sound, product_sound, factors_sound, right_sound, joined_sound, powers_sound, power_sound, raise_sound, exponent_sound, primary_sound)

sound_zero : Sound zero
unfolding sum_at
sound_zero = grind arith

pub sound : (k : ℕ) → Sound k
sound zero = sound_zero
sound (suc k) = sound_next k (sound k)

pub reads-Sum : (a : List Token) (s : SoFar) (k : ℕ) → sum_at k a ≡ Some (s, []) → Sum a s
reads-Sum a s k e =
    let t = (sound k).sum a (s, []) e in
    subst (λ z. Sum z s) (sym (t.split ∙ append-nil t.front)) (t.kind)
