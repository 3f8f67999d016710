-- What a format writes is read again, over tokens.
use Rattle.calc_language.proofs.Shared.{append_none, ℕ, ◌≡◌, ⊤, List, [], ◌∷◌, ◌++◌, Bool, true, false, nat_le, if◌then◌else◌, refl, sym, ap, subst, append_assoc, append-nil, SoFar, single, as_tree}
use Rattle.calc_language.proofs.Shared.{IsSum, Sum, first_term, plus_more, minus_more, Signed, minus_signed, plain_signed, Product, first_factor, times_more, over_more, Right, minus_right}
use Rattle.calc_language.proofs.Shared.{plain_right, one_power, Power, plain_power, raised_power, Exponent, minus_exponent, plain_exponent, Primary, a_literal, a_name, an_undef, parenthesized, a_root}
use Rattle.calc_language.proofs.Shared.{name, Token, literal, undef_mark, root_mark, plus_mark, minus_mark, times_mark, slash_mark, caret_mark, left_mark, right_mark, Tree, num, symbol, undef, add}
use Rattle.calc_language.proofs.Shared.{mult, power, root, neg, sub, div, Trees, none, more, append, IsComplete, summed, multiplied, level, AreComplete}
use Rattle.calc_terms.proofs.SmallLaws.{append_assoc as append_assoc'}

-- ---- formats

-- where a format writes a tree without parentheses: a test for each place, and whether quotients have none of their own
pub record Brackets : Type 0 where
  pub first_of_sum : Tree → Bool
  pub later_of_sum : Tree → Bool
  pub left_of_difference : Tree → Bool
  pub first_of_product : Tree → Bool
  pub later_of_product : Tree → Bool
  pub left_of_quotient : Tree → Bool
  pub right_of_quotient : Tree → Bool
  pub base : Tree → Bool
  pub exponent : Tree → Bool
  pub bare_quotients : Bool

abbrev pub inside : List Token → List Token
inside ts = left_mark ∷ (ts ++ right_mark ∷ [])

abbrev pub placed : Bool → List Token → List Token
placed fits ts = if fits then ts else inside ts

abbrev mutual
  pub tokens : Brackets → Tree → List Token
  tokens s (num q) = literal q ∷ []
  tokens s (symbol x) = name x ∷ []
  tokens s undef = undef_mark ∷ []
  tokens s (add ts) = tokens_of_sum s ts
  tokens s (mult ts) = tokens_of_product s ts
  tokens s (power b e) = placed (s.base b) (tokens s b) ++ caret_mark ∷ placed (s.exponent e) (tokens s e)
  tokens s (root a) = root_mark ∷ inside (tokens s a)
  tokens s (neg a) = minus_mark ∷ placed (s.later_of_sum a) (tokens s a)
  tokens s (sub a b) = placed (s.left_of_difference a) (tokens s a) ++ minus_mark ∷ placed (s.later_of_sum b) (tokens s b)
  tokens s (div a b) = placed s.bare_quotients (placed (s.left_of_quotient a) (tokens s a) ++ slash_mark ∷ placed (s.right_of_quotient b) (tokens s b))

  pub tokens_of_sum : Brackets → Trees → List Token
  tokens_of_sum s none = []
  tokens_of_sum s (more t ts) = placed (s.first_of_sum t) (tokens s t) ++ tokens_of_terms s ts

  pub tokens_of_terms : Brackets → Trees → List Token
  tokens_of_terms s none = []
  tokens_of_terms s (more t ts) = (plus_mark ∷ placed (s.later_of_sum t) (tokens s t)) ++ tokens_of_terms s ts

  pub tokens_of_product : Brackets → Trees → List Token
  tokens_of_product s none = []
  tokens_of_product s (more t ts) = placed (s.first_of_product t) (tokens s t) ++ tokens_of_factors s ts

  pub tokens_of_factors : Brackets → Trees → List Token
  tokens_of_factors s none = []
  tokens_of_factors s (more t ts) = (times_mark ∷ placed (s.later_of_product t) (tokens s t)) ++ tokens_of_factors s ts

-- how tightly what is written of a quotient, and of any tree, binds
abbrev pub quotient_binding : Bool → ℕ
quotient_binding bare = if bare then 2 else 4

abbrev pub binding : Brackets → Tree → ℕ
binding s (div a b) = quotient_binding s.bare_quotients
binding s t = level t

-- a power, or a Neg of such a tree
abbrev pub is_signed : Brackets → Tree → Bool
is_signed s (neg a) = is_signed s a
is_signed s t = nat_le 3 (binding s t)

abbrev pub sum_so_far : Tree → SoFar
sum_so_far (add ts) = summed ts
sum_so_far t = single t

abbrev pub product_so_far : Tree → SoFar
product_so_far (mult ts) = multiplied ts
product_so_far t = single t

-- parentheses are left out only where the grammar reads the same tree without them
pub record IsReadable (s : Brackets) : Type 0 where
  pub first_of_sum : (t : Tree) → s.first_of_sum t ≡ true → sum_so_far t ≡ single t
  pub later_of_sum : (t : Tree) → s.later_of_sum t ≡ true → nat_le 1 (binding s t) ≡ true
  pub first_of_product : (t : Tree) → s.first_of_product t ≡ true → (nat_le 2 (binding s t) ≡ true) × (product_so_far t ≡ single t)
  pub later_of_product : (t : Tree) → s.later_of_product t ≡ true → is_signed s t ≡ true
  pub left_of_quotient : (t : Tree) → s.left_of_quotient t ≡ true → nat_le 2 (binding s t) ≡ true
  pub right_of_quotient : (t : Tree) → s.right_of_quotient t ≡ true → is_signed s t ≡ true
  pub base : (t : Tree) → s.base t ≡ true → nat_le 4 (binding s t) ≡ true
  pub exponent : (t : Tree) → s.exponent t ≡ true → is_signed s t ≡ true

-- ---- what tokens are, by how tightly they bind

sum_tree : (t : Tree) → as_tree (sum_so_far t) ≡ t
sum_tree (add ts) = refl
sum_tree _ = refl

product_tree : (t : Tree) → as_tree (product_so_far t) ≡ t
product_tree (mult ts) = refl
product_tree _ = refl

pub record Writes (ts : List Token) (binds : ℕ) (signs : Bool) (t : Tree) : Type 0 where
  pub primary : nat_le 4 binds ≡ true → Primary ts t
  pub product : nat_le 2 binds ≡ true → Product ts (product_so_far t)
  pub signed : nat_le 1 binds ≡ true → Signed ts t
  pub sum : Sum ts (sum_so_far t)
  pub right : signs ≡ true → Right ts t
  pub exponent : signs ≡ true → Exponent ts t

product_of : {a : List Token} {t : Tree} → Power a t → Product a (single t)
product_of d = first_factor (one_power d)

signed_of : {a : List Token} {t : Tree} → Power a t → Signed a t
signed_of d = plain_signed (product_of d)

-- what they are at each place
module _ {ts : List Token} {binds : ℕ} {signs : Bool} {t : Tree} (w : Writes ts binds signs t) where
  in_brackets : Power (inside ts) t
  in_brackets = plain_power (subst (λ u. Primary (inside ts) u) (sum_tree t) (parenthesized w.sum))

  at_base : (b : Bool) → (b ≡ true → nat_le 4 binds ≡ true) → Primary (placed b ts) t
  at_base true h = w.primary (h refl)
  at_base false h = subst (λ u. Primary (inside ts) u) (sum_tree t) (parenthesized w.sum)

  at_exponent : (b : Bool) → (b ≡ true → signs ≡ true) → Exponent (placed b ts) t
  at_exponent true h = w.exponent (h refl)
  at_exponent false h = plain_exponent in_brackets

  at_right : (b : Bool) → (b ≡ true → signs ≡ true) → Right (placed b ts) t
  at_right true h = w.right (h refl)
  at_right false h = plain_right (one_power in_brackets)

  at_later_of_sum : (b : Bool) → (b ≡ true → nat_le 1 binds ≡ true) → Signed (placed b ts) t
  at_later_of_sum true h = w.signed (h refl)
  at_later_of_sum false h = signed_of in_brackets

  at_left_of_difference : (b : Bool) → (s : SoFar) × Sum (placed b ts) s × (as_tree s ≡ t)
  at_left_of_difference true = (sum_so_far t, w.sum, sum_tree t)
  at_left_of_difference false = (single t, first_term (signed_of in_brackets), refl)

  at_left_of_quotient : (b : Bool) → (b ≡ true → nat_le 2 binds ≡ true) → (s : SoFar) × Product (placed b ts) s × (as_tree s ≡ t)
  at_left_of_quotient true h = (product_so_far t, w.product (h refl), product_tree t)
  at_left_of_quotient false h = (single t, product_of in_brackets, refl)

  at_first_of_sum : (b : Bool) → (b ≡ true → sum_so_far t ≡ single t) → Sum (placed b ts) (single t)
  at_first_of_sum true h = subst (Sum ts) (h refl) w.sum
  at_first_of_sum false h = first_term (signed_of in_brackets)

  at_first_of_product : (b : Bool) → (b ≡ true → (nat_le 2 binds ≡ true) × (product_so_far t ≡ single t)) → Product (placed b ts) (single t)
  at_first_of_product true h = subst (Product ts) (h refl).1 (w.product (h refl).0)
  at_first_of_product false h = product_of in_brackets

-- ---- tokens of some kind

of_power : {ts : List Token} {binds : ℕ} (t : Tree) → Power ts t → (nat_le 4 binds ≡ true → Primary ts t) → product_so_far t ≡ single t → sum_so_far t ≡ single t → {signs : Bool} → Writes ts binds signs t
of_power {ts = ts} t d p e f = record {
  primary = p;
  product = λ h. subst (Product ts) (sym e) (product_of d);
  signed = λ h. signed_of d;
  sum = subst (Sum ts) (sym f) (first_term (signed_of d));
  right = λ h. plain_right (one_power d);
  exponent = λ h. plain_exponent d;
}

of_primary : {ts : List Token} {binds : ℕ} (t : Tree) → Primary ts t → product_so_far t ≡ single t → sum_so_far t ≡ single t → {signs : Bool} → Writes ts binds signs t
of_primary t d e f = of_power t (plain_power d) (λ h. d) e f

of_product : {ts : List Token} (t : Tree) → Product ts (product_so_far t) → sum_so_far t ≡ single t → Writes ts 2 false t
of_product {ts = ts} t d f =
    let e : Signed ts t = subst (Signed ts) (product_tree t) (plain_signed d) in
    record {
      primary = λ h. cc;
      product = λ h. d;
      signed = λ h. e;
      sum = subst (Sum ts) (sym f) (first_term e);
      right = λ h. cc;
      exponent = λ h. cc;
    }

of_quotient : (bare : Bool) (a b : Tree) {ts : List Token} → Product ts (single (div a b)) → Writes (placed bare ts) (quotient_binding bare) (nat_le 3 (quotient_binding bare)) (div a b)
of_quotient true a b d = of_product (div a b) d refl
of_quotient false a b d = of_primary (div a b) (parenthesized (first_term (plain_signed d))) refl refl

of_sum : {ts : List Token} (t : Tree) → Sum ts (sum_so_far t) → Writes ts 0 false t
of_sum t d = record {
  primary = λ h. cc;
  product = λ h. cc;
  signed = λ h. cc;
  sum = d;
  right = λ h. cc;
  exponent = λ h. cc;
}

of_opposite : {ts : List Token} {binds : ℕ} {signs : Bool} {a : Tree} (b : Bool) → (b ≡ true → nat_le 1 binds ≡ true) → Writes ts binds signs a → Writes (minus_mark ∷ placed b ts) 1 signs (neg a)
of_opposite b h w =
    let d = minus_signed (at_later_of_sum w b h) in
    record {
      primary = λ g. cc;
      product = λ g. cc;
      signed = λ g. d;
      sum = first_term d;
      right = λ g. minus_right (at_right w b (λ e. g));
      exponent = λ g. minus_exponent (at_exponent w b (λ e. g));
    }

-- ---- the tokens of trees in a format

module _ (s : Brackets) (r : IsReadable s) where
  abbrev WritesTree : Tree → Type 0
  WritesTree t = Writes (tokens s t) (binding s t) (is_signed s t) t

  abbrev EachWrites : Trees → Type 0
  EachWrites none = ⊤
  EachWrites (more t ts) = WritesTree t × EachWrites ts

  later_term : (t : Tree) → WritesTree t → Signed (placed (s.later_of_sum t) (tokens s t)) t
  later_term t w = at_later_of_sum w (s.later_of_sum t) (r.later_of_sum t)

  later_factor : (t : Tree) → WritesTree t → Right (placed (s.later_of_product t) (tokens s t)) t
  later_factor t w = at_right w (s.later_of_product t) (r.later_of_product t)

  terms_onto : (ts : Trees) → EachWrites ts → (a : List Token) (us : Trees) → Sum a (summed us) → Sum (a ++ tokens_of_terms s ts) (summed (append us ts))
  terms_onto none w a us d = rw (append-nil, append_none) d
  terms_onto (more t ts) w a us d =
      rw (← append_assoc a (plus_mark ∷ placed (s.later_of_sum t) (tokens s t)) (tokens_of_terms s ts), ← append_assoc' us (more t none) ts)
      (terms_onto ts w.1 _ (append us (more t none)) (plus_more d (later_term t w.0)))

  factors_onto : (ts : Trees) → EachWrites ts → (a : List Token) (us : Trees) → Product a (multiplied us) → Product (a ++ tokens_of_factors s ts) (multiplied (append us ts))
  factors_onto none w a us d = rw (append-nil, append_none) d
  factors_onto (more t ts) w a us d =
      rw (← append_assoc a (times_mark ∷ placed (s.later_of_product t) (tokens s t)) (tokens_of_factors s ts), ← append_assoc' us (more t none) ts)
      (factors_onto ts w.1 _ (append us (more t none)) (times_more d (later_factor t w.0)))

  of_difference : (a b : Tree) → WritesTree a → WritesTree b → WritesTree (sub a b)
  of_difference a b v w =
      let (x, d, e) = at_left_of_difference v (s.left_of_difference a) in
      of_sum (sub a b) (subst (λ y. Sum (tokens s (sub a b)) (single (sub y b))) e (minus_more d (later_term b w)))

  of_div : (a b : Tree) → WritesTree a → WritesTree b → WritesTree (div a b)
  of_div a b v w =
      let (x, d, e) = at_left_of_quotient v (s.left_of_quotient a) (r.left_of_quotient a) in
      let ts = placed (s.left_of_quotient a) (tokens s a) ++ slash_mark ∷ placed (s.right_of_quotient b) (tokens s b) in
      of_quotient s.bare_quotients a b (subst (λ y. Product ts (single (div y b))) e (over_more d (at_right w (s.right_of_quotient b) (r.right_of_quotient b))))

  of_add : (t u : Tree) (ts : Trees) → WritesTree t → WritesTree u → EachWrites ts → WritesTree (add (more t (more u ts)))
  of_add t u ts v w x = of_sum (add (more t (more u ts)))
      (rw (← append_assoc (placed (s.first_of_sum t) (tokens s t)) (plus_mark ∷ placed (s.later_of_sum u) (tokens s u)) (tokens_of_terms s ts))
      (terms_onto ts x _ (more t (more u none)) (plus_more (at_first_of_sum v (s.first_of_sum t) (r.first_of_sum t)) (later_term u w))))

  of_mult : (t u : Tree) (ts : Trees) → WritesTree t → WritesTree u → EachWrites ts → WritesTree (mult (more t (more u ts)))
  of_mult t u ts v w x = of_product (mult (more t (more u ts)))
      (rw (← append_assoc (placed (s.first_of_product t) (tokens s t)) (times_mark ∷ placed (s.later_of_product u) (tokens s u)) (tokens_of_factors s ts))
      (factors_onto ts x _ (more t (more u none)) (times_more (at_first_of_product v (s.first_of_product t) (r.first_of_product t)) (later_factor u w))))
      refl

  mutual
    writes : (t : Tree) → IsComplete t → WritesTree t
    writes (num q) f = of_primary (num q) a_literal refl refl
    writes (symbol x) f = of_primary (symbol x) a_name refl refl
    writes undef f = of_primary undef an_undef refl refl
    writes (root a) f = of_primary (root a) (subst (λ u. Primary (root_mark ∷ inside (tokens s a)) (root u)) (sum_tree a) (a_root ((writes a f).sum))) refl refl
    writes (power b e) f = of_power (power b e) (raised_power (at_base (writes b f.0) (s.base b) (r.base b)) (at_exponent (writes e f.1) (s.exponent e) (r.exponent e))) (λ h. cc) refl refl
    writes (neg a) f = of_opposite (s.later_of_sum a) (r.later_of_sum a) (writes a f)
    writes (sub a b) f = of_difference a b (writes a f.0) (writes b f.1)
    writes (div a b) f = of_div a b (writes a f.0) (writes b f.1)
    writes (add none) f = absurd (f.1)
    writes (add (more t none)) f = absurd (f.1)
    writes (add (more t (more u ts))) f = of_add t u ts (writes t f.0.0) (writes u f.0.1.0) (each_writes ts f.0.1.1)
    writes (mult none) f = absurd (f.1)
    writes (mult (more t none)) f = absurd (f.1)
    writes (mult (more t (more u ts))) f = of_mult t u ts (writes t f.0.0) (writes u f.0.1.0) (each_writes ts f.0.1.1)

    each_writes : (ts : Trees) → AreComplete ts → EachWrites ts
    each_writes none f = tt
    each_writes (more t ts) f = (writes t f.0, each_writes ts f.1)

  -- the tokens of a tree with enough children are read as that tree
  pub reads_again : (t : Tree) → IsComplete t → IsSum (tokens s t) t
  reads_again t f = (sum_so_far t, (writes t f).sum, sum_tree t)
