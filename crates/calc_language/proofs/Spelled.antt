-- The text of a tree is cut into its tokens.
use Rattle.calc_language.proofs.Shared.{ℕ, zero, suc, ◌+◌, ◌≡◌, ⊤, List, [], ◌∷◌, ◌++◌, length, Bool, true, false, not, ◌&&◌, ◌||◌, ◌==◌, nat_le, if◌then◌else◌, Some, None, nat_eq, refl, sym, ap, ◌∙◌}
use Rattle.calc_language.proofs.Shared.{arith, append_assoc, append-nil, subst, list_all, first_of_sum, later_of_sum, first_of_product, left_of_quotient, base, admits, text, IsWritable, Scans, at_end}
use Rattle.calc_language.proofs.Shared.{at_token, name, Token, literal, undef_mark, root_mark, plus_mark, minus_mark, times_mark, slash_mark, caret_mark, left_mark, right_mark, arrow_mark}
use Rattle.calc_language.proofs.Shared.{leading_run, same_bytes, token_at, Tree, num, symbol, undef, add, mult, power, root, neg, sub, div, Trees, none, more, pointwise, ◌/◌, ◌%◌, ◌<◌, pos, nat_abs}
use Rattle.calc_language.proofs.Shared.{codes, nat_tests, leb-true, le-leb, and_parts, and_from, or_left, or_right, or_parts, not-true, lowest, is_name, is_reserved, begins_with_letter, is_digit}
use Rattle.calc_language.proofs.Shared.{is_letter, is_name_byte, digits_before, Place, whole_text, left_of_difference, later_of_product, exponent, at_place, in_parentheses, text_of_sum, text_of_terms}
use Rattle.calc_language.proofs.Shared.{text_of_product, text_of_factors, IsNatural, AreWritable, times_sign, root_sign, digits_value, decimals, token_of_word, or_else, if_so, whole_numerator}
use Rattle.calc_language.proofs.{LeadingRuns.{stops, run_of, same_bytes-pointwise}, Written.{Brackets, inside, placed, tokens, tokens_of_sum, tokens_of_terms, tokens_of_product, tokens_of_factors}}
use Rattle.calc_language.specs.{Texts.{decimal}, Tokens.{literal_at, word_at}}

abbrev pub spell : Token → List ℕ
spell (literal q) = decimal (nat_abs q.num)
spell (name x) = x
spell undef_mark = codes "undef"
spell root_mark = root_sign
spell plus_mark = codes "+"
spell minus_mark = codes "-"
spell times_mark = times_sign
spell slash_mark = codes "/"
spell caret_mark = codes "^"
spell left_mark = codes "("
spell right_mark = codes ")"
spell arrow_mark = codes "->"

abbrev pub spelled : List Token → List ℕ
spelled [] = []
spelled (t ∷ ts) = spell t ++ spelled ts

pub spelled-append : (a b : List Token) → spelled (a ++ b) ≡ spelled a ++ spelled b
spelled-append [] b = refl
spelled-append (t ∷ a) b = ap (λ x. spell t ++ x) (spelled-append a b) ∙ sym (append_assoc (spell t) (spelled a) (spelled b))

pub inside_spelled : (ts : List Token) (bs : List ℕ) → bs ≡ spelled ts → codes "(" ++ (bs ++ codes ")") ≡ spelled (inside ts)
inside_spelled ts bs e = ap (λ x. codes "(" ++ (x ++ codes ")")) e ∙ ap (λ x. codes "(" ++ x) (sym (spelled-append ts (right_mark ∷ [])))

pub joined_spelled : (a b : List Token) (m : Token) (x y : List ℕ) → x ≡ spelled a → y ≡ spelled b → x ++ (spell m ++ y) ≡ spelled (a ++ m ∷ b)
joined_spelled a b m x y p q = (λ i. p i ++ (spell m ++ q i)) ∙ sym (spelled-append a (m ∷ b))

-- ---- the text of a tree

-- parentheses stand where a text has them
abbrev pub in_text : Brackets
in_text = record {
  first_of_sum = admits first_of_sum;
  later_of_sum = admits later_of_sum;
  left_of_difference = admits left_of_difference;
  first_of_product = admits first_of_product;
  later_of_product = admits later_of_product;
  left_of_quotient = admits left_of_quotient;
  right_of_quotient = admits later_of_product;
  base = admits base;
  exponent = admits exponent;
  bare_quotients = true;
}

place_spelled : (p : Place) (t : Tree) → text t ≡ spelled (tokens in_text t) → at_place p t (text t) ≡ spelled (placed (admits p t) (tokens in_text t))
place_spelled p t e = by (admits p t)
  where
    by : (b : Bool) → (if b then text t else in_parentheses (text t)) ≡ spelled (placed b (tokens in_text t))
    by true = e
    by false = inside_spelled (tokens in_text t) (text t) e

operands_spelled : (p q : Place) (a b : Tree) (m : Token) → text a ≡ spelled (tokens in_text a) → text b ≡ spelled (tokens in_text b)
    → at_place p a (text a) ++ spell m ++ at_place q b (text b) ≡ spelled (placed (admits p a) (tokens in_text a) ++ m ∷ placed (admits q b) (tokens in_text b))
operands_spelled p q a b m d e =
    append_assoc (at_place p a (text a)) (spell m) (at_place q b (text b))
    ∙ joined_spelled (placed (admits p a) (tokens in_text a)) (placed (admits q b) (tokens in_text b)) m _ _ (place_spelled p a d) (place_spelled q b e)

mutual
  pub text_spelled : (t : Tree) → text t ≡ spelled (tokens in_text t)
  text_spelled (num q) = sym (append-nil (decimal (nat_abs q.num)))
  text_spelled (symbol x) = sym (append-nil x)
  text_spelled undef = refl
  text_spelled (add ts) = sum_spelled ts
  text_spelled (mult ts) = product_spelled ts
  text_spelled (power b e) = operands_spelled base exponent b e caret_mark (text_spelled b) (text_spelled e)
  text_spelled (root a) = ap (λ x. root_sign ++ x) (inside_spelled (tokens in_text a) (text a) (text_spelled a))
  text_spelled (neg a) = ap (λ x. codes "-" ++ x) (place_spelled later_of_sum a (text_spelled a))
  text_spelled (sub a b) = operands_spelled whole_text later_of_sum a b minus_mark (text_spelled a) (text_spelled b)
  text_spelled (div a b) = operands_spelled left_of_quotient later_of_product a b slash_mark (text_spelled a) (text_spelled b)

  sum_spelled : (ts : Trees) → text_of_sum ts ≡ spelled (tokens_of_sum in_text ts)
  sum_spelled none = refl
  sum_spelled (more t ts) = (λ i. place_spelled first_of_sum t (text_spelled t) i ++ terms_spelled ts i) ∙ sym (spelled-append (placed (admits first_of_sum t) (tokens in_text t)) (tokens_of_terms in_text ts))

  terms_spelled : (ts : Trees) → text_of_terms ts ≡ spelled (tokens_of_terms in_text ts)
  terms_spelled none = refl
  terms_spelled (more t ts) = (λ i. (codes "+" ++ place_spelled later_of_sum t (text_spelled t) i) ++ terms_spelled ts i) ∙ sym (spelled-append (plus_mark ∷ placed (admits later_of_sum t) (tokens in_text t)) (tokens_of_terms in_text ts))

  product_spelled : (ts : Trees) → text_of_product ts ≡ spelled (tokens_of_product in_text ts)
  product_spelled none = refl
  product_spelled (more t ts) = (λ i. place_spelled first_of_product t (text_spelled t) i ++ factors_spelled ts i) ∙ sym (spelled-append (placed (admits first_of_product t) (tokens in_text t)) (tokens_of_factors in_text ts))

  factors_spelled : (ts : Trees) → text_of_factors ts ≡ spelled (tokens_of_factors in_text ts)
  factors_spelled none = refl
  factors_spelled (more t ts) = (λ i. (times_sign ++ place_spelled later_of_product t (text_spelled t) i) ++ factors_spelled ts i) ∙ sym (spelled-append (times_mark ∷ placed (admits later_of_product t) (tokens in_text t)) (tokens_of_factors in_text ts))

-- ---- decimals
digit_is : (n : ℕ) → n < 10 → is_digit (48 + n) ≡ true
digit_is n h = and_from _ _ (le-leb 48 (48 + n) (omega arith)) (le-leb (48 + n) 57 (omega arith))

digits_pass : (fuel n : ℕ) (acc : List ℕ) → list_all is_digit acc ≡ true → list_all is_digit (digits_before fuel n acc) ≡ true
digits_pass zero n acc h = h
digits_pass (suc fuel) n acc h = by (n / 10) refl (λ acc' h'. digits_pass fuel (n / 10) acc' h')
  where
    by : (m : ℕ) → n / 10 ≡ m → ((acc' : List ℕ) → list_all is_digit acc' ≡ true → list_all is_digit (digits_before fuel (n / 10) acc') ≡ true)
        → list_all is_digit (elim m [ zero ↦ (48 + n) ∷ acc | suc m' ↦ digits_before fuel (n / 10) ((48 + n % 10) ∷ acc) ]) ≡ true
    by zero e go = and_from _ _ (digit_is n (omega arith)) h
    by (suc m) e go = go ((48 + n % 10) ∷ acc) (and_from _ _ (digit_is (n % 10) (omega arith)) h)

digits_before-value : (fuel n : ℕ) (acc : List ℕ) → n < fuel → digits_value 0 (digits_before fuel n acc) ≡ digits_value n acc
digits_before-value zero n acc h = absurd (omega arith)
digits_before-value (suc fuel) n acc h = by (n / 10) refl (λ acc' h'. digits_before-value fuel (n / 10) acc' h')
  where
    by : (m : ℕ) → n / 10 ≡ m → ((acc' : List ℕ) → n / 10 < fuel → digits_value 0 (digits_before fuel (n / 10) acc') ≡ digits_value (n / 10) acc')
        → digits_value 0 (elim m [ zero ↦ (48 + n) ∷ acc | suc m' ↦ digits_before fuel (n / 10) ((48 + n % 10) ∷ acc) ]) ≡ digits_value n acc
    by zero e go = ap (λ x. digits_value x acc) (omega arith)
    by (suc m) e go = go ((48 + n % 10) ∷ acc) (omega arith) ∙ ap (λ x. digits_value x acc) (omega arith)

digits_long : (fuel n : ℕ) (acc : List ℕ) → 0 < length acc → 0 < length (digits_before fuel n acc)
digits_long zero n acc h = h
digits_long (suc fuel) n acc h = by (n / 10) (λ acc' h'. digits_long fuel (n / 10) acc' h')
  where
    by : (m : ℕ) → ((acc' : List ℕ) → 0 < length acc' → 0 < length (digits_before fuel (n / 10) acc'))
        → 0 < length {A = ℕ} (elim m [ zero ↦ (48 + n) ∷ acc | suc m' ↦ digits_before fuel (n / 10) ((48 + n % 10) ∷ acc) ])
    by zero go = omega arith
    by (suc m) go = go ((48 + n % 10) ∷ acc) (omega arith)

digits_some : (fuel n : ℕ) → 0 < length (digits_before (suc fuel) n [])
digits_some fuel n = by (n / 10)
  where
    by : (m : ℕ) → 0 < length {A = ℕ} (elim m [ zero ↦ (48 + n) ∷ [] | suc m' ↦ digits_before fuel (n / 10) ((48 + n % 10) ∷ []) ])
    by zero = omega arith
    by (suc m) = digits_long fuel (n / 10) ((48 + n % 10) ∷ []) (omega arith)

-- a number's text: its first byte, its bytes and its value
pub record DecimalText (n : ℕ) (ds : List ℕ) : Type 0 where
  pub all : list_all is_digit ds ≡ true
  pub some : 0 < length ds
  pub value : digits_value 0 ds ≡ n

pub decimal_is : (n : ℕ) → DecimalText n (decimal n)
unfolding decimal
decimal_is n = record { all = digits_pass (suc n) n [] refl; some = digits_some n n; value = digits_before-value (suc n) n [] (omega arith) }

-- ---- one token
-- the first byte behind an operand
abbrev pub is_clear : List ℕ → Bool
is_clear [] = true
is_clear (b ∷ bs) = not (is_name_byte b) && not (b == 46)

abbrev pub no_greater : List ℕ → Bool
no_greater [] = true
no_greater (b ∷ bs) = not (62 == b)

not_digit : (b : ℕ) → not (is_name_byte b) ≡ true → not (is_digit b) ≡ true
not_digit b h = by (is_letter b) (is_digit b) h
  where
    by : (x y : Bool) → not (x || y) ≡ true → not y ≡ true
    by true y e = cc
    by false y e = e

clear_digit : (rest : List ℕ) → is_clear rest ≡ true → stops is_digit rest ≡ true
clear_digit [] h = refl
clear_digit (b ∷ bs) h = let (p, q) = and_parts (not (is_name_byte b)) (not (b == 46)) h in not_digit b p

clear_name : (rest : List ℕ) → is_clear rest ≡ true → stops is_name_byte rest ≡ true
clear_name [] h = refl
clear_name (b ∷ bs) h = let (p, q) = and_parts (not (is_name_byte b)) (not (b == 46)) h in p

clear_decimals : (rest : List ℕ) → is_clear rest ≡ true → decimals rest ≡ ([], rest)
clear_decimals [] h = refl
clear_decimals (b ∷ []) h = refl
clear_decimals (b ∷ c ∷ bs) h =
    let (p, q) = and_parts (not (is_name_byte b)) (not (b == 46)) h in
    by (b == 46) q
  where
    by : (x : Bool) → not x ≡ true → ◌≡◌ {A = List ℕ × List ℕ} (elim (x && is_digit c) [ true ↦ leading_run is_digit (c ∷ bs) | false ↦ ([], b ∷ c ∷ bs) ]) ([], b ∷ c ∷ bs)
    by true e = cc
    by false e = refl

literal_read : (n : ℕ) (ds rest : List ℕ) → DecimalText n ds → is_clear rest ≡ true → literal_at (ds ++ rest) ≡ (literal (lowest (pos n) 1), rest)
unfolding literal_at
literal_read n ds rest h c =
    let e = run_of is_digit ds rest h.all (clear_digit rest c) in
    let f = clear_decimals rest c in
    rw (e, f, append-nil, h.value) refl

-- ---- one token is taken
first_branch : {A : Type 0} (a : Bool) (x y : A) → a ≡ true → (if a then x else y) ≡ x
first_branch true x y e = refl
first_branch false x y e = cc

second_branch : {A : Type 0} (a b : Bool) (x y z : A) → a ≡ false → b ≡ true → (if a then x else if b then y else z) ≡ y
second_branch true b x y z e f = cc
second_branch false true x y z e f = refl
second_branch false false x y z e f = cc

no_decimal : (ds : List ℕ) → list_all is_digit ds ≡ true → 0 < length ds → (b : ℕ) × (bs : List ℕ) × (ds ≡ b ∷ bs) × (is_digit b ≡ true)
no_decimal [] h l = absurd (omega arith)
no_decimal (b ∷ bs) h l = (b, bs, refl, (and_parts (is_digit b) (list_all is_digit bs) h).0)

literal_taken : (n : ℕ) (ds rest : List ℕ) → DecimalText n ds → is_clear rest ≡ true → token_at (ds ++ rest) ≡ Some (literal (lowest (pos n) 1), rest)
literal_taken n ds rest h c = at_first ds (no_decimal ds h.all h.some) (literal_read n ds rest h c)
  where
    at_first : (ds : List ℕ) → (b : ℕ) × (bs : List ℕ) × (ds ≡ b ∷ bs) × (is_digit b ≡ true) → literal_at (ds ++ rest) ≡ (literal (lowest (pos n) 1), rest) → token_at (ds ++ rest) ≡ Some (literal (lowest (pos n) 1), rest)
    at_first [] (b, bs, e, d) f = cc
    at_first (x ∷ xs) (b, bs, e, d) f =
        let g : x ≡ b = cc in
        let d' : is_digit x ≡ true = ap is_digit g ∙ d in
        first_branch (is_digit x) (Some (literal_at (x ∷ (xs ++ rest)))) _ d' ∙ ap Some f

-- what scanning needs of a name
record NameText (x : List ℕ) : Type 0 where
  first : ℕ
  others : List ℕ
  is : x ≡ first ∷ others
  letter : is_letter first ≡ true
  all : list_all is_name_byte x ≡ true
  short : nat_le (length x) 7 ≡ true
  no_root : same_bytes x (codes "sqrt") ≡ false
  no_undef : same_bytes x (codes "undef") ≡ false

name_text : (x : List ℕ) → is_name x ≡ true → NameText x
name_text x h =
    let (h2, free) = and_parts (begins_with_letter x && list_all is_name_byte x && nat_le (length x) 7) (not (is_reserved x)) h in
    let (h1, short) = and_parts (begins_with_letter x && list_all is_name_byte x) (nat_le (length x) 7) h2 in
    let (letter, all) = and_parts (begins_with_letter x) (list_all is_name_byte x) h1 in
    let (a, b) = or_parts (pointwise nat_eq x (codes "sqrt")) (pointwise nat_eq x (codes "undef")) (not-true (is_reserved x) free) in
    let (c, d, e, l) = front x letter in
    record { first = c; others = d; is = e; letter = l; all = all; short = short; no_root = same_bytes-pointwise x (codes "sqrt") ∙ a; no_undef = same_bytes-pointwise x (codes "undef") ∙ b }
  where
    front : (x : List ℕ) → begins_with_letter x ≡ true → (c : ℕ) × (d : List ℕ) × (x ≡ c ∷ d) × (is_letter c ≡ true)
    front [] h = cc
    front (c ∷ d) h = (c, d, refl, h)

letter_no_digit : (b : ℕ) → is_letter b ≡ true → is_digit b ≡ false
letter_no_digit b h = by (nat_le 65 b) (nat_le b 90) (nat_le 97 b) (nat_le b 122) (nat_le b 57) refl refl refl h
  where
    by : (v w x y z : Bool) → nat_le 65 b ≡ v → nat_le 97 b ≡ x → nat_le b 57 ≡ z → (v && w || x && y) ≡ true → (nat_le 48 b && z) ≡ false
    by v w x y false p q r e = and_false (nat_le 48 b)
      where
        and_false : (a : Bool) → (a && false) ≡ false
        and_false true = refl
        and_false false = refl
    by true w x y true p q r e = absurd (omega (arith, leb-true 65 b p, leb-true b 57 r))
    by false w true y true p q r e = absurd (omega (arith, leb-true 97 b q, leb-true b 57 r))
    by false w false y true p q r e = cc

name_read : (x rest : List ℕ) → is_clear rest ≡ true → list_all is_name_byte x ≡ true → nat_le (length x) 7 ≡ true → same_bytes x (codes "sqrt") ≡ false → same_bytes x (codes "undef") ≡ false → word_at (x ++ rest) ≡ Some (name x, rest)
unfolding word_at
name_read x rest c a s r u = rw (run_of is_name_byte x rest a (clear_name rest c), s, r, u) refl

name_taken : (x rest : List ℕ) → NameText x → is_clear rest ≡ true → token_at (x ++ rest) ≡ Some (name x, rest)
name_taken x rest h c = at_first x h.is (name_read x rest c h.all h.short h.no_root h.no_undef)
  where
    at_first : (y : List ℕ) → y ≡ h.first ∷ h.others → word_at (y ++ rest) ≡ Some (name x, rest) → token_at (y ++ rest) ≡ Some (name x, rest)
    at_first [] e f = cc
    at_first (b ∷ bs) e f =
        let g : b ≡ h.first = cc in
        let l : is_letter b ≡ true = ap is_letter g ∙ h.letter in
        second_branch (is_digit b) (is_letter b) _ (word_at (b ∷ (bs ++ rest))) _ (letter_no_digit b l) l ∙ f

undef_taken : (rest : List ℕ) → is_clear rest ≡ true → token_at (codes "undef" ++ rest) ≡ Some (undef_mark, rest)
unfolding word_at
undef_taken rest c = read rest (run_of is_name_byte (codes "undef") rest refl (clear_name rest c))
  where
    read : (rest : List ℕ) → leading_run is_name_byte (codes "undef" ++ rest) ≡ (codes "undef", rest) → token_at (codes "undef" ++ rest) ≡ Some (undef_mark, rest)
    read rest e = ap (λ r. if nat_le (length (r.0)) 7 then Some (token_of_word (r.0), r.1) else None) e

minus_taken : (rest : List ℕ) → no_greater rest ≡ true → token_at (codes "-" ++ rest) ≡ Some (minus_mark, rest)
minus_taken [] h = refl
minus_taken (b ∷ bs) h = by (62 == b) h
  where
    by : (x : Bool) → not x ≡ true → or_else (if_so x (Some bs)) arrow_mark (Some (minus_mark, b ∷ bs)) ≡ Some (minus_mark, b ∷ bs)
    by true e = cc
    by false e = refl

abbrev pub is_operand : Token → Bool
is_operand (literal q) = true
is_operand (name x) = true
is_operand undef_mark = true
is_operand _ = false

-- as it is written
abbrev pub IsWritten : Token → Type 0
IsWritten (literal q) = IsNatural q
IsWritten (name x) = is_name x ≡ true
IsWritten arrow_mark = ⊥
IsWritten _ = ⊤

taken : (t : Token) → IsWritten t → (rest : List ℕ) → (is_operand t ≡ true → is_clear rest ≡ true) → no_greater rest ≡ true → token_at (spell t ++ rest) ≡ Some (t, rest)
taken (literal q) (n, e) rest c g = rw (ap (λ x. nat_abs x.num) e ∙ ap nat_abs (whole_numerator (pos n))) (literal_taken n (decimal n) rest (decimal_is n) (c refl)) ∙ ap (λ x. Some (literal x, rest)) (sym e)
taken (name x) w rest c g = name_taken x rest (name_text x w) (c refl)
taken undef_mark w rest c g = undef_taken rest (c refl)
taken root_mark w rest c g = refl
taken plus_mark w rest c g = refl
taken minus_mark w rest c g = minus_taken rest g
taken times_mark w rest c g = refl
taken slash_mark w rest c g = refl
taken caret_mark w rest c g = refl
taken left_mark w rest c g = refl
taken right_mark w rest c g = refl
taken arrow_mark w rest c g = absurd w

-- ---- all tokens
-- no two operands side by side
abbrev pub Apart : List Token → Type 0
Apart [] = ⊤
Apart (t ∷ []) = ⊤
Apart (t ∷ u ∷ ts) = (is_operand t ≡ true → is_operand u ≡ false) × Apart (u ∷ ts)

abbrev pub AllWritten : List Token → Type 0
AllWritten [] = ⊤
AllWritten (t ∷ ts) = IsWritten t × AllWritten ts

name_byte_no_greater : (b : ℕ) → is_name_byte b ≡ true → (62 == b) ≡ false
name_byte_no_greater b h = grind (arith, nat_tests)

-- how a token begins
pub record Begins (t : Token) : Type 0 where
  pub first : ℕ
  pub others : List ℕ
  pub is : spell t ≡ first ∷ others
  pub no_greater : (62 == first) ≡ false
  pub clear : is_operand t ≡ false → is_clear (first ∷ []) ≡ true

as_mark : (t : Token) (b : ℕ) (bs : List ℕ) → spell t ≡ b ∷ bs → (62 == b) ≡ false → is_clear (b ∷ []) ≡ true → Begins t
as_mark t b bs e g h = record { first = b; others = bs; is = e; no_greater = g; clear = λ o. h }

begin : (t : Token) → IsWritten t → Begins t
begin (literal q) w =
    let d = decimal_is (nat_abs q.num) in
    let (b, bs, e, f) = no_decimal (decimal (nat_abs q.num)) d.all d.some in
    let n : is_name_byte b ≡ true = or_right (is_letter b) (is_digit b) f in
    record { first = b; others = bs; is = e; no_greater = name_byte_no_greater b n; clear = λ o. cc }
begin (name x) h =
    let w = name_text x h in
    let n : is_name_byte w.first ≡ true = or_left (is_letter w.first) (is_digit w.first) w.letter in
    record { first = w.first; others = w.others; is = w.is; no_greater = name_byte_no_greater w.first n; clear = λ o. cc }
begin undef_mark w = record { first = 117; others = codes "ndef"; is = refl; no_greater = refl; clear = λ o. cc }
begin root_mark w = as_mark root_mark 226 (136 ∷ 154 ∷ []) refl refl refl
begin plus_mark w = as_mark plus_mark 43 [] refl refl refl
begin minus_mark w = as_mark minus_mark 45 [] refl refl refl
begin times_mark w = as_mark times_mark 195 (151 ∷ []) refl refl refl
begin slash_mark w = as_mark slash_mark 47 [] refl refl refl
begin caret_mark w = as_mark caret_mark 94 [] refl refl refl
begin left_mark w = as_mark left_mark 40 [] refl refl refl
begin right_mark w = as_mark right_mark 41 [] refl refl refl
begin arrow_mark w = absurd w

greater_first : (ts : List Token) → AllWritten ts → no_greater (spelled ts) ≡ true
greater_first [] w = refl
greater_first (t ∷ ts) w = let g = begin t w.0 in ap (λ x. no_greater (x ++ spelled ts)) g.is ∙ ap not g.no_greater

clear_first : (t : Token) (ts : List Token) → is_operand t ≡ false → IsWritten t → is_clear (spelled (t ∷ ts)) ≡ true
clear_first t ts o w = let g = begin t w in ap (λ x. is_clear (x ++ spelled ts)) g.is ∙ g.clear o

pub scanned : (ts : List Token) → AllWritten ts → Apart ts → Scans (spelled ts) ts
scanned [] w a = at_end
scanned (t ∷ []) w a = at_token (taken t w.0 [] (λ o. refl) refl) at_end
scanned (t ∷ u ∷ ts) w a =
    at_token (taken t w.0 (spelled (u ∷ ts)) (λ o. clear_first u ts (a.0 o) w.1.0) (greater_first (u ∷ ts) w.1)) (scanned (u ∷ ts) w.1 a.1)

-- ---- the tokens of a tree
pub record Good (ts : List Token) : Type 0 where
  pub written : AllWritten ts
  pub apart : Apart ts

written-append : (a b : List Token) → AllWritten a → AllWritten b → AllWritten (a ++ b)
written-append [] b v w = w
written-append (t ∷ a) b v w = (v.0, written-append a b v.1 w)

apart_before : (m : Token) (b : List Token) → is_operand m ≡ false → Apart b → Apart (m ∷ b)
apart_before m [] o a = tt
apart_before m (t ∷ b) o a = (λ h. absurd (true_false (is_operand m) h o), a)
  where
    true_false : (x : Bool) → x ≡ true → x ≡ false → ⊥
    true_false x e f = cc

apart_join : (a : List Token) (m : Token) (b : List Token) → is_operand m ≡ false → Apart a → Apart (m ∷ b) → Apart (a ++ m ∷ b)
apart_join [] m b o v w = w
apart_join (t ∷ []) m b o v w = (λ h. o, w)
apart_join (t ∷ u ∷ a) m b o v w = (v.0, apart_join (u ∷ a) m b o v.1 w)

good_before : (m : Token) (b : List Token) → is_operand m ≡ false → IsWritten m → Good b → Good (m ∷ b)
good_before m b o w g = record { written = (w, g.written); apart = apart_before m b o g.apart }

good_join : (a : List Token) (m : Token) (b : List Token) → is_operand m ≡ false → IsWritten m → Good a → Good b → Good (a ++ m ∷ b)
good_join a m b o w g h =
    record { written = written-append a (m ∷ b) g.written (w, h.written); apart = apart_join a m b o g.apart (apart_before m b o h.apart) }

good_nothing : Good []
good_nothing = record { written = tt; apart = tt }

good_inside : (a : List Token) → Good a → Good (inside a)
good_inside a g = good_before left_mark (a ++ right_mark ∷ []) refl tt (good_join a right_mark [] refl tt g good_nothing)

good_placed : (b : Bool) (a : List Token) → Good a → Good (placed b a)
good_placed true a g = g
good_placed false a g = good_inside a g

-- behind a, what begins with a mark or is nothing
abbrev pub MarkFirst : List Token → Type 0
MarkFirst [] = ⊤
MarkFirst (t ∷ ts) = is_operand t ≡ false

good_append : (a b : List Token) → MarkFirst b → Good a → Good b → Good (a ++ b)
good_append a [] m g h = rw append-nil g
good_append a (t ∷ b) m g h = record { written = written-append a (t ∷ b) g.written h.written; apart = apart_join a t b m g.apart h.apart }

good_marked : (m : Token) (b : Bool) (a : List Token) → is_operand m ≡ false → IsWritten m → Good a → Good (m ∷ placed b a)
good_marked m b a o w g = good_before m (placed b a) o w (good_placed b a g)

good_operands : (a b : List Token) (m : Token) (x y : Bool) → is_operand m ≡ false → IsWritten m → Good a → Good b → Good (placed x a ++ m ∷ placed y b)
good_operands a b m x y o w g h = good_join (placed x a) m (placed y b) o w (good_placed x a g) (good_placed y b h)

module _ (s : Brackets) where
  terms_first : (ts : Trees) → MarkFirst (tokens_of_terms s ts)
  terms_first none = tt
  terms_first (more t ts) = refl

  factors_first : (ts : Trees) → MarkFirst (tokens_of_factors s ts)
  factors_first none = tt
  factors_first (more t ts) = refl

  mutual
    good : (t : Tree) → IsWritable t → Good (tokens s t)
    good (num q) w = record { written = (w, tt); apart = tt }
    good (symbol x) w = record { written = (w, tt); apart = tt }
    good undef w = record { written = (tt, tt); apart = tt }
    good (add none) w = good_nothing
    good (add (more t ts)) w = good_append (placed (s.first_of_sum t) (tokens s t)) (tokens_of_terms s ts) (terms_first ts) (good_placed (s.first_of_sum t) (tokens s t) (good t w.0)) (good_terms ts w.1)
    good (mult none) w = good_nothing
    good (mult (more t ts)) w = good_append (placed (s.first_of_product t) (tokens s t)) (tokens_of_factors s ts) (factors_first ts) (good_placed (s.first_of_product t) (tokens s t) (good t w.0)) (good_factors ts w.1)
    good (power b e) w = good_operands (tokens s b) (tokens s e) caret_mark (s.base b) (s.exponent e) refl tt (good b w.0) (good e w.1)
    good (root a) w = good_before root_mark (inside (tokens s a)) refl tt (good_inside (tokens s a) (good a w))
    good (neg a) w = good_marked minus_mark (s.later_of_sum a) (tokens s a) refl tt (good a w)
    good (sub a b) w = good_operands (tokens s a) (tokens s b) minus_mark (s.left_of_difference a) (s.later_of_sum b) refl tt (good a w.0) (good b w.1)
    good (div a b) w = good_placed s.bare_quotients _ (good_operands (tokens s a) (tokens s b) slash_mark (s.left_of_quotient a) (s.right_of_quotient b) refl tt (good a w.0) (good b w.1))

    good_terms : (ts : Trees) → AreWritable ts → Good (tokens_of_terms s ts)
    good_terms none w = good_nothing
    good_terms (more t ts) w = good_append (plus_mark ∷ placed (s.later_of_sum t) (tokens s t)) (tokens_of_terms s ts) (terms_first ts) (good_marked plus_mark (s.later_of_sum t) (tokens s t) refl tt (good t w.0)) (good_terms ts w.1)

    good_factors : (ts : Trees) → AreWritable ts → Good (tokens_of_factors s ts)
    good_factors none w = good_nothing
    good_factors (more t ts) w = good_append (times_mark ∷ placed (s.later_of_product t) (tokens s t)) (tokens_of_factors s ts) (factors_first ts) (good_marked times_mark (s.later_of_product t) (tokens s t) refl tt (good t w.0)) (good_factors ts w.1)

  -- what is spelled as the tokens of a tree that can be written is scanned as these
  pub tree_scanned : (t : Tree) (bytes : List ℕ) → IsWritable t → bytes ≡ spelled (tokens s t) → Scans bytes (tokens s t)
  tree_scanned t bytes w e = let g = good t w in subst (λ bs. Scans bs (tokens s t)) (sym e) (scanned (tokens s t) g.written g.apart)
