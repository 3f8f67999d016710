-- The symbols of what a line reads as are names, also once stored trees are in the places of theirs.
use Rattle.std.proofs.Common.{◌≡◌, ℕ, List, [], ◌∷◌, ◌++◌, length, map, true, cond, eqb, Option, Some, None, inl, inr, refl, ap, subst, arith, Contains}
use Rattle.std.proofs.lemmas.List.Elements.{Contains-append_cases, Contains-append_left, Contains-append_right}
use Rattle.std.specs.{Prelude.{⊤, nat_le}, List.{list_all}, Str.{bytes_eq}}
use Rattle.calc_language.proofs.LeadingRuns.{run_all, same_bytes-pointwise}
use Rattle.calc_language.specs.Grammar.{SoFar, single, summed, multiplied, as_tree, plus_term, times_factor, joined_tree, Sum, Signed, Product, Right, Joined, Power, Exponent, Primary, IsSum}
use Rattle.calc_language.specs.Grammar.{first_term, plus_more, minus_more, minus_signed, plain_signed, first_factor, times_more, over_more, minus_right, plain_right, one_power, another_power, plain_power, raised_power, minus_exponent}
use Rattle.calc_language.specs.Grammar.{plain_exponent, a_literal, a_name, an_undef, parenthesized, a_root}
use Rattle.calc_language.specs.Texts.{AreWritable, HasNames, IsNamed, IsWritable}
use Rattle.calc_language.specs.Tokens.{Token, name, plus_mark, minus_mark, times_mark, slash_mark, caret_mark, right_mark, arrow_mark, Mark, marks, first_mark, rest_after, or_else, leading_run, literal_at, word_at, token_at, token_of_word, Scans, at_end, at_blank, at_token}
use Rattle.calc_terms.specs.{Name.{is_name, is_name_byte, is_letter, is_digit, begins_with_letter}, Trees.{Tree, num, symbol, undef, add, mult, power, root, neg, sub, div, Trees, none, more, append, names, names_of, AllPartsOf}}
use Rattle.calc_terms.proofs.SmallLaws.{nobody, only_one}
use Rattle.calc_tokens.proofs.Language.{only_tokens}
use Rattle.calc_tokens.specs.Placed.{Placed, bare}
use Rattle.calc_session.specs.Arguments.{ReadsText}
use Rattle.calc_parser.specs.Lines.{IsLine}
use Rattle.name_table.specs.{Filling.{filled, value_in, values}, Tables.{Entry, Table, entries}}
use Rattle.tree_handles.specs.{Expressions.{plain, plains}, Forest.{Forest, empty, tree}, Roots.{root_tree}}
use Rattle.tree_handles.proofs.Outcomes.{by_test}
use Rattle.tree_walks.specs.Replacing.{replaced, replaced_in}

-- ---- tokens

-- what is no reserved word is a name of the language
abbrev IsNamedToken : Token → Type 0
IsNamedToken (name x) = is_name x ≡ true
IsNamedToken _ = ⊤

abbrev AreNamedTokens : List Token → Type 0
AreNamedTokens [] = ⊤
AreNamedTokens (t ∷ ts) = IsNamedToken t × AreNamedTokens ts

named_front : (a b : List Token) → AreNamedTokens (a ++ b) → AreNamedTokens a
named_front [] b h = tt
named_front (t ∷ a) b h = (h.0, named_front a b h.1)

named_back : (a b : List Token) → AreNamedTokens (a ++ b) → AreNamedTokens b
named_back [] b h = h
named_back (t ∷ a) b h = named_back a b h.1

run_begins : (bytes : List ℕ) → begins_with_letter bytes ≡ true → begins_with_letter ((leading_run is_name_byte bytes).0) ≡ true
run_begins bytes h = grind arith

word_named : (x : List ℕ) → begins_with_letter x ≡ true → list_all is_name_byte x ≡ true → nat_le (length x) 7 ≡ true → IsNamedToken (token_of_word x)
word_named x letter all short = grind (arith, same_bytes-pointwise)

some_is : (p q : Token × List ℕ) → Some p ≡ Some q → p ≡ q
some_is p q e = cc

token_is : (p : Token × List ℕ) (t : Token) (rest : List ℕ) → Some p ≡ Some (t, rest) → p.0 ≡ t
token_is p t rest e = ap (λ q. q.0) (some_is p (t, rest) e)

literal_named : (bytes : List ℕ) (t : Token) (rest : List ℕ) → Some (literal_at bytes) ≡ Some (t, rest) → IsNamedToken t
unfolding literal_at
literal_named bytes t rest e = subst IsNamedToken (token_is (literal_at bytes) t rest e) tt

word_at_named : (b : ℕ) (bytes : List ℕ) (t : Token) (rest : List ℕ) → is_letter b ≡ true → word_at (b ∷ bytes) ≡ Some (t, rest) → IsNamedToken t
unfolding word_at
word_at_named b bytes t rest letter e =
    let run = leading_run is_name_byte (b ∷ bytes) in
    let word : Token × List ℕ = (token_of_word (run.0), run.1) in
    by_test (λ c. nat_le (length (run.0)) 7 ≡ c → cond c (Some word) None ≡ Some (t, rest) → IsNamedToken t) (nat_le (length (run.0)) 7)
    (λ p q r. subst IsNamedToken (token_is word t rest r) (word_named (run.0) (run_begins (b ∷ bytes) letter) (run_all is_name_byte (b ∷ bytes)) q))
    (λ p q r. absurd cc)
    refl e

abbrev AreMarks : List Mark → Type 0
AreMarks [] = ⊤
AreMarks (m ∷ ms) = IsNamedToken m.token × AreMarks ms

mark_named : (ms : List Mark) (bytes : List ℕ) (t : Token) (rest : List ℕ) → AreMarks ms → first_mark ms bytes ≡ Some (t, rest) → IsNamedToken t
mark_named [] bytes t rest h e = absurd cc
mark_named (m ∷ ms) bytes t rest h e = by (rest_after m.bytes bytes) (λ f. mark_named ms bytes t rest h.1 f) e
  where
    by : (o : Option (List ℕ)) → (first_mark ms bytes ≡ Some (t, rest) → IsNamedToken t) → or_else o m.token (first_mark ms bytes) ≡ Some (t, rest) → IsNamedToken t
    by (Some r) k e = subst IsNamedToken (token_is (m.token, r) t rest e) h.0
    by None k e = k e

all_marks : AreMarks marks
all_marks = (tt, (tt, (tt, (tt, (tt, (tt, (tt, (tt, (tt, (tt, (tt, (tt, tt))))))))))))

token_named : (bytes : List ℕ) (t : Token) (rest : List ℕ) → token_at bytes ≡ Some (t, rest) → IsNamedToken t
token_named [] t rest e = absurd cc
token_named (b ∷ bytes) t rest e =
    by_test (λ c. is_digit b ≡ c → cond c (Some (literal_at (b ∷ bytes))) (cond (is_letter b) (word_at (b ∷ bytes)) (first_mark marks (b ∷ bytes))) ≡ Some (t, rest) → IsNamedToken t) (is_digit b)
    (λ p q r. literal_named (b ∷ bytes) t rest r)
    (λ p q r. by_test (λ c. is_letter b ≡ c → cond c (word_at (b ∷ bytes)) (first_mark marks (b ∷ bytes)) ≡ Some (t, rest) → IsNamedToken t) (is_letter b)
    (λ p q r. word_at_named b bytes t rest q r)
    (λ p q r. mark_named marks (b ∷ bytes) t rest all_marks r)
    refl r)
    refl e

scanned_named : {bytes : List ℕ} {ts : List Token} → Scans bytes ts → AreNamedTokens ts
scanned_named at_end = tt
scanned_named (at_blank h d) = scanned_named d
scanned_named (at_token {bs = bytes} {rest = rest} {t = t} e d) = (token_named bytes t rest e, scanned_named d)

-- ---- the grammar

append_named : (ts us : Trees) → AllPartsOf IsNamed ts → AllPartsOf IsNamed us → AllPartsOf IsNamed (append ts us)
append_named none us h k = k
append_named (more t ts) us h k = (h.0, append_named ts us h.1 k)

plus_named : (s : SoFar) (u : Tree) → HasNames (as_tree s) → HasNames u → HasNames (as_tree (plus_term s u))
plus_named (single t) u h k = (tt, (h, (k, tt)))
plus_named (summed ts) u h k = (tt, append_named ts (more u none) h.1 (k, tt))
plus_named (multiplied ts) u h k = (tt, (h, (k, tt)))

times_named : (s : SoFar) (u : Tree) → HasNames (as_tree s) → HasNames u → HasNames (as_tree (times_factor s u))
times_named (single t) u h k = (tt, (h, (k, tt)))
times_named (summed ts) u h k = (tt, (h, (k, tt)))
times_named (multiplied ts) u h k = (tt, append_named ts (more u none) h.1 (k, tt))

joined_named : (ts : Trees) → AllPartsOf IsNamed ts → HasNames (joined_tree ts)
joined_named none h = (tt, tt)
joined_named (more t none) h = h.0
joined_named (more t (more u ts)) h = (tt, h)

mutual
  sum_named : {a : List Token} {s : SoFar} → Sum a s → AreNamedTokens a → HasNames (as_tree s)
  sum_named (first_term h) n = signed_named h n
  sum_named (plus_more {a = a} {b = b} {s = s} {u = u} h k) n = plus_named s u (sum_named h (named_front a (plus_mark ∷ b) n)) (signed_named k (named_back a (plus_mark ∷ b) n).1)
  sum_named (minus_more {a = a} {b = b} {s = s} {u = u} h k) n = (tt, sum_named h (named_front a (minus_mark ∷ b) n), signed_named k (named_back a (minus_mark ∷ b) n).1)

  signed_named : {a : List Token} {t : Tree} → Signed a t → AreNamedTokens a → HasNames t
  signed_named (minus_signed h) n = (tt, signed_named h n.1)
  signed_named (plain_signed h) n = product_named h n

  product_named : {a : List Token} {s : SoFar} → Product a s → AreNamedTokens a → HasNames (as_tree s)
  product_named (first_factor {ts = ts} h) n = joined_named ts (all_joined h n)
  product_named (times_more {a = a} {b = b} {s = s} {u = u} h k) n = times_named s u (product_named h (named_front a (times_mark ∷ b) n)) (right_named k (named_back a (times_mark ∷ b) n).1)
  product_named (over_more {a = a} {b = b} {s = s} {u = u} h k) n = (tt, product_named h (named_front a (slash_mark ∷ b) n), right_named k (named_back a (slash_mark ∷ b) n).1)

  right_named : {a : List Token} {t : Tree} → Right a t → AreNamedTokens a → HasNames t
  right_named (minus_right h) n = (tt, right_named h n.1)
  right_named (plain_right {ts = ts} h) n = joined_named ts (all_joined h n)

  all_joined : {a : List Token} {ts : Trees} → Joined a ts → AreNamedTokens a → AllPartsOf IsNamed ts
  all_joined (one_power h) n = (power_named h n, tt)
  all_joined (another_power {a = a} {b = b} {ts = ts} {u = u} h k j) n = append_named ts (more u none) (all_joined h (named_front a b n)) (power_named k (named_back a b n), tt)

  power_named : {a : List Token} {t : Tree} → Power a t → AreNamedTokens a → HasNames t
  power_named (plain_power h) n = primary_named h n
  power_named (raised_power {a = a} {b = b} h k) n = (tt, primary_named h (named_front a (caret_mark ∷ b) n), exponent_named k (named_back a (caret_mark ∷ b) n).1)

  exponent_named : {a : List Token} {t : Tree} → Exponent a t → AreNamedTokens a → HasNames t
  exponent_named (minus_exponent h) n = (tt, exponent_named h n.1)
  exponent_named (plain_exponent h) n = power_named h n

  primary_named : {a : List Token} {t : Tree} → Primary a t → AreNamedTokens a → HasNames t
  primary_named a_literal n = tt
  primary_named (a_name {x = x}) n = n.0
  primary_named an_undef n = tt
  primary_named (parenthesized {a = a} h) n = sum_named h (named_front a (right_mark ∷ []) n.1)
  primary_named (a_root {a = a} h) n = (tt, sum_named h (named_front a (right_mark ∷ []) n.1.1))

sum_tree_named : (ts : List Token) (t : Tree) → IsSum ts t → AreNamedTokens ts → HasNames t
sum_tree_named ts t (s, d, e) n = subst HasNames e (sum_named d n)

line_named : (ts : List Token) (store : Option (List ℕ)) (t : Tree) → IsLine ts store t → AreNamedTokens ts → HasNames t
line_named ts None t h n = sum_tree_named ts t h n
line_named ts (Some x) t (us, e, h) n = sum_tree_named us t h (named_front us (arrow_mark ∷ name x ∷ []) (subst AreNamedTokens e n))

-- what a text reads as
pub read_named : {text : List ℕ} {tokens : List Placed} {store : Option (List ℕ)} {t : Tree} → ReadsText text tokens store t → HasNames t
read_named {text} {tokens} {store} {t} r = line_named (bare tokens) store t r.line-is (scanned_named (only_tokens text tokens r.cut))

-- the name of a store
store_named : (ts : List Token) (x : List ℕ) (t : Tree) → IsLine ts (Some x) t → AreNamedTokens ts → is_name x ≡ true
store_named ts x t (us, e, h) n = (named_back us (arrow_mark ∷ name x ∷ []) (subst AreNamedTokens e n)).1.0

pub read_name : {text : List ℕ} {tokens : List Placed} {x : List ℕ} {t : Tree} → ReadsText text tokens (Some x) t → is_name x ≡ true
read_name {text} {tokens} {x} {t} r = store_named (bare tokens) x t r.line-is (scanned_named (only_tokens text tokens r.cut))

-- ---- the names in a tree

abbrev AreNames : List (List ℕ) → Type 0
AreNames xs = (x : List ℕ) → Contains xs x → is_name x ≡ true

both_names : (xs ys : List (List ℕ)) → AreNames xs → AreNames ys → AreNames (xs ++ ys)
both_names xs ys h k x m = elim (Contains-append_cases xs ys x m) [ inl p ↦ h x p | inr q ↦ k x q ]

names_front : (xs ys : List (List ℕ)) → AreNames (xs ++ ys) → AreNames xs
names_front xs ys h x m = h x (Contains-append_left xs ys x m)

names_back : (xs ys : List (List ℕ)) → AreNames (xs ++ ys) → AreNames ys
names_back xs ys h x m = h x (Contains-append_right xs ys x m)

mutual
  pub its_names : (t : Tree) → HasNames t → AreNames (names t)
  its_names (symbol y) h = λ x m. subst (λ z. is_name z ≡ true) (only_one y x m) h
  its_names (add ts) h = their_names ts h.1
  its_names (mult ts) h = their_names ts h.1
  its_names (power b e) h = both_names (names b) (names e) (its_names b h.1) (its_names e h.2)
  its_names (root a) h = its_names a h.1
  its_names (neg a) h = its_names a h.1
  its_names (sub a b) h = both_names (names a) (names b) (its_names a h.1) (its_names b h.2)
  its_names (div a b) h = both_names (names a) (names b) (its_names a h.1) (its_names b h.2)
  its_names t h = λ x m. absurd (nobody x m)

  their_names : (ts : Trees) → AllPartsOf IsNamed ts → AreNames (names_of ts)
  their_names none h = λ x m. absurd (nobody x m)
  their_names (more t ts) h = both_names (names t) (names_of ts) (its_names t h.0) (their_names ts h.1)

mutual
  pub with_names : (t : Tree) → AreNames (names t) → HasNames t
  with_names (num q) h = tt
  with_names (symbol y) h = h y (0, omega arith, refl)
  with_names undef h = tt
  with_names (add ts) h = (tt, all_with_names ts h)
  with_names (mult ts) h = (tt, all_with_names ts h)
  with_names (power b e) h = (tt, with_names b (names_front (names b) (names e) h), with_names e (names_back (names b) (names e) h))
  with_names (root a) h = (tt, with_names a h)
  with_names (neg a) h = (tt, with_names a h)
  with_names (sub a b) h = (tt, with_names a (names_front (names a) (names b) h), with_names b (names_back (names a) (names b) h))
  with_names (div a b) h = (tt, with_names a (names_front (names a) (names b) h), with_names b (names_back (names a) (names b) h))

  all_with_names : (ts : Trees) → AreNames (names_of ts) → AllPartsOf IsNamed ts
  all_with_names none h = tt
  all_with_names (more t ts) h = (with_names t (names_front (names t) (names_of ts) h), all_with_names ts (names_back (names t) (names_of ts) h))

-- ---- stored trees in the places of their names

mutual
  written_named : (t : Tree) → IsWritable t → HasNames t
  written_named (num q) h = tt
  written_named (symbol x) h = h
  written_named undef h = tt
  written_named (add ts) h = (tt, all_written_named ts h)
  written_named (mult ts) h = (tt, all_written_named ts h)
  written_named (power b e) h = (tt, written_named b h.0, written_named e h.1)
  written_named (root a) h = (tt, written_named a h)
  written_named (neg a) h = (tt, written_named a h)
  written_named (sub a b) h = (tt, written_named a h.0, written_named b h.1)
  written_named (div a b) h = (tt, written_named a h.0, written_named b h.1)

  all_written_named : (ts : Trees) → AreWritable ts → AllPartsOf IsNamed ts
  all_written_named none h = tt
  all_written_named (more t ts) h = (written_named t h.0, all_written_named ts h.1)

mutual
  replaced_named : (x : List ℕ) (u t : Tree) → HasNames u → HasNames t → HasNames (replaced x u t)
  replaced_named x u (num q) n h = tt
  replaced_named x u (symbol y) n h = by_test (λ b. HasNames (cond b u (symbol y))) (bytes_eq y x) (λ e. n) (λ e. h)
  replaced_named x u undef n h = tt
  replaced_named x u (add ts) n h = (tt, all_replaced_named x u ts n h.1)
  replaced_named x u (mult ts) n h = (tt, all_replaced_named x u ts n h.1)
  replaced_named x u (power b e) n h = (tt, replaced_named x u b n h.1, replaced_named x u e n h.2)
  replaced_named x u (root a) n h = (tt, replaced_named x u a n h.1)
  replaced_named x u (neg a) n h = (tt, replaced_named x u a n h.1)
  replaced_named x u (sub a b) n h = (tt, replaced_named x u a n h.1, replaced_named x u b n h.2)
  replaced_named x u (div a b) n h = (tt, replaced_named x u a n h.1, replaced_named x u b n h.2)

  all_replaced_named : (x : List ℕ) (u : Tree) (ts : Trees) → HasNames u → AllPartsOf IsNamed ts → AllPartsOf IsNamed (replaced_in x u ts)
  all_replaced_named x u none n h = tt
  all_replaced_named x u (more t ts) n h = (replaced_named x u t n h.0, all_replaced_named x u ts n h.1)

-- a stored tree can be written
root_written : (i : ℕ) (f : Forest) → AreWritable (plains f) → IsWritable (plain (root_tree i f))
root_written i empty h = tt
root_written i (tree l k r) h = by_test (λ b. IsWritable (plain (cond b (tree l k empty) (root_tree i r)))) (eqb l.id i) (λ e. h.0) (λ e. root_written i r h.1)

filled_named : (f : Forest) (es : List Entry) (t : Tree) → AreWritable (plains f) → HasNames t → HasNames (filled (map (value_in f) es) t)
filled_named f [] t w h = h
filled_named f (e ∷ es) t w h = filled_named f es (replaced e.name (plain (root_tree e.tree f)) t) w (replaced_named e.name (plain (root_tree e.tree f)) t (written_named (plain (root_tree e.tree f)) (root_written e.tree f w)) h)

pub becomes_named : (table : Table) (f : Forest) (t : Tree) → AreWritable (plains f) → HasNames t → HasNames (filled (values table f) t)
becomes_named table f t w h = filled_named f (entries table) t w h
