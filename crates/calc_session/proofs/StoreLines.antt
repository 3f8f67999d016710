-- The line that stores a tree under a name reads as the tree and the name.
use Rattle.std.proofs.Common.{◌≡◌, ◌∙◌, ◌++◌, ◌∷◌, [], ℕ, List, Bool, true, false, Option, Some, None, zero, suc, map, slice_get, subst, codes, ◌≤◌, refl, sym, ap, arith, append-nil, length}
use Rattle.std.specs.{Prelude.{◌==◌, ◌&&◌, not, nat_le, if◌then◌else◌, Contains}, List.{list_all}, Option.{option_map}}
use Rattle.calc_language.proofs.Spelled.{in_text, tree_scanned}
use Rattle.calc_language.specs.{Reads.{Reads, Stores}, Texts.{text}}
use Rattle.calc_language.specs.Tokens.{Mark, Scans, Token, arrow_mark, arrow_sign, at_blank, at_end, at_token, decimals, first_mark, if_so, keep, leading_run, literal_at, marks, name, or_else, rest_after, token_at, token_of_word, word_at}
use Rattle.calc_terms.specs.{Name.{is_digit, is_letter, is_name, is_name_byte}, Trees.{Tree, names, symbol}}
use Rattle.calc_terms.proofs.SmallLaws.{behind, in_front}
use Rattle.calc_session.specs.Naming.{StoresLaterNames}
use Rattle.name_table.specs.{Filling.{value_in}, Held.{HoldLaterNames, IsHeld}, Tables.{Entry, Table}}
use Rattle.tree_handles.specs.{Expressions.{plain}, Forest.{Forest}, Roots.{root_tree}}

-- ---- a token ends where an arrow begins, whose first byte is 226

run_more : (p : ℕ → Bool) → p 226 ≡ false → (bs y : List ℕ) → leading_run p (bs ++ 226 ∷ y) ≡ ((leading_run p bs).0, (leading_run p bs).1 ++ 226 ∷ y)
run_more p n [] y = ap (λ t. keep t 226 y (leading_run p y)) n
run_more p n (b ∷ bs) y = by (p b) (run_more p n bs y)
  where
    by : (x : Bool) → leading_run p (bs ++ 226 ∷ y) ≡ ((leading_run p bs).0, (leading_run p bs).1 ++ 226 ∷ y)
        → keep x b (bs ++ 226 ∷ y) (leading_run p (bs ++ 226 ∷ y)) ≡ ((keep x b bs (leading_run p bs)).0, (keep x b bs (leading_run p bs)).1 ++ 226 ∷ y)
    by true e = ap (λ (q : List ℕ × List ℕ). (b ∷ q.0, q.1)) e
    by false e = refl

-- what follows is longer
abbrev more : List ℕ → Token × List ℕ → Token × List ℕ
more y p = (p.0, p.1 ++ 226 ∷ y)

word_more : (bs y : List ℕ) → word_at (bs ++ 226 ∷ y) ≡ option_map (more y) (word_at bs)
unfolding word_at
word_more bs y = rw (run_more is_name_byte refl bs y) (by (nat_le (length ((leading_run is_name_byte bs).0)) 7))
  where
    by : (x : Bool)
        → (if x then Some (token_of_word ((leading_run is_name_byte bs).0), (leading_run is_name_byte bs).1 ++ 226 ∷ y) else None) ≡ option_map (more y) (if x then Some (token_of_word ((leading_run is_name_byte bs).0), (leading_run is_name_byte bs).1) else None)
    by true = refl
    by false = refl

abbrev run_before : List ℕ → List ℕ × List ℕ → List ℕ × List ℕ
run_before y p = (p.0, p.1 ++ 226 ∷ y)

decimals_more : (bs y : List ℕ) → decimals (bs ++ 226 ∷ y) ≡ ((decimals bs).0, (decimals bs).1 ++ 226 ∷ y)
decimals_more [] [] = refl
decimals_more [] (c ∷ y) = refl
decimals_more (b ∷ []) y = by (b == 46)
  where
    by : (x : Bool) → ◌≡◌ {A = List ℕ × List ℕ} (elim (x && false) [ true ↦ leading_run is_digit (226 ∷ y) | false ↦ ([], b ∷ 226 ∷ y) ]) ([], b ∷ 226 ∷ y)
    by true = refl
    by false = refl
decimals_more (b ∷ c ∷ bs) y = by ((b == 46) && is_digit c)
  where
    by : (x : Bool) → ◌≡◌ {A = List ℕ × List ℕ} (elim x [ true ↦ leading_run is_digit (c ∷ (bs ++ 226 ∷ y)) | false ↦ ([], b ∷ c ∷ (bs ++ 226 ∷ y)) ])
        (run_before y (elim x [ true ↦ leading_run is_digit (c ∷ bs) | false ↦ ([], b ∷ c ∷ bs) ]))
    by true = run_more is_digit refl (c ∷ bs) y
    by false = refl

literal_more : (bs y : List ℕ) → literal_at (bs ++ 226 ∷ y) ≡ more y (literal_at bs)
unfolding literal_at
literal_more bs y = rw (run_more is_digit refl bs y, decimals_more ((leading_run is_digit bs).1) y) refl

-- no byte but the first is 226
abbrev is_fine : List ℕ → Bool
is_fine [] = false
is_fine (q ∷ ps) = list_all (λ p. not (p == 226)) ps

rest_more : (ps : List ℕ) → list_all (λ p. not (p == 226)) ps ≡ true → (bs y : List ℕ) → rest_after ps (bs ++ 226 ∷ y) ≡ option_map (λ r. r ++ 226 ∷ y) (rest_after ps bs)
rest_more [] n bs y = refl
rest_more (q ∷ ps) n [] y = by (q == 226) n
  where
    by : (x : Bool) → (not x && list_all (λ p. not (p == 226)) ps) ≡ true → if_so x (rest_after ps y) ≡ None
    by true e = absurd cc
    by false e = refl
rest_more (q ∷ ps) n (b ∷ bs) y = by (q == b) (rest_more ps (others (q == 226) n) bs y)
  where
    others : (x : Bool) → (not x && list_all (λ p. not (p == 226)) ps) ≡ true → list_all (λ p. not (p == 226)) ps ≡ true
    others true e = absurd cc
    others false e = e

    by : (x : Bool) → rest_after ps (bs ++ 226 ∷ y) ≡ option_map (λ r. r ++ 226 ∷ y) (rest_after ps bs) → if_so x (rest_after ps (bs ++ 226 ∷ y)) ≡ option_map (λ r. r ++ 226 ∷ y) (if_so x (rest_after ps bs))
    by true e = e
    by false e = refl

rest_fine : (ps : List ℕ) → is_fine ps ≡ true → (b : ℕ) (bs y : List ℕ) → rest_after ps (b ∷ (bs ++ 226 ∷ y)) ≡ option_map (λ r. r ++ 226 ∷ y) (rest_after ps (b ∷ bs))
rest_fine [] n b bs y = absurd cc
rest_fine (q ∷ ps) n b bs y = by (q == b) (rest_more ps n bs y)
  where
    by : (x : Bool) → rest_after ps (bs ++ 226 ∷ y) ≡ option_map (λ r. r ++ 226 ∷ y) (rest_after ps bs) → if_so x (rest_after ps (bs ++ 226 ∷ y)) ≡ option_map (λ r. r ++ 226 ∷ y) (if_so x (rest_after ps bs))
    by true e = e
    by false e = refl

mark_more : (ms : List Mark) → list_all (λ m. is_fine m.bytes) ms ≡ true → (b : ℕ) (bs y : List ℕ) → first_mark ms (b ∷ (bs ++ 226 ∷ y)) ≡ option_map (more y) (first_mark ms (b ∷ bs))
mark_more [] n b bs y = refl
mark_more (m ∷ ms) n b bs y =
    let k = parts (is_fine m.bytes) (list_all (λ m. is_fine m.bytes) ms) n in
    rw (rest_fine m.bytes k.0 b bs y, mark_more ms k.1 b bs y) (by (rest_after m.bytes (b ∷ bs)))
  where
    parts : (x z : Bool) → (x && z) ≡ true → (x ≡ true) × (z ≡ true)
    parts true z e = (refl, e)
    parts false z e = absurd cc

    by : (r : Option (List ℕ)) → or_else (option_map (λ r. r ++ 226 ∷ y) r) m.token (option_map (more y) (first_mark ms (b ∷ bs))) ≡ option_map (more y) (or_else r m.token (first_mark ms (b ∷ bs)))
    by None = refl
    by (Some r) = refl

token_more : (bs y : List ℕ) (t : Token) (rest : List ℕ) → token_at bs ≡ Some (t, rest) → token_at (bs ++ 226 ∷ y) ≡ Some (t, rest ++ 226 ∷ y)
token_more [] y t rest e = absurd cc
token_more (b ∷ bs) y t rest e = by (is_digit b) (is_letter b) ∙ ap (option_map (more y)) e
  where
    by : (d l : Bool)
        → (if d then Some (literal_at (b ∷ (bs ++ 226 ∷ y))) else if l then word_at (b ∷ (bs ++ 226 ∷ y)) else first_mark marks (b ∷ (bs ++ 226 ∷ y))) ≡ option_map (more y) (if d then Some (literal_at (b ∷ bs)) else if l then word_at (b ∷ bs) else first_mark marks (b ∷ bs))
    by true l = ap (λ (p : Token × List ℕ). Some p) (literal_more (b ∷ bs) y)
    by false true = word_more (b ∷ bs) y
    by false false = mark_more marks refl b bs y

scans_before : {bs : List ℕ} {ts : List Token} → Scans bs ts → (y : List ℕ) (us : List Token) → Scans (226 ∷ y) us → Scans (bs ++ 226 ∷ y) (ts ++ us)
scans_before at_end y us s = s
scans_before (at_blank h d) y us s = at_blank h (scans_before d y us s)
scans_before (at_token {bs} {rest} {t} e d) y us s = at_token (token_more bs y t rest e) (scans_before d y us s)

-- ---- a store

name_scanned : (x : List ℕ) → is_name x ≡ true → Scans x (name x ∷ [])
name_scanned x h = tree_scanned in_text (symbol x) x h (sym (append-nil x))

pub store_read : (t : Tree) (x : List ℕ) → Reads (text t) t → is_name x ≡ true → Stores (text t ++ (arrow_sign ++ x)) t x
store_read t x (ts, scans, sum) h =
    (ts ++ arrow_mark ∷ name x ∷ [], scans_before scans (134 ∷ 146 ∷ x) (arrow_mark ∷ name x ∷ []) (at_token refl (name_scanned x h)), (ts, refl, sum))

-- ---- what is stored holds no name that is stored before it

lacks_before : (f : Forest) (es : List Entry) (before : List (List ℕ)) → HoldLaterNames before (map (value_in f) es) → (x : List ℕ) → Contains before x → (n : ℕ) (e : Entry) → slice_get es n ≡ Some e → ¬ (Contains (names (plain (root_tree e.tree f))) x)
lacks_before f [] before h x c n e s = absurd cc
lacks_before f (v ∷ es) before h x c zero e s = let same : v ≡ e = cc in subst (λ (y : Entry). ¬ (Contains (names (plain (root_tree y.tree f))) x)) same (h.0 x (behind v.name x before c))
lacks_before f (v ∷ es) before h x c (suc n) e s = lacks_before f es (v.name ∷ before) h.1 x (behind v.name x before c) n e s

lacks_earlier : (f : Forest) (es : List Entry) (before : List (List ℕ)) → HoldLaterNames before (map (value_in f) es) → (m n : ℕ) (d e : Entry) → m ≤ n → slice_get es m ≡ Some d → slice_get es n ≡ Some e → ¬ (Contains (names (plain (root_tree e.tree f))) d.name)
lacks_earlier f [] before h m n d e l p q = absurd cc
lacks_earlier f (v ∷ es) before h zero zero d e l p q =
    let same : v ≡ e = cc in
    let first : v ≡ d = cc in
    subst (λ (y : Entry). ¬ (Contains (names (plain (root_tree e.tree f))) y.name)) first (subst (λ (y : Entry). ¬ (Contains (names (plain (root_tree y.tree f))) v.name)) same (h.0 v.name (in_front v.name before)))
lacks_earlier f (v ∷ es) before h zero (suc n) d e l p q =
    let first : v ≡ d = cc in
    subst (λ (y : Entry). ¬ (Contains (names (plain (root_tree e.tree f))) y.name)) first (lacks_before f es (v.name ∷ before) h.1 v.name (in_front v.name before) n e q)
lacks_earlier f (v ∷ es) before h (suc m) zero d e l p q = absurd (omega (arith, l))
lacks_earlier f (v ∷ es) before h (suc m) (suc n) d e l p q = lacks_earlier f es (v.name ∷ before) h.1 m n d e (omega (arith, l)) p q

pub stored_later : (t : Table) (f : Forest) → IsHeld t f → StoresLaterNames t f
stored_later t f h = record {
  no_ans = λ n e s. lacks_before f t.stored (codes "ans" ∷ []) h.later.1 (codes "ans") (in_front (codes "ans") []) n e s;
  none_before = λ m n d e l p q. lacks_earlier f t.stored (codes "ans" ∷ []) h.later.1 m n d e l p q;
}
