-- A LaTeX text tells the serial text, and so the face.
use Rattle.pool_layouts.proofs.Shared.{⊤, ◌≡◌, ◌∙◌, if◌then◌else◌, ℕ, zero, suc, List, [], ◌∷◌, ◌++◌, length, nat_abs, ◌==◌, Bool, true, false, codes, refl, sym, ap, subst, arith, append_assoc, append-nil}
use Rattle.pool_layouts.proofs.Shared.{list_all, and_parts, nat_tests, is_digit, is_name_byte, spelled, decimal, decimal_is, times_sign, root_sign, IsWritable, AreWritable, IsComplete, IsDefined, Tree}
use Rattle.pool_layouts.proofs.Shared.{num, symbol, undef, add, mult, power, root, neg, sub, div, Trees, none, more, Layout, number, name, plus, minus, times, row, fraction, raised, radical, paren}
use Rattle.pool_layouts.proofs.Shared.{Layouts, nothing, beside, unless, layout, layout_of_sum, layout_of_terms, layout_of_product, layout_of_factors, serial, serials}
use Rattle.std.specs.Prelude.{nat_lt, ◌&&◌}
use Rattle.calc_terms.specs.Name.{is_name}
use Rattle.calc_language.proofs.ReadLaws.{one_tree}
use Rattle.calc_language.specs.Reads.{Reads}
use Rattle.pool_layouts.proofs.SerialTokens.{serial_reads}
use Rattle.pool_layouts.specs.Latex.{latex, latexes, latex_name}

-- ---- a reader that writes the serial text

-- what a closing brace ends: the upper or the lower part of a fraction, an exponent or what stands under a root sign, a name
data Group : Type 0 where
  upper lower one silent : Group

-- a reader passes over so many bytes, has read a backslash or not, and stands in these groups, the innermost first
record Reader : Type 0 where
  skips : ℕ
  commanded : Bool
  inside : List Group

abbrev in_groups : List Group → Reader
in_groups gs = record { skips = 0; commanded = false; inside = gs }

-- what it writes, and how it goes on
record Step : Type 0 where
  written : List ℕ
  next : Reader

abbrev going : List ℕ → ℕ → List Group → Step
going w n gs = record { written = w; next = record { skips = n; commanded = false; inside = gs } }

-- after a closing brace
abbrev closing : List Group → Step
closing [] = going [] 0 []
closing (upper ∷ gs) = going (codes ")/(") 1 (lower ∷ gs)
closing (lower ∷ gs) = going (codes "))") 0 gs
closing (one ∷ gs) = going (codes ")") 0 gs
closing (silent ∷ gs) = going [] 0 gs

-- after the first letter of a command
abbrev command : ℕ → List Group → Step
command c gs =
    if c == 102 then going (codes "((") 4 (upper ∷ gs)
    else (if c == 115 then going (root_sign ++ codes "(") 4 (one ∷ gs)
    else (if c == 109 then going [] 6 (silent ∷ gs)
    else (if c == 108 then going (codes "(") 4 gs else going (codes ")") 5 gs)))

-- after another byte
abbrev plainly : ℕ → List Group → Step
plainly c gs =
    if c == 92 then record { written = []; next = record { skips = 0; commanded = true; inside = gs } }
    else (if c == 94 then going (codes "^(") 1 (one ∷ gs)
    else (if c == 95 then going [] 1 (silent ∷ gs)
    else (if c == 32 then going times_sign 7 gs
    else (if c == 125 then closing gs else going (c ∷ []) 0 gs))))

abbrev stepped : ℕ → Bool → List Group → ℕ → Step
stepped (suc n) b gs c = record { written = []; next = record { skips = n; commanded = b; inside = gs } }
stepped zero true gs c = command c gs
stepped zero false gs c = plainly c gs

abbrev read : Reader → List ℕ → List ℕ
read r [] = []
read r (c ∷ cs) =
    let s = stepped r.skips r.commanded r.inside c in
    s.written ++ read s.next cs

-- ---- letters and digits are read as they stand

plain_byte : (c : ℕ) (gs : List Group) → is_name_byte c ≡ true → plainly c gs ≡ going (c ∷ []) 0 gs
plain_byte c gs h =
    rw (
      (let e : (c == 92) ≡ false = grind (arith, nat_tests) in e),
      (let e : (c == 94) ≡ false = grind (arith, nat_tests) in e),
      (let e : (c == 95) ≡ false = grind (arith, nat_tests) in e),
      (let e : (c == 32) ≡ false = grind (arith, nat_tests) in e),
      (let e : (c == 125) ≡ false = grind (arith, nat_tests) in e),
    )
    refl

byte_read : (c : ℕ) (gs : List Group) (rest : List ℕ) → is_name_byte c ≡ true → read (in_groups gs) (c ∷ rest) ≡ c ∷ read (in_groups gs) rest
byte_read c gs rest h = ap (λ (s : Step). s.written ++ read s.next rest) (plain_byte c gs h)

bytes_read : (cs : List ℕ) (gs : List Group) (rest : List ℕ) → list_all is_name_byte cs ≡ true → read (in_groups gs) (cs ++ rest) ≡ cs ++ read (in_groups gs) rest
bytes_read [] gs rest h = refl
bytes_read (c ∷ cs) gs rest h =
    let (a, b) = and_parts (is_name_byte c) (list_all is_name_byte cs) h in
    byte_read c gs (cs ++ rest) a ∙ ap (λ (x : List ℕ). c ∷ x) (bytes_read cs gs rest b)

digit_name : (c : ℕ) → is_digit c ≡ true → is_name_byte c ≡ true
digit_name c h = grind (arith, nat_tests)

digits_name : (cs : List ℕ) → list_all is_digit cs ≡ true → list_all is_name_byte cs ≡ true
digits_name [] h = refl
digits_name (c ∷ cs) h =
    let (a, b) = and_parts (is_digit c) (list_all is_digit cs) h in
    rw (digit_name c a, digits_name cs b) refl

-- in a group that writes nothing
silent_read : (cs : List ℕ) (gs : List Group) (rest : List ℕ) → list_all is_name_byte cs ≡ true → read (in_groups (silent ∷ gs)) ((cs ++ codes "}") ++ rest) ≡ cs ++ read (in_groups gs) rest
silent_read cs gs rest h = ap (read (in_groups (silent ∷ gs))) (append_assoc cs (codes "}") rest) ∙ bytes_read cs (silent ∷ gs) (codes "}" ++ rest) h

-- a name of two bytes at least, by whether digits stand below
long_name : (c d : ℕ) (ds : List ℕ)
    → latex_name (c ∷ d ∷ ds) ≡ (if list_all is_digit (d ∷ ds) then (c ∷ []) ++ (codes "_{" ++ ((d ∷ ds) ++ codes "}")) else codes "\\mathrm{" ++ ((c ∷ d ∷ ds) ++ codes "}"))
long_name c d ds =
    let x = c ∷ d ∷ ds in
    let below = (c ∷ []) ++ (codes "_{" ++ ((d ∷ ds) ++ codes "}")) in
    let upright = codes "\\mathrm{" ++ (x ++ codes "}") in
    let not_one : (length x == 1) ≡ false = grind (arith, nat_tests) in
    let more_than_one : nat_lt 1 (length x) ≡ true = grind (arith, nat_tests) in
    ap (λ (b : Bool). if b then x else (if nat_lt 1 (length x) && list_all is_digit (d ∷ ds) then below else upright)) not_one
    ∙ ap (λ (b : Bool). if b && list_all is_digit (d ∷ ds) then below else upright) more_than_one

name_read : (x : List ℕ) (gs : List Group) (rest : List ℕ) → is_name x ≡ true → read (in_groups gs) (latex_name x ++ rest) ≡ x ++ read (in_groups gs) rest
name_read x gs rest h = by x (spelled x h).spelled h
  where
    longer : (b : Bool) (c d : ℕ) (ds : List ℕ) → list_all is_name_byte (c ∷ d ∷ ds) ≡ true
        → read (in_groups gs) ((if b then (c ∷ []) ++ (codes "_{" ++ ((d ∷ ds) ++ codes "}")) else codes "\\mathrm{" ++ ((c ∷ d ∷ ds) ++ codes "}")) ++ rest) ≡ (c ∷ d ∷ ds) ++ read (in_groups gs) rest
    longer true c d ds s =
        let (a, b) = and_parts (is_name_byte c) (list_all is_name_byte (d ∷ ds)) s in
        byte_read c gs (codes "_{" ++ (((d ∷ ds) ++ codes "}") ++ rest)) a ∙ ap (λ (y : List ℕ). c ∷ y) (silent_read (d ∷ ds) gs rest b)
    longer false c d ds s = silent_read (c ∷ d ∷ ds) gs rest s

    by : (y : List ℕ) → list_all is_name_byte y ≡ true → is_name y ≡ true → read (in_groups gs) (latex_name y ++ rest) ≡ y ++ read (in_groups gs) rest
    by [] s n = absurd cc
    by (c ∷ []) s n = bytes_read (c ∷ []) gs rest s
    by (c ∷ d ∷ ds) s n = ap (λ (y : List ℕ). read (in_groups gs) (y ++ rest)) (long_name c d ds) ∙ longer (list_all is_digit (d ∷ ds)) c d ds s

-- ---- layouts whose names are names

abbrev mutual
  HasNames : Layout → Type 0
  HasNames (name x) = is_name x ≡ true
  HasNames (row ls) = HaveNames ls
  HasNames (fraction a b) = HasNames a × HasNames b
  HasNames (raised a) = HasNames a
  HasNames (radical a) = HasNames a
  HasNames (paren a) = HasNames a
  HasNames l = ⊤

  HaveNames : Layouts → Type 0
  HaveNames nothing = ⊤
  HaveNames (beside l ls) = HasNames l × HaveNames ls

fraction_text : (front a bar b close rest : List ℕ) → (front ++ (a ++ (bar ++ (b ++ close)))) ++ rest ≡ front ++ (a ++ (bar ++ (b ++ (close ++ rest))))
fraction_text front a bar b close rest = simp append_assoc

one_text : (front a close rest : List ℕ) → (front ++ (a ++ close)) ++ rest ≡ front ++ (a ++ (close ++ rest))
one_text front a close rest = simp append_assoc

mutual
  layout_read : (l : Layout) → HasNames l → (gs : List Group) (rest : List ℕ) → read (in_groups gs) (latex l ++ rest) ≡ serial l ++ read (in_groups gs) rest
  layout_read (number q) h gs rest = let n = nat_abs q.num in bytes_read (decimal n) gs rest (digits_name (decimal n) (decimal_is n).all)
  layout_read (name x) h gs rest = name_read x gs rest h
  layout_read plus h gs rest = refl
  layout_read minus h gs rest = refl
  layout_read times h gs rest = refl
  layout_read (row ls) h gs rest = row_read ls h gs rest
  layout_read (fraction a b) h gs rest =
      ap (read (in_groups gs)) (fraction_text (codes "\\frac{") (latex a) (codes "}{") (latex b) (codes "}") rest)
      ∙ ap (λ (x : List ℕ). codes "((" ++ x) (layout_read a h.0 (upper ∷ gs) (codes "}{" ++ (latex b ++ (codes "}" ++ rest)))
      ∙ ap (λ (x : List ℕ). serial a ++ (codes ")/(" ++ x)) (layout_read b h.1 (lower ∷ gs) (codes "}" ++ rest)))
      ∙ sym (fraction_text (codes "((") (serial a) (codes ")/(") (serial b) (codes "))") (read (in_groups gs) rest))
  layout_read (raised a) h gs rest =
      ap (read (in_groups gs)) (one_text (codes "^{") (latex a) (codes "}") rest)
      ∙ ap (λ (x : List ℕ). codes "^(" ++ x) (layout_read a h (one ∷ gs) (codes "}" ++ rest))
      ∙ sym (one_text (codes "^(") (serial a) (codes ")") (read (in_groups gs) rest))
  layout_read (radical a) h gs rest =
      ap (read (in_groups gs)) (one_text (codes "\\sqrt{") (latex a) (codes "}") rest)
      ∙ ap (λ (x : List ℕ). (root_sign ++ codes "(") ++ x) (layout_read a h (one ∷ gs) (codes "}" ++ rest))
      ∙ sym (one_text (root_sign ++ codes "(") (serial a) (codes ")") (read (in_groups gs) rest))
  layout_read (paren a) h gs rest =
      ap (read (in_groups gs)) (one_text (codes "\\left(") (latex a) (codes "\\right)") rest)
      ∙ ap (λ (x : List ℕ). codes "(" ++ x) (layout_read a h gs (codes "\\right)" ++ rest))
      ∙ sym (one_text (codes "(") (serial a) (codes ")") (read (in_groups gs) rest))

  row_read : (ls : Layouts) → HaveNames ls → (gs : List Group) (rest : List ℕ) → read (in_groups gs) (latexes ls ++ rest) ≡ serials ls ++ read (in_groups gs) rest
  row_read nothing h gs rest = refl
  row_read (beside l ls) h gs rest =
      ap (read (in_groups gs)) (append_assoc (latex l) (latexes ls) rest) ∙ layout_read l h.0 gs (latexes ls ++ rest)
      ∙ ap (λ (x : List ℕ). serial l ++ x) (row_read ls h.1 gs rest) ∙ sym (append_assoc (serial l) (serials ls) (read (in_groups gs) rest))

serial_same : (l m : Layout) → HasNames l → HasNames m → latex l ≡ latex m → serial l ≡ serial m
serial_same l m h k e =
    sym (append-nil (serial l)) ∙ sym (layout_read l h [] []) ∙ ap (λ (x : List ℕ). read (in_groups []) (x ++ [])) e ∙ layout_read m k [] [] ∙ append-nil (serial m)

-- ---- faces

names_unless : (t : Bool) (l : Layout) → HasNames l → HasNames (unless t l)
names_unless true l h = h
names_unless false l h = h

mutual
  face_names : (u : Tree) → IsWritable u → HasNames (layout u)
  face_names (num q) w = tt
  face_names (symbol x) w = w
  face_names undef w = tt
  face_names (add ts) w = sum_names ts w
  face_names (mult ts) w = product_names ts w
  face_names (power b e) w = (names_unless _ (layout b) (face_names b w.0), (face_names e w.1, tt))
  face_names (root a) w = face_names a w
  face_names (neg a) w = (tt, (names_unless _ (layout a) (face_names a w), tt))
  face_names (sub a b) w = (names_unless _ (layout a) (face_names a w.0), (tt, (names_unless _ (layout b) (face_names b w.1), tt)))
  face_names (div a b) w = (face_names a w.0, face_names b w.1)

  sum_names : (ts : Trees) → AreWritable ts → HaveNames (layout_of_sum ts)
  sum_names none w = tt
  sum_names (more t ts) w = (names_unless _ (layout t) (face_names t w.0), term_names ts w.1)

  term_names : (ts : Trees) → AreWritable ts → HaveNames (layout_of_terms ts)
  term_names none w = tt
  term_names (more t ts) w = (tt, (names_unless _ (layout t) (face_names t w.0), term_names ts w.1))

  product_names : (ts : Trees) → AreWritable ts → HaveNames (layout_of_product ts)
  product_names none w = tt
  product_names (more t ts) w = (names_unless _ (layout t) (face_names t w.0), factor_names ts w.1)

  factor_names : (ts : Trees) → AreWritable ts → HaveNames (layout_of_factors ts)
  factor_names none w = tt
  factor_names (more t ts) w = (tt, (names_unless _ (layout t) (face_names t w.0), factor_names ts w.1))

-- faces of one LaTeX text are the same
pub latex_tells : (t u : Tree) → IsComplete t → IsDefined t → IsWritable t → IsComplete u → IsDefined u → IsWritable u → latex (layout t) ≡ latex (layout u) → t ≡ u
latex_tells t u c d w c' d' w' e =
    let same = serial_same (layout t) (layout u) (face_names t w) (face_names u w') e in
    one_tree (serial (layout t)) t u (serial_reads t c d w) (subst (λ (x : List ℕ). Reads x u) (sym same) (serial_reads u c' d' w'))
