-- What is written of the nodes of a layout is its LaTeX text, and there is room for it.
use Rattle.pool_layouts.proofs.Shared.{◌≡◌, ◌∙◌, ℕ, suc, ◌+◌, ◌*◌, ◌-◌, ◌≤◌, ◌==◌, List, [], ◌∷◌, ◌++◌, length, nat_abs, nat_eq, Bool, true, false, if◌then◌else◌, codes, refl, sym, ap, arith, length-append}
use Rattle.pool_layouts.proofs.Shared.{append_assoc, append-nil, lowest, decimal, eqb-true, Kind, Payload, rational, named, bare, kind_of_payload, size_of_payload, IsPayload, numerator_is, spelled}
use Rattle.pool_layouts.proofs.Shared.{Forest, empty, tree, arity, bytes_in, drawn, drawings, drawing, composes, AllComposed, AllValid, State, Stands, forest, holds, tree_at, valid, bytes_nodes, one_at}
use Rattle.std.specs.Prelude.{take, drop}
use Rattle.calc_terms.specs.declared.kind.Kind.TheVariants as kind
use Rattle.line_text.proofs.Room.{leaf_short}
use Rattle.pool_layouts.specs.{Latex.{latex, latexes, latex_name, is_indexed}, LatexNodes.{latex_between, latex_close, latex_front}}

-- trees side by side, the last parts of a node of a kind
abbrev pub latex_parts : Kind → Forest → List ℕ
latex_parts j empty = []
latex_parts j (tree l k r) =
    let i = kind_of_payload l.payload in
    (latex_between j (suc (arity r)) ++ (latex_front l.payload ++ (latex_parts i k ++ latex_close i))) ++ latex_parts j r

-- a node over its parts
abbrev pub latex_node : Payload → Forest → List ℕ
latex_node x k = latex_front x ++ (latex_parts (kind_of_payload x) k ++ latex_close (kind_of_payload x))

-- ---- the text

fraction_is : (a b front bar close : List ℕ) → front ++ (a ++ (bar ++ (b ++ close))) ≡ front ++ ((a ++ ((bar ++ b) ++ [])) ++ close)
fraction_is a b front bar close = simp (append-nil, append_assoc)

one_is : (a front close : List ℕ) → front ++ (a ++ close) ≡ front ++ ((a ++ []) ++ close)
one_is a front close = simp append-nil

no_part : (f : Forest) → nat_eq (arity f) 0 ≡ true → f ≡ empty
no_part empty h = refl
no_part (tree l k r) h = absurd (omega (arith, eqb-true (arity (tree l k r)) 0 h))

leaf_is : (x : Payload) (k : Forest) (bytes : List ℕ) → k ≡ empty → bytes ≡ latex_front x → latex_close (kind_of_payload x) ≡ [] → bytes ≡ latex_node x k
leaf_is x k bytes e f g = rw (e, g, f) (sym (append-nil (latex_front x)))

-- the text of each tree is that
abbrev AreTexts : Forest → Type 0
AreTexts empty = Unit {0}
AreTexts (tree l k r) = (latex (drawn l.payload (drawings k)) ≡ latex_node l.payload k) × AreTexts r

row_is : (f : Forest) → AreTexts f → latexes (drawings f) ≡ latex_parts kind.Row f
row_is empty b = refl
row_is (tree l k r) b = λ i. b.0 i ++ row_is r b.1 i

node_is : (x : Payload) (k : Forest) → composes x (arity k) ≡ true → IsPayload x → AreTexts k → latex (drawn x (drawings k)) ≡ latex_node x k
node_is (rational r) k h p b = leaf_is (rational r) k (decimal (nat_abs (lowest r.num r.den).num)) (no_part k h) (ap (λ z. decimal (nat_abs z)) (numerator_is r p)) refl
node_is (named y) k h p b = leaf_is (named y) k (latex_name y) (no_part k h) refl refl
node_is (bare kind.Plus) k h p b = leaf_is (bare kind.Plus) k (codes "+") (no_part k h) refl refl
node_is (bare kind.Minus) k h p b = leaf_is (bare kind.Minus) k (codes "-") (no_part k h) refl refl
node_is (bare kind.Times) k h p b = leaf_is (bare kind.Times) k (codes " \\times ") (no_part k h) refl refl
node_is (bare kind.Row) k h p b = row_is k b ∙ sym (append-nil (latex_parts kind.Row k))
node_is (bare kind.Fraction) (tree l a (tree m c empty)) h p b =
    (λ i. codes "\\frac{" ++ (b.0 i ++ (codes "}{" ++ (b.1.0 i ++ codes "}")))) ∙ fraction_is (latex_node l.payload a) (latex_node m.payload c) (codes "\\frac{") (codes "}{") (codes "}")
node_is (bare kind.Raised) (tree l a empty) h p b = (λ i. codes "^{" ++ (b.0 i ++ codes "}")) ∙ one_is (latex_node l.payload a) (codes "^{") (codes "}")
node_is (bare kind.Radical) (tree l a empty) h p b = (λ i. codes "\\sqrt{" ++ (b.0 i ++ codes "}")) ∙ one_is (latex_node l.payload a) (codes "\\sqrt{") (codes "}")
node_is (bare kind.Paren) (tree l a empty) h p b = (λ i. codes "\\left(" ++ (b.0 i ++ codes "\\right)")) ∙ one_is (latex_node l.payload a) (codes "\\left(") (codes "\\right)")
node_is (bare k) f h p b = absurd (grind (arith, eqb-true))

texts_are : (f : Forest) → AllComposed f → AllValid f → AreTexts f
texts_are empty c v = tt
texts_are (tree l k r) c v = (node_is l.payload k c.0 v.0 (texts_are k c.1 v.1), texts_are r c.2 v.2)

pub latex_is : (t : Forest) → arity t ≡ 1 → AllComposed t → AllValid t → latex_parts kind.Row t ≡ latex (drawing t)
latex_is t one c v = sym (row_is t (texts_are t c v)) ∙ by t one
  where
    by : (f : Forest) → arity f ≡ 1 → latexes (drawings f) ≡ latex (drawing f)
    by (tree l k empty) e = append-nil (latex (drawn l.payload (drawings k)))
    by f e = absurd (omega (arith, e))

-- ---- its room

pub name_short : (x : List ℕ) → length (latex_name x) ≤ length x + 9
name_short x = by (length x == 1) (is_indexed x) x
  where
    by : (b c : Bool) (y : List ℕ) → length (if b then y else (if c then take 1 y ++ (codes "_{" ++ (drop 1 y ++ codes "}")) else codes "\\mathrm{" ++ (y ++ codes "}"))) ≤ length y + 9
    by true c y = omega arith
    by false true [] = omega arith
    by false true (c ∷ cs) = omega (arith, length-append cs (codes "}"))
    by false false y = omega (arith, length-append y (codes "}"))

between_short : (j : Kind) (n : ℕ) → length (latex_between j n) ≤ 2
between_short kind.Fraction n = by (n == 1)
  where
    by : (b : Bool) → length {A = ℕ} (if b then codes "}{" else []) ≤ 2
    by true = omega arith
    by false = omega arith
between_short j n = omega arith

node_short : (x : Payload) → IsPayload x → length (latex_front x) + length (latex_close (kind_of_payload x)) + 2 ≤ 2 * size_of_payload x
node_short (rational r) h = omega (arith, leaf_short (rational r) h)
node_short (named x) h = omega (arith, name_short x, (spelled x h).short)
node_short (bare k) h = bare_short k
  where
    bare_short : (k : Kind) → length (latex_front (bare k)) + length (latex_close k) + 2 ≤ 2 * size_of_payload (bare k)
    bare_short k = grind arith

parts_short : (j : Kind) (f : Forest) → AllValid f → length (latex_parts j f) ≤ 2 * bytes_in f
parts_short j empty h = omega arith
parts_short j (tree l k r) h =
    let i = kind_of_payload l.payload in
    omega (
      arith,
      node_short l.payload h.0,
      between_short j (suc (arity r)),
      parts_short i k h.1,
      parts_short j r h.2,
      length-append (latex_parts i k) (latex_close i),
      length-append (latex_front l.payload) (latex_parts i k ++ latex_close i),
      length-append (latex_between j (suc (arity r))) (latex_node l.payload k),
      length-append (latex_between j (suc (arity r)) ++ latex_node l.payload k) (latex_parts j r),
    )

some_bytes : (f : Forest) → arity f ≡ 1 → 1 ≤ bytes_in f
some_bytes empty e = absurd (omega (arith, e))
some_bytes (tree l k r) e = omega (arith, bytes_nodes (tree l k r))

-- twice the bytes of a layout have room for its text
pub has_room : (i : ℕ) (s : State) (capacity : ℕ) (bytes : List ℕ) → Stands s → holds i (forest s) ≡ true → 2 * bytes_in (tree_at i (forest s)) ≤ capacity - length bytes
    → length (bytes ++ latex_parts kind.Row (tree_at i (forest s))) ≤ capacity
has_room i s capacity bytes st h room =
    let t = tree_at i (forest s) in
    omega (arith, parts_short kind.Row t (valid s i st h), length-append bytes (latex_parts kind.Row t), some_bytes t (one_at i (forest s) h), room)
