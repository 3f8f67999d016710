-- What is written of a layout is its serial text.
use Rattle.pool_layouts.proofs.Shared.{◌≡◌, ◌∙◌, ℕ, List, [], ◌++◌, nat_abs, nat_eq, codes, true, refl, sym, ap, arith, append_assoc, append-nil, lowest, decimal, eqb-true}
use Rattle.pool_layouts.proofs.Shared.{root_sign, times_sign, Payload, rational, named, bare, kind_of_payload, IsPayload, numerator_is, Forest, empty, tree, arity, AllNodes, drawn}
use Rattle.pool_layouts.proofs.Shared.{drawings, drawing, composes, AllComposed, serial, serials, IsValid, WholeText, first_place, kind_closing, leaf_bytes, parentheses, written}
use Rattle.calc_terms.specs.declared.kind.Kind.TheVariants as kind

fraction_is : (a b front bar close : List ℕ) → front ++ (a ++ (bar ++ (b ++ close))) ≡ ((front ++ a) ++ ((bar ++ b) ++ [])) ++ close
fraction_is a b front bar close = simp (append-nil, append_assoc)

one_is : (a front close : List ℕ) → front ++ (a ++ close) ≡ ((front ++ a) ++ []) ++ close
one_is a front close = simp (append-nil, append_assoc)

no_part : (f : Forest) → nat_eq (arity f) 0 ≡ true → f ≡ empty
no_part empty h = refl
no_part (tree l k r) h = absurd (omega (arith, eqb-true (arity (tree l k r)) 0 h))

-- what is written of a node behind the sign of its place, where it needs no parentheses
abbrev body_of : Payload → Forest → List ℕ
body_of x k = leaf_bytes x ++ (written (first_place (kind_of_payload x)) k ++ parentheses (kind_closing (kind_of_payload x)))

leaf_written : (x : Payload) (k : Forest) (bytes : List ℕ) → k ≡ empty → bytes ≡ leaf_bytes x → kind_closing (kind_of_payload x) ≡ 0 → bytes ≡ body_of x k
leaf_written x k bytes e f g = rw (e, g, f) (sym (append-nil (leaf_bytes x)))

-- the serial text of each tree is that
abbrev AreBodies : Forest → Type 0
AreBodies empty = Unit {0}
AreBodies (tree l k r) = (serial (drawn l.payload (drawings k)) ≡ body_of l.payload k) × AreBodies r

row_is : (f : Forest) → AreBodies f → serials (drawings f) ≡ written WholeText f
row_is empty b = refl
row_is (tree l k r) b = λ i. b.0 i ++ row_is r b.1 i

body_is : (x : Payload) (k : Forest) → composes x (arity k) ≡ true → IsPayload x → AreBodies k → serial (drawn x (drawings k)) ≡ body_of x k
body_is (rational r) k h p b = leaf_written (rational r) k (decimal (nat_abs (lowest r.num r.den).num)) (no_part k h) (ap (λ z. decimal (nat_abs z)) (numerator_is r p)) refl
body_is (named y) k h p b = leaf_written (named y) k y (no_part k h) refl refl
body_is (bare kind.Plus) k h p b = leaf_written (bare kind.Plus) k (codes "+") (no_part k h) refl refl
body_is (bare kind.Minus) k h p b = leaf_written (bare kind.Minus) k (codes "-") (no_part k h) refl refl
body_is (bare kind.Times) k h p b = leaf_written (bare kind.Times) k times_sign (no_part k h) refl refl
body_is (bare kind.Row) k h p b = row_is k b ∙ sym (append-nil (written WholeText k))
body_is (bare kind.Fraction) (tree l a (tree m c empty)) h p b =
    (λ i. codes "((" ++ (b.0 i ++ (codes ")/(" ++ (b.1.0 i ++ codes "))")))) ∙ fraction_is (body_of l.payload a) (body_of m.payload c) (codes "((") (codes ")/(") (codes "))")
body_is (bare kind.Raised) (tree l a empty) h p b = (λ i. codes "^(" ++ (b.0 i ++ codes ")")) ∙ one_is (body_of l.payload a) (codes "^(") (codes ")")
body_is (bare kind.Radical) (tree l a empty) h p b = (λ i. (root_sign ++ codes "(") ++ (b.0 i ++ codes ")")) ∙ one_is (body_of l.payload a) (root_sign ++ codes "(") (codes ")")
body_is (bare kind.Paren) (tree l a empty) h p b = (λ i. codes "(" ++ (b.0 i ++ codes ")")) ∙ one_is (body_of l.payload a) (codes "(") (codes ")")
body_is (bare k) f h p b = absurd (grind (arith, eqb-true))

bodies_are : (f : Forest) → AllComposed f → AllNodes IsValid f → AreBodies f
bodies_are empty c v = tt
bodies_are (tree l k r) c v = (body_is l.payload k c.0 v.0 (bodies_are k c.1 v.1), bodies_are r c.2 v.2)

pub written_serial : (t : Forest) → arity t ≡ 1 → AllComposed t → AllNodes IsValid t → written WholeText t ≡ serial (drawing t)
written_serial t one c v = sym (row_is t (bodies_are t c v)) ∙ by t one
  where
    by : (f : Forest) → arity f ≡ 1 → serials (drawings f) ≡ serial (drawing f)
    by (tree l k empty) e = append-nil (serial (drawn l.payload (drawings k)))
    by f e = absurd (omega (arith, e))
