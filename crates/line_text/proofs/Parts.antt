-- What is written of a face is its text.
use Rattle.line_text.proofs.Shared.{◌≡◌, ◌∙◌, ℕ, ◌+◌, List, [], ◌∷◌, ◌++◌, Bool, true, false, nat_abs, codes, if◌then◌else◌, refl, sym, ap, arith, append_assoc, eqb-true, Kind, Payload, rational}
use Rattle.line_text.proofs.Shared.{named, bare, kind_of_payload, IsPayload, root_sign, later_of_sum, left_of_quotient, later_of_product, base, exponent, level, admits, admits_signed, at_place}
use Rattle.line_text.proofs.Shared.{in_parentheses, text, text_of_sum, text_of_terms, text_of_product, text_of_factors, Tree, num, symbol, undef, add, mult, power, root, neg, sub, div, Trees, none}
use Rattle.line_text.proofs.Shared.{more, root_kind, is_sub, is_div, children_of, State, holds, tree_at, kids_of, forest, root_payload, Visit, visit_of, visit_at, Label, Forest, empty, tree, arity}
use Rattle.line_text.proofs.Shared.{flatten, node_of, AllNodes, AllExpressions, takes, grown, plain, plains, alone, grown_whole, Place, WholeText, FirstOfSum, LaterOfSum, FirstOfProduct}
use Rattle.line_text.proofs.Shared.{LaterOfProduct, rule_of, sign_before, first_place, next_place, level_of, is_sub_kind, is_div_kind, is_neg_kind, kind_behind_opposites, deciding_kind, admits_kind}
use Rattle.line_text.proofs.Shared.{skips_opposites, opening, leaf_bytes, parentheses, kind_closing, closing_of, first_kind, deciding, is_admitted, written, decimal, map, nat_le, Node, count, at}
use Rattle.line_text.proofs.{Shared.{count-plains}, Leaves.{numerator_is}, Valid.{HoldsPayload}}
use Rattle.std.proofs.Common.{append-nil}
use Rattle.calc_terms.specs.declared.kind.Kind.TheVariants as kind

-- ---- the text of a tree, by its root

-- a tree at a place, behind the sign that stands there
abbrev pub text_there : Place → Tree → List ℕ
text_there p t = sign_before p ++ at_place (rule_of p) t (text t)

-- trees side by side, the first of them at a place
abbrev pub texts_from : Place → Trees → List ℕ
texts_from p none = []
texts_from p (more t ts) = text_there p t ++ texts_from (next_place p) ts

terms_are : (ts : Trees) → text_of_terms ts ≡ texts_from LaterOfSum ts
terms_are none = refl
terms_are (more t ts) = ap (λ (x : List ℕ). text_there LaterOfSum t ++ x) (terms_are ts)

sum_is : (ts : Trees) → text_of_sum ts ≡ texts_from FirstOfSum ts
sum_is none = refl
sum_is (more t ts) = ap (λ (x : List ℕ). text_there FirstOfSum t ++ x) (terms_are ts)

factors_are : (ts : Trees) → text_of_factors ts ≡ texts_from LaterOfProduct ts
factors_are none = refl
factors_are (more t ts) = ap (λ (x : List ℕ). text_there LaterOfProduct t ++ x) (factors_are ts)

product_is : (ts : Trees) → text_of_product ts ≡ texts_from FirstOfProduct ts
product_is none = refl
product_is (more t ts) = ap (λ (x : List ℕ). text_there FirstOfProduct t ++ x) (factors_are ts)

one_is : (sign a : List ℕ) → sign ++ a ≡ ((sign ++ a) ++ []) ++ []
one_is sign a = simp append-nil

two_are : (a sign b : List ℕ) → a ++ sign ++ b ≡ (a ++ ((sign ++ b) ++ [])) ++ []
two_are a sign b = simp (append-nil, append_assoc)

enclosed_is : (sign left a right : List ℕ) → sign ++ (left ++ a ++ right) ≡ (((sign ++ left) ++ a) ++ []) ++ right
enclosed_is sign left a right = simp (append-nil, append_assoc)

-- what is written of a root alone
leaf_of : Tree → List ℕ
leaf_of (num q) = text (num q)
leaf_of (symbol x) = text (symbol x)
leaf_of undef = text undef
leaf_of t = []

text_is : (t : Tree) → text t ≡ leaf_of t ++ (texts_from (first_place (root_kind t)) (children_of t) ++ parentheses (kind_closing (root_kind t)))
unfolding leaf_of
text_is (num q) = sym (append-nil (text (num q)))
text_is (symbol x) = sym (append-nil x)
text_is undef = refl
text_is (add ts) = sum_is ts ∙ sym (append-nil (texts_from FirstOfSum ts))
text_is (mult ts) = product_is ts ∙ sym (append-nil (texts_from FirstOfProduct ts))
text_is (power b e) = two_are (at_place base b (text b)) (codes "^") (at_place exponent e (text e))
text_is (root a) = enclosed_is root_sign (codes "(") (text a) (codes ")")
text_is (neg a) = one_is (codes "-") (at_place later_of_sum a (text a))
text_is (sub a b) = two_are (text a) (codes "-") (at_place later_of_sum b (text b))
text_is (div a b) = two_are (at_place left_of_quotient a (text a)) (codes "/") (at_place later_of_product b (text b))

leaf_of_kind : (k : Kind) (ts : Trees) → takes (bare k) (count ts) ≡ true → leaf_of (grown (bare k) ts) ≡ leaf_bytes (bare k)
unfolding leaf_of
leaf_of_kind k ts h = grind arith

leaf_is : (x : Payload) (ts : Trees) → takes x (count ts) ≡ true → IsPayload x → leaf_of (grown x ts) ≡ leaf_bytes x
unfolding leaf_of
leaf_is (rational r) ts h p = ap (λ z. decimal (nat_abs z)) (numerator_is r p)
leaf_is (named x) ts h p = refl
leaf_is (bare k) ts h p = leaf_of_kind k ts h

-- ---- parentheses

pub level_is : (t : Tree) → level t ≡ level_of (root_kind t)
level_is t = grind arith

is_sub_is : (t : Tree) → is_sub t ≡ is_sub_kind (root_kind t)
is_sub_is t = grind arith

pub is_div_is : (t : Tree) → is_div t ≡ is_div_kind (root_kind t)
is_div_is t = grind arith

signed_is : (t : Tree) → admits_signed t ≡ nat_le 3 (level_of (kind_behind_opposites t))
signed_is (neg a) = signed_is a
signed_is (num q) = refl
signed_is (symbol x) = refl
signed_is undef = refl
signed_is (add ts) = refl
signed_is (mult ts) = refl
signed_is (power b e) = refl
signed_is (root a) = refl
signed_is (sub a b) = refl
signed_is (div a b) = refl

pub admits_is : (p : Place) (t : Tree) → admits (rule_of p) t ≡ admits_kind p (deciding_kind p t)
admits_is p t = grind (arith, level_is, is_sub_is, is_div_is, signed_is)

-- the kind behind opposites, by the nodes
no_opposite : (k : Kind) (v : Visit) (vs : List Visit) → v.kind ≡ k → is_neg_kind k ≡ false → first_kind (v ∷ vs) ≡ k
no_opposite k v vs e n = grind arith

opposite : (v : Visit) (vs : List Visit) → v.kind ≡ kind.Neg → first_kind (v ∷ vs) ≡ first_kind vs
opposite v vs e = grind arith

behind_kind : (k : Kind) (ts : Trees) → is_neg_kind k ≡ false → takes (bare k) (count ts) ≡ true → kind_behind_opposites (grown (bare k) ts) ≡ k
behind_kind k ts n h = grind arith

first_is : (x : Payload) (v : Visit) (k : Forest) (ns : List Node) → v.kind ≡ kind_of_payload x → takes x (arity k) ≡ true → AllExpressions k → first_kind (v ∷ map visit_of (flatten k ++ ns)) ≡ kind_behind_opposites (grown x (plains k))
first_is (rational r) v k ns e h w = no_opposite kind.Num v (map visit_of (flatten k ++ ns)) e refl
first_is (named x) v k ns e h w = no_opposite kind.Sym v (map visit_of (flatten k ++ ns)) e refl
first_is (bare kind.Neg) v empty ns e h w = absurd cc
first_is (bare kind.Neg) v (tree l k empty) ns e h w =
    opposite v (map visit_of (flatten (tree l k empty) ++ ns)) e ∙ ap (λ (xs : List Node). first_kind (visit_of (node_of l k) ∷ map visit_of xs)) (append_assoc (flatten k) [] ns) ∙ first_is l.payload (visit_of (node_of l k)) k ns refl w.0 w.1
first_is (bare kind.Neg) v (tree l k (tree m j r)) ns e h w = absurd (omega (arith, eqb-true (arity (tree l k (tree m j r))) 1 h))
first_is (bare k) v f ns e h w = no_opposite k v (map visit_of (flatten f ++ ns)) e refl ∙ sym (behind_kind k (plains f) refl (ap (takes (bare k)) (count-plains f) ∙ h))

pub deciding_is : (p : Place) (l : Label) (k r : Forest) → AllExpressions (tree l k r) → deciding p (tree l k empty) ≡ deciding_kind p (grown l.payload (plains k))
deciding_is p l k r h =
    let behind = first_is l.payload (visit_of (node_of l k)) k [] refl h.0 h.1 in
    let root_is = sym (grown_whole l k r h).kind-is in
    λ i. if skips_opposites p then behind i else root_is i

-- a root that is no opposite decides
pub deciding_root : (p : Place) (v : Visit) (s : State) → holds v.id (forest s) ≡ true → v ≡ visit_at v.id (forest s) → (v.kind ≡ kind.Neg → ⊥) → v.kind ≡ deciding p (tree_at v.id (forest s))
deciding_root p v s h e n =
    let q = at v.id (forest s) h in
    let k = kids_of v.id (forest s) in
    let root_is : v.kind ≡ kind_of_payload q.label.payload = ap (λ (x : Visit). x.kind) e ∙ ap (λ (f : Forest). kind_of_payload (root_payload f)) q.tree-is in
    let first = no_opposite (kind_of_payload q.label.payload) (visit_of (node_of q.label k)) (map visit_of (flatten k ++ [])) refl (sym (no_neg v.kind n ∙ ap is_neg_kind root_is)) in
    root_is ∙ sym (ap (deciding p) q.tree-is ∙ (λ i. if skips_opposites p then first i else kind_of_payload q.label.payload) ∙ either (skips_opposites p) (kind_of_payload q.label.payload))
  where
    either : (b : Bool) (k : Kind) → (if b then k else k) ≡ k
    either b k = grind arith

    no_neg : (k : Kind) → (k ≡ kind.Neg → ⊥) → false ≡ is_neg_kind k
    no_neg k n = grind arith

-- ---- a tree in its place

closes_one : (k : Kind) → parentheses (kind_closing k + 1) ≡ parentheses (kind_closing k) ++ codes ")"
closes_one k = grind arith

bare_text : (sign leaf below close : List ℕ) → ((sign ++ []) ++ leaf) ++ (below ++ close) ≡ sign ++ (leaf ++ (below ++ close))
bare_text sign leaf below close = simp (append-nil, append_assoc)

enclosed_text : (sign leaf below close : List ℕ) → ((sign ++ codes "(") ++ leaf) ++ (below ++ (close ++ codes ")")) ≡ sign ++ in_parentheses (leaf ++ (below ++ close))
enclosed_text sign leaf below close = simp append_assoc

node_text : (p : Place) (b : Bool) (k : Kind) (leaf below : List ℕ) → let body = leaf ++ (below ++ parentheses (kind_closing k)) in
    (opening p b ++ leaf) ++ (below ++ parentheses (closing_of k b)) ≡ sign_before p ++ (if b then body else in_parentheses body)
node_text p true k leaf below = bare_text (sign_before p) leaf below (parentheses (kind_closing k))
node_text p false k leaf below = ap (λ (x : List ℕ). ((sign_before p ++ codes "(") ++ leaf) ++ (below ++ x)) (closes_one k) ∙ enclosed_text (sign_before p) leaf below (parentheses (kind_closing k))

written_texts : (p : Place) (f : Forest) → AllExpressions f → AllNodes HoldsPayload f → written p f ≡ texts_from p (plains f)
written_texts p empty h v = refl
written_texts p (tree l k r) h v =
    let t = grown l.payload (plains k) in
    let g = grown_whole l k r h in
    let x = kind_of_payload l.payload in
    let below = written (first_place x) k in
    let body : leaf_bytes l.payload ++ (below ++ parentheses (kind_closing x)) ≡ text t = sym (
    text_is t ∙ rw (leaf_is l.payload (plains k) (ap (takes l.payload) (count-plains k) ∙ h.0) v.0, g.kind-is, g.children-are) (ap (λ (y : List ℕ). leaf_bytes l.payload ++ (y ++ parentheses (kind_closing x))) (sym (written_texts (first_place x) k h.1 v.1)))
    ) in
    let admitted : is_admitted p (tree l k empty) ≡ admits (rule_of p) t = ap (admits_kind p) (deciding_is p l k r h) ∙ sym (admits_is p t) in
    let here = node_text p (is_admitted p (tree l k empty)) x (leaf_bytes l.payload) below ∙ (λ i. sign_before p ++ (if admitted i then body i else in_parentheses (body i))) in
    λ i. here i ++ written_texts (next_place p) r h.2 v.2 i

-- what is written of a face is its text
pub written_text : (t : Forest) → arity t ≡ 1 → AllExpressions t → AllNodes HoldsPayload t → written WholeText t ≡ text (plain t)
written_text t one h v = written_texts WholeText t h v ∙ ap (texts_from WholeText) (alone t one) ∙ append-nil (text (plain t))
