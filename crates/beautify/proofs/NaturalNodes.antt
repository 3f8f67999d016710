-- The rationals of a tree, node by node.
use Rattle.beautify.proofs.Shared.{and_true, ◌≡◌, ℕ, List, [], ◌∷◌, ◌++◌, ℤ, Bool, true, false, not, ◌==◌, refl, sym, ap, ◌∙◌, arith, is_natural, has_natural_numbers, holds_natural, all_parts}
use Rattle.beautify.proofs.Shared.{all_parts_of, Node, int_is_negative, Payload, kind_of_payload, Trees, count, Kind, Visit, flatten-join, seen, found-join, visit_here, visits_left, no_visit, one_at}
use Rattle.beautify.proofs.Shared.{by_test, alone, count-plains, nth, grown, compound, plains, plain, takes, takes_kind, AllExpressions, IsExpression, Forest, empty, tree, join, flatten, root_payload}
use Rattle.beautify.proofs.Shared.{holds, payload_in, tree_at, eqb-true, eq-eqb, ◌&&◌, visits_of, visit_at}
use Rattle.tree_handles.specs.Visits.{AreFound}
use Rattle.calc_terms.specs.declared.kind.Kind.TheVariants as kind

-- the same of a list of nodes
abbrev pub hold_naturals : List Node → Bool
hold_naturals [] = true
hold_naturals (n ∷ ns) = holds_natural n.payload && hold_naturals ns

and_assoc : (a b c : Bool) → ((a && b) && c) ≡ (a && (b && c))
and_assoc a b c = grind arith

hold-append : (ns ms : List Node) → hold_naturals (ns ++ ms) ≡ (hold_naturals ns && hold_naturals ms)
hold-append [] ms = refl
hold-append (n ∷ ns) ms = ap (λ (b : Bool). holds_natural n.payload && b) (hold-append ns ms) ∙ sym (and_assoc (holds_natural n.payload) (hold_naturals ns) (hold_naturals ms))

-- ---- a node over its children

none_of : (ts : Trees) → (count ts == 0) ≡ true → all_parts_of is_natural ts ≡ true
none_of ts h = grind arith

one_of : (ts : Trees) → (count ts == 1) ≡ true → all_parts is_natural (nth 0 ts) ≡ all_parts_of is_natural ts
one_of ts h = grind (arith, and_true)

two_of : (ts : Trees) → (count ts == 2) ≡ true → (all_parts is_natural (nth 0 ts) && all_parts is_natural (nth 1 ts)) ≡ all_parts_of is_natural ts
two_of ts h = grind (arith, and_true)

kind_natural : (k : Kind) (ts : Trees) → takes_kind k (count ts) ≡ true → all_parts is_natural (compound k ts) ≡ all_parts_of is_natural ts
kind_natural k ts h = grind (arith, none_of, two_of, one_of)

node_natural : (x : Payload) (ts : Trees) → takes x (count ts) ≡ true → all_parts is_natural (grown x ts) ≡ (holds_natural x && all_parts_of is_natural ts)
node_natural x ts h = grind (arith, and_true, none_of, kind_natural)

forest_natural : (f : Forest) → AllExpressions f → hold_naturals (flatten f) ≡ all_parts_of is_natural (plains f)
forest_natural empty w = refl
forest_natural (tree l k r) w =
    let own = holds_natural l.payload in
    let t = grown l.payload (plains k) in
    let inside : all_parts is_natural t ≡ (own && all_parts_of is_natural (plains k)) = node_natural l.payload (plains k) (ap (takes l.payload) (count-plains k) ∙ w.0) in
    ap (λ (b : Bool). own && b) (hold-append (flatten k) (flatten r) ∙ rw (forest_natural k w.1, forest_natural r w.2) refl) ∙ sym (and_assoc own (all_parts_of is_natural (plains k)) (all_parts_of is_natural (plains r)))
    ∙ ap (λ (b : Bool). b && all_parts_of is_natural (plains r)) (sym inside)

pub tree_natural : (i : ℕ) (f : Forest) → IsExpression i f → has_natural_numbers (plain (tree_at i f)) ≡ hold_naturals (flatten (tree_at i f))
tree_natural i f e =
    let t = tree_at i f in
    sym (and_true (all_parts is_natural (plain t))) ∙ ap (all_parts_of is_natural) (sym (alone t (one_at i f e.live))) ∙ sym (forest_natural t e.whole)

-- ---- a walk over the nodes

-- the trees that are still to be read decide as all do
pub record IsReading (left : List Visit) (total : Bool) (base : Forest) : Type 0 where
  pub trees : Forest
  pub left-are : left ≡ visits_of trees
  pub found : AreFound base trees
  pub same : total ≡ hold_naturals (flatten trees)

-- the next node
pub record IsRead (v : Visit) (left : List Visit) (total : Bool) (base : Forest) : Type 0 where
  pub live : holds v.id base ≡ true
  pub visit-is : v ≡ visit_at v.id base
  pub here : holds_natural (payload_in v.id base) ≡ false → total ≡ false
  pub more : holds_natural (payload_in v.id base) ≡ true → IsReading left total base

pub read : {v : Visit} {xs left : List Visit} {total : Bool} {base : Forest} → IsReading xs total base → xs ≡ v ∷ left → IsRead v left total base
read {v = v} {left = left} {total = total} {base = base} w e = by w.trees (sym w.left-are ∙ e) w.found w.same
  where
    by : (f : Forest) → visits_of f ≡ v ∷ left → AreFound base f → total ≡ hold_naturals (flatten f) → IsRead v left total base
    by empty q h s = absurd cc
    by (tree l k r) q h s =
        let y = seen l k r h (visit_here l k r q) in
        let next : (b : Bool) → holds_natural (payload_in v.id base) ≡ b → total ≡ (b && hold_naturals (flatten (join k r))) =
        λ b t. s ∙ ap (λ (z : Bool). z && hold_naturals (flatten k ++ flatten r)) (sym (ap (λ (g : Forest). holds_natural (root_payload g)) y.tree-is) ∙ t) ∙ ap (λ (z : List Node). b && hold_naturals z) (sym (flatten-join k r)) in
        record { live = y.live; visit-is = y.visit-is; here = λ t. next false t; more = λ t. record { trees = join k r; left-are = visits_left l k r q; found = found-join base k r h.1 h.2; same = next true t } }

-- where none is left, all are natural
pub read_all : {xs : List Visit} {total : Bool} {base : Forest} → IsReading xs total base → xs ≡ [] → total ≡ true
read_all w e = w.same ∙ ap (λ (f : Forest). hold_naturals (flatten f)) (no_visit w.trees (sym w.left-are ∙ e))

-- ---- one rational

pub natural_fraction : (p : ℤ) (d : ℕ) → (d ≡ 1 → ⊥) → ((d == 1) && not (int_is_negative p)) ≡ false
natural_fraction p d h = by_test (λ t. (d == 1) ≡ t → (t && not (int_is_negative p)) ≡ false) (d == 1) (λ u e. absurd (h (eqb-true d 1 e))) (λ u e. refl) refl

pub natural_whole : (p : ℤ) (d : ℕ) → d ≡ 1 → ((d == 1) && not (int_is_negative p)) ≡ not (int_is_negative p)
natural_whole p d e = ap (λ (b : Bool). b && not (int_is_negative p)) (eq-eqb d 1 e)

pub no_rational : (x : Payload) → (kind_of_payload x ≡ kind.Num → ⊥) → holds_natural x ≡ true
no_rational x h = grind arith
