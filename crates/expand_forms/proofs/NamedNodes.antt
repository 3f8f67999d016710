-- The names of a tree, node by node.
use Rattle.expansions.proofs.FactorOrders.{symbol_is as name_is}
use Rattle.expand_forms.proofs.Shared.{◌≡◌, ◌⊎◌, ℕ, List, [], ◌∷◌, ◌++◌, inl, inr, true, refl, sym, ap, ◌∙◌, subst, arith, append-nil, append_assoc, ◌==◌, Payload, kind_of_payload, rational, named}
use Rattle.expand_forms.proofs.Shared.{bare, Kind, names, names_of, Trees, more, none, count, symbol, is_symbol, nth, grown, compound, plain, takes, takes_kind, IsExpression, AllExpressions, alone}
use Rattle.expand_forms.proofs.Shared.{Forest, empty, tree, join, holds, tree_at, arity, HasName, one_at, count-plains, found-join, no_visit, visit_here, visits_left, plains, visits_of, AreFound}
use Rattle.expand_forms.proofs.Shared.{Visit}
use Rattle.tree_handles.proofs.Visiting.{seen}
use Rattle.calc_terms.specs.declared.kind.Kind.TheVariants as kind

-- ---- a node over its children

abbrev own_names : Payload → List (List ℕ)
own_names (named x) = x ∷ []
own_names (rational r) = []
own_names (bare k) = []

none_of : (ts : Trees) → (count ts == 0) ≡ true → [] ≡ names_of ts
none_of none h = refl
none_of (more t ts) h = grind arith

one_of : (ts : Trees) → (count ts == 1) ≡ true → names (nth 0 ts) ≡ names_of ts
one_of none h = absurd cc
one_of (more t none) h = sym (append-nil (names t))
one_of (more t (more u ts)) h = grind arith

two_of : (ts : Trees) → (count ts == 2) ≡ true → names (nth 0 ts) ++ names (nth 1 ts) ≡ names_of ts
two_of none h = absurd cc
two_of (more t none) h = absurd cc
two_of (more t (more u none)) h = ap (λ (xs : List (List ℕ)). names t ++ xs) (sym (append-nil (names u)))
two_of (more t (more u (more v ts))) h = grind arith

kind_names : (k : Kind) (ts : Trees) → takes_kind k (count ts) ≡ true → names (compound k ts) ≡ names_of ts
kind_names k ts h = grind (arith, none_of, two_of, one_of)

node_names : (x : Payload) (ts : Trees) → takes x (count ts) ≡ true → names (grown x ts) ≡ own_names x ++ names_of ts
node_names (rational r) ts h = grind (arith, none_of)
node_names (named x) ts h = grind (arith, none_of)
node_names (bare k) ts h = grind (arith, kind_names)

name_alone : (x : Payload) (n : ℕ) → takes x n ≡ true → kind_of_payload x ≡ kind.Sym → (y : List ℕ) × (x ≡ named y)
name_alone (rational r) n h k = absurd cc
name_alone (named y) n h k = (y, refl)
name_alone (bare b) n h k = absurd (no_name b n h k)
  where
    no_name : (j : Kind) (m : ℕ) → takes (bare j) m ≡ true → j ≡ kind.Sym → ⊥
    no_name j m g e = grind arith

other_own : (x : Payload) → (kind_of_payload x ≡ kind.Sym → ⊥) → own_names x ≡ []
other_own (rational r) h = refl
other_own (named y) h = absurd (h refl)
other_own (bare b) h = refl

-- ---- a walk over the nodes

-- the names of the nodes that are passed are these, and the other names of the tree are those of the trees ahead
pub record AreCollected (ns : List (List ℕ)) (left : List Visit) (total : List (List ℕ)) (base : Forest) : Type 0 where
  pub trees : Forest
  pub left-are : left ≡ visits_of trees
  pub found : AreFound base trees
  pub whole : AllExpressions trees
  pub all : (x : List ℕ) → HasName x total → HasName x ns ⊎ HasName x (names_of (plains trees))

pub collected_none : (i : ℕ) (f : Forest) {left : List Visit} → IsExpression i f → left ≡ visits_of (tree_at i f) → AreFound f (tree_at i f) → AreCollected [] left (names (plain (tree_at i f))) f
collected_none i f x e d = record {
  trees = tree_at i f;
  left-are = e;
  found = d;
  whole = x.whole;
  all = λ y h. inr (subst (HasName y) (sym one) h);
}
  where
    one : names_of (plains (tree_at i f)) ≡ names (plain (tree_at i f))
    one = ap names_of (alone (tree_at i f) (one_at i f x.live)) ∙ append-nil (names (plain (tree_at i f)))

-- the next node
pub record IsNextNode (ns : List (List ℕ)) (v : Visit) (left : List Visit) (total : List (List ℕ)) (base : Forest) : Type 0 where
  pub live : holds v.id base ≡ true
  pub symbol-is : v.kind ≡ kind.Sym → is_symbol (plain (tree_at v.id base)) ≡ true
  pub with_name : v.kind ≡ kind.Sym → (x : List ℕ) (ms : List (List ℕ)) → plain (tree_at v.id base) ≡ symbol x → HasName x ms
      → ((y : List ℕ) → HasName y ns → HasName y ms) → AreCollected ms left total base
  pub without : (v.kind ≡ kind.Sym → ⊥) → AreCollected ns left total base

pub next_node : {ns total : List (List ℕ)} {v : Visit} {xs left : List Visit} {base : Forest} → AreCollected ns xs total base → xs ≡ v ∷ left → IsNextNode ns v left total base
next_node {ns} {total} {v} {xs} {left} {base} w e = by w.trees (sym w.left-are ∙ e) w.found w.whole w.all
  where
    by : (f : Forest) → visits_of f ≡ v ∷ left → AreFound base f → AllExpressions f → ((x : List ℕ) → HasName x total → HasName x ns ⊎ HasName x (names_of (plains f)))
        → IsNextNode ns v left total base
    by empty q d h all = absurd cc
    by (tree l k r) q d h all =
        let here = visit_here l k r q in
        let s = seen l k r d here in
        let kind-is : v.kind ≡ kind_of_payload l.payload = ap (λ (y : Visit). y.kind) here in
        let t-is : plain (tree_at v.id base) ≡ grown l.payload (plains k) = ap plain s.tree-is in
        let own : names (grown l.payload (plains k)) ≡ own_names l.payload ++ names_of (plains k) = node_names l.payload (plains k) (ap (takes l.payload) (count-plains k) ∙ h.0) in
        let behind : names_of (plains (join k r)) ≡ names_of (plains k) ++ names_of (plains r) = joined k r in
        let parts : names_of (plains (tree l k r)) ≡ own_names l.payload ++ names_of (plains (join k r)) =
        ap (λ (ys : List (List ℕ)). ys ++ names_of (plains r)) own ∙ append_assoc (own_names l.payload) (names_of (plains k)) (names_of (plains r))
        ∙ ap (λ (ys : List (List ℕ)). own_names l.payload ++ ys) (sym behind) in
        record {
          live = s.live;
          symbol-is = λ z. let (y, p) = name_alone l.payload (arity k) h.0 (sym kind-is ∙ z) in ap is_symbol (t-is ∙ ap (λ (x : Payload). grown x (plains k)) p);
          with_name = λ z x ms g has kept. let (y, p) = name_alone l.payload (arity k) h.0 (sym kind-is ∙ z) in
              let same : y ≡ x = name_is (sym (t-is ∙ ap (λ (u : Payload). grown u (plains k)) p) ∙ g) in
              let first : names_of (plains (tree l k r)) ≡ y ∷ names_of (plains (join k r)) = parts ∙ ap (λ (u : Payload). own_names u ++ names_of (plains (join k r))) p in
              record {
                trees = join k r;
                left-are = visits_left l k r q;
                found = found-join base k r d.1 d.2;
                whole = all_join k r h.1 h.2;
                all = λ u m. elim (all u m) [
                  | inl a ↦ inl (kept u a)
                  | inr a ↦ elim (subst (HasName u) first a) [ inl b ↦ inl (subst (λ (c : List ℕ). HasName c ms) (sym same ∙ b) has) | inr b ↦ inr b ]
                ];
              };
          without = λ z.
              let rest : names_of (plains (tree l k r)) ≡ names_of (plains (join k r)) =
              parts ∙ ap (λ (ys : List (List ℕ)). ys ++ names_of (plains (join k r))) (other_own l.payload (λ y. z (kind-is ∙ y))) in
              record {
                trees = join k r;
                left-are = visits_left l k r q;
                found = found-join base k r d.1 d.2;
                whole = all_join k r h.1 h.2;
                all = λ u m. elim (all u m) [ inl a ↦ inl a | inr a ↦ inr (subst (HasName u) rest a) ];
              };
        }
      where
        joined : (f g : Forest) → names_of (plains (join f g)) ≡ names_of (plains f) ++ names_of (plains g)
        joined empty g = refl
        joined (tree a b c) g = ap (λ (ys : List (List ℕ)). names (grown a.payload (plains b)) ++ ys) (joined c g)
            ∙ sym (append_assoc (names (grown a.payload (plains b))) (names_of (plains c)) (names_of (plains g)))

        all_join : (f g : Forest) → AllExpressions f → AllExpressions g → AllExpressions (join f g)
        all_join empty g a b = b
        all_join (tree x y c) g a b = (a.0, a.1, all_join c g a.2 b)

-- where none is left, all are collected
pub collected_all : {ns total : List (List ℕ)} {xs : List Visit} {base : Forest} → AreCollected ns xs total base → xs ≡ [] → (x : List ℕ) → HasName x total → HasName x ns
collected_all {ns} {total} w e x h =
    elim (w.all x h) [ inl a ↦ a | inr a ↦ absurd (subst (λ (f : Forest). HasName x (names_of (plains f))) (no_visit w.trees (sym w.left-are ∙ e)) a) ]
