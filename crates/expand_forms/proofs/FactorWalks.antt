-- Walks over the nodes of a monomial's factors.
use Rattle.expand_forms.proofs.Shared.{first_is, others_are, ◌≡◌, ◌≤◌, ◌<◌, ℕ, pos, List, length, [], ◌∷◌, ◌++◌, map, drop, Some, true, refl, sym, ap, ◌∙◌, subst, arith, kind_of_payload, AreAhead}
use Rattle.expand_forms.proofs.Shared.{BeginsWith, value_of, lowest, one_fraction, alone, Payload, State, Stands, IsExpression, children_of, first_place, forest, kids_of, rest_trees, root_kind}
use Rattle.expand_forms.proofs.Shared.{Fraction, Tree, is_mult, num, symbol, power, Trees, none, more, whole_num, factor_tree, factor_trees, Factor, IsMonomial, Monomial, HasMonomial, factors_in}
use Rattle.expand_forms.proofs.Shared.{grown, nth, plain, takes, arity, empty, tree, join, Forest, holds, tree_at, AllExpressions, name_of, all-rest_trees, one_at, children_of-plain, whole_kids}
use Rattle.expand_forms.proofs.Shared.{found, found-kids, found-rest_trees, visit_here, visits_left, IsWhole, plains, flatten, node_of, visit_of, visits_of, AreFound, Visit, symbol_is, behind-plains}
use Rattle.expand_forms.proofs.Shared.{trees_behind}
use Rattle.tree_handles.proofs.ForestLists.{no_trees as none_left}
use Rattle.number_forms.proofs.RationalCalls.{num_same as number_is}
use Rattle.expand_forms.specs.declared.factors.Factor.{Factor as Read}
use Rattle.calc_terms.specs.declared.kind.Kind.TheVariants as kind

-- ---- what stands at a factor's root

name_is : (x : Payload) (ts : Trees) (n : ℕ) (f : Factor) → grown x ts ≡ factor_tree f → takes x n ≡ true → kind_of_payload x ≡ kind.Sym → factor_tree f ≡ symbol f.name
name_is x ts n f e w k = grind arith

name_exponent : (x : Payload) (ts : Trees) (n : ℕ) (f : Factor) → grown x ts ≡ factor_tree f → takes x n ≡ true → kind_of_payload x ≡ kind.Sym → f.exponent ≡ 1
name_exponent x ts n f e w k = grind arith

name_alone : (x : Payload) (n : ℕ) → takes x n ≡ true → kind_of_payload x ≡ kind.Sym → n ≡ 0
name_alone x n w k = grind arith

power_is : (x : Payload) (ts : Trees) (f : Factor) → grown x ts ≡ factor_tree f → (kind_of_payload x ≡ kind.Sym → ⊥) → factor_tree f ≡ power (symbol f.name) (whole_num f.exponent)
power_is x ts f e k = grind arith

power_two : (x : Payload) (ts : Trees) (n : ℕ) (b e : Tree) → grown x ts ≡ power b e → takes x n ≡ true → n ≡ 2
power_two x ts n b e p w = grind arith

power_base : (x : Payload) (ts : Trees) (b e : Tree) → grown x ts ≡ power b e → nth 0 ts ≡ b
power_base x ts b e p = grind arith

power_exponent : (x : Payload) (ts : Trees) (b e : Tree) → grown x ts ≡ power b e → nth 1 ts ≡ e
power_exponent x ts b e p = grind arith

symbol_alone : (x : Payload) (ts : Trees) (n : ℕ) (y : List ℕ) → grown x ts ≡ symbol y → takes x n ≡ true → n ≡ 0
symbol_alone x ts n y e w = grind arith

number_alone : (x : Payload) (ts : Trees) (n : ℕ) (q : Fraction) → grown x ts ≡ num q → takes x n ≡ true → n ≡ 0
number_alone x ts n q e w = grind arith

-- ---- where a walk ends

pub none_ahead : {m : Monomial} {xs : List Visit} {base : Forest} → AreAhead m xs base → xs ≡ [] → m ≡ []
none_ahead {m = m} a e = by m a.trees a.factors (sym a.nodes-are ∙ e)
  where
    by : (n : Monomial) (f : Forest) → plains f ≡ factor_trees n → visits_of f ≡ [] → n ≡ []
    by [] f p q = refl
    by (g ∷ n) empty p q = absurd cc
    by (g ∷ n) (tree l k r) p q = absurd cc

-- ---- a name

-- a walk comes to a name first
pub record IsNameAhead (m : Monomial) (v : Visit) (left : List Visit) (base : Forest) : Type 0 where
  pub factor : Factor
  pub others : Monomial
  pub begins : m ≡ factor ∷ others
  pub positive : 1 ≤ factor.exponent
  pub exponent : factor.exponent ≡ 1
  pub live : holds v.id base ≡ true
  pub tree-is : plain (tree_at v.id base) ≡ symbol factor.name
  pub ahead : AreAhead others left base

pub name_ahead : {m : Monomial} {v : Visit} {xs left : List Visit} {base : Forest} → AreAhead m xs base → xs ≡ v ∷ left → v.kind ≡ kind.Sym → IsNameAhead m v left base
name_ahead {m = m} {v = v} {left = left} {base = base} a e s = by m a.trees a.monomial a.factors (sym a.nodes-are ∙ e) a.found a.whole
  where
    by : (n : Monomial) (f : Forest) → IsMonomial n → plains f ≡ factor_trees n → visits_of f ≡ v ∷ left → AreFound base f → AllExpressions f → IsNameAhead n v left base
    by n empty h p q d w = absurd cc
    by [] (tree l k r) h p q d w = absurd cc
    by (g ∷ n) (tree l k r) h p q d w =
        let here : v ≡ visit_of (node_of l k) = visit_here l k r q in
        let told : kind_of_payload l.payload ≡ kind.Sym = sym (ap (λ (x : Visit). x.kind) here) ∙ s in
        let grows : grown l.payload (plains k) ≡ factor_tree g = first_is _ _ _ _ p in
        let alone : k ≡ empty = none_left k (name_alone l.payload (arity k) w.0 told) in
        record {
          factor = g;
          others = n;
          begins = refl;
          positive = h.0;
          exponent = name_exponent l.payload (plains k) (arity k) g grows w.0 told;
          live = ap (λ (x : Visit). holds x.id base) here ∙ d.0.0;
          tree-is = ap (λ (x : Visit). plain (tree_at x.id base)) here ∙ ap plain d.0.1 ∙ grows ∙ name_is l.payload (plains k) (arity k) g grows w.0 told;
          ahead = record {
            trees = r;
            monomial = h.2;
            factors = others_are _ _ _ _ p;
            nodes-are = visits_left l k r q ∙ ap (λ (x : Forest). visits_of (join x r)) alone;
            found = d.2;
            whole = w.2;
          };
        }

-- ---- a power of a name

-- a walk passed a power, whose parts were these
pub record IsPowerPassed (m : Monomial) (name exponent : Visit) (behind : List Visit) (base : Forest) : Type 0 where
  pub factor : Factor
  pub others : Monomial
  pub begins : m ≡ factor ∷ others
  pub positive : 1 ≤ factor.exponent
  pub name-live : holds name.id base ≡ true
  pub name-is : plain (tree_at name.id base) ≡ symbol factor.name
  pub exponent-live : holds exponent.id base ≡ true
  pub exponent-is : plain (tree_at exponent.id base) ≡ whole_num factor.exponent
  pub ahead : AreAhead others behind base

-- the parts of a power are ahead
pub record IsPowerAhead (m : Monomial) (left : List Visit) (base : Forest) : Type 0 where
  pub name : Visit
  pub exponent : Visit
  pub behind : List Visit
  pub left-are : left ≡ name ∷ exponent ∷ behind
  pub passed : IsPowerPassed m name exponent behind base

-- the same from its two parts
two_parts : {g : Factor} {n : Monomial} {left : List Visit} {base : Forest} (k r : Forest) → IsMonomial (g ∷ n) → arity k ≡ 2 → nth 0 (plains k) ≡ symbol g.name
    → nth 1 (plains k) ≡ whole_num g.exponent
    → plains r ≡ factor_trees n → left ≡ visits_of (join k r) → AreFound base k → AreFound base r → AllExpressions k → AllExpressions r → IsPowerAhead (g ∷ n) left base
two_parts empty r h two b e p q d c w v = absurd (omega arith)
two_parts (tree l k empty) r h two b e p q d c w v = absurd (omega arith)
two_parts (tree l k (tree m j (tree o i t))) r h two b e p q d c w v = absurd (omega arith)
two_parts {g = g} {n = n} {base = base} (tree l k (tree m j empty)) r h two b e p q d c w v =
    let first : k ≡ empty = none_left k (symbol_alone l.payload (plains k) (arity k) g.name b w.0) in
    let second : j ≡ empty = none_left j (number_alone m.payload (plains j) (arity j) _ e w.2.0) in
    record {
      name = visit_of (node_of l k);
      exponent = visit_of (node_of m j);
      behind = visits_of r;
      left-are = q ∙ (λ z. visit_of (node_of l k) ∷ map visit_of (flatten (first z) ++ (node_of m j ∷ (flatten (second z) ++ flatten r))));
      passed = record {
        factor = g;
        others = n;
        begins = refl;
        positive = h.0;
        name-live = d.0.0;
        name-is = ap plain d.0.1 ∙ b;
        exponent-live = d.2.0.0;
        exponent-is = ap plain d.2.0.1 ∙ e;
        ahead = record { trees = r; monomial = h.2; factors = p; nodes-are = refl; found = c; whole = v };
      };
    }

pub power_ahead : {m : Monomial} {v : Visit} {xs left : List Visit} {base : Forest} → AreAhead m xs base → xs ≡ v ∷ left → (v.kind ≡ kind.Sym → ⊥) → IsPowerAhead m left base
power_ahead {m = m} {v = v} {left = left} {base = base} a e s = by m a.trees a.monomial a.factors (sym a.nodes-are ∙ e) a.found a.whole
  where
    by : (n : Monomial) (f : Forest) → IsMonomial n → plains f ≡ factor_trees n → visits_of f ≡ v ∷ left → AreFound base f → AllExpressions f → IsPowerAhead n left base
    by n empty h p q d w = absurd cc
    by [] (tree l k r) h p q d w = absurd cc
    by (g ∷ n) (tree l k r) h p q d w =
        let here : v ≡ visit_of (node_of l k) = visit_here l k r q in
        let grows : grown l.payload (plains k) ≡ power (symbol g.name) (whole_num g.exponent) =
        first_is _ _ _ _ p ∙ power_is l.payload (plains k) g (first_is _ _ _ _ p) (λ z. s (ap (λ (x : Visit). x.kind) here ∙ z)) in
        two_parts k r h (power_two l.payload (plains k) (arity k) _ _ grows w.0) (power_base l.payload (plains k) _ _ grows) (power_exponent l.payload (plains k) _ _ grows)
        (others_are _ _ _ _ p) (visits_left l k r q) d.1 d.2 w.1 w.2

-- ---- where a walk begins

-- the trees of factors among the children of a node
pub ahead_below : {m : Monomial} {xs : List Visit} (i n : ℕ) (s : State) → Stands s → IsExpression i (forest s) → HasMonomial m (plain (tree_at i (forest s)))
    → trees_behind n (children_of (plain (tree_at i (forest s)))) ≡ factors_in (plain (tree_at i (forest s))) → xs ≡ visits_of (rest_trees n (kids_of i (forest s))) → AreAhead m xs (forest s)
ahead_below i n s st x h e q = record {
  trees = rest_trees n (kids_of i (forest s));
  monomial = h.monomial;
  factors = sym (behind-plains n (kids_of i (forest s))) ∙ ap (trees_behind n) (sym (children_of-plain (tree_at i (forest s)) x.whole)) ∙ e ∙ h.factors;
  nodes-are = q;
  found = found-rest_trees (forest s) n (kids_of i (forest s)) (found-kids (forest s) (tree_at i (forest s)) (found i s st));
  whole = all-rest_trees IsWhole n (kids_of i (forest s)) (whole_kids (tree_at i (forest s)) x.whole);
}

-- the tree of the only factor
pub ahead_itself : {m : Monomial} {xs : List Visit} (i : ℕ) (s : State) → Stands s → IsExpression i (forest s) → HasMonomial m (plain (tree_at i (forest s)))
    → more (plain (tree_at i (forest s))) none ≡ factors_in (plain (tree_at i (forest s))) → xs ≡ visits_of (tree_at i (forest s)) → AreAhead m xs (forest s)
ahead_itself i s st x h e q = record {
  trees = tree_at i (forest s);
  monomial = h.monomial;
  factors = alone (tree_at i (forest s)) (one_at i (forest s) x.live) ∙ e ∙ h.factors;
  nodes-are = q;
  found = found i s st;
  whole = x.whole;
}

pub number_behind : (t : Tree) → kind.Num ≡ root_kind t → trees_behind 0 (children_of t) ≡ factors_in t
number_behind t e = grind arith

pub product_kind : (t : Tree) → is_mult t ≡ true → kind.Mult ≡ root_kind t
product_kind t e = grind arith

pub product_behind : (n : ℕ) (t : Tree) → kind.Mult ≡ root_kind t → n ≡ first_place (children_of t) → trees_behind n (children_of t) ≡ factors_in t
product_behind n t e f = grind arith

pub factor_itself : (t : Tree) → (kind.Num ≡ root_kind t → ⊥) → (kind.Mult ≡ root_kind t → ⊥) → more t none ≡ factors_in t
factor_itself t h k = grind arith

-- ---- what calls of next give

visit_is : {v w : Visit} {xs ys : List Visit} → v ∷ xs ≡ w ∷ ys → v ≡ w
visit_is e = cc

behind_is : {v w : Visit} {xs ys : List Visit} → v ∷ xs ≡ w ∷ ys → xs ≡ ys
behind_is e = cc

pub some_ahead : {m : Monomial} {left : List Visit} {base : Forest} → IsPowerAhead m left base → 0 < length left
some_ahead x = omega (arith, ap length x.left-are)

pub some_behind : {m : Monomial} {v : Visit} {left rest : List Visit} {base : Forest} → IsPowerAhead m left base → left ≡ v ∷ rest → 0 < length rest
some_behind x e = omega (arith, ap length x.left-are, ap length e)

pub power_passed : {m : Monomial} {v w : Visit} {left rest behind : List Visit} {base : Forest} → IsPowerAhead m left base → left ≡ v ∷ rest → rest ≡ w ∷ behind → IsPowerPassed m v w behind base
power_passed {m = m} {w = w} {behind = behind} {base = base} x e q =
    let first = visit_is (sym x.left-are ∙ e) in
    let second = behind_is (sym x.left-are ∙ e) ∙ q in
    subst (λ (y : Visit). IsPowerPassed m y w behind base) first
    (subst (λ (y : Visit). IsPowerPassed m x.name y behind base) (visit_is second) (subst (λ (ys : List Visit). IsPowerPassed m x.name x.exponent ys base) (behind_is second) x.passed))

pub next_ahead : {m others : Monomial} {f : Factor} {left : List Visit} {base : Forest} → m ≡ f ∷ others → AreAhead others left base → AreAhead (drop 1 m) left base
next_ahead {left = left} {base = base} e a = subst (λ (n : Monomial). AreAhead (drop 1 n) left base) (sym e) a

pub ended : {m : Monomial} {xs left : List Visit} {base : Forest} → AreAhead m xs base → xs ≡ [] → left ≡ [] → AreAhead (drop 1 m) left base
ended {left = left} {base = base} a e q =
    subst (λ (n : Monomial). AreAhead (drop 1 n) left base) (sym (none_ahead a e)) (record { trees = empty; monomial = tt; factors = refl; nodes-are = q; found = tt; whole = tt })

-- ---- the factor that is read

one_lowest : one_fraction ≡ lowest (pos 1) 1
unfolding one_fraction
one_lowest = refl

pub name_begins : {m : Monomial} {v : Visit} {left : List Visit} {base : Forest} (x : IsNameAhead m v left base) (y : Read) → plain (tree_at v.id base) ≡ symbol (name_of y.name)
    → value_of y.exponent ≡ one_fraction → BeginsWith (Some y) m
name_begins x y e q = (
  x.factor,
  x.others,
  x.begins,
  record {
    name = symbol_is (sym e ∙ x.tree-is);
    exponent = q ∙ one_lowest ∙ ap (λ (n : ℕ). lowest (pos n) 1) (sym x.exponent);
    positive = x.positive;
  },
)

pub power_begins : {m : Monomial} {v w : Visit} {left : List Visit} {base : Forest} (x : IsPowerPassed m v w left base) (y : Read) → plain (tree_at v.id base) ≡ symbol (name_of y.name)
    → plain (tree_at w.id base) ≡ num (value_of y.exponent) → BeginsWith (Some y) m
power_begins x y e q = (
  x.factor,
  x.others,
  x.begins,
  record {
    name = symbol_is (sym e ∙ x.name-is);
    exponent = number_is (sym q ∙ x.exponent-is);
    positive = x.positive;
  },
)
