-- Powers of sums, which are left to be raised where their parent is expanded.
use Rattle.expand_forms.proofs.Shared.{◌≡◌, ◌⊎◌, inl, inr, ℕ, zero, suc, ◌+◌, ◌<◌, ◌≤◌, Bool, true, false, Result, Ok, Err, refl, sym, ap, ◌∙◌, subst, arith, ◌||◌, [], ◌∷◌, if◌then◌else◌, IfErr}
use Rattle.expand_forms.proofs.Shared.{AreExpanded, AreExpandedFrom, AreSame, Factor, IsExpanded, IsExpandedFrom, IsOver, Kind, MayLack, Monomial, IfOverflow, MayOverflow, NumberFault, OfFull}
use Rattle.expand_forms.proofs.Shared.{OfOverflow, Payload, Polynomial, Summand, Tree, Trees, add, and_parts, append, is_add, are_polynomials, bare, child_bits, children_of, compound, count}
use Rattle.expand_forms.proofs.Shared.{divisor_of, eqb-true, expanded, exponent_of, factor_tree, factor_trees, grown, has_polynomial_root, is_divisor, is_exponent, is_one_fraction, is_polynomial}
use Rattle.expand_forms.proofs.Shared.{monomial_tree, more, most_bits, most_terms, named, names, node_bytes, nodes, none, normal, nth, num, polynomial_of, power, product_tree, rational, root_kind}
use Rattle.expand_forms.proofs.Shared.{root_size, size, sizes, sum_tree, takes, takes_kind, term_tree, term_trees, AreReady, AreReadyFrom, IsOverReady, IsLeft, IsReady, IsReadyFrom}
use Rattle.expand_forms.proofs.{Shared.{has_power_of_sum, is_power_of_sum, answers_count, set_child, set_tree, same_is, same_trans, tree_monomials, root_over}, ChildExpansions.{IsOver as IsOverSame}}
use Rattle.expand_forms.proofs.{ChildExpansions.{divisor_same, exponent_same, over_payload}, ChildRooms.{narrower, room_above, room_at_node, root_bytes}}
use Rattle.expand_forms.proofs.{Expansions.{expanded_same, is_expanded, same_polynomial}, NodeBits.{over_kind}, Nodes.{from}}
use Rattle.calc_terms.proofs.SmallLaws.{either_left as or_first, either_right as or_second}
use Rattle.tree_handles.proofs.SmallLaws.{replaced_count as count_set}
use Rattle.reduce_walk.specs.Answers.{IsNext}
use Rattle.expand_forms.proofs.OverAnswers as over
use Rattle.tree_handles.specs.declared.fault.NumberFault.TheVariants as number
use Rattle.calc_terms.specs.declared.kind.Kind.TheVariants as kind

-- ---- expanded trees are none

factor_none : (f : Factor) → is_power_of_sum (factor_tree f) ≡ false
factor_none f = grind arith

monomial_none : (m : Monomial) → is_power_of_sum (monomial_tree m) ≡ false
monomial_none [] = refl
monomial_none (f ∷ []) = factor_none f
monomial_none (f ∷ g ∷ m) = refl

term_none : (s : Summand) → is_power_of_sum (term_tree s) ≡ false
term_none s = by (is_one_fraction s.coefficient) s.monomial
  where
    by : (b : Bool) (m : Monomial) → is_power_of_sum (if b then monomial_tree m else product_tree (more (num s.coefficient) (factor_trees m))) ≡ false
    by true m = monomial_none m
    by false [] = refl
    by false (f ∷ m) = refl

sum_none : (v : Polynomial) → is_power_of_sum (sum_tree (term_trees v)) ≡ false
sum_none [] = refl
sum_none (s ∷ []) = term_none s
sum_none (s ∷ t ∷ v) = refl

pub expanded_none : {u : Tree} (v : Polynomial) → u ≡ expanded v → is_power_of_sum u ≡ false
expanded_none v e = ap is_power_of_sum e ∙ sum_none (normal v)

-- an expanded tree or a power, by the test
pub ready_expanded : {u : Tree} → IsReady u → is_power_of_sum u ≡ false → IsExpanded u
ready_expanded (inl e) h = e
ready_expanded (inr k) h = absurd (let e = sym k.0 ∙ h in cc)

pub ready_power : {u : Tree} → IsReady u → is_power_of_sum u ≡ true → (has_polynomial_root u ≡ true) × AreExpanded (children_of u)
ready_power {u} (inl e) h = absurd (let x = sym h ∙ expanded_none (polynomial_of u) e in cc)
ready_power (inr k) h = (k.1, k.2)

pub all_ready : (ts : Trees) → AreExpanded ts → AreReady ts
all_ready none h = tt
all_ready (more t ts) h = (inl h.0, all_ready ts h.1)

pub ready_nth : (n : ℕ) (ts : Trees) → AreReady ts → n < count ts → IsReady (nth n ts)
ready_nth n none h l = absurd (omega (arith, l))
ready_nth zero (more t ts) h l = h.0
ready_nth (suc n) (more t ts) h l = ready_nth n ts h.1 (omega (arith, l))

-- ---- literals are none

exponent_none : (e : Tree) → is_exponent e ≡ true → is_power_of_sum e ≡ false
exponent_none e h = grind arith

divisor_none : (d : Tree) → is_divisor d ≡ true → is_power_of_sum d ≡ false
divisor_none d h = grind arith

pub exponent_expanded : {e : Tree} → IsReady e → is_exponent e ≡ true → IsExpanded e
exponent_expanded {e} r h = ready_expanded r (exponent_none e h)

pub divisor_expanded : {d : Tree} → IsReady d → is_divisor d ≡ true → IsExpanded d
divisor_expanded {d} r h = ready_expanded r (divisor_none d h)

pub left_power : (t : Tree) → IsLeft t → is_power_of_sum t ≡ true
left_power t h = grind arith

pub left_by : (t : Tree) → is_power_of_sum t ≡ true → count (children_of (nth 0 (children_of t))) ≤ 2 → 1 < exponent_of (nth 1 (children_of t)) → IsLeft t
left_by t h l m = grind arith

pub left_few : (t : Tree) → IsLeft t → count (children_of (nth 0 (children_of t))) ≤ 2
left_few t h = grind arith

pub left_great : (t : Tree) → IsLeft t → 1 < exponent_of (nth 1 (children_of t))
left_great t h = grind arith

pub power_kind : (u : Tree) → is_power_of_sum u ≡ true → root_kind u ≡ kind.Pow
power_kind u h = grind arith

exponent_kind : (e : Tree) → is_exponent e ≡ true → root_kind e ≡ kind.Pow → ⊥
exponent_kind e h k = grind arith

divisor_kind : (d : Tree) → is_divisor d ≡ true → root_kind d ≡ kind.Pow → ⊥
divisor_kind d h k = grind arith

-- as the code tells it
pub by_base : (t : Tree) → kind.Pow ≡ root_kind t → is_add (nth 0 (children_of t)) ≡ is_power_of_sum t
by_base t k = grind arith

pub no_power : (t : Tree) → (kind.Pow ≡ root_kind t → ⊥) → is_power_of_sum t ≡ false
no_power t k = grind arith

pub two_children : (t : Tree) → kind.Pow ≡ root_kind t → count (children_of t) ≡ 2
two_children t k = grind arith

-- the exponent of a power of a sum is no power
pub power_children : (u : Tree) → is_power_of_sum u ≡ true → has_polynomial_root u ≡ true → has_power_of_sum (children_of u) ≡ false
power_children (power (add ts) e) h r = ap (λ (b : Bool). b || false) (exponent_none e r)
power_children u h r = cc

-- ---- what has become of a child

from_expanded : (t u : Tree) → (root_kind t ≡ kind.Pow → ⊥) → IsReadyFrom t u → IsExpandedFrom t u
from_expanded t u h r p = let k = r p in grind (arith, over_kind, power_kind)

child_same : (t u : Tree) → is_polynomial t ≡ true → IsReadyFrom t u → AreSame (polynomial_of u) (polynomial_of t)
child_same t u p r = by (r p)
  where
    by : (u ≡ expanded (polynomial_of t)) ⊎ ((is_power_of_sum u ≡ true) × IsOver t u) → AreSame (polynomial_of u) (polynomial_of t)
    by (inl e) = same_polynomial (tree_monomials t) e
    by (inr (k, o)) = over.same t u o p

child_ready : (t u : Tree) → is_polynomial t ≡ true → IsReadyFrom t u → IsReady u
child_ready t u p r = by (r p)
  where
    by : (u ≡ expanded (polynomial_of t)) ⊎ ((is_power_of_sum u ≡ true) × IsOver t u) → IsReady u
    by (inl e) = inl (is_expanded (polynomial_of t) (tree_monomials t) e)
    by (inr (k, o)) = inr (k, over.polynomial_root t u o p, over.children_expanded t u o p)

exponent_ready : (e u : Tree) → is_exponent e ≡ true → IsReadyFrom e u → (exponent_of u ≡ exponent_of e) × (is_exponent u ≡ true) × IsReady u
exponent_ready e u h r =
    let (a, b, c) = exponent_same e u h (from_expanded e u (exponent_kind e h) r) in
    (a, b, inl c)

divisor_ready : (d u : Tree) → is_divisor d ≡ true → IsReadyFrom d u → (divisor_of u ≡ divisor_of d) × (is_divisor u ≡ true) × IsReady u
divisor_ready d u h r =
    let (a, b, c) = divisor_same d u h (from_expanded d u (divisor_kind d h) r) in
    (a, b, inl c)

-- an expanded child, and a power that was raised
pub raised_from : (t u : Tree) → is_power_of_sum u ≡ true → IsReadyFrom t u → IsReadyFrom t (expanded (polynomial_of u))
raised_from t u h r p = by (r p)
  where
    by : (u ≡ expanded (polynomial_of t)) ⊎ ((is_power_of_sum u ≡ true) × IsOver t u)
        → (expanded (polynomial_of u) ≡ expanded (polynomial_of t)) ⊎ ((is_power_of_sum (expanded (polynomial_of u)) ≡ true) × IsOver t (expanded (polynomial_of u)))
    by (inl e) = absurd (let x = sym h ∙ expanded_none (polynomial_of t) e in cc)
    by (inr (k, o)) = inl (over.expanded_from t u o p (expanded (polynomial_of u)) refl p)

pub leaf_ready : (t u : Tree) → IsExpandedFrom t u → IsReadyFrom t u
leaf_ready t u e p = inl (e p)

each_ready : (ts us : Trees) → AreExpandedFrom ts us → AreReadyFrom ts us
each_ready none none e = tt
each_ready none (more u us) e = absurd e
each_ready (more t ts) none e = absurd e
each_ready (more t ts) (more u us) e = (leaf_ready t u e.0, each_ready ts us e.1)

each_expanded : (ts us : Trees) → has_power_of_sum us ≡ false → AreReadyFrom ts us → AreExpandedFrom ts us
each_expanded none none h e = tt
each_expanded none (more u us) h e = absurd e
each_expanded (more t ts) none h e = absurd e
each_expanded (more t ts) (more u us) h e = (λ p. by (e.0 p), each_expanded ts us (or_second (is_power_of_sum u) (has_power_of_sum us) h) e.1)
  where
    by : (u ≡ expanded (polynomial_of t)) ⊎ ((is_power_of_sum u ≡ true) × IsOver t u) → u ≡ expanded (polynomial_of t)
    by (inl q) = q
    by (inr (k, o)) = absurd (let x = sym k ∙ or_first (is_power_of_sum u) (has_power_of_sum us) h in cc)

-- ---- a node over them

pub over_ready : {t now : Tree} → IsOver t now → IsOverReady t now
over_ready {t} {now} o = record { holds = o.holds; takes = o.takes; whole = o.whole; node = o.node; children = each_ready (children_of t) (children_of now) o.children }

pub over_expanded : {t now : Tree} → IsOverReady t now → has_power_of_sum (children_of now) ≡ false → IsOver t now
over_expanded {t} {now} o h = record { holds = o.holds; takes = o.takes; whole = o.whole; node = o.node; children = each_expanded (children_of t) (children_of now) h o.children }

module _ (t now : Tree) (o : IsOverReady t now) (p : is_polynomial t ≡ true) where
  same_over : IsOverSame IsReady (grown o.holds (children_of t)) (grown o.holds (children_of now)) (children_of now)
  same_over = over_payload IsReadyFrom IsReady child_same child_ready exponent_ready divisor_ready o.holds (children_of t) (children_of now) o.takes o.children (sym (ap is_polynomial o.whole) ∙ p)

  pub polynomial_root : has_polynomial_root now ≡ true
  polynomial_root = ap has_polynomial_root o.node ∙ same_over.root

  pub children_ready : AreReady (children_of now)
  children_ready = same_over.children

  pub same : AreSame (polynomial_of now) (polynomial_of t)
  same = same_trans (same_is (ap polynomial_of o.node)) (same_trans same_over.same (same_is (sym (ap polynomial_of o.whole))))

  -- the node itself, where it is a power of a sum
  pub left_from : is_power_of_sum now ≡ true → IsReadyFrom t now
  left_from h q = inr (h, over_expanded o (power_children now h polynomial_root))

  -- its expanded tree
  pub placed_from : (u : Tree) → u ≡ expanded (polynomial_of now) → IsReadyFrom t u
  placed_from u e q = inl (e ∙ expanded_same same)

  -- bytes that are lacking for the node are lacking for the tree
  pub lacks : {A : Type 0} (r : Result A NumberFault) (free : ℕ) → IfErr r (OfFull (λ full. free < node_bytes (names t) (most_terms t))) → IfErr r (OfFull (λ full. MayLack t (free + size now)))
  lacks (Ok a) free l = tt
  lacks (Err (number.Full full)) free l = omega (arith, room_at_node t (children_of now) free p (over.all_polynomials t p) o.children l, root_bytes now)
  lacks (Err (number.Overflow x)) free l = tt

pub child_lacks : (t c : Tree) (before done behind : Trees) (bytes : ℕ) → is_polynomial t ≡ true → IsNext IsReadyFrom t before done c behind → MayLack c bytes
    → MayLack t (bytes + (root_size t + sizes done + sizes behind))
child_lacks t c before done behind bytes p n l = omega (arith, root_over t before c behind n.split, room_above t c before behind done bytes p (over.all_polynomials t p) n.split n.answered l)

-- ---- a child that is a power

-- the tree of which it has become is among these
pub record IsPowerAmong (ts : Trees) (u : Tree) : Type 0 where
  pub child : Tree
  pub before : Trees
  pub behind : Trees
  pub split : ts ≡ append before (more child behind)
  pub polynomial : is_polynomial child ≡ true
  pub over : IsOver child u

power_among : (n : ℕ) (ts us : Trees) → are_polynomials ts ≡ true → AreReadyFrom ts us → n < count us → is_power_of_sum (nth n us) ≡ true → IsPowerAmong ts (nth n us)
power_among n ts none p e l h = absurd (omega (arith, l))
power_among n none (more u us) p e l h = absurd e
power_among zero (more t ts) (more u us) p e l h =
    let (a, b) = and_parts (is_polynomial t) (are_polynomials ts) p in
    by a (e.0 a)
  where
    by : is_polynomial t ≡ true → (u ≡ expanded (polynomial_of t)) ⊎ ((is_power_of_sum u ≡ true) × IsOver t u) → IsPowerAmong (more t ts) u
    by a (inl q) = absurd (let x = sym h ∙ expanded_none (polynomial_of t) q in cc)
    by a (inr (k, o)) = record { child = t; before = none; behind = ts; split = refl; polynomial = a; over = o }
power_among (suc n) (more t ts) (more u us) p e l h =
    let (a, b) = and_parts (is_polynomial t) (are_polynomials ts) p in
    let x = power_among n ts us b e.1 (omega (arith, l)) h in
    record { child = x.child; before = more t x.before; behind = x.behind; split = ap (more t) x.split; polynomial = x.polynomial; over = x.over }

pub power_of : (t now : Tree) (n : ℕ) → IsOverReady t now → is_polynomial t ≡ true → n < count (children_of now) → is_power_of_sum (nth n (children_of now)) ≡ true
    → IsPowerAmong (children_of t) (nth n (children_of now))
power_of t now n o p l h = power_among n (children_of t) (children_of now) (over.all_polynomials t p) o.children l h

pub power_bits : (t : Tree) {u : Tree} (x : IsPowerAmong (children_of t) u) → most_bits x.child ≤ most_bits t
power_bits t x = child_bits t x.before x.child x.behind x.split

pub power_lacks : (t : Tree) {u : Tree} {A : Type 0} (x : IsPowerAmong (children_of t) u) (r : Result A NumberFault) (free : ℕ)
    → IfErr r (OfFull (λ full. free < node_bytes (names x.child) (most_terms x.child))) → IfErr r (OfFull (λ full. free < node_bytes (names t) (most_terms t)))
power_lacks t x (Ok a) free l = tt
power_lacks t x (Err (number.Full full)) free l = omega (arith, l, narrower t x.child x.before x.behind x.split)
power_lacks t x (Err (number.Overflow o)) free l = tt

-- ---- it is raised

set_from : (n : ℕ) (ts us : Trees) → AreReadyFrom ts us → is_power_of_sum (nth n us) ≡ true → AreReadyFrom ts (set_tree n (expanded (polynomial_of (nth n us))) us)
set_from n none none e h = tt
set_from n (more t ts) none e h = absurd e
set_from n none (more u us) e h = absurd e
set_from zero (more t ts) (more u us) e h = (raised_from t u h e.0, e.1)
set_from (suc n) (more t ts) (more u us) e h = (e.0, set_from n ts us e.1 h)

none_below : (vs : Trees) → count vs ≡ 0 → none ≡ vs
none_below none e = refl
none_below (more v vs) e = absurd (omega (arith, e))

one_below : (vs : Trees) → count vs ≡ 1 → more (nth 0 vs) none ≡ vs
one_below none e = absurd (omega (arith, e))
one_below (more v none) e = refl
one_below (more v (more w ws)) e = absurd (omega (arith, e))

two_below : (vs : Trees) → count vs ≡ 2 → more (nth 0 vs) (more (nth 1 vs) none) ≡ vs
two_below none e = absurd (omega (arith, e))
two_below (more v none) e = absurd (omega (arith, e))
two_below (more v (more w none)) e = refl
two_below (more v (more w (more x xs))) e = absurd (omega (arith, e))

compound_children : (k : Kind) (vs : Trees) → takes_kind k (count vs) ≡ true → children_of (compound k vs) ≡ vs
compound_children kind.Undef vs h = none_below vs (eqb-true (count vs) 0 h)
compound_children kind.Add vs h = refl
compound_children kind.Mult vs h = refl
compound_children kind.Pow vs h = two_below vs (eqb-true (count vs) 2 h)
compound_children kind.Root vs h = one_below vs (eqb-true (count vs) 1 h)
compound_children kind.Neg vs h = one_below vs (eqb-true (count vs) 1 h)
compound_children kind.Sub vs h = two_below vs (eqb-true (count vs) 2 h)
compound_children kind.Div vs h = two_below vs (eqb-true (count vs) 2 h)
compound_children k vs h = cc

compound_kind : (k : Kind) (n : ℕ) (vs : Trees) → takes_kind k n ≡ true → root_kind (compound k vs) ≡ k
compound_kind k n vs h = grind arith

-- a node with other children is one over these
set_node : (x : Payload) (now : Tree) (vs : Trees) → now ≡ grown x (children_of now) → takes x (count (children_of now)) ≡ true → 1 ≤ count (children_of now) → count vs ≡ count (children_of now)
    → (compound (root_kind now) vs ≡ grown x vs) × (children_of (compound (root_kind now) vs) ≡ vs)
set_node (rational r) now vs e h l c = absurd (omega (arith, l, eqb-true (count (children_of now)) 0 h))
set_node (named y) now vs e h l c = absurd (omega (arith, l, eqb-true (count (children_of now)) 0 h))
set_node (bare k) now vs e h l c =
    let same : root_kind now ≡ k = ap root_kind e ∙ compound_kind k (count (children_of now)) (children_of now) h in
    (ap (λ (j : Kind). compound j vs) same, ap (λ (j : Kind). children_of (compound j vs)) same ∙ compound_children k vs (ap (takes_kind k) c ∙ h))

pub over_set : (t now : Tree) (n : ℕ) → IsOverReady t now → n < count (children_of now) → is_power_of_sum (nth n (children_of now)) ≡ true
    → IsOverReady t (set_child n (expanded (polynomial_of (nth n (children_of now)))) now)
over_set t now n o l h =
    let vs = set_tree n (expanded (polynomial_of (nth n (children_of now)))) (children_of now) in
    let many : count (children_of now) ≡ count (children_of t) = sym (answers_count IsReadyFrom (children_of t) (children_of now) o.children) in
    let x = set_node o.holds now vs o.node (ap (takes o.holds) many ∙ o.takes) (omega (arith, l)) (count_set n (expanded (polynomial_of (nth n (children_of now)))) (children_of now)) in
    record {
      holds = o.holds;
      takes = o.takes;
      whole = o.whole;
      node = x.0 ∙ ap (grown o.holds) (sym x.1);
      children = subst (AreReadyFrom (children_of t)) (sym x.1) (set_from n (children_of t) (children_of now) o.children h);
    }

pub set_children : (t now : Tree) (n : ℕ) (u : Tree) → IsOverReady t now → n < count (children_of now) → children_of (set_child n u now) ≡ set_tree n u (children_of now)
set_children t now n u o l =
    let many : count (children_of now) ≡ count (children_of t) = sym (answers_count IsReadyFrom (children_of t) (children_of now) o.children) in
    (set_node o.holds now (set_tree n u (children_of now)) o.node (ap (takes o.holds) many ∙ o.takes) (omega (arith, l)) (count_set n u (children_of now))).1

-- ---- from the last child on

pub none_behind : (n : ℕ) (ts : Trees) → count ts ≤ n → has_power_of_sum (from n ts) ≡ false
none_behind zero none l = refl
none_behind (suc n) none l = refl
none_behind zero (more t ts) l = absurd (omega (arith, l))
none_behind (suc n) (more t ts) l = none_behind n ts (omega (arith, l))

pub one_more_behind : (n : ℕ) (ts : Trees) → n < count ts → is_power_of_sum (nth n ts) ≡ false → has_power_of_sum (from (suc n) ts) ≡ false → has_power_of_sum (from n ts) ≡ false
one_more_behind n none l h k = absurd (omega (arith, l))
one_more_behind zero (more t ts) l h k = ap (λ (b : Bool). b || has_power_of_sum ts) h ∙ k
one_more_behind (suc n) (more t ts) l h k = one_more_behind n ts (omega (arith, l)) h k

set_behind : (n : ℕ) (u : Tree) (ts : Trees) → from (suc n) (set_tree n u ts) ≡ from (suc n) ts
set_behind n u none = refl
set_behind zero u (more t ts) = refl
set_behind (suc n) u (more t ts) = set_behind n u ts

set_nth : (n : ℕ) (u : Tree) (ts : Trees) → n < count ts → nth n (set_tree n u ts) ≡ u
set_nth n u none l = absurd (omega (arith, l))
set_nth zero u (more t ts) l = refl
set_nth (suc n) u (more t ts) l = set_nth n u ts (omega (arith, l))

pub raised_behind : (n : ℕ) (v : Polynomial) (ts : Trees) → n < count ts → has_power_of_sum (from (suc n) ts) ≡ false → has_power_of_sum (from n (set_tree n (expanded v) ts)) ≡ false
raised_behind n v ts l k =
    one_more_behind n (set_tree n (expanded v) ts) (omega (arith, l, count_set n (expanded v) ts)) (expanded_none v (set_nth n (expanded v) ts l))
    (ap has_power_of_sum (set_behind n (expanded v) ts) ∙ k)

-- ---- an answer

pub answer_expanded : {t u : Tree} → is_polynomial t ≡ true → IsReadyFrom t u → is_power_of_sum u ≡ false → u ≡ expanded (polynomial_of t)
answer_expanded {t} {u} p r h = let k = r p in grind arith

pub answer_over : {t u : Tree} → is_polynomial t ≡ true → IsReadyFrom t u → is_power_of_sum u ≡ true → IsOver t u
answer_over {t} {u} p r h = let k = r p in grind (arith, expanded_none)

pub beyond_most : (t : Tree) (r : Result ℕ NumberFault) → IfErr r (OfOverflow (λ o. 124 < most_bits t)) → IfOverflow r (MayOverflow t (nodes t))
beyond_most t r l = grind arith

abbrev pub no_result : NumberFault → Result ℕ NumberFault
no_result e = Err e
