-- The rational or the sum that leads a product.
use Rattle.coefficients.proofs.Shared.{◌≡◌, ℕ, ◌≤◌, [], ◌∷◌, true, false, refl, sym, ap, ◌∙◌, subst, arith, Fraction, times, is_one_fraction, is_number, product_tree, is_reduced, Tree, num, add, mult}
use Rattle.coefficients.proofs.Shared.{Trees, none, more, count, root_kind, is_mult, State, tree_of, IsHanded, Ends, KeepsFront, nth, plain, children_of, IsExpression, Forest, kids, tree_nth}
use Rattle.coefficients.proofs.Shared.{without_nth, tree_at, root_tree, without_root, put, Stands, forest, behind_first, front_same, front_at, front_put, given_rest, factors_of, rational_times}
use Rattle.coefficients.proofs.Shared.{rational_times_factors, rational_times_number, rational_times_term, leads_sum, IsOver, over_put, over_same, IsAdded, expression, seen, IsTaken, taken}
use Rattle.coefficients.proofs.Lengths.{long}
use Rattle.calc_terms.specs.declared.kind.Kind.TheVariants as kind

-- ---- a rational in front

pub record IsRationalLed (q : Fraction) (ts : Trees) : Type 0 where
  pub rest : Trees
  pub whole : ts ≡ more (num q) rest
  pub some : 1 ≤ count rest

pub rational_led : (q : Fraction) (ts : Trees) → 2 ≤ count ts → nth 0 ts ≡ num q → IsRationalLed q ts
rational_led q none l e = absurd (omega arith)
rational_led q (more t ts) l e = record { rest = ts; whole = ap (λ (u : Tree). more u ts) e; some = omega arith }

-- the first factor, as it is read
pub first_seen : {s : State} {i j : ℕ} (k : ℕ) → j ≡ i → Stands s → IsHanded i (forest s)
    → (IsExpression j (forest s) → plain (tree_at k (forest s)) ≡ nth 0 (children_of (plain (tree_at j (forest s)))))
    → plain (tree_at k (forest s)) ≡ nth 0 (children_of (tree_of i s))
first_seen k e st hand first = first (expression e st hand) ∙ ap (λ (t : Tree). nth 0 (children_of t)) (seen e st hand)

-- a rational, as it is read
pub first_led : {s : State} {i j : ℕ} {q : Fraction} (k : ℕ) → j ≡ i → Stands s → IsHanded i (forest s) → is_mult (tree_of i s) ≡ true → is_reduced (tree_of i s) ≡ true
    → (IsExpression j (forest s) → plain (tree_at k (forest s)) ≡ nth 0 (children_of (plain (tree_at j (forest s))))) → plain (tree_at k (forest s)) ≡ num q
    → IsRationalLed q (children_of (tree_of i s))
first_led k e st hand m r first is = grind (arith, rational_led, long, first_seen)

-- it was taken out, and then released
pub led_taken : {i h : ℕ} {q : Fraction} {ts : Trees} {old f : Forest} → IsOver kind.Mult i ts old → (l : IsRationalLed q ts)
    → Ends h (tree_nth 0 (kids (root_tree i old))) (put i (without_nth 0 (kids (root_tree i old))) old) f → IsTaken kind.Mult i 0 (num q) l.rest old f h
led_taken {i = i} {q = q} {old = old} o l d = taken 0 none (num q) l.rest (subst (λ (us : Trees). IsOver kind.Mult i us old) l.whole o) refl d

pub led_dropped : {i h : ℕ} {t : Tree} {us ts : Trees} {old f new : Forest} → IsOver kind.Mult i us old → IsTaken kind.Mult i 0 t ts old f h → new ≡ without_root h f
    → IsAdded kind.Mult i ts old new
led_dropped o x e =
    let whole = e ∙ given_rest x.gives in
    record { now = x.now; kids = x.kids; whole = whole; over = over_same (over_put x.now o x.kids) whole }

pub added_front : {i : ℕ} {ts : Trees} {old new : Forest} → IsAdded kind.Mult i ts old new → KeepsFront (i ∷ []) old new
added_front a = front_at (front_put a.now behind_first front_same) a.whole

-- what the factors make with it, where the product of both is 1, and where it is not
pub times_to_one : (q c l : Fraction) (ts rest : Trees) → ts ≡ more (num c) rest → l ≡ times q c → is_one_fraction l ≡ true → product_tree rest ≡ rational_times_factors q ts
times_to_one q c l ts rest w p one = grind arith

pub times_to_other : (q c l : Fraction) (ts rest : Trees) → ts ≡ more (num c) rest → l ≡ times q c → is_one_fraction l ≡ false → mult (more (num l) rest) ≡ rational_times_factors q ts
times_to_other q c l ts rest w p other = grind arith

-- no rational in front
pub times_unled : (q : Fraction) (ts : Trees) → (kind.Num ≡ root_kind (nth 0 ts) → ⊥) → mult (more (num q) ts) ≡ rational_times_factors q ts
times_unled q ts h = grind arith

-- ---- any tree

pub times_number : (q c : Fraction) (t : Tree) → t ≡ num c → num (times q c) ≡ rational_times q t
times_number q c t e = sym (ap (rational_times q) e)

pub times_product : (q : Fraction) (t : Tree) → is_mult t ≡ true → rational_times_factors q (children_of t) ≡ rational_times q t
times_product q t m = grind arith

pub times_other : (q : Fraction) (t : Tree) → (kind.Num ≡ root_kind t → ⊥) → (kind.Mult ≡ root_kind t → ⊥) → mult (more (num q) (factors_of t)) ≡ rational_times q t
times_other q t h k = grind arith

-- ---- a sum in front

pub record IsSumLed (t : Tree) : Type 0 where
  pub terms : Trees
  pub rest : Trees
  pub whole : t ≡ mult (more (add terms) rest)
  pub number : is_number (add terms) ≡ true

pub sum_led : (t : Tree) → leads_sum t ≡ true → IsSumLed t
sum_led t h = grind arith

pub led_children : {t : Tree} (l : IsSumLed t) → children_of t ≡ more (add l.terms) l.rest
led_children l = ap children_of l.whole

pub led_product : {t : Tree} (l : IsSumLed t) → is_mult t ≡ true
led_product l = ap is_mult l.whole

pub led_reduced : {t : Tree} (l : IsSumLed t) → is_reduced t ≡ true → is_reduced (add l.terms) ≡ true
led_reduced {t = t} l r =
    let x = long t (led_product l) r in
    ap (λ (us : Trees). is_reduced (nth 0 us)) (sym (led_children l)) ∙ x.child 0 (omega (arith, x.two))

pub times_led : (q : Fraction) {t : Tree} (l : IsSumLed t) → mult (more (rational_times_number q l.terms) l.rest) ≡ rational_times_term q t
times_led q l = grind arith

-- none in front
pub times_sum_unled : (q : Fraction) (t : Tree) → leads_sum t ≡ false → rational_times q t ≡ rational_times_term q t
times_sum_unled q t h = grind arith
