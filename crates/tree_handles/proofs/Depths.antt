-- A walk that measures how deep a tree is.
use Rattle.tree_handles.proofs.Shared.{◌≡◌, ℕ, ◌+◌, ◌-◌, ◌<◌, ◌≤◌, max, List, [], ◌∷◌, length, get_or, refl, sym, ap, ◌∙◌, subst, arith, get_or-set_other, get_or-set_same, length-set, set, Visit}
use Rattle.tree_handles.proofs.{Shared.{Forest, empty, tree, join, arity, nodes_in, depth_in, visits_of, ◌≢◌}, Forests.{join-empty}, Visiting.{visit_here, visits_left, visits_length}}

-- the trees that are still owed on the open levels, the deepest level first
abbrev pub AreOpen : List Forest → ℕ → List ℕ → Type 0
AreOpen [] height owed = height ≡ 0
AreOpen (f ∷ fs) height owed = (0 < height) × (get_or owed (height - 1) 0 ≡ arity f) × AreOpen fs (height - 1) owed

-- side by side
abbrev pub open_trees : List Forest → Forest
open_trees [] = empty
open_trees (f ∷ fs) = join f (open_trees fs)

-- how deep they reach
abbrev pub reach : List Forest → ℕ
reach [] = 0
reach (f ∷ fs) = max (length fs + depth_in f) (reach fs)

-- a walk over so many nodes that knows the deepest level so far
pub record IsWalked (left : List Visit) (height deepest total many : ℕ) (owed : List ℕ) : Type 0 where
  pub trees : List Forest
  pub left-are : left ≡ visits_of (open_trees trees)
  pub levels : AreOpen trees height owed
  pub sum : max deepest (reach trees) ≡ total
  pub low : height ≤ deepest + 1
  pub high : height + length left ≤ many + 1

pub walked_start : {left : List Visit} {owed : List ℕ} (t : Forest) → arity t ≡ 1 → left ≡ visits_of t → get_or owed 0 0 ≡ 1 → IsWalked left 1 0 (depth_in t) (nodes_in t) owed
walked_start t one e first = record {
  trees = t ∷ [];
  left-are = e ∙ ap visits_of (sym (join-empty t));
  levels = (omega arith, first ∙ sym one, refl);
  sum = omega arith;
  low = omega arith;
  high = omega (arith, ap length e, visits_length t);
}

pub open_count : (fs : List Forest) (height : ℕ) (owed : List ℕ) → AreOpen fs height owed → length fs ≡ height
open_count [] height owed h = sym h
open_count (f ∷ fs) height owed h = omega (arith, h.0, open_count fs (height - 1) owed h.2)

-- a write above does not change them
height-set : (fs : List Forest) (height i v : ℕ) (owed : List ℕ) → height ≤ i → AreOpen fs height owed → AreOpen fs height (set owed i v)
height-set [] height i v owed h p = p
height-set (f ∷ fs) height i v owed h p =
    let other : height - 1 ≢ i = λ e. absurd (omega (arith, p.0)) in
    (p.0, get_or-set_other owed i (height - 1) v 0 other ∙ p.1, height-set fs (height - 1) i v owed (omega arith) p.2)

-- a level that is done closes
pub walked_close : {left : List Visit} {height deepest total many : ℕ} {owed : List ℕ} → IsWalked left height deepest total many owed → 0 < height → get_or owed (height - 1) 0 ≡ 0 → IsWalked left (height - 1) deepest total many owed
walked_close {left = left} {height = height} {deepest = deepest} {total = total} {many = many} {owed = owed} w some z = by w.trees w.left-are w.levels w.sum
  where
    by : (fs : List Forest) → left ≡ visits_of (open_trees fs) → AreOpen fs height owed → max deepest (reach fs) ≡ total → IsWalked left (height - 1) deepest total many owed
    by [] e p s = absurd (omega (arith, p))
    by (empty ∷ fs) e p s = record { trees = fs; left-are = e; levels = p.2; sum = omega (arith, s, open_count fs (height - 1) owed p.2); low = omega (arith, w.low); high = omega (arith, w.high) }
    by (tree l k r ∷ fs) e p s = absurd (omega (arith, p.1, z))

-- a node is left where a level is not done
pub walked_some : {left : List Visit} {height deepest total many : ℕ} {owed : List ℕ} → IsWalked left height deepest total many owed → 0 < height → 0 < get_or owed (height - 1) 0 → 0 < length left
walked_some {left = left} {height = height} {owed = owed} w some more = by w.trees w.left-are w.levels
  where
    by : (fs : List Forest) → left ≡ visits_of (open_trees fs) → AreOpen fs height owed → 0 < length left
    by [] e p = absurd (omega (arith, p))
    by (empty ∷ fs) e p = absurd (omega (arith, p.1))
    by (tree l k r ∷ fs) e p = omega (arith, ap length e)

-- it opens a level for its children
pub walked_deeper : {xs left : List Visit} {height deepest total many : ℕ} {owed : List ℕ} {v : Visit} → IsWalked xs height deepest total many owed → 0 < height → height < length owed → 0 < get_or owed (height - 1) 0 → xs ≡ v ∷ left
    → IsWalked left (height + 1) (max deepest height) total many (set (set owed (height - 1) (get_or owed (height - 1) 0 - 1)) height v.children)
walked_deeper {xs = xs} {left = left} {height = height} {deepest = deepest} {total = total} {many = many} {owed = owed} {v = v} w some room more next = by w.trees w.left-are w.levels w.sum
  where
    by : (fs : List Forest) → xs ≡ visits_of (open_trees fs) → AreOpen fs height owed → max deepest (reach fs) ≡ total
        → IsWalked left (height + 1) (max deepest height) total many (set (set owed (height - 1) (get_or owed (height - 1) 0 - 1)) height v.children)
    by [] e p s = absurd (omega (arith, p))
    by (empty ∷ fs) e p s = absurd (omega (arith, p.1))
    by (tree l k r ∷ fs) e p s =
        let others = join r (open_trees fs) in
        let told : v.children ≡ arity k = ap (λ (y : Visit). y.children) (visit_here l k others (sym e ∙ next)) in
        let one = set owed (height - 1) (get_or owed (height - 1) 0 - 1) in
        let two = set one height v.children in
        let back : height + 1 - 1 ≡ height = omega arith in
        let room-one : height < length one = omega (arith, length-set owed (height - 1) (get_or owed (height - 1) 0 - 1)) in
        let less : height - 1 < length owed = omega arith in
        let other : height - 1 ≢ height = λ d. absurd (omega arith) in
        let top : get_or two (height + 1 - 1) 0 ≡ arity k = ap (λ (j : ℕ). get_or two j 0) back ∙ get_or-set_same one height v.children 0 room-one ∙ told in
        let below : get_or two (height - 1) 0 ≡ arity r = get_or-set_other one height (height - 1) v.children 0 other ∙ get_or-set_same owed (height - 1) (get_or owed (height - 1) 0 - 1) 0 less ∙ omega (arith, p.1) in
        let rest : AreOpen fs (height - 1) two = height-set fs (height - 1) height v.children one (omega arith) (height-set fs (height - 1) (height - 1) (get_or owed (height - 1) 0 - 1) owed (omega arith) p.2) in
        record {
          trees = k ∷ (r ∷ fs);
          left-are = visits_left l k others (sym e ∙ next);
          levels = (omega arith, top, subst (λ (j : ℕ). AreOpen (r ∷ fs) j two) (sym back) (some, below, rest));
          sum = omega (arith, s, open_count fs (height - 1) owed p.2);
          low = omega arith;
          high = omega (arith, w.high, ap length next);
        }

-- at the end the deepest level is known
pub walked_done : {left : List Visit} {height deepest total many : ℕ} {owed : List ℕ} → IsWalked left height deepest total many owed → height ≡ 0 → deepest ≡ total
walked_done {height = height} {deepest = deepest} {total = total} {owed = owed} w z = by w.trees w.levels w.sum
  where
    by : (fs : List Forest) → AreOpen fs height owed → max deepest (reach fs) ≡ total → deepest ≡ total
    by [] p s = omega (arith, s)
    by (f ∷ fs) p s = absurd (omega (arith, p.0, z))
