-- The extents of a layout tree, from the last node to the first.
use Rattle.pool_layouts.proofs.Shared.{◌≡◌, ◌∙◌, if◌then◌else◌, Bool, false, ℕ, suc, ◌+◌, ◌-◌, ◌*◌, ◌<◌, ◌≤◌, List, ◌∷◌, ◌++◌, length, map, drop, get_or, true, refl, sym, ap, subst, arith}
use Rattle.pool_layouts.proofs.Shared.{append_assoc, drop-map, drop-set, State, Label, Forest, empty, tree, join, arity, flatten, node_of, nodes_in, bytes_in, AllNodes, holds, tree_at, payload_in}
use Rattle.pool_layouts.proofs.Shared.{Stands, forest, nodes-flatten, one_at, used_forest, Visit, Extent, visit_of, visits_of, drawing, AllComposed, IsComposed, IsLayout, extent_of, extents_of}
use Rattle.pool_layouts.proofs.{Shared.{HasExtents, HasSmall, IsOver, IsValid, AllValid, HasSomeFirst, picture, height, visits_length, valid, bytes_nodes, eqb, set}, Measures.{extents-join}}
use Rattle.pool_layouts.proofs.{Shown.{first_is, IsKnown, known}, Suffixes.{after, after_flat, after_all, after_bytes, left_at, none_after}}

-- a tree of a forest has at most its bytes
tree_bytes : (f : Forest) (i : ℕ) → bytes_in (tree_at i f) ≤ bytes_in f
tree_bytes empty i = omega arith
tree_bytes (tree l k r) i = by (eqb l.id i) (holds i k) (tree_bytes k i) (tree_bytes r i)
  where
    by : (a b : Bool) → bytes_in (tree_at i k) ≤ bytes_in k → bytes_in (tree_at i r) ≤ bytes_in r
        → bytes_in (if a then tree l k empty else (if b then tree_at i k else tree_at i r)) ≤ bytes_in (tree l k r)
    by true b h g = omega arith
    by false true h g = omega (arith, h)
    by false false h g = omega (arith, g)

-- a tree's bytes are few
pub few_bytes : (s : State) (i : ℕ) → Stands s → holds i (forest s) ≡ true → bytes_in (tree_at i (forest s)) ≤ 524280
few_bytes s i st h = omega (arith, tree_bytes (forest s) i, used_forest s st, st.pool.fits, st.pool.size.most)

-- a drafter for so large a pool has room for a tree's nodes
pub nodes_served : (s : State) (i : ℕ) → Stands s → 8 * nodes_in (tree_at i (forest s)) ≤ s.size
nodes_served s i st = omega (arith, bytes_nodes (tree_at i (forest s)), tree_bytes (forest s) i, used_forest s st, st.pool.fits)

-- at the end nothing is listed
pub measure_start : (s : State) (i : ℕ) (cells : List Visit) (es : List Extent) → cells ≡ visits_of (tree_at i (forest s)) → HasExtents (after (length cells) (tree_at i (forest s))) (length cells) es
measure_start s i cells es e =
    let t = tree_at i (forest s) in
    let none : after (length cells) t ≡ empty = none_after (length cells) t (omega (arith, ap length e, visits_length t, nodes-flatten t)) in
    record { behind = drop (length cells) es; extents_are = ap (λ (f : Forest). extents_of f ++ drop (length cells) es) (sym none) }

pub record IsMeasuring (s : State) (i at : ℕ) (cells : List Visit) (es : List Extent) : Type 0 where
  pub label : Label
  pub below : Forest
  pub cell_is : (d : Visit) → get_or cells (at - 1) d ≡ visit_of (node_of label below)
  pub live : holds label.id (forest s) ≡ true
  pub payload_is : payload_in label.id (forest s) ≡ label.payload
  pub over : IsOver label.payload below at es
  pub listed : (e : Extent) → e ≡ extent_of label.payload below → at - 1 < length es → HasExtents (after (at - 1) (tree_at i (forest s))) (at - 1) (set es (at - 1) e)

pub measuring : (s : State) (i at : ℕ) (cells : List Visit) (es : List Extent) → Stands s → IsLayout i (forest s) → cells ≡ visits_of (tree_at i (forest s)) → 0 < at → at ≤ length cells
    → HasExtents (after at (tree_at i (forest s))) at es → IsMeasuring s i at cells es
measuring s i at cells es st x e some within h =
    let t = tree_at i (forest s) in
    let n = at - 1 in
    let long : length cells ≡ length (flatten t) = ap length e ∙ visits_length t ∙ sym (nodes-flatten t) in
    let here = left_at n t (omega (arith, long, some, within)) in
    let at_is : at ≡ suc n = omega (arith, some) in
    let below_is : after at t ≡ join here.below here.others = ap (λ (m : ℕ). after m t) at_is ∙ here.next in
    let composed_here : AllComposed (tree here.label here.below here.others) = subst AllComposed here.here (after_all IsComposed n t x.composed_whole) in
    let valid_here : AllValid (tree here.label here.below here.others) = subst AllValid here.here (after_all IsValid n t (valid s i st x.live)) in
    let known_here : AllNodes (IsKnown (forest s)) (tree here.label here.below here.others) = subst (AllNodes (IsKnown (forest s))) here.here (after_all (IsKnown (forest s)) n t (known s i st)) in
    let cells_here : drop n cells ≡ map visit_of (flatten (tree here.label here.below here.others)) = ap (drop n) e ∙ drop-map visit_of n (flatten t)
    ∙ ap (map visit_of) (sym (after_flat n t) ∙ ap flatten here.here) in
    let listed_here : drop at es ≡ extents_of here.below ++ (extents_of here.others ++ h.behind)
    = h.extents_are ∙ ap (λ (f : Forest). extents_of f ++ h.behind) below_is ∙ ap (λ (y : List Extent). y ++ h.behind) (extents-join here.below here.others)
    ∙ append_assoc (extents_of here.below) (extents_of here.others) h.behind in
    let few : bytes_in (tree here.label here.below here.others) ≤ 524280 = omega (arith, ap bytes_in here.here, after_bytes n t, few_bytes s i st x.live) in
    record {
      label = here.label;
      below = here.below;
      cell_is = λ d. first_is cells (map visit_of (flatten here.below ++ flatten here.others)) n (visit_of (node_of here.label here.below)) d cells_here;
      live = known_here.0.0;
      payload_is = known_here.0.1;
      over = record {
        small = record { behind = extents_of here.others ++ h.behind; extents_are = listed_here; composed_parts = composed_here.1; valid_parts = valid_here.1; few = omega (arith, few) };
        payload = valid_here.0;
        composed_node = composed_here.0;
      };
      listed = λ y q inside. record {
        behind = h.behind;
        extents_are = drop-set es n y inside ∙ ap (λ (z : Extent). z ∷ drop (n + 1) es) q
            ∙ ap (λ (m : ℕ). extent_of here.label.payload here.below ∷ drop m es) (let same : n + 1 ≡ at = omega (arith, some) in same)
            ∙ ap (λ (ys : List Extent). extent_of here.label.payload here.below ∷ ys) (listed_here ∙ sym (append_assoc (extents_of here.below) (extents_of here.others) h.behind))
            ∙ ap (λ (f : Forest). extents_of f ++ h.behind) (sym here.here);
      };
    }

-- ---- the whole tree is measured

pub alone : (t : Forest) → arity t ≡ 1 → (l : Label) × (k : Forest) × (t ≡ tree l k empty)
alone (tree l k empty) e = (l, k, refl)
alone t e = absurd (omega (arith, e))

pub record IsMeasured (s : State) (i : ℕ) (es : List Extent) : Type 0 where
  pub label : Label
  pub below : Forest
  pub tree_is : tree_at i (forest s) ≡ tree label below empty
  pub small : HasSmall (tree label below empty) 0 es

pub measured : (s : State) (i : ℕ) (es : List Extent) → Stands s → IsLayout i (forest s) → HasExtents (tree_at i (forest s)) 0 es → IsMeasured s i es
measured s i es st x h =
    let t = tree_at i (forest s) in
    let (l, k, is) = alone t (one_at i (forest s) x.live) in
    record {
      label = l;
      below = k;
      tree_is = is;
      small = record {
        behind = h.behind;
        extents_are = h.extents_are ∙ ap (λ (f : Forest). extents_of f ++ h.behind) is;
        composed_parts = subst AllComposed is x.composed_whole;
        valid_parts = subst AllValid is (valid s i st x.live);
        few = omega (arith, ap bytes_in is, few_bytes s i st x.live);
      };
    }

pub measured_first : (s : State) (i : ℕ) (es : List Extent) → IsMeasured s i es → HasSomeFirst 0 es
measured_first s i es m = (m.label, m.below, empty, m.small)

pub rows_are : (s : State) (i : ℕ) (es : List Extent) (e : Extent) (m : IsMeasured s i es) → e ≡ extent_of m.label.payload m.below
    → e.above + 1 + e.below ≡ height (picture (drawing (tree_at i (forest s))))
rows_are s i es e m q = grind arith
