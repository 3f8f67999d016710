-- A leaf of a name among the nodes of some trees, and what comes of these where another tree stands in its place.
use Rattle.tree_walks.proofs.Shared.{◌≡◌, ℕ, suc, ◌+◌, ◌-◌, ◌<◌, List, [], ◌∷◌, ◌++◌, length, cond, eqb, refl, sym, ap, ◌∙◌, arith, append_assoc, inl, inr}
use Rattle.tree_walks.proofs.Shared.{true, false, ◌⊎◌, eq-eqb, length-append, Payload, size_of_payload, Tree, Trees, symbol, none, more, append, root_size, grown}
use Rattle.tree_walks.proofs.Shared.{plains, takes, IsWhole, AllExpressions, Label, Forest, empty, tree, join, arity, root_id, root_payload, set_nth, tree_nth, bytes_in, IsOnce, AllOnce, holds}
use Rattle.tree_walks.proofs.Shared.{kids_of, with_kids, Distinct, distinct_parts, other_id, all-join, arity-join, bytes_in-join, by_test, has_name, leaves_of}
use Rattle.tree_walks.proofs.{LeafLists.{leaves_at, one_or_none, later, later_root, later-all, later-root, later-join, leaves-join}, Names.leaf_alone}

-- ---- where it stands

-- it is one of the trees
pub record IsAmong (f : Forest) (l : Label) (fill : Forest → Forest) : Type 0 where
  pub at : ℕ
  pub within : at < arity f
  pub tree-is : tree_nth at f ≡ tree l empty empty
  pub fill-is : (c : Forest) → fill c ≡ set_nth at c f

-- or a child of a node
pub record IsBelow (f : Forest) (l : Label) (fill : Forest → Forest) : Type 0 where
  pub at : ℕ
  pub parent : ℕ
  pub live : holds parent f ≡ true
  pub within : at < arity (kids_of parent f)
  pub tree-is : tree_nth at (kids_of parent f) ≡ tree l empty empty
  pub fill-is : (c : Forest) → fill c ≡ with_kids parent (set_nth at c (kids_of parent f)) f
  pub root : (c : Forest) → (root_id (fill c) ≡ root_id f) × (root_payload (fill c) ≡ root_payload f)

among_kids : {m : Label} {fill : Forest → Forest} (l : Label) (k r : Forest) → IsAmong k m fill → IsBelow (tree l k r) m (λ c. tree l (fill c) r)
among_kids l k r a =
    let here : eqb l.id l.id ≡ true = eq-eqb l.id l.id refl in
    record {
      at = a.at;
      parent = l.id;
      live = rw here refl;
      within = rw here a.within;
      tree-is = rw here a.tree-is;
      fill-is = λ c. rw here (ap (λ (y : Forest). tree l y r) (a.fill-is c));
      root = λ c. (refl, refl);
    }

below_kids : {m : Label} {fill : Forest → Forest} (l : Label) (k r : Forest) → Distinct (tree l k r) → IsBelow k m fill → IsBelow (tree l k r) m (λ c. tree l (fill c) r)
below_kids l k r d b =
    let other : eqb l.id b.parent ≡ false = other_id l.id b.parent k (distinct_parts l k r d).not_below b.live in
    let same : kids_of b.parent (tree l k r) ≡ kids_of b.parent k = rw (other, b.live) refl in
    let there : (n : Forest) → tree l (with_kids b.parent n k) r ≡ with_kids b.parent n (tree l k r) = λ n. rw (other, b.live) refl in
    record {
      at = b.at;
      parent = b.parent;
      live = rw (other, b.live) refl;
      within = rw (other, b.live) b.within;
      tree-is = rw (other, b.live) b.tree-is;
      fill-is = λ c. ap (λ (y : Forest). tree l y r) (b.fill-is c) ∙ ap (λ (y : Forest). tree l (with_kids b.parent (set_nth b.at c y) k) r) (sym same)
          ∙ there (set_nth b.at c (kids_of b.parent (tree l k r)));
      root = λ c. (refl, refl);
    }

below_behind : {m : Label} {fill : Forest → Forest} (l : Label) (k r : Forest) → Distinct (tree l k r) → IsBelow r m fill → IsBelow (tree l k r) m (λ c. tree l k (fill c))
below_behind l k r d b =
    let p = distinct_parts l k r d in
    let other : eqb l.id b.parent ≡ false = other_id l.id b.parent r p.not_behind b.live in
    let apart : holds b.parent k ≡ false = p.apart b.parent b.live in
    let same : kids_of b.parent (tree l k r) ≡ kids_of b.parent r = rw (other, apart) refl in
    let there : (n : Forest) → tree l k (with_kids b.parent n r) ≡ with_kids b.parent n (tree l k r) = λ n. rw (other, apart) refl in
    record {
      at = b.at;
      parent = b.parent;
      live = rw (other, apart, b.live) refl;
      within = rw (other, apart) b.within;
      tree-is = rw (other, apart) b.tree-is;
      fill-is = λ c. ap (λ (y : Forest). tree l k y) (b.fill-is c) ∙ ap (λ (y : Forest). tree l k (with_kids b.parent (set_nth b.at c y) r)) (sym same)
          ∙ there (set_nth b.at c (kids_of b.parent (tree l k r)));
      root = λ c. (refl, refl);
    }

-- ---- what comes of them

pub record IsHole (x : List ℕ) (f : Forest) (passed : List ℕ) (i : ℕ) (rest : List ℕ) : Type 0 where
  pub label : Label
  pub id-is : label.id ≡ i
  pub named : has_name x label.payload ≡ true
  pub held_once : label.count ≡ 1
  pub fill : Forest → Forest
  pub place : IsAmong f label fill ⊎ IsBelow f label fill
  pub leaves : (c : Forest) → leaves_of x (fill c) ≡ passed ++ (leaves_of x c ++ rest)
  pub told : (u : Tree) (c : Forest) → plains c ≡ more u none → later x u (length passed + length (leaves_of x c)) (fill c) ≡ later x u (length passed) f
  pub bytes : (c : Forest) → bytes_in (fill c) + root_size (symbol x) ≡ bytes_in f + bytes_in c
  pub many : (c : Forest) → arity c ≡ 1 → arity (fill c) ≡ arity f
  pub once : (c : Forest) → AllOnce c → AllOnce (fill c)
  pub whole : (c : Forest) → arity c ≡ 1 → AllExpressions c → AllExpressions (fill c)

pub leaf_size : (x : List ℕ) (q : Payload) → has_name x q ≡ true → size_of_payload q ≡ root_size (symbol x)
leaf_size x q h = grind arith

-- it stands first
hole_here : (x : List ℕ) (l : Label) (r : Forest) → has_name x l.payload ≡ true → AllOnce (tree l empty r) → AllExpressions (tree l empty r) → IsHole x (tree l empty r) [] l.id (leaves_of x r)
hole_here x l r h o w = record {
  label = l;
  id-is = refl;
  named = h;
  held_once = o.0;
  fill = λ c. join c r;
  place = inl (record { at = 0; within = omega arith; tree-is = refl; fill-is = λ c. refl });
  leaves = λ c. leaves-join x c r;
  told = λ u c e.
      let n = length (leaves_of x c) in
      let gone : n - n ≡ 0 = omega arith in
      let next : 0 ≡ 0 - leaves_at x l empty = omega arith in
      let start : length {A = ℕ} [] + n ≡ n = omega arith in
      ap (λ (m : ℕ). later x u m (join c r)) start ∙ later-join x u n c r ∙ ap (λ (ts : Trees). append ts (later x u (n - n) r)) (later-all x u n c (omega arith) ∙ e)
      ∙ ap (λ (m : ℕ). more u (later x u m r)) (gone ∙ next) ∙ rw h refl;
  bytes = λ c. omega (arith, bytes_in-join c r, leaf_size x l.payload h);
  many = λ c e. omega (arith, arity-join c r, e);
  once = λ c y. all-join IsOnce c r y o.2;
  whole = λ c e y. all-join IsWhole c r y w.2;
}

-- it stands below the first node, which is no leaf of the name
hole_below : {x passed rest : List ℕ} {i : ℕ} (l : Label) (k r : Forest) → has_name x l.payload ≡ false → Distinct (tree l k r) → AllOnce (tree l k r) → AllExpressions (tree l k r)
    → leaves_of x k ≡ passed ++ i ∷ rest → IsHole x k passed i rest → IsHole x (tree l k r) passed i (rest ++ leaves_of x r)
hole_below {x = x} {passed = passed} {rest = rest} {i = i} l k r h d o w e p = record {
  label = p.label;
  id-is = p.id-is;
  named = p.named;
  held_once = p.held_once;
  fill = λ c. tree l (p.fill c) r;
  place = elim p.place [ inl a ↦ inr (among_kids l k r a) | inr b ↦ inr (below_kids l k r d b) ];
  leaves = λ c. rw h (ap (λ (ys : List ℕ). ys ++ leaves_of x r) (p.leaves c) ∙ append_assoc passed (leaves_of x c ++ rest) (leaves_of x r) ∙ ap (λ (ys : List ℕ). passed ++ ys) (append_assoc (leaves_of x c) rest (leaves_of x r)));
  told = λ u c q.
      let n = length passed in
      let m = n + length (leaves_of x c) in
      let made : length (leaves_of x (p.fill c)) ≡ m + length rest = omega (arith, ap length (p.leaves c), length-append passed (leaves_of x c ++ rest), length-append (leaves_of x c) rest) in
      let was : n < length (leaves_of x k) = omega (arith, ap length e, length-append passed (i ∷ rest)) in
      let root : later_root x u m l.payload (later x u m (p.fill c)) ≡ later_root x u n l.payload (later x u n k) = rw h (ap (grown l.payload) (p.told u c q)) in
      let behind : m - leaves_at x l (p.fill c) ≡ n - leaves_at x l k = omega (arith, made, was) in
      cc (root, ap (λ (y : ℕ). later x u y r) behind);
  bytes = λ c. omega (arith, p.bytes c);
  many = λ c e. refl;
  once = λ c y. (o.0, p.once c y, o.2);
  whole = λ c e y. (ap (takes l.payload) (p.many c e) ∙ w.0, p.whole c e y, w.2);
}

-- it stands behind the first tree
hole_behind : {x passed rest : List ℕ} {i : ℕ} (l : Label) (k r : Forest) → Distinct (tree l k r) → AllOnce (tree l k r) → AllExpressions (tree l k r) → IsHole x r passed i rest
    → IsHole x (tree l k r) (cond (has_name x l.payload) (l.id ∷ []) [] ++ (leaves_of x k ++ passed)) i rest
hole_behind {x = x} {passed = passed} {rest = rest} l k r d o w p =
    let here = cond (has_name x l.payload) (l.id ∷ []) [] in
    let many : length (here ++ (leaves_of x k ++ passed)) ≡ leaves_at x l k + length passed =
    omega (arith, length-append here (leaves_of x k ++ passed), length-append (leaves_of x k) passed, one_or_none (has_name x l.payload) l.id) in
    record {
      label = p.label;
      id-is = p.id-is;
      named = p.named;
      held_once = p.held_once;
      fill = λ c. tree l k (p.fill c);
      place = elim p.place [
        | inl a ↦ inl (record { at = suc a.at; within = omega (arith, a.within); tree-is = a.tree-is; fill-is = λ c. ap (tree l k) (a.fill-is c) })
        | inr b ↦ inr (below_behind l k r d b)
      ];
      leaves = λ c. ap (λ (ys : List ℕ). here ++ (leaves_of x k ++ ys)) (p.leaves c)
          ∙ ap (λ (ys : List ℕ). here ++ ys) (sym (append_assoc (leaves_of x k) passed (leaves_of x c ++ rest))) ∙ sym (append_assoc here (leaves_of x k ++ passed) (leaves_of x c ++ rest));
      told = λ u c e.
          let n = length (here ++ (leaves_of x k ++ passed)) in
          let m = n + length (leaves_of x c) in
          let root : later_root x u m l.payload (later x u m k) ≡ later_root x u n l.payload (later x u n k) = later-root x u m l k (omega (arith, many))
          ∙ sym (later-root x u n l k (omega (arith, many))) in
          let now : m - leaves_at x l k ≡ length passed + length (leaves_of x c) = omega (arith, many) in
          let was : length passed ≡ n - leaves_at x l k = omega (arith, many) in
          cc (root, ap (λ (y : ℕ). later x u y (p.fill c)) now ∙ p.told u c e ∙ ap (λ (y : ℕ). later x u y r) was);
      bytes = λ c. omega (arith, p.bytes c);
      many = λ c e. ap suc (p.many c e);
      once = λ c y. (o.0, o.1, p.once c y);
      whole = λ c e y. (w.0, w.1, p.whole c e y);
    }

-- ---- each leaf of the name is one

-- an element of one of two lists
abbrev InFirst : (xs ys before behind : List ℕ) (i : ℕ) → Type 0
InFirst xs ys before behind i = (rest : List ℕ) × (xs ≡ before ++ i ∷ rest) × (behind ≡ rest ++ ys)

abbrev InSecond : (xs ys before behind : List ℕ) (i : ℕ) → Type 0
InSecond xs ys before behind i = (passed : List ℕ) × (before ≡ xs ++ passed) × (ys ≡ passed ++ i ∷ behind)

in_either : (xs ys before behind : List ℕ) (i : ℕ) → xs ++ ys ≡ before ++ i ∷ behind → InFirst xs ys before behind i ⊎ InSecond xs ys before behind i
in_either [] ys before behind i e = inr (before, refl, e)
in_either (x ∷ xs) ys [] behind i e =
    let same : x ≡ i = cc in
    let rest : behind ≡ xs ++ ys = cc in
    inl (xs, ap (λ (j : ℕ). j ∷ xs) same, rest)
in_either (x ∷ xs) ys (b ∷ before) behind i e =
    let same : x ≡ b = cc in
    let rest : xs ++ ys ≡ before ++ i ∷ behind = cc in
    elim (in_either xs ys before behind i rest) [ inl h ↦ inl (h.0, cc (same, h.1), h.2) | inr h ↦ inr (h.0, cc (same, h.1), h.2) ]

alone : (j i : ℕ) (before rest : List ℕ) → j ∷ [] ≡ before ++ i ∷ rest → (before ≡ []) × (j ≡ i) × (rest ≡ [])
alone j i [] rest e = (refl, cc, cc)
alone j i (b ∷ before) rest e = absurd (omega (arith, ap length e, length-append before (i ∷ rest)))

first_hole : (x : List ℕ) (l : Label) (k r : Forest) (passed rest : List ℕ) (i : ℕ) → k ≡ empty → has_name x l.payload ≡ true → AllOnce (tree l k r) → AllExpressions (tree l k r)
    → passed ≡ [] → l.id ≡ i → rest ≡ leaves_of x r → IsHole x (tree l k r) passed i rest
first_hole x l empty r passed rest i z h o w p q e = rw (p, sym q, e) (hole_here x l r h o w)
first_hole x l (tree m j s) r passed rest i z h o w p q e = absurd cc

no_leaf : (before rest : List ℕ) (i : ℕ) {A : Type 0} → [] ≡ before ++ i ∷ rest → A
no_leaf before rest i e = absurd (omega (arith, ap length e, length-append before (i ∷ rest)))

pub hole : (x : List ℕ) (f : Forest) (passed rest : List ℕ) (i : ℕ) → Distinct f → AllOnce f → AllExpressions f → leaves_of x f ≡ passed ++ i ∷ rest → IsHole x f passed i rest
hole x empty passed rest i d o w e = no_leaf passed rest i e
hole x (tree l k r) passed rest i d o w e =
    let p = distinct_parts l k r d in
    let here = cond (has_name x l.payload) (l.id ∷ []) [] in
    elim (in_either here (leaves_of x k ++ leaves_of x r) passed rest i e) [
      | inl h ↦
          by_test (λ b. has_name x l.payload ≡ b → cond b (l.id ∷ []) [] ≡ passed ++ i ∷ h.0 → IsHole x (tree l k r) passed i rest) (has_name x l.payload)
          (λ t q y.
          let bare : k ≡ empty = leaf_alone x l k r q w in
          let a = alone l.id i passed h.0 y in
          first_hole x l k r passed rest i bare q o w a.0 a.1 (h.2 ∙ ap (λ (ys : List ℕ). ys ++ (leaves_of x k ++ leaves_of x r)) a.2 ∙ ap (λ (g : Forest). leaves_of x g ++ leaves_of x r) bare))
          (λ t q y. no_leaf passed h.0 i y) refl h.1
      | inr h ↦ elim (in_either (leaves_of x k) (leaves_of x r) h.0 rest i h.2) [
        | inl y ↦
            by_test (λ b. has_name x l.payload ≡ b → passed ≡ cond b (l.id ∷ []) [] ++ h.0 → IsHole x (tree l k r) passed i rest) (has_name x l.payload)
            (λ t q z. no_leaf h.0 y.0 i (sym (ap (leaves_of x) (leaf_alone x l k r q w)) ∙ y.1))
            (λ t q z. rw (z, y.2) (hole_below l k r q d o w y.1 (hole x k h.0 y.0 i p.below o.1 w.1 y.1))) refl h.1
        | inr y ↦ rw (h.1 ∙ ap (λ (ys : List ℕ). here ++ ys) y.1) (hole_behind l k r d o w (hole x r y.0 rest i p.behind o.2 w.2 y.2))
      ]
    ]
