-- A walk over the nodes of a tree that knows what is still to be written.
use Rattle.line_text.proofs.Shared.{◌≡◌, ◌∙◌, ℕ, suc, ◌+◌, ◌-◌, ◌<◌, ◌≤◌, List, [], ◌∷◌, ◌++◌, length, false, refl, sym, ap, subst, arith, append_assoc, length-append, Content, kind_of_payload, Visit}
use Rattle.line_text.proofs.Shared.{Label, Forest, empty, tree, join, arity, kids, root_payload, nodes_in, tree_at, visits_of, AreFound, join-empty, IsSeen, found-join, visit_here, visits_left}
use Rattle.line_text.proofs.Shared.{visits_length, Pending, WholeText, front_of, is_admitted, written, owed_bytes, parentheses, closing_of, owes, pending_below, first_place, next_place, nat_tests}
use Rattle.line_text.proofs.{Shared.{seen}, Room.{closing_few, parentheses_length}}
use Rattle.std.proofs.Common.{append-nil}

-- what is pending of a node, and the children that it still waits for
pub record Owed : Type 0 where
  pub rest : Pending
  pub trees : Forest

-- these children, one after another
abbrev pub trees_owed : List Owed → Forest
trees_owed [] = empty
trees_owed (o ∷ os) = join o.trees (trees_owed os)

-- what is written of them
abbrev pub bytes_owed : List Owed → List ℕ
bytes_owed [] = []
bytes_owed (o ∷ os) = owed_bytes o.rest o.trees ++ bytes_owed os

-- as many as are left, and few parentheses
pub record IsOwed (rest : Pending) (trees : Forest) : Type 0 where
  pub many : rest.left ≡ arity trees
  pub closing : rest.closing ≤ 3

abbrev pub AreOwed : List Owed → Type 0
AreOwed [] = Unit {0}
AreOwed (o ∷ os) = IsOwed o.rest o.trees × AreOwed os

-- what is pending, the innermost last
abbrev pub pending_of : List Owed → List Pending
pending_of [] = []
pending_of (o ∷ os) = pending_of os ++ o.rest ∷ []

-- the state of a walk over so many nodes: behind the bytes so far comes what is owed to the innermost node and to those around it
pub record IsState (base : Forest) (total : ℕ) (left : List Visit) (rest : Pending) (outer : List Pending) (bytes whole : List ℕ) (trees : Forest) (owed : List Owed) : Type 0 where
  pub outer_is : outer ≡ pending_of owed
  pub left_are : left ≡ visits_of (join trees (trees_owed owed))
  pub found : AreFound base (join trees (trees_owed owed))
  pub text : bytes ++ (owed_bytes rest trees ++ bytes_owed owed) ≡ whole
  pub innermost : IsOwed rest trees
  pub others : AreOwed owed
  pub few : length outer + length left ≤ total

pub record IsWalk (base : Forest) (total : ℕ) (left : List Visit) (rest : Pending) (outer : List Pending) (bytes whole : List ℕ) : Type 0 where
  pub trees : Forest
  pub owed : List Owed
  pub state : IsState base total left rest outer bytes whole trees owed

-- at the start the whole text is owed
pub start : {rest : Pending} (i : ℕ) (base : Forest) (bytes : List ℕ) → arity (tree_at i base) ≡ 1 → AreFound base (tree_at i base) → rest ≡ record { place = WholeText; left = 1; closing = 0 } → {outer : List Pending} → outer ≡ []
    → IsWalk base (nodes_in (tree_at i base)) (visits_of (tree_at i base)) rest outer bytes (bytes ++ written WholeText (tree_at i base))
start i base bytes one f e o =
    let t = tree_at i base in
    record {
      trees = t;
      owed = [];
      state = record {
        outer_is = o;
        left_are = ap visits_of (sym (join-empty t));
        found = subst (AreFound base) (sym (join-empty t)) f;
        text = rw e (simp append-nil);
        innermost = record { many = ap (λ (p : Pending). p.left) e ∙ sym one; closing = omega (arith, ap (λ (p : Pending). p.closing) e) };
        others = tt;
        few = omega (arith, visits_length t, ap length o);
      };
    }

-- where a child is left, a node is left
pub some_left : {base : Forest} {total : ℕ} {left : List Visit} {rest : Pending} {outer : List Pending} {bytes whole : List ℕ} → IsWalk base total left rest outer bytes whole → 0 < rest.left → 0 < length left
some_left {left = left} {rest = rest} w some = by w.trees w.state.innermost.many w.state.left_are
  where
    by : (f : Forest) → rest.left ≡ arity f → left ≡ visits_of (join f (trees_owed w.owed)) → 0 < length left
    by empty a n = absurd (omega (arith, a))
    by (tree l b f) a n = omega (arith, ap length n)

-- ---- the next child is entered

pub record IsEntered (base : Forest) (total : ℕ) (v : Visit) (left : List Visit) (rest : Pending) (outer : List Pending) (bytes whole : List ℕ) : Type 0 where
  pub label : Label
  pub below : Forest
  pub others : Forest
  pub owed : List Owed
  pub seen_here : IsSeen v label below base
  pub state : IsState base total (v ∷ left) rest outer bytes whole (tree label below others) owed

pub entered : {base : Forest} {total : ℕ} {v : Visit} {xs left : List Visit} {rest : Pending} {outer : List Pending} {bytes whole : List ℕ} → IsWalk base total xs rest outer bytes whole → 0 < rest.left → xs ≡ v ∷ left → IsEntered base total v left rest outer bytes whole
entered {base = base} {total = total} {v = v} {left = left} {rest = rest} {outer = outer} {bytes = bytes} {whole = whole} w some e = by w.trees (subst (λ (ys : List Visit). IsState base total ys rest outer bytes whole w.trees w.owed) e w.state)
  where
    by : (f : Forest) → IsState base total (v ∷ left) rest outer bytes whole f w.owed → IsEntered base total v left rest outer bytes whole
    by empty x = absurd (omega (arith, x.innermost.many, some))
    by (tree l b f) x =
        let behind = join f (trees_owed w.owed) in
        record { label = l; below = b; others = f; owed = w.owed; seen_here = seen l b behind x.found (visit_here l b behind (sym x.left_are)); state = x }

spread : (bytes front below close ts end rest : List ℕ) → bytes ++ ((((front ++ (below ++ close)) ++ ts) ++ end) ++ rest) ≡ (bytes ++ front) ++ ((below ++ close) ++ ((ts ++ end) ++ rest))
spread bytes front below close ts end rest = simp append_assoc

module _ {base : Forest} {total : ℕ} {v : Visit} {left : List Visit} {rest : Pending} {outer : List Pending} {bytes whole : List ℕ} (e : IsEntered base total v left rest outer bytes whole) where
  abbrev entered_tree : Forest
  entered_tree = tree_at v.id base

  -- what is pending of the node, and of the one around it
  abbrev below_it : Pending
  below_it = pending_below v.kind v.children (is_admitted rest.place entered_tree)

  abbrev around_it : Pending
  around_it = record { place = next_place rest.place; left = rest.left - 1; closing = rest.closing }

  left_are : left ≡ visits_of (join e.below (join e.others (trees_owed e.owed)))
  left_are = visits_left e.label e.below (join e.others (trees_owed e.owed)) (sym e.state.left_are)

  all_found : AreFound base (join e.below (join e.others (trees_owed e.owed)))
  all_found = found-join base e.below (join e.others (trees_owed e.owed)) e.state.found.1 e.state.found.2

  kind_is : v.kind ≡ kind_of_payload e.label.payload
  kind_is = ap (λ (x : Visit). x.kind) e.seen_here.visit-is ∙ ap (λ (f : Forest). kind_of_payload (root_payload f)) e.seen_here.tree-is

  children_are : v.children ≡ arity e.below
  children_are = ap (λ (x : Visit). x.children) e.seen_here.visit-is ∙ ap (λ (f : Forest). arity (kids f)) e.seen_here.tree-is

  text_is : (bytes ++ front_of rest.place entered_tree) ++ (owed_bytes below_it e.below ++ (owed_bytes around_it e.others ++ bytes_owed e.owed)) ≡ whole
  text_is =
      let t = tree e.label e.below empty in
      let k = kind_of_payload e.label.payload in
      rw (e.seen_here.tree-is, kind_is)
      (sym (spread bytes (front_of rest.place t) (written (first_place k) e.below) (parentheses (closing_of k (is_admitted rest.place t))) (written (next_place rest.place) e.others) (parentheses rest.closing) (bytes_owed e.owed)) ∙ e.state.text)

  pub room : length bytes + length (front_of rest.place entered_tree) ≤ length whole
  room = omega (arith, ap length text_is, length-append (bytes ++ front_of rest.place entered_tree) (owed_bytes below_it e.below ++ (owed_bytes around_it e.others ++ bytes_owed e.owed)), length-append bytes (front_of rest.place entered_tree))

  -- when its root is written, its children are owed
  pub goes_down : (b : Pending) (new : List ℕ) (all : List Pending) → b ≡ below_it → new ≡ bytes ++ front_of rest.place entered_tree → all ≡ outer ++ around_it ∷ [] → IsWalk base total left b all new whole
  goes_down b new all p q o = record {
    trees = e.below;
    owed = record { rest = around_it; trees = e.others } ∷ e.owed;
    state = record {
      outer_is = o ∙ ap (λ (ps : List Pending). ps ++ around_it ∷ []) e.state.outer_is;
      left_are = left_are;
      found = all_found;
      text = rw (p, q) text_is;
      innermost = record {
        many = ap (λ (x : Pending). x.left) p ∙ children_are;
        closing = omega (arith, ap (λ (x : Pending). x.closing) p, closing_few v.kind (is_admitted rest.place entered_tree));
      };
      others = (record { many = omega (arith, e.state.innermost.many); closing = e.state.innermost.closing }, e.state.others);
      few = omega (arith, e.state.few, ap length o, length-append outer (around_it ∷ []));
    };
  }

  -- and where nothing is owed to it, the next child is
  pub goes_on : (b : Pending) (new : List ℕ) (r : Pending) → b ≡ below_it → b.left ≡ 0 → b.closing ≡ 0 → new ≡ bytes ++ front_of rest.place entered_tree → r ≡ around_it → IsWalk base total left r outer new whole
  goes_on b new r p x y q o = by e.below (sym (sym x ∙ ap (λ (z : Pending). z.left) p ∙ children_are)) left_are all_found text_is
    where
      by : (f : Forest) → arity f ≡ 0 → left ≡ visits_of (join f (join e.others (trees_owed e.owed))) → AreFound base (join f (join e.others (trees_owed e.owed)))
          → (bytes ++ front_of rest.place entered_tree) ++ (owed_bytes below_it f ++ (owed_bytes around_it e.others ++ bytes_owed e.owed)) ≡ whole → IsWalk base total left r outer new whole
      by (tree l k g) z n f t = absurd (omega (arith, z))
      by empty z n f t =
          let none : closing_of v.kind (is_admitted rest.place entered_tree) ≡ 0 = ap (λ (u : Pending). u.closing) (sym p) ∙ y in
          record {
            trees = e.others;
            owed = e.owed;
            state = record {
              outer_is = e.state.outer_is;
              left_are = n;
              found = f;
              text = rw (q, o) (ap (λ (m : ℕ). (bytes ++ front_of rest.place entered_tree) ++ (parentheses m ++ (owed_bytes around_it e.others ++ bytes_owed e.owed))) (sym none) ∙ t);
              innermost = record { many = ap (λ (u : Pending). u.left) o ∙ omega (arith, e.state.innermost.many); closing = omega (arith, ap (λ (u : Pending). u.closing) o, e.state.innermost.closing) };
              others = e.state.others;
              few = omega (arith, e.state.few);
            };
          }

pub nothing_owed : (b : Pending) → owes b ≡ false → (b.left ≡ 0) × (b.closing ≡ 0)
nothing_owed b h = grind (arith, nat_tests)

-- ---- the innermost node is closed

pub record IsClosed (base : Forest) (total : ℕ) (left : List Visit) (rest : Pending) (outer : List Pending) (bytes whole : List ℕ) : Type 0 where
  pub owed : List Owed
  pub state : IsState base total left rest outer bytes whole empty owed

pub closed : {base : Forest} {total : ℕ} {left : List Visit} {rest : Pending} {outer : List Pending} {bytes whole : List ℕ} → IsWalk base total left rest outer bytes whole → rest.left ≡ 0 → IsClosed base total left rest outer bytes whole
closed {base = base} {total = total} {left = left} {rest = rest} {outer = outer} {bytes = bytes} {whole = whole} w z = by w.trees w.state
  where
    by : (f : Forest) → IsState base total left rest outer bytes whole f w.owed → IsClosed base total left rest outer bytes whole
    by (tree l b f) x = absurd (omega (arith, x.innermost.many, z))
    by empty x = record { owed = w.owed; state = x }

module _ {base : Forest} {total : ℕ} {left : List Visit} {rest : Pending} {outer : List Pending} {bytes whole : List ℕ} (k : IsClosed base total left rest outer bytes whole) where
  closed_text : (bytes ++ parentheses rest.closing) ++ bytes_owed k.owed ≡ whole
  closed_text = append_assoc bytes (parentheses rest.closing) (bytes_owed k.owed) ∙ k.state.text

  pub closed_room : length bytes + rest.closing ≤ length whole
  closed_room = omega (arith, ap length closed_text, length-append (bytes ++ parentheses rest.closing) (bytes_owed k.owed), length-append bytes (parentheses rest.closing), parentheses_length rest.closing k.state.innermost.closing)

-- the last of two equal lists
pub snoc_same : {A : Type 0} (xs ys : List A) (x y : A) → xs ++ x ∷ [] ≡ ys ++ y ∷ [] → (xs ≡ ys) × (x ≡ y)
snoc_same [] [] x y e = (refl, cc)
snoc_same [] (b ∷ ys) x y e = absurd (omega (arith, ap length e, length-append ys (y ∷ [])))
snoc_same (a ∷ xs) [] x y e = absurd (omega (arith, ap length e, length-append xs (x ∷ [])))
snoc_same (a ∷ xs) (b ∷ ys) x y e =
    let tails : xs ++ x ∷ [] ≡ ys ++ y ∷ [] = cc in
    let heads : a ≡ b = cc in
    let same = snoc_same xs ys x y tails in
    (ap (λ z. z ∷ xs) heads ∙ ap (λ zs. b ∷ zs) same.0, same.1)

-- the node around it goes on
pub goes_up : {base : Forest} {total : ℕ} {left : List Visit} {rest : Pending} {outer : List Pending} {bytes whole : List ℕ} (around : Pending) (popped : List Pending) (new : List ℕ)
    → IsClosed base total left rest outer bytes whole → outer ≡ popped ++ around ∷ [] → new ≡ bytes ++ parentheses rest.closing → IsWalk base total left around popped new whole
goes_up {base = base} {total = total} {left = left} {rest = rest} {outer = outer} {bytes = bytes} {whole = whole} around popped new k e q = by k.owed k.state (closed_text k)
  where
    by : (os : List Owed) → IsState base total left rest outer bytes whole empty os → (bytes ++ parentheses rest.closing) ++ bytes_owed os ≡ whole → IsWalk base total left around popped new whole
    by [] x t = absurd (omega (arith, ap length (sym e ∙ x.outer_is), length-append popped (around ∷ [])))
    by (o ∷ os) x t =
        let same = snoc_same popped (pending_of os) around o.rest (sym e ∙ x.outer_is) in
        record {
          trees = o.trees;
          owed = os;
          state = record {
            outer_is = same.0;
            left_are = x.left_are;
            found = x.found;
            text = rw (q, same.1) t;
            innermost = subst (λ (y : Pending). IsOwed y o.trees) (sym same.1) x.others.0;
            others = x.others.1;
            few = omega (arith, x.few, ap length e, length-append popped (around ∷ []));
          };
        }

-- at the end nothing is owed
pub done : {base : Forest} {total : ℕ} {left : List Visit} {rest : Pending} {outer : List Pending} {bytes whole : List ℕ} (new : List ℕ) → IsClosed base total left rest outer bytes whole → length outer ≡ 0 → new ≡ bytes ++ parentheses rest.closing → new ≡ whole
done {rest = rest} {outer = outer} {bytes = bytes} {whole = whole} new k z q = by k.owed k.state.outer_is (closed_text k)
  where
    by : (os : List Owed) → outer ≡ pending_of os → (bytes ++ parentheses rest.closing) ++ bytes_owed os ≡ whole → new ≡ whole
    by [] p t = q ∙ sym (append-nil (bytes ++ parentheses rest.closing)) ∙ t
    by (o ∷ os) p t = absurd (omega (arith, ap length p, length-append (pending_of os) (o.rest ∷ [])))

pub content_is : (p q : Content) → p.bytes ≡ q.bytes → p.capacity ≡ q.capacity → p ≡ q
content_is p q e f = ap (λ (b : List ℕ). let r : Content = record { bytes = b; capacity = p.capacity } in r) e ∙ ap (λ (n : ℕ). let r : Content = record { bytes = q.bytes; capacity = n } in r) f
