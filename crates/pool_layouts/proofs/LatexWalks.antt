-- A walk over the nodes of a layout that knows what is still to be written of its LaTeX text.
use Rattle.pool_layouts.proofs.Shared.{◌≡◌, ◌∙◌, ℕ, suc, ◌+◌, ◌<◌, ◌≤◌, List, [], ◌∷◌, ◌++◌, length, sym, ap, subst, arith, append_assoc, append-nil, length-append, kind_of_payload, Visit}
use Rattle.pool_layouts.proofs.Shared.{Kind, Label, Forest, empty, tree, join, arity, kids, root_payload, nodes_in, tree_at, visits_of, AreFound, join-empty, visits_length, snoc_same}
use Rattle.calc_terms.specs.declared.kind.Kind.TheVariants as kind
use Rattle.tree_handles.proofs.Visiting.{IsSeen, found-join, seen, visit_here, visits_left}
use Rattle.pool_layouts.proofs.LatexTexts.{latex_parts}
use Rattle.pool_layouts.specs.LatexNodes.{latex_between, latex_close, latex_front}

-- what is owed to a node for the parts that are left
abbrev pub latex_owed : Kind → Forest → List ℕ
latex_owed j f = latex_parts j f ++ latex_close j

-- a node with the number of its parts that are left, and these parts
pub record Owed : Type 0 where
  pub rest : Visit
  pub trees : Forest

-- these parts, one after another
abbrev pub trees_owed : List Owed → Forest
trees_owed [] = empty
trees_owed (o ∷ os) = join o.trees (trees_owed os)

-- what is written of them
abbrev pub bytes_owed : List Owed → List ℕ
bytes_owed [] = []
bytes_owed (o ∷ os) = latex_owed o.rest.kind o.trees ++ bytes_owed os

-- as many as are left
abbrev pub AreOwed : List Owed → Type 0
AreOwed [] = Unit {0}
AreOwed (o ∷ os) = (o.rest.children ≡ arity o.trees) × AreOwed os

-- the nodes, the innermost last
abbrev pub rests_of : List Owed → List Visit
rests_of [] = []
rests_of (o ∷ os) = rests_of os ++ o.rest ∷ []

-- the state of a walk over so many nodes: after the bytes so far comes what is owed to the innermost node and to those around it
pub record IsState (base : Forest) (total : ℕ) (left : List Visit) (rest : Visit) (outer : List Visit) (bytes whole : List ℕ) (trees : Forest) (owed : List Owed) : Type 0 where
  pub outer_is : outer ≡ rests_of owed
  pub left_are : left ≡ visits_of (join trees (trees_owed owed))
  pub found : AreFound base (join trees (trees_owed owed))
  pub text : bytes ++ (latex_owed rest.kind trees ++ bytes_owed owed) ≡ whole
  pub many : rest.children ≡ arity trees
  pub others : AreOwed owed
  pub few : length outer + length left ≤ total

pub record IsWalk (base : Forest) (total : ℕ) (left : List Visit) (rest : Visit) (outer : List Visit) (bytes whole : List ℕ) : Type 0 where
  pub trees : Forest
  pub owed : List Owed
  pub state : IsState base total left rest outer bytes whole trees owed

-- at the start the whole text is owed
pub start : {rest : Visit} {outer : List Visit} (i : ℕ) (base : Forest) (bytes : List ℕ) → arity (tree_at i base) ≡ 1 → AreFound base (tree_at i base) → rest.kind ≡ kind.Row → rest.children ≡ 1 → outer ≡ []
    → IsWalk base (nodes_in (tree_at i base)) (visits_of (tree_at i base)) rest outer bytes (bytes ++ latex_parts kind.Row (tree_at i base))
start i base bytes one f e n o =
    let t = tree_at i base in
    record {
      trees = t;
      owed = [];
      state = record {
        outer_is = o;
        left_are = ap visits_of (sym (join-empty t));
        found = subst (AreFound base) (sym (join-empty t)) f;
        text = rw e (simp append-nil);
        many = n ∙ sym one;
        others = tt;
        few = omega (arith, visits_length t, ap length o);
      };
    }

-- where a part is left, a node is left
pub some_left : {base : Forest} {total : ℕ} {left : List Visit} {rest : Visit} {outer : List Visit} {bytes whole : List ℕ} → IsWalk base total left rest outer bytes whole → 0 < rest.children → 0 < length left
some_left {left = left} {rest = rest} w some = by w.trees w.state.many w.state.left_are
  where
    by : (f : Forest) → rest.children ≡ arity f → left ≡ visits_of (join f (trees_owed w.owed)) → 0 < length left
    by empty a n = absurd (omega (arith, a))
    by (tree l b f) a n = omega (arith, ap length n)

-- ---- the next part is entered

pub record IsEntered (base : Forest) (total : ℕ) (v : Visit) (left : List Visit) (rest : Visit) (outer : List Visit) (bytes whole : List ℕ) : Type 0 where
  pub label : Label
  pub below : Forest
  pub others : Forest
  pub owed : List Owed
  pub seen_here : IsSeen v label below base
  pub state : IsState base total (v ∷ left) rest outer bytes whole (tree label below others) owed

pub entered : {base : Forest} {total : ℕ} {v : Visit} {xs left : List Visit} {rest : Visit} {outer : List Visit} {bytes whole : List ℕ} → IsWalk base total xs rest outer bytes whole → 0 < rest.children → xs ≡ v ∷ left → IsEntered base total v left rest outer bytes whole
entered {base = base} {total = total} {v = v} {left = left} {rest = rest} {outer = outer} {bytes = bytes} {whole = whole} w some e = by w.trees (subst (λ (ys : List Visit). IsState base total ys rest outer bytes whole w.trees w.owed) e w.state)
  where
    by : (f : Forest) → IsState base total (v ∷ left) rest outer bytes whole f w.owed → IsEntered base total v left rest outer bytes whole
    by empty x = absurd (omega (arith, x.many, some))
    by (tree l b f) x =
        let behind = join f (trees_owed w.owed) in
        record { label = l; below = b; others = f; owed = w.owed; seen_here = seen l b behind x.found (visit_here l b behind (sym x.left_are)); state = x }

spread : (bytes between front below close ts end rest : List ℕ) → bytes ++ ((((between ++ (front ++ (below ++ close))) ++ ts) ++ end) ++ rest) ≡ ((bytes ++ between) ++ front) ++ ((below ++ close) ++ ((ts ++ end) ++ rest))
spread bytes between front below close ts end rest = simp append_assoc

module _ {base : Forest} {total : ℕ} {v : Visit} {left : List Visit} {rest : Visit} {outer : List Visit} {bytes whole : List ℕ} (e : IsEntered base total v left rest outer bytes whole) where
  kind_is : v.kind ≡ kind_of_payload e.label.payload
  kind_is = ap (λ (x : Visit). x.kind) e.seen_here.visit-is ∙ ap (λ (f : Forest). kind_of_payload (root_payload f)) e.seen_here.tree-is

  children_are : v.children ≡ arity e.below
  children_are = ap (λ (x : Visit). x.children) e.seen_here.visit-is ∙ ap (λ (f : Forest). arity (kids f)) e.seen_here.tree-is

  abbrev between_here : List ℕ
  between_here = latex_between rest.kind rest.children

  abbrev front_here : List ℕ
  front_here = latex_front (root_payload (tree_at v.id base))

  text_is : ((bytes ++ between_here) ++ front_here) ++ (latex_owed v.kind e.below ++ (latex_owed rest.kind e.others ++ bytes_owed e.owed)) ≡ whole
  text_is =
      let x = e.label.payload in
      let k = kind_of_payload x in
      rw (e.seen_here.tree-is, kind_is, e.state.many)
      (sym (spread bytes (latex_between rest.kind (suc (arity e.others))) (latex_front x) (latex_parts k e.below) (latex_close k) (latex_parts rest.kind e.others) (latex_close rest.kind) (bytes_owed e.owed)) ∙ e.state.text)

  all_length : (length bytes + length between_here) + length front_here ≤ length whole
  all_length =
      omega (
        arith,
        ap length text_is,
        length-append ((bytes ++ between_here) ++ front_here) (latex_owed v.kind e.below ++ (latex_owed rest.kind e.others ++ bytes_owed e.owed)),
        length-append (bytes ++ between_here) front_here,
        length-append bytes between_here,
      )

  pub between_room : length bytes + length between_here ≤ length whole
  between_room = omega (arith, all_length)

  pub front_room : length (bytes ++ between_here) + length front_here ≤ length whole
  front_room = omega (arith, all_length, length-append bytes between_here)

  -- when its root is written, its parts are owed
  pub goes_down : (around : Visit) (new : List ℕ) (all : List Visit) → around.kind ≡ rest.kind → around.children + 1 ≡ rest.children → new ≡ (bytes ++ between_here) ++ front_here → all ≡ outer ++ around ∷ [] → IsWalk base total left v all new whole
  goes_down around new all k n q o = record {
    trees = e.below;
    owed = record { rest = around; trees = e.others } ∷ e.owed;
    state = record {
      outer_is = o ∙ ap (λ (vs : List Visit). vs ++ around ∷ []) e.state.outer_is;
      left_are = visits_left e.label e.below (join e.others (trees_owed e.owed)) (sym e.state.left_are);
      found = found-join base e.below (join e.others (trees_owed e.owed)) e.state.found.1 e.state.found.2;
      text = rw (q, k) text_is;
      many = children_are;
      others = (omega (arith, e.state.many, n), e.state.others);
      few = omega (arith, e.state.few, ap length o, length-append outer (around ∷ []));
    };
  }

-- ---- the innermost node is closed

pub record IsClosed (base : Forest) (total : ℕ) (left : List Visit) (rest : Visit) (outer : List Visit) (bytes whole : List ℕ) : Type 0 where
  pub owed : List Owed
  pub state : IsState base total left rest outer bytes whole empty owed

pub closed : {base : Forest} {total : ℕ} {left : List Visit} {rest : Visit} {outer : List Visit} {bytes whole : List ℕ} → IsWalk base total left rest outer bytes whole → rest.children ≡ 0 → IsClosed base total left rest outer bytes whole
closed {base = base} {total = total} {left = left} {rest = rest} {outer = outer} {bytes = bytes} {whole = whole} w z = by w.trees w.state
  where
    by : (f : Forest) → IsState base total left rest outer bytes whole f w.owed → IsClosed base total left rest outer bytes whole
    by (tree l b f) x = absurd (omega (arith, x.many, z))
    by empty x = record { owed = w.owed; state = x }

module _ {base : Forest} {total : ℕ} {left : List Visit} {rest : Visit} {outer : List Visit} {bytes whole : List ℕ} (k : IsClosed base total left rest outer bytes whole) where
  closed_text : (bytes ++ latex_close rest.kind) ++ bytes_owed k.owed ≡ whole
  closed_text = append_assoc bytes (latex_close rest.kind) (bytes_owed k.owed) ∙ k.state.text

  pub close_room : length bytes + length (latex_close rest.kind) ≤ length whole
  close_room = omega (arith, ap length closed_text, length-append (bytes ++ latex_close rest.kind) (bytes_owed k.owed), length-append bytes (latex_close rest.kind))

-- the node around it goes on
pub goes_up : {base : Forest} {total : ℕ} {left : List Visit} {rest : Visit} {outer : List Visit} {bytes whole : List ℕ} (around : Visit) (popped : List Visit) (new : List ℕ)
    → IsClosed base total left rest outer bytes whole → outer ≡ popped ++ around ∷ [] → new ≡ bytes ++ latex_close rest.kind → IsWalk base total left around popped new whole
goes_up {base = base} {total = total} {left = left} {rest = rest} {outer = outer} {bytes = bytes} {whole = whole} around popped new k e q = by k.owed k.state (closed_text k)
  where
    by : (os : List Owed) → IsState base total left rest outer bytes whole empty os → (bytes ++ latex_close rest.kind) ++ bytes_owed os ≡ whole → IsWalk base total left around popped new whole
    by [] x t = absurd (omega (arith, ap length (sym e ∙ x.outer_is), length-append popped (around ∷ [])))
    by (o ∷ os) x t =
        let same = snoc_same popped (rests_of os) around o.rest (sym e ∙ x.outer_is) in
        record {
          trees = o.trees;
          owed = os;
          state = record {
            outer_is = same.0;
            left_are = x.left_are;
            found = x.found;
            text = rw (q, same.1) t;
            many = ap (λ (y : Visit). y.children) same.1 ∙ x.others.0;
            others = x.others.1;
            few = omega (arith, x.few, ap length e, length-append popped (around ∷ []));
          };
        }

-- at the end nothing is owed
pub done : {base : Forest} {total : ℕ} {left : List Visit} {rest : Visit} {outer : List Visit} {bytes whole : List ℕ} (new : List ℕ) → IsClosed base total left rest outer bytes whole → length outer ≡ 0 → new ≡ bytes ++ latex_close rest.kind → new ≡ whole
done {rest = rest} {outer = outer} {bytes = bytes} {whole = whole} new k z q = by k.owed k.state.outer_is (closed_text k)
  where
    by : (os : List Owed) → outer ≡ rests_of os → (bytes ++ latex_close rest.kind) ++ bytes_owed os ≡ whole → new ≡ whole
    by [] p t = q ∙ sym (append-nil (bytes ++ latex_close rest.kind)) ∙ t
    by (o ∷ os) p t = absurd (omega (arith, ap length p, length-append (rests_of os) (o.rest ∷ [])))
