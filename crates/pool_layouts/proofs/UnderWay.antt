-- The layout of a face under way: what was placed of it, and what is left.
use Rattle.pool_layouts.proofs.Shared.{◌≡◌, ◌∙◌, nat_eq, get_or, ℕ, ◌+◌, ◌<◌, ◌≤◌, List, [], ◌∷◌, ◌++◌, length, map, drop, Option, None, Ok, Err, true, false, refl, sym, ap, subst, arith}
use Rattle.pool_layouts.proofs.Shared.{append_assoc, append-nil, eqb-true, length-append, Kind, Node, Payload, bare, kind_of_payload, Tree, Trees, none, more, count, root_kind, used, Full, State}
use Rattle.pool_layouts.proofs.Shared.{free_of, taking, plain, plains, takes, AllExpressions, IsExpression, Label, Forest, empty, tree, join, arity, bytes_in, flatten, node_of, one_tree, last_trees}
use Rattle.pool_layouts.proofs.Shared.{before_last, root_payload, Ends, Starts, KeepsFront, AllOnce, IsOnce, holds, tree_at, payload_in, Stands, forest, kids_of, kids, root_kind-plain, deciding}
use Rattle.pool_layouts.proofs.Shared.{deciding_is, KeepsRefusals, Refuses, LacksBytes, found, join-empty, join_assoc, arity-join, all-join, keeps_after, keeps_none, refuses_after, before_last-join}
use Rattle.pool_layouts.proofs.Shared.{last_trees-join, ends_as, used_forest, count-plains, Visit, Frame, Place, part_sizes, parts_sizes, visit_of, visits_of, AreFound, visit_at, drawn, drawings}
use Rattle.pool_layouts.proofs.Shared.{composes, AllComposed, IsComposed, GivesLayout, frame_of, frame_behind, Layout, Layouts, beside, one_part, join_parts, layout, Closes, IsAround, IsStopped}
use Rattle.pool_layouts.proofs.Shared.{PlacesMark, is_leaf, root_sizes, around_sizes, held_in, first_place, next_place, mark_before, marks, around_kind, deciding_kind, within, around_of, parts_from}
use Rattle.pool_layouts.proofs.{Shared.{laid, few_trees, at, holds-left, tree_at-join_left, snoc_same}, Parts.{layout_is}, Shown.{first_is, others_are, inside_list}, Sizes.{join_parts-nothing}}
use Rattle.pool_layouts.proofs.Sizes.{join_parts-assoc, drawings-join, count_parts, count-drawings, count-join, sizes-join, sizes-marks, drawn_sizes, within_sizes, taken_first, refused_first}
use Rattle.calc_terms.specs.declared.kind.Kind.TheVariants as kind

-- ---- what is owed

-- a node whose layout is under way: what it holds, the parts that are placed, and the children that are left
pub record Owed : Type 0 where
  pub frame : Frame
  pub source : Payload
  pub parts : Forest
  pub rest : Forest

abbrev pub frames_of : List Owed → List Frame
frames_of [] = []
frames_of (o ∷ os) = frames_of os ++ o.frame ∷ []

-- all that is placed, and all that is left of the face
abbrev pub made_of : List Owed → Forest
made_of [] = empty
made_of (o ∷ os) = join (made_of os) o.parts

abbrev pub nodes_left : List Owed → List Node
nodes_left [] = []
nodes_left (o ∷ os) = flatten o.rest ++ nodes_left os

-- the parts of what is left
abbrev pub parts_left : Owed → Layouts
parts_left o = parts_from o.frame.place (plains o.rest)

-- the layout of a node from its parts
abbrev pub finished : Owed → Layouts → Layout
finished o ls = within o.frame.around (drawn (laid o.source) ls)

-- the whole layout, when the layout of the child that is under way is known
abbrev pub plugged : List Owed → Layout → Layout
plugged [] l = l
plugged (o ∷ os) l = plugged os (finished o (join_parts (drawings o.parts) (beside l (parts_left o))))

abbrev pub sizes_left : List Owed → List ℕ
sizes_left [] = []
sizes_left (o ∷ os) = parts_sizes (parts_left o) ++ (root_sizes o.source o.frame.around ++ sizes_left os)

-- what holds of a node whose layout is under way, with so many parts in the making
pub record IsOwed (base outer : Forest) (making : ℕ) (o : Owed) : Type 0 where
  pub left : o.frame.left ≡ arity o.rest
  pub begin : o.frame.begin ≡ bytes_in (join base outer)
  pub number : o.frame.parts ≡ arity o.parts + making
  pub once : AllOnce o.parts
  pub composed_parts : AllComposed o.parts
  pub expressions : AllExpressions o.rest
  pub known : AreFound base o.rest
  pub live : holds o.frame.id base ≡ true
  pub source_is : payload_in o.frame.id base ≡ o.source
  pub composed_whole : composes (laid o.source) (arity o.parts + making + count_parts (parts_left o)) ≡ true
  pub around : IsAround o.frame.around

abbrev pub AreOwed : Forest → ℕ → List Owed → Type 0
AreOwed base making [] = Unit {0}
AreOwed base making (o ∷ os) = IsOwed base (made_of os) making o × AreOwed base 1 os

-- the state: the innermost node, and those around it
pub record IsState (l : Layout) (old now : State) (at : ℕ) (cells : List Visit) (inner : Owed) (outer : List Owed) : Type 0 where
  pub whole : forest now ≡ join (forest old) (made_of (inner ∷ outer))
  pub cells_are : drop at cells ≡ map visit_of (nodes_left (inner ∷ outer))
  pub innermost : IsOwed (forest old) (made_of outer) 0 inner
  pub others : AreOwed (forest old) 1 outer
  pub layout_is : plugged outer (finished inner (join_parts (drawings inner.parts) (parts_left inner))) ≡ l
  pub budget : taking (free_of old) (part_sizes l) ≡ taking (free_of now) (sizes_left (inner ∷ outer))
  pub keeps : KeepsRefusals old now
  pub stands : Stands now
  pub short : length (frames_of outer) + 1 ≤ at

pub record IsUnderWay (l : Layout) (old now : State) (at : ℕ) (cells : List Visit) (frames : List Frame) : Type 0 where
  pub inner : Owed
  pub outer : List Owed
  pub frames_are : frames ≡ frames_of (inner ∷ outer)
  pub state : IsState l old now at cells inner outer

-- ---- a node before its children

-- it has the parts that its kind takes
composes_before : (x : Payload) (ts : Trees) → takes x (count ts) ≡ true → composes (laid x) (count_parts (parts_from (first_place (kind_of_payload x)) ts)) ≡ true
composes_before (bare kind.Div) (more a (more b none)) h = refl
composes_before (bare kind.Div) ts h = absurd (omega (arith, eqb-true (count ts) 2 h))
composes_before (bare kind.Root) (more a none) h = refl
composes_before (bare kind.Root) ts h = absurd (omega (arith, eqb-true (count ts) 1 h))
composes_before (bare k) ts h = refl
composes_before x none h = refl
composes_before x ts h = absurd (omega (arith, eqb-true (count ts) 0 h))

stands_around : (p : Place) (k deciding : Kind) → IsAround (around_kind p k deciding)
stands_around p k deciding = grind arith

-- the bytes of a node over its parts
whole_sizes : (x : Payload) (around : Option Kind) (ls : Layouts) → composes (laid x) (count_parts ls) ≡ true → IsAround around
    → part_sizes (within around (drawn (laid x) ls)) ≡ parts_sizes ls ++ root_sizes x around
whole_sizes x around ls h a = grind (arith, within_sizes, drawn_sizes, append_assoc)

-- a node is entered, and nothing is placed of it
abbrev pub fresh_owed : Label → Forest → Option Kind → ℕ → Owed
fresh_owed l k around begin = record { frame = frame_of (visit_of (node_of l k)) around begin; source = l.payload; parts = empty; rest = k }

record IsFresh (base outer : Forest) (l : Label) (k : Forest) (around : Option Kind) (begin : ℕ) : Type 0 where
  owed : IsOwed base outer 0 (fresh_owed l k around begin)
  drawing : finished (fresh_owed l k around begin) (parts_left (fresh_owed l k around begin)) ≡ within around (layout (plain (tree l k empty)))
  sizes : part_sizes (within around (layout (plain (tree l k empty)))) ≡ parts_sizes (parts_left (fresh_owed l k around begin)) ++ root_sizes l.payload around

fresh : (base outer : Forest) (l : Label) (k : Forest) (around : Option Kind) (begin : ℕ) → begin ≡ bytes_in (join base outer) → AllExpressions (tree l k empty)
    → AreFound base (tree l k empty) → IsAround around → IsFresh base outer l k around begin
fresh base outer l k around begin b w n a =
    let takes_them : takes l.payload (count (plains k)) ≡ true = ap (takes l.payload) (count-plains k) ∙ w.0 in
    let ls = parts_from (first_place (kind_of_payload l.payload)) (plains k) in
    let composed : composes (laid l.payload) (count_parts ls) ≡ true = composes_before l.payload (plains k) takes_them in
    let laid_is : layout (plain (tree l k empty)) ≡ drawn (laid l.payload) ls = layout_is l.payload (plains k) takes_them in
    record {
      owed = record {
        left = refl;
        begin = b;
        number = refl;
        once = tt;
        composed_parts = tt;
        expressions = w.1;
        known = n.1;
        live = n.0.0;
        source_is = ap root_payload n.0.1;
        composed_whole = ap (composes (laid l.payload)) (let same : 0 + 0 + count_parts ls ≡ count_parts ls = omega arith in same) ∙ composed;
        around = a;
      };
      drawing = ap (within around) (sym laid_is);
      sizes = ap (λ (x : Layout). part_sizes (within around x)) laid_is ∙ whole_sizes l.payload around ls composed a;
    }

-- ---- the start

-- the list begins with the face's root
module _ (face : ℕ) (s : State) (cells : List Visit) (x : IsExpression face (forest s)) (e : cells ≡ visits_of (tree_at face (forest s))) where
  abbrev face_below : Forest
  face_below = kids_of face (forest s)

  cells_begin : drop 0 cells ≡ visit_of (node_of (at face (forest s) x.live).label face_below) ∷ map visit_of (flatten face_below ++ [])
  cells_begin = e ∙ ap visits_of (at face (forest s) x.live).tree-is

  pub first_inside : 0 < length cells
  first_inside = inside_list cells (map visit_of (flatten face_below ++ [])) 0 (visit_of (node_of (at face (forest s) x.live).label face_below)) cells_begin

pub started : (s : State) (face : ℕ) (cells : List Visit) (frames : List Frame) (d : Visit) (begin : ℕ) → Stands s → IsExpression face (forest s)
    → cells ≡ visits_of (tree_at face (forest s)) → begin ≡ used s.nodes → frames ≡ frame_of (get_or cells 0 d) None begin ∷ []
    → IsUnderWay (layout (plain (tree_at face (forest s)))) s s 1 cells frames
started s face cells frames d begin st x e b f =
    let base = forest s in
    let p = at face base x.live in
    let k = kids_of face base in
    let c = visit_of (node_of p.label k) in
    let n = fresh base empty p.label k None begin (b ∙ used_forest s st ∙ ap bytes_in (sym (join-empty base))) (subst AllExpressions p.tree-is x.whole)
    (subst (AreFound base) p.tree-is (found face s st)) tt in
    let plain_is : plain (tree_at face base) ≡ plain (tree p.label k empty) = ap plain p.tree-is in
    let begins = cells_begin face s cells x e in
    let first : get_or cells 0 d ≡ c = first_is cells (map visit_of (flatten k ++ [])) 0 c d begins in
    record {
      inner = fresh_owed p.label k None begin;
      outer = [];
      frames_are = f ∙ ap (λ (y : Visit). frame_of y None begin ∷ []) first;
      state = record {
        whole = sym (join-empty base);
        cells_are = others_are cells (map visit_of (flatten k ++ [])) 0 c begins;
        innermost = n.owed;
        others = tt;
        layout_is = n.drawing ∙ ap layout (sym plain_is);
        budget = ap (λ (t : Tree). taking (free_of s) (part_sizes (layout t))) plain_is
            ∙ ap (taking (free_of s)) (n.sizes ∙ ap (λ (y : List ℕ). parts_sizes (parts_left (fresh_owed p.label k None begin)) ++ y) (sym (append-nil (root_sizes p.label.payload None))));
        keeps = keeps_none s;
        stands = st;
        short = omega arith;
      };
    }

-- ---- the innermost node

abbrev owed_of : Frame → Payload → Forest → Forest → Owed
owed_of frame source parts rest = record { frame = frame; source = source; parts = parts; rest = rest }

pub record IsTop (l : Layout) (old now : State) (at : ℕ) (cells : List Visit) (popped : List Frame) (frame : Frame) (rest : Forest) : Type 0 where
  pub source : Payload
  pub parts : Forest
  pub outer : List Owed
  pub popped_is : popped ≡ frames_of outer
  pub state : IsState l old now at cells (owed_of frame source parts rest) outer

top : {l : Layout} {old now : State} {at : ℕ} {cells : List Visit} {frames : List Frame} (popped : List Frame) (frame : Frame) → IsUnderWay l old now at cells frames
    → frames ≡ popped ++ frame ∷ [] → (rest : Forest) × IsTop l old now at cells popped frame rest × (frame.left ≡ arity rest)
top {l = l} {old = old} {now = now} {at = at} {cells = cells} popped frame u e =
    let same = snoc_same popped (frames_of u.outer) frame u.inner.frame (sym e ∙ u.frames_are) in
    let o = u.inner in
    let x = subst (λ (f : Frame). IsState l old now at cells (owed_of f o.source o.parts o.rest) u.outer) (sym same.1) u.state in
    (o.rest, record { source = o.source; parts = o.parts; outer = u.outer; popped_is = same.0; state = x }, x.innermost.left)

-- it has no children left
pub closing : {l : Layout} {old now : State} {at : ℕ} {cells : List Visit} {frames : List Frame} (popped : List Frame) (frame : Frame) → IsUnderWay l old now at cells frames
    → frames ≡ popped ++ frame ∷ [] → frame.left ≡ 0 → IsTop l old now at cells popped frame empty
closing {l = l} {old = old} {now = now} {at = at} {cells = cells} popped frame u e z = let (rest, t, left) = top popped frame u e in by rest t left
  where
    by : (rest : Forest) → IsTop l old now at cells popped frame rest → frame.left ≡ arity rest → IsTop l old now at cells popped frame empty
    by empty t left = t
    by (tree m k r) t left = absurd (omega (arith, left, z))

-- its next child is entered
pub record IsNext (l : Layout) (old now : State) (at : ℕ) (cells : List Visit) (popped : List Frame) (frame : Frame) : Type 0 where
  pub label : Label
  pub below : Forest
  pub rest : Forest
  pub node : IsTop l old now at cells popped frame (tree label below rest)
  pub cells_are : drop at cells ≡ visit_of (node_of label below) ∷ map visit_of (flatten below ++ (flatten rest ++ nodes_left node.outer))

pub next : {l : Layout} {old now : State} {at : ℕ} {cells : List Visit} {frames : List Frame} (popped : List Frame) (frame : Frame) → IsUnderWay l old now at cells frames
    → frames ≡ popped ++ frame ∷ [] → 0 < frame.left → IsNext l old now at cells popped frame
next {l = l} {old = old} {now = now} {at = at} {cells = cells} popped frame u e some = let (rest, t, left) = top popped frame u e in by rest t left
  where
    by : (rest : Forest) → IsTop l old now at cells popped frame rest → frame.left ≡ arity rest → IsNext l old now at cells popped frame
    by empty t left = absurd (omega (arith, left, some))
    by (tree m k r) t left = record {
      label = m;
      below = k;
      rest = r;
      node = t;
      cells_are = t.state.cells_are ∙ ap (λ (ns : List Node). visit_of (node_of m k) ∷ map visit_of ns) (append_assoc (flatten k) (flatten r) (nodes_left t.outer));
    }

pub next_inside : {l : Layout} {old now : State} {at : ℕ} {cells : List Visit} {popped : List Frame} {frame : Frame} → IsNext l old now at cells popped frame → at < length cells
next_inside {at = at} {cells = cells} n = inside_list cells (map visit_of (flatten n.below ++ (flatten n.rest ++ nodes_left n.node.outer))) at (visit_of (node_of n.label n.below)) n.cells_are

-- the child's node, seen in the pool
module _ {l : Layout} {old now : State} {at : ℕ} {cells : List Visit} {popped : List Frame} {frame : Frame} (n : IsNext l old now at cells popped frame) (v : Visit)
    (here : v ≡ get_or cells at v) where
  abbrev next_tree : Forest
  next_tree = tree n.label n.below empty

  next_is : v ≡ visit_of (node_of n.label n.below)
  next_is = here ∙ first_is cells (map visit_of (flatten n.below ++ (flatten n.rest ++ nodes_left n.node.outer))) at (visit_of (node_of n.label n.below)) v n.cells_are

  tree_here : tree_at n.label.id (forest now) ≡ next_tree
  tree_here = ap (tree_at n.label.id) n.node.state.whole ∙
      tree_at-join_left n.label.id (forest old) (join (made_of n.node.outer) n.node.parts) n.node.state.innermost.known.0.0 ∙ n.node.state.innermost.known.0.1

  pub next_live : holds v.id (forest now) ≡ true
  next_live = ap (λ (w : Visit). holds w.id (forest now)) next_is ∙ ap (holds n.label.id) n.node.state.whole
      ∙ holds-left n.label.id (forest old) (join (made_of n.node.outer) n.node.parts) n.node.state.innermost.known.0.0

  pub next_seen : v ≡ visit_at v.id (forest now)
  next_seen =
      let at_label : visit_of (node_of n.label n.below) ≡ visit_at n.label.id (forest now) =
      ap (λ (t : Forest). let w : Visit = record { kind = kind_of_payload (root_payload t); id = n.label.id; children = arity (kids t) } in w) (sym tree_here) in
      next_is ∙ at_label ∙ ap (λ (w : Visit). visit_at w.id (forest now)) (sym next_is)

  -- what its layout stands in
  pub next_around : (k : Kind) (around : Option Kind) → k ≡ deciding frame.place (tree_at v.id (forest now)) → around ≡ around_kind frame.place v.kind k
      → around ≡ around_of frame.place (plain next_tree)
  next_around k around e f =
      let kind_is : v.kind ≡ root_kind (plain next_tree) = ap (λ (w : Visit). w.kind) next_is
      ∙ sym (root_kind-plain next_tree refl (n.node.state.innermost.expressions.0, n.node.state.innermost.expressions.1, tt)) in
      let decides : k ≡ deciding_kind frame.place (plain next_tree)
      = e ∙ ap (λ (w : Visit). deciding frame.place (tree_at w.id (forest now))) next_is ∙ ap (deciding frame.place) tree_here
      ∙ deciding_is frame.place n.label n.below n.rest n.node.state.innermost.expressions in
      f ∙ (λ i. around_kind frame.place (kind_is i) (decides i))

-- the parts of a node are few
pub parts_are_few : {l : Layout} {old now : State} {at : ℕ} {cells : List Visit} {popped : List Frame} {frame : Frame} {rest : Forest}
    → IsTop l old now at cells popped frame rest → frame.parts ≤ 65535
parts_are_few {old = old} {now = now} t =
    omega (arith, few_trees now t.state.stands, ap arity t.state.whole, arity-join (forest old) (join (made_of t.outer) t.parts), arity-join (made_of t.outer) t.parts, t.state.innermost.number)

-- ---- a mark is placed, and the child is entered

marked : (a b c d : Forest) → join (join a (join b c)) d ≡ join a (join b (join c d))
marked a b c d = join_assoc a (join b c) d ∙ ap (join a) (join_assoc b c d)

regroup : (a b c d : List ℕ) → ((a ++ b) ++ c) ++ d ≡ a ++ (b ++ (c ++ d))
regroup a b c d = append_assoc (a ++ b) c d ∙ append_assoc a b (c ++ d)

pub entered : {l : Layout} {old now : State} {at : ℕ} {cells : List Visit} {popped : List Frame} {frame : Frame} (after : State) (marks_placed : ℕ) (around : Option Kind)
    (begin : ℕ) (d : Visit) (frames : List Frame)
    → (n : IsNext l old now at cells popped frame) → PlacesMark (mark_before frame.place) (forest now) (forest after) marks_placed → KeepsRefusals now after
    → taking (free_of now) (around_sizes (mark_before frame.place)) ≡ Ok (free_of after) → Stands after
    → around ≡ around_of frame.place (plain (tree n.label n.below empty)) → begin ≡ used after.nodes
    → frames ≡ (popped ++ frame_behind frame marks_placed ∷ []) ++ frame_of (get_or cells at d) around begin ∷ []
    → IsUnderWay l old after (at + 1) cells frames
entered {l = l} {old = old} {now = now} {at = at} {cells = cells} {popped = popped} {frame = frame} after marks_placed around begin d frames n m kept room st a b f =
    let base = forest old in
    let made = join (made_of n.node.outer) (join n.node.parts m.parts) in
    let t = tree n.label n.below empty in
    let whole : forest after ≡ join base made = m.whole ∙ ap (λ (g : Forest). join g m.parts) n.node.state.whole ∙ marked base (made_of n.node.outer) n.node.parts m.parts in
    let own = n.node.state.innermost in
    let c = visit_of (node_of n.label n.below) in
    let first : get_or cells at d ≡ c = first_is cells (map visit_of (flatten n.below ++ (flatten n.rest ++ nodes_left n.node.outer))) at c d n.cells_are in
    let stands_in : IsAround around = subst IsAround (sym a) (stands_around frame.place (root_kind (plain t)) (deciding_kind frame.place (plain t))) in
    let x = fresh base made n.label n.below around begin (b ∙ used_forest after st ∙ ap bytes_in whole) (own.expressions.0, own.expressions.1, tt) (own.known.0, own.known.1, tt) stands_in in
    let behind = frame_behind frame marks_placed in
    let fresh_one = fresh_owed n.label n.below around begin in
    let face = within (around_of frame.place (plain t)) (layout (plain t)) in
    let outer_owed : Owed = record { frame = behind; source = n.node.source; parts = join n.node.parts m.parts; rest = n.rest } in
    let rest_parts = parts_from (next_place frame.place) (plains n.rest) in
    let placed_marks = marks (mark_before frame.place) in
    let child : finished fresh_one (parts_left fresh_one) ≡ face = x.drawing ∙ ap (λ (y : Option Kind). within y (layout (plain t))) a in
    let mark_count : count_parts placed_marks ≡ arity m.parts = ap count_parts (sym m.drawings_are) ∙ count-drawings m.parts in
    let long : arity n.node.parts + 0 + count_parts (parts_from frame.place (plains (tree n.label n.below n.rest))) ≡ arity (join n.node.parts m.parts) + 1 + count_parts rest_parts
    = omega (arith, arity-join n.node.parts m.parts, count-join placed_marks (beside face rest_parts), mark_count) in
    let sizes : parts_sizes (parts_from frame.place (plains (tree n.label n.below n.rest))) ≡ around_sizes (mark_before frame.place) ++ (part_sizes face ++ parts_sizes rest_parts)
    = sizes-join placed_marks (beside face rest_parts) ∙ ap (λ (y : List ℕ). y ++ (part_sizes face ++ parts_sizes rest_parts)) (sizes-marks frame.place) in
    let child_sizes : part_sizes face ≡ parts_sizes (parts_left fresh_one) ++ root_sizes n.label.payload around
    = ap (λ (y : Option Kind). part_sizes (within y (layout (plain t)))) (sym a) ∙ x.sizes in
    let tail = root_sizes n.node.source frame.around ++ sizes_left n.node.outer in
    record {
      inner = fresh_one;
      outer = outer_owed ∷ n.node.outer;
      frames_are = f ∙ ap (λ (y : Visit). (popped ++ behind ∷ []) ++ frame_of y around begin ∷ []) first ∙ ap (λ (y : List Frame). (y ++ behind ∷ []) ++ frame_of c around begin ∷ []) n.node.popped_is;
      state = record {
        whole = whole ∙ ap (join base) (sym (join-empty made));
        cells_are = others_are cells (map visit_of (flatten n.below ++ (flatten n.rest ++ nodes_left n.node.outer))) at c n.cells_are;
        innermost = x.owed;
        others = (
          record {
            left = omega (arith, own.left);
            begin = own.begin;
            number = omega (arith, own.number, arity-join n.node.parts m.parts, m.number);
            once = all-join IsOnce n.node.parts m.parts own.once m.once;
            composed_parts = all-join IsComposed n.node.parts m.parts own.composed_parts m.composed_whole;
            expressions = own.expressions.2;
            known = own.known.2;
            live = own.live;
            source_is = own.source_is;
            composed_whole = ap (composes (laid n.node.source)) (sym long) ∙ own.composed_whole;
            around = own.around;
          },
          n.node.state.others,
        );
        layout_is = ap (λ (y : Layouts). plugged n.node.outer (within frame.around (drawn (laid n.node.source) y)))
            (ap (λ (y : Layouts). join_parts y (beside (finished fresh_one (parts_left fresh_one)) rest_parts))
            (drawings-join n.node.parts m.parts ∙ ap (join_parts (drawings n.node.parts)) m.drawings_are)
            ∙ join_parts-assoc (drawings n.node.parts) placed_marks (beside (finished fresh_one (parts_left fresh_one)) rest_parts)
            ∙ ap (λ (y : Layout). join_parts (drawings n.node.parts) (join_parts placed_marks (beside y rest_parts))) child)
            ∙ n.node.state.layout_is;
        budget = n.node.state.budget ∙ ap (λ (y : List ℕ). taking (free_of now) (y ++ tail)) sizes
            ∙ ap (taking (free_of now)) (append_assoc (around_sizes (mark_before frame.place)) (part_sizes face ++ parts_sizes rest_parts) tail)
            ∙ taken_first (free_of now) (free_of after) (around_sizes (mark_before frame.place)) ((part_sizes face ++ parts_sizes rest_parts) ++ tail) room
            ∙ ap (λ (y : List ℕ). taking (free_of after) ((y ++ parts_sizes rest_parts) ++ tail)) child_sizes
            ∙ ap (taking (free_of after)) (regroup (parts_sizes (parts_left fresh_one)) (root_sizes n.label.payload around) (parts_sizes rest_parts) tail);
        keeps = keeps_after old now after n.node.state.keeps kept;
        stands = st;
        short = omega (arith, length-append (frames_of n.node.outer) (behind ∷ []), n.node.state.short);
      };
    }

-- ---- a node is closed

-- a leaf has no parts
no_parts : (x : Payload) (n : ℕ) → is_leaf x ≡ true → composes (laid x) n ≡ true → n ≡ 0
no_parts x n h c = grind arith

-- the tree of a node that is closed
record IsClosed (l : Layout) (t : Forest) : Type 0 where
  alone : arity t ≡ 1
  once : AllOnce t
  composed_whole : AllComposed t
  drawing_is : drawings t ≡ one_part l

closed_is : (around : Option Kind) (id root : ℕ) (x : Payload) (parts : Forest) → AllOnce parts → AllComposed parts → composes (laid x) (arity parts) ≡ true → IsAround around
    → IsClosed (within around (drawn (laid x) (drawings parts))) (held_in around id (one_tree root (laid x) parts))
closed_is around id root x parts o c h a = grind arith

-- the layout found no room
pub record HasStopped (l : Layout) (old after : State) (full : Full) : Type 0 where
  pub full_is : taking (free_of old) (part_sizes l) ≡ Err full
  pub refuses : Refuses old after full
  pub lacks : LacksBytes after full
  pub front : KeepsFront [] (forest old) (forest after)

starts_as : {f g h : Forest} → f ≡ g → Starts f h → Starts g h
starts_as {h = h} e s = subst (λ (x : Forest). Starts x h) e s

keeps_starting : (f made g : Forest) → Starts (join f made) g → KeepsFront [] f g
keeps_starting f made g s = grind (arith, join_assoc)

pub front_kept : {others new : Forest} {id : ℕ} {l : Layout} → GivesLayout others new id l → KeepsFront [] others new
front_kept {others = others} {new = new} g = keeps_starting others g.tree new (record { behind = empty; whole = g.ends.whole ∙ sym (join-empty (join others g.tree)) })

module _ {l : Layout} {old now : State} {at : ℕ} {cells : List Visit} {popped : List Frame} {frame : Frame} (k : IsTop l old now at cells popped frame empty) where
  own : IsOwed (forest old) (made_of k.outer) 0 (owed_of frame k.source k.parts empty)
  own = k.state.innermost

  whole : forest now ≡ join (join (forest old) (made_of k.outer)) k.parts
  whole = k.state.whole ∙ sym (join_assoc (forest old) (made_of k.outer) k.parts)

  number : frame.parts ≡ arity k.parts
  number = omega (arith, own.number)

  drawing : plugged k.outer (within frame.around (drawn (laid k.source) (drawings k.parts))) ≡ l
  drawing = ap (λ (y : Layouts). plugged k.outer (within frame.around (drawn (laid k.source) y))) (sym (join_parts-nothing (drawings k.parts))) ∙ k.state.layout_is

  composed : composes (laid k.source) (arity k.parts) ≡ true
  composed = ap (composes (laid k.source)) (let same : arity k.parts ≡ arity k.parts + 0 + 0 = omega arith in same) ∙ own.composed_whole

  pub close_live : holds frame.id (forest now) ≡ true
  close_live = ap (holds frame.id) k.state.whole ∙ holds-left frame.id (forest old) (join (made_of k.outer) k.parts) own.live

  pub close_source : payload_in frame.id (forest now) ≡ k.source
  close_source = ap (payload_in frame.id) k.state.whole ∙ ap root_payload (tree_at-join_left frame.id (forest old) (join (made_of k.outer) k.parts) own.live) ∙ own.source_is

  pub close_few : frame.parts ≤ arity (forest now)
  close_few = omega (arith, number, ap arity whole, arity-join (join (forest old) (made_of k.outer)) k.parts)

  pub close_before : before_last frame.parts (forest now) ≡ join (forest old) (made_of k.outer)
  close_before = ap (before_last frame.parts) whole ∙ before_last-join frame.parts (join (forest old) (made_of k.outer)) k.parts number

  pub close_last : last_trees frame.parts (forest now) ≡ k.parts
  close_last = ap (last_trees frame.parts) whole ∙ last_trees-join frame.parts (join (forest old) (made_of k.outer)) k.parts number

  pub close_begin : frame.begin ≡ bytes_in (before_last frame.parts (forest now))
  close_begin = own.begin ∙ ap bytes_in (sym close_before)

  pub close_leaf : is_leaf (payload_in frame.id (forest now)) ≡ true → frame.parts ≡ 0
  close_leaf h = number ∙ no_parts k.source (arity k.parts) (ap is_leaf (sym close_source) ∙ h) composed

  closed_whole : (after : State) (id : ℕ) (c : Closes (payload_in frame.id (forest now)) frame.around frame.parts (forest now) (forest after) id)
      → Ends id (held_in frame.around id (one_tree c.root (laid k.source) k.parts)) (join (forest old) (made_of k.outer)) (forest after)
  closed_whole after id c = grind (arith, ends_as, close_source, close_last, close_before)

  left_sizes : (after : State) → taking (free_of now) (root_sizes (payload_in frame.id (forest now)) frame.around) ≡ Ok (free_of after)
      → taking (free_of old) (part_sizes l) ≡ taking (free_of after) (sizes_left k.outer)
  left_sizes after h = grind (arith, close_source, taken_first)

  -- nothing is left
  pub closed_all : (after : State) (id : ℕ) → popped ≡ [] → Closes (payload_in frame.id (forest now)) frame.around frame.parts (forest now) (forest after) id
      → GivesLayout (forest old) (forest after) id l
  closed_all after id empty_list c = by k.outer k.popped_is drawing (closed_whole after id c)
    where
      by : (outer : List Owed) → popped ≡ frames_of outer → plugged outer (within frame.around (drawn (laid k.source) (drawings k.parts))) ≡ l
          → Ends id (held_in frame.around id (one_tree c.root (laid k.source) k.parts)) (join (forest old) (made_of outer)) (forest after) → GivesLayout (forest old) (forest after) id l
      by (o ∷ os) p d e = absurd (omega (arith, ap length (sym empty_list ∙ p), length-append (frames_of os) (o.frame ∷ [])))
      by [] p d e =
          let t = closed_is frame.around id c.root k.source k.parts own.once own.composed_parts composed own.around in
          record {
            tree = held_in frame.around id (one_tree c.root (laid k.source) k.parts);
            ends = ends_as e refl (join-empty (forest old));
            once = t.once;
            composed_whole = t.composed_whole;
            drawing_is = t.drawing_is ∙ ap one_part d;
          }

  pub closed_room : (after : State) → popped ≡ [] → taking (free_of now) (root_sizes (payload_in frame.id (forest now)) frame.around) ≡ Ok (free_of after)
      → taking (free_of old) (part_sizes l) ≡ Ok (free_of after)
  closed_room after empty_list room = by k.outer k.popped_is (left_sizes after room)
    where
      by : (outer : List Owed) → popped ≡ frames_of outer → taking (free_of old) (part_sizes l) ≡ taking (free_of after) (sizes_left outer) → taking (free_of old) (part_sizes l) ≡ Ok (free_of after)
      by (o ∷ os) p b = absurd (omega (arith, ap length (sym empty_list ∙ p), length-append (frames_of os) (o.frame ∷ [])))
      by [] p b = b

  -- something is left
  pub closed_one : (after : State) (id : ℕ) → 0 < length popped → Closes (payload_in frame.id (forest now)) frame.around frame.parts (forest now) (forest after) id → KeepsRefusals now after
      → taking (free_of now) (root_sizes (payload_in frame.id (forest now)) frame.around) ≡ Ok (free_of after) → Stands after → IsUnderWay l old after at cells popped
  closed_one after id some c kept room st = by k.outer k.popped_is k.state.cells_are k.state.others drawing (closed_whole after id c) (left_sizes after room)
    where
      by : (outer : List Owed) → popped ≡ frames_of outer → drop at cells ≡ map visit_of (nodes_left outer) → AreOwed (forest old) 1 outer
          → plugged outer (within frame.around (drawn (laid k.source) (drawings k.parts))) ≡ l
          → Ends id (held_in frame.around id (one_tree c.root (laid k.source) k.parts)) (join (forest old) (made_of outer)) (forest after)
          → taking (free_of old) (part_sizes l) ≡ taking (free_of after) (sizes_left outer) → IsUnderWay l old after at cells popped
      by [] p n o d e b = absurd (omega (arith, ap length p, some))
      by (o ∷ os) p n w d e b =
          let t = closed_is frame.around id c.root k.source k.parts own.once own.composed_parts composed own.around in
          let tree_made = held_in frame.around id (one_tree c.root (laid k.source) k.parts) in
          let child = within frame.around (drawn (laid k.source) (drawings k.parts)) in
          record {
            inner = record { frame = o.frame; source = o.source; parts = join o.parts tree_made; rest = o.rest };
            outer = os;
            frames_are = p;
            state = record {
              whole = e.whole ∙ join_assoc (forest old) (join (made_of os) o.parts) tree_made ∙ ap (join (forest old)) (join_assoc (made_of os) o.parts tree_made);
              cells_are = n;
              innermost = record {
                left = w.0.left;
                begin = w.0.begin;
                number = omega (arith, w.0.number, arity-join o.parts tree_made, t.alone);
                once = all-join IsOnce o.parts tree_made w.0.once t.once;
                composed_parts = all-join IsComposed o.parts tree_made w.0.composed_parts t.composed_whole;
                expressions = w.0.expressions;
                known = w.0.known;
                live = w.0.live;
                source_is = w.0.source_is;
                composed_whole = ap (λ (n : ℕ). composes (laid o.source) (n + count_parts (parts_left o)))
                    (let same : arity (join o.parts tree_made) + 0 ≡ arity o.parts + 1 = omega (arith, arity-join o.parts tree_made, t.alone) in same) ∙ w.0.composed_whole;
                around = w.0.around;
              };
              others = w.1;
              layout_is = ap (λ (y : Layouts). plugged os (within o.frame.around (drawn (laid o.source) y)))
                  (ap (λ (y : Layouts). join_parts y (parts_left o)) (drawings-join o.parts tree_made ∙ ap (join_parts (drawings o.parts)) t.drawing_is) ∙ join_parts-assoc (drawings o.parts) (one_part child) (parts_left o))
                  ∙ d;
              budget = b;
              keeps = keeps_after old now after k.state.keeps kept;
              stands = st;
              short = omega (arith, k.state.short, ap length (sym k.popped_is ∙ p), length-append (frames_of os) (o.frame ∷ []));
            };
          }

  -- ---- a refusal

  pub close_stopped : (after : State) (full : Full) → IsStopped (before_last frame.parts (forest now)) (root_sizes (payload_in frame.id (forest now)) frame.around) now after full
      → HasStopped l old after full
  close_stopped after full s = grind (arith, close_source, refused_first, refuses_after, keeps_starting, starts_as, close_before)

-- a mark was refused
pub mark_stopped : {l : Layout} {old now : State} {at : ℕ} {cells : List Visit} {popped : List Frame} {frame : Frame} (after : State) (full : Full) → IsNext l old now at cells popped frame
    → IsStopped (forest now) (around_sizes (mark_before frame.place)) now after full → HasStopped l old after full
mark_stopped after full n s = grind (arith, sizes-join, sizes-marks, append_assoc, refused_first, refuses_after, keeps_starting, starts_as)

pub none_left : (frames : List Frame) → nat_eq (length frames) 0 ≡ true → frames ≡ []
none_left [] e = refl
none_left (f ∷ fs) e = absurd (omega (arith, eqb-true (length (f ∷ fs)) 0 e))

pub some_left : (frames : List Frame) → nat_eq (length frames) 0 ≡ false → 0 < length frames
some_left frames e = grind arith
