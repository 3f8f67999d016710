-- What the steps of a row open to.
use Rattle.pool_layouts.proofs.Shared.{◌≡◌, ◌≢◌, ◌∙◌, if◌then◌else◌, false, ℕ, suc, ◌+◌, ◌-◌, ◌*◌, ◌<◌, ◌≤◌, max, List, [], ◌∷◌, ◌++◌, length, map, drop, get_or, codes, nat_lt, nat_eq, Bool, Option}
use Rattle.pool_layouts.proofs.Shared.{Some, None, refl, sym, ap, subst, arith, append_assoc, append-nil, lt-ltb, le-ltb, map-append, drop-drop, drop_at, Kind, Node, Payload, bare, kind_of_payload}
use Rattle.pool_layouts.proofs.Shared.{IsPayload, Label, Forest, empty, tree, flatten, node_of, nodes_in, holds, payload_in, Visit, Extent, Nothing, Leaf, Bar, Roof, Root, Close, Ink, Step, Opened}
use Rattle.pool_layouts.proofs.Shared.{visit_of, visits_of, extent_of, extents_of, HasSmall, IsOver, IsSmall, IsSpanOf, ShowsPart, ShowsLevel, Shows, ShowsIf, Opens, IsInk, ink_characters, weight}
use Rattle.pool_layouts.proofs.Shared.{weight_if, count_if, leaf_characters, opened, span_of, part_of, level_if, level_opened, centred_opened, fraction_opened, raised_opened, radical_opened}
use Rattle.pool_layouts.proofs.Shared.{paren_opened, row_opened, Block, height, blanks, bar, roof, root_character, level, line_or_blanks, level_lines, centred, most_above, visits_length, ◌^◌, Span}
use Rattle.pool_layouts.proofs.{Measures.{blocks_of, block_of, behind_first, first_small, IsOneOver, IsTwoOver, bare_of, leaf_line, leaf_some, has_parts}, Shown.{first_is, others_are, inside_list}}
use Rattle.calc_terms.specs.declared.kind.Kind.TheVariants as kind
use Rattle.pool_layouts.specs.declared.steps.Step.TheVariants as step

-- ---- spans

-- the first tree of a span
pub span_first : {base : Forest} {cells : List Visit} {es : List Extent} {span : Span} (l : Label) (k r : Forest) (end : ℕ) → IsSpanOf base cells es (tree l k r) span
    → end ≡ span.at + suc (nodes_in k) → IsSpanOf base cells es (tree l k empty) (span_of span.at end)
span_first l k r end s e = record {
  small = record {
    behind = extents_of r ++ s.small.behind;
    extents_are = s.small.extents_are
        ∙ ap (λ (x : List Extent). extent_of l.payload k ∷ x)
        (append_assoc (extents_of k) (extents_of r) s.small.behind ∙ ap (λ (x : List Extent). x ++ (extents_of r ++ s.small.behind)) (sym (append-nil (extents_of k))));
    composed_parts = (s.small.composed_parts.0, s.small.composed_parts.1, tt);
    valid_parts = (s.small.valid_parts.0, s.small.valid_parts.1, tt);
    few = omega (arith, s.small.few);
  };
  cells_behind = visits_of r ++ s.cells_behind;
  cells_are = s.cells_are ∙ ap (λ (x : List Visit). visit_of (node_of l k) ∷ x)
      (ap (λ (x : List Visit). x ++ s.cells_behind) (map-append visit_of (flatten k) (flatten r)) ∙ append_assoc (visits_of k) (visits_of r) s.cells_behind
      ∙ ap (λ (x : List Visit). x ++ (visits_of r ++ s.cells_behind)) (ap (map visit_of) (sym (append-nil (flatten k)))));
  found = (s.found.0, s.found.1, tt);
  end_is = omega (arith, e);
}

-- the trees behind it
pub span_rest : {base : Forest} {cells : List Visit} {es : List Extent} {span : Span} (l : Label) (k r : Forest) (at : ℕ) → IsSpanOf base cells es (tree l k r) span
    → at ≡ span.at + suc (nodes_in k) → IsSpanOf base cells es r (span_of at span.end)
span_rest {cells = cells} {es = es} {span = span} l k r at s e = record {
  small = subst (λ (n : ℕ). HasSmall r n es) (sym e) (behind_first l k r span.at es s.small);
  cells_behind = s.cells_behind;
  cells_are = ap (λ (n : ℕ). drop n cells) e ∙ sym (drop-drop (suc (nodes_in k)) span.at cells) ∙ ap (drop (suc (nodes_in k))) s.cells_are
      ∙ ap (λ (x : List Visit). drop (suc (nodes_in k)) (visit_of (node_of l k) ∷ x))
      (ap (λ (x : List Visit). x ++ s.cells_behind) (map-append visit_of (flatten k) (flatten r)) ∙ append_assoc (visits_of k) (visits_of r) s.cells_behind)
      ∙ drop_at (visit_of (node_of l k) ∷ visits_of k) (visits_of r ++ s.cells_behind) (suc (nodes_in k)) (ap suc (visits_length k));
  found = s.found.2;
  end_is = omega (arith, s.end_is, e);
}

-- the parts of a layout
pub span_below : {base : Forest} {cells : List Visit} {es : List Extent} {span : Span} (l : Label) (k : Forest) → IsSpanOf base cells es (tree l k empty) span
    → IsSpanOf base cells es k (span_of (span.at + 1) span.end)
span_below {cells = cells} {es = es} {span = span} l k s = record {
  small = record {
    behind = s.small.behind;
    extents_are = others_are es ((extents_of k ++ []) ++ s.small.behind) span.at (extent_of l.payload k) s.small.extents_are
        ∙ ap (λ (x : List Extent). x ++ s.small.behind) (append-nil (extents_of k));
    composed_parts = s.small.composed_parts.1;
    valid_parts = s.small.valid_parts.1;
    few = omega (arith, s.small.few);
  };
  cells_behind = s.cells_behind;
  cells_are = others_are cells (map visit_of (flatten k ++ []) ++ s.cells_behind) span.at (visit_of (node_of l k)) s.cells_are
      ∙ ap (λ (x : List Node). map visit_of x ++ s.cells_behind) (append-nil (flatten k));
  found = s.found.1;
  end_is = omega (arith, s.end_is);
}

pub cell_here : {base : Forest} {cells : List Visit} {es : List Extent} {span : Span} (l : Label) (k : Forest) (d : Visit) → IsSpanOf base cells es (tree l k empty) span
    → get_or cells span.at d ≡ visit_of (node_of l k)
cell_here {cells = cells} {span = span} l k d s = first_is cells (map visit_of (flatten k ++ []) ++ s.cells_behind) span.at (visit_of (node_of l k)) d s.cells_are

pub cell_inside : {base : Forest} {cells : List Visit} {es : List Extent} {span : Span} (l : Label) (k r : Forest) → IsSpanOf base cells es (tree l k r) span → span.at < length cells
cell_inside {cells = cells} {span = span} l k r s = inside_list cells (map visit_of (flatten k ++ flatten r) ++ s.cells_behind) span.at (visit_of (node_of l k)) s.cells_are

-- a node over its parts
pub is_over : {base : Forest} {cells : List Visit} {es : List Extent} {span : Span} (l : Label) (k : Forest) → IsSpanOf base cells es (tree l k empty) span → IsOver l.payload k (span.at + 1) es
is_over l k s = record { small = (span_below l k s).small; payload = s.small.valid_parts.0; composed_node = s.small.composed_parts.0 }

-- ---- a step that opens to blanks and ink alone

alone : {base : Forest} {cells : List Visit} {es : List Extent} {s : Step} {cs : List ℕ} (n : ℕ) (ink : Ink) → cs ≡ blanks n ++ ink_characters base ink → 0 < weight s
    → IsInk base ink → Opens base cells es s cs (opened n ink None None)
alone {base = base} n ink e h i = record {
  first = [];
  second = [];
  whole = e ∙ ap (λ (x : List ℕ). blanks n ++ x) (sym (append-nil (ink_characters base ink)));
  first_shown = refl;
  second_shown = refl;
  lighter = omega (arith, h);
  fewer = omega arith;
  ink_is = i;
}

-- ---- a choice

module _ {base : Forest} {cells : List Visit} {es : List Extent} {s : Step} {cs : List ℕ} where
  pub choose : (t : Bool) (a b : Opened) (x y : List ℕ) → cs ≡ (if t then x else y) → (cs ≡ x → Opens base cells es s cs a) → (cs ≡ y → Opens base cells es s cs b)
      → Opens base cells es s cs (if t then a else b)
  choose t a b x y e f g = grind arith

  pub choose_level : (o p : Option ℕ) (a : ℕ → Opened) (b : Opened) (block : Block) (rest : List ℕ) → o ≡ p → cs ≡ line_or_blanks block o ++ rest
      → ((z : ℕ) → p ≡ Some z → cs ≡ block.line z ++ rest → Opens base cells es s cs (a z)) → (cs ≡ blanks block.width ++ rest → Opens base cells es s cs b)
      → Opens base cells es s cs (elim o [ Some z ↦ a z | None ↦ b ])
  choose_level o p a b block rest q e f g = grind arith

head_choice : (t : Bool) (a b : ℕ) (rest : List ℕ) → (if t then a else b) ∷ rest ≡ (if t then a ∷ rest else b ∷ rest)
head_choice t a b rest = grind arith

-- a level row is one of the block
pub level_small : (above y own_above own_height z : ℕ) → level above y own_above own_height ≡ Some z → z < own_height
level_small above y own_above own_height z e = grind arith

-- ---- layouts side by side

level_if_opens : {base : Forest} {cells : List Visit} {es : List Extent} (r : Forest) (at end above y : ℕ) → IsSpanOf base cells es r (span_of at end) → above ≤ 2 ^ 20 → y ≤ 2 ^ 22
    → ShowsIf base cells es (level_if at end above y) (level_lines above y (blocks_of r))
level_if_opens {base = base} {cells = cells} {es = es} empty at end above y s a b =
    subst (λ (t : Bool). ShowsIf base cells es (if t then Some (step.Level (span_of at end) above y) else None) []) (sym (le-ltb at end (omega (arith, s.end_is)))) refl
level_if_opens {base = base} {cells = cells} {es = es} (tree l k r) at end above y s a b =
    subst (λ (t : Bool). ShowsIf base cells es (if t then Some (step.Level (span_of at end) above y) else None) (level_lines above y (blocks_of (tree l k r))))
    (sym (lt-ltb at end (omega (arith, s.end_is))))
    (record { label = l; below = k; others = r; listed = s; above_small = a; row_small = b; lines_are = refl })

level_if_light : (at end above y : ℕ) → weight_if (level_if at end above y) ≤ 3 * (end - at) + 1
level_if_light at end above y = grind arith

level_if_few : (at end above y : ℕ) → count_if (level_if at end above y) ≤ end - at
level_if_few at end above y = grind arith

pub level_opens : {base : Forest} {cells : List Visit} {es : List Extent} {span : Span} {above y : ℕ} {cs : List ℕ} (e : Extent) (p : ShowsLevel base cells es span above y cs)
    → e ≡ extent_of p.label.payload p.below → Opens base cells es (step.Level span above y) cs (level_opened e span above y)
level_opens {base = base} {cells = cells} {es = es} {span = span} {above = above} {y = y} {cs = cs} e p q =
    subst (λ (x : Extent). Opens base cells es (step.Level span above y) cs (level_opened x span above y)) (sym q)
    (choose_level (level above y b.above (height b)) (level above y b.above (height b)) (λ z. opened 0 Nothing (part_of span.at next z) rest) (opened b.width Nothing None rest) b (level_lines above y (blocks_of p.others)) refl p.lines_are
    (λ z h g. record {
      first = b.line z;
      second = level_lines above y (blocks_of p.others);
      whole = g;
      first_shown = record { label = p.label; below = p.below; listed = span_first p.label p.below p.others next p.listed refl; row_small = omega (arith, level_small above y b.above (height b) z h, small.above, small.below); line_is = refl };
      second_shown = shown;
      lighter = omega (arith, level_if_light next span.end above y, p.listed.end_is);
      fewer = omega (arith, level_if_few next span.end above y, p.listed.end_is);
      ink_is = tt;
    })
    (λ g. record {
      first = [];
      second = level_lines above y (blocks_of p.others);
      whole = g;
      first_shown = refl;
      second_shown = shown;
      lighter = omega (arith, level_if_light next span.end above y, p.listed.end_is);
      fewer = omega (arith, level_if_few next span.end above y, p.listed.end_is);
      ink_is = tt;
    }))
  where
    b : Block
    b = block_of p.label.payload p.below

    next : ℕ
    next = span.at + suc (nodes_in p.below)

    rest : Option Step
    rest = level_if (span.at + suc (nodes_in p.below)) span.end above y

    small : IsSmall (extent_of p.label.payload p.below)
    small = first_small p.label p.below p.others span.at es p.listed.small

    shown : ShowsIf base cells es (level_if (span.at + suc (nodes_in p.below)) span.end above y) (level_lines above y (blocks_of p.others))
    shown = level_if_opens p.others (span.at + suc (nodes_in p.below)) span.end above y (span_rest p.label p.below p.others (span.at + suc (nodes_in p.below)) p.listed refl) p.above_small p.row_small

-- ---- one layout

module _ {base : Forest} {cells : List Visit} {es : List Extent} {span : Span} {y : ℕ} {cs : List ℕ} (p : ShowsPart base cells es span y cs) where
  -- its kind, by the node that stands there
  pub seen_kind : (j : Kind) (d : Visit) → d ≡ get_or cells span.at d → d.kind ≡ j → kind_of_payload p.label.payload ≡ j
  seen_kind j d is k = ap (λ (x : Visit). x.kind) (sym (is ∙ cell_here p.label p.below d p.listed)) ∙ k

  part_over : IsOver p.label.payload p.below (span.at + 1) es
  part_over = is_over p.label p.below p.listed

  below_listed : IsSpanOf base cells es p.below (span_of (span.at + 1) span.end)
  below_listed = span_below p.label p.below p.listed

  -- a row
  pub row_opens : (e : Extent) → kind_of_payload p.label.payload ≡ kind.Row → e ≡ extent_of p.label.payload p.below
      → Opens base cells es (step.Part span y) cs (row_opened e (span_of (span.at + 1) span.end) y)
  row_opens e k q =
      let is : p.label.payload ≡ bare kind.Row = bare_of p.label.payload kind.Row p.listed.small.valid_parts.0 refl k in
      let above : e.above ≡ most_above (blocks_of p.below) = ap (λ (x : Extent). x.above) q ∙ ap (λ (x : Payload). (block_of x p.below).above) is in
      let small = first_small p.label p.below empty span.at es p.listed.small in
      let few : most_above (blocks_of p.below) ≤ 2 ^ 20 = omega (arith, sym above, ap (λ (x : Extent). x.above) q, small.above) in
      record {
        first = [];
        second = level_lines (most_above (blocks_of p.below)) y (blocks_of p.below);
        whole = p.line_is ∙ ap (λ (x : Payload). (block_of x p.below).line y) is;
        first_shown = refl;
        second_shown = subst (λ (n : ℕ). ShowsIf base cells es (level_if (span.at + 1) span.end n y) (level_lines (most_above (blocks_of p.below)) y (blocks_of p.below))) (sym above)
            (level_if_opens p.below (span.at + 1) span.end (most_above (blocks_of p.below)) y below_listed few p.row_small);
        lighter = omega (arith, level_if_light (span.at + 1) span.end e.above y, p.listed.end_is);
        fewer = omega (arith, level_if_few (span.at + 1) span.end e.above y, p.listed.end_is);
        ink_is = tt;
      }

  -- one part
  module _ (j : Kind) (t : IsOneOver j p.label.payload p.below (span.at + 1) es) where
    inner_shown : (z : ℕ) → z ≤ 2 ^ 22 → ShowsPart base cells es (span_of (span.at + 1) span.end) z ((block_of t.label.payload t.below).line z)
    inner_shown z h = record { label = t.label; below = t.below; listed = subst (λ (f : Forest). IsSpanOf base cells es f (span_of (span.at + 1) span.end)) t.part_is below_listed; row_small = h; line_is = refl }

    inner_line : cs ≡ (block_of (bare j) (tree t.label t.below empty)).line y
    inner_line = p.line_is ∙ ap (λ (x : Payload). (block_of x p.below).line y) t.payload_is ∙ ap (λ (f : Forest). (block_of (bare j) f).line y) t.part_is

    inner_nodes : span.end ≡ span.at + suc (suc (nodes_in t.below))
    inner_nodes = omega (arith, p.listed.end_is, ap nodes_in t.part_is)

  pub raised_opens : (e : Extent) (t : IsOneOver kind.Raised p.label.payload p.below (span.at + 1) es) → e ≡ extent_of t.label.payload t.below
      → Opens base cells es (step.Part span y) cs (raised_opened e (span_of (span.at + 1) span.end) y)
  raised_opens e t q =
      let b = block_of t.label.payload t.below in
      subst (λ (x : Extent). Opens base cells es (step.Part span y) cs (raised_opened x (span_of (span.at + 1) span.end) y)) (sym q)
      (choose (nat_lt y (height b)) (opened 0 Nothing (part_of (span.at + 1) span.end y) None) (opened b.width Nothing None None) (b.line y) (blanks b.width) (inner_line kind.Raised t)
      (λ h. record {
        first = b.line y;
        second = [];
        whole = h ∙ sym (append-nil (b.line y));
        first_shown = inner_shown kind.Raised t y p.row_small;
        second_shown = refl;
        lighter = omega (arith, inner_nodes kind.Raised t);
        fewer = omega (arith, inner_nodes kind.Raised t);
        ink_is = tt;
      })
      (λ h. alone b.width Nothing (h ∙ sym (append-nil (blanks b.width))) (omega (arith, inner_nodes kind.Raised t)) tt))

  pub radical_opens : (e : Extent) (t : IsOneOver kind.Radical p.label.payload p.below (span.at + 1) es) → e ≡ extent_of t.label.payload t.below
      → Opens base cells es (step.Part span y) cs (radical_opened e (span_of (span.at + 1) span.end) y)
  radical_opens e t q =
      let b = block_of t.label.payload t.below in
      let inner : (ink : List ℕ) (o : Opened) → cs ≡ ink ++ b.line (y - 1) → blanks o.blanks ++ ink_characters base o.ink ≡ ink → o.first ≡ part_of (span.at + 1) span.end (y - 1)
      → o.second ≡ None → IsInk base o.ink → Opens base cells es (step.Part span y) cs o
      = λ ink o h i f g k. record {
        first = b.line (y - 1);
        second = [];
        whole = h ∙ ap (λ (x : List ℕ). x ++ b.line (y - 1)) (sym i) ∙ append_assoc (blanks o.blanks) (ink_characters base o.ink) (b.line (y - 1))
            ∙ ap (λ (x : List ℕ). blanks o.blanks ++ (ink_characters base o.ink ++ x)) (sym (append-nil (b.line (y - 1))));
        first_shown = subst (λ (x : Option Step). ShowsIf base cells es x (b.line (y - 1))) (sym f) (inner_shown kind.Radical t (y - 1) (omega (arith, p.row_small)));
        second_shown = subst (λ (x : Option Step). ShowsIf base cells es x []) (sym g) refl;
        lighter = omega (arith, inner_nodes kind.Radical t, ap weight_if f, ap weight_if g);
        fewer = omega (arith, inner_nodes kind.Radical t, ap count_if f, ap count_if g);
        ink_is = k;
      } in
      subst (λ (x : Extent). Opens base cells es (step.Part span y) cs (radical_opened x (span_of (span.at + 1) span.end) y)) (sym q)
      (choose (nat_eq y 0) (opened 1 (Roof b.width) None None) (if nat_eq y (b.above + 1) then opened 0 Root (part_of (span.at + 1) span.end (y - 1)) None else opened 1 Nothing (part_of (span.at + 1) span.end (y - 1)) None)
      (32 ∷ roof b.width) ((if nat_eq y (b.above + 1) then root_character else 32) ∷ b.line (y - 1)) (inner_line kind.Radical t)
      (λ h. alone 1 (Roof b.width) h (omega (arith, inner_nodes kind.Radical t)) tt)
      (λ h. choose (nat_eq y (b.above + 1)) (opened 0 Root (part_of (span.at + 1) span.end (y - 1)) None) (opened 1 Nothing (part_of (span.at + 1) span.end (y - 1)) None) (root_character ∷ b.line (y - 1)) (32 ∷ b.line (y - 1))
      (h ∙ head_choice (nat_eq y (b.above + 1)) root_character 32 (b.line (y - 1)))
      (λ g. inner (root_character ∷ []) (opened 0 Root (part_of (span.at + 1) span.end (y - 1)) None) g refl refl refl tt)
      (λ g. inner (32 ∷ []) (opened 1 Nothing (part_of (span.at + 1) span.end (y - 1)) None) g refl refl refl tt)))

  pub paren_opens : (t : IsOneOver kind.Paren p.label.payload p.below (span.at + 1) es) → Opens base cells es (step.Part span y) cs (paren_opened (span_of (span.at + 1) span.end) y)
  paren_opens t = record {
    first = (block_of t.label.payload t.below).line y;
    second = codes ")";
    whole = inner_line kind.Paren t;
    first_shown = inner_shown kind.Paren t y p.row_small;
    second_shown = refl;
    lighter = omega (arith, inner_nodes kind.Paren t);
    fewer = omega (arith, inner_nodes kind.Paren t);
    ink_is = tt;
  }

  -- two parts
  centred_opens : (l : Label) (k : Forest) (at end w z : ℕ) → IsSpanOf base cells es (tree l k empty) (span_of at end) → z ≤ 2 ^ 22 → cs ≡ centred w (block_of l.payload k) z
      → 3 * (end - at) < 3 * (span.end - span.at) - 1 → end - at + 1 ≤ span.end - span.at
      → Opens base cells es (step.Part span y) cs (centred_opened (w - (block_of l.payload k).width) (part_of at end z))
  centred_opens l k at end w z s h e m n = grind arith

  pub fraction_opens : (u v : Extent) (t : IsTwoOver p.label.payload p.below (span.at + 1) es) → u ≡ extent_of t.upper.payload t.above → v ≡ extent_of t.lower.payload t.below
      → Opens base cells es (step.Part span y) cs (fraction_opened u v (span_of (span.at + 1) span.end) y)
  fraction_opens u v t q r =
      let a = block_of t.upper.payload t.above in
      let b = block_of t.lower.payload t.below in
      let w = max a.width b.width in
      let mid = span.at + 1 + suc (nodes_in t.above) in
      let line : cs ≡ (block_of (bare kind.Fraction) (tree t.upper t.above (tree t.lower t.below empty))).line y = p.line_is
      ∙ ap (λ (x : Payload). (block_of x p.below).line y) t.payload_is ∙ ap (λ (f : Forest). (block_of (bare kind.Fraction) f).line y) t.parts_are in
      let both = subst (λ (f : Forest). IsSpanOf base cells es f (span_of (span.at + 1) span.end)) t.parts_are below_listed in
      let ends : span.end ≡ span.at + 1 + suc (nodes_in t.above) + suc (nodes_in t.below) = omega (arith, p.listed.end_is, ap nodes_in t.parts_are) in
      subst (λ (x : Extent). Opens base cells es (step.Part span y) cs (fraction_opened x v (span_of (span.at + 1) span.end) y)) (sym q)
      (subst (λ (x : Extent). Opens base cells es (step.Part span y) cs (fraction_opened (extent_of t.upper.payload t.above) x (span_of (span.at + 1) span.end) y)) (sym r)
      (choose (nat_lt y (height a)) (centred_opened (w - a.width) (part_of (span.at + 1) mid y)) (if nat_eq y (height a) then opened 0 (Bar w) None None else centred_opened (w - b.width) (part_of mid span.end (y - height a - 1)))
      (centred w a y) (if nat_eq y (height a) then bar w else centred w b (y - height a - 1)) line
      (λ h. centred_opens t.upper t.above (span.at + 1) mid w y (span_first t.upper t.above (tree t.lower t.below empty) mid both refl) p.row_small h (omega (arith, ends)) (omega (arith, ends)))
      (λ h. choose (nat_eq y (height a)) (opened 0 (Bar w) None None) (centred_opened (w - b.width) (part_of mid span.end (y - height a - 1))) (bar w) (centred w b (y - height a - 1)) h
      (λ g. alone 0 (Bar w) g (omega (arith, ends)) tt)
      (λ g. centred_opens t.lower t.below mid span.end w (y - height a - 1) (span_rest t.upper t.above (tree t.lower t.below empty) mid both refl) (omega (arith, p.row_small)) g (omega (arith, ends)) (omega (arith, ends))))))

  -- a leaf
  pub leaf_opens : (d : Visit) → d ≡ get_or cells span.at d → has_parts d.kind ≡ false → Opens base cells es (step.Part span y) cs (opened 0 (Leaf d.id) None None)
  leaf_opens d e h =
      let x = p.label.payload in
      let cell = e ∙ cell_here p.label p.below d p.listed in
      let id_is : d.id ≡ p.label.id = ap (λ (c : Visit). c.id) cell in
      let leaf : has_parts (kind_of_payload x) ≡ false = ap (λ (c : Visit). has_parts c.kind) (sym cell) ∙ h in
      let payload : payload_in d.id base ≡ x = ap (λ (n : ℕ). payload_in n base) id_is ∙ p.listed.found.0.1 in
      let over = part_over in
      alone 0 (Leaf d.id) (p.line_is ∙ leaf_line x p.below y over.payload over.composed_node leaf ∙ ap leaf_characters (sym payload)) (omega (arith, p.listed.end_is)) (
        ap (λ (n : ℕ). holds n base) id_is ∙ p.listed.found.0.0,
        subst IsPayload (sym payload) over.payload,
        subst (λ (z : Payload). leaf_characters z ≢ []) (sym payload) (leaf_some x p.below over.payload over.composed_node leaf),
      )

pub blanks_opens : {base : Forest} {cells : List Visit} {es : List Extent} {cs : List ℕ} (n : ℕ) → Shows base cells es (step.Blanks n) cs
    → Opens base cells es (step.Blanks n) cs (opened n Nothing None None)
blanks_opens n h = alone n Nothing (h ∙ sym (append-nil (blanks n))) (omega arith) tt

pub close_opens : {base : Forest} {cells : List Visit} {es : List Extent} {cs : List ℕ} → Shows base cells es step.Close cs → Opens base cells es step.Close cs (opened 0 Close None None)
close_opens h = alone 0 Close h (omega arith) tt
