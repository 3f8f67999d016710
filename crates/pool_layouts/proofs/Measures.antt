-- The extents of layouts: what they are for each kind of node, and that they are small.
use Rattle.pool_layouts.proofs.Shared.{bytes_nodes, ◌≡◌, ◌∙◌, ℕ, suc, ◌+◌, ◌*◌, ◌<◌, ◌≤◌, ◌≢◌, max, List, [], ◌∷◌, ◌++◌, length, drop, get_or, nat_abs, nat_eq, true, refl, sym, ap, arith}
use Rattle.pool_layouts.proofs.Shared.{append_assoc, eqb-true, length-append, drop-drop, drop_at, Kind, Payload, rational, named, bare, is_bare, kind_of_payload, size_of_payload, IsPayload}
use Rattle.pool_layouts.proofs.Shared.{begins_with_letter, spelled, decimal_is, decimal, numerator_is, size_from, Label, Forest, empty, tree, join, arity, bytes_in, nodes_in, Extent}
use Rattle.pool_layouts.proofs.Shared.{composed, drawn, drawings, composes, composes_kind, AllComposed, extent_from, extent_of, extents_of, HasSmall, HasPair, IsOver, IsSmall, AllValid, leaf_width}
use Rattle.pool_layouts.proofs.Shared.{Layout, nothing, beside, leaf_characters, Block, height, picture, pictures, widths, most_above, most_below, side_by_side, lowest, ℤ, Bool, false, Ratio, IsRat}
use Rattle.pool_layouts.proofs.{Shared.{number_text}, Shown.{inside_list, first_is}, Lines.{signs, all_signs}}
use Rattle.calc_terms.specs.declared.kind.Kind.TheVariants as kind

-- ---- blocks of the parts of a forest

abbrev pub blocks_of : Forest → List Block
blocks_of f = pictures (drawings f)

abbrev pub block_of : Payload → Forest → Block
block_of x k = picture (drawn x (drawings k))

-- the rows of all blocks
abbrev pub heights : List Block → ℕ
heights [] = 0
heights (b ∷ bs) = height b + heights bs

pub most_heights : (bs : List Block) → most_above bs + most_below bs ≤ heights bs
most_heights [] = omega arith
most_heights (b ∷ bs) = omega (arith, most_heights bs)

-- ---- how large a picture is: its rows, and the bytes of each

pub record IsBounded (l : Layout) (nodes bytes : ℕ) : Type 0 where
  pub width : (picture l).width + 2 * signs l ≤ 2 * bytes
  pub rows : height (picture l) ≤ suc nodes

fraction_bounded : (k : Forest) → nat_eq (arity k) 2 ≡ true → widths (blocks_of k) + 2 * all_signs (drawings k) ≤ 2 * bytes_in k → heights (blocks_of k) ≤ nodes_in k
    → IsBounded (composed kind.Fraction (drawings k)) (nodes_in k) (size_of_payload (bare kind.Fraction) + bytes_in k)
fraction_bounded (tree l a (tree m b empty)) h w n = record { width = omega (arith, w); rows = omega (arith, n) }
fraction_bounded k h w n = absurd (omega (arith, eqb-true (arity k) 2 h))

one_bounded : (j : Kind) (k : Forest) (size : ℕ) → nat_eq (arity k) 1 ≡ true → widths (blocks_of k) + 2 * all_signs (drawings k) ≤ 2 * bytes_in k → heights (blocks_of k) ≤ nodes_in k
    → ((l : Layout) → (picture l).width + 2 * signs l ≤ 2 * bytes_in k → height (picture l) ≤ nodes_in k → IsBounded (composed j (beside l nothing)) (nodes_in k) (size + bytes_in k))
    → IsBounded (composed j (drawings k)) (nodes_in k) (size + bytes_in k)
one_bounded j (tree l a empty) size h w n e = e (drawn l.payload (drawings a)) (omega (arith, w)) (omega (arith, n))
one_bounded j k size h w n e = absurd (omega (arith, eqb-true (arity k) 1 h))

composed_bounded : (j : Kind) (k : Forest) → composes_kind j (arity k) ≡ true → widths (blocks_of k) + 2 * all_signs (drawings k) ≤ 2 * bytes_in k → heights (blocks_of k) ≤ nodes_in k
    → IsBounded (composed j (drawings k)) (nodes_in k) (size_of_payload (bare j) + bytes_in k)
composed_bounded kind.Row k h w n = record { width = omega (arith, w); rows = omega (arith, n, most_heights (blocks_of k)) }
composed_bounded kind.Fraction k h w n = fraction_bounded k h w n
composed_bounded kind.Raised k h w n = one_bounded kind.Raised k _ h w n (λ l a b. record { width = omega (arith, a); rows = omega (arith, b) })
composed_bounded kind.Radical k h w n = one_bounded kind.Radical k _ h w n (λ l a b. record { width = omega (arith, a); rows = omega (arith, b) })
composed_bounded kind.Paren k h w n = one_bounded kind.Paren k _ h w n (λ l a b. record { width = omega (arith, a); rows = omega (arith, b) })
composed_bounded j k h w n = grind arith

-- the digits of a number, and its node
pub digits_fit : (r : Ratio) → IsRat r → length (decimal (nat_abs (lowest r.num r.den).num)) ≤ 2 * size_of_payload (rational r)
digits_fit r p = grind (arith, numerator_is, number_text)

pub drawn_bounded : (x : Payload) (k : Forest) → composes x (arity k) ≡ true → IsPayload x → widths (blocks_of k) + 2 * all_signs (drawings k) ≤ 2 * bytes_in k → heights (blocks_of k) ≤ nodes_in k
    → IsBounded (drawn x (drawings k)) (nodes_in k) (size_of_payload x + bytes_in k)
drawn_bounded x k h p w n = grind (arith, digits_fit, composed_bounded)

pub record AreBounded (f : Forest) : Type 0 where
  pub widths_are : widths (blocks_of f) + 2 * all_signs (drawings f) ≤ 2 * bytes_in f
  pub heights_are : heights (blocks_of f) ≤ nodes_in f

pub bounded : (f : Forest) → AllComposed f → AllValid f → AreBounded f
bounded empty c v = record { widths_are = omega arith; heights_are = omega arith }
bounded (tree l k r) c v =
    let a = bounded k c.1 v.1 in
    let b = drawn_bounded l.payload k c.0 v.0 a.widths_are a.heights_are in
    let d = bounded r c.2 v.2 in
    record { widths_are = omega (arith, b.width, d.widths_are); heights_are = omega (arith, b.rows, d.heights_are) }

-- the first of small extents is small
pub small_first : (l : Label) (k r : Forest) → AllComposed (tree l k r) → AllValid (tree l k r) → bytes_in (tree l k r) ≤ 524280 → IsSmall (extent_of l.payload k)
small_first l k r c v h = grind (arith, bounded, drawn_bounded, bytes_nodes, size_from)

-- ---- reading the list

pub extents_length : (f : Forest) → length (extents_of f) ≡ nodes_in f
extents_length empty = refl
extents_length (tree l k r) = omega (arith, length-append (extents_of k) (extents_of r), extents_length k, extents_length r)

pub extents-join : (f g : Forest) → extents_of (join f g) ≡ extents_of f ++ extents_of g
extents-join empty g = refl
extents-join (tree l k r) g = ap (λ (x : List Extent). extent_of l.payload k ∷ x)
    (ap (λ (x : List Extent). extents_of k ++ x) (extents-join r g) ∙ sym (append_assoc (extents_of k) (extents_of r) (extents_of g)))

-- behind the first tree stand the others
pub behind_first : (l : Label) (k r : Forest) (first : ℕ) (es : List Extent) → HasSmall (tree l k r) first es → HasSmall r (first + suc (nodes_in k)) es
behind_first l k r first es h = record {
  behind = h.behind;
  extents_are = sym (drop-drop (suc (nodes_in k)) first es)
      ∙ ap (drop (suc (nodes_in k))) (h.extents_are ∙ ap (λ (x : List Extent). extent_of l.payload k ∷ x) (append_assoc (extents_of k) (extents_of r) h.behind))
      ∙ drop_at (extent_of l.payload k ∷ extents_of k) (extents_of r ++ h.behind) (suc (nodes_in k)) (ap suc (extents_length k));
  composed_parts = h.composed_parts.2;
  valid_parts = h.valid_parts.2;
  few = omega (arith, h.few);
}

-- ---- what the first extents are

pub first_read : (l : Label) (k r : Forest) (first : ℕ) (es : List Extent) (d : Extent) → HasSmall (tree l k r) first es → get_or es first d ≡ extent_of l.payload k
first_read l k r first es d h = first_is es ((extents_of k ++ extents_of r) ++ h.behind) first (extent_of l.payload k) d h.extents_are

pub first_within : (l : Label) (k r : Forest) (first : ℕ) (es : List Extent) → HasSmall (tree l k r) first es → first < length es
first_within l k r first es h = inside_list es ((extents_of k ++ extents_of r) ++ h.behind) first (extent_of l.payload k) h.extents_are

pub first_small : (l : Label) (k r : Forest) (first : ℕ) (es : List Extent) → HasSmall (tree l k r) first es → IsSmall (extent_of l.payload k)
first_small l k r first es h = small_first l k r h.composed_parts h.valid_parts h.few

-- ---- a node by its kind

pub extent_same : (n m w v a b d e : ℕ) → n ≡ m → w ≡ v → a ≡ b → d ≡ e
    → (let r : Extent = record { nodes = n; width = w; above = a; below = d } in r) ≡ (let s : Extent = record { nodes = m; width = v; above = b; below = e } in s)
extent_same n m w v a b d e p q r s = grind arith

pub bare_of : (x : Payload) (j : Kind) → IsPayload x → is_bare j ≡ true → kind_of_payload x ≡ j → x ≡ bare j
bare_of x j p b e = grind arith

-- the kinds of nodes that have parts
abbrev pub has_parts : Kind → Bool
has_parts kind.Row = true
has_parts kind.Fraction = true
has_parts kind.Raised = true
has_parts kind.Radical = true
has_parts kind.Paren = true
has_parts k = false

pub no_parts : (k : Kind) → (k ≡ kind.Row → ⊥) → (k ≡ kind.Fraction → ⊥) → (k ≡ kind.Raised → ⊥) → (k ≡ kind.Radical → ⊥) → (k ≡ kind.Paren → ⊥) → has_parts k ≡ false
no_parts k a b c d e = grind arith

pub leaf_extent : (x : Payload) (k : Forest) → IsPayload x → composes x (arity k) ≡ true → has_parts (kind_of_payload x) ≡ false
    → (let r : Extent = record { nodes = 1; width = leaf_width x; above = 0; below = 0 } in r) ≡ extent_of x k
leaf_extent (rational r) empty p c h = extent_same 1 1 _ _ 0 0 0 0 refl (ap (λ (z : ℤ). length (decimal (nat_abs z))) (sym (numerator_is r p))) refl refl
leaf_extent (named y) empty p c h = refl
leaf_extent (bare kind.Plus) empty p c h = refl
leaf_extent (bare kind.Minus) empty p c h = refl
leaf_extent (bare kind.Times) empty p c h = refl
leaf_extent x k p c h = absurd (grind (arith, eqb-true))

-- ---- a node over one part, and over two

pub record IsOneOver (j : Kind) (x : Payload) (k : Forest) (first : ℕ) (es : List Extent) : Type 0 where
  pub label : Label
  pub below : Forest
  pub part_is : k ≡ tree label below empty
  pub payload_is : x ≡ bare j
  pub small : HasSmall (tree label below empty) first es

pub over_one : {x : Payload} {k : Forest} {first : ℕ} {es : List Extent} (j : Kind) → ((n : ℕ) → composes_kind j n ≡ nat_eq n 1) → is_bare j ≡ true → IsOver x k first es
    → kind_of_payload x ≡ j → IsOneOver j x k first es
over_one {x = x} {k = k} {first = first} {es = es} j n b o e =
    let is : x ≡ bare j = bare_of x j o.payload b e in
    by k o.small (sym (n (arity k)) ∙ ap (λ (y : Payload). composes y (arity k)) (sym is) ∙ o.composed_node) is
  where
    by : (f : Forest) → HasSmall f first es → nat_eq (arity f) 1 ≡ true → x ≡ bare j → IsOneOver j x f first es
    by (tree l a empty) s h is = record { label = l; below = a; part_is = refl; payload_is = is; small = s }
    by f s h is = absurd (omega (arith, eqb-true (arity f) 1 h))

pub record IsTwoOver (x : Payload) (k : Forest) (first : ℕ) (es : List Extent) : Type 0 where
  pub upper : Label
  pub above : Forest
  pub lower : Label
  pub below : Forest
  pub parts_are : k ≡ tree upper above (tree lower below empty)
  pub payload_is : x ≡ bare kind.Fraction
  pub small : HasSmall (tree upper above (tree lower below empty)) first es

pub over_two : {x : Payload} {k : Forest} {first : ℕ} {es : List Extent} → IsOver x k first es → kind_of_payload x ≡ kind.Fraction → IsTwoOver x k first es
over_two {x = x} {k = k} {first = first} {es = es} o e =
    let is : x ≡ bare kind.Fraction = bare_of x kind.Fraction o.payload refl e in
    by k o.small (ap (λ (y : Payload). composes y (arity k)) (sym is) ∙ o.composed_node) is
  where
    by : (f : Forest) → HasSmall f first es → nat_eq (arity f) 2 ≡ true → x ≡ bare kind.Fraction → IsTwoOver x f first es
    by (tree l a (tree m b empty)) s h is = record { upper = l; above = a; lower = m; below = b; parts_are = refl; payload_is = is; small = s }
    by f s h is = absurd (omega (arith, eqb-true (arity f) 2 h))

pub pair_over : {x : Payload} {k : Forest} {first : ℕ} {es : List Extent} (t : IsTwoOver x k first es) → HasPair t.lower t.below first es
pair_over t = record { upper = t.upper; above = t.above; others = empty; small = t.small }

-- the extents of nodes over their parts
pub one_extent : {j : Kind} {x : Payload} {k : Forest} {first : ℕ} {es : List Extent} (o : IsOneOver j x k first es) → extent_of (bare j) (tree o.label o.below empty) ≡ extent_of x k
one_extent {x = x} o = ap (λ (y : Payload). extent_of y (tree o.label o.below empty)) (sym o.payload_is) ∙ ap (extent_of x) (sym o.part_is)

pub two_extent : {x : Payload} {k : Forest} {first : ℕ} {es : List Extent} (t : IsTwoOver x k first es)
    → extent_of (bare kind.Fraction) (tree t.upper t.above (tree t.lower t.below empty)) ≡ extent_of x k
two_extent {x = x} t = ap (λ (y : Payload). extent_of y (tree t.upper t.above (tree t.lower t.below empty))) (sym t.payload_is) ∙ ap (extent_of x) (sym t.parts_are)

pub raised_is : (l : Label) (b : Forest) (e new : Extent) → e ≡ extent_of l.payload b
    → new ≡ (record { nodes = 1 + e.nodes; width = e.width; above = e.above + 1 + e.below; below = 0 }) → new ≡ extent_of (bare kind.Raised) (tree l b empty)
raised_is l b e new h g = grind arith

pub radical_is : (l : Label) (b : Forest) (e new : Extent) → e ≡ extent_of l.payload b
    → new ≡ (record { nodes = 1 + e.nodes; width = 1 + e.width; above = e.above + 1; below = e.below }) → new ≡ extent_of (bare kind.Radical) (tree l b empty)
radical_is l b e new h g = grind arith

pub paren_is : (l : Label) (b : Forest) (e new : Extent) → e ≡ extent_of l.payload b → new ≡ (record { nodes = 1 + e.nodes; width = e.width + 2; above = e.above; below = e.below })
    → new ≡ extent_of (bare kind.Paren) (tree l b empty)
paren_is l b e new h g = grind arith

pub fraction_is : (l : Label) (a : Forest) (m : Label) (b : Forest) (d e new : Extent) → d ≡ extent_of l.payload a → e ≡ extent_of m.payload b
    → new ≡ (record { nodes = 1 + d.nodes + e.nodes; width = max d.width e.width; above = d.above + 1 + d.below; below = e.above + 1 + e.below })
    → new ≡ extent_of (bare kind.Fraction) (tree l a (tree m b empty))
fraction_is l a m b d e new h i g = grind arith

pub row_is : (x : Payload) (k : Forest) → IsPayload x → kind_of_payload x ≡ kind.Row → extent_from (1 + nodes_in k) (side_by_side (pictures (drawings k))) ≡ extent_of x k
row_is x k p e = extent_same _ _ _ _ _ _ _ _ (omega arith) refl refl refl ∙ ap (λ (y : Payload). extent_of y k) (sym (bare_of x kind.Row p refl e))

-- ---- the line of a leaf

pub leaf_line : (x : Payload) (k : Forest) (y : ℕ) → IsPayload x → composes x (arity k) ≡ true → has_parts (kind_of_payload x) ≡ false → (block_of x k).line y ≡ leaf_characters x
leaf_line x k y p c h = grind (arith, numerator_is)

some_list : (xs : List ℕ) → 0 < length xs → xs ≢ []
some_list xs h e = grind arith

name_some : (x : List ℕ) → begins_with_letter x ≡ true → x ≢ []
name_some x h e = grind arith

pub leaf_some : (x : Payload) (k : Forest) → IsPayload x → composes x (arity k) ≡ true → has_parts (kind_of_payload x) ≡ false → leaf_characters x ≢ []
leaf_some (rational r) k p c h = some_list (decimal (nat_abs r.num)) (decimal_is (nat_abs r.num)).some
leaf_some (named x) k p c h = name_some x (spelled x p).begins
leaf_some (bare j) k p c h = grind arith
