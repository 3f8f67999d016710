-- A row of the picture of a layout tree.
use Rattle.pool_layouts.proofs.Shared.{◌≡◌, ◌∙◌, ℕ, zero, suc, ◌+◌, ◌*◌, ◌<◌, ◌≤◌, List, [], ◌∷◌, length, encode_utf8_all, sym, ap, subst, arith, append-nil, Kind, Payload}
use Rattle.pool_layouts.proofs.Shared.{IsPayload, Content, spare_of, State, Forest, empty, tree, nodes_in, bytes_in, AllNodes, tree_at, Stands, forest, one_at, Visit}
use Rattle.pool_layouts.proofs.Shared.{Extent, Step, visits_of, drawn, drawing, drawings, composed, part, IsLayout, Layouts, nothing, beside, AllValid}
use Rattle.pool_layouts.proofs.{Shared.{IsFound, IsLine, span_of, picture, height, widths, visits_length, valid}, Measures.{blocks_of, drawn_bounded, bounded, first_small}}
use Rattle.pool_layouts.proofs.{Measuring.{IsMeasured, alone}, Characters.{decimal_plain, names_plain}, Shown.known, Lines.{lines_long, lines_bytes, signs, all_signs, HasPlainLeaves, HavePlainLeaves}}
use Rattle.pool_layouts.specs.declared.steps.Step.TheVariants as step

pub row_line : (s : State) (i : ℕ) (cells : List Visit) (es : List Extent) (steps : List Step) (end y : ℕ) → Stands s → IsLayout i (forest s)
    → cells ≡ visits_of (tree_at i (forest s)) → (m : IsMeasured s i es) → end ≡ suc (nodes_in m.below) → y < height (picture (drawing (tree_at i (forest s))))
    → steps ≡ step.Part (span_of 0 end) y ∷ [] → IsLine (forest s) cells es steps ((picture (drawing (tree_at i (forest s)))).line y)
row_line s i cells es steps end y st x e m q h f =
    let t = tree m.label m.below empty in
    let is = m.tree_is in
    let all : cells ≡ visits_of t = e ∙ ap visits_of is in
    let a = bounded m.below m.small.composed_parts.1 m.small.valid_parts.1 in
    let b = drawn_bounded m.label.payload m.below m.small.composed_parts.0 m.small.valid_parts.0 a.widths_are a.heights_are in
    let small = first_small m.label m.below empty 0 es m.small in
    record {
      only = step.Part (span_of 0 end) y;
      steps_are = f;
      shown = record {
        label = m.label;
        below = m.below;
        listed = record {
          small = m.small;
          cells_behind = [];
          cells_are = all ∙ sym (append-nil (visits_of t));
          found = subst (AllNodes (IsFound (forest s))) is (known s i st);
          end_is = omega (arith, q);
        };
        row_small = omega (arith, h, ap (λ (g : Forest). height (picture (drawing g))) is, small.above, small.below);
        line_is = ap (λ (g : Forest). (picture (drawing g)).line y) is;
      };
      fits = omega (arith, q, ap length all, visits_length t);
      short = omega (arith, lines_long (drawing (tree_at i (forest s))) y, ap (λ (g : Forest). (picture (drawing g)).width) is, b.width, m.small.few);
    }

-- ---- its bytes

part_leaves : (n : ℕ) (ls : Layouts) → HavePlainLeaves ls → HasPlainLeaves (part n ls)
part_leaves n nothing h = tt
part_leaves zero (beside l ls) h = h.0
part_leaves (suc n) (beside l ls) h = part_leaves n ls h.1

composed_leaves : (j : Kind) (ls : Layouts) → HavePlainLeaves ls → HasPlainLeaves (composed j ls)
composed_leaves j ls h = grind arith

drawn_leaves : (x : Payload) (ls : Layouts) → IsPayload x → HavePlainLeaves ls → HasPlainLeaves (drawn x ls)
drawn_leaves x ls p h = grind (arith, decimal_plain, names_plain, composed_leaves)

drawn_plain : (f : Forest) → AllValid f → HavePlainLeaves (drawings f)
drawn_plain empty v = tt
drawn_plain (tree l k r) v = (drawn_leaves l.payload (drawings k) v.0 (drawn_plain k v.1), drawn_plain r v.2)

pub row_room : (s : State) (i y : ℕ) (text : Content) → Stands s → IsLayout i (forest s) → 2 * bytes_in (tree_at i (forest s)) ≤ spare_of text
    → length (encode_utf8_all ((picture (drawing (tree_at i (forest s)))).line y)) ≤ spare_of text
row_room s i y text st x room =
    let t = tree_at i (forest s) in
    let v = valid s i st x.live in
    let (l, k, is) = alone t (one_at i (forest s) x.live) in
    omega (
      arith,
      room,
      (bounded t x.composed_whole v).widths_are,
      ap (λ (f : Forest). widths (blocks_of f) + 2 * all_signs (drawings f)) is,
      ap (λ (f : Forest). (picture (drawing f)).width + 2 * signs (drawing f)) is,
      lines_bytes (drawing t) (part_leaves 0 (drawings t) (drawn_plain t v)) y,
    )
