use Rattle.pool_layouts.proofs.Shared.{◌≡◌, ◌<◌, empty, ◌==◌, ℕ, None, ◌∙◌, ◌++◌, ◌∷◌, [], List, length, ap, sym, arith, rules, length-append, tree_at, forest, keeps_after, Visit, Frame, frame_of}
use Rattle.pool_layouts.proofs.{Shared.{frame_behind, visits_length, layout, plain, vec_len}, UnderWay.{first_inside, started, next, next_inside, next_live, next_seen, next_around, parts_are_few}}
use Rattle.pool_layouts.proofs.UnderWay.{entered, closing, close_live, close_few, close_begin, close_leaf, closed_all, closed_room, closed_one, close_stopped, mark_stopped, front_kept, none_left}
use Rattle.pool_layouts.proofs.{UnderWay.{some_left, IsTop, IsNext}, laying.lay.Goals.{In-Some}}
use Rattle.pool_layouts.proofs.laying.lay.Goals as goal

empty_as : (fs : List Frame) (n : ℕ) → length fs ≡ n → (length fs == 0) ≡ (n == 0)
empty_as fs n e = ap (λ m. m == 0) e

pub bounds-cells-0 : goal.bounds-cells-0
bounds-cells-0 c = first_inside c.args.face c.args.pool.now c.args.cells.now c.requires.expression c.requires.cells

pub append-requires : goal.append-requires
append-requires c =
    let inside = first_inside c.args.face c.args.pool.now c.args.cells.now c.requires.expression c.requires.cells in
    omega (arith, inside, ap length c.requires.cells, visits_length (tree_at c.args.face (forest c.args.pool.now)), c.requires.room, c.clear.ensures.capacity, ap length c.clear.ensures.items)

pub loop-frame-init : goal.loop-frame-init
loop-frame-init c = record {
  under_way = started c.args.pool.now c.args.face c.args.cells.now c.append.new.list.items c.index-cells-0.result c.used.result c.requires.stands c.requires.expression c.requires.cells c.used.ensures.value
      (c.append.ensures.items ∙ ap (λ (xs : List Frame). xs ++ c.of.result ∷ []) c.clear.ensures.items ∙ ap (λ (f : Frame). f ∷ []) c.of.ensures ∙ ap (λ (x : Visit). frame_of x None c.used.result ∷ []) c.index-cells-0.is);
  capacity = omega (arith, c.clear.ensures.capacity, c.append.ensures.capacity);
}

-- the node that was taken from the list: its next child, or what closing it wants
child : (c : In-Some) → 0 < c.in-Some.frame.left
    → IsNext (layout (plain (tree_at c.args.face (forest c.args.pool.now)))) c.args.pool.now c.loop-frame.pool c.loop-frame.at c.args.cells.now c.pop.new.self.items c.in-Some.frame
child c some = next c.pop.new.self.items c.in-Some.frame c.loop-frame.invariant.under_way c.in-Some.ensures.items some

last : (c : In-Some) → c.in-Some.frame.left ≡ 0
    → IsTop (layout (plain (tree_at c.args.face (forest c.args.pool.now)))) c.args.pool.now c.loop-frame.pool c.loop-frame.at c.args.cells.now c.pop.new.self.items c.in-Some.frame empty
last c z = closing c.pop.new.self.items c.in-Some.frame c.loop-frame.invariant.under_way c.in-Some.ensures.items z

pub returns-in_err-marks-clause-front : goal.returns-in_err-marks-clause-front
returns-in_err-marks-clause-front c =
    let n = child (goal.at.returns-in_err-marks-clause-front c).In-Some c.if-frame-gt0.true in
    (mark_stopped c.place_mark.new.pool c.in_err-marks.field-0.0 n c.in_err-marks.ensures.full).front

pub returns-in_err-marks-clause-full : goal.returns-in_err-marks-clause-full
returns-in_err-marks-clause-full c =
    let n = child (goal.at.returns-in_err-marks-clause-full c).In-Some c.if-frame-gt0.true in
    let h = (mark_stopped c.place_mark.new.pool c.in_err-marks.field-0.0 n c.in_err-marks.ensures.full).full_is in
    search (rules, h)

pub deciding_kind-deciding-requires : goal.deciding_kind-deciding-requires
deciding_kind-deciding-requires c =
    let n = child (goal.at.deciding_kind-deciding-requires c).In-Some c.if-frame-gt0.true in
    record {
      stands = c.loop-frame.invariant.under_way.state.stands;
      live = next_live n c.index-cells-at.result c.index-cells-at.is;
      node = next_seen n c.index-cells-at.result c.index-cells-at.is;
    }

pub behind-requires-clause-few : goal.behind-requires-clause-few
behind-requires-clause-few c = omega (arith, parts_are_few (child (goal.at.behind-requires-clause-few c).In-Some c.if-frame-gt0.true).node, c.in_ok-marks.ensures.ok.few)

pub append-requires-then-frame-gt0 : goal.append-requires-then-frame-gt0
append-requires-then-frame-gt0 c =
    let n = child (goal.at.append-requires-then-frame-gt0 c).In-Some c.if-frame-gt0.true in
    omega (arith, next_inside n, n.node.state.short, ap length n.node.popped_is, ap length c.requires.cells, visits_length (tree_at c.args.face (forest c.args.pool.now)), c.requires.room, c.loop-frame.invariant.capacity, c.pop.ensures.capacity)

pub offset_bounds-cells-at : goal.offset_bounds-cells-at
offset_bounds-cells-at c =
    let n = child (goal.at.offset_bounds-cells-at c).In-Some c.if-frame-gt0.true in
    record { fits = omega (arith, next_inside n, ap length c.requires.cells, visits_length (tree_at c.args.face (forest c.args.pool.now)), c.requires.few) }

pub bounds-cells-at : goal.bounds-cells-at
bounds-cells-at c = next_inside (child (goal.at.bounds-cells-at c).In-Some c.if-frame-gt0.true)

pub append-requires-then-frame-gt0-2 : goal.append-requires-then-frame-gt0-2
append-requires-then-frame-gt0-2 c =
    let n = child (goal.at.append-requires-then-frame-gt0-2 c).In-Some c.if-frame-gt0.true in
    omega (arith, next_inside n, n.node.state.short, ap length n.node.popped_is, c.append-then-frame-gt0.ensures.len, c.append-then-frame-gt0.ensures.capacity, ap length c.requires.cells, visits_length (tree_at c.args.face (forest c.args.pool.now)), c.requires.room, c.loop-frame.invariant.capacity, c.pop.ensures.capacity)

pub overflow_add-at : goal.overflow_add-at
overflow_add-at c =
    let n = child (goal.at.overflow_add-at c).In-Some c.if-frame-gt0.true in
    record { fits = omega (arith, next_inside n, ap length c.requires.cells, visits_length (tree_at c.args.face (forest c.args.pool.now)), c.requires.few) }

pub loop-frame-smaller-then-frame-gt0 : goal.loop-frame-smaller-then-frame-gt0
loop-frame-smaller-then-frame-gt0 c =
    let n = child (goal.at.loop-frame-smaller-then-frame-gt0 c).In-Some c.if-frame-gt0.true in
    omega (arith, next_inside n, c.append-then-frame-gt0.ensures.len, c.append-then-frame-gt0-2.ensures.len, ap length c.in-Some.ensures.items, length-append c.pop.new.self.items (c.in-Some.frame ∷ []))

pub loop-frame-preserved-then-frame-gt0 : goal.loop-frame-preserved-then-frame-gt0
loop-frame-preserved-then-frame-gt0 c =
    let n = child (goal.at.loop-frame-preserved-then-frame-gt0 c).In-Some c.if-frame-gt0.true in
    let popped = c.pop.new.self.items in
    record {
      under_way = entered c.place_mark.new.pool c.in_ok-marks.marks c.around-around.result c.used-then-frame-gt0.result c.index-cells-at.result c.append-then-frame-gt0-2.new.list.items n c.in_ok-marks.ensures.ok c.in_ok-marks.ensures.kept c.in_ok-marks.ensures.room c.place_mark.ensures.stands
          (next_around n c.index-cells-at.result c.index-cells-at.is c.deciding_kind-deciding.result c.around-around.result c.deciding_kind-deciding.ensures c.around-around.ensures) c.used-then-frame-gt0.ensures.value
          (c.append-then-frame-gt0-2.ensures.items ∙ ap (λ (xs : List Frame). xs ++ c.of-then-frame-gt0.result ∷ []) c.append-then-frame-gt0.ensures.items
          ∙ ap (λ (f : Frame). (popped ++ f ∷ []) ++ c.of-then-frame-gt0.result ∷ []) c.behind.ensures
          ∙ ap (λ (f : Frame). (popped ++ frame_behind c.in-Some.frame c.in_ok-marks.marks ∷ []) ++ f ∷ []) c.of-then-frame-gt0.ensures
          ∙ ap (λ (x : Visit). (popped ++ frame_behind c.in-Some.frame c.in_ok-marks.marks ∷ []) ++ frame_of x c.around-around.result c.used-then-frame-gt0.result ∷ []) c.index-cells-at.is);
      capacity = omega (arith, c.loop-frame.invariant.capacity, c.pop.ensures.capacity, c.append-then-frame-gt0.ensures.capacity, c.append-then-frame-gt0-2.ensures.capacity);
    }

pub close-requires : goal.close-requires
close-requires c =
    record {
      live = close_live (last (goal.at.close-requires c).In-Some (omega (arith, c.if-frame-gt0.false)));
      few = close_few (last (goal.at.close-requires c).In-Some (omega (arith, c.if-frame-gt0.false)));
      begin = close_begin (last (goal.at.close-requires c).In-Some (omega (arith, c.if-frame-gt0.false)));
      leaf = close_leaf (last (goal.at.close-requires c).In-Some (omega (arith, c.if-frame-gt0.false)));
      wraps = (last (goal.at.close-requires c).In-Some (omega (arith, c.if-frame-gt0.false))).state.innermost.around;
      stands = search rules;
    }

pub returns-in_err-last-clause-front : goal.returns-in_err-last-clause-front
returns-in_err-last-clause-front c =
    let k = last (goal.at.returns-in_err-last-clause-front c).In-Some (omega (arith, c.if-frame-gt0.false)) in
    (close_stopped k c.close.new.pool c.in_err-last.field-0.0 c.in_err-last.ensures.full).front

pub returns-in_err-last-clause-full : goal.returns-in_err-last-clause-full
returns-in_err-last-clause-full c =
    let k = last (goal.at.returns-in_err-last-clause-full c).In-Some (omega (arith, c.if-frame-gt0.false)) in
    let h = (close_stopped k c.close.new.pool c.in_err-last.field-0.0 c.in_err-last.ensures.full).full_is in
    search (rules, h)

pub returns-then-is_empty : goal.returns-then-is_empty
returns-then-is_empty c =
    let k = last (goal.at.returns-then-is_empty c).In-Some (omega (arith, c.if-frame-gt0.false)) in
    let popped = c.pop.new.self.items in
    let none = none_left popped (empty_as popped (vec_len c.pop.new.self) (omega (arith, c.pop.new.self.ok.0)) ∙ sym c.is_empty.ensures ∙ c.if-is_empty.true) in
    let given = closed_all k c.close.new.pool c.in_ok-last.last none c.in_ok-last.ensures.ok in
    record {
      ok = given;
      front = front_kept given;
      kept = keeps_after c.args.pool.now c.loop-frame.pool c.close.new.pool c.loop-frame.invariant.under_way.state.keeps c.in_ok-last.ensures.kept;
      room = closed_room k c.close.new.pool none c.in_ok-last.ensures.room;
      full = tt;
      refuses = tt;
      caused = tt;
      stands = search rules;
      capacity = search rules;
    }

pub loop-frame-preserved : goal.loop-frame-preserved
loop-frame-preserved c =
    let k = last (goal.at.loop-frame-preserved c).In-Some (omega (arith, c.if-frame-gt0.false)) in
    record {
      under_way = closed_one k c.close.new.pool c.in_ok-last.last
          (some_left c.pop.new.self.items (empty_as c.pop.new.self.items (vec_len c.pop.new.self) (omega (arith, c.pop.new.self.ok.0)) ∙ sym c.is_empty.ensures ∙ c.if-is_empty.false)) c.in_ok-last.ensures.ok c.in_ok-last.ensures.kept c.in_ok-last.ensures.room c.close.ensures.stands;
      capacity = omega (arith, c.loop-frame.invariant.capacity, c.pop.ensures.capacity);
    }
