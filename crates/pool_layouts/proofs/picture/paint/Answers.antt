use Rattle.pool_layouts.proofs.Shared.{rules, ◌∙◌, ◌++◌, ℕ, List, length, encode_utf8_all, ap, refl, sym, subst, arith, option_to_list, length-append, Content, extended, forest, Step, cut, content_is}
use Rattle.pool_layouts.proofs.Painted.{IsPainting, painting_start, due, due_room, stepped, lighter_steps, painted, option_short}
use Rattle.pool_layouts.proofs.picture.paint.Goals as goal

pub loop-step-init : goal.loop-step-init
loop-step-init c = record { painting = λ line h. painting_start c.args.text.now.bytes h; capacity = refl; deep = omega arith }

pub open_step-opened-requires-clause-shown : goal.open_step-opened-requires-clause-shown
open_step-opened-requires-clause-shown c =
    let (line, h, room) = c.requires.painting in
    let d = due c.in-Some.step c.pop.new.self.items (c.loop-step.invariant.painting line h) c.in-Some.ensures.items in
    (forest c.args.pool.now, (d.cs, d.state.each.0))

pub overflow_add-blanks : goal.overflow_add-blanks
overflow_add-blanks c =
    let (line, h, room) = c.requires.painting in
    let d = due c.in-Some.step c.pop.new.self.items (c.loop-step.invariant.painting line h) c.in-Some.ensures.items in
    let s = stepped d (c.open_step-opened.ensures (forest c.args.pool.now) d.cs d.state.each.0) in
    record { fits = omega (arith, s.blanks_few, h.short) }

pub paint_ink-blanks-requires : goal.paint_ink-blanks-requires
paint_ink-blanks-requires c =
    let (line, h, room) = c.requires.painting in
    let d = due c.in-Some.step c.pop.new.self.items (c.loop-step.invariant.painting line h) c.in-Some.ensures.items in
    let s = stepped d (c.open_step-opened.ensures (forest c.args.pool.now) d.cs d.state.each.0) in
    record {
      ink = (c.open_step-opened.ensures (forest c.args.pool.now) d.cs d.state.each.0).ink_is;
      room = omega (arith, s.bytes_few, s.start_few, room, c.loop-step.invariant.capacity);
      stands = search rules;
    }

pub push_if-requires : goal.push_if-requires
push_if-requires c =
    let (line, h, room) = c.requires.painting in
    let d = due c.in-Some.step c.pop.new.self.items (c.loop-step.invariant.painting line h) c.in-Some.ensures.items in
    let first = due_room d in
    omega (arith, first, c.requires.deep, c.loop-step.invariant.deep, c.pop.ensures.capacity)

pub push_if-requires-in-Some : goal.push_if-requires-in-Some
push_if-requires-in-Some c =
    let (line, h, room) = c.requires.painting in
    let d = due c.in-Some.step c.pop.new.self.items (c.loop-step.invariant.painting line h) c.in-Some.ensures.items in
    omega (arith, due_room d, c.requires.deep, c.loop-step.invariant.deep, c.pop.ensures.capacity, c.push_if.ensures.capacity, ap length c.push_if.ensures.items, length-append c.pop.new.self.items (option_to_list c.open_step-opened.result.second), option_short c.open_step-opened.result.second)

pub loop-step-smaller : goal.loop-step-smaller
loop-step-smaller c =
    let (line, h, room) = c.requires.painting in
    let d = due c.in-Some.step c.pop.new.self.items (c.loop-step.invariant.painting line h) c.in-Some.ensures.items in
    let o = c.open_step-opened.ensures (forest c.args.pool.now) d.cs d.state.each.0 in
    lighter_steps c.loop-step.steps.items c.pop.new.self.items c.push_if-in-Some.new.steps.items c.in-Some.step c.open_step-opened.result.first c.open_step-opened.result.second c.in-Some.ensures.items
    (c.push_if-in-Some.ensures.items ∙ ap (λ (x : List Step). x ++ option_to_list c.open_step-opened.result.first) c.push_if.ensures.items) o.lighter

pub loop-step-preserved : goal.loop-step-preserved
loop-step-preserved c =
    let base = forest c.args.pool.now in
    record {
      painting = λ line h.
          let d = due c.in-Some.step c.pop.new.self.items (c.loop-step.invariant.painting line h) c.in-Some.ensures.items in
          let s = stepped d (c.open_step-opened.ensures base d.cs d.state.each.0) in
          subst (λ (n : ℕ). IsPainting base c.args.cells.now c.args.extents.now c.push_if-in-Some.new.steps.items n c.paint_ink-blanks.new.text.bytes c.args.text.now.bytes line)
          (sym c.paint_ink-blanks.ensures.blanks)
          (s.goes_on c.paint_ink-blanks.new.text.bytes c.push_if-in-Some.new.steps.items (ap (λ (x : Content). x.bytes) c.paint_ink-blanks.ensures.text) (c.push_if-in-Some.ensures.items ∙ ap (λ (x : List Step). x ++ option_to_list c.open_step-opened.result.first) c.push_if.ensures.items));
      capacity = ap (λ (x : Content). x.capacity) c.paint_ink-blanks.ensures.text ∙ c.loop-step.invariant.capacity;
      deep = omega (arith, c.loop-step.invariant.deep, c.pop.ensures.capacity, c.push_if.ensures.capacity, c.push_if-in-Some.ensures.capacity);
    }

pub returns-clause-painted : goal.returns-clause-painted
returns-clause-painted c = λ line h.
    content_is c.loop-step.text (extended c.args.text.now (encode_utf8_all (cut line)))
    (painted (c.loop-step.invariant.painting line h) (omega (arith, c.in_default.ensures.cases.0, c.loop-step.steps.ok.0))) c.loop-step.invariant.capacity
