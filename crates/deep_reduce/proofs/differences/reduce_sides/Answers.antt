use Rattle.deep_reduce.proofs.Shared.{◌≡◌, rules, length, true, false, ◌<◌, ◌+◌, ◌^◌, refl, sym, ap, ◌∙◌, subst, fraction_fits, Fraction, HoldsNode, is_reduced, Tree, size, sizes, num}
use Rattle.deep_reduce.proofs.Shared.{has_undef, tree_of, gives_as, given_handed, given_root, given_told, nth, children_of, counted, SpansTree, seen, IsNodeAnswer, IsCalmAtZero, stands_last, free_of}
use Rattle.deep_reduce.proofs.{Shared.{keeps_after, replaced_free, passed_on, turned, joined_by, joined_room, turned_room, expression, holds_as, second_side}, Connected.{HoldsTurned, children_joined}}
use Rattle.deep_reduce.proofs.Connected.{sides_answer, sides_children, sides_held, sides_overflow, sides_ready, turned_lacks, turned_overflow, turned_ready}
use Rattle.deep_reduce.proofs.{Results.{answer_as, overflow_as, overflow_on}, Sides.{left_beside, rewritten_front, paired_front, sides_free}, Steps.{two, undefined_answer}}
use Rattle.deep_reduce.proofs.{Told.{answer_at, overflow_at, both_reduced}, Lacking.{lacks_as, leaves_after, result_lacks, short_beside_left, short_turned}, differences.reduce_sides.Goals.{After-take_sides-left}}
use Rattle.reduce_walk.proofs.HeldRationals.{root_fits}
use Rattle.deep_reduce.proofs.differences.reduce_sides.Goals as goal

-- both sides are defined, and a right side that is a rational fits
defined : (c : After-take_sides-left) → has_undef (children_of (tree_of c.args.node c.args.pool.now)) ≡ false
defined c =
    sym (c.has_undefined_child.ensures ∙ ap (λ (t : Tree). has_undef (children_of t)) (seen c.id.ensures c.requires.stands c.requires.handed))
    ∙ c.if-has_undefined_child.false

fit : (c : After-take_sides-left) (q : Fraction) → nth 1 (children_of (tree_of c.args.node c.args.pool.now)) ≡ num q → fraction_fits q ≡ true
fit c q e =
    let right = c.take_sides-left.ensures.sides.right-given in
    root_fits c.take_sides-left.result.1 c.take_sides-left.new.pool q c.take_sides-left.ensures.stands (given_root right) (given_told right ∙ e)

pub has_undefined_child-requires-clause-expression : goal.has_undefined_child-requires-clause-expression
has_undefined_child-requires-clause-expression c = expression c.id.ensures c.requires.stands c.requires.handed

pub returns-then-has_undefined_child : goal.returns-then-has_undefined_child
returns-then-has_undefined_child c =
    let t : Tree = tree_of c.args.node c.args.pool.now in
    let some =
    sym (c.has_undefined_child.ensures ∙ ap (λ (t : Tree). has_undef (children_of t)) (seen c.id.ensures c.requires.stands c.requires.handed))
    ∙ c.if-has_undefined_child.true in
    record {
      ok = gives_as c.undefined.ensures.gives refl (λ u e. subst (IsNodeAnswer t) (sym e) (undefined_answer t some));
      overflow = tt;
      front = c.undefined.ensures.front;
      room = λ gs ns n h calm z. tt;
      bits = λ h l held few. tt;
      leaves = search rules;
    }

pub turn-requires : goal.turn-requires
turn-requires c =
    let t : Tree = tree_of c.args.node c.args.pool.now in
    let right = c.take_sides-left.ensures.sides.right-given in
    record {
      stands = search rules;
      handed = given_handed right;
      reduced = ap is_reduced (given_told right) ∙ (both_reduced (children_of t) _ _ (sides_children c.args.connective t c.requires.sides) c.requires.reduced).1;
    }

pub returns-in_err-made : goal.returns-in_err-made
returns-in_err-made c =
    let k = c.args.connective in
    let t : Tree = tree_of c.args.node c.args.pool.now in
    let a : Tree = nth 0 (children_of t) in
    let b : Tree = nth 1 (children_of t) in
    let s = c.take_sides-left.ensures.sides in
    let taken = (goal.at.returns-in_err-made c).After-take_sides-left in
    let told = given_told s.right-given in
    let children = sides_children k t c.requires.sides in
    record {
      ok = search rules;
      overflow =
          overflow_on c.turn.result c.from_residual.result _ _ _ c.in_err-made.was c.turn.ensures.overflow c.from_residual.ensures.0 c.from_residual.ensures.1
          (λ o h. overflow_at o (sym c.requires.sides) (turned_overflow a b (fit taken) k o (overflow_at o (ap (turned k) told) h) (ap has_undef (sym children) ∙ defined taken)));
      front = rewritten_front s c.turn.ensures.front;
      room = λ gs ns n h calm z.
          let x = sides_ready gs ns n k t c.requires.sides h calm z in
          let free = sides_free c.requires.stands c.take_sides-left.ensures.stands c.take_sides-left.ensures.kept c.requires.handed s in
          let left = (both_reduced (children_of t) _ _ children c.requires.reduced).0 in
          passed_on c.from_residual.result c.in_err-made.field-0.0 _ c.from_residual.ensures.0 c.from_residual.ensures.1
          (lacks_as c.in_err-made.field-0.0 (c.in_err-made.ensures.room gs ns (subst (IsCalmAtZero ns) (sym told) (record { once = x.once; calm = x.right_calm })) (subst (SpansTree gs) (sym told) x.right_spanned))
          (λ l. short_beside_left (free_of c.take_sides-left.new.pool) (size a) (size b) free (turned_lacks gs ns n k a b _ x left (subst (λ (y : Tree). free_of c.take_sides-left.new.pool + size y < turned_room k (counted y) (2 ^ length gs)) told l))));
      bits = λ h l held few.
          let x : HoldsTurned k a b h l = sides_held k a b h l (holds_as h l c.requires.sides (held (defined taken))) in
          overflow_on c.turn.result c.from_residual.result _ _ _ c.in_err-made.was
          (c.turn.ensures.bits x.high x.low (λ d. holds_as x.high x.low (ap (turned k) (sym told)) x.right) (x.few few)) c.from_residual.ensures.0 c.from_residual.ensures.1 (λ o h. h);
      leaves = search rules;
    }

pub join_sides-requires : goal.join_sides-requires
join_sides-requires c =
    let t : Tree = tree_of c.args.node c.args.pool.now in
    let m = c.in_ok-made.ensures.ok in
    let side = left_beside c.take_sides-left.ensures.sides m in
    record {
      stands = c.in_ok-made.ensures.leaves.stands;
      handed = given_handed m;
      last = stands_last m;
      left = side.handed;
      left_reduced = ap is_reduced side.tree ∙ (both_reduced (children_of t) _ _ (sides_children c.args.connective t c.requires.sides) c.requires.reduced).0;
      right_reduced = (given_told m).reduces.reduced;
    }

pub returns : goal.returns
returns c =
    let k = c.args.connective in
    let t : Tree = tree_of c.args.node c.args.pool.now in
    let a : Tree = nth 0 (children_of t) in
    let b : Tree = nth 1 (children_of t) in
    let s = c.take_sides-left.ensures.sides in
    let taken = (goal.at.returns c).After-take_sides-left in
    let m = c.in_ok-made.ensures.ok in
    let made : Tree = tree_of c.in_ok-made.made c.turn.new.pool in
    let known = answer_at made (ap (turned k) (given_told s.right-given)) (given_told m) in
    let side = left_beside s m in
    let tree = ap (λ (x : Tree). joined_by k (two x made)) side.tree in
    record {
      ok = answer_as _ _ c.join_sides.new.pool _ _ _ c.join_sides.ensures.ok side.rest (λ u h. answer_at u (sym c.requires.sides) (sides_answer a b (fit taken) k made u known (answer_at u tree h)));
      overflow = overflow_as _ _ _ c.join_sides.ensures.overflow
          (λ o h. overflow_at o (sym c.requires.sides)
          (sides_overflow a b (fit taken) k made o known (overflow_at o tree h) (ap has_undef (sym (sides_children k t c.requires.sides)) ∙ defined taken)));
      front = paired_front s c.turn.ensures.front m c.join_sides.ensures.front;
      room = λ gs ns n h calm z.
          let y = turned_ready gs ns n k a b made (sides_ready gs ns n k t c.requires.sides h calm z) known.room in
          let free = sides_free c.requires.stands c.take_sides-left.ensures.stands c.take_sides-left.ensures.kept c.requires.handed s in
          let moved = replaced_free c.take_sides-left.ensures.stands c.in_ok-made.ensures.leaves.stands c.in_ok-made.ensures.leaves.kept (given_handed s.right-given) m in
          result_lacks c.join_sides.result (c.join_sides.ensures.room gs ns (subst (IsCalmAtZero ns) (sym tree) y.calm) (subst (SpansTree gs) (sym tree) y.spanned))
          (λ l. short_turned (free_of c.take_sides-left.new.pool) (free_of c.turn.new.pool) (size a) (size b) _ (size made) free moved (ap size (given_told s.right-given)) y.fits
          (subst (λ (u : Tree). free_of c.turn.new.pool + sizes (two u made) < joined_room k (two u made) (2 ^ length gs)) side.tree l));
      bits = λ h l held few.
          let x : HoldsTurned k a b h l = sides_held k a b h l (holds_as h l c.requires.sides (held (defined taken))) in
          c.join_sides.ensures.bits h l (subst (λ (u : Tree). has_undef (children_of u) ≡ false → HoldsNode u h l) (sym tree)
          (λ d. let e = ap has_undef (sym (children_joined k (two a made))) ∙ d in x.joined made e (known.held (second_side a made e) x.high x.low x.right))) few;
      leaves = leaves_after c.join_sides.result _ _ _ (keeps_after _ _ _ c.take_sides-left.ensures.kept c.in_ok-made.ensures.leaves.kept) c.join_sides.ensures.leaves;
    }
