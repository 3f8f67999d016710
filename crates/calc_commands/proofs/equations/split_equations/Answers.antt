use Rattle.calc_commands.proofs.Shared.{◌≡◌, ◌<◌, ◌++◌, ◌∷◌, [], List, length, Bool, true, false, Result, Ok, Err, IsOk, refl, sym, ap, subst, arith, OnErr, OnOk, is_err, EquationRange, ArrayVec}
use Rattle.calc_commands.proofs.Splitting.{IsSplitting, Pushes, all_split, no_room, pushed, split_end, split_next, split_start, unwritten}
use Rattle.calc_commands.proofs.equations.split_equations.Goals as goal

pushes : {A E : Type 0} (old new : ArrayVec EquationRange) (r : EquationRange) (result : Result A E) (b : Bool) → (IsOk result → length old.items < 6) → OnOk result (new.items ≡ old.items ++ r ∷ []) → OnErr result (new ≡ old) → OnErr result (length old.items ≡ 6)
    → b ≡ is_err result → Pushes old.items r new.items b
pushes old new r (Ok x) b v ok err full e = subst (λ (c : Bool). Pushes old.items r new.items c) (sym e) (subst (λ (n : List EquationRange). Pushes old.items r n false) (sym ok) (pushed (v refl)))
pushes old new r (Err x) b v ok err full e = subst (λ (c : Bool). Pushes old.items r new.items c) (sym e) (subst (λ (n : List EquationRange). Pushes old.items r n true) (sym (ap (λ (v : ArrayVec EquationRange). v.items) err)) (no_room full))

pub loop-begin-init : goal.loop-begin-init
loop-begin-init c = subst (λ (rs : List EquationRange). IsSplitting c.args.text.now 0 false rs) (sym c.new-ranges.ensures) (split_start c.args.text.now)

pub returns-in_default-clause-refused : goal.returns-in_default-clause-refused
returns-in_default-clause-refused c = unwritten c.loop-begin.invariant (c.in_default.ensures.none refl) c.loop-begin-test.true

pub loop-begin-smaller : goal.loop-begin-smaller
loop-begin-smaller c = omega (arith, c.in-Some.ensures.begin, c.in-Some.ensures.within.begin, c.in-Some.ensures.within.sign, c.loop-begin-test.true)

pub loop-begin-preserved : goal.loop-begin-preserved
loop-begin-preserved c =
    let e = c.in-Some.ensures in
    split_next c.args.text.now c.loop-begin.begin c.loop-begin.is_many c.loop-begin.ranges.items c.loop-begin.invariant c.in-Some.range e.begin e.within e.sides e.piece
    (pushes c.loop-begin.ranges c.try_push.new.self c.in-Some.range c.try_push.result c.is_err-is_many.result c.try_push.ensures.variant.0 c.try_push.ensures.ok c.try_push.ensures.err c.try_push.ensures.full c.is_err-is_many.ensures.value)

pub returns-then-is_many-clause-refused : goal.returns-then-is_many-clause-refused
returns-then-is_many-clause-refused c =
    let s = subst (λ (b : Bool). IsSplitting c.args.text.now c.loop-begin.begin b c.loop-begin.ranges.items) c.if-is_many.true c.loop-begin.invariant in
    (s.equations, all_split s c.loop-begin-test.false, (s.over refl).1)

pub returns-else-is_many-clause-ok : goal.returns-else-is_many-clause-ok
returns-else-is_many-clause-ok c = split_end (subst (λ (b : Bool). IsSplitting c.args.text.now c.loop-begin.begin b c.loop-begin.ranges.items) c.if-is_many.false c.loop-begin.invariant) c.loop-begin-test.false
