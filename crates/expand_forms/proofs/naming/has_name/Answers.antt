use Rattle.expand_forms.proofs.Shared.{◌≡◌, ◌+◌, suc, drop, subst, arith, name_of, Name, List, ℕ, HasName, dropped_all, dropped, has_at, name_same, not_first}
use Rattle.expansions.specs.Named.{names_of}
use Rattle.expand_forms.proofs.naming.has_name.Goals as goal

pub loop-other-init : goal.loop-other-init
loop-other-init c = λ h. h

pub returns-then-eq-clause-there : goal.returns-then-eq-clause-there
returns-then-eq-clause-there c = λ _.
    has_at c.args.names.now c.loop-other.other-index c.other-item.result (name_of c.args.name) c.loop-other-test.true c.other-item.is
    (name_same c.other-item.result c.args.name c.eq.result c.eq.ensures c.if-eq.true)

pub loop-other-preserved : goal.loop-other-preserved
loop-other-preserved c = λ h.
    let more : suc c.loop-other.other-index ≡ c.loop-other.other-index + 1 = omega arith in
    subst (λ (i : ℕ). HasName (name_of c.args.name) (names_of (drop i c.args.names.now))) more (not_first c.other-item.result c.args.name c.eq.result _ c.eq.ensures c.if-eq.false
    (subst (λ (xs : List Name). HasName (name_of c.args.name) (names_of xs))
    (dropped c.args.names.now c.loop-other.other-index c.other-item.result c.loop-other-test.true c.other-item.is) (c.loop-other.invariant h)))

pub returns-clause-other : goal.returns-clause-other
returns-clause-other c = λ _ h. subst (λ (xs : List Name). HasName (name_of c.args.name) (names_of xs)) (dropped_all c.args.names.now c.loop-other.other-index c.loop-other-test.false) (c.loop-other.invariant h)
