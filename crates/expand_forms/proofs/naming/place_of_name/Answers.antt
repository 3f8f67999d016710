use Rattle.expand_forms.proofs.Shared.{◌≡◌, ◌+◌, ℕ, suc, ◌∙◌, List, subst, sym, take, arith, name_of, Name, nat_cmp, slice_cmp, AreNamesBelow, below_push, is_less, taken}
use Rattle.expansions.specs.Named.{names_of}
use Rattle.expand_forms.proofs.naming.place_of_name.Goals as goal

pub loop-at-preserved : goal.loop-at-preserved
loop-at-preserved c =
    let x = name_of c.args.name in
    let y = c.index-names-at.result in
    let same : slice_cmp nat_cmp (name_of y) x ≡ c.cmp.result = (λ i. slice_cmp nat_cmp (sym c.bytes.ensures.value i) (sym c.bytes-in-loop-at.ensures.value i)) ∙ sym c.cmp.ensures in
    let more : suc c.loop-at.at ≡ c.loop-at.at + 1 = omega arith in
    subst (λ (n : ℕ). AreNamesBelow x (names_of (take n c.args.names.now))) more
    (subst (λ (xs : List Name). AreNamesBelow x (names_of xs)) (sym (taken c.args.names.now c.loop-at.at y c.loop-at-test.true c.index-names-at.is))
    (below_push x (take c.loop-at.at c.args.names.now) y c.loop-at.invariant (same ∙ is_less c.cmp.result c.ne.result c.ne.ensures c.if-ne.false)))
