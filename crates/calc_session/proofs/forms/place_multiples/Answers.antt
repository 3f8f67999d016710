use Rattle.std.proofs.Common.{◌≤◌, ◌+◌, map, sym, subst, arith}
use Rattle.std.specs.Prelude.{Some}
use Rattle.calc_session.proofs.{Shared.{length-map, name_of, value_of, size, entries_of, free_of, front_after, multiple_of}, PlacingLemmas.{AreFirst, first_all, first_more, first_none, first_same}}
use Rattle.calc_session.proofs.{PlacingLemmas.{front_of_all, name_there, next_fits, tests_nonzero}, forms.place_multiples.Goals.{then-num-ne0+in_ok-tree, else-num-ne0}}
use Rattle.rational128.proofs.SmallLaws.{zero_rational as tests_zero}
use Rattle.node_pool.specs.State.{State}
use Rattle.calc_session.specs.declared.forms.Placed.{Placed}
use Rattle.calc_session.proofs.forms.place_multiples.Goals as goal

pub loop-at-init : goal.loop-at-init
loop-at-init c = first_none (map name_of c.args.names.now) (entries_of c.args.coefs.now) c.args.pool.now c.args.placed c.requires.stands

pub returns-in_err-tree-clause-enough : goal.returns-in_err-tree-clause-enough
returns-in_err-tree-clause-enough c = λ room.
    let xs = map name_of c.args.names.now in
    let qs = entries_of c.args.coefs.now in
    let there = name_there c.args.names.now c.loop-at.at c.index-names-at.result c.loop-at-test.true c.index-names-at.is in
    let fits : size (multiple_of (value_of c.get-coef.result) (name_of c.index-names-at.result)) ≤ free_of c.loop-at.pool
    = next_fits xs qs c.loop-at.at (value_of c.get-coef.result) (name_of c.index-names-at.result) c.requires.stands (omega (arith, c.loop-at-test.true, length-map c.args.names.now name_of)) c.get-coef.ensures there (tests_nonzero c.get-coef.result c.num.result c.num.ensures.value c.if-num-ne0.true) c.loop-at.invariant room in
    absurd (cc (c.in_err-tree.ensures.enough fits))

pub returns-in_err-tree-clause-front : goal.returns-in_err-tree-clause-front
returns-in_err-tree-clause-front c = front_after (front_of_all c.loop-at.invariant.adds) c.in_err-tree.ensures.front

pub loop-at-preserved : goal.loop-at-preserved
loop-at-preserved c =
    let xs = map name_of c.args.names.now in
    let qs = entries_of c.args.coefs.now in
    elim c.if-num-ne0.branch [
      | then-num-ne0+in_ok-tree w ↦
          let there = name_there c.args.names.now c.loop-at.at w.index-names-at.result c.loop-at-test.true w.index-names-at.is in
          let a : AreFirst xs qs c.args.pool.now c.args.placed (c.loop-at.at + 1) w.place_multiple.new.pool (record { trees = c.loop-at.placed.trees + 1; last = Some w.in_ok-tree.tree })
          = first_more xs qs c.loop-at.at (value_of c.get-coef.result) (name_of w.index-names-at.result) (omega (arith, c.loop-at-test.true, length-map c.args.names.now name_of)) c.get-coef.ensures there (tests_nonzero c.get-coef.result c.num.result c.num.ensures.value w.if-num-ne0.true) c.loop-at.invariant w.in_ok-tree.ensures.ok in
          subst (λ (s : State). AreFirst xs qs c.args.pool.now c.args.placed (c.loop-at.at + 1) s c.if-num-ne0.placed) (sym w.pool-is) (subst (λ (p : Placed). AreFirst xs qs c.args.pool.now c.args.placed (c.loop-at.at + 1) w.place_multiple.new.pool p) (sym w.placed-is) a)
      | else-num-ne0 w ↦
          let a : AreFirst xs qs c.args.pool.now c.args.placed (c.loop-at.at + 1) c.loop-at.pool c.loop-at.placed
          = first_same xs qs c.loop-at.at (value_of c.get-coef.result) c.get-coef.ensures (tests_zero c.get-coef.result c.num.result c.num.ensures.value w.if-num-ne0.false) c.loop-at.invariant in
          subst (λ (s : State). AreFirst xs qs c.args.pool.now c.args.placed (c.loop-at.at + 1) s c.if-num-ne0.placed) (sym w.pool-is) (subst (λ (p : Placed). AreFirst xs qs c.args.pool.now c.args.placed (c.loop-at.at + 1) c.loop-at.pool p) (sym w.placed-is) a)
    ]

pub returns-clause-ok : goal.returns-clause-ok
returns-clause-ok c = first_all (map name_of c.args.names.now) (entries_of c.args.coefs.now) c.loop-at.at (omega (arith, c.loop-at-test.false, length-map c.args.names.now name_of)) c.loop-at.invariant

pub returns-clause-front : goal.returns-clause-front
returns-clause-front c = front_of_all c.loop-at.invariant.adds
