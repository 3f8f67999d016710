use Rattle.pool_layouts.proofs.{Shared.{rules, ◌∙◌, ◌-◌, ap, refl, sym, subst, arith, length-set, holds, payload_in, forest, Visit, IsOver, extent_of}, Measuring.{measure_start, measuring}}
use Rattle.pool_layouts.proofs.extents.measure.Goals as goal

pub loop-at-init : goal.loop-at-init
loop-at-init c = record { measured = measure_start c.args.pool.now c.args.layout c.args.cells.now c.args.extents.now c.requires.cells; len = refl; within = omega arith }

pub extent_over-extent-requires : goal.extent_over-extent-requires
extent_over-extent-requires c =
    let m = measuring c.args.pool.now c.args.layout c.loop-at.at c.args.cells.now c.loop-at.extents c.requires.stands c.requires.layout c.requires.cells c.loop-at-test.true c.loop-at.invariant.within c.loop-at.invariant.measured in
    let cell = c.index-cells-at.is ∙ m.cell_is c.index-cells-at.result in
    let payload = ap (λ (x : Visit). payload_in x.id (forest c.args.pool.now)) cell ∙ m.payload_is in
    record {
      live = ap (λ (x : Visit). holds x.id (forest c.args.pool.now)) (c.index-cells-at.is ∙ m.cell_is c.index-cells-at.result) ∙ m.live;
      over = (m.below, subst (λ y. IsOver y m.below c.loop-at.at c.loop-at.extents) (sym payload) m.over, ap (λ (x : Visit). x.children) cell);
      stands = search rules;
      few = search rules;
    }

pub loop-at-preserved : goal.loop-at-preserved
loop-at-preserved c =
    let m = measuring c.args.pool.now c.args.layout c.loop-at.at c.args.cells.now c.loop-at.extents c.requires.stands c.requires.layout c.requires.cells c.loop-at-test.true c.loop-at.invariant.within c.loop-at.invariant.measured in
    let cell = c.index-cells-at.is ∙ m.cell_is c.index-cells-at.result in
    let payload = ap (λ (x : Visit). payload_in x.id (forest c.args.pool.now)) cell ∙ m.payload_is in
    let extent = c.extent_over-extent.ensures m.below (subst (λ y. IsOver y m.below c.loop-at.at c.loop-at.extents) (sym payload) m.over) (ap (λ (x : Visit). x.children) cell) in
    let value = extent ∙ ap (λ y. extent_of y m.below) payload in
    record {
      measured = m.listed c.extent_over-extent.result value (omega (arith, c.loop-at-test.true, c.loop-at.invariant.within, c.loop-at.invariant.len, c.requires.room));
      len = length-set c.loop-at.extents (c.loop-at.at - 1) c.extent_over-extent.result ∙ c.loop-at.invariant.len;
      within = omega (arith, c.loop-at.invariant.within);
    }
