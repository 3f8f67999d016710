use Rattle.pool_layouts.proofs.{Shared.{rules, refl, sym, subst, arith, empty, tree, Opens}, Measures.{over_one, over_two, pair_over, no_parts}}
use Rattle.pool_layouts.proofs.Opening.{cell_inside, is_over, seen_kind, row_opens, raised_opens, radical_opens, paren_opens, fraction_opens, leaf_opens}
use Rattle.calc_terms.specs.declared.kind.Kind.TheVariants as kind
use Rattle.pool_layouts.specs.declared.steps.Step.TheVariants as step
use Rattle.pool_layouts.proofs.steps.open_part.Goals as goal

pub extent_at-requires-clause-some : goal.extent_at-requires-clause-some
extent_at-requires-clause-some c = let (base, (cs, p)) = c.requires.shown in (p.label, p.below, empty, p.listed.small)

pub extent_at-upper-requires-clause-some : goal.extent_at-upper-requires-clause-some
extent_at-upper-requires-clause-some c =
    let (base, (cs, p)) = c.requires.shown in
    let t = over_two (is_over p.label p.below p.listed) (seen_kind p kind.Fraction c.index-cells-at.result c.index-cells-at.is c.in-Fraction.is) in
    (t.upper, t.above, tree t.lower t.below empty, t.small)

pub second-requires-clause-some : goal.second-requires-clause-some
second-requires-clause-some c =
    let (base, (cs, p)) = c.requires.shown in
    let t = over_two (is_over p.label p.below p.listed) (seen_kind p kind.Fraction c.index-cells-at.result c.index-cells-at.is c.in-Fraction.is) in
    (t.lower, t.below, pair_over t)

pub open_fraction-requires : goal.open_fraction-requires
open_fraction-requires c =
    let (base, (cs, p)) = c.requires.shown in
    record { span = omega (arith, cell_inside p.label p.below empty p.listed, c.requires.few_cells); row = p.row_small; upper = search rules; lower = search rules }

pub extent_at-requires-in-Raised-clause-some : goal.extent_at-requires-in-Raised-clause-some
extent_at-requires-in-Raised-clause-some c =
    let (base, (cs, p)) = c.requires.shown in
    let t = over_one kind.Raised (λ n. refl) refl (is_over p.label p.below p.listed) (seen_kind p kind.Raised c.index-cells-at.result c.index-cells-at.is c.in-Raised.is) in
    (t.label, t.below, empty, t.small)

pub extent_at-requires-in-Radical-clause-some : goal.extent_at-requires-in-Radical-clause-some
extent_at-requires-in-Radical-clause-some c =
    let (base, (cs, p)) = c.requires.shown in
    let t = over_one kind.Radical (λ n. refl) refl (is_over p.label p.below p.listed) (seen_kind p kind.Radical c.index-cells-at.result c.index-cells-at.is c.in-Radical.is) in
    (t.label, t.below, empty, t.small)

pub returns-in-Row : goal.returns-in-Row
returns-in-Row c = λ base cs p.
    subst (Opens base c.args.cells.now c.args.extents.now (step.Part c.args.span c.args.row) cs) (sym c.open_row.ensures)
    (row_opens p c.extent_at.result (seen_kind p kind.Row c.index-cells-at.result c.index-cells-at.is c.in-Row.is) (c.extent_at.ensures.value p.label p.below empty p.listed.small))

pub returns-in-Fraction : goal.returns-in-Fraction
returns-in-Fraction c = λ base cs p.
    let t = over_two (is_over p.label p.below p.listed) (seen_kind p kind.Fraction c.index-cells-at.result c.index-cells-at.is c.in-Fraction.is) in
    subst (Opens base c.args.cells.now c.args.extents.now (step.Part c.args.span c.args.row) cs) (sym c.open_fraction.ensures)
    (fraction_opens p c.extent_at-upper.result c.second.result t (c.extent_at-upper.ensures.value t.upper t.above (tree t.lower t.below empty) t.small) (c.second.ensures.value t.lower t.below (pair_over t)))

pub returns-in-Raised : goal.returns-in-Raised
returns-in-Raised c = λ base cs p.
    let t = over_one kind.Raised (λ n. refl) refl (is_over p.label p.below p.listed) (seen_kind p kind.Raised c.index-cells-at.result c.index-cells-at.is c.in-Raised.is) in
    subst (Opens base c.args.cells.now c.args.extents.now (step.Part c.args.span c.args.row) cs) (sym c.open_raised.ensures)
    (raised_opens p c.extent_at-in-Raised.result t (c.extent_at-in-Raised.ensures.value t.label t.below empty t.small))

pub returns-in-Radical : goal.returns-in-Radical
returns-in-Radical c = λ base cs p.
    let t = over_one kind.Radical (λ n. refl) refl (is_over p.label p.below p.listed) (seen_kind p kind.Radical c.index-cells-at.result c.index-cells-at.is c.in-Radical.is) in
    subst (Opens base c.args.cells.now c.args.extents.now (step.Part c.args.span c.args.row) cs) (sym c.open_radical.ensures)
    (radical_opens p c.extent_at-in-Radical.result t (c.extent_at-in-Radical.ensures.value t.label t.below empty t.small))

pub returns-in-Paren : goal.returns-in-Paren
returns-in-Paren c = λ base cs p.
    let t = over_one kind.Paren (λ n. refl) refl (is_over p.label p.below p.listed) (seen_kind p kind.Paren c.index-cells-at.result c.index-cells-at.is c.in-Paren.is) in
    subst (Opens base c.args.cells.now c.args.extents.now (step.Part c.args.span c.args.row) cs) (sym c.open_paren.ensures) (paren_opens p t)

pub returns-in_default : goal.returns-in_default
returns-in_default c = λ base cs p.
    let d = c.in_default in
    leaf_opens p c.index-cells-at.result c.index-cells-at.is (no_parts c.index-cells-at.result.kind d.not-Row d.not-Fraction d.not-Raised d.not-Radical d.not-Paren)
