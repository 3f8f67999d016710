use Rattle.pool_layouts.proofs.Shared.{◌∙◌, ap, refl, sym, empty, tree, payload_in, forest, Extent}
use Rattle.pool_layouts.proofs.Measures.{over_one, over_two, pair_over, one_extent, two_extent, raised_is, radical_is, paren_is, fraction_is, row_is, leaf_extent, has_parts, no_parts}
use Rattle.calc_terms.specs.declared.kind.Kind.TheVariants as kind
use Rattle.pool_layouts.proofs.extents.extent_over.Goals as goal

pub row_extent-requires-clause-some : goal.row_extent-requires-clause-some
row_extent-requires-clause-some c = let (k, o, e) = c.requires.over in (k, o.small, e)

pub returns-in-Row : goal.returns-in-Row
returns-in-Row c = λ k o e. c.row_extent.ensures k o.small e ∙ row_is (payload_in c.args.node (forest c.args.pool.now)) k o.payload (sym c.kind.ensures.value ∙ c.in-Row.is)

pub extent_at-requires-clause-some : goal.extent_at-requires-clause-some
extent_at-requires-clause-some c = let (k, o, e) = c.requires.over in let t = over_two o (sym c.kind.ensures.value ∙ c.in-Fraction.is) in (t.upper, t.above, tree t.lower t.below empty, t.small)

pub second-requires-clause-some : goal.second-requires-clause-some
second-requires-clause-some c = let (k, o, e) = c.requires.over in let t = over_two o (sym c.kind.ensures.value ∙ c.in-Fraction.is) in (t.lower, t.below, pair_over t)

pub returns-in-Fraction : goal.returns-in-Fraction
returns-in-Fraction c = λ k o e.
    let t = over_two o (sym c.kind.ensures.value ∙ c.in-Fraction.is) in
    fraction_is t.upper t.above t.lower t.below c.extent_at.result c.second.result c.over.result (c.extent_at.ensures.value t.upper t.above (tree t.lower t.below empty) t.small)
    (c.second.ensures.value t.lower t.below (pair_over t)) c.over.ensures ∙ two_extent t

pub extent_at-requires-in-Raised-clause-some : goal.extent_at-requires-in-Raised-clause-some
extent_at-requires-in-Raised-clause-some c = let (k, o, e) = c.requires.over in let t =
    over_one kind.Raised (λ n. refl) refl o (sym c.kind.ensures.value ∙ c.in-Raised.is) in (t.label, t.below, empty, t.small)

pub returns-in-Raised : goal.returns-in-Raised
returns-in-Raised c = λ k o e.
    let t = over_one kind.Raised (λ n. refl) refl o (sym c.kind.ensures.value ∙ c.in-Raised.is) in
    raised_is t.label t.below c.extent_at-in-Raised.result c.raised.result (c.extent_at-in-Raised.ensures.value t.label t.below empty t.small) c.raised.ensures ∙ one_extent t

pub extent_at-requires-in-Radical-clause-some : goal.extent_at-requires-in-Radical-clause-some
extent_at-requires-in-Radical-clause-some c = let (k, o, e) = c.requires.over in let t =
    over_one kind.Radical (λ n. refl) refl o (sym c.kind.ensures.value ∙ c.in-Radical.is) in (t.label, t.below, empty, t.small)

pub returns-in-Radical : goal.returns-in-Radical
returns-in-Radical c = λ k o e.
    let t = over_one kind.Radical (λ n. refl) refl o (sym c.kind.ensures.value ∙ c.in-Radical.is) in
    radical_is t.label t.below c.extent_at-in-Radical.result c.under_root.result (c.extent_at-in-Radical.ensures.value t.label t.below empty t.small) c.under_root.ensures ∙ one_extent t

pub extent_at-requires-in-Paren-clause-some : goal.extent_at-requires-in-Paren-clause-some
extent_at-requires-in-Paren-clause-some c = let (k, o, e) = c.requires.over in let t =
    over_one kind.Paren (λ n. refl) refl o (sym c.kind.ensures.value ∙ c.in-Paren.is) in (t.label, t.below, empty, t.small)

pub returns-in-Paren : goal.returns-in-Paren
returns-in-Paren c = λ k o e.
    let t = over_one kind.Paren (λ n. refl) refl o (sym c.kind.ensures.value ∙ c.in-Paren.is) in
    paren_is t.label t.below c.extent_at-in-Paren.result c.in_parens.result (c.extent_at-in-Paren.ensures.value t.label t.below empty t.small) c.in_parens.ensures ∙ one_extent t

pub returns-in_default : goal.returns-in_default
returns-in_default c = λ k o e.
    let d = c.in_default in
    ap (λ w. let r : Extent = record { nodes = 1; width = w; above = 0; below = 0 } in r) c.leaf_width.ensures
    ∙ leaf_extent (payload_in c.args.node (forest c.args.pool.now)) k o.payload o.composed_node
    (ap has_parts (sym c.kind.ensures.value) ∙ no_parts c.kind.result d.not-Row d.not-Fraction d.not-Raised d.not-Radical d.not-Paren)
