use Rattle.number_forms.proofs.{Shared.{◌≡◌, ◌∙◌, sym, classes, tree_of}, RisingPairs.{one_term, ranked}}
use Rattle.number_forms.proofs.adding.order_of_terms.Goals as goal

pub returns : goal.returns
returns c =
    let first : classes (tree_of c.args.a.now c.args.pool.now) ≡ 1 = sym c.term_count.ensures ∙ c.if-term_count-ne1.false in
    let second : classes (tree_of c.args.b.now c.args.pool.now) ≡ 1 = sym c.term_count-else-term_count-ne1.ensures ∙ c.if-term_count-ne1-2.false in
    ranked c.order_of.result _ _ _ _ (one_term _ _ c.requires.first_number first c.nth_term.ensures) (one_term _ _ c.requires.second_number second c.nth_term-2.ensures) c.order_of.ensures
