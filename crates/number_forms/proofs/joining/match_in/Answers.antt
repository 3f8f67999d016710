use Rattle.number_forms.proofs.Shared.{rules, ℕ, subst, IsPlace, plain, children_of, tree_at, forest}
use Rattle.number_forms.proofs.joining.match_in.Goals as goal

pub match_equal-requires : goal.match_equal-requires
match_equal-requires g c =
    let place = subst (λ (r : ℕ). IsPlace c.place_near-at.result r (children_of (plain (tree_at c.args.sum (forest c.args.pool.now))))) c.radicand.ensures.value c.place_near-at.ensures in
    (search rules, (c.requires.stands, (c.requires.expression, (c.requires.sum, (c.requires.lists, place)))))

pub match_other-requires : goal.match_other-requires
match_other-requires g c =
    let place = subst (λ (r : ℕ). IsPlace c.place_near-at.result r (children_of (plain (tree_at c.args.sum (forest c.args.pool.now))))) c.radicand.ensures.value c.place_near-at.ensures in
    (search rules, (c.requires.stands, (c.requires.expression, (c.requires.sum, (c.requires.lists, (place, rw c.in-Ok-None.field-0-is at c.in-Ok-None.ensures.ok))))))
