use Rattle.expand_forms.proofs.{Shared.{rules, ◌≡◌, ◌∙◌, arith, sym, ap, Tree, count, Monomial, HasMonomial, term_cmp, children_of, nth, plain, tree_at, forest}, Sums.{sum_below}}
use Rattle.expand_forms.proofs.{TermKeys.{monomial_order}, TermReadings.{sum_term, term_monomial}, ordering.place_of.Given.{Over}, ordering.place_of.Goals.{After-compare_monomials}}
use Rattle.expand_forms.proofs.ordering.place_of.Goals as goal

pub loop-low-init : goal.loop-low-init
loop-low-init g c =
    let many : c.children-high.result ≡ count (children_of (plain (tree_at c.args.sum (forest c.args.pool.now)))) = c.children-high.ensures.plain c.requires.expression in
    record { order = omega arith; within = omega (arith, many); below = λ m t s h k l. absurd (omega (arith, l)); above = λ m t s h l. absurd (omega (arith, l, many)) }

pub child-requires : goal.child-requires
child-requires g c = (search rules, (c.requires.stands, (c.requires.expression, (c.requires.lists, omega (arith, c.middle-at.ensures.below, c.loop-low.invariant.within)))))

pub compare_monomials-requires-clause-first : goal.compare_monomials-requires-clause-first
compare_monomials-requires-clause-first g c =
    let x = sum_term c.requires.sum c.middle-at.result _ (omega (arith, c.middle-at.ensures.below, c.loop-low.invariant.within)) c.child.ensures.plain in
    (x.summand.monomial, c.monomial_key-other.ensures x.summand.monomial (term_monomial x))

pub compare_monomials-requires-clause-second : goal.compare_monomials-requires-clause-second
compare_monomials-requires-clause-second g c = let (m, h) = c.requires.monomial in (m, c.monomial_key-key.ensures m h)

-- how the term there stands to one with the monomial
order : (g : Over) (c : After-compare_monomials g) (m : Monomial) (t : Tree) → HasMonomial m (plain (tree_at c.args.product (forest c.args.pool.now))) → HasMonomial m t
    → term_cmp (nth c.middle-at.result (children_of (plain (tree_at c.args.sum (forest c.args.pool.now))))) t ≡ c.compare_monomials.result
order g c m t s h =
    let x = sum_term c.requires.sum c.middle-at.result _ (omega (arith, c.middle-at.ensures.below, c.loop-low.invariant.within)) c.child.ensures.plain in
    let k = term_monomial x in
    ap (λ (u : Tree). term_cmp u t) (sym c.child.ensures.plain) ∙ monomial_order k h ∙ sym
    (c.compare_monomials.ensures x.summand.monomial m (c.monomial_key-other.ensures x.summand.monomial k) (c.monomial_key-key.ensures m s))

pub returns-in-Equal-clause-found : goal.returns-in-Equal-clause-found
returns-in-Equal-clause-found g c = λ m t s h. (omega (arith, c.middle-at.ensures.below, c.loop-low.invariant.within), order g (goal.at.returns-in-Equal-clause-found g c).After-compare_monomials m t s h ∙ c.in-Equal.is)

pub loop-low-preserved-in-Less : goal.loop-low-preserved-in-Less
loop-low-preserved-in-Less g c = let at = c.middle-at.result in record {
  order = omega (arith, c.middle-at.ensures.below);
  within = c.loop-low.invariant.within;
  below = λ m t s h k l. sum_below c.requires.sum k at t (omega (arith, l)) (omega (arith, c.middle-at.ensures.below, c.loop-low.invariant.within))
      (order g (goal.at.loop-low-preserved-in-Less g c).After-compare_monomials m t s h ∙ c.in-Less.is);
  above = c.loop-low.invariant.above;
}

pub loop-low-preserved : goal.loop-low-preserved
loop-low-preserved g c = record {
  order = c.middle-at.ensures.from;
  within = omega (arith, c.middle-at.ensures.below, c.loop-low.invariant.within);
  below = c.loop-low.invariant.below;
  above = λ m t s h l. order g (goal.at.loop-low-preserved g c).After-compare_monomials m t s h ∙ c.in-Greater.is;
}
