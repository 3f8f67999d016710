use Rattle.std.proofs.Common.{subst, sym, refl, map, ◌∙◌, ◌-◌, ◌≢◌, arith}
use Rattle.std.specs.Prelude.{slice_index_or}
use Rattle.calc_terms.specs.{Fractions.{zero_fraction}, Leaf.{name_of}, Rat.{value_of}}
use Rattle.equation_roots.specs.declared.told.Roots.{Roots}
use Rattle.expand_forms.specs.Powers.{AreCoefficients}
use Rattle.calc_session.proofs.Shared.{forest, plain, polynomial_of, tree_at}
use Rattle.calc_session.proofs.RootingLemmas.{leads_there, one_nonzero, one_zero, unrooted_reply}
use Rattle.calc_session.specs.Rooting.{above_the_limit, is_beyond}
use Rattle.calc_session.proofs.rooting.roots_of_expanded.Goals.{else-count-eq1-via-then-count-eq1+else-is_zero, else-count-eq1-via-else-count-eq1}
use Rattle.calc_session.proofs.rooting.roots_of_expanded.Goals as goal

pub returns-in-None-clause-refused : goal.returns-in-None-clause-refused
returns-in-None-clause-refused c = λ free. let (k, above, some) = c.in-None.ensures.none.0 refl in is_beyond (above_the_limit above some)

pub returns-then-is_zero-clause-found : goal.returns-then-is_zero-clause-found
returns-then-is_zero-clause-found c = let (some, few, are) = c.in-Some.ensures.some in
    subst (AreCoefficients (name_of c.args.name) (polynomial_of (plain (tree_at c.args.expansion (forest c.args.pool.now)))))
    (one_zero c.powers_of.new.coefficients c.index-coefficients-0.result c.in-Some.count c.if-count-eq1.true (omega (arith, c.powers_of.array_long)) (sym c.is_zero.ensures ∙ c.if-is_zero.true)) are

pub roots-requires-clause-leading : goal.roots-requires-clause-leading
roots-requires-clause-leading c = let (some, few, are) = c.in-Some.ensures.some in
    leads_there c.powers_of.new.coefficients c.in-Some.count some (omega (arith, few, c.powers_of.array_long))
    (elim c.else-count-eq1.branch [ else-count-eq1-via-then-count-eq1+else-is_zero w ↦ subst (λ k. slice_index_or (map value_of c.powers_of.new.coefficients) (k - 1) zero_fraction ≢ zero_fraction) (sym w.if-count-eq1.true) (one_nonzero c.powers_of.new.coefficients w.index-coefficients-0.result (omega (arith, c.powers_of.array_long)) (sym w.is_zero.ensures ∙ w.if-is_zero.false)) | else-count-eq1-via-else-count-eq1 w ↦ c.in-Some.ensures.leading w.if-count-eq1.false ])

pub returns-in-Err-clause-refused : goal.returns-in-Err-clause-refused
returns-in-Err-clause-refused c = λ free. let (some, few, are) = c.in-Some.ensures.some in
    unrooted_reply Roots free c.in-Err.fault c.unrooted.result are c.unrooted.ensures c.in-Err.ensures.degree c.in-Err.ensures.overflow
