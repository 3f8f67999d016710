use Rattle.dual_diff.proofs.{Shared.{refl, sym, ◌∙◌, subst, arith, name_of, IsDerivableExponent, tree_of}, Exponents.{power_derivable, derivable_exponent, absent_derivable}, Forms.{base_and_exponent}}
use Rattle.dual_diff.proofs.derivable.is_derivable_power.Goals as goal

pub child_of-requires-clause-within : goal.child_of-requires-clause-within
child_of-requires-clause-within c = omega (arith, base_and_exponent (tree_of c.args.power c.args.pool.now) c.requires.power)

pub returns-then-holds : goal.returns-then-holds
returns-then-holds c =
    let x = name_of c.args.name in
    let t = tree_of c.args.power c.args.pool.now in (
      λ h. power_derivable x t c.requires.power (subst IsDerivableExponent c.child_of.ensures.plain (c.is_derivable_exponent.ensures.0 h)),
      λ h. c.is_derivable_exponent.ensures.1 (subst IsDerivableExponent (sym c.child_of.ensures.plain) (derivable_exponent x t c.requires.power (sym c.holds.ensures ∙ c.if-holds.true) h)),
    )

pub returns : goal.returns
returns c = (λ h. absent_derivable (name_of c.args.name) (tree_of c.args.power c.args.pool.now) (sym c.holds.ensures ∙ c.if-holds.false), λ h. refl)
