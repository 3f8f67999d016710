use Rattle.expand_forms.proofs.Shared.{List, Monomial, Some, Summand, Tree, ap, sym, subst, ◌∙◌, ◌∷◌, [], ◌≤◌, ℕ, arith, map, value_of, coefficient_in, term_coefficient, HasMonomial, IsNamed, IsSummandTree, name_of}
use Rattle.expand_forms.proofs.ReadTerms.{has_monomial}
use Rattle.expand_forms.specs.Powers.{IsNoted, IsPower}
use Rattle.std.proofs.lemmas.List.{map-set}
use Rattle.std.proofs.Common.{set}
use Rattle.expand_forms.proofs.powers.note_term.Goals as goal

-- a power that has a place
within : (x : List ℕ) (t : Tree) (k : ℕ) → (s : Summand) × IsSummandTree (x ∷ []) s t → ((m : Monomial) → HasMonomial m t → IsNamed (x ∷ []) m → IsPower x m (Some k)) → k ≤ 32
within x t k (s, is) h = (h s.monomial (has_monomial is) is.named).0

pub power_in-requires-clause-monomial : goal.power_in-requires-clause-monomial
power_in-requires-clause-monomial c = let (s, is) = c.requires.term in (s.monomial, has_monomial is, is.named)

pub returns-in_err-power : goal.returns-in_err-power
returns-in_err-power c = λ s is.
    subst (IsNoted (name_of c.args.name) s c.args.coefficients.now c.args.coefficients.now) (sym c.from_residual.ensures) (c.in_err-power.ensures s.monomial (has_monomial is) is.named)

pub offset_bounds-coefficients-power : goal.offset_bounds-coefficients-power
offset_bounds-coefficients-power c = record { fits = omega (arith, within _ _ c.in_ok-power.power c.requires.term c.in_ok-power.ensures) }

pub listed : goal.listed
listed c = omega (arith, within _ _ c.in_ok-power.power c.requires.term c.in_ok-power.ensures, c.type_inv.coefficients)

pub bounds-coefficients-power : goal.bounds-coefficients-power
bounds-coefficients-power c = omega (arith, within _ _ c.in_ok-power.power c.requires.term c.in_ok-power.ensures)

pub returns : goal.returns
returns c = λ s is. (
  c.in_ok-power.ensures s.monomial (has_monomial is) is.named,
  map-set value_of c.args.coefficients.now c.in_ok-power.power c.coefficient.result
      ∙ ap (set (map value_of c.args.coefficients.now) c.in_ok-power.power) (c.coefficient.ensures ∙ ap coefficient_in is.tree ∙ term_coefficient s),
)
