use Rattle.number_forms.proofs.{Shared.{ap, sym, tree_of_terms}, Placings.{if_tree}}
use Rattle.number_forms.proofs.inverting.place_inverse.Goals as goal

pub returns-in-One-clause-ok : goal.returns-in-One-clause-ok
returns-in-One-clause-ok c = if_tree c.place_term.result _ c.place_term.new.pool _ _ _ c.place_term.ensures.ok c.place_term.ensures.tree (ap tree_of_terms (sym c.in-One.is))

pub returns-in-One-clause-safe : goal.returns-in-One-clause-safe
returns-in-One-clause-safe c = record { front = c.place_term.ensures.front; kept = c.place_term.ensures.kept; full = c.place_term.ensures.full; caused = c.place_term.ensures.caused; stands = c.place_term.ensures.stands }
