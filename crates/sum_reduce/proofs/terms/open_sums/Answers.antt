use Rattle.sum_reduce.proofs.Sums.{changed}
use Rattle.sum_reduce.proofs.terms.open_sums.Goals as goal

pub returns-clause-changes : goal.returns-clause-changes
returns-clause-changes c = let h = c.open_children.ensures.opened in (changed c.requires.sum h.are h.whole).changes

pub returns-clause-opened : goal.returns-clause-opened
returns-clause-opened c = let h = c.open_children.ensures.opened in (changed c.requires.sum h.are h.whole).terms
