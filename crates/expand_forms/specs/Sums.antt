-- Sums of terms under way.
use Rattle.std.specs.{Prelude.{ℕ, ◌≡◌, ◌<◌, ◌≤◌, if◌then◌else◌}, declared.cmp.Ordering.TheVariants.{Less, Greater}}
use Rattle.calc_terms.specs.{Fractions.{is_zero_fraction}, Trees.{Tree, Trees, none, more, count}}
use Rattle.expansions.specs.{ExpandedTrees.{term_tree}, Polynomials.{Summand}, Terms.{term_cmp}}
use Rattle.number_forms.specs.Sums.{removed}
use Rattle.tree_handles.specs.Expressions.{inserted, nth}

-- the place of a term among those of a sum, none of which has its monomial: those before are below it, and the one there is above
pub record IsPlace (n : ℕ) (t : Tree) (ts : Trees) : Type 0 where
  pub within : n ≤ count ts
  pub below : (k : ℕ) → k < n → term_cmp (nth k ts) t ≡ Less
  pub above : n < count ts → term_cmp (nth n ts) t ≡ Greater

-- a term in the place of the one there, or none where its coefficient is 0
abbrev pub with_term : ℕ → Summand → Trees → Trees
with_term n s ts = if is_zero_fraction s.coefficient then removed n ts else inserted n (more (term_tree s) none) (removed n ts)
