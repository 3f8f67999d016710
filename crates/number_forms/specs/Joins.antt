-- How a term meets a sum of terms.
use Rattle.std.specs.Prelude.{ℕ, ◌≡◌, ◌<◌, [], ◌∷◌}
use Rattle.calc_algebra.specs.{Numbers.{term_of, terms_of}, Surds.{Term}}
use Rattle.calc_bits.specs.Denominators.{SharesDenominators}
use Rattle.calc_terms.specs.Trees.{Trees, count}
use Rattle.number_forms.specs.{Sums.{IsApart, IsPlace}, declared.joining.Match.{Match}}
use Rattle.number_forms.specs.declared.joining.Match.TheVariants as match
use Rattle.surd_terms.specs.{Sums.{Joins}, Terms.{term_of as term_of_code}}
use Rattle.surd_terms.specs.declared.sums.Joined.TheVariants as joined
use Rattle.tree_handles.specs.Expressions.{nth}

-- no term is alike with t, whose place is told; or the one at a place is, and the two cancel or make one term over their common denominators
abbrev pub IsMatch : Term → Trees → Match → Type 0
IsMatch t ts (match.Apart at) = IsApart t.radicand (terms_of ts) × IsPlace at t.radicand ts
IsMatch t ts (match.Zero at) = (at < count ts) × Joins joined.Zero (term_of (nth at ts)) t
IsMatch t ts (match.Term at s) = (at < count ts) × Joins (joined.Term s) (term_of (nth at ts)) t × SharesDenominators (term_of (nth at ts) ∷ t ∷ []) (term_of_code s ∷ [])

-- the term at a place, if there is one, has another radicand
abbrev pub IsOther : ℕ → ℕ → Trees → Type 0
IsOther at r ts = at < count ts → r ≡ (term_of (nth at ts)).radicand → ⊥
