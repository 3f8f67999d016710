-- The terms of a sum collected: sums among them opened, Numbers added, and terms with identical parts joined.
use Rattle.std.specs.Prelude.{◌≡◌, ◌≤◌, [], ◌++◌, ⊤, true, false, IsPermutation}
use Rattle.calc_terms.specs.{Fractions.{zero_fraction}, Trees.{Tree, num, Trees, none, more, append, count}}
use Rattle.calc_algebra.specs.{Numbers.{is_number, value}, Reduced.{part_of, NoneIs}, SquareClasses.{Same}, Surds.{Surd}}
use Rattle.coefficients.specs.Coefficients.{coefficient_of, with_coefficient}
pub use Rattle.like_children.specs.Numbers.{numbers_in, others_in}
use Rattle.node_order.specs.Sorting.{list_of, IsSorting}
use Rattle.number_forms.specs.Answers.{IsNumberOf}
use Rattle.sum_reduce.specs.Terms.{is_partner, opened, terms_of_number, sum_tree}

-- the values of Numbers added
abbrev pub sum_of_values : Trees → Surd
sum_of_values none = []
sum_of_values (more t ts) = value t ++ sum_of_values ts

-- no two terms have identical parts
abbrev pub AreUnlike : Trees → Type 0
AreUnlike none = ⊤
AreUnlike (more t ts) = NoneIs (is_partner t) ts × AreUnlike ts

-- ---- where no two have

-- the sum of the Numbers among the terms: 0 where there is none, and a single one itself
pub record IsTotalNumber (n : Tree) (ts : Trees) : Type 0 where
  pub number : is_number n ≡ true
  pub worth : Same (value n) (sum_of_values (numbers_in ts))
  pub absent : numbers_in ts ≡ none → n ≡ num zero_fraction
  pub single : (m : Tree) → numbers_in ts ≡ more m none → n ≡ m

-- the terms of a Number, and then terms in the order of their parts
pub record IsWritten (n : Tree) (ts : Trees) (new : Tree) : Type 0 where
  pub us : Trees
  pub sorted : IsSorting 0 part_of ts us
  pub is : new ≡ sum_tree (append (terms_of_number n) us)

-- sums among the terms are opened, the Numbers are added, and the others stand behind
pub record IsWrittenSum (ts : Trees) (new : Tree) : Type 0 where
  pub number : Tree
  pub total : IsTotalNumber number (opened ts)
  pub written : IsWritten number (others_in (opened ts)) new

-- ---- where some have

-- terms that are no Numbers, with this part
abbrev pub AreLike : Tree → Trees → Type 0
AreLike p none = ⊤
AreLike p (more t ts) = (is_number t ≡ false) × (part_of t ≡ p) × AreLike p ts

-- the values of their coefficients added
abbrev pub sum_of_coefficients : Trees → Surd
sum_of_coefficients none = []
sum_of_coefficients (more t ts) = value (coefficient_of t) ++ sum_of_coefficients ts

-- terms of a sum, and what they become: sums among them are opened, they change places, two Numbers become their sum, and
-- two terms or more with one part become that part with the sum of their coefficients
pub data Collects : Trees → Trees → Type 0 where
  collects_opened : {ts : Trees} → Collects ts (opened ts)
  collects_ordered : {ts us : Trees} → IsPermutation (list_of ts) (list_of us) → Collects ts us
  collects_numbers : {ts : Trees} {a b n : Tree} → is_number a ≡ true → is_number b ≡ true → IsNumberOf (value a ++ value b) n → Collects (more a (more b ts)) (more n ts)
  collects_like : {ts : Trees} (us : Trees) (c p : Tree) → 2 ≤ count us → AreLike p us → IsNumberOf (sum_of_coefficients us) c → Collects (append us ts) (more (with_coefficient c p) ts)
  collects_then : {ts us vs : Trees} → Collects ts us → Collects us vs → Collects ts vs
