-- The text of a tree, with the parentheses that it needs to be read again.
use Rattle.std.specs.Prelude.{ℕ, zero, suc, ◌+◌, ◌/◌, ◌%◌, List, [], ◌∷◌, ◌++◌, Bool, true, ◌||◌, nat_le, nat_abs, ◌≡◌, pos, ⊤, if◌then◌else◌, codes}
use Rattle.calc_terms.specs.{Name.{is_name}, Fractions.{Fraction, whole_fraction}, Trees.{AllParts, Tree, num, symbol, undef, add, mult, power, root, neg, sub, div, Trees, none, more, is_sub, is_div}}
use Rattle.calc_language.specs.Tokens.{times_sign, root_sign}

-- the digits of n in front of those; n is below 10 ^ steps
abbrev pub digits_before : ℕ → ℕ → List ℕ → List ℕ
digits_before zero n behind = behind
digits_before (suc steps) n behind = elim (n / 10) [ zero ↦ (48 + n) ∷ behind | suc m ↦ digits_before steps (n / 10) ((48 + n % 10) ∷ behind) ]

-- the digits of n in base ten
unfoldable pub decimal : ℕ → List ℕ
decimal n = digits_before (suc n) n []

-- how tightly the root of a tree binds
abbrev pub level : Tree → ℕ
level (add ts) = 0
level (sub a b) = 0
level (neg a) = 1
level (mult ts) = 2
level (div a b) = 2
level (power b e) = 3
level _ = 4

-- where a tree stands
pub data Place : Type 0 where
  whole_text first_of_sum left_of_difference later_of_sum first_of_product left_of_quotient later_of_product base exponent : Place

-- level 3 and above, and Neg of such a tree
abbrev pub admits_signed : Tree → Bool
admits_signed (neg a) = admits_signed a
admits_signed t = nat_le 3 (level t)

-- the tree needs no parentheses there
abbrev pub admits : Place → Tree → Bool
admits whole_text t = true
admits first_of_sum t = nat_le 1 (level t) || is_sub t
admits left_of_difference t = true
admits later_of_sum t = nat_le 1 (level t)
admits first_of_product t = nat_le 3 (level t) || is_div t
admits left_of_quotient t = nat_le 2 (level t)
admits later_of_product t = admits_signed t
admits base t = nat_le 4 (level t)
admits exponent t = admits_signed t

abbrev pub in_parentheses : List ℕ → List ℕ
in_parentheses bytes = codes "(" ++ bytes ++ codes ")"

-- the text of t where it stands
abbrev pub at_place : Place → Tree → List ℕ → List ℕ
at_place p t bytes = if admits p t then bytes else in_parentheses bytes

abbrev mutual
  pub text : Tree → List ℕ
  text (num q) = decimal (nat_abs q.num)
  text (symbol x) = x
  text undef = codes "undef"
  text (add ts) = text_of_sum ts
  text (mult ts) = text_of_product ts
  text (power b e) = at_place base b (text b) ++ codes "^" ++ at_place exponent e (text e)
  text (root a) = root_sign ++ in_parentheses (text a)
  text (neg a) = codes "-" ++ at_place later_of_sum a (text a)
  text (sub a b) = text a ++ codes "-" ++ at_place later_of_sum b (text b)
  text (div a b) = at_place left_of_quotient a (text a) ++ codes "/" ++ at_place later_of_product b (text b)

  pub text_of_sum : Trees → List ℕ
  text_of_sum none = []
  text_of_sum (more t ts) = at_place first_of_sum t (text t) ++ text_of_terms ts

  pub text_of_terms : Trees → List ℕ
  text_of_terms none = []
  text_of_terms (more t ts) = codes "+" ++ at_place later_of_sum t (text t) ++ text_of_terms ts

  pub text_of_product : Trees → List ℕ
  text_of_product none = []
  text_of_product (more t ts) = at_place first_of_product t (text t) ++ text_of_factors ts

  pub text_of_factors : Trees → List ℕ
  text_of_factors none = []
  text_of_factors (more t ts) = times_sign ++ at_place later_of_product t (text t) ++ text_of_factors ts

-- ---- what can be written

-- a whole number of at least 0
abbrev pub IsNatural : Fraction → Type 0
IsNatural q = (n : ℕ) × (q ≡ whole_fraction (pos n))

-- each rational in it is a whole number of at least 0, and each symbol a name
abbrev mutual
  pub IsWritable : Tree → Type 0
  IsWritable (num q) = IsNatural q
  IsWritable (symbol x) = is_name x ≡ true
  IsWritable undef = ⊤
  IsWritable (add ts) = AreWritable ts
  IsWritable (mult ts) = AreWritable ts
  IsWritable (power b e) = IsWritable b × IsWritable e
  IsWritable (root a) = IsWritable a
  IsWritable (neg a) = IsWritable a
  IsWritable (sub a b) = IsWritable a × IsWritable b
  IsWritable (div a b) = IsWritable a × IsWritable b

  pub AreWritable : Trees → Type 0
  AreWritable none = ⊤
  AreWritable (more t ts) = IsWritable t × AreWritable ts

abbrev pub IsNamed : Tree → Type 0
IsNamed (symbol x) = is_name x ≡ true
IsNamed _ = ⊤

-- each symbol in it is a name
abbrev pub HasNames : Tree → Type 0
HasNames t = AllParts IsNamed t
