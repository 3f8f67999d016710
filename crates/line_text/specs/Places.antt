-- The places where trees stand in a text, what is written before a tree there, and which trees need no parentheses there.
use Rattle.std.specs.Prelude.{ℕ, List, [], ◌++◌, Bool, true, false, ◌||◌, nat_le, if◌then◌else◌, codes}
use Rattle.calc_terms.specs.declared.kind.Kind.{Kind}
use Rattle.calc_terms.specs.declared.kind.Kind.TheVariants as kind
use Rattle.calc_language.specs.Texts.{whole_text, first_of_sum, left_of_difference, later_of_sum, first_of_product, left_of_quotient, later_of_product, base, exponent}
use Rattle.calc_language.specs.Texts as texts
use Rattle.calc_language.specs.Tokens.{times_sign, root_sign}
use Rattle.calc_terms.specs.Trees.{Tree, neg, root_kind}
use Rattle.line_text.specs.{declared.place.Place.{Place}, declared.place.Place.TheVariants.{WholeText, FirstOfSum, LaterOfSum, LeftOfDifference, RightOfDifference, UnderSign, FirstOfProduct}}
use Rattle.line_text.specs.declared.place.Place.TheVariants.{LaterOfProduct, LeftOfQuotient, RightOfQuotient, Base, Exponent, UnderRoot, AboveBar, BelowBar, Raised, InParentheses}

-- the place of the text rules
abbrev pub rule_of : Place → texts.Place
rule_of FirstOfSum = first_of_sum
rule_of LaterOfSum = later_of_sum
rule_of LeftOfDifference = left_of_difference
rule_of RightOfDifference = later_of_sum
rule_of UnderSign = later_of_sum
rule_of FirstOfProduct = first_of_product
rule_of LaterOfProduct = later_of_product
rule_of LeftOfQuotient = left_of_quotient
rule_of RightOfQuotient = later_of_product
rule_of Base = base
rule_of Exponent = exponent
rule_of p = whole_text

-- what is written before a tree there
abbrev pub sign_before : Place → List ℕ
sign_before LaterOfSum = codes "+"
sign_before RightOfDifference = codes "-"
sign_before UnderSign = codes "-"
sign_before LaterOfProduct = times_sign
sign_before RightOfQuotient = codes "/"
sign_before Exponent = codes "^"
sign_before UnderRoot = root_sign ++ codes "("
sign_before AboveBar = codes "(("
sign_before BelowBar = codes ")/("
sign_before Raised = codes "^("
sign_before InParentheses = codes "("
sign_before p = []

-- where the next child of the same node stands
abbrev pub next_place : Place → Place
next_place FirstOfSum = LaterOfSum
next_place LeftOfDifference = RightOfDifference
next_place FirstOfProduct = LaterOfProduct
next_place LeftOfQuotient = RightOfQuotient
next_place Base = Exponent
next_place AboveBar = BelowBar
next_place p = p

-- where the first child of a node stands
abbrev pub first_place : Kind → Place
first_place kind.Add = FirstOfSum
first_place kind.Mult = FirstOfProduct
first_place kind.Pow = Base
first_place kind.Root = UnderRoot
first_place kind.Neg = UnderSign
first_place kind.Sub = LeftOfDifference
first_place kind.Div = LeftOfQuotient
first_place kind.Fraction = AboveBar
first_place kind.Raised = Raised
first_place kind.Radical = UnderRoot
first_place kind.Paren = InParentheses
first_place k = WholeText

-- how tightly a root of a kind binds
abbrev pub level_of : Kind → ℕ
level_of kind.Add = 0
level_of kind.Sub = 0
level_of kind.Neg = 1
level_of kind.Mult = 2
level_of kind.Div = 2
level_of kind.Pow = 3
level_of k = 4

abbrev pub is_sub_kind : Kind → Bool
is_sub_kind kind.Sub = true
is_sub_kind k = false

abbrev pub is_div_kind : Kind → Bool
is_div_kind kind.Div = true
is_div_kind k = false

abbrev pub is_neg_kind : Kind → Bool
is_neg_kind kind.Neg = true
is_neg_kind k = false

-- the place looks through opposites at what they are of
abbrev pub skips_opposites : Place → Bool
skips_opposites LaterOfProduct = true
skips_opposites RightOfQuotient = true
skips_opposites Exponent = true
skips_opposites p = false

-- the kind of the root, or of the first node behind opposites
abbrev pub kind_behind_opposites : Tree → Kind
kind_behind_opposites (neg a) = kind_behind_opposites a
kind_behind_opposites t = root_kind t

-- the kind on which it depends there whether a tree needs parentheses
abbrev pub deciding_kind : Place → Tree → Kind
deciding_kind p t = if skips_opposites p then kind_behind_opposites t else root_kind t

-- trees for which that kind decides need no parentheses there
abbrev pub admits_kind : Place → Kind → Bool
admits_kind FirstOfSum k = nat_le 1 (level_of k) || is_sub_kind k
admits_kind LaterOfSum k = nat_le 1 (level_of k)
admits_kind RightOfDifference k = nat_le 1 (level_of k)
admits_kind UnderSign k = nat_le 1 (level_of k)
admits_kind FirstOfProduct k = nat_le 3 (level_of k) || is_div_kind k
admits_kind LaterOfProduct k = nat_le 3 (level_of k)
admits_kind LeftOfQuotient k = nat_le 2 (level_of k)
admits_kind RightOfQuotient k = nat_le 3 (level_of k)
admits_kind Base k = nat_le 4 (level_of k)
admits_kind Exponent k = nat_le 3 (level_of k)
admits_kind p k = true
