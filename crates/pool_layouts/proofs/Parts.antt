-- The layout of a face, by its root and its children.
use Rattle.pool_layouts.proofs.Shared.{level_is, is_div_is, ◌≡◌, ◌∙◌, if◌then◌else◌, true, nat_le, None, refl, sym, ap, arith, eqb-true, Kind, Payload, bare, kind_of_payload, Tree, Trees, none, more}
use Rattle.pool_layouts.proofs.Shared.{count, root_kind, later_of_sum, admits_kind, deciding_kind, rule_of, Place, is_div_kind, admits_is, grown, compound, takes, takes_kind}
use Rattle.pool_layouts.proofs.Shared.{FirstOfSum, LaterOfSum, LeftOfDifference, RightOfDifference, UnderSign, FirstOfProduct, LaterOfProduct, Base, Layout, plus, minus, times, row, raised, Layouts}
use Rattle.pool_layouts.proofs.Shared.{beside, one_part, unless, boxed, layout, layout_of_sum, layout_of_terms, layout_of_product, layout_of_factors, drawn, first_place, paren_kind_unless, around_of}
use Rattle.pool_layouts.proofs.Shared.{within, parts_from, laid}
use Rattle.calc_language.specs.Texts.{level}
use Rattle.calc_terms.specs.declared.kind.Kind.TheVariants as kind

-- ---- what a tree stands in

-- in a row
box : (p : Place) (t : Tree) (l : Layout) → within (if is_div_kind (root_kind t) then None else paren_kind_unless (admits_kind p (deciding_kind p t))) l ≡ boxed (rule_of p) t l
box p t l = grind (arith, is_div_is, admits_is)

box_base : (t : Tree) (l : Layout) → within (around_of Base t) l ≡ unless (nat_le 4 (level t)) l
box_base t l = grind (arith, level_is)

-- ---- the parts of sums and products

both : {a b : Layout} {ls ms : Layouts} → a ≡ b → ls ≡ ms → beside a ls ≡ beside b ms
both {a = a} {b = b} {ls = ls} {ms = ms} e h = ap (λ x. beside x ls) e ∙ ap (beside b) h

terms_are : (ts : Trees) → parts_from LaterOfSum ts ≡ layout_of_terms ts
terms_are none = refl
terms_are (more t ts) = ap (beside plus) (both (box LaterOfSum t (layout t)) (terms_are ts))

sum_is : (ts : Trees) → parts_from FirstOfSum ts ≡ layout_of_sum ts
sum_is none = refl
sum_is (more t ts) = both (box FirstOfSum t (layout t)) (terms_are ts)

factors_are : (ts : Trees) → parts_from LaterOfProduct ts ≡ layout_of_factors ts
factors_are none = refl
factors_are (more t ts) = ap (beside times) (both (box LaterOfProduct t (layout t)) (factors_are ts))

product_is : (ts : Trees) → parts_from FirstOfProduct ts ≡ layout_of_product ts
product_is none = refl
product_is (more t ts) = both (box FirstOfProduct t (layout t)) (factors_are ts)

-- ---- a node

compound_is : (k : Kind) (ts : Trees) → takes_kind k (count ts) ≡ true → layout (compound k ts) ≡ drawn (laid (bare k)) (parts_from (first_place k) ts)
compound_is kind.Add ts h = ap row (sym (sum_is ts))
compound_is kind.Mult ts h = ap row (sym (product_is ts))
compound_is kind.Pow (more b (more e none)) h = ap (λ x. row (beside x (one_part (raised (layout e))))) (sym (box_base b (layout b)))
compound_is kind.Root (more a none) h = refl
compound_is kind.Neg (more a none) h = ap (λ x. row (beside minus (one_part x))) (sym (box UnderSign a (layout a)))
compound_is kind.Sub (more a (more b none)) h =
    ap (λ x. row (beside x (beside minus (one_part (boxed later_of_sum b (layout b)))))) (sym (box LeftOfDifference a (layout a)))
    ∙ ap (λ x. row (beside (within (around_of LeftOfDifference a) (layout a)) (beside minus (one_part x)))) (sym (box RightOfDifference b (layout b)))
compound_is kind.Div (more a (more b none)) h = refl
compound_is kind.Undef none h = refl
compound_is k ts h = absurd (grind (arith, eqb-true))

pub layout_is : (x : Payload) (ts : Trees) → takes x (count ts) ≡ true → layout (grown x ts) ≡ drawn (laid x) (parts_from (first_place (kind_of_payload x)) ts)
layout_is x ts h = grind (arith, compound_is)
