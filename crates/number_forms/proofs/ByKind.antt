-- What the kind of a root and the number of its children tell of a tree.
use Rattle.number_forms.proofs.Shared.{◌≡◌, ap, ◌∙◌, true, arith, Fraction, Tree, num, add, mult, root, none, more, count, root_kind, is_mult, classes, value, is_number, IsSumOf, Same-refl}
use Rattle.number_forms.proofs.{Shared.{nth, children_of, count_terms}, Shaped.{added_number}}
use Rattle.calc_terms.specs.declared.kind.Kind.TheVariants as kind

-- ---- by kind

pub add_by_kind : (t : Tree) → root_kind t ≡ kind.Add → t ≡ add (children_of t)
add_by_kind t e = grind arith

pub product_by_children : (t : Tree) (q r : Fraction) → is_mult t ≡ true → count (children_of t) ≡ 2 → nth 0 (children_of t) ≡ num q → nth 1 (children_of t) ≡ root (num r)
    → t ≡ mult (more (num q) (more (root (num r)) none))
product_by_children (mult none) q r m e f g = absurd (omega arith)
product_by_children (mult (more a none)) q r m e f g = absurd (omega arith)
product_by_children (mult (more a (more b none))) q r m e f g = λ i. mult (more (f i) (more (g i) none))
product_by_children (mult (more a (more b (more x us)))) q r m e f g = absurd (omega arith)
product_by_children _ q r m e f g = cc

pub sum_classes : (t : Tree) → root_kind t ≡ kind.Add → classes t ≡ count (children_of t)
sum_classes t e = let s : t ≡ add (children_of t) = add_by_kind t e in ap classes s ∙ count_terms (children_of t)

pub sum_of_number : (t : Tree) → is_number t ≡ true → root_kind t ≡ kind.Add → IsSumOf (value t) t
sum_of_number t h e = grind (arith, add_by_kind, added_number, Same-refl)
