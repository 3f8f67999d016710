-- Labelled trees of the language, and the plain trees that they are.
use Rattle.std.specs.Prelude.{ℕ, zero, suc, ◌≡◌, ◌==◌, Bool, true, false}
use Rattle.calc_terms.specs.declared.kind.Kind.{Kind}
use Rattle.calc_terms.specs.declared.kind.Kind.TheVariants as kind
use Rattle.calc_terms.specs.{Fractions.{lowest}, Payload.{Payload, rational, named, bare}, Trees.{Tree, num, symbol, undef, add, mult, power, root, neg, sub, div, Trees, none, more, append}}
use Rattle.tree_handles.specs.{Forest.{Label, Forest, empty, tree, AllNodes}, Inside.{holds, tree_at}}

-- the tree at a place among trees, counted from 0; Undef where there is none
abbrev pub nth : ℕ → Trees → Tree
nth n none = undef
nth zero (more t ts) = t
nth (suc n) (more t ts) = nth n ts

-- a node of a kind over plain trees; a kind that is none of the language makes Undef
abbrev pub compound : Kind → Trees → Tree
compound kind.Add ts = add ts
compound kind.Mult ts = mult ts
compound kind.Pow ts = power (nth 0 ts) (nth 1 ts)
compound kind.Root ts = root (nth 0 ts)
compound kind.Neg ts = neg (nth 0 ts)
compound kind.Sub ts = sub (nth 0 ts) (nth 1 ts)
compound kind.Div ts = div (nth 0 ts) (nth 1 ts)
compound k ts = undef

-- a node that holds this, over plain trees
abbrev pub grown : Payload → Trees → Tree
grown (rational r) ts = num (lowest r.num r.den)
grown (named x) ts = symbol x
grown (bare k) ts = compound k ts

-- the plain trees of a forest
abbrev pub plains : Forest → Trees
plains empty = none
plains (tree l k r) = more (grown l.payload (plains k)) (plains r)

-- the plain tree of its first tree
abbrev pub plain : Forest → Tree
plain f = nth 0 (plains f)

-- trees put in at a place among others, counted from 0
abbrev pub inserted : ℕ → Trees → Trees → Trees
inserted zero us ts = append us ts
inserted (suc n) us none = us
inserted (suc n) us (more t ts) = more t (inserted n us ts)

-- ---- the right number of children

abbrev pub takes_kind : Kind → ℕ → Bool
takes_kind kind.Undef n = n == 0
takes_kind kind.Add n = true
takes_kind kind.Mult n = true
takes_kind kind.Pow n = n == 2
takes_kind kind.Root n = n == 1
takes_kind kind.Neg n = n == 1
takes_kind kind.Sub n = n == 2
takes_kind kind.Div n = n == 2
takes_kind k n = false

abbrev pub takes : Payload → ℕ → Bool
takes (rational r) n = n == 0
takes (named x) n = n == 0
takes (bare k) n = takes_kind k n

abbrev pub IsWhole : Label → ℕ → Type 0
IsWhole l n = takes l.payload n ≡ true

-- trees of the language: each node has a number of children that its kind takes
abbrev pub AllExpressions : Forest → Type 0
AllExpressions f = AllNodes IsWhole f

-- a node whose tree is one of the language
pub record IsExpression (i : ℕ) (f : Forest) : Type 0 where
  pub live : holds i f ≡ true
  pub whole : AllExpressions (tree_at i f)

-- ---- plain trees, as the readers see them

-- the trees below its root
abbrev pub children_of : Tree → Trees
children_of (num q) = none
children_of (symbol x) = none
children_of undef = none
children_of (add ts) = ts
children_of (mult ts) = ts
children_of (power b e) = more b (more e none)
children_of (root a) = more a none
children_of (neg a) = more a none
children_of (sub a b) = more a (more b none)
children_of (div a b) = more a (more b none)
