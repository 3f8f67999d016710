-- Layout trees in a pool, and the layouts that they are.
use Rattle.std.specs.Prelude.{ℕ, zero, suc, ◌≡◌, ◌==◌, Bool, true, false}
use Rattle.calc_terms.specs.declared.kind.Kind.{Kind}
use Rattle.calc_terms.specs.declared.kind.Kind.TheVariants as kind
use Rattle.calc_terms.specs.{Fractions.{lowest}, Payload.{Payload, rational, named, bare}}
use Rattle.tree_handles.specs.{Forest.{Label, Forest, empty, tree, AllNodes}, Handed.{Ends, AllOnce}, Inside.{holds, tree_at}}
use Rattle.pool_layouts.specs.Layouts.{Layout, number, name, plus, minus, times, row, fraction, raised, radical, paren, Layouts, nothing, beside}

-- the part at a place among others, counted from 0
abbrev pub part : ℕ → Layouts → Layout
part n nothing = row nothing
part zero (beside l ls) = l
part (suc n) (beside l ls) = part n ls

-- a node of a kind over its parts; a kind of which no layout consists makes an empty row
abbrev pub composed : Kind → Layouts → Layout
composed kind.Plus ls = plus
composed kind.Minus ls = minus
composed kind.Times ls = times
composed kind.Row ls = row ls
composed kind.Fraction ls = fraction (part 0 ls) (part 1 ls)
composed kind.Raised ls = raised (part 0 ls)
composed kind.Radical ls = radical (part 0 ls)
composed kind.Paren ls = paren (part 0 ls)
composed k ls = row nothing

-- a node that holds this, over its parts
abbrev pub drawn : Payload → Layouts → Layout
drawn (rational r) ls = number (lowest r.num r.den)
drawn (named x) ls = name x
drawn (bare k) ls = composed k ls

-- the layouts of a forest
abbrev pub drawings : Forest → Layouts
drawings empty = nothing
drawings (tree l k r) = beside (drawn l.payload (drawings k)) (drawings r)

-- the layout of its first tree
abbrev pub drawing : Forest → Layout
drawing f = part 0 (drawings f)

-- ---- the right number of parts

abbrev pub composes_kind : Kind → ℕ → Bool
composes_kind kind.Plus n = n == 0
composes_kind kind.Minus n = n == 0
composes_kind kind.Times n = n == 0
composes_kind kind.Row n = true
composes_kind kind.Fraction n = n == 2
composes_kind kind.Raised n = n == 1
composes_kind kind.Radical n = n == 1
composes_kind kind.Paren n = n == 1
composes_kind k n = false

abbrev pub composes : Payload → ℕ → Bool
composes (rational r) n = n == 0
composes (named x) n = n == 0
composes (bare k) n = composes_kind k n

abbrev pub IsComposed : Label → ℕ → Type 0
IsComposed l n = composes l.payload n ≡ true

-- layout trees: each node has a number of parts that its kind takes
abbrev pub AllComposed : Forest → Type 0
AllComposed f = AllNodes IsComposed f

-- a node whose tree is a layout tree
pub record IsLayout (i : ℕ) (f : Forest) : Type 0 where
  pub live : holds i f ≡ true
  pub composed_whole : AllComposed (tree_at i f)

-- one new layout tree, each of its nodes held once, stands last, behind the others as they were; and which layout it is
pub record GivesLayout (others new : Forest) (id : ℕ) (l : Layout) : Type 0 where
  pub tree : Forest
  pub ends : Ends id tree others new
  pub once : AllOnce tree
  pub composed_whole : AllComposed tree
  pub drawing_is : drawings tree ≡ beside l nothing
