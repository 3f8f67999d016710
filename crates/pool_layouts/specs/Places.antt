-- The marks before the parts of a face in its layout, and what the parts stand in, by their places.
use Rattle.std.specs.Prelude.{Bool, if◌then◌else◌, Option, Some, None}
use Rattle.calc_terms.specs.declared.kind.Kind.{Kind}
use Rattle.calc_terms.specs.declared.kind.Kind.TheVariants as kind
use Rattle.calc_terms.specs.{Payload.{Payload, rational, named, bare}, Trees.{Tree, Trees, none, more, root_kind}}
use Rattle.line_text.specs.{Places.{next_place, is_div_kind, deciding_kind, admits_kind}, declared.place.Place.{Place}, declared.place.Place.TheVariants.{WholeText, LaterOfSum, RightOfDifference}}
use Rattle.line_text.specs.declared.place.Place.TheVariants.{UnderSign, LaterOfProduct, LeftOfQuotient, RightOfQuotient, Base, Exponent, UnderRoot}
use Rattle.pool_layouts.specs.{Layouts.{Layout, Layouts, nothing, beside, one_part, join_parts, layout}, Drawings.{composed}}

-- the mark before a tree there
abbrev pub mark_before : Place → Option Kind
mark_before LaterOfSum = Some kind.Plus
mark_before RightOfDifference = Some kind.Minus
mark_before UnderSign = Some kind.Minus
mark_before LaterOfProduct = Some kind.Times
mark_before p = None

abbrev pub paren_kind_unless : Bool → Option Kind
paren_kind_unless fits_there = if fits_there then None else Some kind.Paren

-- what a tree there stands in, by the kind of its root and the kind that decides: in a row a fraction stands in nothing, and another
-- tree in parentheses unless it is admitted
abbrev pub around_kind : Place → Kind → Kind → Option Kind
around_kind WholeText k deciding = None
around_kind UnderRoot k deciding = None
around_kind LeftOfQuotient k deciding = None
around_kind RightOfQuotient k deciding = None
around_kind Exponent k deciding = Some kind.Raised
around_kind Base k deciding = paren_kind_unless (admits_kind Base k)
around_kind p k deciding = if is_div_kind k then None else paren_kind_unless (admits_kind p deciding)

abbrev pub around_of : Place → Tree → Option Kind
around_of p t = around_kind p (root_kind t) (deciding_kind p t)

-- ---- layouts by places

abbrev pub within : Option Kind → Layout → Layout
within None l = l
within (Some k) l = composed k (one_part l)

abbrev pub marks : Option Kind → Layouts
marks None = nothing
marks (Some k) = one_part (composed k nothing)

-- the parts that trees side by side make, the first of them at a place
abbrev pub parts_from : Place → Trees → Layouts
parts_from p none = nothing
parts_from p (more t ts) = join_parts (marks (mark_before p)) (beside (within (around_of p t) (layout t)) (parts_from (next_place p) ts))

-- the kind of a layout's node for a node of a face
abbrev pub laid_kind : Kind → Kind
laid_kind kind.Div = kind.Fraction
laid_kind kind.Root = kind.Radical
laid_kind k = kind.Row

abbrev pub laid : Payload → Payload
laid (rational r) = rational r
laid (named x) = named x
laid (bare k) = bare (laid_kind k)
