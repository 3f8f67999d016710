-- What is painted of a row of a picture, step by step.
use Rattle.std.specs.Prelude.{ℕ, ◌+◌, ◌*◌, ◌-◌, ◌/◌, max, nat_lt, ◌==◌, if◌then◌else◌, ◌≡◌, ◌≤◌, ◌<◌, ◌^◌, ◌≢◌, List, [], ◌∷◌, ◌++◌, nat_abs, codes, drop, length, true, Option, Some, None}
use Rattle.calc_terms.specs.declared.kind.Kind.TheVariants as kind
use Rattle.calc_terms.specs.Payload.{Payload, rational, named, bare, IsPayload}
use Rattle.calc_language.specs.Texts.{decimal}
use Rattle.tree_handles.specs.{Forest.{Label, Forest, empty, tree, nodes_in, AllNodes}, Inside.{holds, payload_in}, declared.visits.Visit.{Visit}}
use Rattle.pool_layouts.specs.{declared.extents.Extent.{Extent}, declared.ink.Ink.{Ink}, declared.ink.Ink.TheVariants.{Nothing, Leaf, Bar, Roof, Root, Open, Close}, declared.steps.Span.{Span}}
use Rattle.pool_layouts.specs.declared.steps.Step.{Step}
use Rattle.pool_layouts.specs.declared.steps.Step.TheVariants as step
use Rattle.pool_layouts.specs.{declared.steps.Opened.{Opened}, Drawings.{drawn, drawings}, Extents.{HasSmall}, Pictures.{blanks, bar, roof, root_character, times_character, level, picture, pictures}}
use Rattle.pool_layouts.specs.Pictures.{level_lines}
use Rattle.tree_handles.specs.Visits.{visits_of}

-- ---- ink

-- the characters of a node that has no parts
abbrev pub leaf_characters : Payload → List ℕ
leaf_characters (rational r) = decimal (nat_abs r.num)
leaf_characters (named x) = x
leaf_characters (bare kind.Plus) = codes "+"
leaf_characters (bare kind.Minus) = codes "-"
leaf_characters (bare kind.Times) = times_character ∷ []
leaf_characters (bare k) = []

abbrev pub ink_characters : Forest → Ink → List ℕ
ink_characters f Nothing = []
ink_characters f (Leaf i) = leaf_characters (payload_in i f)
ink_characters f (Bar n) = bar n
ink_characters f (Roof n) = roof n
ink_characters f Root = root_character ∷ []
ink_characters f Open = codes "("
ink_characters f Close = codes ")"

-- characters, none of them a blank
abbrev pub IsBlack : List ℕ → Type 0
IsBlack [] = Unit {0}
IsBlack (c ∷ cs) = (c ≢ 32) × IsBlack cs

-- a node that has characters
abbrev pub IsInk : Forest → Ink → Type 0
IsInk f (Leaf i) = (holds i f ≡ true) × IsPayload (payload_in i f) × (leaf_characters (payload_in i f) ≢ [])
IsInk f ink = Unit {0}

-- what is written of ink behind so many blanks, and how many blanks are then owed
abbrev pub inked : ℕ → List ℕ → List ℕ
inked n [] = []
inked n (c ∷ cs) = blanks n ++ (c ∷ cs)

abbrev pub blanks_left : ℕ → List ℕ → ℕ
blanks_left n [] = n
blanks_left n (c ∷ cs) = 0

-- ---- steps

-- a node of a layout is found in the pool, with what it holds
abbrev pub IsFound : Forest → Label → ℕ → Type 0
IsFound base l n = (holds l.id base ≡ true) × (payload_in l.id base ≡ l.payload)

-- the nodes of these layout trees are listed in that span
pub record IsSpanOf (base : Forest) (cells : List Visit) (es : List Extent) (f : Forest) (span : Span) : Type 0 where
  pub small : HasSmall f span.at es
  pub cells_behind : List Visit
  pub cells_are : drop span.at cells ≡ visits_of f ++ cells_behind
  pub found : AllNodes (IsFound base) f
  pub end_is : span.end ≡ span.at + nodes_in f

-- a row of one layout
pub record ShowsPart (base : Forest) (cells : List Visit) (es : List Extent) (span : Span) (y : ℕ) (cs : List ℕ) : Type 0 where
  pub label : Label
  pub below : Forest
  pub listed : IsSpanOf base cells es (tree label below empty) span
  pub row_small : y ≤ 2 ^ 22
  pub line_is : cs ≡ (picture (drawn label.payload (drawings below))).line y

-- what one layout or more show in a row of a picture
pub record ShowsLevel (base : Forest) (cells : List Visit) (es : List Extent) (span : Span) (above y : ℕ) (cs : List ℕ) : Type 0 where
  pub label : Label
  pub below : Forest
  pub others : Forest
  pub listed : IsSpanOf base cells es (tree label below others) span
  pub above_small : above ≤ 2 ^ 20
  pub row_small : y ≤ 2 ^ 22
  pub lines_are : cs ≡ level_lines above y (pictures (drawings (tree label below others)))

-- the characters that a step paints
abbrev pub Shows : Forest → List Visit → List Extent → Step → List ℕ → Type 0
Shows base cells es (step.Blanks n) cs = cs ≡ blanks n
Shows base cells es step.Close cs = cs ≡ codes ")"
Shows base cells es (step.Part span y) cs = ShowsPart base cells es span y cs
Shows base cells es (step.Level span above y) cs = ShowsLevel base cells es span above y cs

abbrev pub ShowsIf : Forest → List Visit → List Extent → Option Step → List ℕ → Type 0
ShowsIf base cells es None cs = cs ≡ []
ShowsIf base cells es (Some s) cs = Shows base cells es s cs

-- how many steps may come of a step, and how many may stand side by side
abbrev pub weight : Step → ℕ
weight (step.Blanks n) = 1
weight step.Close = 1
weight (step.Part span y) = 3 * (span.end - span.at) - 1
weight (step.Level span above y) = 3 * (span.end - span.at) + 1

abbrev pub weight_if : Option Step → ℕ
weight_if None = 0
weight_if (Some s) = weight s

abbrev pub count : Step → ℕ
count (step.Blanks n) = 1
count step.Close = 1
count (step.Part span y) = span.end - span.at
count (step.Level span above y) = span.end - span.at

abbrev pub count_if : Option Step → ℕ
count_if None = 0
count_if (Some s) = count s

-- a step paints blanks, ink, and then what two further steps paint
pub record Opens (base : Forest) (cells : List Visit) (es : List Extent) (s : Step) (cs : List ℕ) (o : Opened) : Type 0 where
  pub first : List ℕ
  pub second : List ℕ
  pub whole : cs ≡ blanks o.blanks ++ (ink_characters base o.ink ++ (first ++ second))
  pub first_shown : ShowsIf base cells es o.first first
  pub second_shown : ShowsIf base cells es o.second second
  pub lighter : weight_if o.first + weight_if o.second < weight s
  pub fewer : count_if o.first + count_if o.second ≤ count s
  pub ink_is : IsInk base o.ink

abbrev pub ShowsSome : Forest → List Visit → List Extent → Step → Type 0
ShowsSome base cells es s = (cs : List ℕ) × Shows base cells es s cs

-- ---- what each step opens to

abbrev pub opened : ℕ → Ink → Option Step → Option Step → Opened
opened n ink first second = record { blanks = n; ink = ink; first = first; second = second }

abbrev pub span_of : ℕ → ℕ → Span
span_of at end = record { at = at; end = end }

abbrev pub part_of : ℕ → ℕ → ℕ → Option Step
part_of at end y = Some (step.Part (span_of at end) y)

-- the layouts that are left, where any are
abbrev pub level_if : ℕ → ℕ → ℕ → ℕ → Option Step
level_if at end above y = if nat_lt at end then Some (step.Level (span_of at end) above y) else None

-- the first of some layouts, and then the others
abbrev pub level_opened : Extent → Span → ℕ → ℕ → Opened
level_opened e span above y = elim (level above y e.above (e.above + 1 + e.below)) [
  | Some z ↦ opened 0 Nothing (part_of span.at (span.at + e.nodes) z) (level_if (span.at + e.nodes) span.end above y)
  | None ↦ opened e.width Nothing None (level_if (span.at + e.nodes) span.end above y)
]

-- a row with blanks on either side, of which there are so many
abbrev pub centred_opened : ℕ → Option Step → Opened
centred_opened n part = opened (n / 2) Nothing part (Some (step.Blanks (n - n / 2)))

abbrev pub fraction_opened : Extent → Extent → Span → ℕ → Opened
fraction_opened u l span y =
    let w = max u.width l.width in
    let h = u.above + 1 + u.below in
    if nat_lt y h then centred_opened (w - u.width) (part_of span.at (span.at + u.nodes) y)
    else (if y == h then opened 0 (Bar w) None None else centred_opened (w - l.width) (part_of (span.at + u.nodes) span.end (y - h - 1)))

abbrev pub raised_opened : Extent → Span → ℕ → Opened
raised_opened e span y = if nat_lt y (e.above + 1 + e.below) then opened 0 Nothing (part_of span.at span.end y) None else opened e.width Nothing None None

abbrev pub radical_opened : Extent → Span → ℕ → Opened
radical_opened e span y =
    if y == 0 then opened 1 (Roof e.width) None None
    else (if y == e.above + 1 then opened 0 Root (part_of span.at span.end (y - 1)) None else opened 1 Nothing (part_of span.at span.end (y - 1)) None)

abbrev pub paren_opened : Span → ℕ → Opened
paren_opened span y = opened 0 Open (part_of span.at span.end y) (Some step.Close)

abbrev pub row_opened : Extent → Span → ℕ → Opened
row_opened e span y = opened 0 Nothing None (level_if span.at span.end e.above y)

-- ---- a row

-- one step is noted, which paints this line of at most so many characters
pub record IsLine (base : Forest) (cells : List Visit) (es : List Extent) (steps : List Step) (line : List ℕ) : Type 0 where
  pub only : Step
  pub steps_are : steps ≡ only ∷ []
  pub shown : Shows base cells es only line
  pub fits : count only ≤ length cells
  pub short : length line ≤ 2 ^ 20
