-- What is still to be written of a face, and the trees that it comes to.
use Rattle.std.specs.Prelude.{ℕ, ◌≡◌, ◌≤◌, ◌+◌, ◌-◌, ◌*◌, ⊤, List, [], ◌∷◌, true, nat_abs}
use Rattle.beautify.specs.{Lists.{first, behind}, Showing.{IsShowable, stands_below}, declared.pending.Form.{Form}, declared.pending.Form.TheVariants.{Face, Unsigned, Divisor}}
use Rattle.beautify.specs.{declared.pending.Pending.{Pending}, declared.pending.Pending.TheVariants.{Over, One, Name, Numerator, Denominator, Part}}
use Rattle.calc_language.specs.Faces.{face, unsigned_face, power_below, exponent_below}
use Rattle.calc_terms.specs.{Payload.{Payload, size_of_payload}, Trees.{Tree, num, power, Trees, none, more, count, is_num, is_symbol, size, whole_num, AllParts}}
use Rattle.tree_handles.specs.{Expressions.{IsExpression, plain, compound, grown, takes, takes_kind}, Forest.{Forest}, Inside.{tree_at}}

-- ---- the trees

-- what a power has below the line
abbrev pub divisor_of : Tree → Tree
divisor_of (power b e) = power_below (face b) (exponent_below e)
divisor_of t = t

-- a tree in a form
abbrev pub in_form : Form → Tree → Tree
in_form Face t = face t
in_form Unsigned t = unsigned_face t
in_form Divisor t = divisor_of t

-- the whole numbers in a rational, without its sign
abbrev pub numerator_of : Tree → Tree
numerator_of (num q) = whole_num (nat_abs q.num)
numerator_of t = t

abbrev pub denominator_of : Tree → Tree
denominator_of (num q) = whole_num q.den
denominator_of t = t

-- it before trees: a node takes its children from them
abbrev pub with_next : Pending → Forest → Trees → Trees
with_next (Over k n) f us = more (compound k (first n us)) (behind n us)
with_next One f us = more (whole_num 1) us
with_next (Name i) f us = more (plain (tree_at i f)) us
with_next (Numerator i) f us = more (numerator_of (plain (tree_at i f))) us
with_next (Denominator i) f us = more (denominator_of (plain (tree_at i f))) us
with_next (Part form i) f us = more (in_form form (plain (tree_at i f))) us

-- what a list owes before trees, the last of it first
abbrev pub owed_before : List Pending → Forest → Trees → Trees
owed_before [] f us = us
owed_before (p ∷ ps) f us = owed_before ps f (with_next p f us)

-- ---- what can be written

-- a tree has the form
abbrev pub TakesForm : Form → Tree → Type 0
TakesForm Divisor t = stands_below t ≡ true
TakesForm form t = ⊤

pub record IsReadyPart (form : Form) (i : ℕ) (f : Forest) : Type 0 where
  pub expression : IsExpression i f
  pub showable : AllParts IsShowable (plain (tree_at i f))
  pub takes-it : TakesForm form (plain (tree_at i f))

-- a node finds the trees that it takes, or the leaf that it copies
abbrev pub IsReady : Pending → Forest → Trees → Type 0
IsReady (Over k n) f us = (takes_kind k n ≡ true) × (n ≤ count us)
IsReady One f us = ⊤
IsReady (Name i) f us = IsExpression i f × (is_symbol (plain (tree_at i f)) ≡ true)
IsReady (Numerator i) f us = IsExpression i f × (is_num (plain (tree_at i f)) ≡ true)
IsReady (Denominator i) f us = IsExpression i f × (is_num (plain (tree_at i f)) ≡ true)
IsReady (Part form i) f us = IsReadyPart form i f

abbrev pub AreReady : List Pending → Forest → Trees → Type 0
AreReady [] f us = ⊤
AreReady (p ∷ ps) f us = IsReady p f us × AreReady ps f (with_next p f us)

-- ---- one node

abbrev pub IsNode : Pending → Type 0
IsNode (Part form i) = ⊥
IsNode p = ⊤

-- how many of the trees behind it a node takes
abbrev pub children_taken : Pending → ℕ
children_taken (Over k n) = n
children_taken p = 0

-- ---- bytes

-- those of a tree in a form: its face has at most four times its bytes, with some to spare
abbrev pub form_room : Form → Tree → ℕ
form_room Face t = 4 * size t - 3
form_room Unsigned t = 4 * size t - 12
form_room Divisor t = 8 + (4 * size t - 48)

-- those of a node at most
abbrev pub next_room : Pending → Forest → ℕ
next_room (Over k n) f = 8
next_room One f = 16
next_room (Name i) f = 16
next_room (Numerator i) f = 40
next_room (Denominator i) f = 40
next_room (Part form i) f = form_room form (plain (tree_at i f))

-- what a node of the pool holds where it is that node
pub record IsWritten (p : Pending) (f : Forest) (x : Payload) : Type 0 where
  pub takes-them : (us : Trees) → IsReady p f us → (takes x (children_taken p) ≡ true) × (children_taken p ≤ count us)
  pub least : 8 ≤ size_of_payload x
  pub most : size_of_payload x ≤ next_room p f
  pub grows : (us : Trees) → with_next p f us ≡ more (grown x (first (children_taken p) us)) (behind (children_taken p) us)

abbrev pub rooms : List Pending → Forest → ℕ
rooms [] f = 0
rooms (p ∷ ps) f = next_room p f + rooms ps f

-- ---- a list of what is still to be written

-- it owes these trees, in at most so many bytes
pub record Owes (ps : List Pending) (f : Forest) (us : Trees) (room : ℕ) : Type 0 where
  pub trees : owed_before ps f none ≡ us
  pub ready : AreReady ps f none
  pub bytes : rooms ps f ≤ room
