-- Trees that are placed for a form.
use Rattle.std.specs.Prelude.{ℕ, ◌≡◌, ◌≤◌, ◌<◌, ◌*◌, ⊤, List, Option, Some, None, Result, Ok, Err}
use Rattle.calc_terms.specs.{Fractions.{Fraction}, Trees.{Tree, Trees, none, more, count}}
use Rattle.dual_diff.specs.Placing.{Adds, AddsAll}
use Rattle.linear_solve.specs.Forms.{Form, free, bound}
use Rattle.node_pool.specs.{declared.full.Full.{Full}, State.{State}}
use Rattle.calc_session.specs.{declared.forms.Placed.{Placed}, SolutionTexts.{multiples}}

-- the last of the trees: there is none; or, where it is the only one, it stands there
abbrev pub IsLast : State → State → Trees → Option ℕ → Type 0
IsLast old now ts None = ts ≡ none
IsLast old now ts (Some h) = (0 < count ts) × ((t : Tree) → ts ≡ more t none → Adds old now t h)

-- these trees were placed behind all others
pub record IsPlaced (old now : State) (ts : Trees) (p : Placed) : Type 0 where
  pub adds : AddsAll old now ts
  pub trees : p.trees ≡ count ts
  pub last : IsLast old now ts p.last

-- five multiples at most are none of 0
abbrev pub IsSmall : List (List ℕ) → List Fraction → Type 0
IsSmall xs qs = count (multiples xs qs) ≤ 5

abbrev pub IsSmallForm : List (List ℕ) → Form → Type 0
IsSmallForm xs free = ⊤
IsSmallForm xs (bound q qs) = IsSmall xs qs

-- so many bytes suffice for the tree of a form and its face
abbrev pub form_room : ℕ
form_room = 2048

-- the most bytes of what is told of one name, with a comma before it
abbrev pub line_room : ℕ
line_room = 1408

-- of six names, the most that are told
abbrev pub solution_room : ℕ
solution_room = 6 * line_room

-- what was refused, where something was
abbrev pub lack_of : {A : Type 0} → Result A Full → Option Full
lack_of (Ok x) = None
lack_of (Err full) = Some full
