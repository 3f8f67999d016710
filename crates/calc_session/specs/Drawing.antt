-- Pictures of the last answer, and how drawing them ends.
use Rattle.std.specs.{Prelude.{ℕ, zero, suc, ◌≡◌, List, [], ◌∷◌, ◌++◌, Option, Some, None, Result, Ok, Err, encode_utf8_all}, Io.KnownBytes.{Appends}}
use Rattle.calc_edges.specs.{Faults.{StopsAtFailure}, declared.failures.Failures.{Failures}, Taken.{AppendsPart}}
use Rattle.calc_terms.specs.Trees.{Tree}
use Rattle.node_pool.specs.{declared.full.Full.{Full}, State.{State as PoolState, free_of}}
use Rattle.pool_layouts.specs.{Building.{laying}, Layouts.{Layout, layout}, Pictures.{Block, cut, height, picture}, Serial.{serial}, Latex.{latex}}
use Rattle.tree_handles.specs.{Expressions.{plain}, Inside.{tree_at}, Standing.{forest}}
use Rattle.calc_session.specs.declared.answers.DrawFault.{DrawFault}
use Rattle.calc_session.specs.{declared.drawing.Notation.{Notation}, declared.drawing.Notation.TheVariants.{Serial, Latex}}
use Rattle.calc_session.specs.declared.answers.DrawFault.TheVariants as fault
use Rattle.calc_session.specs.States.{State, free_bytes, trees}

-- ---- the rows of a picture

-- a row as it is written: without the blanks at its end, and with a newline
abbrev pub row_text : Block → ℕ → List ℕ
row_text b y = encode_utf8_all (cut (b.line y)) ++ 10 ∷ []

-- the first rows, so many
abbrev pub first_rows : Block → ℕ → List ℕ
first_rows b zero = []
first_rows b (suc y) = first_rows b y ++ row_text b y

-- all rows of the picture of a layout
abbrev pub rows_text : Layout → List ℕ
rows_text l = first_rows (picture l) (height (picture l))

-- ---- the layout of a tree

-- what is told of the layout of a tree, where it finds room in so many bytes, and else how it is refused
abbrev pub told_of_layout : (Layout → List ℕ) → ℕ → Tree → Result (List ℕ) Full
told_of_layout told free t = elim (laying free (layout t)) [ Ok left ↦ Ok (told (layout t)) | Err full ↦ Err full ]

-- of the tree at an identifier, in the bytes that are free in the pool
abbrev pub told_at : (Layout → List ℕ) → ℕ → PoolState → Result (List ℕ) Full
told_at told i p = told_of_layout told (free_of p) (plain (tree_at i (forest p)))

-- of the last answer
abbrev pub told_of_answer : (Layout → List ℕ) → State → Result (List ℕ) Full
told_of_answer told s = told_of_layout told (free_bytes s) (plain (tree_at s.table.ans (trees s)))

-- the rows of the picture of the last answer
abbrev pub rows_in : State → Result (List ℕ) Full
rows_in s = told_of_answer rows_text s

-- what is told of a layout in one line
abbrev pub told_by : Notation → Layout → List ℕ
told_by Serial = serial
told_by Latex = latex

-- the text of its layout, as it is told so
abbrev pub line_in : Notation → State → Result (List ℕ) Full
line_in notation s = told_of_answer (told_by notation) s

-- the serial text of its layout
abbrev pub serial_in : State → Result (List ℕ) Full
serial_in s = told_of_answer serial s

-- and its LaTeX text
abbrev pub latex_in : State → Result (List ℕ) Full
latex_in s = told_of_answer latex s

-- the refusal, where there is one
abbrev pub lack_in : Result (List ℕ) Full → Option Full
lack_in (Ok text) = None
lack_in (Err full) = Some full

-- ---- how drawing ends, by the bytes that the sink tells before and after

-- all rows were taken
abbrev pub IsDrawn : Result (List ℕ) Full → Option (List ℕ) → Option (List ℕ) → Type 0
IsDrawn (Ok rows) taken taken' = Appends taken taken' rows
IsDrawn (Err full) taken taken' = ⊥

-- a part of them was
abbrev pub IsDrawnInPart : Result (List ℕ) Full → Option (List ℕ) → Option (List ℕ) → Type 0
IsDrawnInPart (Ok rows) taken taken' = AppendsPart taken taken' rows
IsDrawnInPart (Err full) taken taken' = ⊥

-- the layout finds no room, or a part of the rows was taken
abbrev pub FailsToDraw : Result (List ℕ) Full → Option (List ℕ) → Option (List ℕ) → DrawFault → Type 0
FailsToDraw rows taken taken' (fault.Full full) = rows ≡ Err full
FailsToDraw rows taken taken' fault.Write = IsDrawnInPart rows taken taken'

-- nothing was written, or the first write that failed was the last one
abbrev pub StopsDrawing : {X : Type 0} → (X → Option (List ℕ)) → (X → Failures) → X → X → DrawFault → Type 0
StopsDrawing taken faults old new (fault.Full full) = new ≡ old
StopsDrawing taken faults old new fault.Write = StopsAtFailure taken faults old new
