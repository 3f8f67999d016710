-- What the reader's fields stand for.
use Rattle.std.specs.Prelude.{ℕ, ◌+◌, ◌≡◌, List, [], ◌∷◌, map, length, reverse, Option, Some, None, Result, Ok, Err, slice_index_or}
use Rattle.calc_language.specs.Tokens.{Token, undef_mark}
use Rattle.calc_parser.specs.{declared.nesting.Open.{Open}, declared.nesting.Level.{Level}, declared.nesting.Place.{Place}, declared.nesting.Nesting.{Nesting}, declared.postfix.Step.{Step}}
use Rattle.calc_parser.specs.{declared.postfix.Step.TheVariants.{Leaf, Node as Parent}, declared.postfix.Postfix.{Postfix}, declared.reader.Reader.{Reader}, Postfix.{Node, leaf, parent}}
use Rattle.calc_parser.specs.Automaton.{State, state, Ended, ended, completed, place_in, weight}
use Rattle.calc_tokens.specs.{declared.tokens.Token.{Token as Placed}, Tokens.{token_of}}

-- what is open, the last first
abbrev pub open_in : Nesting → List Open
open_in n = reverse n.items.items

abbrev pub innermost : List Open → Option Open
innermost [] = None
innermost (x ∷ s) = Some x

abbrev pub outer : List Open → List Open
outer [] = []
outer (x ∷ s) = s

abbrev pub steps_in : Postfix → List Step
steps_in p = p.steps.items

-- a step as a node over these tokens
abbrev pub node_of : List Token → Step → Node
node_of ts (Leaf at) = leaf (slice_index_or ts at undef_mark)
node_of ts (Parent k n) = parent k n

abbrev pub nodes_in : List Token → Postfix → List Node
nodes_in ts p = map (node_of ts) (steps_in p)

abbrev pub state_in : List Token → Reader → State
state_in ts r = state r.expects (open_in r.nesting) (nodes_in ts r.postfix)

abbrev pub ended_in : List Token → Reader → ℕ → Ended
ended_in ts r n = ended (open_in r.nesting) (nodes_in ts r.postfix) n

-- the room that a reader takes
abbrev pub room_in : Reader → ℕ
room_in r = length (steps_in r.postfix) + weight (open_in r.nesting)

-- the token at this place
abbrev pub token_in : List Token → ℕ → Token
token_in ts at = slice_index_or ts at undef_mark

-- the tokens without their places
abbrev pub tokens_in : List Placed → List Token
tokens_in = map (λ t. token_of t.what)

-- the node that what was opened last makes with a part of this level
abbrev pub innermost_completed : Level → List Open → Option Node
innermost_completed l [] = None
innermost_completed l (x ∷ s) = completed l x

abbrev pub innermost_place : Level → List Open → Option Place
innermost_place l [] = None
innermost_place l (x ∷ s) = place_in l x

-- on Ok this is the next state; on Err there is none
abbrev pub IsStep : {T E : Type 0} → Result T E → State → Option State → Type 0
IsStep (Ok x) st next = next ≡ Some st
IsStep (Err e) st next = next ≡ None
