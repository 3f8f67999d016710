-- The automaton by what was opened last.
use Rattle.calc_parser.proofs.Shared.{ℕ, ◌+◌, ◌≡◌, ◌≤◌, ◌<◌, List, [], ◌∷◌, ◌++◌, map, length, Some, None, ap, ◌∙◌, arith, length-append, map-append, Token}
use Rattle.calc_parser.proofs.Shared.{Step, Open, Kind, Node, parent, completed, complete, ended, place_in, take_place, weight, innermost, outer, innermost_completed, innermost_place, node_of}
use Rattle.calc_parser.specs.{declared.nesting.Level.Level, declared.nesting.Place.TheVariants.{Child, Right}}

pub some_completed : (l : Level) (s : List Open) (x : Open) → Some x ≡ innermost s → completed l x ≡ innermost_completed l s
some_completed l s x e = grind arith

-- one more ends
pub complete_one : (l : Level) (s : List Open) (o : List Node) (n : Node) → Some n ≡ innermost_completed l s → complete l (outer s) (o ++ n ∷ []) ≡ complete l s o
complete_one l s o n e = grind arith

-- none is left
pub complete_none : (l : Level) (s : List Open) (o : List Node) → None ≡ innermost_completed l s → (s, o) ≡ complete l s o
complete_none l s o e = grind arith

-- what ends has a weight
pub completed_weight : (l : Level) (s : List Open) (n : Node) → Some n ≡ innermost_completed l s → weight (outer s) + 1 ≤ weight s
completed_weight l s n e = grind arith

pub completed_length : (l : Level) (s : List Open) (n : Node) → Some n ≡ innermost_completed l s → length (outer s) < length s
completed_length l s n e = grind arith

-- a step more is a node more
pub nodes_pushed : (ts : List Token) (old new : List Step) (step : Step) → new ≡ old ++ step ∷ [] → map (node_of ts) new ≡ map (node_of ts) old ++ node_of ts step ∷ []
nodes_pushed ts old new step e = ap (map (node_of ts)) e ∙ map-append (node_of ts) old (step ∷ [])

pub length_pushed : (old new : List Step) (step : Step) → new ≡ old ++ step ∷ [] → length new ≡ length old + 1
length_pushed old new step e = ap length e ∙ length-append old (step ∷ [])

-- ---- where a part stands

pub some_place : (l : Level) (s : List Open) (x : Open) → Some x ≡ innermost s → place_in l x ≡ innermost_place l s
some_place l s x e = grind arith

pub place_child : (l : Level) (s : List Open) (o : List Node) (k : ℕ) → Some (Child k) ≡ innermost_place l s → ended (outer s) o (k + 1) ≡ take_place l s o
place_child l s o k e = grind arith

pub place_right : (l : Level) (s : List Open) (o : List Node) (k : Kind) → Some (Right k) ≡ innermost_place l s → ended (outer s) (o ++ parent k 2 ∷ []) 1 ≡ take_place l s o
place_right l s o k e = grind arith

pub place_none : (l : Level) (s : List Open) (o : List Node) → None ≡ innermost_place l s → ended s o 1 ≡ take_place l s o
place_none l s o e = grind arith
