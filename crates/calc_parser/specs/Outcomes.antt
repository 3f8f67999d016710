-- What each answer of the check says.
use Rattle.std.specs.{Prelude.{List, Option}, Option.{option_map}}
use Rattle.calc_language.specs.Tokens.{Token}
use Rattle.calc_terms.specs.{Leaf.{name_of}, Limits.{depth_limit}, declared.name.Name.{Name}}
use Rattle.calc_parser.specs.{declared.checking.ParseFault.{ParseFault}, declared.checking.ParseFault.TheVariants.{Syntax, Deep}, Lines.{IsLineOver, IsLineWithin, IsNoLine}}

-- a line within the limit of depth, to be stored under the name where there is one
abbrev pub IsShallow : List Token → Option Name → Type 0
IsShallow ts store = IsLineWithin depth_limit ts (option_map name_of store)

abbrev pub IsFaultOf : List Token → ParseFault → Type 0
IsFaultOf ts Syntax = IsNoLine ts
IsFaultOf ts Deep = IsLineOver depth_limit ts
