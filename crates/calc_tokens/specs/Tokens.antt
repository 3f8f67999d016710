-- What a list of scanned tokens stands for.
use Rattle.std.specs.{Prelude.{ℕ, List, map}, Borrow.{Bor}}
use Rattle.calc_terms.specs.{Rat.{value_of}, Leaf.{name_of}}
use Rattle.calc_language.specs.Tokens as grammar
use Rattle.calc_tokens.specs.{declared.tokens.What.{What}, declared.tokens.What.TheVariants.{Number, Name, Plus, Minus, Times, Slash, Caret, Left, Right, Root, Undef, Arrow}}
use Rattle.calc_tokens.specs.{declared.tokens.Token.{Token}, declared.tokens.Tokens.{Tokens}, Placed.{Placed}}

-- the grammar's token
abbrev pub token_of : What → grammar.Token
token_of (Number r) = grammar.literal (value_of r)
token_of (Name x) = grammar.name (name_of x)
token_of Plus = grammar.plus_mark
token_of Minus = grammar.minus_mark
token_of Times = grammar.times_mark
token_of Slash = grammar.slash_mark
token_of Caret = grammar.caret_mark
token_of Left = grammar.left_mark
token_of Right = grammar.right_mark
token_of Root = grammar.root_mark
token_of Undef = grammar.undef_mark
token_of Arrow = grammar.arrow_mark

abbrev pub placed : Token → Placed
placed t = record { token = token_of t.what; at = t.at }

-- the tokens from left to right
abbrev pub tokens_of : Tokens → List Placed
tokens_of ts = map placed ts.items.items

-- a token with what stands behind it
abbrev pub front_of : What × Bor (List ℕ) → grammar.Token × List ℕ
front_of found = (token_of found.0, found.1.now)
