-- The words of the command line: `--pool N`, `--interrupt K`, `--draw` and `--gen N`, each at most once and in any order.
use Rattle.std.specs.{Prelude.{ℕ, ◌^◌, ◌%◌, List, [], ◌∷◌, drop, Bool, ◌&&◌, ◌==◌, eqb, nat_le, nat_lt, bytes_eq, is_some, true, false, if◌then◌else◌, Option, Some, None, codes}, List.{starts_with}}
use Rattle.std.specs.Option.{option_and_then, option_map}
use Rattle.calc_commands.specs.Numbers.{value_of}
use Rattle.poincare_run.specs.{declared.words.Values.{Values}, declared.words.Options.{Options}}

-- ---- what the words name

-- an option that has a value
pub data Key : Type 0 where
  Pool : Key
  Interrupt : Key
  Generated : Key

-- what is named so far, and the option whose value the next word is
pub record Reading : Type 0 where
  pub values : Values
  pub waiting : Option Key

-- no option is named
abbrev pub no_values : Values
no_values = record { pool = None; interrupt = None; generated = None; draw = false }

-- an option has this value, where it had none
abbrev pub with_number : Key → ℕ → Values → Option Values
with_number Pool n v = if is_some v.pool then None else Some (record v { pool = Some n })
with_number Interrupt n v = if is_some v.interrupt then None else Some (record v { interrupt = Some n })
with_number Generated n v = if is_some v.generated then None else Some (record v { generated = Some n })

abbrev pub with_value : Key → List ℕ → Values → Option Values
with_value key text v = option_and_then (λ n. with_number key n v) (value_of text)

-- the option whose name the word is; its value is the next word
abbrev pub key_of : List ℕ → Option Key
key_of word = if bytes_eq word (codes "--pool") then Some Pool else if bytes_eq word (codes "--interrupt") then Some Interrupt else if bytes_eq word (codes "--gen") then Some Generated else None

-- the option whose name stands in the word, with its value behind `=`
abbrev pub with_generated : List ℕ → Values → Option Values
with_generated word v = if starts_with eqb word (codes "--gen=") then with_value Generated (drop 6 word) v else None

abbrev pub with_interrupt : List ℕ → Values → Option Values
with_interrupt word v = if starts_with eqb word (codes "--interrupt=") then with_value Interrupt (drop 12 word) v else with_generated word v

abbrev pub with_pool : List ℕ → Values → Option Values
with_pool word v = if starts_with eqb word (codes "--pool=") then with_value Pool (drop 7 word) v else with_interrupt word v

-- the option that has no value, where it is not named yet
abbrev pub with_draw : Values → Option Values
with_draw v = if v.draw then None else Some (record v { draw = true })

abbrev pub with_word : List ℕ → Values → Option Values
with_word word v = if bytes_eq word (codes "--draw") then with_draw v else with_pool word v

-- what is read, and no option waits for its value
abbrev pub settled : Values → Reading
settled v = record { values = v; waiting = None }

-- One more word: the value of the option that waits for it, or the name of an option, or an option with its value or without one.
abbrev pub with_next : List ℕ → Reading → Option Reading
with_next word r = elim r.waiting [ Some key ↦ option_map settled (with_value key word r.values) | None ↦ elim (key_of word) [ Some key ↦ Some (record { values = r.values; waiting = Some key }) | None ↦ option_map settled (with_word word r.values) ] ]

-- the words are read one after another
abbrev pub read : Reading → List (List ℕ) → Option Reading
read r [] = Some r
read r (word ∷ words) = option_and_then (λ more. read more words) (with_next word r)

-- what is named, where no option is without its value
abbrev pub named_in : Reading → Option Values
named_in r = elim r.waiting [ Some key ↦ None | None ↦ Some r.values ]

-- ---- what they are good for

-- the size that is named, or else 32,768
abbrev pub size_in : Values → ℕ
size_in v = elim v.pool [ None ↦ 32768 | Some size ↦ size ]

-- a multiple of 8 from 64 to 524,280
abbrev pub is_pool_size : ℕ → Bool
is_pool_size size = nat_le 64 size && nat_le size 524280 && (size % 8 == 0)

-- the number of a generated session is at most 4,294,967,295
abbrev pub is_session_number : Option ℕ → Bool
is_session_number number = elim number [ None ↦ true | Some n ↦ nat_lt n (2 ^ 32) ]

abbrev pub options_with : Values → Option Options
options_with v = if is_pool_size (size_in v) && is_session_number v.generated then Some (record { size = size_in v; interrupt = v.interrupt; generated = v.generated; draw = v.draw }) else None

-- there are none where the words are no form of the command line
unfoldable pub options_of : List (List ℕ) → Option Options
options_of words = option_and_then options_with (option_and_then named_in (read (settled no_values) words))
