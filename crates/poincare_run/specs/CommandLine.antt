-- The command line as `clap` is handed it, and what its matches name.
use Rattle.std.specs.{Prelude.{ℕ, List, Bool, true, Option, Some, None, codes}, Option.{option_and_then, option_map}}
use Rattle.clap.specs.{Walk.{Rule}, Simple.{App, new_app, new_rule, on_top, with_rule}, declared.builder.action.ArgAction.{ArgAction}, declared.builder.action.ArgAction.TheVariants.{Set, SetTrue}}
use Rattle.calc_commands.specs.Numbers.{value_of}
use Rattle.poincare_run.specs.declared.words.Values.{Values}

-- an option whose name is its identifier, too
abbrev pub option_named : List ℕ → ArgAction → Rule
option_named name action = record (new_rule name) { long = Some name; action = Some action }

-- no word is the name of the program, and none asks for help or the version
abbrev pub bare_line : App
bare_line = on_top (λ s. record s { no_binary_name = true; disable_help_flag = true; disable_version_flag = true }) (new_app (codes "poincare"))

-- three options with a value, and one without
abbrev pub command_line : App
command_line = with_rule (with_rule (with_rule (with_rule bare_line (option_named (codes "pool") Set)) (option_named (codes "interrupt") Set)) (option_named (codes "gen") Set)) (option_named (codes "draw") SetTrue)

-- the number that stands as a value, where a value is given; there is none where it is no number
abbrev pub number_in : Option (List ℕ) → Option (Option ℕ)
number_in None = Some None
number_in (Some text) = option_map (λ n. Some n) (value_of text)

-- what is named by the values of the options, where each is a number
abbrev pub values_named : Option (List ℕ) → Option (List ℕ) → Option (List ℕ) → Bool → Option Values
values_named pool interrupt generated drawn =
    option_and_then (λ p. option_and_then (λ i. option_map (λ g. record { pool = p; interrupt = i; generated = g; draw = drawn }) (number_in generated)) (number_in interrupt)) (number_in pool)
