-- How words spell settings, and the options that the settings ask for.
use Rattle.std.specs.Prelude.{◌≡◌, ◌⊎◌, ◌↔◌, ℕ, zero, suc, ◌<◌, ◌^◌, List, [], ◌∷◌, ◌++◌, Bool, true, false, Option, Some, None, unwrap_or, IfSome, codes}
use Rattle.node_pool.specs.State.{IsPoolSize}
use Rattle.calc_commands.specs.Numbers.{value_of}
use Rattle.poincare_run.specs.{Options.{Key, Pool, Interrupt, Generated, options_of}, declared.words.Options.{Options}}

-- an option with the text of its value, or the option that takes none
pub data Setting : Type 0 where
  value : Key → List ℕ → Setting
  draw : Setting

-- the name of an option that takes a value
abbrev pub name_of : Key → List ℕ
name_of Pool = codes "--pool"
name_of Interrupt = codes "--interrupt"
name_of Generated = codes "--gen"

-- the words of one setting: a value is a word of its own, or stands behind `=` (61)
abbrev pub IsSpelled : Setting → List (List ℕ) → Type 0
IsSpelled (value key text) words = (words ≡ name_of key ∷ text ∷ []) ⊎ (words ≡ (name_of key ++ 61 ∷ text) ∷ [])
IsSpelled draw words = words ≡ codes "--draw" ∷ []

-- the words are those of the settings, one after another
abbrev pub Spells : List (List ℕ) → List Setting → Type 0
Spells words [] = words ≡ []
Spells words (s ∷ more) = (first rest : List (List ℕ)) × (words ≡ first ++ rest) × IsSpelled s first × Spells rest more

-- the texts that stand as the value of an option
abbrev pub text_in : Key → Setting → List (List ℕ)
text_in Pool (value Pool text) = text ∷ []
text_in Interrupt (value Interrupt text) = text ∷ []
text_in Generated (value Generated text) = text ∷ []
text_in _ _ = []

abbrev pub texts_of : Key → List Setting → List (List ℕ)
texts_of key [] = []
texts_of key (s ∷ more) = text_in key s ++ texts_of key more

-- how often `--draw` stands there
abbrev pub draws_of : List Setting → ℕ
draws_of [] = zero
draws_of (draw ∷ more) = suc (draws_of more)
draws_of (value key text ∷ more) = draws_of more

-- the number of an option that stands there at most once
abbrev pub IsNumber : List (List ℕ) → Option ℕ → Type 0
IsNumber [] number = number ≡ None
IsNumber (text ∷ []) number = (n : ℕ) × (value_of text ≡ Some n) × (number ≡ Some n)
IsNumber (text ∷ other ∷ more) number = ⊥

-- whether `--draw` stands there, at most once
abbrev pub IsDrawn : ℕ → Bool → Type 0
IsDrawn zero drawn = drawn ≡ false
IsDrawn (suc zero) drawn = drawn ≡ true
IsDrawn (suc (suc more)) drawn = ⊥

-- the words spell settings, each option at most once, that ask for these options
pub record Asks (words : List (List ℕ)) (options : Options) : Type 0 where
  pub settings : List Setting
  pub spelled : Spells words settings
  pub pool : Option ℕ
  pub pool_once : IsNumber (texts_of Pool settings) pool
  pub size_is : options.size ≡ unwrap_or pool 32768
  pub size_fits : IsPoolSize options.size
  pub interrupt_once : IsNumber (texts_of Interrupt settings) options.interrupt
  pub generated_once : IsNumber (texts_of Generated settings) options.generated
  pub generated_fits : IfSome options.generated (λ n. n < 2 ^ 32)
  pub draw_once : IsDrawn (draws_of settings) options.draw

-- the options of words are those that the words ask for, and there are none where they ask for none
abbrev pub OptionsAreAsked : Type 0
OptionsAreAsked = (words : List (List ℕ)) (options : Options) → (options_of words ≡ Some options) ↔ Asks words options

-- two settings beside one another may change places
abbrev pub OrderIsFree : Type 0
OrderIsFree =
    (words other : List (List ℕ)) (before behind : List Setting) (s t : Setting) → Spells words (before ++ s ∷ t ∷ behind) → Spells other (before ++ t ∷ s ∷ behind)
    → options_of other ≡ options_of words
