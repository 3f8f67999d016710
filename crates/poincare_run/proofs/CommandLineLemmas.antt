-- The matches of the command line give the options that its words ask for.
use Rattle.poincare_run.proofs.Shared.{◌≡◌, ◌∙◌, ℕ, ◌≤◌, ◌||◌, List, [], ◌∷◌, ◌++◌, length, Bool, true, false, Option, Some, None, is_some, nat_lt, if◌then◌else◌, ◌⊎◌, inl, inr, refl, sym, ap, ap₂}
use Rattle.poincare_run.proofs.Shared.{subst, codes, arith, append-nil, ◌↔◌, find, fold, list_any, option_and_then, option_map, bytes_eq, Row, Text, Walk, first_of, has_row, more_values, one_of}
use Rattle.poincare_run.proofs.Shared.{row_text, rows_of, settled, nothing_held, walk, with_default, App, HasMatchesOf, built, entered, is_simple, matches_of, HasKind, IsAmong, Kinds, or_else}
use Rattle.poincare_run.proofs.Shared.{default_fault, defaults_fault, entered_fault, fault_of, is_simple_and_free, level_fault, settle_fault, walk_fault, first_value-rows, one_text-rows, AsWritten}
use Rattle.poincare_run.proofs.Shared.{DefaultValue, value_of, Values, Options, command_line, number_in, values_named, Key, Pool, Interrupt, Generated, no_values, named_in, options_of, options_with}
use Rattle.poincare_run.proofs.Shared.{read, Setting, Spells, value, draw, draws_of, texts_of, first_value, found_of, one_text, bool_text, kind_of, Error, ErrorKind, ArgMatches}
use Rattle.poincare_run.proofs.{SettingLemmas.{Drawn, Follows, Joined, drawn_uncons, followed, of_map, of_then, reads, same_options, spelled, taken}, ClapLemmas.{AllNumbers, Once, Reads, Takes}}
use Rattle.poincare_run.proofs.ClapLemmas.{absent, counted, draw_rule, end_of, four, free, id_of, is_separator, no_separator, of_else, read_words, rows_for, rule_for, shape, take_settings, walk_at}
use Rattle.calc_terms.proofs.Names.{neither as of_either}
use Rattle.poincare_run.specs.Options.{settled as reading}
use Rattle.clap.specs.declared.error.kind.ErrorKind.TheVariants as kind

-- ---- defaults

has_default : (b : Bool) (k : Kinds) → (if b || true then [] else k) ≡ []
has_default b k = grind arith

has_fair_default : (b : Bool) → ◌≡◌ {A = Kinds} (if b || false then [] else []) []
has_fair_default b = grind arith

default_passes : (key : Key) (rows : List Row) → default_fault rows (rule_for key) ≡ []
default_passes key rows = has_default (has_row (id_of key) rows) _

-- no default has a fault
defaults_pass : (rows : List Row) → defaults_fault rows four ≡ []
unfolding defaults_fault
defaults_pass rows =
    let second = with_default rows (rule_for Pool) in
    let third = with_default second (rule_for Interrupt) in
    let fourth = with_default third (rule_for Generated) in
    ap₂ or_else (default_passes Pool rows) (ap₂ or_else (default_passes Interrupt second) (ap₂ or_else (default_passes Generated third) (ap₂ or_else (has_fair_default (has_row (codes "draw") fourth)) refl)))

same_rows : (b : Bool) (rows : List Row) → (if b then rows else rows) ≡ rows
same_rows b rows = grind arith

-- `--draw` alone has a default
defaults_are : (rows : List Row) → fold with_default rows four ≡ with_default rows draw_rule
defaults_are rows =
    ap (λ rs. with_default (with_default (with_default rs (rule_for Interrupt)) (rule_for Generated)) draw_rule) (same_rows (has_row (codes "pool") rows) rows)
    ∙ ap (λ rs. with_default (with_default rs (rule_for Generated)) draw_rule) (same_rows (has_row (codes "interrupt") rows) rows)
    ∙ ap (λ rs. with_default rs draw_rule) (same_rows (has_row (codes "gen") rows) rows)

-- ---- the faults of the words

abbrev app : App
app = built command_line

abbrev start : Walk
start = walk_at [] free

abbrev at_stop : List Text → Option (Text × List Text) → Kinds
at_stop words stop = level_fault shape [] nothing_held words (is_some (entered app stop)) (entered_fault app stop)

takes_all : (words : List Text) → Takes start words → fault_of command_line words ≡ []
takes_all words t =
    ap (at_stop words) t.stays
    ∙ ap₂ or_else t.turns (ap₂ or_else t.ends (ap₂ or_else (defaults_pass (settled four (end_of start words)).rows) refl))

reads_all : (words : List Text) → list_any is_separator words ≡ false → fault_of command_line words ≡ [] → Reads [] words (settled four (end_of start words)).rows
reads_all words single e =
    let stop = (walk four [] nothing_held words).stopped in
    let a = of_else (walk_fault shape [] start words) _ e in
    let b = of_else (entered_fault app stop) _ a.1 in
    let c = of_else (settle_fault four false (end_of start words)) _ b.1 in
    read_words words [] free single a.0 c.0

-- ---- what the rows of settings name

abbrev pub first_text : List Text → Option Text
first_text [] = None
first_text (text ∷ more) = Some text

abbrev default_row : Row
default_row = record { id = codes "draw"; values = codes "false" ∷ []; count = None; source = Some DefaultValue; reading = AsWritten }

-- an option has the first of its texts
text_found : (key : Key) (ss : List Setting) (tail : List Row) → first_of (id_of key) tail ≡ None → first_of (id_of key) (rows_for ss ++ tail) ≡ first_text (texts_of key ss)
text_found key [] tail none = none
text_found key (s ∷ more) tail none = grind (arith, text_found key more tail none)

no_other : (key : Key) → first_of (id_of key) (default_row ∷ []) ≡ None
no_other key = grind arith

-- the rows with the default of `--draw`, where it is not named
with_draw_default : (b : Bool) (rows : List Row) → has_row (codes "draw") rows ≡ b → with_default rows draw_rule ≡ rows ++ (if b then [] else default_row ∷ [])
with_draw_default true rows e = rw e (sym (append-nil rows))
with_draw_default false rows e = rw e (absent (codes "draw") (more_values DefaultValue (codes "false" ∷ [])) (default_row ∷ []) rows e)

text_matched : (key : Key) (ss : List Setting) → first_of (id_of key) (with_default (rows_for ss) draw_rule) ≡ first_text (texts_of key ss)
text_matched key ss = by (has_row (codes "draw") (rows_for ss)) refl
  where
    by : (b : Bool) → has_row (codes "draw") (rows_for ss) ≡ b → first_of (id_of key) (with_default (rows_for ss) draw_rule) ≡ first_text (texts_of key ss)
    by true e = ap (first_of (id_of key)) (with_draw_default true (rows_for ss) e) ∙ text_found key ss [] refl
    by false e = ap (first_of (id_of key)) (with_draw_default false (rows_for ss) e) ∙ text_found key ss (default_row ∷ []) (no_other key)

has_draw : (ss : List Setting) → has_row (codes "draw") (rows_for ss) ≡ nat_lt 0 (draws_of ss)
has_draw [] = refl
has_draw (s ∷ more) = grind (arith, has_draw more)

find_behind : (id : Text) (rows tail : List Row) → has_row id rows ≡ false → find (λ r. bytes_eq r.id id) (rows ++ tail) ≡ find (λ r. bytes_eq r.id id) tail
find_behind id [] tail e = refl
find_behind id (r ∷ rows) tail e = let parts = of_either (bytes_eq r.id id) (has_row id rows) e in rw parts.0 (find_behind id rows tail parts.1)

drawn_text : (ss : List Setting) → has_row (codes "draw") (rows_for ss) ≡ true → one_of (codes "draw") (rows_for ss ++ []) ≡ Some (codes "true")
drawn_text [] e = absurd cc
drawn_text (s ∷ more) e = grind (arith, drawn_text more)

draw_matched : (ss : List Setting) → one_of (codes "draw") (with_default (rows_for ss) draw_rule) ≡ Some (bool_text (nat_lt 0 (draws_of ss)))
draw_matched ss = by (has_row (codes "draw") (rows_for ss)) refl ∙ ap (λ b. Some (bool_text b)) (has_draw ss)
  where
    by : (b : Bool) → has_row (codes "draw") (rows_for ss) ≡ b → one_of (codes "draw") (with_default (rows_for ss) draw_rule) ≡ Some (bool_text (has_row (codes "draw") (rows_for ss)))
    by true e = ap (one_of (codes "draw")) (with_draw_default true (rows_for ss) e) ∙ drawn_text ss e ∙ ap (λ b. Some (bool_text b)) (sym e)
    by false e =
        ap (one_of (codes "draw")) (with_draw_default false (rows_for ss) e) ∙ ap (option_and_then row_text) (find_behind (codes "draw") (rows_for ss) (default_row ∷ []) e)
        ∙ ap (λ b. Some (bool_text b)) (sym e)

-- ---- each option once

counted_texts : (key : Key) (ss : List Setting) → counted (id_of key) (rows_for ss) ≡ length (texts_of key ss)
unfolding counted
counted_texts key [] = refl
counted_texts key (s ∷ more) = grind (arith, counted_texts key more)

counted_draws : (ss : List Setting) → counted (codes "draw") (rows_for ss) ≡ draws_of ss
unfolding counted
counted_draws [] = refl
counted_draws (s ∷ more) = grind (arith, counted_draws more)

joined_once : (old : Option ℕ) (texts : List Text) (new : Option ℕ) → Joined old texts new → length texts ≤ 1
joined_once old texts new j = grind arith

drawn_once : (old : Bool) (n : ℕ) (new : Bool) → Drawn old n new → n ≤ 1
drawn_once old n new d = grind arith

once_of : (ss : List Setting) (w : Values) → Follows no_values ss w → Once (rows_for ss)
once_of ss w f k = grind (arith, counted_draws, counted_texts, drawn_once, joined_once)

numbers_of : (ss : List Setting) (v w : Values) → Follows v ss w → AllNumbers ss
numbers_of [] v w f = tt
numbers_of (value key text ∷ more) v w f =
    let t = taken key text v w more f in
    let n = of_then _ (value_of text) t.0 t.1 in
    ((n.0, n.1), numbers_of more t.0 w t.2)
numbers_of (draw ∷ more) v w f =
    let d = drawn_uncons v.draw (draws_of more) w.draw f.draws in
    numbers_of more (record v { draw = true }) w (record { pool = f.pool; interrupt = f.interrupt; generated = f.generated; draws = d.1 })

-- words that ask for options have no fault
pub taken_words : (words : List Text) (o : Options) → options_of words ≡ Some o → (list_any is_separator words ≡ false) × (fault_of command_line words ≡ [])
unfolding options_of
taken_words words o e =
    let v = of_then options_with _ o e in
    let r = reads words no_values v.0 v.1 in
    let f = followed r.0 words no_values v.0 r.1 v.1 in
    let numbers = numbers_of r.0 no_values v.0 f in
    (no_separator r.0 words r.1 numbers, takes_all words (take_settings r.0 words [] free [] (refl, refl) r.1 (once_of r.0 v.0 f) numbers))

-- ---- what the texts give

number_joined : (texts : List Text) (n : Option ℕ) → length texts ≤ 1 → (number_in (first_text texts) ≡ Some n) ↔ Joined None texts n
number_joined [] n few = (λ e. let same : None ≡ n = cc in sym same, λ j. let back : n ≡ None = j in rw back refl)
number_joined (text ∷ []) n few = (
  λ e.
      let m = of_map (λ k. Some k) (value_of text) n e in
      (refl, (m.0, m.1, sym m.2)),
  λ j. rw j.1.1 (ap (λ k. Some k) (sym j.1.2)),
)
number_joined (text ∷ other ∷ more) n few = absurd (omega arith)

draw_joined : (n : ℕ) (d : Bool) → n ≤ 1 → (nat_lt 0 n ≡ d) ↔ Drawn false n d
draw_joined n d few = grind arith

abbrev given_by : List Setting → Option Values
given_by ss = values_named (first_text (texts_of Pool ss)) (first_text (texts_of Interrupt ss)) (first_text (texts_of Generated ss)) (nat_lt 0 (draws_of ss))

texts_once : (key : Key) (ss : List Setting) → Once (rows_for ss) → length (texts_of key ss) ≤ 1
texts_once key ss once = rw (counted_texts key ss) at (once (Some key))

draws_once : (ss : List Setting) → Once (rows_for ss) → draws_of ss ≤ 1
draws_once ss once = rw (counted_draws ss) at (once None)

-- three numbers and whether it is drawn are the values
parts_of : (p i g : Option (Option ℕ)) (d : Bool) (w : Values) → option_and_then (λ a. option_and_then (λ b. option_map (λ c. record { pool = a; interrupt = b; generated = c; draw = d }) g) i) p ≡ Some w
    → (p ≡ Some w.pool) × (i ≡ Some w.interrupt) × (g ≡ Some w.generated) × (d ≡ w.draw)
parts_of p i g d w e = grind arith

follow : (ss : List Setting) (w : Values) → Once (rows_for ss) → given_by ss ≡ Some w → Follows no_values ss w
follow ss w once e = grind (arith, parts_of, number_joined, texts_once, draw_joined, draws_once)

give : (ss : List Setting) (w : Values) → Once (rows_for ss) → Follows no_values ss w → given_by ss ≡ Some w
give ss w once f = grind (arith, number_joined, texts_once, draw_joined, draws_once)

settings_give : (ss : List Setting) (words : List Text) → Spells words ss → Once (rows_for ss) → options_of words ≡ option_and_then options_with (given_by ss)
unfolding options_of
settings_give ss words sp once =
    ap (option_and_then options_with) (same_options (given_by ss) (option_and_then named_in (read (reading no_values) words))
    (λ w e. spelled ss words no_values w sp (follow ss w once e)) (λ w e. give ss w once (followed ss words no_values w sp e)))

-- the matches of words without fault give their options
pub record Matched (words : List Text) : Type 0 where
  pub drawn : Bool
  pub draws : one_of (codes "draw") (matches_of command_line words) ≡ Some (bool_text drawn)
  pub gives : options_of words ≡ option_and_then options_with (values_named (first_of (codes "pool") (matches_of command_line words))
      (first_of (codes "interrupt") (matches_of command_line words)) (first_of (codes "gen") (matches_of command_line words)) drawn)

no_rows : Once []
unfolding counted
no_rows k = omega arith

pub matched_words : (words : List Text) → list_any is_separator words ≡ false → fault_of command_line words ≡ [] → Matched words
matched_words words single e =
    let r = reads_all words single e in
    let ss = r.settings in
    let rows : matches_of command_line words ≡ with_default (rows_for ss) draw_rule = defaults_are (settled four (end_of start words)).rows ∙ ap (λ rs. with_default rs draw_rule) r.found in
    let once : Once (rows_for ss) = subst Once r.found (r.once no_rows) in
    let named : (key : Key) → first_of (id_of key) (matches_of command_line words) ≡ first_text (texts_of key ss) = λ key. ap (first_of (id_of key)) rows ∙ text_matched key ss in
    record {
      drawn = nat_lt 0 (draws_of ss);
      draws = ap (one_of (codes "draw")) rows ∙ draw_matched ss;
      gives = settings_give ss words r.spelled once ∙ rw (named Pool, named Interrupt, named Generated) refl;
    }

-- ---- what the parse answers

separated : (words : List Text) (o : Option Options) → options_of words ≡ o → list_any is_separator words ≡ true → o ≡ None
separated words None e some = refl
separated words (Some o) e some = let none = (taken_words words o e).0 in let bad : true ≡ false = sym some ∙ none in absurd cc

-- without words no option is named
pub none_named : (words : List Text) → length words ≡ 0 → options_with no_values ≡ options_of words
unfolding options_of
none_named [] e = refl
none_named (word ∷ words) e = absurd (omega arith)

-- words with a word `--` ask for nothing
pub none_separated : (words : List Text) → list_any is_separator words ≡ true → None ≡ options_of words
none_separated words some = sym (separated words (options_of words) refl some)

faulty : (words : List Text) (o : Option Options) (k : ErrorKind) → options_of words ≡ o → (k ≡ kind.OutOfMemory → ⊥) → (k ≡ kind.OutOfMemory) ⊎ IsAmong k (fault_of command_line words) → o ≡ None
faulty words None k e other fault = refl
faulty words (Some o) k e other (inl memory) = absurd (other memory)
faulty words (Some o) k e other (inr among) = absurd (subst (IsAmong k) (taken_words words o e).1 among)

-- words that are refused, and not for want of memory, ask for nothing
pub none_refused : (words : List Text) (a : App) (error : Error) → a ≡ command_line → (is_simple_and_free a ≡ true → HasKind (fault_of a words) error) → (kind_of error ≡ kind.OutOfMemory → ⊥) → None ≡ options_of words
none_refused words a error is fails other =
    let fault : HasKind (fault_of command_line words) error = subst (λ x. HasKind (fault_of x words) error) is (fails (ap is_simple_and_free is)) in
    sym (faulty words (options_of words) (kind_of error) refl other fault)

-- the matches give what the words ask for
pub given_matched : (words : List Text) (a : App) (m : ArgMatches) (found : Option Options) → a ≡ command_line → list_any is_separator words ≡ false → HasMatchesOf a words m → (is_simple_and_free a ≡ true → fault_of a words ≡ [])
    → ((drawn : Bool) → one_text (found_of m) (codes "draw") ≡ Some (bool_text drawn) → found ≡ option_and_then options_with (values_named (first_value (found_of m) (codes "pool"))
    (first_value (found_of m) (codes "interrupt")) (first_value (found_of m) (codes "gen")) drawn))
    → found ≡ options_of words
given_matched words a m found is single has passes gives =
    let k = matched_words words single (subst (λ x. fault_of x words ≡ []) is (passes (ap is_simple_and_free is))) in
    let rows : rows_of (found_of m) ≡ matches_of command_line words = (has (ap is_simple is)).0 ∙ ap (λ x. matches_of x words) is in
    let text : (key : Key) → first_value (found_of m) (id_of key) ≡ first_of (id_of key) (matches_of command_line words) = λ key. first_value-rows (found_of m) (id_of key) ∙ ap (first_of (id_of key)) rows in
    gives k.drawn (one_text-rows (found_of m) (codes "draw") ∙ ap (one_of (codes "draw")) rows ∙ k.draws)
    ∙ ap₃ (λ p i g. option_and_then options_with (values_named p i g k.drawn)) (text Pool) (text Interrupt) (text Generated) ∙ sym k.gives
  where
    ap₃ : {A B : Type 0} (f : A → A → A → B) {x y z u v w : A} → x ≡ u → y ≡ v → z ≡ w → f x y z ≡ f u v w
    ap₃ f p q r = λ i. f (p i) (q i) (r i)
