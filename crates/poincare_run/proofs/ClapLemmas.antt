-- What `clap` makes of the words of the command line, and the settings that they spell.
use Rattle.poincare_run.proofs.Shared.{◌≡◌, ◌∙◌, ◌⊎◌, ℕ, zero, suc, ◌+◌, ◌≤◌, ◌&&◌, ◌==◌, ◌^◌, nat_le, List, [], ◌∷◌, ◌++◌, length, take, drop, map, Bool, true, false, Option, Some, None}
use Rattle.poincare_run.proofs.Shared.{nat_lt, if◌then◌else◌, refl, sym, ap, ap₂, subst, inl, inr, codes, arith, append-nil, ⊤, digits_value, is_ascii_digit, fold, list_any, list_all, option_map_or}
use Rattle.poincare_run.proofs.Shared.{bytes_eq, append_assoc, bytes_eq-Decides, Held, Outcome, Row, Rule, Step, Text, Waiting, Walk, after_flag, after_step, arg_by_id, arg_by_long, at_row, bundle}
use Rattle.poincare_run.proofs.Shared.{bundle_met, has_row, idle, long_or_other, more_values, option, plain, plain_word, positional, settled, settled_rows, short_or_plain, trailing, used, used_by_id}
use Rattle.poincare_run.proofs.Shared.{walked, with_values, without, built, filled, Kinds, or_else, bundle_fault, flag_word_fault, flags_fault, long_fault, settle_fault, step_fault, turn_fault}
use Rattle.poincare_run.proofs.Shared.{use_fault, walk_fault, Shape, AsWritten, CommandLine, Key, Pool, Interrupt, Generated, IsSpelled, Setting, Spells, value, draw, name_of, command_line}
use Rattle.poincare_run.proofs.{Shared.{option_named, is_digits, value_of, long_of, long_of_rest, name_and_value, short_of, Set, SetTrue}, SettingLemmas.{of_test}}
use Rattle.calc_terms.proofs.Names.{neither as of_either, both as of_both}
use Rattle.clap.specs.declared.error.kind.ErrorKind.TheVariants as kind

-- ---- the rows of settings

abbrev pub id_of : Key → Text
id_of Pool = codes "pool"
id_of Interrupt = codes "interrupt"
id_of Generated = codes "gen"

-- the identifiers of the four options
abbrev pub named_id : Option Key → Text
named_id None = codes "draw"
named_id (Some key) = id_of key

abbrev pub row_of : Text → Text → Row
row_of id text = record { id = id; values = text ∷ []; count = None; source = Some CommandLine; reading = AsWritten }

abbrev pub row_for : Setting → Row
row_for (value key text) = row_of (id_of key) text
row_for draw = row_of (codes "draw") (codes "true")

abbrev pub rows_for : List Setting → List Row
rows_for = map row_for

abbrev pub id_in : Setting → Text
id_in s = (row_for s).id

-- how many rows have an identifier
unfoldable pub counted : Text → List Row → ℕ
counted id [] = 0
counted id (r ∷ rows) = if bytes_eq r.id id then suc (counted id rows) else counted id rows

-- each option has one row at most
abbrev pub Once : List Row → Type 0
Once rows = (k : Option Key) → counted (named_id k) rows ≤ 1

pub of_else : (a b : Kinds) → or_else a b ≡ [] → (a ≡ []) × (b ≡ [])
of_else [] b e = (refl, e)
of_else (k ∷ ks) b e = absurd cc

counted_append : (id : Text) (xs ys : List Row) → counted id (xs ++ ys) ≡ counted id xs + counted id ys
unfolding counted
counted_append id [] ys = omega arith
counted_append id (x ∷ xs) ys = grind (arith, counted_append id xs ys)

-- an identifier that has no row is counted nowhere
not_counted : (id : Text) (rows : List Row) → has_row id rows ≡ false → counted id rows ≡ 0
unfolding counted
not_counted id [] e = refl
not_counted id (r ∷ rows) e = let parts = of_either (bytes_eq r.id id) (has_row id rows) e in rw parts.0 (not_counted id rows parts.1)

pub has_none : (id : Text) (rows : List Row) → counted id rows ≡ 0 → has_row id rows ≡ false
unfolding counted
has_none id [] e = refl
has_none id (r ∷ rows) e = grind (arith, has_none id rows)

-- a new option may get its row
once_more : (s : Setting) (rows : List Row) → has_row (id_in s) rows ≡ false → Once rows → Once (rows ++ row_for s ∷ [])
unfolding counted
once_more s rows new once k = grind (arith, counted_append, not_counted, bytes_eq-Decides)

id_same : (s : Setting) → (k : Option Key) × (id_in s ≡ named_id k)
id_same (value key text) = (Some key, refl)
id_same draw = (None, refl)

-- an option with one row has none before it
new_in : (s : Setting) (rows more : List Row) → Once (rows ++ row_for s ∷ more) → has_row (id_in s) rows ≡ false
unfolding counted
new_in s rows more once =
    let k = id_same s in
    let few : counted (id_in s) (rows ++ row_for s ∷ more) ≤ 1 = subst (λ t. counted t (rows ++ row_for s ∷ more) ≤ 1) (sym k.1) (once k.0) in
    let here : bytes_eq (id_in s) (id_in s) ≡ true = (bytes_eq-Decides (id_in s) (id_in s)).1 refl in
    let sum : counted (id_in s) rows + suc (counted (id_in s) more) ≤ 1 = rw (counted_append, here) at few in
    has_none (id_in s) rows (omega (arith, sum))

-- ---- one row

-- a row that is missing is appended
pub absent : (id : Text) (change : Row → List Row) (missing rows : List Row) → has_row id rows ≡ false → at_row id change missing rows ≡ rows ++ missing
absent id change missing [] e = refl
absent id change missing (r ∷ rows) e = grind (arith, absent id change missing rows, of_either)

placed : (id text : Text) (rows : List Row) → has_row id rows ≡ false → with_values id AsWritten CommandLine (text ∷ []) (without id rows) ≡ rows ++ row_of id text ∷ []
placed id text rows e =
    ap (with_values id AsWritten CommandLine (text ∷ [])) (absent id (λ _. []) [] rows e ∙ append-nil rows)
    ∙ absent id (more_values CommandLine (text ∷ [])) (row_of id text ∷ []) rows e

-- ---- the walk

abbrev pub shape : Shape
shape = (built command_line).top

abbrev pub four : List Rule
four = shape.rules

abbrev pub rule_for : Key → Rule
rule_for key = filled (option_named (id_of key) Set)

abbrev pub draw_rule : Rule
draw_rule = filled (option_named (codes "draw") SetTrue)

-- the rule of a setting's option, its value, and the one word that spells it
abbrev rule_of : Setting → Rule
rule_of (value key text) = rule_for key
rule_of draw = draw_rule

abbrev texts_in : Setting → List Text
texts_in (value key text) = text ∷ []
texts_in draw = []

abbrev word_of : Setting → Text
word_of (value key text) = name_of key ++ 61 ∷ text
word_of draw = codes "--draw"

abbrev dashes : Text
dashes = 45 ∷ 45 ∷ []

-- no option is open, one waits for its value, or one has its value and no row yet
pub data Place : Type 0 where
  free : Place
  awaits : Key → Place
  holds : Key → Text → Place

abbrev pub pending_at : Place → Option (Text × List Text)
pending_at free = None
pending_at (awaits key) = Some (id_of key, [])
pending_at (holds key text) = Some (id_of key, text ∷ [])

abbrev pub waiting_at : Place → Waiting
waiting_at free = idle
waiting_at (awaits key) = option (id_of key)
waiting_at (holds key text) = idle

-- the words that the open option has taken
abbrev pub read_at : Place → List Text
read_at free = []
read_at (awaits key) = name_of key ∷ []
read_at (holds key text) = name_of key ∷ text ∷ []

abbrev pub held : List Row → Option (Text × List Text) → Held
held rows p = record { rows = rows; pending = p; skip = 0 }

abbrev pub state : List Row → Option (Text × List Text) → Waiting → Walk
state rows p q = record { held = held rows p; waiting = q; position = 1; is_trailing = false; stopped = None }

abbrev pub walk_at : List Row → Place → Walk
walk_at rows p = state rows (pending_at p) (waiting_at p)

-- the rows once the open option has its row
abbrev pub settle : List Row → Option (Text × List Text) → List Row
settle rows p = settled_rows four p rows

-- what a word comes to, by whether it is `--`, and by its name as a long option
abbrev met_by : Bool → Option (Text × Option Text) → Waiting → Text → Held → Held × Step
met_by b o q word h = if b then (h, trailing 1) else long_or_other four q word o h

abbrev turn_by : Bool → Option (Text × Option Text) → Waiting → Text → Held → Kinds
turn_by b o q word h = or_else (if b then [] else flag_word_fault four false o word h) (step_fault shape 1 (met_by b o q word h).0 (met_by b o q word h).1)

turn_is : (rows : List Row) (p : Option (Text × List Text)) (q : Waiting) (word : Text)
    → turn_fault shape [] (state rows p q) word ≡ turn_by (bytes_eq word dashes) (long_of word) q word (held rows p)
turn_is rows p idle word = refl
turn_is rows p (option id) word = refl
turn_is rows p positional word = refl

walked_is : (rows : List Row) (p : Option (Text × List Text)) (q : Waiting) (word : Text)
    → walked four [] (state rows p q) word
    ≡ after_step four word (state rows p q) (met_by (bytes_eq word dashes) (long_of word) q word (held rows p)).0 (met_by (bytes_eq word dashes) (long_of word) q word (held rows p)).1
unfolding walked
walked_is rows p idle word = refl
walked_is rows p (option id) word = refl
walked_is rows p positional word = refl

-- ---- the words that begin an option

name_turn : (key : Key) (rows : List Row) (p : Option (Text × List Text)) (q : Waiting) → turn_fault shape [] (state rows p q) (name_of key) ≡ or_else (settle_fault four false (held rows p)) []
name_turn key rows p q = grind (arith, turn_is)

name_walk : (key : Key) (rows : List Row) (p : Option (Text × List Text)) (q : Waiting) → walked four [] (state rows p q) (name_of key) ≡ walk_at (settle rows p) (awaits key)
name_walk key rows p q = grind (arith, walked_is)

whole_turn : (s : Setting) (rows : List Row) (p : Option (Text × List Text)) (q : Waiting) → turn_fault shape [] (state rows p q) (word_of s)
    ≡ or_else (or_else (settle_fault four false (held rows p)) (use_fault false (rule_of s) (texts_in s) (settle rows p))) []
whole_turn (value Pool text) rows p q = turn_is rows p q (codes "--pool" ++ 61 ∷ text)
whole_turn (value Interrupt text) rows p q = turn_is rows p q (codes "--interrupt" ++ 61 ∷ text)
whole_turn (value Generated text) rows p q = turn_is rows p q (codes "--gen" ++ 61 ∷ text)
whole_turn draw rows p q = turn_is rows p q (codes "--draw")

whole_walk : (s : Setting) (rows : List Row) (p : Option (Text × List Text)) (q : Waiting) → walked four [] (state rows p q) (word_of s) ≡ walk_at (used (rule_of s) (texts_in s) (settle rows p)) free
whole_walk (value Pool text) rows p q = walked_is rows p q (codes "--pool" ++ 61 ∷ text)
whole_walk (value Interrupt text) rows p q = walked_is rows p q (codes "--interrupt" ++ 61 ∷ text)
whole_walk (value Generated text) rows p q = walked_is rows p q (codes "--gen" ++ 61 ∷ text)
whole_walk draw rows p q = walked_is rows p q (codes "--draw")

-- `--draw` takes no value
drawn_value : (text : Text) (rows : List Row) (p : Option (Text × List Text)) (q : Waiting) → turn_fault shape [] (state rows p q) (codes "--draw" ++ 61 ∷ text) ≡ kind.TooManyValues ∷ []
drawn_value text rows p q = turn_is rows p q (codes "--draw" ++ 61 ∷ text)

-- ---- the open option gets its row

by_id : (key : Key) → arg_by_id four (id_of key) ≡ Some (rule_for key)
by_id key = grind arith

settle_fault_is : (key : Key) (texts : List Text) (rows : List Row) → settle_fault four false (held rows (Some (id_of key, texts))) ≡ use_fault false (rule_for key) texts rows
settle_fault_is key texts rows = ap (λ o. option_map_or (λ a. use_fault false a texts rows) o []) (by_id key)

settle_is : (key : Key) (texts : List Text) (rows : List Row) → settle rows (Some (id_of key, texts)) ≡ used (rule_for key) texts rows
settle_is key texts rows = ap (λ o. used_by_id o texts rows) (by_id key)

-- an option is used where it has no row, and gets one
use_is : (s : Bool) → or_else (if s && true then kind.ArgumentConflict ∷ [] else []) [] ≡ [] → s ≡ false
use_is true e = absurd cc
use_is false e = refl

unused : (s : Setting) (rows : List Row) → use_fault false (rule_of s) (texts_in s) rows ≡ [] → has_row (id_in s) rows ≡ false
unused s rows e = grind (arith, use_is)

usable : (s : Setting) (rows : List Row) → has_row (id_in s) rows ≡ false → use_fault false (rule_of s) (texts_in s) rows ≡ []
usable s rows e = grind arith

used_row : (s : Setting) (rows : List Row) → has_row (id_in s) rows ≡ false → used (rule_of s) (texts_in s) rows ≡ rows ++ row_for s ∷ []
used_row s rows e = grind (arith, placed)

-- an option without its value is refused
no_value : (key : Key) (rows : List Row) → settle_fault four false (held rows (Some (id_of key, []))) ≡ [] → ⊥
no_value key rows e = let bad : kind.InvalidValue ∷ [] ≡ [] = sym (settle_fault_is key [] rows) ∙ e in absurd cc

-- ---- a word that is no option

-- a word that begins with one hyphen names no option
bundle_dies : (k : ℕ) (flags : Text) (h : Held) → flags_fault four false k flags 0 h ≡ [] → bundle_met four k flags 0 plain h ≡ (h, plain)
unfolding flags_fault bundle_met
bundle_dies zero flags h e = refl
bundle_dies (suc k) flags h e = grind arith

abbrev Plainly : Waiting → Text → Held → Held × Step → Type 0
Plainly q word h met = (met ≡ plain_word four q word h) × (step_fault shape 1 (plain_word four q word h).0 (plain_word four q word h).1 ≡ [])

plain_turn : (q : Waiting) (word : Text) (rows : List Row) (p : Option (Text × List Text)) → turn_by false None q word (held rows p) ≡ [] → Plainly q word (held rows p) (met_by false None q word (held rows p))
plain_turn q word rows p e = by (short_of word) e
  where
    by : (o : Option Text) → or_else (option_map_or (λ flags. bundle_fault four false flags (held rows p)) o []) (step_fault shape 1 (short_or_plain four q word o (held rows p)).0 (short_or_plain four q word o (held rows p)).1) ≡ []
        → Plainly q word (held rows p) (short_or_plain four q word o (held rows p))
    by None f = (refl, f)
    by (Some flags) f =
        let parts = of_else _ _ f in
        let dies : bundle four flags (held rows p) ≡ (held rows p, plain) = bundle_dies (length flags) flags (held rows p) parts.0 in (
          ap (λ (r : Held × Outcome). after_flag four q word r.0 r.1) dies,
          subst (λ (r : Held × Outcome). step_fault shape 1 (after_flag four q word r.0 r.1).0 (after_flag four q word r.0 r.1).1 ≡ []) dies parts.1,
        )

-- the word behind the name of an option is its value
value_walk : (key : Key) (rows : List Row) (word : Text)
    → after_step four word (walk_at rows (awaits key)) (plain_word four (option (id_of key)) word (held rows (Some (id_of key, [])))).0 (plain_word four (option (id_of key)) word (held rows (Some (id_of key, [])))).1
    ≡ walk_at rows (holds key word)
value_walk key rows word = grind arith

-- ---- the words that are read

-- the words spell settings, whose rows stand behind the rows
pub record Reads (rows : List Row) (words : List Text) (final : List Row) : Type 0 where
  pub settings : List Setting
  pub spelled : Spells words settings
  pub found : final ≡ rows ++ rows_for settings
  pub once : Once rows → Once final

read_none : (rows : List Row) → Reads rows [] rows
read_none rows = record { settings = []; spelled = refl; found = sym (append-nil rows); once = λ o. o }

read_more : (s : Setting) (first rest : List Text) (rows final : List Row) → IsSpelled s first → has_row (id_in s) rows ≡ false → Reads (rows ++ row_for s ∷ []) rest final → Reads rows (first ++ rest) final
read_more s first rest rows final is new r = record {
  settings = s ∷ r.settings;
  spelled = (first, rest, refl, is, r.spelled);
  found = r.found ∙ append_assoc rows (row_for s ∷ []) (rows_for r.settings);
  once = λ o. r.once (once_more s rows new o);
}

-- the open option gets its row
record SettlesAt (rows : List Row) (p : Place) : Type 0 where
  base : List Row
  settles : settle rows (pending_at p) ≡ base
  reads : (words : List Text) (final : List Row) → Reads base words final → Reads rows (read_at p ++ words) final

settled_at : (rows : List Row) (p : Place) → settle_fault four false (held rows (pending_at p)) ≡ [] → SettlesAt rows p
settled_at rows free e = record { base = rows; settles = refl; reads = λ words final r. r }
settled_at rows (awaits key) e = absurd (no_value key rows e)
settled_at rows (holds key text) e =
    let new = unused (value key text) rows (sym (settle_fault_is key (text ∷ []) rows) ∙ e) in
    record {
      base = rows ++ row_for (value key text) ∷ [];
      settles = settle_is key (text ∷ []) rows ∙ used_row (value key text) rows new;
      reads = λ words final r. read_more (value key text) (name_of key ∷ text ∷ []) words rows final (inl refl) new r;
    }

-- a word is read
record StepsTo (rows : List Row) (p : Place) (word : Text) : Type 0 where
  behind : List Row
  place : Place
  walks : walked four [] (walk_at rows p) word ≡ walk_at behind place
  reads : (rest : List Text) (final : List Row) → Reads behind (read_at place ++ rest) final → Reads rows (read_at p ++ word ∷ rest) final

-- a word of a long option, by its name and by what stands behind `=`
abbrev spelling : Option Key → Option Text → Text
spelling (Some key) None = name_of key
spelling (Some key) (Some text) = name_of key ++ 61 ∷ text
spelling None None = codes "--draw"
spelling None (Some text) = codes "--draw" ++ 61 ∷ text

whole_step : (s : Setting) (rows : List Row) (p : Place) → IsSpelled s (word_of s ∷ []) → turn_fault shape [] (walk_at rows p) (word_of s) ≡ [] → StepsTo rows p (word_of s)
whole_step s rows p spelled e =
    let parts = of_else _ _ (of_else _ _ (sym (whole_turn s rows (pending_at p) (waiting_at p)) ∙ e)).0 in
    let at = settled_at rows p parts.0 in
    let new = unused s at.base (subst (λ rs. use_fault false (rule_of s) (texts_in s) rs ≡ []) at.settles parts.1) in
    record {
      behind = at.base ++ row_for s ∷ [];
      place = free;
      walks = whole_walk s rows (pending_at p) (waiting_at p) ∙ ap (λ rs. walk_at (used (rule_of s) (texts_in s) rs) free) at.settles ∙ ap (λ rs. walk_at rs free) (used_row s at.base new);
      reads = λ rest final r. at.reads (word_of s ∷ rest) final (read_more s (word_of s ∷ []) rest at.base final spelled new r);
    }

option_step : (k : Option Key) (v : Option Text) (rows : List Row) (p : Place) → turn_fault shape [] (walk_at rows p) (spelling k v) ≡ [] → StepsTo rows p (spelling k v)
option_step (Some key) None rows p e =
    let s = settled_at rows p (of_else _ _ (sym (name_turn key rows (pending_at p) (waiting_at p)) ∙ e)).0 in
    record {
      behind = s.base;
      place = awaits key;
      walks = name_walk key rows (pending_at p) (waiting_at p) ∙ ap (λ rs. walk_at rs (awaits key)) s.settles;
      reads = λ rest final r. s.reads (name_of key ∷ rest) final r;
    }
option_step (Some key) (Some text) rows p e = whole_step (value key text) rows p (inr refl) e
option_step None None rows p e = whole_step draw rows p refl e
option_step None (Some text) rows p e = let bad : kind.TooManyValues ∷ [] ≡ [] = sym (drawn_value text rows (pending_at p) (waiting_at p)) ∙ e in absurd cc

-- ---- the parts of a word

abbrev tail_of : Option Text → Text
tail_of None = []
tail_of (Some text) = 61 ∷ text

abbrev parted : ℕ → ℕ → Bool → Text → Text
parted k j has text = take k text ++ tail_of (if has then Some (drop j text) else None)

part_more : (x n k j : ℕ) (has : Bool) (xs : Text) → k ≡ suc n → j ≡ suc (n + 1) → xs ≡ parted n (n + 1) has xs → x ∷ xs ≡ parted k j has (x ∷ xs)
part_more x n k j has xs e f same = grind (arith)

-- a text is its name, and `=` and its value
whole : (text : Text) → text ≡ (name_and_value text).0 ++ tail_of (name_and_value text).1
whole [] = refl
whole (x ∷ xs) = grind (arith, whole xs, part_more)

-- a long option is its name and its value behind two hyphens
long_is : (word name : Text) (v : Option Text) → long_of word ≡ Some (name, v) → word ≡ 45 ∷ 45 ∷ (name ++ tail_of v)
long_is [] name v e = absurd cc
long_is (x ∷ []) name v e = grind arith
long_is (x ∷ y ∷ text) name v e = by (x == 45) (y == 45) refl refl
  where
    rest : (t : Text) → long_of_rest t ≡ Some (name, v) → t ≡ name ++ tail_of v
    rest [] f = absurd cc
    rest (z ∷ zs) f =
        let same : name_and_value (z ∷ zs) ≡ (name, v) = cc in
        subst (λ (pair : Text × Option Text). z ∷ zs ≡ pair.0 ++ tail_of pair.1) same (whole (z ∷ zs))

    by : (a b : Bool) → (x == 45) ≡ a → (y == 45) ≡ b → x ∷ y ∷ text ≡ 45 ∷ 45 ∷ (name ++ tail_of v)
    by true true p q =
        let first : x ≡ 45 = grind (arith, p) in
        let second : y ≡ 45 = grind (arith, q) in
        let f : long_of_rest text ≡ Some (name, v) = rw (p, q) at e in
        ap₂ (λ a b. a ∷ b ∷ text) first second ∙ ap (λ t. 45 ∷ 45 ∷ t) (rest text f)
    by true false p q = let bad : ◌≡◌ {A = Option (Text × Option Text)} None (Some (name, v)) = rw (p, q) at e in absurd cc
    by false b p q = let bad : ◌≡◌ {A = Option (Text × Option Text)} None (Some (name, v)) = rw p at e in absurd cc

spelling_is : (k : Option Key) (v : Option Text) → 45 ∷ 45 ∷ (named_id k ++ tail_of v) ≡ spelling k v
spelling_is k v = grind arith

-- a long name is that of an option, or of none
known : (name : Text) → (arg_by_long four name ≡ None) ⊎ ((k : Option Key) × (name ≡ named_id k))
known name = by (bytes_eq (codes "pool") name) (bytes_eq (codes "interrupt") name) (bytes_eq (codes "gen") name) (bytes_eq (codes "draw") name) refl refl refl refl
  where
    by : (a b c d : Bool) → bytes_eq (codes "pool") name ≡ a → bytes_eq (codes "interrupt") name ≡ b → bytes_eq (codes "gen") name ≡ c → bytes_eq (codes "draw") name ≡ d
        → (arg_by_long four name ≡ None) ⊎ ((k : Option Key) × (name ≡ named_id k))
    by true b c d p q r s = inr (Some Pool, sym ((bytes_eq-Decides (codes "pool") name).0 p))
    by false true c d p q r s = inr (Some Interrupt, sym ((bytes_eq-Decides (codes "interrupt") name).0 q))
    by false false true d p q r s = inr (Some Generated, sym ((bytes_eq-Decides (codes "gen") name).0 r))
    by false false false true p q r s = inr (None, sym ((bytes_eq-Decides (codes "draw") name).0 s))
    by false false false false p q r s = inl (rw (p, q, r, s) refl)

-- ---- all words

plain_step : (rows : List Row) (p : Place) (word : Text) → bytes_eq word dashes ≡ false → long_of word ≡ None → turn_fault shape [] (walk_at rows p) word ≡ [] → StepsTo rows p word
plain_step rows p word single l e = by p turn walks
  where
    turn : turn_by false None (waiting_at p) word (held rows (pending_at p)) ≡ []
    turn = sym (turn_is rows (pending_at p) (waiting_at p) word ∙ ap₂ (λ b o. turn_by b o (waiting_at p) word (held rows (pending_at p))) single l) ∙ e

    walks : walked four [] (walk_at rows p) word
        ≡ after_step four word (walk_at rows p) (met_by false None (waiting_at p) word (held rows (pending_at p))).0 (met_by false None (waiting_at p) word (held rows (pending_at p))).1
    walks = walked_is rows (pending_at p) (waiting_at p) word
        ∙ ap₂ (λ b o. after_step four word (walk_at rows p) (met_by b o (waiting_at p) word (held rows (pending_at p))).0 (met_by b o (waiting_at p) word (held rows (pending_at p))).1) single l

    by : (at : Place) → turn_by false None (waiting_at at) word (held rows (pending_at at)) ≡ []
        → walked four [] (walk_at rows at) word
        ≡ after_step four word (walk_at rows at) (met_by false None (waiting_at at) word (held rows (pending_at at))).0 (met_by false None (waiting_at at) word (held rows (pending_at at))).1
        → StepsTo rows at word
    by free t w = let bad : kind.UnknownArgument ∷ [] ≡ [] = (plain_turn idle word rows None t).1 in absurd cc
    by (holds key text) t w = let bad : kind.UnknownArgument ∷ [] ≡ [] = (plain_turn idle word rows (Some (id_of key, text ∷ [])) t).1 in absurd cc
    by (awaits key) t w = record {
      behind = rows;
      place = holds key word;
      walks = w ∙ ap (λ (r : Held × Step). after_step four word (walk_at rows (awaits key)) r.0 r.1) (plain_turn (option (id_of key)) word rows (Some (id_of key, [])) t).0 ∙ value_walk key rows word;
      reads = λ rest final r. r;
    }

long_step : (rows : List Row) (p : Place) (word name : Text) (v : Option Text) → bytes_eq word dashes ≡ false → long_of word ≡ Some (name, v) → turn_fault shape [] (walk_at rows p) word ≡ [] → StepsTo rows p word
long_step rows p word name v single l e = by (known name)
  where
    turn : turn_by false (Some (name, v)) (waiting_at p) word (held rows (pending_at p)) ≡ []
    turn = sym (turn_is rows (pending_at p) (waiting_at p) word ∙ ap₂ (λ b o. turn_by b o (waiting_at p) word (held rows (pending_at p))) single l) ∙ e

    by : (arg_by_long four name ≡ None) ⊎ ((k : Option Key) × (name ≡ named_id k)) → StepsTo rows p word
    by (inl none) =
        let bad : kind.UnknownArgument ∷ [] ≡ [] = subst (λ o. long_fault four false o v (held rows (pending_at p)) ≡ []) none (of_else _ _ turn).0 in
        absurd cc
    by (inr k) =
        let is : word ≡ spelling k.0 v = long_is word name v l ∙ ap (λ t. 45 ∷ 45 ∷ (t ++ tail_of v)) k.1 ∙ spelling_is k.0 v in
        subst (StepsTo rows p) (sym is) (option_step k.0 v rows p (subst (λ w. turn_fault shape [] (walk_at rows p) w ≡ []) is e))

step : (rows : List Row) (p : Place) (word : Text) → bytes_eq word dashes ≡ false → turn_fault shape [] (walk_at rows p) word ≡ [] → StepsTo rows p word
step rows p word single e = by (long_of word) refl
  where
    by : (o : Option (Text × Option Text)) → long_of word ≡ o → StepsTo rows p word
    by None l = plain_step rows p word single l e
    by (Some (name, v)) l = long_step rows p word name v single l e

abbrev pub is_separator : Text → Bool
is_separator word = bytes_eq word (codes "--")

abbrev pub end_of : Walk → List Text → Held
end_of w words = (fold (walked four []) w words).held

-- words without fault are read
pub read_words : (words : List Text) (rows : List Row) (p : Place) → list_any is_separator words ≡ false → walk_fault shape [] (walk_at rows p) words ≡ []
    → settle_fault four false (end_of (walk_at rows p) words) ≡ [] → Reads rows (read_at p ++ words) (settled four (end_of (walk_at rows p) words)).rows
unfolding walk_fault
read_words [] rows p single turns ends =
    let s = settled_at rows p ends in
    s.reads [] _ (subst (λ rs. Reads s.base [] rs) (sym s.settles) (read_none s.base))
read_words (word ∷ rest) rows p single turns ends =
    let alone = of_either (is_separator word) (list_any is_separator rest) single in
    let parts = of_else _ _ turns in
    let s = step rows p word alone.0 parts.0 in
    let more = read_words rest s.behind s.place alone.1 (subst (λ w. walk_fault shape [] w rest ≡ []) s.walks parts.1) (subst (λ w. settle_fault four false (end_of w rest) ≡ []) s.walks ends) in
    subst (λ w. Reads rows (read_at p ++ word ∷ rest) (settled four (end_of w rest)).rows) (sym s.walks) (s.reads rest _ more)

-- ---- the words of settings

-- each value is a number
abbrev pub AllNumbers : List Setting → Type 0
AllNumbers [] = ⊤
AllNumbers (value key text ∷ more) = ((n : ℕ) × (value_of text ≡ Some n)) × AllNumbers more
AllNumbers (draw ∷ more) = AllNumbers more

record IsPlain (text : Text) : Type 0 where
  long : long_of text ≡ None
  short : short_of text ≡ None
  single : bytes_eq text dashes ≡ false

-- a number begins with a digit
number_is_plain : (text : Text) (n : ℕ) → value_of text ≡ Some n → IsPlain text
unfolding value_of
number_is_plain text n e =
    let fits = (of_test (is_digits text && nat_le (length text) 20 && nat_lt (digits_value 10 text) (2 ^ 64)) (digits_value 10 text) n e).0 in
    let short = (of_both (is_digits text && nat_le (length text) 20) _ fits).0 in
    let digits = of_both (nat_lt 0 (length text)) _ (of_both (is_digits text) _ short).0 in
    by text digits.0 digits.1
  where
    by : (t : Text) → nat_lt 0 (length t) ≡ true → list_all is_ascii_digit t ≡ true → IsPlain t
    by [] some all = absurd cc
    by (x ∷ xs) some all =
        let digit : is_ascii_digit x ≡ true = (of_both (is_ascii_digit x) _ all).0 in
        let other : (x == 45) ≡ false = grind (arith, digit) in
        record { long = rw other refl; short = rw other refl; single = rw other refl }

value_turn : (key : Key) (text : Text) (rows : List Row) → IsPlain text → turn_fault shape [] (walk_at rows (awaits key)) text ≡ []
value_turn key text rows p =
    turn_is rows (Some (id_of key, [])) (option (id_of key)) text
    ∙ ap₂ (λ b o. turn_by b o (option (id_of key)) text (held rows (Some (id_of key, [])))) p.single p.long
    ∙ ap (λ s. or_else (option_map_or (λ flags. bundle_fault four false flags (held rows (Some (id_of key, [])))) s [])
    (step_fault shape 1 (short_or_plain four (option (id_of key)) text s (held rows (Some (id_of key, [])))).0 (short_or_plain four (option (id_of key)) text s (held rows (Some (id_of key, [])))).1)) p.short

value_held : (key : Key) (text : Text) (rows : List Row) → IsPlain text → walked four [] (walk_at rows (awaits key)) text ≡ walk_at rows (holds key text)
value_held key text rows p =
    walked_is rows (Some (id_of key, [])) (option (id_of key)) text
    ∙ ap₂ (λ b o. after_step four text (walk_at rows (awaits key)) (met_by b o (option (id_of key)) text (held rows (Some (id_of key, [])))).0 (met_by b o (option (id_of key)) text (held rows (Some (id_of key, [])))).1) p.single p.long
    ∙ ap (λ s. after_step four text (walk_at rows (awaits key)) (short_or_plain four (option (id_of key)) text s (held rows (Some (id_of key, [])))).0 (short_or_plain four (option (id_of key)) text s (held rows (Some (id_of key, [])))).1) p.short
    ∙ value_walk key rows text

-- the words have no fault
pub record Takes (w : Walk) (words : List Text) : Type 0 where
  pub turns : walk_fault shape [] w words ≡ []
  pub ends : settle_fault four false (end_of w words) ≡ []
  pub stays : (fold (walked four []) w words).stopped ≡ None

take_more : (w next : Walk) (word : Text) (words : List Text) → turn_fault shape [] w word ≡ [] → walked four [] w word ≡ next → Takes next words → Takes w (word ∷ words)
unfolding walk_fault
take_more w next word words e is t =
    let on = subst (λ v. Takes v words) (sym is) t in
    record { turns = ap (λ k. or_else k (walk_fault shape [] (walked four [] w word) words)) e ∙ on.turns; ends = on.ends; stays = on.stays }

abbrev At : List Row → Place → List Row → Type 0
At rows p base = (settle_fault four false (held rows (pending_at p)) ≡ []) × (settle rows (pending_at p) ≡ base)

take_whole : (s : Setting) (rest : List Text) (rows : List Row) (p : Place) (base : List Row) → At rows p base → has_row (id_in s) base ≡ false → Takes (walk_at (base ++ row_for s ∷ []) free) rest → Takes (walk_at rows p) (word_of s ∷ rest)
take_whole s rest rows p base at new on =
    take_more _ (walk_at (base ++ row_for s ∷ []) free) (word_of s) rest
    (whole_turn s rows (pending_at p) (waiting_at p) ∙ ap₂ (λ k rs. or_else (or_else k (use_fault false (rule_of s) (texts_in s) rs)) []) at.0 at.1 ∙ ap (λ k. or_else k []) (usable s base new))
    (whole_walk s rows (pending_at p) (waiting_at p) ∙ ap (λ rs. walk_at (used (rule_of s) (texts_in s) rs) free) at.1 ∙ ap (λ rs. walk_at rs free) (used_row s base new)) on

-- settings with numbers, each option once, have no fault
pub take_settings : (ss : List Setting) (words : List Text) (rows : List Row) (p : Place) (base : List Row) → At rows p base → Spells words ss → Once (base ++ rows_for ss) → AllNumbers ss → Takes (walk_at rows p) words
unfolding walk_fault
take_settings [] words rows p base at sp once numbers = rw sp (record { turns = refl; ends = at.0; stays = refl })
take_settings (value key text ∷ more) words rows p base at (first, rest, is, inl s, sp) once numbers =
    let plain_text = number_is_plain text numbers.0.0 numbers.0.1 in
    let new = new_in (value key text) base (rows_for more) once in
    let here : At base (holds key text) (base ++ row_for (value key text) ∷ []) =
    (settle_fault_is key (text ∷ []) base ∙ usable (value key text) base new, settle_is key (text ∷ []) base ∙ used_row (value key text) base new) in
    let on = take_settings more rest base (holds key text) (base ++ row_for (value key text) ∷ []) here sp (subst Once (sym (append_assoc base (row_for (value key text) ∷ []) (rows_for more))) once) numbers.1 in
    subst (Takes (walk_at rows p)) (sym (is ∙ ap (λ f. f ++ rest) s))
    (take_more _ (walk_at base (awaits key)) (name_of key) (text ∷ rest) (name_turn key rows (pending_at p) (waiting_at p) ∙ ap (λ k. or_else k []) at.0)
    (name_walk key rows (pending_at p) (waiting_at p) ∙ ap (λ rs. walk_at rs (awaits key)) at.1)
    (take_more _ (walk_at base (holds key text)) text rest (value_turn key text base plain_text) (value_held key text base plain_text) on))
take_settings (value key text ∷ more) words rows p base at (first, rest, is, inr s, sp) once numbers =
    let on = take_settings more rest (base ++ row_for (value key text) ∷ []) free (base ++ row_for (value key text) ∷ []) (refl, refl) sp (subst Once (sym (append_assoc base (row_for (value key text) ∷ []) (rows_for more))) once) numbers.1 in
    subst (Takes (walk_at rows p)) (sym (is ∙ ap (λ f. f ++ rest) s)) (take_whole (value key text) rest rows p base at (new_in (value key text) base (rows_for more) once) on)
take_settings (draw ∷ more) words rows p base at (first, rest, is, s, sp) once numbers =
    let on = take_settings more rest (base ++ row_for draw ∷ []) free (base ++ row_for draw ∷ []) (refl, refl) sp (subst Once (sym (append_assoc base (row_for draw ∷ []) (rows_for more))) once) numbers in
    subst (Takes (walk_at rows p)) (sym (is ∙ ap (λ f. f ++ rest) s)) (take_whole draw rest rows p base at (new_in draw base (rows_for more) once) on)

named_alone : (key : Key) → is_separator (name_of key) ≡ false
named_alone key = grind arith

named_with : (key : Key) (text : Text) → is_separator (name_of key ++ 61 ∷ text) ≡ false
named_with key text = grind arith

-- no word of such settings is `--`
pub no_separator : (ss : List Setting) (words : List Text) → Spells words ss → AllNumbers ss → list_any is_separator words ≡ false
no_separator [] words sp numbers = rw sp refl
no_separator (value key text ∷ more) words (first, rest, is, inl s, sp) numbers =
    let plain_text = number_is_plain text numbers.0.0 numbers.0.1 in
    rw (is, s, named_alone key, plain_text.single) (no_separator more rest sp numbers.1)
no_separator (value key text ∷ more) words (first, rest, is, inr s, sp) numbers = rw (is, s, named_with key text) (no_separator more rest sp numbers.1)
no_separator (draw ∷ more) words (first, rest, is, s, sp) numbers = rw (is, s) (no_separator more rest sp numbers)
