-- Command lines by their parts.
use Rattle.calc_commands.proofs.Shared.{by_test, ◌≡◌, ◌∙◌, ℕ, ◌<◌, List, [], ◌∷◌, ◌++◌, length, Bool, true, false, Option, Some, None, cond, refl, sym, ap, subst, arith, ◌&&◌, list_all, lt-ltb}
use Rattle.calc_commands.proofs.Shared.{append-nil, is_in, bytes_eq-Decides, ltb, eqb-true, ne_eqb, bytes_eq, ◌||◌, not, codes, IfSome, IsNone, option_map, option_and_then, is_name, is_name_byte}
use Rattle.calc_commands.proofs.Shared.{spelled, is_blank, leading_run, Asked, pool, dump, draw, layout, latex, forget, after, diff, solve, roots, expand, asked_of, begins_dark, Has, IsTextBehind, HasText}
use Rattle.calc_commands.proofs.Shared.{IsCommandLine, asks_pool, asks_dump, asks_draw, asks_layout, asks_forget, asks_after, asks_diff, asks_solve, asks_roots, asks_expand, asks_latex, value_of, are_blanks, behind_colon}
use Rattle.calc_commands.proofs.Shared.{asks_help, asks_names, asks_explain, help, list_names, explain, asked_by, asked_with, BeginsWithWord, all_words, word_among, word_bytes, word_of}
use Rattle.calc_commands.specs.declared.words.Word.{Word}
use Rattle.calc_commands.specs.declared.words.Word.TheVariants as word
use Rattle.calc_commands.proofs.Shared.{argument_of, word_and_rest, text_behind, name_and_text, name_and_text_behind, asked_alone, asked_for, asked_in, Command, run_whole, run_all, run_stops, stops}
use Rattle.calc_commands.proofs.{Shared.{run_of}, Values.{no_digits, not_digits}, Runs.{all-append, all_other, first_of_all}}
use Rattle.std.proofs.{Common.{eqb, leb}, lemmas.Bool.{leb-true}}
use Rattle.calc_commands.proofs.Shared.{asks_decimals, asks_sign, decimals, sign, most_places, places_and_text, asked_to_round, ◌≤◌, le-leb}
use Rattle.calc_commands.specs.declared.parts.Class.TheVariants as class

-- ---- bytes

-- a blank is one of two bytes
blank_cases : (P : ℕ → Type 0) (b : ℕ) → is_blank b ≡ true → P 32 → P 9 → P b
blank_cases P b h p q = grind arith

no_letter : (b : ℕ) → is_blank b ≡ true → not (is_in class.SmallLetter b) ≡ true
no_letter b h = blank_cases (λ x. not (is_in class.SmallLetter x) ≡ true) b h refl refl

no_dark : (b : ℕ) → is_blank b ≡ true → not (is_in class.Dark b) ≡ true
no_dark b h = blank_cases (λ x. not (is_in class.Dark x) ≡ true) b h refl refl

dark_by : (p : ℕ → Bool) → p 32 ≡ false → p 9 ≡ false → (b : ℕ) → p b ≡ true → is_in class.Dark b ≡ true
dark_by p s t b h = grind arith

pub dark_name : (x : List ℕ) → is_name x ≡ true → list_all (is_in class.Dark) x ≡ true
dark_name x h = all_other is_name_byte (is_in class.Dark) (dark_by is_name_byte refl refl) x (spelled x h).spelled

pub dark_digits : (x : List ℕ) (k : ℕ) → value_of x ≡ Some k → list_all (is_in class.Dark) x ≡ true
dark_digits x k h = grind (arith, all_other, dark_by, by_test, not_digits)

-- blanks stop letters and what is dark
stops_letters : (bytes : List ℕ) → list_all is_blank bytes ≡ true → stops (is_in class.SmallLetter) bytes ≡ true
stops_letters bytes h = grind arith

stops_dark : (bytes : List ℕ) → list_all is_blank bytes ≡ true → stops (is_in class.Dark) bytes ≡ true
stops_dark bytes h = grind arith

-- ---- the parts are found

nothing : (bytes : List ℕ) → (0 < length bytes → 0 < 0) → bytes ≡ []
nothing [] h = refl
nothing (b ∷ bytes) h = absurd (omega (arith, h (omega arith)))

stops_word : (gap argument behind : List ℕ) → list_all is_blank gap ≡ true → list_all is_blank behind ≡ true → (0 < length argument → 0 < length gap) → stops (is_in class.SmallLetter) (gap ++ (argument ++ behind)) ≡ true
stops_word [] argument behind g b h = ap (λ a. stops (is_in class.SmallLetter) (a ++ behind)) (nothing argument h) ∙ stops_letters behind b
stops_word (x ∷ gap) argument behind g b h = no_letter x (first_of_all is_blank x gap g)

argument_found : (gap argument behind : List ℕ) → list_all is_blank gap ≡ true → list_all is_blank behind ≡ true → list_all (is_in class.Dark) argument ≡ true → (0 < length argument → 0 < length gap)
    → argument_of (gap ++ (argument ++ behind)) ≡ Some argument
argument_found gap [] behind g b d h =
    let all : leading_run is_blank (gap ++ behind) ≡ (gap ++ behind, []) = ap (leading_run is_blank) (sym (append-nil (gap ++ behind))) ∙ run_of is_blank (gap ++ behind) [] (all-append is_blank gap behind g b) refl in
    rw all refl
argument_found gap (c ∷ argument) behind g b d h =
    let first : leading_run is_blank (gap ++ (c ∷ (argument ++ behind))) ≡ (gap, c ∷ (argument ++ behind)) = run_of is_blank gap (c ∷ (argument ++ behind)) g (first_of_all (is_in class.Dark) c argument d) in
    let second : leading_run (is_in class.Dark) (c ∷ (argument ++ behind)) ≡ (c ∷ argument, behind) = run_of (is_in class.Dark) (c ∷ argument) behind d (stops_dark behind b) in
    let some : eqb (length (c ∷ argument)) 0 ≡ false = ne_eqb (length (c ∷ argument)) 0 (λ e. absurd (omega arith)) in
    let gapped : ltb 0 (length gap) ≡ true = lt-ltb 0 (length gap) (h (omega arith)) in
    rw (first, second, some, gapped, b) refl

-- what stands behind a word where a line begins with it
record HasWord (line word rest : List ℕ) : Type 0 where
  before : List ℕ
  whole : line ≡ before ++ (58 ∷ (word ++ rest))
  blank_before : list_all is_blank before ≡ true

word_found : (line word rest : List ℕ) → HasWord line word rest → list_all (is_in class.SmallLetter) word ≡ true → stops (is_in class.SmallLetter) rest ≡ true → word_and_rest line ≡ Some (word, rest)
word_found line word rest h w s = grind (arith, run_of)

begins_word : {line word argument : List ℕ} (h : Has line word argument) → HasWord line word (h.gap ++ (argument ++ h.behind))
begins_word h = record { before = h.before; whole = h.whole; blank_before = h.blank_before }

begins_text : {line word text : List ℕ} (h : HasText line word text) → HasWord line word (h.gap ++ text)
begins_text h = record { before = h.before; whole = h.whole; blank_before = h.blank_before }

-- ---- and so are texts

stops_blanks : (text : List ℕ) → begins_dark text ≡ true → stops is_blank text ≡ true
stops_blanks text d = grind arith

some_byte : (text : List ℕ) → begins_dark text ≡ true → 0 < length text
some_byte text d = grind arith

not_empty : (bytes : List ℕ) → 0 < length bytes → eqb (length bytes) 0 ≡ false
not_empty bytes l = ne_eqb (length bytes) 0 (λ e. omega (arith, l, e))

text_found : (gap text : List ℕ) → IsTextBehind gap text → text_behind (gap ++ text) ≡ Some text
text_found gap text h = grind (arith, run_of, stops_blanks, not_empty, some_byte)

stops_at_blank : (p : ℕ → Bool) → ((b : ℕ) → is_blank b ≡ true → not (p b) ≡ true) → (gap text : List ℕ) → list_all is_blank gap ≡ true → 0 < length gap → stops p (gap ++ text) ≡ true
stops_at_blank p f [] text a l = absurd (omega (arith, l))
stops_at_blank p f (b ∷ gap) text a l = f b (first_of_all is_blank b gap a)

name_found : (name gap text : List ℕ) → is_name name ≡ true → IsTextBehind gap text → name_and_text (name ++ (gap ++ text)) ≡ Some (name, text)
name_found name gap text n h = grind (arith, run_of, dark_name, stops_at_blank, no_dark, text_found)

named_found : (name gap text rest : List ℕ) → is_name name ≡ true → IsTextBehind gap text → text_behind rest ≡ Some (name ++ (gap ++ text)) → name_and_text_behind rest ≡ Some (name, text)
named_found name gap text rest n h e = ap (option_and_then name_and_text) e ∙ name_found name gap text n h

places_found : (digits gap text : List ℕ) (places : ℕ) → value_of digits ≡ Some places → places ≤ most_places → IsTextBehind gap text → places_and_text (digits ++ (gap ++ text)) ≡ Some (places, text)
places_found digits gap text places v l h =
    let run : leading_run (is_in class.Dark) (digits ++ (gap ++ text)) ≡ (digits, gap ++ text) = run_of (is_in class.Dark) digits (gap ++ text) (dark_digits digits places v) (stops_at_blank (is_in class.Dark) no_dark gap text h.blank h.some) in
    rw (run, v, le-leb places most_places l, text_found gap text h) refl

-- ---- and what is found is there

record IsArgument (rest argument : List ℕ) : Type 0 where
  gap : List ℕ
  behind : List ℕ
  whole : rest ≡ gap ++ (argument ++ behind)
  blank_gap : list_all is_blank gap ≡ true
  blank_behind : list_all is_blank behind ≡ true
  apart : 0 < length argument → 0 < length gap

argument_by : (rest gap text argument behind given : List ℕ) → gap ++ text ≡ rest → argument ++ behind ≡ text → list_all is_blank gap ≡ true
    → cond ((eqb (length argument) 0 || ltb 0 (length gap)) && are_blanks behind) (Some argument) None ≡ Some given → IsArgument rest given
argument_by rest gap text argument behind given e f g h = grind arith

argument_there : (rest given : List ℕ) → argument_of rest ≡ Some given → IsArgument rest given
argument_there rest given h = grind (arith, argument_by, run_whole, run_all)

colon_there : (bytes text : List ℕ) → behind_colon bytes ≡ Some text → bytes ≡ 58 ∷ text
colon_there bytes text h = grind arith

pairs : (v w a b : List ℕ) → ◌≡◌ {A = Option (List ℕ × List ℕ)} (Some (v, a)) (Some (w, b)) → (v ≡ w) × (a ≡ b)
pairs v w a b e = let same : ◌≡◌ {A = List ℕ × List ℕ} (v, a) (w, b) = cc in (ap (λ (p : List ℕ × List ℕ). p.0) same, ap (λ (p : List ℕ × List ℕ). p.1) same)

word_there : (line word rest : List ℕ) → word_and_rest line ≡ Some (word, rest) → HasWord line word rest
word_there line word rest h = colon (behind_colon ((leading_run is_blank line).1)) refl h
  where
    colon : (text : Option (List ℕ)) → behind_colon ((leading_run is_blank line).1) ≡ text → option_map {U = List ℕ × List ℕ} (leading_run (is_in class.SmallLetter)) text ≡ Some (word, rest) → HasWord line word rest
    colon None e q = absurd cc
    colon (Some text) e q =
        let run = leading_run (is_in class.SmallLetter) text in
        let same = pairs run.0 word run.1 rest q in
        record {
          before = (leading_run is_blank line).0;
          whole = sym (run_whole is_blank line) ∙ ap (λ y. (leading_run is_blank line).0 ++ y) (colon_there ((leading_run is_blank line).1) text e ∙ ap (λ y. 58 ∷ y) (sym (run_whole (is_in class.SmallLetter) text) ∙ ap (λ y. y ++ run.1) same.0 ∙ ap (λ y. word ++ y) same.1));
          blank_before = run_all is_blank line;
        }

there : (line word rest argument : List ℕ) → HasWord line word rest → argument_of rest ≡ Some argument → Has line word argument
there line word rest argument h e =
    let x = argument_there rest argument e in
    record {
      before = h.before;
      gap = x.gap;
      behind = x.behind;
      whole = h.whole ∙ ap (λ y. h.before ++ (58 ∷ (word ++ y))) x.whole;
      blank_before = h.blank_before;
      blank_gap = x.blank_gap;
      blank_behind = x.blank_behind;
      apart = x.apart;
    }

record IsText (rest text : List ℕ) : Type 0 where
  gap : List ℕ
  whole : rest ≡ gap ++ text
  behind : IsTextBehind gap text

some_length : (bytes : List ℕ) → eqb (length bytes) 0 ≡ false → 0 < length bytes
some_length bytes e = grind arith

dark_by_stop : (text : List ℕ) → stops is_blank text ≡ true → eqb (length text) 0 ≡ false → begins_dark text ≡ true
dark_by_stop text s e = grind arith

text_there : (rest text : List ℕ) → text_behind rest ≡ Some text → IsText rest text
text_there rest text h = grind (arith, run_whole, run_all, run_stops, stops, nothing, some_length, dark_by_stop)

record IsNameAndText (bytes name text : List ℕ) : Type 0 where
  rest : List ℕ
  whole : bytes ≡ name ++ rest
  named : is_name name ≡ true
  behind : IsText rest text

name_there : (bytes name text : List ℕ) → name_and_text bytes ≡ Some (name, text) → IsNameAndText bytes name text
name_there bytes name text h =
    let run = leading_run (is_in class.Dark) bytes in
    by_test (λ t. is_name run.0 ≡ t → cond t (option_map {U = List ℕ × List ℕ} (λ behind. (run.0, behind)) (text_behind run.1)) None ≡ Some (name, text) → IsNameAndText bytes name text) (is_name run.0)
    (λ e n q. by run.0 run.1 (run_whole (is_in class.Dark) bytes) n (text_behind run.1) refl q) (λ e n q. absurd cc) refl h
  where
    by : (word rest : List ℕ) → word ++ rest ≡ bytes → is_name word ≡ true → (found : Option (List ℕ)) → text_behind rest ≡ found → option_map {U = List ℕ × List ℕ} (λ behind. (word, behind)) found ≡ Some (name, text) → IsNameAndText bytes name text
    by word rest w n None e q = absurd cc
    by word rest w n (Some behind) e q =
        let same = pairs word name behind text q in
        record {
          rest = rest;
          whole = sym w ∙ ap (λ x. x ++ rest) same.0;
          named = ap is_name (sym same.0) ∙ n;
          behind = text_there rest text (e ∙ ap Some same.1);
        }

placed : (m n : ℕ) (a b : List ℕ) → ◌≡◌ {A = Option (ℕ × List ℕ)} (Some (m, a)) (Some (n, b)) → (m ≡ n) × (a ≡ b)
placed m n a b e = let same : ◌≡◌ {A = ℕ × List ℕ} (m, a) (n, b) = cc in (ap (λ (p : ℕ × List ℕ). p.0) same, ap (λ (p : ℕ × List ℕ). p.1) same)

record ArePlacesAndText (bytes : List ℕ) (places : ℕ) (text : List ℕ) : Type 0 where
  digits : List ℕ
  rest : List ℕ
  whole : bytes ≡ digits ++ rest
  counted : value_of digits ≡ Some places
  few : places ≤ most_places
  behind : IsText rest text

places_there : (bytes : List ℕ) (places : ℕ) (text : List ℕ) → places_and_text bytes ≡ Some (places, text) → ArePlacesAndText bytes places text
places_there bytes places text h = let run = leading_run (is_in class.Dark) bytes in counted run.0 run.1 (run_whole (is_in class.Dark) bytes) (value_of run.0) refl h
  where
    behind_them : (digits rest : List ℕ) → digits ++ rest ≡ bytes → (n : ℕ) → value_of digits ≡ Some n → n ≤ most_places → (found : Option (List ℕ)) → text_behind rest ≡ found
        → option_map {U = ℕ × List ℕ} (λ behind. (n, behind)) found ≡ Some (places, text) → ArePlacesAndText bytes places text
    behind_them digits rest w n v l None e q = absurd cc
    behind_them digits rest w n v l (Some behind) e q =
        let same = placed n places behind text q in
        record {
          digits = digits;
          rest = rest;
          whole = sym w;
          counted = v ∙ ap Some same.0;
          few = subst (λ m. m ≤ most_places) same.0 l;
          behind = text_there rest text (e ∙ ap Some same.1);
        }

    counted : (digits rest : List ℕ) → digits ++ rest ≡ bytes → (n : Option ℕ) → value_of digits ≡ n
        → option_and_then {U = ℕ × List ℕ} (λ m. cond (leb m most_places) (option_map (λ behind. (m, behind)) (text_behind rest)) None) n ≡ Some (places, text) → ArePlacesAndText bytes places text
    counted digits rest w None v q = absurd cc
    counted digits rest w (Some n) v q =
        by_test (λ t. leb n most_places ≡ t → cond t (option_map {U = ℕ × List ℕ} (λ behind. (n, behind)) (text_behind rest)) None ≡ Some (places, text) → ArePlacesAndText bytes places text) (leb n most_places)
        (λ z l k. behind_them digits rest w n v (leb-true n most_places l) (text_behind rest) refl k) (λ z l k. absurd cc) refl q

-- ---- what is asked for

asks : {line : List ℕ} {a b : Asked} → IsCommandLine line a → Some a ≡ Some b → IsCommandLine line b
asks {line = line} {a = a} {b = b} h e = let same : a ≡ b = cc in subst (IsCommandLine line) same h

bytes_are : (ws : List Word) (bytes : List ℕ) (w : Word) → word_among ws bytes ≡ Some w → word_bytes w ≡ bytes
bytes_are [] bytes w e = absurd cc
bytes_are (v ∷ ws) bytes w e =
    by_test (λ t. bytes_eq (word_bytes v) bytes ≡ t → cond t (Some v) (word_among ws bytes) ≡ Some w → word_bytes w ≡ bytes) (bytes_eq (word_bytes v) bytes)
    (λ z p k. let same : v ≡ w = cc in ap word_bytes (sym same) ∙ (bytes_eq-Decides (word_bytes v) bytes).0 p) (λ z p k. bytes_are ws bytes w k) refl e

alone_sound : (line : List ℕ) (w : Word) (q : Asked) → Has line (word_bytes w) [] → asked_alone w ≡ Some q → IsCommandLine line q
alone_sound line word.Help q h e = asks (asks_help h) e
alone_sound line word.Pool q h e = asks (asks_pool h) e
alone_sound line word.Dump q h e = asks (asks_dump h) e
alone_sound line word.Names q h e = asks (asks_names h) e
alone_sound line word.Forget q h e = absurd cc
alone_sound line word.After q h e = absurd cc
alone_sound line word.Layout q h e = asks (asks_layout h) e
alone_sound line word.Latex q h e = asks (asks_latex h) e
alone_sound line word.Draw q h e = asks (asks_draw h) e
alone_sound line word.Diff q h e = absurd cc
alone_sound line word.Solve q h e = absurd cc
alone_sound line word.Roots q h e = absurd cc
alone_sound line word.Expand q h e = absurd cc
alone_sound line word.Decimal q h e = absurd cc
alone_sound line word.Sign q h e = absurd cc

empty_by : (bytes : List ℕ) → eqb (length bytes) 0 ≡ true → bytes ≡ []
empty_by [] h = refl
empty_by (b ∷ bytes) h = absurd (omega (arith, eqb-true (length (b ∷ bytes)) 0 h))

number_sound : (line argument : List ℕ) (q : Asked) (k : Option ℕ) → value_of argument ≡ k → Has line (codes "after") argument → option_map after k ≡ Some q → IsCommandLine line q
number_sound line argument q None v h e = absurd cc
number_sound line argument q (Some k) v h e = asks (asks_after h v) e

explain_sound : (line argument : List ℕ) (q : Asked) (found : Option Word) → word_of argument ≡ found → Has line (codes "help") argument → option_map explain found ≡ Some q → IsCommandLine line q
explain_sound line argument q None v h e = absurd cc
explain_sound line argument q (Some w) v h e = asks (asks_explain (subst (Has line (codes "help")) (sym (bytes_are all_words argument w v)) h)) e

with_sound : (line : List ℕ) (w : Word) (argument : List ℕ) (q : Asked) → Has line (word_bytes w) argument → asked_with w argument ≡ Some q → IsCommandLine line q
with_sound line word.Help argument q h e = explain_sound line argument q (word_of argument) refl h e
with_sound line word.Pool argument q h e = absurd cc
with_sound line word.Dump argument q h e = absurd cc
with_sound line word.Names argument q h e = absurd cc
with_sound line word.Forget argument q h e =
    by_test (λ t. is_name argument ≡ t → cond t (Some (forget argument)) None ≡ Some q → IsCommandLine line q) (is_name argument) (λ z n k. asks (asks_forget h n) k) (λ z n k. absurd cc) refl e
with_sound line word.After argument q h e = number_sound line argument q (value_of argument) refl h e
with_sound line word.Layout argument q h e = absurd cc
with_sound line word.Latex argument q h e = absurd cc
with_sound line word.Draw argument q h e = absurd cc
with_sound line word.Diff argument q h e = absurd cc
with_sound line word.Solve argument q h e = absurd cc
with_sound line word.Roots argument q h e = absurd cc
with_sound line word.Expand argument q h e = absurd cc
with_sound line word.Decimal argument q h e = absurd cc
with_sound line word.Sign argument q h e = absurd cc

argument_sound : (line : List ℕ) (w : Word) (argument : List ℕ) (q : Asked) → Has line (word_bytes w) argument → asked_for w argument ≡ Some q → IsCommandLine line q
argument_sound line w argument q h e =
    by_test (λ t. eqb (length argument) 0 ≡ t → cond t (asked_alone w) (asked_with w argument) ≡ Some q → IsCommandLine line q) (eqb (length argument) 0)
    (λ z n k. alone_sound line w q (subst (Has line (word_bytes w)) (empty_by argument n) h) k) (λ z n k. with_sound line w argument q h k) refl e

-- a word with a text
text_sound : {line word rest text : List ℕ} → HasWord line word rest → IsText rest text → HasText line word text
text_sound {word = word} h x = record { before = h.before; gap = x.gap; whole = h.whole ∙ ap (λ y. h.before ++ (58 ∷ (word ++ y))) x.whole; blank_before = h.blank_before; behind = x.behind }

solve_sound : (line rest : List ℕ) (q : Asked) → HasWord line (codes "solve") rest → (found : Option (List ℕ)) → text_behind rest ≡ found → option_map solve found ≡ Some q → IsCommandLine line q
solve_sound line rest q h None e k = absurd cc
solve_sound line rest q h (Some text) e k = asks (asks_solve (text_sound h (text_there rest text e))) k

expand_sound : (line rest : List ℕ) (q : Asked) → HasWord line (codes "expand") rest → (found : Option (List ℕ)) → text_behind rest ≡ found → option_map expand found ≡ Some q → IsCommandLine line q
expand_sound line rest q h None e k = absurd cc
expand_sound line rest q h (Some text) e k = asks (asks_expand (text_sound h (text_there rest text e))) k

-- the rule of a word with a name and a text
abbrev RuleOfName : (line word : List ℕ) → (List ℕ → List ℕ → Asked) → Type 0
RuleOfName line word ask = (name gap text : List ℕ) → HasText line word (name ++ (gap ++ text)) → is_name name ≡ true → IsTextBehind gap text → IsCommandLine line (ask name text)

named_there : (line word rest name text : List ℕ) (ask : List ℕ → List ℕ → Asked) → RuleOfName line word ask → HasWord line word rest → (bytes : List ℕ) → IsText rest bytes → IsNameAndText bytes name text → IsCommandLine line (ask name text)
named_there line word rest name text ask rule h bytes x y = rule name y.behind.gap text (subst (HasText line word) (y.whole ∙ ap (λ b. name ++ b) y.behind.whole) (text_sound h x)) y.named y.behind.behind

named_sound : (line word rest : List ℕ) (ask : List ℕ → List ℕ → Asked) → RuleOfName line word ask → (q : Asked) → HasWord line word rest → option_map (λ p. ask p.0 p.1) (name_and_text_behind rest) ≡ Some q → IsCommandLine line q
named_sound line word rest ask rule q h k = by (text_behind rest) refl k
  where
    named : (bytes : List ℕ) → text_behind rest ≡ Some bytes → (found : Option (List ℕ × List ℕ)) → name_and_text bytes ≡ found → option_map (λ p. ask p.0 p.1) found ≡ Some q → IsCommandLine line q
    named bytes e None f k = absurd cc
    named bytes e (Some (name, text)) f k = asks (named_there line word rest name text ask rule h bytes (text_there rest bytes e) (name_there bytes name text f)) k

    by : (found : Option (List ℕ)) → text_behind rest ≡ found → option_map (λ p. ask p.0 p.1) (option_and_then name_and_text found) ≡ Some q → IsCommandLine line q
    by None e k = absurd cc
    by (Some bytes) e k = named bytes e (name_and_text bytes) refl k

sign_sound : (line rest : List ℕ) (q : Asked) → HasWord line (codes "sign") rest → (found : Option (List ℕ)) → text_behind rest ≡ found → option_map sign found ≡ Some q → IsCommandLine line q
sign_sound line rest q h None e k = absurd cc
sign_sound line rest q h (Some text) e k = asks (asks_sign (text_sound h (text_there rest text e))) k

decimals_there : (line rest : List ℕ) (places : ℕ) (text : List ℕ) → HasWord line (codes "decimal") rest → (bytes : List ℕ) → IsText rest bytes → ArePlacesAndText bytes places text → IsCommandLine line (decimals places text)
decimals_there line rest places text h bytes x y =
    asks_decimals y.digits (subst (HasText line (codes "decimal")) (y.whole ∙ ap (λ b. y.digits ++ b) y.behind.whole) (text_sound h x)) y.counted y.few y.behind.behind

decimals_sound : (line rest : List ℕ) (q : Asked) → HasWord line (codes "decimal") rest → asked_to_round rest ≡ Some q → IsCommandLine line q
decimals_sound line rest q h k = by (text_behind rest) refl k
  where
    counted : (bytes : List ℕ) → text_behind rest ≡ Some bytes → (found : Option (ℕ × List ℕ)) → places_and_text bytes ≡ found → option_map (λ p. decimals p.0 p.1) found ≡ Some q → IsCommandLine line q
    counted bytes e None f k = absurd cc
    counted bytes e (Some (places, text)) f k = asks (decimals_there line rest places text h bytes (text_there rest bytes e) (places_there bytes places text f)) k

    by : (found : Option (List ℕ)) → text_behind rest ≡ found → option_map (λ p. decimals p.0 p.1) (option_and_then places_and_text found) ≡ Some q → IsCommandLine line q
    by None e k = absurd cc
    by (Some bytes) e k = counted bytes e (places_and_text bytes) refl k

plain_sound : (line : List ℕ) (w : Word) (rest : List ℕ) (q : Asked) → HasWord line (word_bytes w) rest → (found : Option (List ℕ)) → argument_of rest ≡ found → option_and_then (asked_for w) found ≡ Some q → IsCommandLine line q
plain_sound line w rest q h None e k = absurd cc
plain_sound line w rest q h (Some argument) e k = argument_sound line w argument q (there line (word_bytes w) rest argument h e) k

by_sound : (line : List ℕ) (w : Word) (rest : List ℕ) (q : Asked) → HasWord line (word_bytes w) rest → asked_by w rest ≡ Some q → IsCommandLine line q
by_sound line word.Help rest q h e = plain_sound line word.Help rest q h (argument_of rest) refl e
by_sound line word.Pool rest q h e = plain_sound line word.Pool rest q h (argument_of rest) refl e
by_sound line word.Dump rest q h e = plain_sound line word.Dump rest q h (argument_of rest) refl e
by_sound line word.Names rest q h e = plain_sound line word.Names rest q h (argument_of rest) refl e
by_sound line word.Forget rest q h e = plain_sound line word.Forget rest q h (argument_of rest) refl e
by_sound line word.After rest q h e = plain_sound line word.After rest q h (argument_of rest) refl e
by_sound line word.Layout rest q h e = plain_sound line word.Layout rest q h (argument_of rest) refl e
by_sound line word.Latex rest q h e = plain_sound line word.Latex rest q h (argument_of rest) refl e
by_sound line word.Draw rest q h e = plain_sound line word.Draw rest q h (argument_of rest) refl e
by_sound line word.Diff rest q h e = named_sound line (codes "diff") rest diff (λ name gap text t n b. asks_diff t n b) q h e
by_sound line word.Solve rest q h e = solve_sound line rest q h (text_behind rest) refl e
by_sound line word.Roots rest q h e = named_sound line (codes "roots") rest roots (λ name gap text t n b. asks_roots t n b) q h e
by_sound line word.Expand rest q h e = expand_sound line rest q h (text_behind rest) refl e
by_sound line word.Decimal rest q h e = decimals_sound line rest q h e
by_sound line word.Sign rest q h e = sign_sound line rest q h (text_behind rest) refl e

sound : (line bytes rest : List ℕ) (q : Asked) → HasWord line bytes rest → asked_in bytes rest ≡ Some q → IsCommandLine line q
sound line bytes rest q h e = by (word_of bytes) refl e
  where
    by : (found : Option Word) → word_of bytes ≡ found → option_and_then (λ w. asked_by w rest) found ≡ Some q → IsCommandLine line q
    by None f k = absurd cc
    by (Some w) f k = by_sound line w rest q (subst (λ b. HasWord line b rest) (sym (bytes_are all_words bytes w f)) h) k

record IsFound (line : List ℕ) (q : Asked) : Type 0 where
  word : List ℕ
  rest : List ℕ
  parts : word_and_rest line ≡ Some (word, rest)
  asks : asked_in word rest ≡ Some q

-- a word with an argument
found_with : (line word argument : List ℕ) (q : Asked) (h : Has line word argument) → list_all (is_in class.SmallLetter) word ≡ true → list_all (is_in class.Dark) argument ≡ true
    → ((rest : List ℕ) → argument_of rest ≡ Some argument → asked_in word rest ≡ Some q) → IsFound line q
found_with line word argument q h w d is = record {
  word = word;
  rest = h.gap ++ (argument ++ h.behind);
  parts = word_found line word (h.gap ++ (argument ++ h.behind)) (begins_word h) w (stops_word h.gap argument h.behind h.blank_gap h.blank_behind h.apart);
  asks = is (h.gap ++ (argument ++ h.behind)) (argument_found h.gap argument h.behind h.blank_gap h.blank_behind d h.apart);
}

-- a word with a text
found_before : (line word text : List ℕ) (q : Asked) (h : HasText line word text) → list_all (is_in class.SmallLetter) word ≡ true → ((rest : List ℕ) → text_behind rest ≡ Some text → asked_in word rest ≡ Some q) → IsFound line q
found_before line word text q h w is = record {
  word = word;
  rest = h.gap ++ text;
  parts = word_found line word (h.gap ++ text) (begins_text h) w (stops_at_blank (is_in class.SmallLetter) no_letter h.gap text h.behind.blank h.behind.some);
  asks = is (h.gap ++ text) (text_found h.gap text h.behind);
}

clash : {A : Type 0} (x : A) (o : Option A) → o ≡ None → o ≡ Some x → ⊥
clash x o e f = cc

some_name : (x : List ℕ) → is_name x ≡ true → 0 < length x
some_name [] n = absurd cc
some_name (b ∷ x) n = omega arith

forget_read : (x : List ℕ) → is_name x ≡ true → asked_for word.Forget x ≡ Some (forget x)
forget_read x n = rw (not_empty x (some_name x n), n) refl

some_digit : (digits : List ℕ) (k : ℕ) → value_of digits ≡ Some k → 0 < length digits
some_digit [] k v = absurd (clash k (value_of []) no_digits v)
some_digit (b ∷ digits) k v = omega arith

after_read : (digits : List ℕ) (k : ℕ) → value_of digits ≡ Some k → asked_for word.After digits ≡ Some (after k)
after_read digits k v = rw (not_empty digits (some_digit digits k v)) (ap (option_map after) v)

-- a word is dark, and it is read as itself
dark_word : (w : Word) → list_all (is_in class.Dark) (word_bytes w) ≡ true
dark_word word.Help = refl
dark_word word.Pool = refl
dark_word word.Dump = refl
dark_word word.Names = refl
dark_word word.Forget = refl
dark_word word.After = refl
dark_word word.Layout = refl
dark_word word.Latex = refl
dark_word word.Draw = refl
dark_word word.Diff = refl
dark_word word.Solve = refl
dark_word word.Roots = refl
dark_word word.Expand = refl
dark_word word.Decimal = refl
dark_word word.Sign = refl

explain_read : (w : Word) → asked_for word.Help (word_bytes w) ≡ Some (explain w)
explain_read word.Help = refl
explain_read word.Pool = refl
explain_read word.Dump = refl
explain_read word.Names = refl
explain_read word.Forget = refl
explain_read word.After = refl
explain_read word.Layout = refl
explain_read word.Latex = refl
explain_read word.Draw = refl
explain_read word.Diff = refl
explain_read word.Solve = refl
explain_read word.Roots = refl
explain_read word.Expand = refl
explain_read word.Decimal = refl
explain_read word.Sign = refl

complete : (line : List ℕ) (q : Asked) → IsCommandLine line q → IsFound line q
complete line pool (asks_pool h) = found_with line (codes "pool") [] pool h refl refl (λ rest e. ap (option_and_then (asked_for word.Pool)) e)
complete line dump (asks_dump h) = found_with line (codes "dump") [] dump h refl refl (λ rest e. ap (option_and_then (asked_for word.Dump)) e)
complete line draw (asks_draw h) = found_with line (codes "draw") [] draw h refl refl (λ rest e. ap (option_and_then (asked_for word.Draw)) e)
complete line layout (asks_layout h) = found_with line (codes "layout") [] layout h refl refl (λ rest e. ap (option_and_then (asked_for word.Layout)) e)
complete line latex (asks_latex h) = found_with line (codes "latex") [] latex h refl refl (λ rest e. ap (option_and_then (asked_for word.Latex)) e)
complete line (forget x) (asks_forget h n) = found_with line (codes "forget") x (forget x) h refl (dark_name x n) (λ rest e. ap (option_and_then (asked_for word.Forget)) e ∙ forget_read x n)
complete line (after k) (asks_after {digits} h v) = found_with line (codes "after") digits (after k) h refl (dark_digits digits k v) (λ rest e. ap (option_and_then (asked_for word.After)) e ∙ after_read digits k v)
complete line (diff name text) (asks_diff {gap = gap} h n b) =
    found_before line (codes "diff") (name ++ (gap ++ text)) (diff name text) h refl (λ rest e. ap (option_map (λ p. diff p.0 p.1)) (named_found name gap text rest n b e))
complete line (solve text) (asks_solve h) = found_before line (codes "solve") text (solve text) h refl (λ rest e. ap (option_map solve) e)
complete line (roots name text) (asks_roots {gap = gap} h n b) =
    found_before line (codes "roots") (name ++ (gap ++ text)) (roots name text) h refl (λ rest e. ap (option_map (λ p. roots p.0 p.1)) (named_found name gap text rest n b e))
complete line (expand text) (asks_expand h) = found_before line (codes "expand") text (expand text) h refl (λ rest e. ap (option_map expand) e)
complete line list_names (asks_names h) = found_with line (codes "names") [] list_names h refl refl (λ rest e. ap (option_and_then (asked_for word.Names)) e)
complete line help (asks_help h) = found_with line (codes "help") [] help h refl refl (λ rest e. ap (option_and_then (asked_for word.Help)) e)
complete line (explain w) (asks_explain h) = found_with line (codes "help") (word_bytes w) (explain w) h refl (dark_word w) (λ rest e. ap (option_and_then (asked_for word.Help)) e ∙ explain_read w)
complete line (decimals places text) (asks_decimals digits {gap = gap} h v l b) =
    found_before line (codes "decimal") (digits ++ (gap ++ text)) (decimals places text) h refl (λ rest e. ap (λ found. option_map (λ p. decimals p.0 p.1) (option_and_then places_and_text found)) e ∙ ap (option_map (λ p. decimals p.0 p.1)) (places_found digits gap text places v l b))
complete line (sign text) (asks_sign h) = found_before line (codes "sign") text (sign text) h refl (λ rest e. ap (option_map sign) e)

-- a line that asks for something begins with a word
pub begins_word_of : (line : List ℕ) (q : Asked) → IsCommandLine line q → BeginsWithWord line
begins_word_of line q h = let x = complete line q h in by x.word x.rest x.parts (word_of x.word) refl x.asks
  where
    by : (bytes rest : List ℕ) → word_and_rest line ≡ Some (bytes, rest) → (found : Option Word) → word_of bytes ≡ found → option_and_then (λ w. asked_by w rest) found ≡ Some q → BeginsWithWord line
    by bytes rest e None f k = absurd cc
    by bytes rest e (Some w) f k = record { word = w; rest = rest; parts = e ∙ ap (λ b. Some (b, rest)) (sym (bytes_are all_words bytes w f)) }

-- a line with these parts asks for what they ask for
asks_for : (line word rest : List ℕ) (q : Asked) → word_and_rest line ≡ Some (word, rest) → IsCommandLine line q → asked_in word rest ≡ Some q
asks_for line word rest q e h =
    let x = complete line q h in
    let same = pairs x.word word x.rest rest (sym x.parts ∙ e) in
    ap (λ w. asked_in w rest) (sym same.0) ∙ ap (asked_in x.word) (sym same.1) ∙ x.asks

same_asked : (a b : Asked) → Some a ≡ Some b → a ≡ b
same_asked a b e = cc

pub once : (line : List ℕ) (a b : Asked) → IsCommandLine line a → IsCommandLine line b → a ≡ b
once line a b h k = let x = complete line a h in same_asked a b (sym x.asks ∙ asks_for line x.word x.rest b x.parts k)

-- ---- what the reader answers

pub answers : (r : Option Command) (line word rest : List ℕ) → word_and_rest line ≡ Some (word, rest) → option_map asked_of r ≡ asked_in word rest → IfSome r (λ c. IsCommandLine line (asked_of c))
answers None line word rest e f = tt
answers (Some c) line word rest e f = sound line word rest (asked_of c) (word_there line word rest e) (sym f)

pub answers_none : (r : Option Command) (line word rest : List ℕ) → word_and_rest line ≡ Some (word, rest) → option_map asked_of r ≡ asked_in word rest
    → (IsNone r → (q : Asked) → IsCommandLine line q → ⊥) × (((q : Asked) → IsCommandLine line q → ⊥) → IsNone r)
answers_none None line word rest e f = (λ n q h. clash q (asked_in word rest) (sym f) (asks_for line word rest q e h), λ n. refl)
answers_none (Some c) line word rest e f = (λ n q h. no n, λ n. absurd (n (asked_of c) (sound line word rest (asked_of c) (word_there line word rest e) (sym f))))
  where
    no : IsNone (Some c) → ⊥
    no h = cc

pub no_command : (line : List ℕ) (q : Asked) → word_and_rest line ≡ None → IsCommandLine line q → ⊥
no_command line q e h = let x = complete line q h in clash (x.word, x.rest) (word_and_rest line) e x.parts
