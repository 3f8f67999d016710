-- The options of words are those that the words ask for.
use Rattle.poincare_run.proofs.Shared.{◌≡◌, ◌⊎◌, ◌∙◌, ◌↔◌, ℕ, zero, suc, ◌<◌, ◌^◌, ◌&&◌, List, [], ◌∷◌, ◌++◌, length, drop, Bool, true, false, Option, Some, None, is_some, if◌then◌else◌, refl, sym}
use Rattle.poincare_run.proofs.Shared.{ap, subst, inl, inr, codes, arith, Decides-eqb, eqb, unwrap_or, IfSome, starts_with, option_and_then, option_map, bytes_eq, append_assoc, bytes_eq-Decides}
use Rattle.poincare_run.proofs.Shared.{starts_is, value_of, Key, Pool, Interrupt, Generated, Reading, is_pool_size, is_session_number, key_of, named_in, no_values, options_of, options_with, read}
use Rattle.poincare_run.proofs.Shared.{size_in, with_draw, with_generated, with_interrupt, with_number, with_pool, with_value, with_word, with_next, Asks, IsDrawn, IsNumber, IsSpelled}
use Rattle.poincare_run.proofs.Shared.{OptionsAreAsked, Setting, Spells, OrderIsFree, value, draw, draws_of, name_of, text_in, texts_of, Values, Options, IsPoolSize}
use Rattle.calc_terms.proofs.Names.{both as of_both}
use Rattle.poincare_run.specs.Options.{settled}

word_is : (word name : List ℕ) → bytes_eq word name ≡ true → word ≡ name
word_is word name e = (bytes_eq-Decides word name).0 e

-- ---- what is named before settings and behind them

-- an option's number before texts that stand as its value, and behind them
abbrev pub Joined : Option ℕ → List (List ℕ) → Option ℕ → Type 0
Joined old [] new = new ≡ old
Joined old (text ∷ []) new = (old ≡ None) × ((n : ℕ) × (value_of text ≡ Some n) × (new ≡ Some n))
Joined old (text ∷ other ∷ more) new = ⊥

abbrev pub Drawn : Bool → ℕ → Bool → Type 0
Drawn old zero new = new ≡ old
Drawn old (suc zero) new = (old ≡ false) × (new ≡ true)
Drawn old (suc (suc more)) new = ⊥

pub record Follows (v : Values) (ss : List Setting) (w : Values) : Type 0 where
  pub pool : Joined v.pool (texts_of Pool ss) w.pool
  pub interrupt : Joined v.interrupt (texts_of Interrupt ss) w.interrupt
  pub generated : Joined v.generated (texts_of Generated ss) w.generated
  pub draws : Drawn v.draw (draws_of ss) w.draw

joined_cons : (old : Option ℕ) (text : List ℕ) (texts : List (List ℕ)) (n : ℕ) (new : Option ℕ) → is_some old ≡ false → value_of text ≡ Some n → Joined (Some n) texts new → Joined old (text ∷ texts) new
joined_cons old text texts n new e h j = grind arith

joined_uncons : (old : Option ℕ) (text : List ℕ) (texts : List (List ℕ)) (new : Option ℕ) → Joined old (text ∷ texts) new → (is_some old ≡ false) × ((n : ℕ) × (value_of text ≡ Some n) × Joined (Some n) texts new)
joined_uncons old text texts new j = grind arith

drawn_cons : (old : Bool) (more : ℕ) (new : Bool) → old ≡ false → Drawn true more new → Drawn old (suc more) new
drawn_cons old more new e d = grind arith

pub drawn_uncons : (old : Bool) (more : ℕ) (new : Bool) → Drawn old (suc more) new → (old ≡ false) × Drawn true more new
drawn_uncons old more new d = grind arith

-- ---- choices that give something

of_choice : {X : Type 0} (b : Bool) (x y : X) → (if b then None else Some x) ≡ Some y → (b ≡ false) × (x ≡ y)
of_choice true x y e = absurd cc
of_choice false x y e = (refl, cc)

pub of_test : {X : Type 0} (b : Bool) (x y : X) → (if b then Some x else None) ≡ Some y → (b ≡ true) × (x ≡ y)
of_test true x y e = (refl, cc)
of_test false x y e = absurd cc

pub of_then : {A B : Type 0} (f : A → Option B) (o : Option A) (y : B) → option_and_then f o ≡ Some y → (x : A) × (o ≡ Some x) × (f x ≡ Some y)
of_then f None y e = absurd cc
of_then f (Some x) y e = (x, refl, e)

pub of_map : {A B : Type 0} (f : A → B) (o : Option A) (y : B) → option_map f o ≡ Some y → (x : A) × (o ≡ Some x) × (f x ≡ y)
of_map f None y e = absurd cc
of_map f (Some x) y e = (x, refl, cc)

-- ---- one setting

added : (key : Key) (text : List ℕ) (n : ℕ) (v u w : Values) (more : List Setting) → value_of text ≡ Some n → with_number key n v ≡ Some u → Follows u more w → Follows v (value key text ∷ more) w
added key text n v u w more h e f = grind (arith, joined_cons, of_choice)

valued : (key : Key) (text : List ℕ) (v u w : Values) (more : List Setting) → with_value key text v ≡ Some u → Follows u more w → Follows v (value key text ∷ more) w
valued key text v u w more e f = grind (arith, of_then, added)

drawn : (v u w : Values) (more : List Setting) → v.draw ≡ false → record v { draw = true } ≡ u → Follows u more w → Follows v (draw ∷ more) w
drawn v u w more h e f = grind (arith, drawn_cons)

-- an option that a first setting names may be given its number
pub taken : (key : Key) (text : List ℕ) (v w : Values) (more : List Setting) → Follows v (value key text ∷ more) w → (u : Values) × (with_value key text v ≡ Some u) × Follows u more w
taken Pool text v w more f =
    let k = joined_uncons v.pool text (texts_of Pool more) w.pool f.pool in
    let n = k.1.0 in
    (record v { pool = Some n }, rw (k.1.1, k.0) refl, record { pool = k.1.2; interrupt = f.interrupt; generated = f.generated; draws = f.draws })
taken Interrupt text v w more f =
    let k = joined_uncons v.interrupt text (texts_of Interrupt more) w.interrupt f.interrupt in
    let n = k.1.0 in
    (record v { interrupt = Some n }, rw (k.1.1, k.0) refl, record { pool = f.pool; interrupt = k.1.2; generated = f.generated; draws = f.draws })
taken Generated text v w more f =
    let k = joined_uncons v.generated text (texts_of Generated more) w.generated f.generated in
    let n = k.1.0 in
    (record v { generated = Some n }, rw (k.1.1, k.0) refl, record { pool = f.pool; interrupt = f.interrupt; generated = k.1.2; draws = f.draws })

-- ---- one word

front_is : (word name : List ℕ) → starts_with eqb word name ≡ true → word ≡ name ++ drop (length name) word
front_is word name e = (starts_is Decides-eqb word name (starts_with eqb word name) refl).0 e

named : (word : List ℕ) (key : Key) → key_of word ≡ Some key → word ≡ name_of key
named word key e = grind (arith, word_is)

-- a word is a setting
abbrev IsSetting : List ℕ → Type 0
IsSetting word = (s : Setting) × IsSpelled s (word ∷ [])

attached : (key : Key) (word text : List ℕ) → word ≡ name_of key ++ 61 ∷ text → IsSetting word
attached key word text is = (value key text, inr (ap (λ t. t ∷ []) is))

draw_word : (v u w : Values) (more : List Setting) → with_draw v ≡ Some u → Follows u more w → Follows v (draw ∷ more) w
draw_word v u w more e f = let k = of_choice v.draw _ u e in drawn v u w more k.0 k.1 f

chosen : {X : Type 0} (b : Bool) (x y z : X) → (if b then x else y) ≡ z → (b ≡ true) ⊎ (y ≡ z)
chosen true x y z e = inl refl
chosen false x y z e = inr e

setting_word : (word : List ℕ) (v u : Values) → with_word word v ≡ Some u → IsSetting word
setting_word word v u e = elim (chosen (bytes_eq word (codes "--draw")) (with_draw v) (with_pool word v) (Some u) e) [
  | inl p ↦ (draw, ap (λ t. t ∷ []) (word_is word (codes "--draw") p))
  | inr f ↦ elim (chosen (starts_with eqb word (codes "--pool=")) (with_value Pool (drop 7 word) v) (with_interrupt word v) (Some u) f) [
    | inl p ↦ attached Pool word (drop 7 word) (front_is word (codes "--pool=") p)
    | inr g ↦ elim (chosen (starts_with eqb word (codes "--interrupt=")) (with_value Interrupt (drop 12 word) v) (with_generated word v) (Some u) g) [
      | inl p ↦ attached Interrupt word (drop 12 word) (front_is word (codes "--interrupt=") p)
      | inr h ↦ elim (chosen (starts_with eqb word (codes "--gen=")) (with_value Generated (drop 6 word) v) None (Some u) h) [
        | inl p ↦ attached Generated word (drop 6 word) (front_is word (codes "--gen=") p)
        | inr none ↦ absurd cc
      ]
    ]
  ]
]

-- ---- all words

abbrev waits : Values → Key → Reading
waits v key = record { values = v; waiting = Some key }

-- what a word makes of the reading, by the option whose name it is
after : List ℕ → Values → Option Key → Option Reading
after word v (Some key) = Some (waits v key)
after word v None = option_map settled (with_word word v)

after_is : (word : List ℕ) (v : Values) (k : Option Key) → elim k [ Some key ↦ Some (waits v key) | None ↦ option_map settled (with_word word v) ] ≡ after word v k
unfolding after
after_is word v (Some key) = refl
after_is word v None = refl

next_is : (word : List ℕ) (v : Values) (k : Option Key) → key_of word ≡ k → with_next word (settled v) ≡ after word v k
next_is word v k p = after_is word v (key_of word) ∙ ap (after word v) p

read_on : (word : List ℕ) (words : List (List ℕ)) (v w : Values) (k : Option Key) → key_of word ≡ k → option_and_then named_in (read (settled v) (word ∷ words)) ≡ Some w
    → option_and_then named_in (option_and_then (λ more. read more words) (after word v k)) ≡ Some w
read_on word words v w k p e = subst (λ o. option_and_then named_in (option_and_then (λ more. read more words) o) ≡ Some w) (next_is word v k p) e

-- where a setting is read and the words behind it are, too, there are values between them
between : (o : Option Values) (words : List (List ℕ)) (w : Values) → option_and_then named_in (option_and_then (λ more. read more words) (option_map settled o)) ≡ Some w
    → (u : Values) × (o ≡ Some u) × (option_and_then named_in (read (settled u) words) ≡ Some w)
between None words w e = absurd cc
between (Some u) words w e = (u, refl, e)

abbrev pub Given : List (List ℕ) → Type 0
Given words = (v w : Values) → option_and_then named_in (read (settled v) words) ≡ Some w → (ss : List Setting) × Spells words ss

reads_none : Given []
reads_none v w e = ([], refl)

-- a word that is the name of no option is a setting
reads_setting : (word : List ℕ) (words : List (List ℕ)) → key_of word ≡ None → Given words → Given (word ∷ words)
unfolding after
reads_setting word words p later v w e =
    let t = between (with_word word v) words w (read_on word words v w None p e) in
    let set = setting_word word v t.0 t.1 in
    let rest = later t.0 w t.2 in
    (set.0 ∷ rest.0, (word ∷ [], words, refl, set.1, rest.1))

-- the word behind the name of an option is its value
reads_value : (key : Key) (word text : List ℕ) (words : List (List ℕ)) → key_of word ≡ Some key → Given words → Given (word ∷ text ∷ words)
unfolding after
reads_value key word text words p later v w e =
    let t = between (with_value key text v) words w (read_on word (text ∷ words) v w (Some key) p e) in
    let rest = later t.0 w t.2 in
    (value key text ∷ rest.0, (word ∷ text ∷ [], words, refl, inl (ap (λ x. x ∷ text ∷ []) (named word key p)), rest.1))

reads_last : (key : Key) (word : List ℕ) → key_of word ≡ Some key → Given (word ∷ [])
unfolding after
reads_last key word p v w e = let bad : ◌≡◌ {A = Option Values} None (Some w) = read_on word [] v w (Some key) p e in absurd cc

reads_one : (word : List ℕ) (k : Option Key) → key_of word ≡ k → Given (word ∷ [])
reads_one word (Some key) p = reads_last key word p
reads_one word None p = reads_setting word [] p reads_none

reads_two : (word text : List ℕ) (words : List (List ℕ)) (k : Option Key) → key_of word ≡ k → Given words → Given (text ∷ words) → Given (word ∷ text ∷ words)
reads_two word text words (Some key) p behind later = reads_value key word text words p behind
reads_two word text words None p behind later = reads_setting word (text ∷ words) p later

pub reads : (words : List (List ℕ)) → Given words
reads [] = reads_none
reads (word ∷ []) = reads_one word (key_of word) refl
reads (word ∷ text ∷ words) = reads_two word text words (key_of word) refl (reads words) (reads (text ∷ words))

-- a value behind the name of an option, one behind `=`, and `--draw`
apart : (key : Key) (text : List ℕ) (v : Values) (rest : List (List ℕ)) → read (settled v) (name_of key ∷ text ∷ rest) ≡ option_and_then (λ more. read more rest) (option_map settled (with_value key text v))
apart key text v rest = grind arith

together : (key : Key) (text : List ℕ) (v : Values) (rest : List (List ℕ)) → read (settled v) ((name_of key ++ 61 ∷ text) ∷ rest) ≡ option_and_then (λ more. read more rest) (option_map settled (with_value key text v))
together key text v rest = grind arith

alone : (v : Values) (rest : List (List ℕ)) → read (settled v) (codes "--draw" ∷ rest) ≡ option_and_then (λ more. read more rest) (option_map settled (with_draw v))
alone v rest = refl

-- the words of a first setting, and what they name
first_value : (key : Key) (text : List ℕ) (first rest : List (List ℕ)) (v : Values) → IsSpelled (value key text) first
    → read (settled v) (first ++ rest) ≡ option_and_then (λ more. read more rest) (option_map settled (with_value key text v))
first_value key text first rest v s = grind (arith, apart, together)

values_same : (v w : Values) → w.pool ≡ v.pool → w.interrupt ≡ v.interrupt → w.generated ≡ v.generated → w.draw ≡ v.draw → v ≡ w
values_same v w p q r s = sym (λ i. record { pool = p i; interrupt = q i; generated = r i; draw = s i })

-- settings that follow are read
pub spelled : (ss : List Setting) (words : List (List ℕ)) (v w : Values) → Spells words ss → Follows v ss w → option_and_then named_in (read (settled v) words) ≡ Some w
spelled [] words v w sp f = rw sp (ap (λ x. Some x) (values_same v w f.pool f.interrupt f.generated f.draws))
spelled (value key text ∷ more) words v w (first, rest, is, s, sp) f =
    let t = taken key text v w more f in
    rw (is, first_value key text first rest v s, t.1) (spelled more rest t.0 w sp t.2)
spelled (draw ∷ more) words v w (first, rest, is, s, sp) f =
    let d = drawn_uncons v.draw (draws_of more) w.draw f.draws in
    rw (is, s, alone v rest, d.0) (spelled more rest (record v { draw = true }) w sp (record { pool = f.pool; interrupt = f.interrupt; generated = f.generated; draws = d.1 }))

-- settings that are read follow
pub followed : (ss : List Setting) (words : List (List ℕ)) (v w : Values) → Spells words ss → option_and_then named_in (read (settled v) words) ≡ Some w → Follows v ss w
followed [] words v w sp e = grind arith
followed (value key text ∷ more) words v w (first, rest, is, s, sp) e =
    let on = subst (λ ws. option_and_then named_in (read (settled v) ws) ≡ Some w) is e in
    let t = between (with_value key text v) rest w (subst (λ r. option_and_then named_in r ≡ Some w) (first_value key text first rest v s) on) in
    valued key text v t.0 w more t.1 (followed more rest t.0 w sp t.2)
followed (draw ∷ more) words v w (first, rest, is, s, sp) e =
    let on = subst (λ ws. option_and_then named_in (read (settled v) ws) ≡ Some w) (is ∙ ap (λ f. f ++ rest) s) e in
    let t = between (with_draw v) rest w on in
    draw_word v t.0 w more t.1 (followed more rest t.0 w sp t.2)

-- ---- what the settings ask for

number_once : (texts : List (List ℕ)) (n : Option ℕ) → Joined None texts n ↔ IsNumber texts n
number_once texts n = grind arith

drawn_once : (n : ℕ) (d : Bool) → Drawn false n d ↔ IsDrawn n d
drawn_once n d = grind arith

-- the size is that of the pool which is named, or else the default
size_named : (v : Values) → size_in v ≡ unwrap_or v.pool 32768
size_named v = grind (arith)

sized : (n : ℕ) → is_pool_size n ≡ true → IsPoolSize n
sized n e = record { least = grind (arith, e); most = grind (arith, e); eights = grind (arith, e) }

fits : (n : ℕ) → IsPoolSize n → is_pool_size n ≡ true
fits n s = grind (arith, s.least, s.most, s.eights)

numbered : (n : Option ℕ) → is_session_number n ≡ true → IfSome n (λ k. k < 2 ^ 32)
numbered n e = grind arith

number_fits : (n : Option ℕ) → IfSome n (λ k. k < 2 ^ 32) → is_session_number n ≡ true
number_fits n s = grind arith

-- words that spell these settings ask for their options
asked_by : (words : List (List ℕ)) (ss : List Setting) (o : Options) → Spells words ss → options_of words ≡ Some o → (a : Asks words o) × (a.settings ≡ ss)
unfolding options_of
asked_by words ss o sp e =
    let v = of_then options_with _ o e in
    let k = of_test (is_pool_size (size_in v.0) && is_session_number v.0.generated) _ o v.2 in
    let both = of_both (is_pool_size (size_in v.0)) _ k.0 in
    let f = followed ss words no_values v.0 sp v.1 in
    subst (λ (x : Options). (a : Asks words x) × (a.settings ≡ ss)) k.1 (
      record {
        settings = ss;
        spelled = sp;
        pool = v.0.pool;
        pool_once = (number_once _ v.0.pool).0 f.pool;
        size_is = size_named v.0;
        size_fits = sized _ both.0;
        interrupt_once = (number_once _ v.0.interrupt).0 f.interrupt;
        generated_once = (number_once _ v.0.generated).0 f.generated;
        generated_fits = numbered v.0.generated both.1;
        draw_once = (drawn_once _ v.0.draw).0 f.draws;
      },
      refl,
    )

asked : (words : List (List ℕ)) (o : Options) → options_of words ≡ Some o → Asks words o
unfolding options_of
asked words o e =
    let v = of_then options_with _ o e in
    let r = reads words no_values v.0 v.1 in
    (asked_by words r.0 o r.1 e).0

given : (words : List (List ℕ)) (o : Options) → Asks words o → options_of words ≡ Some o
unfolding options_of
given words o a =
    let v : Values = record { pool = a.pool; interrupt = o.interrupt; generated = o.generated; draw = o.draw } in
    let f : Follows no_values a.settings v = record {
      pool = (number_once _ a.pool).1 a.pool_once;
      interrupt = (number_once _ o.interrupt).1 a.interrupt_once;
      generated = (number_once _ o.generated).1 a.generated_once;
      draws = (drawn_once _ o.draw).1 a.draw_once;
    } in
    let size : size_in v ≡ o.size = size_named v ∙ sym a.size_is in
    rw (spelled a.settings words no_values v a.spelled f) (rw (size, fits o.size a.size_fits, number_fits o.generated a.generated_fits) refl)

pub options_are_asked : OptionsAreAsked
options_are_asked words o = (asked words o, given words o)

-- ---- the order of settings

texts_append : (key : Key) (xs ys : List Setting) → texts_of key (xs ++ ys) ≡ texts_of key xs ++ texts_of key ys
texts_append key [] ys = refl
texts_append key (x ∷ xs) ys = ap (λ ts. text_in key x ++ ts) (texts_append key xs ys) ∙ sym (append_assoc (text_in key x) (texts_of key xs) (texts_of key ys))

-- where an option stands there at most once, texts may change places
number_exchanged : (p a b c : List (List ℕ)) (n : Option ℕ) → IsNumber (p ++ (a ++ (b ++ c))) n → IsNumber (p ++ (b ++ (a ++ c))) n
number_exchanged p [] b c n h = h
number_exchanged p (x ∷ a) [] c n h = h
number_exchanged [] (x ∷ []) (y ∷ b) c n h = absurd h
number_exchanged [] (x ∷ z ∷ a) (y ∷ b) c n h = absurd h
number_exchanged (q ∷ []) (x ∷ a) (y ∷ b) c n h = absurd h
number_exchanged (q ∷ r ∷ p) (x ∷ a) (y ∷ b) c n h = absurd h

texts_exchanged : (key : Key) (before behind : List Setting) (s t : Setting) (n : Option ℕ) → IsNumber (texts_of key (before ++ s ∷ t ∷ behind)) n → IsNumber (texts_of key (before ++ t ∷ s ∷ behind)) n
texts_exchanged key before behind s t n h = grind (arith, texts_append, number_exchanged)

draws_exchanged : (before behind : List Setting) (s t : Setting) → draws_of (before ++ s ∷ t ∷ behind) ≡ draws_of (before ++ t ∷ s ∷ behind)
draws_exchanged [] behind s t = grind arith
draws_exchanged (draw ∷ before) behind s t = ap suc (draws_exchanged before behind s t)
draws_exchanged (value key text ∷ before) behind s t = draws_exchanged before behind s t

exchanged : (words other : List (List ℕ)) (before behind : List Setting) (s t : Setting) (o : Options) → Spells words (before ++ s ∷ t ∷ behind) → Spells other (before ++ t ∷ s ∷ behind)
    → options_of words ≡ Some o → options_of other ≡ Some o
exchanged words other before behind s t o sp sq e =
    let k = asked_by words (before ++ s ∷ t ∷ behind) o sp e in
    let a = k.0 in
    given other o (record {
      settings = before ++ t ∷ s ∷ behind;
      spelled = sq;
      pool = a.pool;
      pool_once = texts_exchanged Pool before behind s t a.pool (subst (λ ss. IsNumber (texts_of Pool ss) a.pool) k.1 a.pool_once);
      size_is = a.size_is;
      size_fits = a.size_fits;
      interrupt_once = texts_exchanged Interrupt before behind s t o.interrupt (subst (λ ss. IsNumber (texts_of Interrupt ss) o.interrupt) k.1 a.interrupt_once);
      generated_once = texts_exchanged Generated before behind s t o.generated (subst (λ ss. IsNumber (texts_of Generated ss) o.generated) k.1 a.generated_once);
      generated_fits = a.generated_fits;
      draw_once = subst (λ d. IsDrawn d o.draw) (draws_exchanged before behind s t) (subst (λ ss. IsDrawn (draws_of ss) o.draw) k.1 a.draw_once);
    })

pub same_options : {X : Type 0} (a b : Option X) → ((o : X) → a ≡ Some o → b ≡ Some o) → ((o : X) → b ≡ Some o → a ≡ Some o) → b ≡ a
same_options a b there back = grind arith

pub order_is_free : OrderIsFree
order_is_free words other before behind s t sp sq =
    same_options (options_of words) (options_of other) (λ o. exchanged words other before behind s t o sp sq) (λ o. exchanged other words before behind t s o sq sp)
