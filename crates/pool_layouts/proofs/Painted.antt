-- A row of a picture as far as it is painted.
use Rattle.pool_layouts.proofs.Shared.{option_to_list, ◌≡◌, ◌∙◌, ℕ, ◌+◌, ◌<◌, ◌≤◌, List, [], ◌∷◌, ◌++◌, length, Option, Some, None, encode_utf8_all, refl, sym, ap, subst, arith, append_assoc}
use Rattle.pool_layouts.proofs.Shared.{append-nil, length-append, length-replicate, replicate-append-replicate, encodes-append, Forest, Visit, Extent, Step, Opened, Shows, ShowsIf, Opens, IsLine}
use Rattle.pool_layouts.proofs.{Shared.{IsBlack, ink_characters, inked, blanks_left, weight, weight_if, count_if, blanks, cut, snoc_same}, Inks.{ink_black}, Lines.{cut-append_blanks, cut_kept}}
use Rattle.pool_layouts.specs.Painting.{count}

-- ---- weights

abbrev pub total_weight : List Step → ℕ
total_weight [] = 0
total_weight (s ∷ ss) = weight s + total_weight ss

weight-append : (a b : List Step) → total_weight (a ++ b) ≡ total_weight a + total_weight b
weight-append [] b = omega arith
weight-append (s ∷ a) b = omega (arith, weight-append a b)

weight-option : (o : Option Step) → total_weight (option_to_list o) ≡ weight_if o
weight-option o = grind arith

-- ---- what is owed

pub record Owed : Type 0 where
  pub step : Step
  pub cs : List ℕ

abbrev pub steps_of : List Owed → List Step
steps_of [] = []
steps_of (o ∷ os) = steps_of os ++ o.step ∷ []

abbrev pub chars_of : List Owed → List ℕ
chars_of [] = []
chars_of (o ∷ os) = o.cs ++ chars_of os

abbrev pub counts_of : List Owed → ℕ
counts_of [] = 0
counts_of (o ∷ os) = count o.step + counts_of os

abbrev pub AreShown : Forest → List Visit → List Extent → List Owed → Type 0
AreShown base cells es [] = Unit {0}
AreShown base cells es (o ∷ os) = Shows base cells es o.step o.cs × AreShown base cells es os

pub record IsOwing (base : Forest) (cells : List Visit) (es : List Extent) (owed : List Owed) (owed_blanks : ℕ) (bytes start line : List ℕ) : Type 0 where
  pub seen : List ℕ
  pub chars : seen ++ (blanks owed_blanks ++ chars_of owed) ≡ line
  pub bytes_are : bytes ≡ start ++ encode_utf8_all seen
  pub kept : cut seen ≡ seen
  pub each : AreShown base cells es owed
  pub few : counts_of owed ≤ length cells

pub record IsPainting (base : Forest) (cells : List Visit) (es : List Extent) (steps : List Step) (owed_blanks : ℕ) (bytes start line : List ℕ) : Type 0 where
  pub owed : List Owed
  pub steps_are : steps ≡ steps_of owed
  pub state : IsOwing base cells es owed owed_blanks bytes start line

pub painting_start : {base : Forest} {cells : List Visit} {es : List Extent} {steps : List Step} {line : List ℕ} (start : List ℕ) → IsLine base cells es steps line
    → IsPainting base cells es steps 0 start start line
painting_start {line = line} start h = record {
  owed = record { step = h.only; cs = line } ∷ [];
  steps_are = h.steps_are;
  state = record { seen = []; chars = append-nil line; bytes_are = sym (append-nil start); kept = refl; each = (h.shown, tt); few = omega (arith, h.fits) };
}

-- a step that paints something counts
counts_one : (base : Forest) (cells : List Visit) (es : List Extent) (s : Step) (cs : List ℕ) → Shows base cells es s cs → 1 ≤ count s
counts_one base cells es s cs h = grind arith

steps_few : (base : Forest) (cells : List Visit) (es : List Extent) (os : List Owed) → AreShown base cells es os → length (steps_of os) ≤ counts_of os
steps_few base cells es [] h = omega arith
steps_few base cells es (o ∷ os) h = omega (arith, steps_few base cells es os h.1, counts_one base cells es o.step o.cs h.0, length-append (steps_of os) (o.step ∷ []))

-- ---- the next step

pub record IsDue (base : Forest) (cells : List Visit) (es : List Extent) (s : Step) (popped : List Step) (owed_blanks : ℕ) (bytes start line : List ℕ) : Type 0 where
  pub cs : List ℕ
  pub owed : List Owed
  pub popped_is : popped ≡ steps_of owed
  pub state : IsOwing base cells es (record { step = s; cs = cs } ∷ owed) owed_blanks bytes start line

pub due : {base : Forest} {cells : List Visit} {es : List Extent} {steps : List Step} {owed_blanks : ℕ} {bytes start line : List ℕ} (s : Step) (popped : List Step)
    → IsPainting base cells es steps owed_blanks bytes start line → steps ≡ popped ++ s ∷ []
    → IsDue base cells es s popped owed_blanks bytes start line
due {base = base} {cells = cells} {es = es} {steps = steps} {owed_blanks = owed_blanks} {bytes = bytes} {start = start} {line = line} s popped p e = by p.owed p.steps_are p.state
  where
    by : (os : List Owed) → steps ≡ steps_of os → IsOwing base cells es os owed_blanks bytes start line → IsDue base cells es s popped owed_blanks bytes start line
    by [] q x = absurd (omega (arith, ap length (sym e ∙ q), length-append popped (s ∷ [])))
    by (o ∷ os) q x =
        let same = snoc_same popped (steps_of os) s o.step (sym e ∙ q) in
        record { cs = o.cs; owed = os; popped_is = same.0; state = subst (λ (z : Step). IsOwing base cells es (record { step = z; cs = o.cs } ∷ os) owed_blanks bytes start line) (sym same.1) x }

-- there is room for two steps in its stead
pub due_room : {base : Forest} {cells : List Visit} {es : List Extent} {s : Step} {popped : List Step} {owed_blanks : ℕ} {bytes start line : List ℕ}
    → IsDue base cells es s popped owed_blanks bytes start line → length popped + 1 ≤ length cells
due_room {base = base} {cells = cells} {es = es} {s = s} d =
    omega (arith, ap length d.popped_is, steps_few base cells es d.owed d.state.each.1, counts_one base cells es s d.cs d.state.each.0, d.state.few)

-- ---- it is painted

inked_all : (n : ℕ) (cs : List ℕ) → blanks n ++ cs ≡ inked n cs ++ blanks (blanks_left n cs)
inked_all n [] = append-nil (blanks n)
inked_all n (c ∷ cs) = sym (append-nil (blanks n ++ (c ∷ cs)))

seen_kept : (seen : List ℕ) (n : ℕ) (cs : List ℕ) → cut seen ≡ seen → IsBlack cs → cut (seen ++ inked n cs) ≡ seen ++ inked n cs
seen_kept seen n [] k b = ap cut (append-nil seen) ∙ k ∙ sym (append-nil seen)
seen_kept seen n (c ∷ cs) k b = ap cut (sym (append_assoc seen (blanks n) (c ∷ cs))) ∙ cut_kept (seen ++ blanks n) c cs b ∙ append_assoc seen (blanks n) (c ∷ cs)

shown_if : (base : Forest) (cells : List Visit) (es : List Extent) (o : Option Step) (cs : List ℕ) (os : List Owed) → ShowsIf base cells es o cs → AreShown base cells es os
    → (ps : List Owed) × (steps_of ps ≡ steps_of os ++ option_to_list o) × (chars_of ps ≡ cs ++ chars_of os) × (counts_of ps ≡ count_if o + counts_of os) × AreShown base cells es ps
shown_if base cells es None cs os h a = (os, sym (append-nil (steps_of os)), ap (λ (x : List ℕ). x ++ chars_of os) (sym h), omega arith, a)
shown_if base cells es (Some s) cs os h a = (record { step = s; cs = cs } ∷ os, refl, refl, refl, (h, a))

spread : (seen b ob ink f s rest : List ℕ) → seen ++ (b ++ ((ob ++ (ink ++ (f ++ s))) ++ rest)) ≡ seen ++ (((b ++ ob) ++ ink) ++ (f ++ (s ++ rest)))
spread seen b ob ink f s rest = simp append_assoc

pub record IsStepped (base : Forest) (cells : List Visit) (es : List Extent) (s : Step) (popped : List Step) (owed_blanks : ℕ) (bytes start line : List ℕ) (o : Opened) : Type 0 where
  pub blanks_few : owed_blanks + o.blanks ≤ length line
  pub start_few : length start ≤ length bytes
  pub bytes_few : length bytes + length (encode_utf8_all (inked (owed_blanks + o.blanks) (ink_characters base o.ink))) ≤ length start + length (encode_utf8_all line)
  pub goes_on : (new : List ℕ) (steps : List Step) → new ≡ bytes ++ encode_utf8_all (inked (owed_blanks + o.blanks) (ink_characters base o.ink))
      → steps ≡ (popped ++ option_to_list o.second) ++ option_to_list o.first
      → IsPainting base cells es steps (blanks_left (owed_blanks + o.blanks) (ink_characters base o.ink)) new start line

pub stepped : {base : Forest} {cells : List Visit} {es : List Extent} {s : Step} {popped : List Step} {owed_blanks : ℕ} {bytes start line : List ℕ} {o : Opened}
    (d : IsDue base cells es s popped owed_blanks bytes start line) → Opens base cells es s d.cs o
    → IsStepped base cells es s popped owed_blanks bytes start line o
stepped {base = base} {cells = cells} {es = es} {s = s} {popped = popped} {owed_blanks = owed_blanks} {bytes = bytes} {start = start} {line = line} {o = o} d p =
    let ink = ink_characters base o.ink in
    let n = owed_blanks + o.blanks in
    let rest = chars_of d.owed in
    let tail = p.first ++ (p.second ++ rest) in
    let together : d.state.seen ++ (((blanks owed_blanks ++ blanks o.blanks) ++ ink) ++ tail) ≡ line
    = sym (spread d.state.seen (blanks owed_blanks) (blanks o.blanks) ink p.first p.second rest)
    ∙ ap (λ (x : List ℕ). d.state.seen ++ (blanks owed_blanks ++ (x ++ rest))) (sym p.whole) ∙ d.state.chars in
    let as_blanks : d.state.seen ++ ((blanks n ++ ink) ++ tail) ≡ line =
    ap (λ (x : List ℕ). d.state.seen ++ ((x ++ ink) ++ tail)) (sym (replicate-append-replicate owed_blanks o.blanks 32)) ∙ together in
    let whole : (d.state.seen ++ inked n ink) ++ (blanks (blanks_left n ink) ++ tail) ≡ line
    = append_assoc d.state.seen (inked n ink) (blanks (blanks_left n ink) ++ tail) ∙ ap (λ (x : List ℕ). d.state.seen ++ x) (sym (append_assoc (inked n ink) (blanks (blanks_left n ink)) tail))
    ∙ ap (λ (x : List ℕ). d.state.seen ++ (x ++ tail)) (sym (inked_all n ink)) ∙ as_blanks in
    let (second, second_steps, second_chars, second_counts, second_shown) = shown_if base cells es o.second p.second d.owed p.second_shown d.state.each.1 in
    let (first, first_steps, first_chars, first_counts, first_shown) = shown_if base cells es o.first p.first second p.first_shown second_shown in
    let tail_is : chars_of first ≡ tail = first_chars ∙ ap (λ (x : List ℕ). p.first ++ x) second_chars in
    record {
      blanks_few = omega (
        arith,
        ap length as_blanks,
        length-append d.state.seen ((blanks n ++ ink) ++ tail),
        length-append (blanks n ++ ink) tail,
        length-append (blanks n) ink,
        length-replicate {A = ℕ} n 32,
      );
      start_few = omega (arith, ap length d.state.bytes_are, length-append start (encode_utf8_all d.state.seen));
      bytes_few = omega (
        arith,
        ap (λ (x : List ℕ). length (encode_utf8_all x)) whole,
        ap length (encodes-append (d.state.seen ++ inked n ink) (blanks (blanks_left n ink) ++ tail)),
        length-append (encode_utf8_all (d.state.seen ++ inked n ink)) (encode_utf8_all (blanks (blanks_left n ink) ++ tail)),
        ap length (encodes-append d.state.seen (inked n ink)),
        length-append (encode_utf8_all d.state.seen) (encode_utf8_all (inked n ink)),
        ap length d.state.bytes_are,
        length-append start (encode_utf8_all d.state.seen),
      );
      goes_on = λ new steps e f. record {
        owed = first;
        steps_are = f ∙ ap (λ (x : List Step). (x ++ option_to_list o.second) ++ option_to_list o.first) d.popped_is
            ∙ ap (λ (x : List Step). x ++ option_to_list o.first) (sym second_steps) ∙ sym first_steps;
        state = record {
          seen = d.state.seen ++ inked n ink;
          chars = ap (λ (x : List ℕ). (d.state.seen ++ inked n ink) ++ (blanks (blanks_left n ink) ++ x)) tail_is ∙ whole;
          bytes_are = e ∙ ap (λ (x : List ℕ). x ++ encode_utf8_all (inked n ink)) d.state.bytes_are ∙ append_assoc start (encode_utf8_all d.state.seen) (encode_utf8_all (inked n ink))
              ∙ ap (λ (x : List ℕ). start ++ x) (sym (encodes-append d.state.seen (inked n ink)));
          kept = seen_kept d.state.seen n ink d.state.kept (ink_black base o.ink p.ink_is);
          each = first_shown;
          few = omega (arith, d.state.few, p.fewer, first_counts, second_counts);
        };
      };
    }

-- the steps weigh less
pub lighter_steps : (steps popped new : List Step) (s : Step) (first second : Option Step) → steps ≡ popped ++ s ∷ []
    → new ≡ (popped ++ option_to_list second) ++ option_to_list first → weight_if first + weight_if second < weight s → total_weight new < total_weight steps
lighter_steps steps popped new s first second e f h = grind (arith, weight-append, weight-option)

-- ---- the end

pub painted : {base : Forest} {cells : List Visit} {es : List Extent} {steps : List Step} {owed_blanks : ℕ} {bytes start line : List ℕ}
    → IsPainting base cells es steps owed_blanks bytes start line → length steps ≡ 0 → bytes ≡ start ++ encode_utf8_all (cut line)
painted {base = base} {cells = cells} {es = es} {steps = steps} {owed_blanks = owed_blanks} {bytes = bytes} {start = start} {line = line} p z = by p.owed p.steps_are p.state
  where
    by : (os : List Owed) → steps ≡ steps_of os → IsOwing base cells es os owed_blanks bytes start line → bytes ≡ start ++ encode_utf8_all (cut line)
    by (o ∷ os) q x = absurd (omega (arith, ap length q, length-append (steps_of os) (o.step ∷ []), z))
    by [] q x =
        let seen_is : x.seen ≡ cut line = sym x.kept ∙ sym (cut-append_blanks x.seen owed_blanks) ∙ ap (λ (y : List ℕ). cut (x.seen ++ y)) (sym (append-nil (blanks owed_blanks))) ∙ ap cut x.chars in
        x.bytes_are ∙ ap (λ (x : List ℕ). start ++ encode_utf8_all x) seen_is

pub option_short : (o : Option Step) → length (option_to_list o) ≤ 1
option_short o = grind arith
