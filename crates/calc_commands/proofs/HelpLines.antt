-- The lines of help.
use Rattle.calc_commands.proofs.Shared.{◌≡◌, ◌∙◌, ℕ, ◌<◌, ◌≤◌, ◌+◌, ◌*◌, List, [], ◌∷◌, ◌++◌, suc, length, get_or, take, map, refl, sym, ap, arith, append_assoc, length-append, extended, Content}
use Rattle.calc_commands.proofs.Shared.{all_words, help_line, help_report, newline_before, with_newlines, take_all, length-map}
use Rattle.std.proofs.lemmas.List.{get_or-map}
use Rattle.std.specs.Prelude.{zero, Contains}
use Rattle.calc_commands.specs.Words.{IsRow}
use Rattle.calc_commands.specs.declared.words.Word.{Word}
use Rattle.calc_commands.specs.declared.words.Word.TheVariants as word

-- ---- a line of help is a row

row : (w : Word) → IsRow (help_line w)
row word.Help = record { short = omega arith; printable = refl }
row word.Pool = record { short = omega arith; printable = refl }
row word.Dump = record { short = omega arith; printable = refl }
row word.Names = record { short = omega arith; printable = refl }
row word.Forget = record { short = omega arith; printable = refl }
row word.After = record { short = omega arith; printable = refl }
row word.Layout = record { short = omega arith; printable = refl }
row word.Latex = record { short = omega arith; printable = refl }
row word.Draw = record { short = omega arith; printable = refl }
row word.Diff = record { short = omega arith; printable = refl }
row word.Solve = record { short = omega arith; printable = refl }
row word.Roots = record { short = omega arith; printable = refl }
row word.Expand = record { short = omega arith; printable = refl }
row word.Decimal = record { short = omega arith; printable = refl }
row word.Sign = record { short = omega arith; printable = refl }

-- ---- each word is in the table

pub in_table : (w : Word) → Contains all_words w
in_table word.Help = (0, omega arith, refl)
in_table word.Pool = (1, omega arith, refl)
in_table word.Dump = (2, omega arith, refl)
in_table word.Names = (3, omega arith, refl)
in_table word.Forget = (4, omega arith, refl)
in_table word.After = (5, omega arith, refl)
in_table word.Layout = (6, omega arith, refl)
in_table word.Latex = (7, omega arith, refl)
in_table word.Draw = (8, omega arith, refl)
in_table word.Diff = (9, omega arith, refl)
in_table word.Solve = (10, omega arith, refl)
in_table word.Roots = (11, omega arith, refl)
in_table word.Expand = (12, omega arith, refl)
in_table word.Decimal = (13, omega arith, refl)
in_table word.Sign = (14, omega arith, refl)

pub help_fits : (length all_words ≤ 24) × ((w : Word) → IsRow (help_line w))
help_fits = (omega arith, row)

pub row_short : (w : Word) → length (help_line w) ≤ 78
row_short w = (row w).short

-- ---- lines with newlines between them

newlines_next : (n : ℕ) (ts : List (List ℕ)) → n < length ts → with_newlines (take (suc n) ts) ≡ with_newlines (take n ts) ++ (newline_before n ++ get_or ts n [])
newlines_next n [] l = absurd (omega (arith, l))
newlines_next zero (t ∷ ts) l = refl
newlines_next (suc zero) (t ∷ []) l = absurd (omega (arith, l))
newlines_next (suc zero) (t ∷ u ∷ ts) l = refl
newlines_next (suc (suc n)) (t ∷ []) l = absurd (omega (arith, l))
newlines_next (suc (suc n)) (t ∷ u ∷ ts) l =
    ap (λ (r : List ℕ). t ++ 10 ∷ r) (newlines_next (suc n) (u ∷ ts) (omega (arith, l))) ∙ sym (append_assoc t (10 ∷ with_newlines (u ∷ take n ts)) (10 ∷ get_or ts n []))

-- the next of the lines, behind its newline
pub line_next : (head : List ℕ) (ts : List (List ℕ)) (n : ℕ) (t : List ℕ) → n < length ts → t ≡ get_or ts n [] → ((head ++ with_newlines (take n ts)) ++ newline_before n) ++ t ≡ head ++ with_newlines (take (n + 1) ts)
line_next head ts n t l e =
    let one : n + 1 ≡ suc n = omega arith in
    let w : List ℕ = with_newlines (take n ts) in
    ap (λ (u : List ℕ). ((head ++ w) ++ newline_before n) ++ u) e ∙ append_assoc (head ++ w) (newline_before n) (get_or ts n []) ∙ append_assoc head w (newline_before n ++ get_or ts n [])
    ∙ ap (λ (u : List ℕ). head ++ u) (sym (newlines_next n ts l)) ∙ ap (λ (m : ℕ). head ++ with_newlines (take m ts)) (sym one)

pub told_line : (head : List ℕ) (ts : List (List ℕ)) (n : ℕ) (t newline : List ℕ) (a b d : Content) → n < length ts → t ≡ get_or ts n [] → a.bytes ≡ head ++ with_newlines (take n ts) → b ≡ extended a newline → newline ≡ newline_before n → d ≡ extended b t
    → d.bytes ≡ head ++ with_newlines (take (n + 1) ts)
told_line head ts n t newline a b d l e h p k q = grind (arith, line_next)

-- ---- while the lines of help are written

pub record IsHelpWritten (old : Content) (at : ℕ) (now : Content) : Type 0 where
  pub text : now.bytes ≡ old.bytes ++ with_newlines (take at (map help_line all_words))
  pub capacity : now.capacity ≡ old.capacity
  pub short : length now.bytes ≤ length old.bytes + 79 * at

pub help_next : (old a b d : Content) (words : List Word) (n : ℕ) (w other : Word) (newline : List ℕ) → IsHelpWritten old n a → words ≡ all_words → n < length words → w ≡ get_or words n other → b ≡ extended a newline → newline ≡ newline_before n → d ≡ extended b (help_line w)
    → length newline ≤ 1 → length d.bytes ≤ length b.bytes + 78 → IsHelpWritten old (n + 1) d
help_next old a b d words n w other newline h same l e p k q one short = record {
  text = told_line old.bytes (map help_line all_words) n (help_line w) newline a b d (omega (arith, l, ap length same, length-map all_words help_line)) (ap help_line e ∙ ap (λ (ws : List Word). help_line (get_or ws n other)) same ∙ sym (get_or-map help_line all_words n other [] (omega (arith, l, ap length same)))) h.text p k q;
  capacity = ap (λ (x : Content). x.capacity) q ∙ ap (λ (x : Content). x.capacity) p ∙ h.capacity;
  short = omega (arith, h.short, short, one, ap (λ (x : Content). length x.bytes) p, length-append a.bytes newline);
}

pub help_all : (old now : Content) (words : List Word) (n : ℕ) → IsHelpWritten old n now → words ≡ all_words → length words ≤ n → now ≡ extended old help_report
help_all old now words n h same l =
    let text = h.text ∙ ap (λ ts. old.bytes ++ with_newlines ts) (take_all n (map help_line all_words) (omega (arith, l, ap length same, length-map all_words help_line))) in
    (λ i. record { bytes = text i; capacity = h.capacity i })

-- three pieces one behind another
pub three : (old a b d : Content) (x y z : List ℕ) → a ≡ extended old x → b ≡ extended a y → d ≡ extended b z → d ≡ extended old (x ++ (y ++ z))
three old a b d x y z p q r =
    r ∙ ap (λ (w : Content). extended w z) (q ∙ ap (λ (w : Content). extended w y) p) ∙ ap (λ (bytes : List ℕ). record old { bytes = bytes }) (append_assoc (old.bytes ++ x) y z ∙ append_assoc old.bytes x (y ++ z))
