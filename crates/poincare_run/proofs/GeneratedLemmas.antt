-- Lemmas on generated sessions.
use Rattle.std.proofs.Common.{◌≡◌, ◌∙◌, ℕ, ◌+◌, ◌%◌, List, [], ◌∷◌, ◌++◌, refl, sym, ap, append_assoc, append-nil, add-one}
use Rattle.poincare_run.proofs.Shared.{digits_for, with_digits, next_seed, seed, first_lines, line_of}

-- one byte of a pattern more
pub with_digits-more : (a b : ℕ) (bytes : List ℕ) (byte : ℕ) → with_digits a b (bytes ++ byte ∷ []) ≡ with_digits a b bytes ++ digits_for a b byte
with_digits-more a b [] byte = append-nil (digits_for a b byte)
with_digits-more a b (x ∷ xs) byte = ap (λ l. digits_for a b x ++ l) (with_digits-more a b xs byte) ∙ sym (append_assoc (digits_for a b x) (with_digits a b xs) (digits_for a b byte))

pub seed-zero : (number : ℕ) → seed number 0 ≡ number % 65537
unfolding seed
seed-zero number = refl

pub seed-more : (number k : ℕ) → seed number (k + 1) ≡ next_seed (seed number k)
unfolding seed
seed-more number k = ap (seed number) (add-one k)

pub first_lines-zero : (number : ℕ) → first_lines number 0 ≡ []
unfolding first_lines
first_lines-zero number = refl

pub first_lines-more : (number k : ℕ) → first_lines number (k + 1) ≡ first_lines number k ++ (line_of number (k + 1) ++ 10 ∷ [])
unfolding first_lines
first_lines-more number k = ap (first_lines number) (add-one k) ∙ ap (λ n. first_lines number k ++ (line_of number n ++ 10 ∷ [])) (sym (add-one k))
