-- Words: a run of letters and digits is a reserved word, a name, or too long.
use Rattle.calc_tokens.proofs.Shared.{ℕ, ◌≡◌, List, [], ◌∷◌, true, false, ◌&&◌, nat_le, nat_eq, ◌==◌, length, if◌then◌else◌, Some, None, pointwise, arith, refl, sym, ap, ◌∙◌, name, root_mark}
use Rattle.calc_tokens.proofs.Shared.{leading_run, token_of_word, is_name_byte, codes, bytes_eq-Decides, run_all, same_bytes-pointwise, undef_mark, same_bytes, begins_with_letter, is_name}
use Rattle.calc_language.specs.Tokens.{word_at}

-- a run that begins with a letter
run_begins : (bytes : List ℕ) → begins_with_letter bytes ≡ true → begins_with_letter ((leading_run is_name_byte bytes).0) ≡ true
run_begins bytes h = grind arith

-- what the front of the bytes is, and what stands behind it
pub record Runs (bytes front behind : List ℕ) : Type 0 where
  pub front_is : front ≡ (leading_run is_name_byte bytes).0
  pub behind_is : behind ≡ (leading_run is_name_byte bytes).1
  pub letter : begins_with_letter bytes ≡ true

word_at-run : (bytes front behind : List ℕ) → Runs bytes front behind → word_at bytes ≡ (if nat_le (length front) 7 then Some (token_of_word front, behind) else None)
unfolding word_at
word_at-run bytes front behind r = rw (r.front_is, r.behind_is) refl

pub root_word : (bytes front behind : List ℕ) → Runs bytes front behind → pointwise nat_eq front (codes "sqrt") ≡ true → Some (root_mark, behind) ≡ word_at bytes
root_word bytes front behind r e =
    let same : front ≡ codes "sqrt" = (bytes_eq-Decides front (codes "sqrt")).0 e in
    sym (word_at-run bytes front behind r ∙ ap (λ x. if nat_le (length x) 7 then Some (token_of_word x, behind) else None) same)

pub undef_is : (bytes front behind : List ℕ) → Runs bytes front behind → pointwise nat_eq front (codes "undef") ≡ true → Some (undef_mark, behind) ≡ word_at bytes
undef_is bytes front behind r e =
    let same : front ≡ codes "undef" = (bytes_eq-Decides front (codes "undef")).0 e in
    sym (word_at-run bytes front behind r ∙ ap (λ x. if nat_le (length x) 7 then Some (token_of_word x, behind) else None) same)

name_test : (bytes front behind : List ℕ) → Runs bytes front behind → pointwise nat_eq front (codes "sqrt") ≡ false → pointwise nat_eq front (codes "undef") ≡ false → is_name front ≡ nat_le (length front) 7
name_test bytes front behind r e f = grind (arith, run_begins, run_all)

-- a run that is no reserved word is a name, or too long
pub name_word : (bytes front behind : List ℕ) → Runs bytes front behind → pointwise nat_eq front (codes "sqrt") ≡ false → pointwise nat_eq front (codes "undef") ≡ false → is_name front ≡ true
    → Some (name front, behind) ≡ word_at bytes
name_word bytes front behind r e f n =
    let short : nat_le (length front) 7 ≡ true = sym (name_test bytes front behind r e f) ∙ n in
    let root : same_bytes front (codes "sqrt") ≡ false = same_bytes-pointwise front (codes "sqrt") ∙ e in
    let undef : same_bytes front (codes "undef") ≡ false = same_bytes-pointwise front (codes "undef") ∙ f in
    sym (word_at-run bytes front behind r ∙ rw (short, root, undef) refl)

pub long_word : (bytes front behind : List ℕ) → Runs bytes front behind → pointwise nat_eq front (codes "sqrt") ≡ false → pointwise nat_eq front (codes "undef") ≡ false → is_name front ≡ false
    → None ≡ word_at bytes
long_word bytes front behind r e f n =
    let long : nat_le (length front) 7 ≡ false = sym (name_test bytes front behind r e f) ∙ n in
    sym (word_at-run bytes front behind r ∙ rw long refl)
