-- Lemmas on what is kept of a line.
use Rattle.poincare_run.proofs.Shared.{◌≡◌, ◌∙◌, ℕ, ◌-◌, List, [], ◌∷◌, ◌++◌, length, true, false, cond, nat_eq, get_or, take, ap, arith, append-nil, length-append, get_or-append_seam}
use Rattle.poincare_run.proofs.Shared.{take-append_seam, eqb-true, strip_carriage_return, LineBuffer, Holds, StandsFor}

-- a line that ends in no carriage return is left as it is
pub strip-plain : (bytes : List ℕ) (b : ℕ) → nat_eq b 13 ≡ false → strip_carriage_return (bytes ++ b ∷ []) ≡ bytes ++ b ∷ []
strip-plain bytes b other =
    let at : length (bytes ++ b ∷ []) - 1 ≡ length bytes = omega (arith, length-append bytes (b ∷ [])) in
    let last : get_or (bytes ++ b ∷ []) (length (bytes ++ b ∷ []) - 1) 0 ≡ b = ap (λ n. get_or (bytes ++ b ∷ []) n 0) at ∙ get_or-append_seam bytes b [] 0 in
    ap (λ t. cond t (take (length (bytes ++ b ∷ []) - 1) (bytes ++ b ∷ [])) (bytes ++ b ∷ [])) (ap (λ n. nat_eq n 13) last ∙ other)

-- a byte that is no carriage return came, and all bytes so far are the line
pub holds_all : (buffer : LineBuffer) (bytes : List ℕ) (b : ℕ) → nat_eq b 13 ≡ false → buffer.returned ≡ nat_eq b 13 → StandsFor buffer.kept.items (bytes ++ b ∷ []) → Holds buffer (bytes ++ b ∷ [])
holds_all buffer bytes b other is stands = grind (arith, append-nil, strip-plain)

-- a line that ends in a carriage return loses it
pub strip-return : (bytes : List ℕ) → strip_carriage_return (bytes ++ 13 ∷ []) ≡ bytes
strip-return bytes =
    let at : length (bytes ++ 13 ∷ []) - 1 ≡ length bytes = omega (arith, length-append bytes (13 ∷ [])) in
    let last : get_or (bytes ++ 13 ∷ []) (length (bytes ++ 13 ∷ []) - 1) 0 ≡ 13 = ap (λ n. get_or (bytes ++ 13 ∷ []) n 0) at ∙ get_or-append_seam bytes 13 [] 0 in
    ap (λ t. cond t (take (length (bytes ++ 13 ∷ []) - 1) (bytes ++ 13 ∷ [])) (bytes ++ 13 ∷ [])) (ap (λ n. nat_eq n 13) last)
    ∙ ap (λ n. take n (bytes ++ 13 ∷ [])) at ∙ take-append_seam bytes (13 ∷ [])

-- a carriage return came, and waits
pub holds_return : (buffer : LineBuffer) (bytes : List ℕ) (b : ℕ) → nat_eq b 13 ≡ true → buffer.returned ≡ nat_eq b 13 → StandsFor buffer.kept.items bytes → Holds buffer (bytes ++ b ∷ [])
holds_return buffer bytes b is same stands = grind (arith, eqb-true, strip-return)
