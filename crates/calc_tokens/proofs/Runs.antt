-- A run of bytes at the front, by its length.
use Rattle.calc_tokens.proofs.Shared.{ℕ, suc, ◌+◌, ◌≡◌, ◌≤◌, ◌<◌, List, [], ◌∷◌, Bool, true, false, length, AllPass, refl, arith, All-nil, All-cons, is_digit, leading_run, decimals, run_back_le, keep}

pub run_passes : (p : ℕ → Bool) (bytes : List ℕ) → AllPass p ((leading_run p bytes).0)
run_passes p [] = All-nil (λ x. p x ≡ true)
run_passes p (b ∷ bytes) = by (p b) refl (run_passes p bytes)
  where
    by : (x : Bool) → p b ≡ x → AllPass p ((leading_run p bytes).0) → AllPass p ((keep x b bytes (leading_run p bytes)).0)
    by true e h = All-cons (λ x. p x ≡ true) b ((leading_run p bytes).0) e h
    by false e h = All-nil (λ x. p x ≡ true)

-- a run that begins takes its first byte
pub run_back_lt : (p : ℕ → Bool) (b : ℕ) (bytes : List ℕ) → p b ≡ true → length ((leading_run p (b ∷ bytes)).1) < length (b ∷ bytes)
run_back_lt p b bytes e = rw e (omega (arith, run_back_le p bytes))

-- the choice that `decimals` makes, with its test as an argument
abbrev pub chosen : Bool → ℕ → ℕ → List ℕ → List ℕ × List ℕ
chosen x b c bytes = elim x as (λ x. List ℕ × List ℕ) [ true ↦ leading_run is_digit (c ∷ bytes) | false ↦ ([], b ∷ c ∷ bytes) ]

chosen_le : (x : Bool) (b c : ℕ) (bytes : List ℕ) → length ((chosen x b c bytes).1) ≤ suc (suc (length bytes))
chosen_le x b c bytes = grind (arith, run_back_le)

pub decimals_le : (bytes : List ℕ) → length ((decimals bytes).1) ≤ length bytes
decimals_le bytes = grind (arith, chosen_le)
