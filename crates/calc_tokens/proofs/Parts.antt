-- The parts of a literal: whether they fit, and its value.
use Rattle.calc_tokens.proofs.Shared.{ℕ, suc, ◌+◌, ◌-◌, ◌*◌, ◌≡◌, ◌<◌, List, [], ◌∷◌, ◌++◌, Bool, true, false, ◌==◌, ◌&&◌, length, nat_lt, if◌then◌else◌, pos, AllPass, refl, sym, ap, ◌∙◌, arith}
use Rattle.calc_tokens.proofs.Shared.{eqb-true, lowest, is_digit, digits_value, decimals, trimmed, kept_before, unscaled, scale, has_point, All-nil, All-cons, one-le-pow, pow-add, lt-ltb, All-head}
use Rattle.calc_tokens.proofs.{Shared.{All-tail, same_lowest, parts_fit}, Runs.{run_passes, chosen}, Digits.{digits_value-append, digits_value_grows}}
use Rattle.std.specs.Prelude.{◌^◌}
use Rattle.std.proofs.Math.Nat.{pow-suc}

test_fails : (n : ℕ) (b : Bool) → (n < 2 ^ 127 → ⊥) → (nat_lt n (2 ^ 127) && b) ≡ false
test_fails n b h = grind arith

-- digits before the point that are too many
pub whole_too_wide : (whole kept : List ℕ) → (digits_value 0 whole < 2 ^ 127 → ⊥) → parts_fit whole kept ≡ false
whole_too_wide whole kept h = grind (arith, test_fails, digits_value-append, digits_value_grows)

pub kept_too_wide : (n : ℕ) (whole kept : List ℕ) → n ≡ digits_value 0 whole → (digits_value n kept < 2 ^ 127 → ⊥) → parts_fit whole kept ≡ false
kept_too_wide n whole kept e h = test_fails (unscaled whole kept) (nat_lt (scale kept) (2 ^ 127)) (rw (digits_value-append 0 whole kept, ← e) h)

pub both_fit : (n m : ℕ) (whole kept : List ℕ) → n ≡ digits_value 0 whole → digits_value n kept < 2 ^ 127 → scale kept < 2 ^ 127 → parts_fit whole kept ≡ true
both_fit n m whole kept e h g = let h' : unscaled whole kept < 2 ^ 127 = rw (digits_value-append 0 whole kept, ← e) h in rw (lt-ltb (unscaled whole kept) (2 ^ 127) h', lt-ltb (scale kept) (2 ^ 127) g) refl

pub scale_pos : (kept : List ℕ) → 0 < scale kept
scale_pos kept = one-le-pow (length kept) 10 (omega arith)

pub scaled_is : (v m d : ℕ) (whole kept : List ℕ) → v ≡ digits_value 0 whole → m ≡ digits_value v kept → d ≡ scale kept → lowest (pos m) d ≡ lowest (pos (unscaled whole kept)) (scale kept)
scaled_is v m d whole kept e f g = grind (arith, digits_value-append)

-- ---- a short whole number

-- without a point there are no decimals
pub no_decimals : (rest : List ℕ) → has_point rest ≡ false → decimals rest ≡ ([], rest)
no_decimals [] h = refl
no_decimals (b ∷ []) h = refl
no_decimals (b ∷ c ∷ bs) h = ap (λ x. chosen (x && is_digit c) b c bs) h

pub short_fits : (whole rest : List ℕ) (n : ℕ) → n ≡ digits_value 0 whole → n < 2 ^ 63 → has_point rest ≡ false → parts_fit whole (trimmed ((decimals rest).0)) ≡ true
short_fits whole rest n e h p = rw (no_decimals rest p) (both_fit (digits_value 0 whole) n whole [] refl (omega (arith, e)) (omega arith))

pub short_is : (whole rest : List ℕ) (n : ℕ) → n ≡ digits_value 0 whole → has_point rest ≡ false → lowest (pos n) 1 ≡ lowest (pos (unscaled whole (trimmed ((decimals rest).0)))) (scale (trimmed ((decimals rest).0)))
short_is whole rest n e p = rw (no_decimals rest p) (scaled_is n n 1 whole [] e refl refl)

-- ---- digits all along
pub decimals_pass : (bytes : List ℕ) → AllPass is_digit ((decimals bytes).0)
decimals_pass bytes = grind (arith, All-nil, run_passes)

kept_pass : (d : ℕ) (ds : List ℕ) → is_digit d ≡ true → AllPass is_digit ds → AllPass is_digit (kept_before d ds)
kept_pass d [] e h = by (d == 48)
  where
    by : (x : Bool) → AllPass is_digit (if x then [] else d ∷ [])
    by true = All-nil (λ x. is_digit x ≡ true)
    by false = All-cons (λ x. is_digit x ≡ true) d [] e (All-nil (λ x. is_digit x ≡ true))
kept_pass d (c ∷ ds) e h = All-cons (λ x. is_digit x ≡ true) d (c ∷ ds) e h

pub trimmed_pass : (ds : List ℕ) → AllPass is_digit ds → AllPass is_digit (trimmed ds)
trimmed_pass [] h = h
trimmed_pass (d ∷ ds) h =
    kept_pass d (trimmed ds) (All-head (λ x. is_digit x ≡ true) d ds h) (trimmed_pass ds (All-tail (λ x. is_digit x ≡ true) d ds h))

-- ---- zeros at the end of the decimals
pub record Zeros (n : ℕ) (ds kept : List ℕ) : Type 0 where
  pub count : ℕ
  pub value : digits_value n ds ≡ digits_value n kept * 10 ^ count
  pub longer : length ds ≡ length kept + count

ten_times : (n d p q : ℕ) → d ≡ 48 → q ≡ p * 10 → (10 * n + (d - 48)) * p ≡ n * q
ten_times n d p q e f = rw (e, f) (omega arith)

zeros_before : (n d : ℕ) (ds kept : List ℕ) → Zeros (10 * n + (d - 48)) ds kept → Zeros n (d ∷ ds) (kept_before d kept)
zeros_before n d ds [] z = by (d == 48) refl
  where
    by : (x : Bool) → (d == 48) ≡ x → Zeros n (d ∷ ds) (if x then [] else d ∷ [])
    by true e =
        record { count = suc z.count; value = z.value ∙ ten_times n d (10 ^ z.count) (10 ^ suc z.count) (eqb-true d 48 e) (pow-suc 10 z.count); longer = omega (arith, z.longer) }
    by false e = record { count = z.count; value = z.value; longer = omega (arith, z.longer) }
zeros_before n d ds (c ∷ kept) z = record { count = z.count; value = z.value; longer = omega (arith, z.longer) }

pub zeros : (n : ℕ) (ds : List ℕ) → Zeros n ds (trimmed ds)
zeros n [] = record { count = 0; value = omega arith; longer = omega arith }
zeros n (d ∷ ds) = zeros_before n d ds (trimmed ds) (zeros (10 * n + (d - 48)) ds)

-- the zeros cut a numerator and its power of ten alike
cut_alike : (n m p q r : ℕ) → n ≡ m * r → q ≡ p * r → m * q ≡ n * p
cut_alike n m p q r e f = rw (e, f) (omega arith)

pub same_value : (whole ds : List ℕ) → lowest (pos (unscaled whole (trimmed ds))) (scale (trimmed ds)) ≡ lowest (pos (digits_value 0 (whole ++ ds))) (10 ^ length ds)
same_value whole ds =
    let z : Zeros (digits_value 0 whole) ds (trimmed ds) = zeros (digits_value 0 whole) ds in
    let num : digits_value 0 (whole ++ ds) ≡ unscaled whole (trimmed ds) * 10 ^ z.count
    = digits_value-append 0 whole ds ∙ z.value ∙ ap (λ v. v * 10 ^ z.count) (sym (digits_value-append 0 whole (trimmed ds))) in
    let den : 10 ^ length ds ≡ scale (trimmed ds) * 10 ^ z.count = ap (λ n. 10 ^ n) z.longer ∙ pow-add 10 (length (trimmed ds)) z.count in
    same_lowest (pos (unscaled whole (trimmed ds))) (pos (digits_value 0 (whole ++ ds))) (scale (trimmed ds)) (10 ^ length ds) (scale_pos (trimmed ds)) (one-le-pow (length ds) 10 (omega arith))
    (ap pos (cut_alike (digits_value 0 (whole ++ ds)) (unscaled whole (trimmed ds)) (scale (trimmed ds)) (10 ^ length ds) (10 ^ z.count) num den))
