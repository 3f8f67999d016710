-- A run of bytes at the front of a list, and what stands behind it.
use Rattle.calc_language.proofs.Shared.{ℕ, ◌≡◌, List, [], ◌∷◌, ◌++◌, Bool, true, length, ◌&&◌, not, ◌==◌, nat_eq, list_all, arith, refl, ap, ◌∙◌, leading_run, false, keep, same_bytes, prefix_len}
use Rattle.calc_language.proofs.Shared.{pointwise, ◌+◌, ◌≤◌, take, drop, cond, one-add}

pub run_front : (p : ℕ → Bool) (bytes : List ℕ) → take (prefix_len p bytes) bytes ≡ (leading_run p bytes).0
run_front p [] = refl
run_front p (b ∷ bytes) = by (p b) (run_front p bytes)
  where
    by : (x : Bool) → take (prefix_len p bytes) bytes ≡ (leading_run p bytes).0 → take (cond x (1 + prefix_len p bytes) 0) (b ∷ bytes) ≡ (keep x b bytes (leading_run p bytes)).0
    by true e = rw one-add (ap (λ r. b ∷ r) e)
    by false e = refl

pub run_back : (p : ℕ → Bool) (bytes : List ℕ) → drop (prefix_len p bytes) bytes ≡ (leading_run p bytes).1
run_back p [] = refl
run_back p (b ∷ bytes) = by (p b) (run_back p bytes)
  where
    by : (x : Bool) → drop (prefix_len p bytes) bytes ≡ (leading_run p bytes).1 → drop (cond x (1 + prefix_len p bytes) 0) (b ∷ bytes) ≡ (keep x b bytes (leading_run p bytes)).1
    by true e = rw one-add e
    by false e = refl

-- a run and what stands behind it are the whole
pub run_whole : (p : ℕ → Bool) (bytes : List ℕ) → (leading_run p bytes).0 ++ (leading_run p bytes).1 ≡ bytes
run_whole p [] = refl
run_whole p (b ∷ bytes) = grind (arith, run_whole p bytes)

pub run_back_le : (p : ℕ → Bool) (bytes : List ℕ) → length ((leading_run p bytes).1) ≤ length bytes
run_back_le p [] = omega arith
run_back_le p (b ∷ bytes) = grind (arith, run_back_le p bytes)

pub run_all : (p : ℕ → Bool) (bytes : List ℕ) → list_all p ((leading_run p bytes).0) ≡ true
run_all p [] = refl
run_all p (b ∷ bytes) = grind (arith, run_all p bytes)

-- there is no more of the run
abbrev pub stops : (ℕ → Bool) → List ℕ → Bool
stops p [] = true
stops p (b ∷ bytes) = not (p b)

pub run_stops : (p : ℕ → Bool) (bytes : List ℕ) → stops p ((leading_run p bytes).1) ≡ true
run_stops p [] = refl
run_stops p (b ∷ bytes) = grind (arith, run_stops p bytes)

run_of_none : (p : ℕ → Bool) (rest : List ℕ) → stops p rest ≡ true → leading_run p rest ≡ ([], rest)
run_of_none p rest h = grind arith

pub run_of : (p : ℕ → Bool) (front rest : List ℕ) → list_all p front ≡ true → stops p rest ≡ true → leading_run p (front ++ rest) ≡ (front, rest)
run_of p [] rest a s = run_of_none p rest s
run_of p (b ∷ front) rest a s = grind (arith, run_of p front rest)

pub same_bytes-pointwise : (x y : List ℕ) → same_bytes x y ≡ pointwise nat_eq x y
same_bytes-pointwise [] [] = refl
same_bytes-pointwise [] (b ∷ y) = refl
same_bytes-pointwise (a ∷ x) [] = refl
same_bytes-pointwise (a ∷ x) (b ∷ y) = ap (λ r. (a == b) && r) (same_bytes-pointwise x y)
