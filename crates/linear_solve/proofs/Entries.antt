-- The entries of rows, and loops over them.
use Rattle.linear_solve.proofs.Shared.{◌≡◌, ◌≢◌, ◌<◌, ◌≤◌, ◌↔◌, ℕ, pos, ◌+◌, min, List, [], ◌∷◌, ◌++◌, length, take, get_or, map, false, Result, Ok, Err, IfOk, IfErr, IsErr, sym, ap, ◌∙◌, arith, zip}
use Rattle.linear_solve.proofs.Shared.{length_push, map_more, take_all, length-zip, get_or-zip, Fraction, lowest, plus, times, is_zero_fraction, zero_fraction, one_fraction, ratio_parts, ratio_of}
use Rattle.linear_solve.proofs.{Shared.{value_of, Overflow, Misfit, each, sum_of, product_of, Row, entry, misfit_of, Rat, Ratio, whole, DoesNotFit}, Calculations.{each_all, each_more, each_stops}}
use Rattle.rational128.specs.declared.overflow.Op.TheVariants as op

-- ---- rationals

-- what an operation answers
abbrev pub rat_told : Result Rat Overflow → Result Fraction Misfit
rat_told (Ok r) = Ok (value_of r)
rat_told (Err o) = Err (misfit_of o)

pub add_told : (a b : Rat) (r : Result Rat Overflow) → IfOk r (λ x. value_of x ≡ plus (value_of a) (value_of b)) → (IsErr r ↔ DoesNotFit op.Add (value_of a) (value_of b))
    → IfErr r (λ e. e ≡ record { op = op.Add; a = a; b = b }) → rat_told r ≡ sum_of (value_of a) (value_of b)
add_told a b r s h n = grind arith

pub mul_told : (a b : Rat) (r : Result Rat Overflow) → IfOk r (λ x. value_of x ≡ times (value_of a) (value_of b)) → (IsErr r ↔ DoesNotFit op.Mul (value_of a) (value_of b))
    → IfErr r (λ e. e ≡ record { op = op.Mul; a = a; b = b }) → rat_told r ≡ product_of (value_of a) (value_of b)
mul_told a b r s h n = grind arith

-- ---- loops over one row

module _ {B : Type 0} (f : Fraction → Result B Misfit) (a : Row) where
  pub row_more : (i : ℕ) (ys : List B) (x : Fraction) (y : B) → i < length a → x ≡ entry i a → each f (take i a) ≡ Ok ys → f x ≡ Ok y → each f (take (i + 1) a) ≡ Ok (ys ++ y ∷ [])
  row_more i ys x y l p e h = each_more f a i zero_fraction ys y l e (ap f (sym p) ∙ h)

  pub row_stops : (i : ℕ) (ys : List B) (x : Fraction) (m : Misfit) → i < length a → x ≡ entry i a → each f (take i a) ≡ Ok ys → f x ≡ Err m → each f a ≡ Err m
  row_stops i ys x m l p e h = each_stops f a i zero_fraction ys m l e (ap f (sym p) ∙ h)

-- ---- loops over two rows

module _ {B : Type 0} (f : Fraction × Fraction → Result B Misfit) (a b : Row) where
  at_pair : (i : ℕ) (x y : Fraction) → i < length a → i < length b → x ≡ entry i a → y ≡ entry i b → f (get_or (zip a b) i (zero_fraction, zero_fraction)) ≡ f (x, y)
  at_pair i x y l k p q = ap f (get_or-zip a b i (zero_fraction, zero_fraction) l k ∙ (λ j. (sym p j, sym q j)))

  inside : (i : ℕ) → i < length a → i < length b → i < length (zip a b)
  inside i l k = omega (arith, length-zip a b)

  pub pair_more : (i : ℕ) (ys : List B) (x y : Fraction) (z : B) → i < length a → i < length b → x ≡ entry i a → y ≡ entry i b → each f (take i (zip a b)) ≡ Ok ys → f (x, y) ≡ Ok z
      → each f (take (i + 1) (zip a b)) ≡ Ok (ys ++ z ∷ [])
  pair_more i ys x y z l k p q e h = each_more f (zip a b) i (zero_fraction, zero_fraction) ys z (inside i l k) e (at_pair i x y l k p q ∙ h)

  pub pair_stops : (i : ℕ) (ys : List B) (x y : Fraction) (m : Misfit) → i < length a → i < length b → x ≡ entry i a → y ≡ entry i b → each f (take i (zip a b)) ≡ Ok ys
      → f (x, y) ≡ Err m → each f (zip a b) ≡ Err m
  pair_stops i ys x y m l k p q e h = each_stops f (zip a b) i (zero_fraction, zero_fraction) ys m (inside i l k) e (at_pair i x y l k p q ∙ h)

  pub pair_all : (i : ℕ) (ys : List B) → min (length a) (length b) ≤ i → each f (take i (zip a b)) ≡ Ok ys → each f (zip a b) ≡ Ok ys
  pair_all i ys l e = each_all f (zip a b) i (Ok ys) (omega (arith, length-zip a b)) e

pub longer : (new old : Row) (x : Fraction) (n : ℕ) → new ≡ old ++ x ∷ [] → length old ≡ n → length new ≡ n + 1
longer new old x n e l = ap length e ∙ length_push old x ∙ ap (λ m. m + 1) l

pub nonzero_numerator : (r : Rat) → is_zero_fraction (value_of r) ≡ false → (ratio_of r).num ≢ pos 0
nonzero_numerator r h z = grind (arith, ratio_parts)

-- a loop that makes an entry for each
pub mapped_more : {X : Type 0} (f : X → Fraction) (xs : List X) (i : ℕ) (d : X) (new old : Row) (x : Fraction) → i < length xs → new ≡ old ++ x ∷ [] → old ≡ map f (take i xs)
    → x ≡ f (get_or xs i d) → new ≡ map f (take (i + 1) xs)
mapped_more f xs i d new old x l e p q = e ∙ (λ j. p j ++ q j ∷ []) ∙ sym (map_more f xs i d l)

pub mapped_all : {X : Type 0} (f : X → Fraction) (xs : List X) (i : ℕ) (r : Row) → length xs ≤ i → r ≡ map f (take i xs) → r ≡ map f xs
mapped_all f xs i r l e = e ∙ ap (map f) (take_all i xs l)
