-- Which of some calculations is the first that does not fit.
use Rattle.surd_terms.proofs.Shared.{◌≡◌, true, false, ℕ, ◌*◌, ◌/◌, ◌≤◌, Bool, List, [], ◌∷◌, ◌++◌, Option, Some, None, Result, refl, sym, ap, ◌∙◌, subst, arith, if◌then◌else◌, ◌↔◌, IsErr, IfOk}
use Rattle.surd_terms.proofs.Shared.{IfErr, IsErrAnd, IsGcd, mul-div_cancel_left, same_from_IsGcd, dvd_refl, fraction_fits, Fraction, gcd, gcd_is, value_of, Rat, are_alike, Term, Add, Mul, Overflow}
use Rattle.surd_terms.proofs.Shared.{Calculation, calculation, does_fit, first_misfit, calculation_of, misfit_of, scaled, scaling, joining_calculations, ◌∣◌, square_root, square_root-square}
use Rattle.surd_terms.proofs.{Shared.{DoesNotFit, Op}, Values.{alike_itself, times_whole_one}}

fits_from : (b : Bool) → (b ≡ false → false ≡ true) → b ≡ true
fits_from b h = grind arith

-- one that fits is passed
pub passed : (c : Calculation) (cs : List Calculation) → does_fit c ≡ true → first_misfit (c ∷ cs) ≡ first_misfit cs
passed c cs h = ap (λ b. if b then first_misfit cs else Some c) h

pub step_fits : (op : Op) (a b a' b' : Fraction) (cs : List Calculation) → a' ≡ a → b' ≡ b → (DoesNotFit op a' b' → false ≡ true) → first_misfit (calculation op a b ∷ cs) ≡ first_misfit cs
step_fits op a b a' b' cs e f h = passed (calculation op a b) cs (subst (λ x. does_fit (calculation op x b) ≡ true) e (subst (λ x. does_fit (calculation op a' x) ≡ true) f (fits_from _ h)))

-- one that does not is what is refused
pub step_misfit : (o : Overflow) (op : Op) (x y : Rat) (a b : Fraction) (cs : List Calculation) → o ≡ record { op = op; a = x; b = y } → value_of x ≡ a → value_of y ≡ b → DoesNotFit op (value_of x) (value_of y)
    → Some (calculation_of o) ≡ first_misfit (calculation op a b ∷ cs)
step_misfit o op x y a b cs n e f h = grind arith

-- a product is refused for itself
pub product_misfit : (r : Result Rat Overflow) (x y : Rat) (a b : Fraction) → (IsErr r ↔ DoesNotFit Mul (value_of x) (value_of y)) → IfErr r (λ o. o ≡ record { op = Mul; a = x; b = y }) → value_of x ≡ a → value_of y ≡ b
    → misfit_of r ≡ first_misfit (calculation Mul a b ∷ [])
product_misfit r x y a b h n e f = grind arith

-- an answer of the same value
pub if_value : (r : Result Rat Overflow) (a b : Fraction) → a ≡ b → IfOk r (λ q. value_of q ≡ a) → IfOk r (λ q. value_of q ≡ b)
if_value r a b e h = grind arith

-- lists that all fit are passed
passed_more : (c : Calculation) (cs ds : List Calculation) (b : Bool) → does_fit c ≡ b → (None ≡ first_misfit cs → first_misfit (cs ++ ds) ≡ first_misfit ds) → None ≡ first_misfit (c ∷ cs) → first_misfit (c ∷ cs ++ ds) ≡ first_misfit ds
passed_more c cs ds b e h k = grind arith

pub passed_list : (cs ds : List Calculation) → None ≡ first_misfit cs → first_misfit (cs ++ ds) ≡ first_misfit ds
passed_list [] ds h = refl
passed_list (c ∷ cs) ds h = passed_more c cs ds (does_fit c) refl (passed_list cs ds) h

-- and one whose first misfit is known has that first, whatever follows
stopped_more : (c m : Calculation) (cs ds : List Calculation) (b : Bool) → does_fit c ≡ b → (Some m ≡ first_misfit cs → Some m ≡ first_misfit (cs ++ ds)) → Some m ≡ first_misfit (c ∷ cs) → Some m ≡ first_misfit (c ∷ cs ++ ds)
stopped_more c m cs ds b e h k = grind arith

pub stopped_list : (cs ds : List Calculation) (m : Calculation) → Some m ≡ first_misfit cs → Some m ≡ first_misfit (cs ++ ds)
stopped_list [] ds m h = grind arith
stopped_list (c ∷ cs) ds m h = stopped_more c m cs ds (does_fit c) refl (stopped_list cs ds m) h

-- an overflow that is passed on
pub refused_for : {A : Type 0} (r : Result A Overflow) (o : Overflow) (m : Option Calculation) → IsErr r → IsErrAnd r (λ x. x ≡ o) → Some (calculation_of o) ≡ m → misfit_of r ≡ m
refused_for r o m h a e = grind arith

-- ---- the parts of radicands

-- the root of r/g, where r is g * s * s
pub root_of_quotient : (r g s : ℕ) → 1 ≤ g → r ≡ g * s * s → square_root (r / g) ≡ s
root_of_quotient r g s h e = ap square_root (ap (λ n. n / g) (e ∙ regrouped) ∙ mul-div_cancel_left (s * s) h) ∙ square_root-square s
  where
    regrouped : g * s * s ≡ g * (s * s)
    regrouped = omega arith

-- the calculations of a sum whose radicands are g * s * s and g * t * t
pub joining_parts : (a b : Term) (g s t : ℕ) → are_alike a.radicand b.radicand ≡ true → 1 ≤ g → IsGcd a.radicand b.radicand g → a.radicand ≡ g * s * s → b.radicand ≡ g * t * t
    → joining_calculations a b ≡ scaling a s ∷ scaling b t ∷ calculation Add (scaled a s) (scaled b t) ∷ []
joining_parts a b g s t alike h shared first second =
    ap (λ x. if x then listed (square_root (a.radicand / gcd a.radicand b.radicand)) (square_root (b.radicand / gcd a.radicand b.radicand)) else []) alike
    ∙ (λ i. listed (one i) (two i))
  where
    listed : ℕ → ℕ → List Calculation
    listed m n = scaling a m ∷ scaling b n ∷ calculation Add (scaled a m) (scaled b n) ∷ []

    same : gcd a.radicand b.radicand ≡ g
    same = same_from_IsGcd a.radicand b.radicand _ g (gcd_is a.radicand b.radicand) shared

    one : square_root (a.radicand / gcd a.radicand b.radicand) ≡ s
    one = ap (λ n. square_root (a.radicand / n)) same ∙ root_of_quotient a.radicand g s h first

    two : square_root (b.radicand / gcd a.radicand b.radicand) ≡ t
    two = ap (λ n. square_root (b.radicand / n)) same ∙ root_of_quotient b.radicand g t h second

-- with one radicand only the sum of the coefficients can be refused
pub one_radicand_calculations : (a b : Term) → 1 ≤ a.radicand → a.radicand ≡ b.radicand → fraction_fits a.coefficient ≡ true → fraction_fits b.coefficient ≡ true
    → first_misfit (joining_calculations a b) ≡ first_misfit (calculation Add a.coefficient b.coefficient ∷ [])
one_radicand_calculations a b h e p q =
    ap first_misfit (joining_parts a b a.radicand 1 1 (alike_itself a.radicand b.radicand h e) h shared (once a.radicand) (sym e ∙ once a.radicand))
    ∙ passed (scaling a 1) (scaling b 1 ∷ calculation Add (scaled a 1) (scaled b 1) ∷ []) (ap fraction_fits (times_whole_one a.coefficient) ∙ p)
    ∙ passed (scaling b 1) (calculation Add (scaled a 1) (scaled b 1) ∷ []) (ap fraction_fits (times_whole_one b.coefficient) ∙ q)
    ∙ (λ i. first_misfit (calculation Add (times_whole_one a.coefficient i) (times_whole_one b.coefficient i) ∷ []))
  where
    once : (n : ℕ) → n ≡ n * 1 * 1
    once n = omega arith

    shared : IsGcd a.radicand b.radicand a.radicand
    shared = (dvd_refl a.radicand, subst (λ n. a.radicand ∣ n) e (dvd_refl a.radicand), λ d k l. k)
