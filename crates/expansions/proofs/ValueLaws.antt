-- The arithmetic of polynomials is that of their values.
use Rattle.expansions.proofs.Shared.{◌≡◌, ◌⊎◌, inl, inr, ℕ, zero, suc, List, [], ◌∷◌, ◌++◌, map, Bool, true, false, refl, sym, ap, ◌∙◌, arith, if◌then◌else◌, Contains, bytes_eq, bytes_eq-Decides}
use Rattle.expansions.proofs.Shared.{Equal, nat_cmp, slice_cmp, Assignment, IsAssignment, Binding, times_zero, tree_cmp_equal, fraction_power, times_assoc, times_plus, zero_plus, zero_times}
use Rattle.expansions.proofs.Shared.{one_times, Fraction, plus, times, one_fraction, plus_assoc, Tree, symbol, Factor, Monomial, Polynomial, Summand, constant, monomial_times, product, raised, scaled}
use Rattle.expansions.proofs.Shared.{summand_times, variable, with_factor, factor_value, given, monomial_value, polynomial_value, summand_value, Gives, one_value, times_one, plus_both, plus_times}
use Rattle.expansions.proofs.{Shared.{plus_zero, times_exchange}, Widths.{clash}, Arithmetic.{power_plus, times_left_comm}}
use Rattle.calc_algebra.proofs.MeaningLaws.{at_front as first_or_later}

-- ---- names

abbrev name_in : Tree → List ℕ
name_in (symbol x) = x
name_in _ = []

pub names_equal : (x y : List ℕ) → slice_cmp nat_cmp x y ≡ Equal → x ≡ y
names_equal x y e = ap name_in (tree_cmp_equal (symbol x) (symbol y) e)

-- an assignment gives what it gives
pub given_is : (f : Assignment) → IsAssignment f → (x : List ℕ) (q : Fraction) → Gives f x q → given f x ≡ q
given_is [] once x q m = absurd (none_in m)
  where
    none_in : {X : Type 0} {x : X} → Contains [] x → ⊥
    none_in (k, l, e) = absurd (omega arith)
given_is (b ∷ f) once x q m = by (bytes_eq b.name x) refl (first_or_later b f _ m) (λ k. given_is f once.1 x q k)
  where
    by : (t : Bool) → bytes_eq b.name x ≡ t → (b ≡ record { name = x; value = q }) ⊎ Gives f x q → (Gives f x q → given f x ≡ q) → (if t then b.value else given f x) ≡ q
    by true e k go =
        one_value (b ∷ f) once x b.value q (0, omega arith, λ i. record { name = (bytes_eq-Decides b.name x).0 e i; value = b.value }) m
    by false e (inl k) go = clash (bytes_eq b.name x) ((bytes_eq-Decides b.name x).1 (ap (λ (c : Binding). c.name) k)) e
    by false e (inr k) go = go k

module _ (f : Assignment) where
  -- ---- monomials

  pub with_factor_value : (g : Factor) (m : Monomial) → monomial_value f (with_factor g m) ≡ times (factor_value f g) (monomial_value f m)
  with_factor_value g [] = refl
  with_factor_value g (h ∷ m) = let go = with_factor_value g m in grind (arith, power_plus, names_equal, times_assoc, times_left_comm)

  pub monomial_times_value : (m n : Monomial) → monomial_value f (monomial_times m n) ≡ times (monomial_value f m) (monomial_value f n)
  monomial_times_value [] n = sym (one_times (monomial_value f n))
  monomial_times_value (g ∷ m) n =
      with_factor_value g (monomial_times m n) ∙ ap (times (factor_value f g)) (monomial_times_value m n) ∙ sym (times_assoc (factor_value f g) (monomial_value f m) (monomial_value f n))

  -- ---- polynomials

  pub constant_value : (q : Fraction) → polynomial_value f (constant q) ≡ q
  constant_value q = plus_zero (times q one_fraction) ∙ times_one q

  pub variable_value : (x : List ℕ) → polynomial_value f (variable x) ≡ given f x
  variable_value x = plus_zero _ ∙ one_times _ ∙ times_one _ ∙ times_one (given f x)

  pub append_value : (v w : Polynomial) → polynomial_value f (v ++ w) ≡ plus (polynomial_value f v) (polynomial_value f w)
  append_value [] w = sym (zero_plus (polynomial_value f w))
  append_value (s ∷ v) w = ap (plus (summand_value f s)) (append_value v w) ∙ sym (plus_assoc (summand_value f s) (polynomial_value f v) (polynomial_value f w))

  pub scaled_value : (c : Fraction) (v : Polynomial) → polynomial_value f (scaled c v) ≡ times c (polynomial_value f v)
  scaled_value c [] = sym (times_zero c)
  scaled_value c (s ∷ v) = plus_both (times_assoc c s.coefficient (monomial_value f s.monomial)) (scaled_value c v) ∙ sym (times_plus c (summand_value f s) (polynomial_value f v))

  summand_times_value : (s t : Summand) → summand_value f (summand_times s t) ≡ times (summand_value f s) (summand_value f t)
  summand_times_value s t = grind (arith, monomial_times_value, times_exchange)

  pairs_value : (s : Summand) (w : Polynomial) → polynomial_value f (map (summand_times s) w) ≡ times (summand_value f s) (polynomial_value f w)
  pairs_value s [] = sym (times_zero (summand_value f s))
  pairs_value s (t ∷ w) = plus_both (summand_times_value s t) (pairs_value s w) ∙ sym (times_plus (summand_value f s) (summand_value f t) (polynomial_value f w))

  pub product_value : (v w : Polynomial) → polynomial_value f (product v w) ≡ times (polynomial_value f v) (polynomial_value f w)
  product_value [] w = sym (zero_times (polynomial_value f w))
  product_value (s ∷ v) w =
      append_value (map (summand_times s) w) (product v w) ∙ plus_both (pairs_value s w) (product_value v w) ∙ sym (plus_times (summand_value f s) (polynomial_value f v) (polynomial_value f w))

  pub raised_value : (v : Polynomial) (n : ℕ) → polynomial_value f (raised v n) ≡ fraction_power (polynomial_value f v) n
  raised_value v zero = constant_value one_fraction
  raised_value v (suc n) = product_value v (raised v n) ∙ ap (times (polynomial_value f v)) (raised_value v n)
