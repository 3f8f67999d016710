-- The replies to a polynomial equation whose roots are to be told.
use Rattle.std.specs.{Prelude.{ℕ, ◌≡◌, ◌≢◌, ◌<◌, List, [], ◌∷◌, ◌++◌, length, Contains, codes, true}, List.{AllZip}}
use Rattle.breakers.specs.{Breakers.{CalmChecks}, State.{State as Breaker}}
use Rattle.calc_terms.specs.{Fractions.{Fraction, zero_fraction}, Rat.{value_of}, Trees.{Tree, sub, names, nodes}}
use Rattle.equation_roots.specs.{Factorings.{IsBeyond, IsFactoring, Rest}, Refusals.{Overflows as OverflowsThere}, Roots.{rationals_in, rest_in}}
use Rattle.expand_forms.specs.Powers.{AreCoefficients, power_of}
use Rattle.expansions.specs.{Polynomials.{Polynomial, coefficient_at}, PolynomialTrees.{is_polynomial, polynomial_of}}
use Rattle.linear_solve.specs.Equations.{Equation}
use Rattle.name_table.specs.Filling.{NamedTree, values}
use Rattle.node_pool.specs.declared.full.Full.{Full}
use Rattle.rational128.specs.{Refusals.{operation_of}, declared.overflow.Overflow.{Overflow}}
use Rattle.calc_commands.specs.Equations.{Sides, Splits, all_placed}
use Rattle.calc_session.specs.{declared.rooting.Found.{Found}, Expanding.{IsReplyToExpansion}, Replies.{Reason, Reply, report, refused, full, overflow, command, too_many, degree}}
use Rattle.calc_session.specs.{RootTexts.{root_room, root_trees, roots_text}, Solving.{AreUnmade, Become, IsNoEquation, ReadsEquation}, States.{State, free_bytes, trees}}
use Rattle.calc_session.specs.declared.rooting.Found.TheVariants as found

-- ---- the polynomial

-- no name but x is left
abbrev pub HoldsOnly : List ℕ → Tree → Type 0
HoldsOnly x t = (y : List ℕ) → Contains (names t) y → y ≡ x

-- all its coefficients are 0
abbrev pub IsZeroIn : List ℕ → Polynomial → Type 0
IsZeroIn x v = AreCoefficients x v (zero_fraction ∷ [])

-- it is a number other than 0 times X - q for each of these rationals, and what is left
pub record IsFactoredIn (x : List ℕ) (v : Polynomial) (qs : List Fraction) (rest : Rest) : Type 0 where
  pub coefficients : List Fraction
  pub are : AreCoefficients x v coefficients
  pub factoring : IsFactoring coefficients qs rest

-- an exponent is above 32, or something of degree 3 or more is left that has no rational root of small numerator and denominator
pub data IsBeyondIn (x : List ℕ) (v : Polynomial) : Type 0 where
  above_the_limit : {k : ℕ} → 32 < k → coefficient_at (power_of x k) v ≢ zero_fraction → IsBeyondIn x v
  has_other_roots : {coefficients : List Fraction} → AreCoefficients x v coefficients → IsBeyond coefficients → IsBeyondIn x v

-- The replies to a polynomial in one name, where so many bytes are free without its tree.
pub data IsReplyToPolynomial (x : List ℕ) (free : ℕ) (v : Polynomial) : Reply → Type 0 where
  is_zero : IsZeroIn x v → IsReplyToPolynomial x free v (report (x ++ codes " free"))
  is_beyond : IsBeyondIn x v → IsReplyToPolynomial x free v (refused degree)
  does_not_fit : (o : Overflow) → OverflowsThere o → IsReplyToPolynomial x free v (refused (overflow (operation_of o.op) (value_of o.a) (value_of o.b)))
  lacks_bytes : {qs : List Fraction} {rest : Rest} {refusal : Full} → IsFactoredIn x v qs rest → refusal.free < refusal.needed → free < root_room → IsReplyToPolynomial x free v (refused (full refusal))
  is_told : {qs : List Fraction} {rest : Rest} → IsFactoredIn x v qs rest → IsReplyToPolynomial x free v (report (roots_text x (root_trees qs rest)))

-- what was found of it
abbrev pub IsFoundIn : List ℕ → Polynomial → Found → Type 0
IsFoundIn x v found.Each = IsZeroIn x v
IsFoundIn x v (found.Roots r) = IsFactoredIn x v (rationals_in r) (rest_in r)

-- ---- the equation

-- The replies to the difference of two sides, where so many bytes are free without it, and these are left with it: another name is left; or it is not expanded; or it is a polynomial in x.
pub data IsReplyToDifference (x : List ℕ) (free : ℕ) (before after : List Breaker) (left : ℕ) (t : Tree) : Reply → Type 0 where
  holds_another_name : {y : List ℕ} → Contains (names t) y → y ≢ x → after ≡ before → IsReplyToDifference x free before after left t (refused too_many)
  is_not_expanded : {reason : Reason} → HoldsOnly x t → IsReplyToExpansion free before after left t (refused reason) → IsReplyToDifference x free before after left t (refused reason)
  is_expanded : {reply : Reply} → HoldsOnly x t → is_polynomial t ≡ true → CalmChecks (nodes t) before after → IsReplyToPolynomial x free (polynomial_of t) reply → IsReplyToDifference x free before after left t reply

-- why the difference of the sides is not made: a side is not, or its own node finds no room
pub data IsNoDifference (values : List NamedTree) (free : ℕ) (e : Equation) : Reason → Type 0 where
  lacks_a_side : {reason : Reason} → AreUnmade values free (e ∷ []) reason → IsNoDifference values free e reason
  lacks_its_node : {left : ℕ} {f : Equation} → Become values free (e ∷ []) left (f ∷ []) → left < 8 → IsNoDifference values free e (full (record { needed = 8; free = left }))

-- the replies to an equation that was read, where so many bytes are free and the names stand for these values
pub data IsReplyToRoots (x : List ℕ) (values : List NamedTree) (free : ℕ) (e : Equation) (before after : List Breaker) : Reply → Type 0 where
  is_not_made : {reason : Reason} → IsNoDifference values free e reason → after ≡ before → IsReplyToRoots x values free e before after (refused reason)
  is_made : {left rest : ℕ} {f : Equation} {reply : Reply} → Become values free (e ∷ []) left (f ∷ []) → IsReplyToDifference x free before after rest (sub f.left f.right) reply → IsReplyToRoots x values free e before after reply

-- The replies to a text whose roots are to be told, where so many bytes of the line stand before it.
pub data IsReplyToRooting (old : State) (before after : List Breaker) (place : ℕ) (x text : List ℕ) : Reply → Type 0 where
  is_not_written : ((es : List Sides) → Splits text es → ⊥) → after ≡ before → IsReplyToRooting old before after place x text (refused command)
  is_not_one : {es : List Sides} → Splits text es → length es ≢ 1 → after ≡ before → IsReplyToRooting old before after place x text (refused command)
  is_not_read : {es : List Sides} {reason : Reason} → Splits text es → length es ≡ 1 → IsNoEquation (all_placed place es) reason → after ≡ before → IsReplyToRooting old before after place x text (refused reason)
  is_read : {es : List Sides} {e : Equation} {reply : Reply} → Splits text es → AllZip ReadsEquation (all_placed place es) (e ∷ []) → IsReplyToRoots x (values old.table (trees old)) (free_bytes old) e before after reply
      → IsReplyToRooting old before after place x text reply
