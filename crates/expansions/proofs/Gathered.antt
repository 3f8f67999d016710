-- Polynomials with some summands added up, and in another order: they have the same coefficients, and are no larger.
use Rattle.expansions.proofs.Shared.{◌≡◌, ℕ, ◌≤◌, ◌<◌, List, [], ◌∷◌, ◌++◌, length, sym, ◌∙◌, subst, arith, append_assoc, length-append, Tree, normal, AreWhole, HaveExponents, IsHeld, mass, AreNamed}
use Rattle.expansions.proofs.{Shared.{HasFewTerms, IsNamed, Polynomial, product, polynomial_of, AreSame, IsExpanded, IsSumOf}, AllMonomials.{append_all, normal_all}}
use Rattle.expansions.proofs.{TermPolynomials.{sum_polynomial_is, normal_or_none}, Masses.{exponents_append, exponents_left, exponents_normal, exponents_right, mass_append, normal_mass, normal_whole}}
use Rattle.expansions.proofs.{Masses.{whole_append, whole_left, whole_right}, Names.{all_named, are_named}, NormalForms.{normal_coefficient, normal_is, one_normal}, SameCoefficients.{product_both}}
use Rattle.expansions.proofs.{SameCoefficients.{product_nil, same_append, same_normal, same_refl, same_turned}, TermBytes.{normal_length}}

pub record IsGathered (v w : Polynomial) : Type 0 where
  pub same : AreSame w v
  pub wholes : (d : ℕ) → 0 < d → AreWhole d v → AreWhole d w
  pub masses : (d : ℕ) → 0 < d → AreWhole d v → mass d w ≤ mass d v
  pub exponents : (n : ℕ) → HaveExponents n v → HaveExponents n w
  pub named : (ns : List (List ℕ)) → AreNamed ns v → AreNamed ns w
  pub few : length w ≤ length v

pub gathered_refl : (v : Polynomial) → IsGathered v v
gathered_refl v = record { same = same_refl v; wholes = λ d z h. h; masses = λ d z h. omega arith; exponents = λ n h. h; named = λ ns h. h; few = omega arith }

pub gathered_is : {v w : Polynomial} → v ≡ w → IsGathered v w
gathered_is {v} e = subst (IsGathered v) e (gathered_refl v)

pub gathered_trans : {u v w : Polynomial} → IsGathered u v → IsGathered v w → IsGathered u w
gathered_trans h k = grind arith

-- ---- two parts

named_append : (ns : List (List ℕ)) (v w : Polynomial) → AreNamed ns v → AreNamed ns w → AreNamed ns (v ++ w)
named_append ns v w h k = are_named ns (v ++ w) (append_all (IsNamed ns) v w (all_named ns v h) (all_named ns w k))

named_right : (ns : List (List ℕ)) (v w : Polynomial) → AreNamed ns (v ++ w) → AreNamed ns w
named_right ns [] w h = h
named_right ns (s ∷ v) w h = named_right ns v w h.1

named_left : (ns : List (List ℕ)) (v w : Polynomial) → AreNamed ns (v ++ w) → AreNamed ns v
named_left ns [] w h = tt
named_left ns (s ∷ v) w h = (h.0, named_left ns v w h.1)

pub gathered_append : {v x w y : Polynomial} → IsGathered v x → IsGathered w y → IsGathered (v ++ w) (x ++ y)
gathered_append {v} {x} {w} {y} h k = record {
  same = same_append h.same k.same;
  wholes = λ d z a. whole_append d x y (h.wholes d z (whole_left d v w a)) (k.wholes d z (whole_right d v w a));
  masses = λ d z a. omega (arith, mass_append d v w, mass_append d x y, h.masses d z (whole_left d v w a), k.masses d z (whole_right d v w a));
  exponents = λ n a. exponents_append n x y (h.exponents n (exponents_left n v w a)) (k.exponents n (exponents_right n v w a));
  named = λ ns a. named_append ns x y (h.named ns (named_left ns v w a)) (k.named ns (named_right ns v w a));
  few = omega (arith, length-append v w, length-append x y, h.few, k.few);
}

gathered_turned : (v w : Polynomial) → IsGathered (v ++ w) (w ++ v)
gathered_turned v w = record {
  same = same_turned w v;
  wholes = λ d z a. whole_append d w v (whole_right d v w a) (whole_left d v w a);
  masses = λ d z a. omega (arith, mass_append d v w, mass_append d w v);
  exponents = λ n a. exponents_append n w v (exponents_right n v w a) (exponents_left n v w a);
  named = λ ns a. named_append ns w v (named_right ns v w a) (named_left ns v w a);
  few = omega (arith, length-append v w, length-append w v);
}

-- the second of three in front
pub gathered_second : (u v w : Polynomial) → IsGathered (u ++ (v ++ w)) (v ++ (u ++ w))
gathered_second u v w = gathered_trans (gathered_is (sym (append_assoc u v w))) (gathered_trans (gathered_append (gathered_turned u v) (gathered_refl w)) (gathered_is (append_assoc v u w)))

-- ---- normal polynomials

pub gathered_normal : (v : Polynomial) → IsGathered v (normal v)
gathered_normal v = grind (arith, same_normal, normal_whole, normal_mass, exponents_normal, are_named, normal_all, all_named, normal_length)

pub gathered_sum : {v : Polynomial} {t : Tree} → IsSumOf v t → IsGathered v (polynomial_of t)
gathered_sum {v} s =
    subst (IsGathered v) (sym (sum_polynomial_is s.sum ∙ one_normal s.sum.summands (normal v) s.sum.normal (normal_is v) (λ m. s.same.at m ∙ sym (normal_coefficient m v)))) (gathered_normal v)

-- all of it cancels
gathered_none : {v w : Polynomial} → w ≡ [] → AreSame w v → IsGathered v w
gathered_none e h = grind arith

-- the products of the terms of expanded trees, of which 0 has none
pub gathered_products : (t u : Tree) → IsExpanded t → IsExpanded u → IsGathered (product (polynomial_of t) (polynomial_of u)) (product (normal (polynomial_of t)) (normal (polynomial_of u)))
gathered_products t u e f = grind (arith, normal_or_none, product_both, same_normal, gathered_is, gathered_none, product_nil)

-- ---- how large they are

pub gathered_held : {v w : Polynomial} {h l : ℕ} → IsGathered v w → IsHeld v h l → IsHeld w h l
gathered_held g x = grind arith

pub gathered_few : {v w : Polynomial} {ns : List (List ℕ)} {n : ℕ} → IsGathered v w → HasFewTerms ns n v → HasFewTerms ns n w
gathered_few {ns = ns} g x = record { named = g.named ns x.named; few = omega (arith, g.few, x.few) }

pub few_behind : (v w : Polynomial) {ns : List (List ℕ)} {n : ℕ} → HasFewTerms ns n (v ++ w) → HasFewTerms ns n w
few_behind v w {ns} x = record { named = named_right ns v w x.named; few = omega (arith, x.few, length-append v w) }
