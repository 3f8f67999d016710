-- Lemmas on trees that hold no name but one.
use Rattle.std.proofs.Common.{◌≡◌, ◌≢◌, ◌∙◌, ◌⊎◌, inl, inr, ℕ, ◌<◌, List, [], ◌∷◌, Bool, true, false, refl, length, get_or, sym, arith}
use Rattle.std.specs.{Prelude.{Contains, IsTrue, ◌↔◌}, Str.{bytes_eq}}
use Rattle.calc_algebra.proofs.MeaningLaws.{at_front, none_in}
use Rattle.calc_terms.specs.{Leaf.{name_of}, Trees.{Tree, names}}
use Rattle.linear_solve.proofs.Shared.{bytes_eq-Decides}
use Rattle.linear_solve.proofs.RisingLemmas.{rises_distinct}
use Rattle.linear_solve.specs.{Equations.{AreDistinct, Equation}, Listed.{names_listed}, RisingNames.{AreNamesOf, HoldOverSixNames, IsNameIn}, declared.side_names.Listed.{Listed}}
use Rattle.calc_session.specs.{Rooted.{AreOnly}, Rooting.{HoldsOnly}}

pub never_both : (b : Bool) → b ≡ true → b ≡ false → ⊥
never_both true e f = cc
never_both false e f = cc

-- the equation whose sides are both the tree
abbrev pub with_itself : Tree → List Equation
with_itself t = record { left = t; right = t } ∷ []

named : (t : Tree) (y : List ℕ) → IsNameIn (with_itself t) y → Contains (names t) y
named t y (inl (inl c)) = c
named t y (inl (inr c)) = c
named t y (inr h) = absurd h

module _ (x : List ℕ) where
  pub only_one : (ns : List Listed) (n : Listed) (b : Bool) → length ns ≡ 1 → b ≡ bytes_eq (name_of (get_or ns 0 n).name) x → IsTrue b ↔ AreOnly x (names_listed ns)
  only_one [] n b e d = absurd (omega (arith, e))
  only_one (l ∷ []) n b e d = (λ h. (bytes_eq-Decides (name_of l.name) x).0 (sym d ∙ h), λ s. d ∙ (bytes_eq-Decides (name_of l.name) x).1 s)
  only_one (l ∷ m ∷ ns) n b e d = absurd (omega (arith, e))

  among : (xs : List (List ℕ)) (y : List ℕ) → AreOnly x xs → Contains xs y → y ≡ x
  among [] y o c = absurd (none_in c)
  among (z ∷ []) y o c = by (at_front z [] y c)
    where
      by : (z ≡ y) ⊎ Contains [] y → y ≡ x
      by (inl e) = sym e ∙ o
      by (inr d) = absurd (none_in d)
  among (z ∷ w ∷ xs) y o c = absurd o

  -- of two names that differ one is another
  another : {A : Type 0} (y z : List ℕ) → y ≢ z → (y ≢ x → A) → (z ≢ x → A) → A
  another {A} y z apart f g = by (bytes_eq y x) refl
    where
      by : (b : Bool) → bytes_eq y x ≡ b → A
      by true e = g (λ h. apart ((bytes_eq-Decides y x).0 e ∙ sym h))
      by false e = f (λ h. never_both (bytes_eq y x) ((bytes_eq-Decides y x).1 h) e)

  -- one of the tree's names is another
  abbrev pub HoldsAnother : Tree → Type 0
  HoldsAnother t = (y : List ℕ) × Contains (names t) y × (y ≢ x)

  module _ (t : Tree) where
    pub holds_only : (xs : List (List ℕ)) → AreNamesOf (with_itself t) xs → AreOnly x xs → HoldsOnly x t
    holds_only xs h o y c = among xs y o ((h.all y).1 (inl (inl c)))

    of_two : (y z : List ℕ) (xs : List (List ℕ)) → AreDistinct (y ∷ z ∷ xs) → ((w : List ℕ) → Contains (y ∷ z ∷ xs) w → IsNameIn (with_itself t) w) → HoldsAnother t
    of_two y z xs d held = another y z (λ e. d.0 (0, omega arith, sym e)) (λ h. (y, named t y (held y (0, omega arith, refl)), h)) (λ h. (z, named t z (held z (1, omega arith, refl)), h))

    pub holds_another : (xs : List (List ℕ)) → AreNamesOf (with_itself t) xs → ¬ (AreOnly x xs) → HoldsAnother t
    holds_another [] h o = absurd (o tt)
    holds_another (y ∷ []) h o = (y, named t y ((h.all y).0 (0, omega arith, refl)), o)
    holds_another (y ∷ z ∷ xs) h o = of_two y z xs (rises_distinct (y ∷ z ∷ xs) h.rising) (λ w c. (h.all w).0 c)

    pub holds_over_six : HoldOverSixNames (with_itself t) → HoldsAnother t
    holds_over_six h = by h.some h.distinct h.many h.held
      where
        by : (xs : List (List ℕ)) → AreDistinct xs → 6 < length xs → ((w : List ℕ) → Contains xs w → IsNameIn (with_itself t) w) → HoldsAnother t
        by [] d m k = absurd (omega (arith, m))
        by (y ∷ []) d m k = absurd (omega (arith, m))
        by (y ∷ z ∷ xs) d m k = of_two y z xs d k
