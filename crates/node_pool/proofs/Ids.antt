-- Identifiers of lists of nodes.
use Rattle.node_pool.proofs.Shared.{arith, Bool, List, [], cond, eqb, false, refl, sym, true, ℕ, ◌++◌, ◌∷◌, ◌≡◌, eqb-false, eqb-true, ne_eqb, Node, AreDistinct, has}

pub has-append : (i : ℕ) (a b : List Node) → has i (a ++ b) ≡ cond (has i a) true (has i b)
has-append i [] b = refl
has-append i (n ∷ a) b = grind (arith, has-append i a b)

-- no identifier stands in both
abbrev pub AreApart : List Node → List Node → Type 0
AreApart [] b = Unit {0}
AreApart (n ∷ a) b = (has n.id b ≡ false) × AreApart a b

pub or_is_false : (x y : Bool) → x ≡ false → y ≡ false → cond x true y ≡ false
or_is_false x y h k = rw (h, k) refl

pub AreDistinct-append : (a b : List Node) → AreDistinct a → AreDistinct b → AreApart a b → AreDistinct (a ++ b)
AreDistinct-append [] b h k p = k
AreDistinct-append (n ∷ a) b h k p = grind (arith, has-append, AreDistinct-append a b h.1 k p.1)

pub AreDistinct-parts : (a b : List Node) → AreDistinct (a ++ b) → AreDistinct a × AreDistinct b × AreApart a b
AreDistinct-parts [] b h = (tt, h, tt)
AreDistinct-parts (n ∷ a) b h = grind (arith, has-append, AreDistinct-parts a b h.1)

pub eqb_sym : (a b : ℕ) → eqb a b ≡ false → eqb b a ≡ false
eqb_sym a b h = ne_eqb b a (λ e. eqb-false a b h (sym e))

AreApart-nil : (a : List Node) → AreApart a []
AreApart-nil [] = tt
AreApart-nil (n ∷ a) = (refl, AreApart-nil a)

AreApart-cons : (a b : List Node) (n : Node) → has n.id a ≡ false → AreApart a b → AreApart a (n ∷ b)
AreApart-cons [] b n h p = tt
AreApart-cons (m ∷ a) b n h p = grind (arith, eqb_sym, AreApart-cons a b n)

pub AreApart-sym : (a b : List Node) → AreApart a b → AreApart b a
AreApart-sym [] b p = AreApart-nil b
AreApart-sym (n ∷ a) b p = AreApart-cons b a n p.0 (AreApart-sym a b p.1)

pub AreApart-append : (a b c : List Node) → AreApart a b → AreApart a c → AreApart a (b ++ c)
AreApart-append [] b c p q = tt
AreApart-append (n ∷ a) b c p q = grind (arith, has-append, AreApart-append a b c p.1 q.1)

pub AreApart-parts : (a b c : List Node) → AreApart a (b ++ c) → AreApart a b × AreApart a c
AreApart-parts [] b c p = (tt, tt)
AreApart-parts (n ∷ a) b c p = grind (arith, has-append, AreApart-parts a b c p.1)

pub not_both : (i : ℕ) (a b : List Node) → AreApart a b → has i a ≡ true → has i b ≡ false
not_both i [] b p h = absurd cc
not_both i (n ∷ a) b p h = grind (arith, eqb-true, not_both i a b p.1)
