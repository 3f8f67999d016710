-- Nodes over expanded children that are expanded as values.
use Rattle.expand_forms.proofs.Shared.{◌≡◌, ℕ, List, [], ◌∷◌, subst, true, false, Result, Ok, Err, OnOk, is_err, is_ok, Contains, AreSame, IsMonomial, Tree, names, within_trans, children_of, nth}
use Rattle.expand_forms.proofs.Shared.{Polynomial, product, AreNames, IsListOf, named_polynomial, Term, AllHave, named_monomial, product_both, same_sym, same_trans, product_turned, CanName}
use Rattle.expand_forms.proofs.{ChildRooms.{child_names}, NodeRooms.{nth_names}}
use Rattle.polynomials.specs.{Polynomials.{Polynomial as Packed}, Terms.{polynomial_of as packed_of}}

-- ---- what a test tells

pub passed : {A E : Type 0} {P : Type 0} (r : Result A E) → OnOk r P → is_err r ≡ false → P
passed (Ok x) p e = p
passed (Err x) p e = absurd cc

pub went : {A E : Type 0} {P : Type 0} (r : Result A E) → OnOk r P → is_ok r ≡ true → P
went (Ok x) p e = p
went (Err x) p e = absurd cc

-- ---- products in either order

named_all : (ns : List (List ℕ)) (v : Packed) → AreNames ns → AllHave IsMonomial (named_polynomial ns v)
named_all ns [] h = tt
named_all ns (s ∷ v) h = (named_monomial ns s.monomial h, named_all ns v h)

pub turned_same : {ns : List (List ℕ)} {a b : List Term} {v w : Polynomial} → IsListOf ns a v → IsListOf ns b w → AreSame (product w v) (product v w)
turned_same {ns} {a} {b} h k =
    let p = named_polynomial ns (packed_of a) in
    let q = named_polynomial ns (packed_of b) in
    same_trans (product_both (same_sym k.same) (same_sym h.same)) (same_trans (product_turned p q (named_all ns (packed_of a) h.names) (named_all ns (packed_of b) h.names)).same (product_both h.same k.same))

-- ---- names

-- the names of a child
pub can_name_child : {ns : List (List ℕ)} {t u : Tree} (n : ℕ) → CanName ns t → u ≡ nth n (children_of t) → CanName ns u
can_name_child {ns} {t} {u} n h e = record {
  names = h.names;
  few = h.few;
  all = λ x k. h.all x ((within_trans (child_names t) (nth_names n (children_of t))).name x (subst (λ (v : Tree). Contains (names v) x) e k));
}
