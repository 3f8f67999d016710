-- Lists of terms are those of the sums, multiples, products and powers of the polynomials whose lists they were made from.
use Rattle.expansions.proofs.Shared.{ℕ, ◌≤◌, List, [], ◌++◌, length, refl, Fraction, AreSame, Polynomial, product, raised, scaled, AreNames, IsListOf, IsWithin, AreTermsOf, Term}
use Rattle.expansions.proofs.{SameCoefficients.{raised_same, product_both, same_append, same_is, same_refl, same_trans, scaled_same}, NamedPolynomials.{named_append, named_product, named_raised}}
use Rattle.expansions.proofs.NamedPolynomials.{named_same, named_scaled, names_append, names_product, names_raised, names_scaled, terms_wide}
use Rattle.polynomials.proofs.Worth.{product_both as product_values, raised_same as raised_values, same_append as append_values, same_is as values_is, same_trans as values_trans}
use Rattle.polynomials.proofs.Worth.{scaled_same as scaled_values}
use Rattle.polynomials.specs.{Polynomials.{Polynomial as Packed, AreSame as AreSameValues, product as packed_product, raised as packed_raised, scaled as packed_scaled}, Terms.{polynomial_of}}

-- ---- the exponents of the names

within_as : {ns : List (List ℕ)} {v w : Packed} → AreSameValues v w → IsWithin ns w → IsWithin ns v
within_as e h = record { alike = h.alike; named = h.named; same = values_trans e h.same }

within_sum : {ns : List (List ℕ)} {v w : Packed} → IsWithin ns v → IsWithin ns w → IsWithin ns (v ++ w)
within_sum {ns} h k = record { alike = h.alike ++ k.alike; named = names_append ns h.alike k.alike h.named k.named; same = append_values h.same k.same }

within_scaled : {ns : List (List ℕ)} (c : Fraction) {v : Packed} → IsWithin ns v → IsWithin ns (packed_scaled c v)
within_scaled {ns} c h = record { alike = packed_scaled c h.alike; named = names_scaled ns c h.alike h.named; same = scaled_values c h.same }

within_product : {ns : List (List ℕ)} {v w : Packed} → IsWithin ns v → IsWithin ns w → IsWithin ns (packed_product v w)
within_product {ns} h k = record { alike = packed_product h.alike k.alike; named = names_product ns h.alike k.alike h.named k.named; same = product_values h.same k.same }

within_raised : {ns : List (List ℕ)} {v : Packed} (n : ℕ) → IsWithin ns v → IsWithin ns (packed_raised v n)
within_raised {ns} n h = record { alike = packed_raised h.alike n; named = names_raised ns h.alike n h.named; same = raised_values n h.same }

-- ---- lists

-- of 0
pub list_none : (ns : List (List ℕ)) → AreNames ns → length ns ≤ 8 → IsListOf ns [] []
list_none ns h l = record { names = h; few = l; normal = tt; within = record { alike = []; named = tt; same = values_is refl }; same = same_refl [] }

-- one with a polynomial's coefficients, for a polynomial with the same ones
pub list_as : {ns : List (List ℕ)} {ts : List Term} {v w : Polynomial} → AreSame v w → IsListOf ns ts v → IsListOf ns ts w
list_as e h = record { names = h.names; few = h.few; normal = h.normal; within = h.within; same = same_trans h.same e }

-- a sum with a multiple
pub list_sum : {ns : List (List ℕ)} {a b c : List Term} {v w : Polynomial} (q : Fraction) → IsListOf ns a v → IsListOf ns b w
    → AreTermsOf (polynomial_of a ++ packed_scaled q (polynomial_of b)) c → IsListOf ns c (v ++ scaled q w)
list_sum {ns} {a} {b} q h k t = record {
  names = h.names;
  few = h.few;
  normal = t.normal;
  within = within_as t.same (within_sum h.within (within_scaled q k.within));
  same = same_trans (named_same ns t.same) (same_trans (same_is (named_append ns (polynomial_of a) (packed_scaled q (polynomial_of b))))
      (same_append h.same (same_trans (same_is (named_scaled ns q (polynomial_of b))) (scaled_same q k.same))));
}

pub list_product : {ns : List (List ℕ)} {a b c : List Term} {v w : Polynomial} → IsListOf ns a v → IsListOf ns b w → AreTermsOf (packed_product (polynomial_of a) (polynomial_of b)) c
    → IsListOf ns c (product v w)
list_product {ns} {a} {b} h k t = record {
  names = h.names;
  few = h.few;
  normal = t.normal;
  within = within_as t.same (within_product h.within k.within);
  same = same_trans (named_same ns t.same)
      (same_trans (same_is (named_product ns h.names (polynomial_of a) (polynomial_of b) (terms_wide ns a) (terms_wide ns b))) (product_both h.same k.same));
}

pub list_power : {ns : List (List ℕ)} {a c : List Term} {v : Polynomial} (n : ℕ) → IsListOf ns a v → AreTermsOf (packed_raised (polynomial_of a) n) c → IsListOf ns c (raised v n)
list_power {ns} {a} n h t = record {
  names = h.names;
  few = h.few;
  normal = t.normal;
  within = within_as t.same (within_raised n h.within);
  same = same_trans (named_same ns t.same) (same_trans (same_is (named_raised ns h.names (polynomial_of a) n (terms_wide ns a))) (raised_same n h.same));
}
