-- The reader: a function on tokens, with a bound on its steps.
use Rattle.calc_language.proofs.Shared.{ℕ, zero, suc, List, ◌∷◌, true, false, Some, None, SoFar, single, as_tree, plus_term, minus_term, times_factor, over_factor, joined_tree, joins}
use Rattle.calc_language.proofs.Shared.{name, Token, literal, undef_mark, root_mark, plus_mark, minus_mark, times_mark, slash_mark, caret_mark, left_mark, right_mark, Tree, num, symbol, undef}
use Rattle.calc_language.proofs.Shared.{power, root, neg, Trees, none, more, append}
use Rattle.std.specs.Prelude.{Option}

abbrev pub Read : Type 0 → Type 0
Read A = Option (A × List Token)

abbrev pub andthen : {A B : Type 0} → Read A → (A → List Token → Read B) → Read B
andthen None f = None
andthen (Some p) f = f p.0 p.1

abbrev pub closed : Tree → List Token → Read Tree
closed t (right_mark ∷ ts) = Some (t, ts)
closed t _ = None

unfoldable mutual
  pub sum_at : ℕ → List Token → Read SoFar
  sum_at zero ts = None
  sum_at (suc k) ts = andthen (signed_at k ts) (λ t r. terms_at k (single t) r)

  pub terms_at : ℕ → SoFar → List Token → Read SoFar
  terms_at zero s ts = None
  terms_at (suc k) s (plus_mark ∷ ts) = andthen (signed_at k ts) (λ u r. terms_at k (plus_term s u) r)
  terms_at (suc k) s (minus_mark ∷ ts) = andthen (signed_at k ts) (λ u r. terms_at k (minus_term s u) r)
  terms_at (suc k) s ts = Some (s, ts)

  pub signed_at : ℕ → List Token → Read Tree
  signed_at zero ts = None
  signed_at (suc k) (minus_mark ∷ ts) = andthen (signed_at k ts) (λ t r. Some (neg t, r))
  signed_at (suc k) ts = andthen (product_at k ts) (λ s r. Some (as_tree s, r))

  pub product_at : ℕ → List Token → Read SoFar
  product_at zero ts = None
  product_at (suc k) ts = andthen (joined_at k ts) (λ t r. factors_at k (single t) r)

  pub factors_at : ℕ → SoFar → List Token → Read SoFar
  factors_at zero s ts = None
  factors_at (suc k) s (times_mark ∷ ts) = andthen (right_at k ts) (λ u r. factors_at k (times_factor s u) r)
  factors_at (suc k) s (slash_mark ∷ ts) = andthen (right_at k ts) (λ u r. factors_at k (over_factor s u) r)
  factors_at (suc k) s ts = Some (s, ts)

  pub right_at : ℕ → List Token → Read Tree
  right_at zero ts = None
  right_at (suc k) (minus_mark ∷ ts) = andthen (right_at k ts) (λ t r. Some (neg t, r))
  right_at (suc k) ts = joined_at k ts

  pub joined_at : ℕ → List Token → Read Tree
  joined_at zero ts = None
  joined_at (suc k) ts = andthen (power_at k ts) (λ t r. powers_at k (more t none) r)

  pub powers_at : ℕ → Trees → List Token → Read Tree
  powers_at zero taken ts = None
  powers_at (suc k) taken ts = elim (joins ts) [ true ↦ andthen (power_at k ts) (λ u r. powers_at k (append taken (more u none)) r) | false ↦ Some (joined_tree taken, ts) ]

  pub power_at : ℕ → List Token → Read Tree
  power_at zero ts = None
  power_at (suc k) ts = andthen (primary_at k ts) (λ t r. raise_at k t r)

  pub raise_at : ℕ → Tree → List Token → Read Tree
  raise_at zero t ts = None
  raise_at (suc k) t (caret_mark ∷ ts) = andthen (exponent_at k ts) (λ e r. Some (power t e, r))
  raise_at (suc k) t ts = Some (t, ts)

  pub exponent_at : ℕ → List Token → Read Tree
  exponent_at zero ts = None
  exponent_at (suc k) (minus_mark ∷ ts) = andthen (exponent_at k ts) (λ t r. Some (neg t, r))
  exponent_at (suc k) ts = power_at k ts

  pub primary_at : ℕ → List Token → Read Tree
  primary_at zero ts = None
  primary_at (suc k) (literal q ∷ ts) = Some (num q, ts)
  primary_at (suc k) (name x ∷ ts) = Some (symbol x, ts)
  primary_at (suc k) (undef_mark ∷ ts) = Some (undef, ts)
  primary_at (suc k) (left_mark ∷ ts) = andthen (sum_at k ts) (λ s r. closed (as_tree s) r)
  primary_at (suc k) (root_mark ∷ left_mark ∷ ts) = andthen (sum_at k ts) (λ s r. closed (root (as_tree s)) r)
  primary_at (suc k) ts = None
