-- More steps read the same.
use Rattle.calc_language.proofs.{Shared.{ℕ, zero, suc, ◌+◌, ◌≡◌, List, Some, sym, ap, ◌∙◌, arith, SoFar, single, Token, Tree, Trees, none, more, zero-add, suc-add}, Reader.{Read, andthen, sum_at}}
use Rattle.calc_language.proofs.Reader.{terms_at, signed_at, product_at, factors_at, right_at, joined_at, powers_at, power_at, raise_at, exponent_at, primary_at}

abbrev pub More : {A : Type 0} → Read A → Read A → Type 0
More {A} p q = (y : A × List Token) → p ≡ Some y → q ≡ Some y

andthen_more : {A B : Type 0} (r r' : Read A) (f f' : A → List Token → Read B)
    → More r r' → ((x : A) (ts : List Token) → More (f x ts) (f' x ts)) → More (andthen r f) (andthen r' f')
andthen_more r r' f f' h g = grind arith

pub record Mono (k : ℕ) : Type 0 where
  pub sum : (ts : List Token) → More (sum_at k ts) (sum_at (suc k) ts)
  pub terms : (s : SoFar) (ts : List Token) → More (terms_at k s ts) (terms_at (suc k) s ts)
  pub signed : (ts : List Token) → More (signed_at k ts) (signed_at (suc k) ts)
  pub product : (ts : List Token) → More (product_at k ts) (product_at (suc k) ts)
  pub factors : (s : SoFar) (ts : List Token) → More (factors_at k s ts) (factors_at (suc k) s ts)
  pub right : (ts : List Token) → More (right_at k ts) (right_at (suc k) ts)
  pub joined : (ts : List Token) → More (joined_at k ts) (joined_at (suc k) ts)
  pub powers : (d : Trees) (ts : List Token) → More (powers_at k d ts) (powers_at (suc k) d ts)
  pub power : (ts : List Token) → More (power_at k ts) (power_at (suc k) ts)
  pub raise : (t : Tree) (ts : List Token) → More (raise_at k t ts) (raise_at (suc k) t ts)
  pub exponent : (ts : List Token) → More (exponent_at k ts) (exponent_at (suc k) ts)
  pub primary : (ts : List Token) → More (primary_at k ts) (primary_at (suc k) ts)

module _ (k : ℕ) (m : Mono k) where
  terms_more : (s : SoFar) (ts : List Token) → More (terms_at (suc k) s ts) (terms_at (suc (suc k)) s ts)
  unfolding sum_at
  terms_more s ts = grind arith

  signed_more : (ts : List Token) → More (signed_at (suc k) ts) (signed_at (suc (suc k)) ts)
  unfolding sum_at
  signed_more ts = grind arith

  factors_more : (s : SoFar) (ts : List Token) → More (factors_at (suc k) s ts) (factors_at (suc (suc k)) s ts)
  unfolding sum_at
  factors_more s ts = grind arith

  right_more : (ts : List Token) → More (right_at (suc k) ts) (right_at (suc (suc k)) ts)
  unfolding sum_at
  right_more ts = grind arith

  powers_more : (d : Trees) (ts : List Token) → More (powers_at (suc k) d ts) (powers_at (suc (suc k)) d ts)
  unfolding sum_at
  powers_more d ts = grind arith

  raise_more : (t : Tree) (ts : List Token) → More (raise_at (suc k) t ts) (raise_at (suc (suc k)) t ts)
  unfolding sum_at
  raise_more t ts = grind arith

  exponent_more : (ts : List Token) → More (exponent_at (suc k) ts) (exponent_at (suc (suc k)) ts)
  unfolding sum_at
  exponent_more ts = grind arith

  primary_more : (ts : List Token) → More (primary_at (suc k) ts) (primary_at (suc (suc k)) ts)
  unfolding sum_at
  primary_more ts = grind arith

  mono_next : Mono (suc k)
  unfolding sum_at
  mono_next = record {
    sum = λ ts. andthen_more _ _ _ _ (m.signed ts) (λ t r. m.terms (single t) r);
    terms = terms_more;
    signed = signed_more;
    product = λ ts. andthen_more _ _ _ _ (m.joined ts) (λ t r. m.factors (single t) r);
    factors = factors_more;
    right = right_more;
    joined = λ ts. andthen_more _ _ _ _ (m.power ts) (λ t r. m.powers (more t none) r);
    powers = powers_more;
    power = λ ts. andthen_more _ _ _ _ (m.primary ts) (λ t r. m.raise t r);
    raise = raise_more;
    exponent = exponent_more;
    primary = primary_more;
  }

mono_zero : Mono zero
unfolding sum_at
mono_zero = grind arith

pub mono : (k : ℕ) → Mono k
mono zero = mono_zero
mono (suc k) = mono_next k (mono k)

pub raised_to : {A : Type 0} (p : ℕ → Read A) → ((k : ℕ) → More (p k) (p (suc k))) → (k n : ℕ) → More (p k) (p (n + k))
raised_to p h k zero = λ y e. rw zero-add e
raised_to p h k (suc n) = λ y e. rw suc-add (h (n + k) y (raised_to p h k n y e))

-- two bounds find the same
pub one_answer : {A : Type 0} (p : ℕ → Read A) → ((k : ℕ) → More (p k) (p (suc k))) → (k n : ℕ) (x y : A × List Token) → p k ≡ Some x → p n ≡ Some y → x ≡ y
one_answer p h k n x y e f =
    let a : p (n + k) ≡ Some x = raised_to p h k n x e in
    let b : p (k + n) ≡ Some y = raised_to p h n k y f in
    let c : Some x ≡ Some y = sym a ∙ ap p (omega arith) ∙ b in
    cc
