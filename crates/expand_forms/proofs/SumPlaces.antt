-- A term more, and a term with another coefficient, in a normal polynomial.
use Rattle.expand_forms.proofs.Shared.{◌≡◌, ◌≢◌, ◌≤◌, ◌<◌, ℕ, zero, suc, [], ◌∷◌, Bool, true, false, refl, sym, ap, ◌∙◌, arith, if◌then◌else◌, Less, product_tree, tree_cmp, tree_chain, zero_plus}
use Rattle.expand_forms.proofs.Shared.{Fraction, plus, plus_assoc, plus_comm, zero_fraction, Tree, none, more, count, IsBeforeAll, IsNormal, monomial_cmp, term_tree, term_trees, AreMonomials}
use Rattle.expand_forms.proofs.Shared.{IsMonomial, Monomial, Polynomial, Summand, coefficient_at, is_same_monomial, summand, AreSame, IsPlace, factors_in, term_cmp, removed, inserted, nth}
use Rattle.expansions.proofs.{MonomialTrees.{turned}, NormalForms.{before_more}, SameCoefficients.{same_cons, same_refl, same_second, same_trans}, TermPolynomials.{term_factors}}

-- ---- terms and summands

pub term_order : (s t : Summand) → term_cmp (term_tree s) (term_tree t) ≡ monomial_cmp s.monomial t.monomial
term_order s t = λ i. tree_cmp (product_tree (term_factors s i)) (product_tree (term_factors t i))

-- the summand at a place
pub record IsAt (n : ℕ) (s : Summand) (v : Polynomial) : Type 0 where
  pub term : nth n (term_trees v) ≡ term_tree s
  pub nonzero : IsNormal v → s.coefficient ≢ zero_fraction
  pub monomial : AreMonomials v → IsMonomial s.monomial

pub summand_at : (n : ℕ) (v : Polynomial) → n < count (term_trees v) → (s : Summand) × IsAt n s v
summand_at n [] l = absurd (omega arith)
summand_at zero (s ∷ v) l = (s, record { term = refl; nonzero = λ h. h.0; monomial = λ h. h.0 })
summand_at (suc n) (s ∷ v) l =
    let (t, a) = summand_at n v (omega arith) in
    (t, record { term = a.term; nonzero = λ h. a.nonzero h.2; monomial = λ h. a.monomial h.1 })

-- ---- a term more

abbrev pub put_at : ℕ → Summand → Polynomial → Polynomial
put_at zero s v = s ∷ v
put_at (suc n) s [] = s ∷ []
put_at (suc n) s (t ∷ v) = t ∷ put_at n s v

pub put_trees : (n : ℕ) (s : Summand) (v : Polynomial) → term_trees (put_at n s v) ≡ inserted n (more (term_tree s) none) (term_trees v)
put_trees zero s v = refl
put_trees (suc n) s [] = refl
put_trees (suc n) s (t ∷ v) = ap (more (term_tree t)) (put_trees n s v)

pub put_monomials : (n : ℕ) (s : Summand) (v : Polynomial) → IsMonomial s.monomial → AreMonomials v → AreMonomials (put_at n s v)
put_monomials zero s v h k = (h, k)
put_monomials (suc n) s [] h k = (h, tt)
put_monomials (suc n) s (t ∷ v) h k = (k.0, put_monomials n s v h k.1)

pub put_same : (n : ℕ) (s : Summand) (v : Polynomial) → AreSame (put_at n s v) (s ∷ v)
put_same zero s v = same_refl (s ∷ v)
put_same (suc n) s [] = same_refl (s ∷ [])
put_same (suc n) s (t ∷ v) = same_trans (same_cons t (put_same n s v)) (same_second (t ∷ []) (s ∷ []) v)

put_before : (k : Monomial) (n : ℕ) (s : Summand) (v : Polynomial) → monomial_cmp k s.monomial ≡ Less → IsBeforeAll k v → IsBeforeAll k (put_at n s v)
put_before k zero s v l h = (l, h)
put_before k (suc n) s [] l h = (l, tt)
put_before k (suc n) s (t ∷ v) l h = (h.0, put_before k n s v l h.1)

pub put_normal : (n : ℕ) (s : Summand) (v : Polynomial) → IsNormal v → s.coefficient ≢ zero_fraction → IsPlace n (term_tree s) (term_trees v) → IsNormal (put_at n s v)
put_normal zero s [] h z p = (z, tt, tt)
put_normal zero s (t ∷ v) h z p =
    let l = turned t.monomial s.monomial (sym (term_order t s) ∙ p.above (omega arith)) in
    (z, (l, before_more s.monomial t.monomial v l h.1), h)
put_normal (suc n) s [] h z p = (z, tt, tt)
put_normal (suc n) s (t ∷ v) h z p =
    let l : monomial_cmp t.monomial s.monomial ≡ Less = sym (term_order t s) ∙ p.below 0 (omega arith) in
    let q : IsPlace n (term_tree s) (term_trees v) = record {
      within = omega (arith, p.within);
      below = λ j i. p.below (suc j) (omega arith);
      above = λ i. p.above (omega arith);
    } in
    (h.0, put_before t.monomial n s v l h.1, put_normal n s v h.2 z q)

-- ---- a term less

abbrev pub drop_at : ℕ → Polynomial → Polynomial
drop_at n [] = []
drop_at zero (t ∷ v) = v
drop_at (suc n) (t ∷ v) = t ∷ drop_at n v

pub drop_trees : (n : ℕ) (v : Polynomial) → term_trees (drop_at n v) ≡ removed n (term_trees v)
drop_trees n [] = refl
drop_trees zero (t ∷ v) = refl
drop_trees (suc n) (t ∷ v) = ap (more (term_tree t)) (drop_trees n v)

pub drop_monomials : (n : ℕ) (v : Polynomial) → AreMonomials v → AreMonomials (drop_at n v)
drop_monomials n [] h = tt
drop_monomials zero (t ∷ v) h = h.1
drop_monomials (suc n) (t ∷ v) h = (h.0, drop_monomials n v h.1)

drop_before : (k : Monomial) (n : ℕ) (v : Polynomial) → IsBeforeAll k v → IsBeforeAll k (drop_at n v)
drop_before k n [] h = tt
drop_before k zero (t ∷ v) h = h.1
drop_before k (suc n) (t ∷ v) h = (h.0, drop_before k n v h.1)

pub drop_normal : (n : ℕ) (v : Polynomial) → IsNormal v → IsNormal (drop_at n v)
drop_normal n [] h = tt
drop_normal zero (t ∷ v) h = h.2
drop_normal (suc n) (t ∷ v) h = (h.0, drop_before t.monomial n v h.1, drop_normal n v h.2)

-- ---- another coefficient

-- the term at a place with the coefficient q
abbrev pub set_at : ℕ → Fraction → Polynomial → Polynomial
set_at n q [] = []
set_at zero q (t ∷ v) = summand q t.monomial ∷ v
set_at (suc n) q (t ∷ v) = t ∷ set_at n q v

-- ... where it has the monomial m and the coefficient p
pub record IsFound (n : ℕ) (p : Fraction) (m : Monomial) (v : Polynomial) : Type 0 where
  pub set-trees : (q : Fraction) → term_trees (set_at n q v) ≡ inserted n (more (term_tree (summand q m)) none) (removed n (term_trees v))
  pub set-same : (q : Fraction) → AreSame (set_at n (plus p q) v) (summand q m ∷ v)
  pub drop-same : (q : Fraction) → plus p q ≡ zero_fraction → AreSame (drop_at n v) (summand q m ∷ v)

two_added : (b : Bool) (p q x : Fraction) → (if b then plus (plus p q) x else x) ≡ (if b then plus q (if b then plus p x else x) else (if b then plus p x else x))
two_added true p q x = ap (λ y. plus y x) (plus_comm p q) ∙ plus_assoc q p x
two_added false p q x = refl

two_gone : (b : Bool) (p q x : Fraction) → plus p q ≡ zero_fraction → x ≡ (if b then plus q (if b then plus p x else x) else (if b then plus p x else x))
two_gone true p q x e = sym (zero_plus x) ∙ ap (λ y. plus y x) (sym e) ∙ two_added true p q x
two_gone false p q x e = refl

pub found : (n : ℕ) (v : Polynomial) → n < count (term_trees v) → (s : Summand) × IsAt n s v × IsFound n s.coefficient s.monomial v
found n [] l = absurd (omega arith)
found zero (t ∷ v) l = (
  t,
  record { term = refl; nonzero = λ h. h.0; monomial = λ h. h.0 },
  record {
    set-trees = λ q. refl;
    set-same = λ q. record { at = λ m. two_added (is_same_monomial t.monomial m) t.coefficient q (coefficient_at m v) };
    drop-same = λ q e. record { at = λ m. two_gone (is_same_monomial t.monomial m) t.coefficient q (coefficient_at m v) e };
  },
)
found (suc n) (t ∷ v) l =
    let (s, a, f) = found n v (omega arith) in (
      s,
      record { term = a.term; nonzero = λ h. a.nonzero h.2; monomial = λ h. a.monomial h.1 },
      record {
        set-trees = λ q. ap (more (term_tree t)) (f.set-trees q);
        set-same = λ q. same_trans (same_cons t (f.set-same q)) (same_second (t ∷ []) (summand q s.monomial ∷ []) v);
        drop-same = λ q e. same_trans (same_cons t (f.drop-same q e)) (same_second (t ∷ []) (summand q s.monomial ∷ []) v);
      },
    )

set_before : (k : Monomial) (n : ℕ) (q : Fraction) (v : Polynomial) → IsBeforeAll k v → IsBeforeAll k (set_at n q v)
set_before k n q [] h = tt
set_before k zero q (t ∷ v) h = h
set_before k (suc n) q (t ∷ v) h = (h.0, set_before k n q v h.1)

pub set_normal : (n : ℕ) (q : Fraction) (v : Polynomial) → q ≢ zero_fraction → IsNormal v → IsNormal (set_at n q v)
set_normal n q [] z h = tt
set_normal zero q (t ∷ v) z h = (z, h.1, h.2)
set_normal (suc n) q (t ∷ v) z h = (h.0, set_before t.monomial n q v h.1, set_normal n q v z h.2)

pub set_monomials : (n : ℕ) (q : Fraction) (v : Polynomial) → AreMonomials v → AreMonomials (set_at n q v)
set_monomials n q [] h = tt
set_monomials zero q (t ∷ v) h = h
set_monomials (suc n) q (t ∷ v) h = (h.0, set_monomials n q v h.1)

-- ---- the order of a normal polynomial's terms

before_nth : (t : Summand) (v : Polynomial) (n : ℕ) → IsBeforeAll t.monomial v → n < count (term_trees v) → term_cmp (term_tree t) (nth n (term_trees v)) ≡ Less
before_nth t [] n h l = absurd (omega arith)
before_nth t (s ∷ v) zero h l = term_order t s ∙ h.0
before_nth t (s ∷ v) (suc n) h l = before_nth t v n h.1 (omega arith)

-- terms before one that is below s are below s
pub below_up_to : (v : Polynomial) (j n : ℕ) (u : Tree) → IsNormal v → j ≤ n → n < count (term_trees v) → term_cmp (nth n (term_trees v)) u ≡ Less → term_cmp (nth j (term_trees v)) u ≡ Less
below_up_to [] j n u h i l e = absurd (omega arith)
below_up_to (t ∷ v) zero zero u h i l e = e
below_up_to (t ∷ v) zero (suc n) u h i l e =
    tree_chain (product_tree (factors_in (term_tree t))) (product_tree (factors_in (nth n (term_trees v)))) (product_tree (factors_in u)) (before_nth t v n h.1 (omega arith)) e
below_up_to (t ∷ v) (suc j) zero u h i l e = absurd (omega arith)
below_up_to (t ∷ v) (suc j) (suc n) u h i l e = below_up_to v j n u h.2 (omega arith) (omega arith) e
