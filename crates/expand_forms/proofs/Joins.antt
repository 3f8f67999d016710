-- A product of terms that is joined to a sum.
use Rattle.expand_forms.proofs.Shared.{◌≡◌, ◌≢◌, ◌≤◌, ◌<◌, ℕ, zero, suc, ◌+◌, [], ◌∷◌, drop, Bool, true, false, refl, sym, ap, ◌∙◌, subst, arith, if◌then◌else◌, Equal, no_zero, zero_is}
use Rattle.expand_forms.proofs.Shared.{not_from_false, Fraction, is_zero_fraction, plus, zero_fraction, Tree, Trees, add, mult, none, more, count, factor_trees, term_tree, term_trees, IsMonomial}
use Rattle.expand_forms.proofs.Shared.{Monomial, Polynomial, Summand, monomial_times, summand, polynomial_of, IsPlace, IsSum, IsSumOf, with_term, HasMonomial, coefficient_in, term_cmp, removed}
use Rattle.expand_forms.proofs.Shared.{Forest, tree_at, State, IsExpression, children_of, inserted, nth, plain, Gives, root_tree, without_root, Stands, forest, given_handed, given_other, given_rest}
use Rattle.expand_forms.proofs.{Shared.{given_root, given_same, given_told, gives_as, seen}, SumPlaces.{IsAt, IsFound, drop_at, drop_monomials, drop_normal, drop_trees, found, put_at, put_monomials}}
use Rattle.expand_forms.proofs.{SumPlaces.{put_normal, put_same, put_trees, set_at, set_monomials, set_normal, term_order}, TermReadings.{beside, sum_children}}
use Rattle.expansions.proofs.{MonomialTrees.{equal_is}, SameCoefficients.{same_is, same_trans}, TermPolynomials.{term_coefficient, term_factors, sum_polynomial_is}}

-- ---- a term that has no partner

pub joined_apart : {t u : Tree} (s : IsSum t) (z : Summand) (n : ℕ) → z.coefficient ≢ zero_fraction → IsMonomial z.monomial → IsPlace n (term_tree z) (children_of t)
    → u ≡ add (inserted n (more (term_tree z) none) (children_of t)) → IsSumOf (z ∷ polynomial_of t) u
joined_apart {t} s z n nonzero monomial place e =
    let c = sum_children s in
    let w = s.summands in
    record {
      sum = record {
        summands = put_at n z w;
        normal = put_normal n z w s.normal nonzero (subst (λ (ts : Trees). IsPlace n (term_tree z) ts) c place);
        monomials = put_monomials n z w monomial s.monomials;
        tree = e ∙ ap (λ (ts : Trees). add (inserted n (more (term_tree z) none) ts)) c ∙ ap add (sym (put_trees n z w));
      };
      same = same_trans (put_same n z w) (same_is (ap (λ (v : Polynomial). z ∷ v) (sym (sum_polynomial_is s))));
    }

-- ---- a term that has one

pub joined_same : {t u : Tree} (s : IsSum t) (z : Summand) (n : ℕ) (q : Fraction) → n < count (children_of t) → term_cmp (nth n (children_of t)) (term_tree z) ≡ Equal
    → q ≡ plus (coefficient_in (nth n (children_of t))) z.coefficient → u ≡ add (with_term n (summand q z.monomial) (children_of t)) → IsSumOf (z ∷ polynomial_of t) u
joined_same {t} {u} s z n q l same sum e =
    let c = sum_children s in
    let w = s.summands in
    let (x, a, f) = found n w (subst (λ (ts : Trees). n < count ts) c l) in
    let term : nth n (children_of t) ≡ term_tree x = ap (nth n) c ∙ a.term in
    let one = equal_is x.monomial z.monomial (sym (term_order x z) ∙ ap (λ (y : Tree). term_cmp y (term_tree z)) (sym term) ∙ same) in
    let total : q ≡ plus x.coefficient z.coefficient = sum ∙ ap (λ (y : Tree). plus (coefficient_in y) z.coefficient) term ∙ ap (λ p. plus p z.coefficient) (term_coefficient x) in
    let whole : summand z.coefficient x.monomial ∷ w ≡ z ∷ polynomial_of t = λ i. summand z.coefficient (one i) ∷ sym (sum_polynomial_is s) i in
    by (is_zero_fraction q) refl e x one f total whole
  where
    by : (b : Bool) → is_zero_fraction q ≡ b → u ≡ add (if b then removed n (children_of t) else inserted n (more (term_tree (summand q z.monomial)) none) (removed n (children_of t)))
        → (x : Summand) → x.monomial ≡ z.monomial → IsFound n x.coefficient x.monomial s.summands → q ≡ plus x.coefficient z.coefficient
        → summand z.coefficient x.monomial ∷ s.summands ≡ z ∷ polynomial_of t → IsSumOf (z ∷ polynomial_of t) u
    by true z0 d x one f total whole = record {
      sum = record {
        summands = drop_at n s.summands;
        normal = drop_normal n s.summands s.normal;
        monomials = drop_monomials n s.summands s.monomials;
        tree = d ∙ ap (λ (ts : Trees). add (removed n ts)) (sum_children s) ∙ ap add (sym (drop_trees n s.summands));
      };
      same = same_trans (f.drop-same z.coefficient (sym total ∙ zero_is q z0)) (same_is whole);
    }
    by false z0 d x one f total whole = record {
      sum = record {
        summands = set_at n q s.summands;
        normal = set_normal n q s.summands (no_zero q (not_from_false _ z0)) s.normal;
        monomials = set_monomials n q s.summands s.monomials;
        tree = d ∙ ap (λ (ts : Trees). add (inserted n (more (term_tree (summand q z.monomial)) none) (removed n ts))) (sum_children s)
            ∙ ap (λ m. add (inserted n (more (term_tree (summand q m)) none) (removed n (term_trees s.summands)))) (sym one) ∙ ap add (sym (f.set-trees q));
      };
      same = same_trans (same_is (ap (λ p. set_at n p s.summands) total)) (same_trans (f.set-same z.coefficient) (same_is whole));
    }

-- ---- terms of an expanded tree, one after another

-- the summands from a place on
pub record IsNextSummand (n : ℕ) (s : Summand) (v : Polynomial) : Type 0 where
  pub rest : drop n v ≡ s ∷ drop (n + 1) v
  pub at : IsAt n s v

pub next_summand : (n : ℕ) (v : Polynomial) → n < count (term_trees v) → (s : Summand) × IsNextSummand n s v
next_summand n [] l = absurd (omega arith)
next_summand zero (s ∷ v) l = (s, record { rest = refl; at = record { term = refl; nonzero = λ h. h.0; monomial = λ h. h.0 } })
next_summand (suc n) (t ∷ v) l =
    let (s, x) = next_summand n v (omega arith) in
    let next : suc (n + 1) ≡ suc n + 1 = omega arith in (
      s,
      record {
        rest = x.rest ∙ ap (λ (k : ℕ). s ∷ drop k (t ∷ v)) next;
        at = record { term = x.at.term; nonzero = λ h. x.at.nonzero h.2; monomial = λ h. x.at.monomial h.1 };
      },
    )

pub no_summands : (n : ℕ) (v : Polynomial) → count (term_trees v) ≤ n → drop n v ≡ []
no_summands zero [] l = refl
no_summands (suc n) [] l = refl
no_summands zero (s ∷ v) l = absurd (omega arith)
no_summands (suc n) (s ∷ v) l = no_summands n v (omega arith)

-- ---- a sum, and a tree that was placed behind it

-- what they are read as
pub sum_read : {i j : ℕ} {g : Forest} (s s1 : State) {h : ℕ} {P : Tree → Type 0} → Gives g (forest s) i IsSum → Gives (forest s) (forest s1) h P → Stands s1 → j ≡ i
    → plain (tree_at j (forest s1)) ≡ plain (root_tree i (forest s))
sum_read {i} {j} {g} s s1 e p st k = seen k st (given_other p (given_handed e)) ∙ ap plain (given_same i p (given_root e))

pub term_read : {h j : ℕ} {f : Forest} (s1 : State) {P : Tree → Type 0} → Gives f (forest s1) h P → Stands s1 → j ≡ h → plain (tree_at j (forest s1)) ≡ plain (root_tree h (forest s1))
term_read {h} {j} {f} s1 p st k = seen k st (given_handed p)

-- the product of two terms' factors
pub placed_behind : {i h s t : ℕ} {g f f1 : Forest} → Gives g f i IsSum → IsExpression s g → IsExpression t g
    → ((m n : Monomial) → HasMonomial m (plain (tree_at s f)) → HasMonomial n (plain (tree_at t f)) → Gives f f1 h (λ u. u ≡ mult (factor_trees (monomial_times m n))))
    → (m n : Monomial) → HasMonomial m (plain (tree_at s g)) → HasMonomial n (plain (tree_at t g)) → Gives f f1 h (λ u. u ≡ mult (factor_trees (monomial_times m n)))
placed_behind e x y p m n hm hn = p m n (subst (HasMonomial m) (sym (beside e x).same) hm) (subst (HasMonomial n) (sym (beside e y).same) hn)

-- it is put in as a new term
pub put_in : {i h : ℕ} {g f f1 f2 : Forest} (z : Summand) (at : ℕ) (e : Gives g f i IsSum) (r : Gives f f1 h (λ u. u ≡ term_tree z)) → z.coefficient ≢ zero_fraction → IsMonomial z.monomial
    → IsPlace at (term_tree z) (children_of (plain (root_tree i f)))
    → Gives (without_root i (without_root h f1)) f2 i (λ u. u ≡ add (inserted at (more (plain (root_tree h f1)) none) (children_of (plain (root_tree i f1)))))
    → Gives g f2 i (IsSumOf (z ∷ polynomial_of (plain (root_tree i f))))
put_in {i} z at e r nonzero monomial place new =
    gives_as new (ap (without_root i) (given_rest r) ∙ given_rest e)
    (λ u k. joined_apart (given_told e) z at nonzero monomial place (k ∙ (λ j. add (inserted at (more (given_told r j) none) (children_of (plain (given_same i r (given_root e) j)))))))

-- ---- what is sought

-- the term at a place has the monomial of another
abbrev pub IsFoundAt : ℕ → Tree → Trees → Type 0
IsFoundAt n t ts = (n < count ts) × (term_cmp (nth n ts) t ≡ Equal)

pub has_monomial : {m : Monomial} (q : Fraction) → IsMonomial m → HasMonomial m (term_tree (summand q m))
has_monomial {m} q h = record { monomial = h; factors = term_factors (summand q m) }

-- a term has the coefficient of both
pub set_in : {i h : ℕ} {g f f1 f2 : Forest} {P : Tree → Type 0} (z : Summand) (at : ℕ) (q : Fraction) (e : Gives g f i IsSum) (p : Gives f f1 h P) → at < count (children_of (plain (root_tree i f)))
    → term_cmp (nth at (children_of (plain (root_tree i f)))) (term_tree z) ≡ Equal → q ≡ plus (coefficient_in (nth at (children_of (plain (root_tree i f))))) z.coefficient
    → Gives (without_root i (without_root h f1)) f2 i (λ u. u ≡ add (with_term at (summand q z.monomial) (children_of (plain (root_tree i f1)))))
    → Gives g f2 i (IsSumOf (z ∷ polynomial_of (plain (root_tree i f))))
set_in z at q e p l h k m = grind (arith, gives_as, given_rest, joined_same, given_told, given_same, given_root)
