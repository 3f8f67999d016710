-- Loops that join products of terms to a sum.
use Rattle.expand_forms.proofs.Shared.{◌≡◌, ◌<◌, ℕ, ◌+◌, List, [], ◌∷◌, ◌++◌, true, refl, sym, ap, ◌∙◌, subst, arith, append_assoc, Tree, count, size, normal, term_trees, IsHeld, HasFewTerms}
use Rattle.expand_forms.proofs.Shared.{Polynomial, polynomial_of, IsExpanded, IsSum, IsSumOf, IsTerm, terms_in, State, free_of, replaced_free, gives_itself, kept_after, kept_same, IsExpression, nth}
use Rattle.expand_forms.proofs.Shared.{plain, Forest, Gives, IsHanded, KeepsFront, tree_of, holds, tree_at, without_root, KeepsRefusals, Stands, forest, behind_first, front_after_one, front_same}
use Rattle.expand_forms.proofs.{Shared.{given_rest, given_told, gives_as}, Joins.{IsNextSummand, next_summand}, TermReadings.{beside}, Within.{within}}
use Rattle.expansions.proofs.Gathered.{IsGathered, few_behind, gathered_append, gathered_few, gathered_held, gathered_is, gathered_refl, gathered_second, gathered_sum, gathered_trans}
use Rattle.expansions.proofs.{TermPolynomials.{sum_polynomial_is, expanded_terms, tree_normal}, NormalForms.{normal_is}, SameCoefficients.{same_is, same_trans}, Held.{held_behind}}

-- ---- a sum under way

pub record IsSumWith (left whole : Polynomial) (t : Tree) : Type 0 where
  pub sum : IsSum t
  pub gathered : IsGathered whole (left ++ polynomial_of t)

-- to a sum that stands last products were joined, and with those that are left it is the whole
pub record IsJoined (i : ℕ) (left whole : Polynomial) (old now : State) : Type 0 where
  pub gives : Gives (without_root i (forest old)) (forest now) i (IsSumWith left whole)
  pub front : KeepsFront (i ∷ []) (forest old) (forest now)
  pub kept : KeepsRefusals old now
  pub stands : Stands now

pub joined_none : (i : ℕ) (left whole : Polynomial) (s : State) → Stands s → Gives (without_root i (forest s)) (forest s) i IsSum → IsGathered whole (left ++ polynomial_of (tree_of i s))
    → IsJoined i left whole s s
joined_none i left whole s st g h = record {
  gives = gives_as (gives_itself g) refl (λ t e. record { sum = e.0; gathered = subst (λ (u : Tree). IsGathered whole (left ++ polynomial_of u)) (sym e.1) h });
  front = front_same;
  kept = kept_same s;
  stands = st;
}

-- what is joined next, and what is left then
pub record IsNextPart (left part rest : Polynomial) : Type 0 where
  pub gathered : IsGathered left (part ++ rest)

pub next_part : {left part rest : Polynomial} → left ≡ part ++ rest → IsNextPart left part rest
next_part e = record { gathered = gathered_is e }

module _ {i : ℕ} {left part rest whole : Polynomial} {old now : State} (j : IsJoined i left whole old now) (e : IsNextPart left part rest) where
  part_next : IsGathered whole (rest ++ (part ++ polynomial_of (tree_of i now)))
  part_next =
      let u = polynomial_of (tree_of i now) in
      gathered_trans (given_told j.gives).gathered (gathered_trans (gathered_append e.gathered (gathered_refl u))
      (gathered_trans (gathered_is (append_assoc part rest u)) (gathered_second part rest u)))

  pub part_held : {h l : ℕ} → IsHeld whole h l → IsHeld (part ++ polynomial_of (tree_of i now)) h l
  part_held x = held_behind rest (part ++ polynomial_of (tree_of i now)) (gathered_held part_next x)

  pub part_few : {ns : List (List ℕ)} {n : ℕ} → HasFewTerms ns n whole → HasFewTerms ns n (part ++ polynomial_of (tree_of i now))
  part_few x = few_behind rest (part ++ polynomial_of (tree_of i now)) (gathered_few part_next x)

  -- the part is joined
  pub joined_more : {new : State} → Gives (without_root i (forest now)) (forest new) i (IsSumOf (part ++ polynomial_of (tree_of i now))) → KeepsFront (i ∷ []) (forest now) (forest new)
      → KeepsRefusals now new → Stands new → IsJoined i rest whole old new
  joined_more g f k st = record {
    gives = gives_as g (given_rest j.gives) (λ t h. record { sum = h.sum; gathered = gathered_trans part_next (gathered_append (gathered_refl rest) (gathered_sum h)) });
    front = front_after_one behind_first j.front f;
    kept = kept_after j.kept k;
    stands = st;
  }

pub joined_all : {i : ℕ} {left whole : Polynomial} {old now : State} → IsJoined i left whole old now → left ≡ [] → Gives (without_root i (forest old)) (forest now) i (IsSumOf whole)
joined_all j e =
    gives_as j.gives refl (λ t h. record { sum = h.sum; same = same_trans (same_is (sym (sum_polynomial_is h.sum) ∙ ap (λ (v : Polynomial). v ++ polynomial_of t) (sym e))) h.gathered.same })

-- it found too few bytes
pub joined_lacks : {i : ℕ} {left whole : Polynomial} {old now : State} (n : ℕ) → IsJoined i left whole old now → Stands old → IsHanded i (forest old) → free_of now + size (tree_of i now) < n
    → free_of old + size (tree_of i old) < n
joined_lacks n j st o few = omega (arith, replaced_free st j.stands j.kept o j.gives, few)

-- ---- the next term

-- how many terms are read
pub terms_read : {g f : Forest} {i b n : ℕ} {P : Tree → Type 0} → Gives g f i P → IsExpression b g → IsExpanded (plain (tree_at b g)) → n ≡ count (terms_in (plain (tree_at b f)))
    → n ≡ count (term_trees (normal (polynomial_of (plain (tree_at b g)))))
terms_read {g} {f} {i} {b} e h x k = k ∙ ap (λ (t : Tree). count (terms_in t)) (beside e h).same ∙ ap count (expanded_terms (plain (tree_at b g)) x)

-- there is one, as there was in the beginning
pub place_read : {g f old : Forest} {i b n end : ℕ} {P Q : Tree → Type 0} → Gives g f i P → Gives g old i Q → IsExpression b g → end ≡ count (terms_in (plain (tree_at b old))) → n < end
    → n < count (terms_in (plain (tree_at b f)))
place_read e o h k l = omega (arith, ap (λ (t : Tree). count (terms_in t)) (beside e h).same, ap (λ (t : Tree). count (terms_in t)) (beside o h).same, k, l)

-- the term at a place of an expanded tree, beside a sum
pub record IsNextTerm (n j : ℕ) (t : Tree) (others f : Forest) : Type 0 where
  pub expression : IsExpression j others
  pub term : IsTerm (plain (tree_at j others))
  pub next : IsNextSummand n term.summand (normal (polynomial_of t))
  pub same : plain (tree_at j f) ≡ plain (tree_at j others)

pub next_term : {g f : Forest} {i b j : ℕ} {P : Tree → Type 0} (n : ℕ) → Gives g f i P → IsExpression b g → IsExpanded (plain (tree_at b g)) → n < count (terms_in (plain (tree_at b f)))
    → holds j (tree_at b f) ≡ true → IsExpression j f → plain (tree_at j f) ≡ nth n (terms_in (plain (tree_at b f))) → IsNextTerm n j (plain (tree_at b g)) (without_root i f) f
next_term {g} {f} {i} {b} {j} n e h x l inside there k =
    let w = within e h inside there in
    let t = plain (tree_at b g) in
    let all : terms_in (plain (tree_at b f)) ≡ term_trees (normal (polynomial_of t)) = ap terms_in (beside e h).same ∙ expanded_terms t x in
    let (s, next) = next_summand n (normal (polynomial_of t)) (omega (arith, ap count all, l)) in
    subst (λ (o : Forest). IsNextTerm n j t o f) (sym (given_rest e)) (record {
      expression = w.expression;
      term = record { summand = s; nonzero = next.at.nonzero (normal_is (polynomial_of t)); monomial = next.at.monomial (tree_normal t); tree = sym w.same ∙ k ∙ ap (nth n) all ∙ next.at.term };
      next = next;
      same = w.same;
    })
