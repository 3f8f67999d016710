-- Lemmas on polynomial equations that are read, and on their differences.
use Rattle.std.proofs.Common.{refl, ◌≡◌, ◌≢◌, ◌∙◌, ℕ, zero, suc, ◌+◌, ◌-◌, ◌<◌, ◌≤◌, List, [], ◌∷◌, Err, get_or, length, map, take, true, false, sym, ap, subst, arith}
use Rattle.std.proofs.lemmas.List.{length-map, take-map}
use Rattle.calc_commands.specs.{declared.equations.SplitFault.{SplitFault}, declared.equations.SplitFault.TheVariants.{TooMany, Unwritten}}
use Rattle.calc_commands.specs.Equations.{Sides, all_placed, written}
use Rattle.calc_session.proofs.Shared.{AreSplit, EquationRange, IsSplitFault, pieces_at, Reason, refused, IsNoEquation, State, Become, Equation, Full, NamedTree, Refusal, reason_of}
use Rattle.calc_session.specs.declared.answers.Refusal.TheVariants as refusal
use Rattle.breakers.specs.State.{State as Breaker}
use Rattle.std.specs.Prelude.{slice_index_or, IfOk, OnErr, OnOk, Result}
use Rattle.calc_terms.proofs.{FractionFacts.{zero_is}, SmallLaws.{zero_is_zero}}
use Rattle.calc_terms.specs.{Fractions.{Fraction, is_zero_fraction, zero_fraction}, Rat.{value_of}, Trees.{Tree, size, sub}, declared.rat.Rat.{Rat}}
use Rattle.equation_roots.specs.{Coefficients.{HasLeading}, Factorings.{IsBeyond, Rest}, Faults.{IfDegree, IfOverflow}, Refusals.{Overflows}, declared.fault.RootFault.{RootFault}}
use Rattle.equation_roots.specs.declared.fault.RootFault.TheVariants as fault
use Rattle.equation_roots.specs.declared.told.Roots.{Roots}
use Rattle.expand_forms.specs.Powers.{AreCoefficients, power_of}
use Rattle.expansions.specs.{Polynomials.{Polynomial}, Sums.{AreSame}}
use Rattle.calc_session.proofs.OnlyNames.{never_both}
use Rattle.calc_session.proofs.Shared.{Adds, AllZip, ReadsEquation, Reply, Stands, Table, adds_free, adds_one, forest, free_of, polynomial_of, reply_of, report, state_of, values}
use Rattle.node_pool.specs.State.{State as PoolState}
use Rattle.calc_session.specs.{Rooting.{IsBeyondIn, IsFactoredIn, IsFoundIn, IsReplyToDifference, IsReplyToPolynomial, IsReplyToRoots, above_the_limit, does_not_fit, has_other_roots, is_beyond, is_expanded, is_made, is_read, is_told, is_zero, lacks_bytes}, Rooted.{IsFoundOf, found_text, refusal_to_root}, RootTexts.{root_room}, declared.rooting.Found.{Found}}
use Rattle.calc_session.specs.declared.rooting.Found.TheVariants as found
use Rattle.calc_session.specs.{Replies.{command, full}, Rooting.{IsNoDifference, IsReplyToRooting, is_not_one, is_not_read, is_not_written, lacks_its_node}}

-- ---- the text is split

placed_many : (n : ℕ) (es : List Sides) → length (all_placed n es) ≡ length es
placed_many n [] = omega arith
placed_many n (e ∷ es) = ap suc (placed_many (n + length (written e) + 1) es)

pub split_many : {text : List ℕ} {rs : List EquationRange} (split : AreSplit text rs) → length split.equations ≡ length rs
split_many {text} {rs} split = sym (placed_many 0 split.equations) ∙ sym (ap length (split.placed_are 0)) ∙ length-map rs (pieces_at 0 text)

module _ (old : State) (bs : List Breaker) (n : ℕ) (x text : List ℕ) where
  pub unsplit : (f : SplitFault) → IsSplitFault text f → IsReplyToRooting old bs bs n x text (refused command)
  unsplit Unwritten h = is_not_written h refl
  unsplit TooMany (es, splits, many) = is_not_one splits (λ one. absurd (omega (arith, one, many))) refl

  pub not_one : {rs : List EquationRange} → AreSplit text rs → length rs ≢ 1 → IsReplyToRooting old bs bs n x text (refused command)
  not_one split h = is_not_one split.splits (λ one. h (sym (split_many split) ∙ one)) refl

  pub unread : {rs : List EquationRange} (reason : Reason) → AreSplit text rs → length rs ≡ 1 → IsNoEquation (map (pieces_at n text) rs) reason → IsReplyToRooting old bs bs n x text (refused reason)
  unread reason split one h = is_not_read split.splits (split_many split ∙ one) (subst (λ ps. IsNoEquation ps reason) (split.placed_are n) h) refl

-- ---- the difference is placed

-- its own node finds no room
pub unplaced : {vs : List NamedTree} {free : ℕ} {e f : Equation} (lack : Full) (r : Refusal) (left : ℕ) → Become vs free (e ∷ []) left (f ∷ []) → r ≡ refusal.Full lack.needed lack.free → lack ≡ record { needed = 8; free = left }
    → lack.free < lack.needed → IsNoDifference vs free e (reason_of r)
unplaced {vs} {free} {e} lack r left become is told short =
    subst (IsNoDifference vs free e) (sym (ap reason_of is ∙ ap full told)) (lacks_its_node become (omega (arith, ap (λ (x : Full). x.needed) told, ap (λ (x : Full). x.free) told, short)))

-- ---- the coefficients

-- one coefficient, and it is 0
pub one_zero : (cs : List Rat) (d : Rat) (n : ℕ) → n ≡ 1 → 0 < length cs → is_zero_fraction (value_of (get_or cs 0 d)) ≡ true → map value_of (take n cs) ≡ zero_fraction ∷ []
one_zero [] d n e l z = absurd (omega (arith, l))
one_zero (c ∷ cs) d n e l z = ap (λ k. map value_of (take k (c ∷ cs))) e ∙ ap (λ q. q ∷ []) (zero_is (value_of c) z)

-- one that is not 0
pub one_nonzero : (cs : List Rat) (d : Rat) → 0 < length cs → is_zero_fraction (value_of (get_or cs 0 d)) ≡ false → slice_index_or (map value_of cs) 0 zero_fraction ≢ zero_fraction
one_nonzero [] d l z = absurd (omega (arith, l))
one_nonzero (c ∷ cs) d l z = λ e. never_both (is_zero_fraction (value_of c)) (ap is_zero_fraction e ∙ zero_is_zero) z

-- the last of those that are read is not 0
pub leads : (qs : List Fraction) (n : ℕ) → n < length qs → slice_index_or qs n zero_fraction ≢ zero_fraction → HasLeading (take (suc n) qs)
leads [] n l h = absurd (omega (arith, l))
leads (q ∷ qs) zero l h = h
leads (q ∷ []) (suc n) l h = absurd (omega (arith, l))
leads (q ∷ r ∷ qs) (suc n) l h = leads (r ∷ qs) n (omega (arith, l)) h

pub leads_there : (cs : List Rat) (n : ℕ) → 1 ≤ n → n ≤ length cs → slice_index_or (map value_of cs) (n - 1) zero_fraction ≢ zero_fraction → HasLeading (map value_of (take n cs))
leads_there cs zero some few h = absurd (omega (arith, some))
leads_there cs (suc n) some few h =
    let last : suc n - 1 ≡ n = omega arith in
    subst HasLeading (take-map value_of (suc n) cs) (leads (map value_of cs) n (omega (arith, few, length-map cs value_of)) (subst (λ k. slice_index_or (map value_of cs) k zero_fraction ≢ zero_fraction) last h))

module _ (x : List ℕ) {v w : Polynomial} (same : AreSame v w) where
  pub same_coefficients : {qs : List Fraction} → AreCoefficients x v qs → AreCoefficients x w qs
  same_coefficients a = record { powers = λ k. sym (same.at (power_of x k)) ∙ a.powers k; others = λ m h. a.others m (λ e. h (sym (same.at m) ∙ e)) }

  pub same_factored : {qs : List Fraction} {rest : Rest} → IsFactoredIn x v qs rest → IsFactoredIn x w qs rest
  same_factored f = record { coefficients = f.coefficients; are = same_coefficients f.are; factoring = f.factoring }

  same_beyond : IsBeyondIn x v → IsBeyondIn x w
  same_beyond (above_the_limit {k = k} above some) = above_the_limit above (λ e. some (same.at (power_of x k) ∙ e))
  same_beyond (has_other_roots a b) = has_other_roots (same_coefficients a) b

  pub same_replies : {free : ℕ} {reply : Reply} → IsReplyToPolynomial x free v reply → IsReplyToPolynomial x free w reply
  same_replies (is_zero z) = is_zero (same_coefficients z)
  same_replies (is_beyond b) = is_beyond (same_beyond b)
  same_replies (does_not_fit o m) = does_not_fit o m
  same_replies (lacks_bytes f short few) = lacks_bytes (same_factored f) short few
  same_replies (is_told f) = is_told (same_factored f)

  pub same_found : (f : Found) → IsFoundIn x v f → IsFoundIn x w f
  same_found found.Each h = same_coefficients h
  same_found (found.Roots r) h = same_factored h

-- why no roots are told
pub unrooted_reply : (A : Type 0) {x : List ℕ} {v : Polynomial} {p : List Fraction} (free : ℕ) (f : RootFault) (r : Refusal) → AreCoefficients x v p → r ≡ refusal_to_root f → IfDegree {A = A} (Err f) (IsBeyond p) → IfOverflow {A = A} (Err f) Overflows
    → IsReplyToPolynomial x free v (reply_of r)
unrooted_reply A {x = x} {v = v} free fault.Degree r a is b o = subst (λ y. IsReplyToPolynomial x free v (reply_of y)) (sym is) (is_beyond (has_other_roots a b))
unrooted_reply A {x = x} {v = v} free (fault.Overflow m) r a is b o = subst (λ y. IsReplyToPolynomial x free v (reply_of y)) (sym is) (does_not_fit m o)

-- ---- the tree of the difference stands in the pool

-- the replies to it, by what is free at the start of the line
pub from_start : {x : List ℕ} {before after : List Breaker} {n : ℕ} {reply : Reply} (m : ℕ) (t u : Tree) → t ≡ u → m ≡ n + size u → IsReplyToDifference x (n + size t) before after n t reply → IsReplyToDifference x m before after n u reply
from_start {x} {before} {after} {n} {reply} m t u e f h = subst (λ k. IsReplyToDifference x k before after n u reply) (sym f) (subst (λ w. IsReplyToDifference x (n + size w) before after n w reply) e h)

pub both_ok : {A E : Type 0} {P R : A → Type 0} {Q : Type 0} (r : Result A E) → IfOk r P → OnOk r Q → ((a : A) → P a → Q → R a) → IfOk r R
both_ok r p q h = grind arith

pub ok_map : {A E : Type 0} {P Q : Type 0} (r : Result A E) → OnOk r P → (P → Q) → OnOk r Q
ok_map r p h = grind arith

-- and takes its bytes
pub adds_one_free : {s t : PoolState} {a : Tree} {i : ℕ} → Stands s → Adds s t a i → free_of s ≡ free_of t + size a
adds_one_free st g = omega (arith, adds_free st (adds_one st g))

pub on_err : {A E : Type 0} {P : Type 0} (r : Result A E) → P → OnErr r P
on_err r p = grind arith

-- ---- what is told

-- an equation that was read
pub rooting_reply : (p : PoolState) (table : Table) (before after : List Breaker) (n : ℕ) (x text : List ℕ) (range : EquationRange) (e : Equation) (reply : Reply) → AreSplit text (range ∷ []) → ReadsEquation (pieces_at n text range) e
    → IsReplyToRoots x (values table (forest p)) (free_of p) e before after reply → IsReplyToRooting (state_of p table) before after n x text reply
rooting_reply p table before after n x text range e reply split reads h = is_read split.splits (subst (λ ps. AllZip ReadsEquation ps (e ∷ [])) (split.placed_are n) (reads, tt)) h

module _ {x : List ℕ} {vs : List NamedTree} {free : ℕ} {e : Equation} {before after : List Breaker} where
  pub found_reply : (f : Found) → IsFoundOf x vs free e before after f → IsReplyToRoots x vs free e before after (report (found_text x f))
  found_reply found.Each h = is_made {rest = 0} h.become (is_expanded h.only h.polynomial h.calm (is_zero h.is_found))
  found_reply (found.Roots r) h = is_made {rest = 0} h.become (is_expanded h.only h.polynomial h.calm (is_told h.is_found))

  -- a root finds no room
  pub lacking_reply : (f : Found) (r : Roots) (lack : Full) (told : Refusal) → IsFoundOf x vs free e before after f → f ≡ found.Roots r → told ≡ refusal.Full lack.needed lack.free → lack.free < lack.needed → free < root_room
      → IsReplyToRoots x vs free e before after (reply_of told)
  lacking_reply f r lack told h is same short few =
      subst (λ (y : Refusal). IsReplyToRoots x vs free e before after (reply_of y)) (sym same)
      (is_made {rest = 0} h.become (is_expanded h.only h.polynomial h.calm (lacks_bytes {refusal = lack} (subst (IsFoundIn x (polynomial_of (sub h.sides.left h.sides.right))) is h.is_found) short few)))
