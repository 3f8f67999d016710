use Rattle.polynomials.proofs.Shared.{◌≡◌, ◌<◌, ◌≤◌, ℕ, List, length, take, drop, get_or, sym, ap, ◌∙◌, subst, arith, take-append-drop, length-drop, on_ok_weaker, Term, AreBelow, StartsFrom}
use Rattle.std.proofs.Common.{rules}
use Rattle.polynomials.proofs.{Shared.{IsBelowAll, IsNormal, IfErr-weaker, passed_on}, Causes.{caused_more, like_anyway, like_more, not_done, pushed_length}, Insertions.{exchange_exponents, exchange_others, exchange_terms, first_dropped, insert_exponents}}
use Rattle.polynomials.proofs.{Insertions.{insert_others, insert_terms, appended, inserted}, Normal.{behind_none, behind_other, normal_end, stands_at}, insertion.insert.Goals.{After-len}}
use Rattle.polynomials.proofs.insertion.insert.Goals as goal

-- what is known of the place
module _ (c : After-len) where
  abbrev xs : List Term
  xs = c.args.list.now.items

  abbrev at : ℕ
  at = c.place_of-at.result

  many : length xs ≡ c.len.result
  many = ap length (sym c.deref.ensures.value) ∙ c.deref.ensures.len ∙ sym c.len.ensures

  within : at ≤ length xs
  within = subst (λ (ys : List Term). at ≤ length ys) c.deref.ensures.value c.place_of-at.ensures.within

  below : AreBelow c.args.term.monomial (take at xs)
  below = subst (λ (ys : List Term). AreBelow c.args.term.monomial (take at ys)) c.deref.ensures.value c.place_of-at.ensures.below

  from : StartsFrom c.args.term.monomial (drop at xs)
  from = subst (λ (ys : List Term). StartsFrom c.args.term.monomial (drop at ys)) c.deref.ensures.value c.place_of-at.ensures.from

  none_behind : at ≡ c.len.result → IsBelowAll c.args.term.monomial (drop at xs)
  none_behind e = behind_none c.args.term.monomial (drop at xs) (omega (arith, length-drop at xs, e, many))

  not_last : (at ≡ c.len.result → ⊥) → at < length xs
  not_last n = omega (arith, within, many)

  other_behind : (y : Term) → at < length xs → y ≡ get_or xs at y → (y.monomial ≡ c.args.term.monomial → ⊥) → IsBelowAll c.args.term.monomial (drop at xs)
  other_behind y l e n =
      behind_other c.args.term.monomial (drop at xs) y (first_dropped xs at y l e)
      (normal_end (take at xs) (drop at xs) (subst IsNormal (sym (take-append-drop at xs)) c.requires.normal)) from n

pub returns-then-at-len-clause-terms : goal.returns-then-at-len-clause-terms
returns-then-at-len-clause-terms c =
    let k = (goal.at.returns-then-at-len-clause-terms c).After-len in
    on_ok_weaker c.push_nonzero.result (λ e. insert_terms (xs k) (at k) c.args.term c.push_nonzero.new.list.items (within k)
    (appended (xs k) c.push_nonzero.new.list.items (at k) c.args.term (c.if-at-len.true ∙ sym (many k)) e) c.requires.normal (below k) (none_behind k c.if-at-len.true)) c.push_nonzero.ensures.ok

pub returns-then-at-len-clause-exponents : goal.returns-then-at-len-clause-exponents
returns-then-at-len-clause-exponents c = λ d h.
    let k = (goal.at.returns-then-at-len-clause-exponents c).After-len in
    on_ok_weaker c.push_nonzero.result (λ e. insert_exponents (xs k) (at k) c.args.term c.push_nonzero.new.list.items (within k)
    (appended (xs k) c.push_nonzero.new.list.items (at k) c.args.term (c.if-at-len.true ∙ sym (many k)) e) d h) c.push_nonzero.ensures.ok

pub returns-then-at-len-clause-few : goal.returns-then-at-len-clause-few
returns-then-at-len-clause-few c =
    let k = (goal.at.returns-then-at-len-clause-few c).After-len in
    on_ok_weaker c.push_nonzero.result (λ e. omega (arith, ap length e, pushed_length (xs k) c.args.term)) c.push_nonzero.ensures.ok

pub returns-then-other-term-clause-terms : goal.returns-then-other-term-clause-terms
returns-then-other-term-clause-terms c =
    let k = (goal.at.returns-then-other-term-clause-terms c).After-len in
    on_ok_weaker c.insert_at.result (λ e. insert_terms (xs k) (at k) c.args.term c.insert_at.new.list.items (within k) e c.requires.normal (below k)
    (other_behind k c.index-other.result.now (not_last k c.if-at-len.false) c.index-other.ensures c.if-other-term.true)) c.insert_at.ensures.ok

pub returns-then-other-term-clause-exponents : goal.returns-then-other-term-clause-exponents
returns-then-other-term-clause-exponents c = λ d h.
    let k = (goal.at.returns-then-other-term-clause-exponents c).After-len in
    on_ok_weaker c.insert_at.result (λ e. insert_exponents (xs k) (at k) c.args.term c.insert_at.new.list.items (within k) e d h) c.insert_at.ensures.ok

pub returns-clause-terms : goal.returns-clause-terms
returns-clause-terms c =
    let k = (goal.at.returns-clause-terms c).After-len in
    on_ok_weaker c.insert_at-2.result (λ e. exchange_terms (xs k) (at k) c.index-other.result.now c.args.term c.in_ok-total.total c.insert_at-2.new.list.items
    (not_last k c.if-at-len.false) c.index-other.ensures (e ∙ ap (λ (l : List Term). inserted l (at k) c.in_ok-total.total) c.remove.ensures.items)
    c.if-other-term.false c.in_ok-total.ensures.monomial c.in_ok-total.ensures.coefficient c.requires.normal (below k)) c.insert_at-2.ensures.ok

pub returns-clause-exponents : goal.returns-clause-exponents
returns-clause-exponents c = λ d h.
    let k = (goal.at.returns-clause-exponents c).After-len in
    on_ok_weaker c.insert_at-2.result (λ e. exchange_exponents (xs k) (at k) c.index-other.result.now c.args.term c.in_ok-total.total c.insert_at-2.new.list.items
    (not_last k c.if-at-len.false) c.index-other.ensures (e ∙ ap (λ (l : List Term). inserted l (at k) c.in_ok-total.total) c.remove.ensures.items)
    c.if-other-term.false c.in_ok-total.ensures.monomial d h) c.insert_at-2.ensures.ok

pub returns-in_err-total : goal.returns-in_err-total
returns-in_err-total c =
    let k = (goal.at.returns-in_err-total c).After-len in
    let r = c.from_residual in
    let u = c.in_err-total.field-0.0 in
    record {
      terms = not_done r.result _ r.ensures.0;
      exponents = λ d h. not_done r.result _ r.ensures.0;
      others = λ m. not_done r.result _ r.ensures.0;
      few = not_done r.result _ r.ensures.0;
      unfit = passed_on r.result u _ r.ensures.0 r.ensures.1 (caused_more u (λ h. absurd h) c.in_err-total.ensures.unfit);
      like = like_anyway _ r.result (stands_at c.args.term.monomial (xs k) (at k) c.index-other.result.now (not_last k c.if-at-len.false) c.index-other.ensures c.if-other-term.false);
      room = search rules;
    }

pub returns-then-at-len-clause-others : goal.returns-then-at-len-clause-others
returns-then-at-len-clause-others c = λ m.
    let k = (goal.at.returns-then-at-len-clause-others c).After-len in
    on_ok_weaker c.push_nonzero.result (λ e. insert_others (xs k) (at k) c.args.term c.push_nonzero.new.list.items (within k)
    (appended (xs k) c.push_nonzero.new.list.items (at k) c.args.term (c.if-at-len.true ∙ sym (many k)) e) m) c.push_nonzero.ensures.ok

pub returns-then-other-term-clause-others : goal.returns-then-other-term-clause-others
returns-then-other-term-clause-others c = λ m.
    let k = (goal.at.returns-then-other-term-clause-others c).After-len in
    on_ok_weaker c.insert_at.result (λ e. insert_others (xs k) (at k) c.args.term c.insert_at.new.list.items (within k) e m) c.insert_at.ensures.ok

pub returns-clause-others : goal.returns-clause-others
returns-clause-others c = λ m.
    let k = (goal.at.returns-clause-others c).After-len in
    on_ok_weaker c.insert_at-2.result (λ e. exchange_others (xs k) (at k) c.index-other.result.now c.args.term c.in_ok-total.total c.insert_at-2.new.list.items
    (not_last k c.if-at-len.false) c.index-other.ensures (e ∙ ap (λ (l : List Term). inserted l (at k) c.in_ok-total.total) c.remove.ensures.items)
    c.if-other-term.false c.in_ok-total.ensures.monomial m) c.insert_at-2.ensures.ok

pub returns-clause-like : goal.returns-clause-like
returns-clause-like c = IfErr-weaker c.insert_at-2.result _ _ (λ u h. like_more u (λ x. absurd x) h) c.insert_at-2.ensures.like

pub returns-then-at-len-clause-like : goal.returns-then-at-len-clause-like
returns-then-at-len-clause-like c = IfErr-weaker c.push_nonzero.result _ _ (λ u h. like_more u (λ x. absurd x) h) c.push_nonzero.ensures.like

pub returns-then-other-term-clause-like : goal.returns-then-other-term-clause-like
returns-then-other-term-clause-like c = IfErr-weaker c.insert_at.result _ _ (λ u h. like_more u (λ x. absurd x) h) c.insert_at.ensures.like
