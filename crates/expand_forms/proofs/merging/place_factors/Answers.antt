use Rattle.expand_forms.proofs.Shared.{◌≡◌, ◌+◌, ℕ, ◌∙◌, ap, sym, subst, arith, ◌<◌, ◌*◌, length, drop, BeginsWith, factor_trees, HasExponents, factor_bytes, AddsTrees, GoesOn, IsNext, Monomial}
use Rattle.expand_forms.proofs.Shared.{monomial_times, HasMonomial, free_of, OfFull, kept_after, kept_same, passed_on, plain, tree_at, forest, front_after, front_same, Option, later_exponents}
use Rattle.expand_forms.proofs.{Shared.{factors_most}, AddedTrees.{adds_beside, adds_free, factors_beside, head_beside}, Merged.{IsMerged, all_gone, few_merged, merged_all, merged_length}}
use Rattle.expand_forms.proofs.{Merged.{merged_more, merged_none}, TermReadings.{drop_length, drop_monomial, has_count}, merging.place_factors.Goals.{In-Some, In_ok-_factor}}
use Rattle.expand_forms.specs.declared.factors.Factor.{Factor as Read}
use Rattle.tree_handles.specs.declared.fault.NumberFault.TheVariants as fault
use Rattle.number_forms.proofs.Safety.{after, answered, fits_full, no_answer, overflowed, passed_full, room_overflow}
use Rattle.expand_forms.proofs.merging.place_factors.Goals as goal

pub loop-next-init : goal.loop-next-init
loop-next-init c = record {
  first = c.get-first.ensures;
  second = c.get-second.ensures;
  merged = λ m n hm hn. merged_none m n (forest c.args.pool.now);
  front = front_same;
  kept = kept_same c.args.pool.now;
  stands = c.requires.stands;
}

pub get-first-requires : goal.get-first-requires
get-first-requires c = let (m, n, hm, hn) = c.requires.monomials in record { stands = c.requires.stands; expression = c.requires.first; factors = c.requires.factors; monomial = (m, hm) }

pub get-second-requires : goal.get-second-requires
get-second-requires c = let (m, n, hm, hn) = c.requires.monomials in record { stands = c.requires.stands; expression = c.requires.second; factors = c.of-right.ensures; monomial = (n, hn) }

pub next_factor-requires : goal.next_factor-requires
next_factor-requires c =
    let (m, n, hm, hn) = c.requires.monomials in
    let a = (c.loop-next.invariant.merged m n hm hn).adds in
    record { monomials = (drop c.loop-next.i m, drop c.loop-next.j n, head_beside c.loop-next.i c.loop-next.first a c.requires.first c.loop-next.invariant.first hm, head_beside c.loop-next.j c.loop-next.second a c.requires.second c.loop-next.invariant.second hn) }

still : {k : ℕ} (m : Monomial) (o : Option Read) (i : ℕ) → k ≡ 0 → BeginsWith o (drop i m) → BeginsWith o (drop (i + k) m)
still m o i e h = subst (λ (n : ℕ). BeginsWith o (drop n m)) (omega (arith, e)) h

-- how the product goes on
next : (c : In-Some) (m n : Monomial) → HasMonomial m (plain (tree_at c.args.s (forest c.args.pool.now))) → HasMonomial n (plain (tree_at c.args.t (forest c.args.pool.now)))
    → IsNext (drop c.loop-next.i m) (drop c.loop-next.j n) c.in-Some.next
next c m n hm hn =
    let a = (c.loop-next.invariant.merged m n hm hn).adds in
    subst (GoesOn (drop c.loop-next.i m) (drop c.loop-next.j n)) c.in-Some.is
    (c.in_ok-next.ensures.next (drop c.loop-next.i m) (drop c.loop-next.j n) (drop_monomial c.loop-next.i m hm.monomial) (drop_monomial c.loop-next.j n hn.monomial)
    (head_beside c.loop-next.i c.loop-next.first a c.requires.first c.loop-next.invariant.first hm)
    (head_beside c.loop-next.j c.loop-next.second a c.requires.second c.loop-next.invariant.second hn))

pub place_factor-requires-clause-read : goal.place_factor-requires-clause-read
place_factor-requires-clause-read c = let (m, n, hm, hn) = c.requires.monomials in let h = next (goal.at.place_factor-requires-clause-read c).In-Some m n hm hn in (h.factor, h.read)

pub overflow_add-i : goal.overflow_add-i
overflow_add-i c =
    let (m, n, hm, hn) = c.requires.monomials in
    let w = c.loop-next.invariant.merged m n hm hn in
    record { fits = omega (arith, has_count hm, c.requires.factors.count, w.left, (next (goal.at.overflow_add-i c).In-Some m n hm hn).left_within, drop_length c.loop-next.i m w.left) }

pub overflow_add-j : goal.overflow_add-j
overflow_add-j c =
    let (m, n, hm, hn) = c.requires.monomials in
    let w = c.loop-next.invariant.merged m n hm hn in
    record { fits = omega (arith, has_count hn, c.of-right.ensures.count, w.right, (next (goal.at.overflow_add-j c).In-Some m n hm hn).right_within, drop_length c.loop-next.j n w.right) }

pub overflow_add-many : goal.overflow_add-many
overflow_add-many c =
    let (m, n, hm, hn) = c.requires.monomials in
    let h = next (goal.at.overflow_add-many c).In-Some m n hm hn in
    record { fits = omega (arith, few_merged c.in_ok-_factor.ensures.safe.stands (merged_more (c.loop-next.invariant.merged m n hm hn) c.in-Some.next h (c.in_ok-_factor.ensures.ok h.factor h.read))) }

pub loop-next-smaller : goal.loop-next-smaller
loop-next-smaller c =
    let (m, n, hm, hn) = c.requires.monomials in
    let w = c.loop-next.invariant.merged m n hm hn in
    let h = next (goal.at.loop-next-smaller c).In-Some m n hm hn in
    omega (arith, has_count hm, has_count hn, c.requires.factors.count, c.of-right.ensures.count, w.left, w.right, h.some, h.left_within, h.right_within, drop_length c.loop-next.i m w.left, drop_length c.loop-next.j n w.right)

-- the factors that are placed then
more : (c : In_ok-_factor) (m n : Monomial) → HasMonomial m (plain (tree_at c.args.s (forest c.args.pool.now))) → HasMonomial n (plain (tree_at c.args.t (forest c.args.pool.now)))
    → IsMerged m n (c.loop-next.i + c.in-Some.next.left) (c.loop-next.j + c.in-Some.next.right) (c.loop-next.many + 1) (forest c.args.pool.now) (forest c.place_factor.new.pool)
more c m n hm hn = let h = next c.before.before.before.before.before m n hm hn in merged_more (c.loop-next.invariant.merged m n hm hn) c.in-Some.next h (c.in_ok-_factor.ensures.ok h.factor h.read)

pub following-first-requires : goal.following-first-requires
following-first-requires c =
    let (m, n, hm, hn) = c.requires.monomials in
    let old = (c.loop-next.invariant.merged m n hm hn).adds in
    let new = (more (goal.at.following-first-requires c).In_ok-_factor m n hm hn).adds in
    let x = adds_beside new c.requires.first in
    record {
      stands = c.place_factor.ensures.safe.stands;
      expression = x.expression;
      factors = factors_beside new c.requires.first c.requires.factors;
      monomial = (m, subst (HasMonomial m) (sym x.same) hm);
      known = λ none k hk. still k c.loop-next.first c.loop-next.i none
          (head_beside c.loop-next.i c.loop-next.first old c.requires.first c.loop-next.invariant.first (subst (HasMonomial k) x.same hk));
    }

pub following-second-requires : goal.following-second-requires
following-second-requires c =
    let (m, n, hm, hn) = c.requires.monomials in
    let old = (c.loop-next.invariant.merged m n hm hn).adds in
    let new = (more (goal.at.following-second-requires c).In_ok-_factor m n hm hn).adds in
    let x = adds_beside new c.requires.second in
    record {
      stands = c.place_factor.ensures.safe.stands;
      expression = x.expression;
      factors = factors_beside new c.requires.second c.of-right.ensures;
      monomial = (n, subst (HasMonomial n) (sym x.same) hn);
      known = λ none k hk. still k c.loop-next.second c.loop-next.j none
          (head_beside c.loop-next.j c.loop-next.second old c.requires.second c.loop-next.invariant.second (subst (HasMonomial k) x.same hk));
    }

pub loop-next-preserved : goal.loop-next-preserved
loop-next-preserved c = record {
  first = c.following-first.ensures;
  second = c.following-second.ensures;
  merged = more (goal.at.loop-next-preserved c).In_ok-_factor;
  front = front_after c.loop-next.invariant.front c.place_factor.ensures.safe.front;
  kept = kept_after c.loop-next.invariant.kept c.in_ok-_factor.ensures.safe.kept;
  stands = c.place_factor.ensures.safe.stands;
}

pub returns : goal.returns
returns c = record {
  ok = λ m n hm hn.
      let w = c.loop-next.invariant.merged m n hm hn in
      let goes = c.in_ok-next.ensures.next (drop c.loop-next.i m) (drop c.loop-next.j n) (drop_monomial c.loop-next.i m hm.monomial) (drop_monomial c.loop-next.j n hn.monomial)
      (head_beside c.loop-next.i c.loop-next.first w.adds c.requires.first c.loop-next.invariant.first hm)
      (head_beside c.loop-next.j c.loop-next.second w.adds c.requires.second c.loop-next.invariant.second hn) in
      let (e, k) = all_gone c.in_ok-next.field-0 goes c.in_default.not-Some in
      let all = merged_all w e k in
      (w.many ∙ ap (λ (x : Monomial). length x) all, subst (λ (x : Monomial). AddsTrees (factor_trees x) (forest c.args.pool.now) (forest c.loop-next.pool)) all w.adds);
  fits = λ a b d e f h i. tt;
  room = λ a b d e. tt;
  safe = let i = c.loop-next.invariant in answered i.front i.kept i.stands;
}

-- ---- few bytes, and exponents that fit

pub returns-in_err-_factor : goal.returns-in_err-_factor
returns-in_err-_factor c = let r = c.from_residual-in_err-_factor.result in let said = c.from_residual-in_err-_factor.ensures in record {
  ok = λ a b d e. no_answer r _ said.0;
  fits = λ a b d e f h i. fits_full r c.in_err-_factor.field-0.0 _ said.0 said.1;
  room = λ m n hm hn.
      let i = c.loop-next.invariant in
      let w = i.merged m n hm hn in
      passed_on r (fault.Full c.in_err-_factor.field-0.0) (OfFull (λ full. free_of c.args.pool.now < factor_bytes * length (monomial_times m n))) said.0 said.1
      (omega (arith, adds_free c.requires.stands i.stands i.kept w.adds, factors_most w.done, c.in_err-_factor.ensures.room, merged_length w (next (goal.at.returns-in_err-_factor c).In-Some m n hm hn)));
  safe = let i = c.loop-next.invariant in after i.kept i.front (passed_full r c.in_err-_factor.field-0.0 said.0 said.1 c.in_err-_factor.ensures.safe);
}

pub returns-in_err-next : goal.returns-in_err-next
returns-in_err-next c = let r = c.from_residual.result in let said = c.from_residual.ensures in record {
  ok = λ a b d e. no_answer r _ said.0;
  fits = λ m n k hm hn x l.
      let w = c.loop-next.invariant.merged m n hm hn in
      let rest = later_exponents k w.done (monomial_times (drop c.loop-next.i m) (drop c.loop-next.j n)) (subst (HasExponents k) (sym w.split) x) in
      absurd (c.in_err-next.ensures.fits (drop c.loop-next.i m) (drop c.loop-next.j n) k (drop_monomial c.loop-next.i m hm.monomial) (drop_monomial c.loop-next.j n hn.monomial)
      (head_beside c.loop-next.i c.loop-next.first w.adds c.requires.first c.loop-next.invariant.first hm)
      (head_beside c.loop-next.j c.loop-next.second w.adds c.requires.second c.loop-next.invariant.second hn) rest l);
  room = λ a b d e. room_overflow r c.in_err-next.field-0.0 _ said.0 said.1;
  safe = let i = c.loop-next.invariant in overflowed r c.in_err-next.field-0.0 said.0 said.1 c.in_err-next.ensures.overflow i.front i.kept i.stands;
}
