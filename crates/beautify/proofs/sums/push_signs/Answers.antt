use Rattle.beautify.proofs.Shared.{◌≡◌, ◌∙◌, ◌∷◌, ◌++◌, [], ℕ, suc, length, refl, sym, ap, arith, length-append, has_minus, children_of, plain, rest_trees, tree_at, kids_of, forest, next_child}
use Rattle.beautify.proofs.{Shared.{last_child, root_ids}, SumSigns.{signed_first, plus_next, minus_next, signed_all, added_length}, Steps.{few_children}, Pushing.{owes_as}, Trees.{count_behind}}
use Rattle.beautify.proofs.sums.push_signs.Goals as goal

pub loop-term-init : goal.loop-term-init
loop-term-init c = record {
  ids = c.into_iter-term-iterator.ensures.into_iter_gives ∙ c.child_ids-term-items.ensures;
  signed = signed_first (children_of (plain (tree_at c.args.sum (forest c.args.pool.now)))) (forest c.args.pool.now) c.args.pending.now.items c.requires.some;
  capacity = omega arith;
}

pub is_negative-requires-clause-expression : goal.is_negative-requires-clause-expression
is_negative-requires-clause-expression c = (next_child {n = suc (length c.loop-term.yielded)} c.requires.stands c.requires.expression c.loop-term.invariant.ids c.in-Some.ensures.steps).expression

pub push_over-requires-clause-room : goal.push_over-requires-clause-room
push_over-requires-clause-room c =
    let n = next_child {n = suc (length c.loop-term.yielded)} c.requires.stands c.requires.expression c.loop-term.invariant.ids c.in-Some.ensures.steps in
    let s = c.loop-term.invariant.signed in
    omega (arith, added_length c.loop-term.terms s.has.some c.push_added.ensures.one c.push_added.ensures.length, s.long, n.within, c.requires.room, c.loop-term.invariant.capacity, c.push_added.ensures.capacity)

pub loop-term-preserved-then-is_negative : goal.loop-term-preserved-then-is_negative
loop-term-preserved-then-is_negative c =
    let l = c.loop-term in
    let s = l.invariant.signed in
    let n = next_child {n = suc (length c.loop-term.yielded)} c.requires.stands c.requires.expression l.invariant.ids c.in-Some.ensures.steps in
    let one_on : suc (suc (length l.yielded)) ≡ suc (length (l.yielded ++ c.in-Some.term ∷ [])) = omega (arith, length-append l.yielded (c.in-Some.term ∷ [])) in
    record {
      ids = n.left-are ∙ ap (λ (k : ℕ). root_ids (rest_trees k (kids_of c.args.sum (forest c.args.pool.now)))) one_on;
      signed = rw (← one_on) (minus_next s n.within (sym c.if-is_negative.true ∙ c.is_negative.ensures ∙ ap has_minus n.tree) (record { one = c.push_added.ensures.one; some = c.push_added.ensures.some })
          (added_length l.terms s.has.some c.push_added.ensures.one c.push_added.ensures.length) (c.push_over.ensures.owed (forest c.args.pool.now)) c.push_over.ensures.length);
      capacity = omega (arith, l.invariant.capacity, c.push_added.ensures.capacity, c.push_over.ensures.capacity);
    }

pub overflow_add-terms : goal.overflow_add-terms
overflow_add-terms c =
    let n = next_child {n = suc (length c.loop-term.yielded)} c.requires.stands c.requires.expression c.loop-term.invariant.ids c.in-Some.ensures.steps in
    record { fits = omega (arith, c.loop-term.invariant.signed.bytes, n.within, few_children c.args.sum c.args.pool.now c.requires.stands c.requires.expression) }

pub loop-term-preserved : goal.loop-term-preserved
loop-term-preserved c =
    let l = c.loop-term in
    let n = next_child {n = suc (length c.loop-term.yielded)} c.requires.stands c.requires.expression l.invariant.ids c.in-Some.ensures.steps in
    let one_on : suc (suc (length l.yielded)) ≡ suc (length (l.yielded ++ c.in-Some.term ∷ [])) = omega (arith, length-append l.yielded (c.in-Some.term ∷ [])) in
    record {
      ids = n.left-are ∙ ap (λ (k : ℕ). root_ids (rest_trees k (kids_of c.args.sum (forest c.args.pool.now)))) one_on;
      signed = rw (← one_on) (plus_next l.invariant.signed n.within (sym c.if-is_negative.false ∙ c.is_negative.ensures ∙ ap has_minus n.tree));
      capacity = l.invariant.capacity;
    }

pub returns-clause-owed : goal.returns-clause-owed
returns-clause-owed c us r o =
    let last = last_child c.requires.stands c.requires.expression c.loop-term.invariant.ids c.in-None.ensures.steps.0 in
    owes_as (signed_all c.loop-term.invariant.signed last (record { one = c.push_added-2.ensures.one; some = c.push_added-2.ensures.some }) us r o) refl
    (omega (arith, count_behind 1 (children_of (plain (tree_at c.args.sum (forest c.args.pool.now))))))
