use Rattle.like_children.proofs.{Shared.{suc, ◌∙◌, sym, subst, arith, forest, rules}, Items.{children_count, children_told, next_child, last_child}, Pairs.{key_valid, key_as, one_key}}
use Rattle.like_children.proofs.neighbours.is_pair.Goals as goal

pub child_ids-ids-requires-clause-within : goal.child_ids-ids-requires-clause-within
child_ids-ids-requires-clause-within g c = rw c.id-2.ensures (omega (arith, children_count c.requires.stands c.requires.handed, c.requires.within))

pub returns-in_default-clause-each : goal.returns-in_default-clause-each
returns-in_default-clause-each g c = λ p.
    let t = next_child {n = c.args.at} c.requires.stands c.requires.handed (rw (← c.id-2.ensures) c.child_ids-ids.ensures) c.in_default.ensures.steps in
    let m = last_child {n = suc c.args.at} c.requires.stands c.requires.handed t.left-are c.in_default.ensures'.steps.0 in
    let w = p.within in
    absurd (omega (arith, w, m))

pub returns-in_default-2-clause-each : goal.returns-in_default-2-clause-each
returns-in_default-2-clause-each g c = λ p.
    let e = rw c.in_default.is-0 at c.next.ensures.steps in
    let m = last_child {n = c.args.at} c.requires.stands c.requires.handed (rw (← c.id-2.ensures) c.child_ids-ids.ensures) e.0 in
    let w = p.within in
    absurd (omega (arith, w, m))

pub key_if_any-left-requires : goal.key_if_any-left-requires
key_if_any-left-requires g c =
    let t = next_child {n = c.args.at} c.requires.stands c.requires.handed (rw (← c.id-2.ensures) c.child_ids-ids.ensures) c.in-Some-Some.ensures.steps in
    record { stands = search rules; tree = t.expression; told = subst g.L.Likes.can_tell (sym t.tree) (c.requires.told c.args.at t.within) }

pub key_if_any-right-requires : goal.key_if_any-right-requires
key_if_any-right-requires g c =
    let t = next_child {n = c.args.at} c.requires.stands c.requires.handed (rw (← c.id-2.ensures) c.child_ids-ids.ensures) c.in-Some-Some.ensures.steps in
    let u = next_child {n = suc c.args.at} c.requires.stands c.requires.handed t.left-are c.in-Some-Some.ensures'.steps in
    record { stands = search rules; tree = u.expression; told = subst g.L.Likes.can_tell (sym u.tree) (c.requires.told (suc c.args.at) u.within) }

pub have_one_key-requires-clause-first : goal.have_one_key-requires-clause-first
have_one_key-requires-clause-first g c = key_valid g.L.Likes.has_key g.L.Likes.key_of _ (forest c.args.pool.now) _ c.key_if_any-left.ensures

pub have_one_key-requires-clause-second : goal.have_one_key-requires-clause-second
have_one_key-requires-clause-second g c = key_valid g.L.Likes.has_key g.L.Likes.key_of _ (forest c.args.pool.now) _ c.key_if_any-right.ensures

pub returns : goal.returns
returns g c =
    let t = next_child {n = c.args.at} c.requires.stands c.requires.handed (rw (← c.id-2.ensures) c.child_ids-ids.ensures) c.in-Some-Some.ensures.steps in
    let u = next_child {n = suc c.args.at} c.requires.stands c.requires.handed t.left-are c.in-Some-Some.ensures'.steps in
    let left = key_as g.L.Likes.has_key g.L.Likes.key_of (forest c.args.pool.now) c.key_if_any-left.result t.tree c.key_if_any-left.ensures in
    let right = key_as g.L.Likes.has_key g.L.Likes.key_of (forest c.args.pool.now) c.key_if_any-right.result u.tree c.key_if_any-right.ensures in
    let same = c.have_one_key.ensures ∙ one_key g.L.Likes.has_key g.L.Likes.key_of _ _ (forest c.args.pool.now) _ _ left right in
    let m = children_told c.requires.stands c.requires.handed c.id.ensures c.children.ensures.value in
    record {
      pair = λ e. record { within = u.within; pair = sym same ∙ e };
      each = λ p. same ∙ p.pair;
      fits = λ e. omega (arith, m, c.requires.within, c.children.type_inv);
    }

pub overflow_sub-children : goal.overflow_sub-children
overflow_sub-children g c = omega (arith, c.requires.within, children_told c.requires.stands c.requires.handed c.id.ensures c.children.ensures.value)

pub returns-then-at-children-clause-each : goal.returns-then-at-children-clause-each
returns-then-at-children-clause-each g c = λ p.
    let m = children_told c.requires.stands c.requires.handed c.id.ensures c.children.ensures.value in
    let w = p.within in
    absurd (omega (arith, w, m, c.if-at-children.true))
