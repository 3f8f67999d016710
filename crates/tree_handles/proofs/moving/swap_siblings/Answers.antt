use Rattle.tree_handles.proofs.{AtRoots.changed_root, Joins.with_kids-same, Shared.{rules, ◌≡◌, ℕ, sym, ap, ◌∙◌, arith, AreSiblings, Forest, swapped_nth, kids_of, with_kids, forest}}
use Rattle.tree_handles.proofs.{Nths.{pair, swapped_nth-same}, ChildPlaces.{placed, ordered, turned}, moving.swap_siblings.Goals.{After-swap_apart, After-swap_apart-then-right-left, Else-right-left}}
use Rattle.tree_handles.proofs.moving.swap_siblings.Goals as goal

pub locate-left-requires : goal.locate-left-requires
locate-left-requires c = let s = c.requires.siblings in (placed s.1 s.0 c.args.first c.args.pool.now c.requires.stands s.3.first).live

pub locate-right-requires : goal.locate-right-requires
locate-right-requires c = let s = c.requires.siblings in (placed s.2 s.0 c.args.second c.args.pool.now c.requires.stands s.3.second).live

pub swap_apart-requires-clause-siblings : goal.swap_apart-requires-clause-siblings
swap_apart-requires-clause-siblings c =
    let s = c.requires.siblings in
    let o = ordered s.0 s.1 c.args.first s.2 c.args.second c.args.pool.now c.requires.stands s.3 in
    (s.0, s.1, s.2, o.rising (omega (arith, c.locate-left.ensures.value, c.locate-right.ensures.value)), s.3)

pub swap_apart-requires-then-right-left-clause-siblings : goal.swap_apart-requires-then-right-left-clause-siblings
swap_apart-requires-then-right-left-clause-siblings c =
    let s = c.requires.siblings in
    let o = ordered s.0 s.2 c.args.second s.1 c.args.first c.args.pool.now c.requires.stands (turned s.3) in
    (s.0, s.2, s.1, o.rising (omega (arith, c.locate-left.ensures.value, c.locate-right.ensures.value)), turned s.3)

forward : (c : After-swap_apart) (p i j : ℕ) → AreSiblings p i c.args.first j c.args.second (forest c.args.pool.now) → forest c.swap_apart.new.pool ≡ with_kids p (swapped_nth i j (kids_of p (forest c.args.pool.now))) (forest c.args.pool.now)
forward c p i j h =
    let o = ordered p i c.args.first j c.args.second c.args.pool.now c.requires.stands h in
    c.swap_apart.ensures.forest p i j (o.rising (omega (arith, c.locate-left.ensures.value, c.locate-right.ensures.value))) h

pub returns-then-left-right-clause-forest : goal.returns-then-left-right-clause-forest
returns-then-left-right-clause-forest c = forward c

pub returns-then-left-right-clause-root : goal.returns-then-left-right-clause-root
returns-then-left-right-clause-root c = λ p i j h. changed_root p c.args.pool.now c.swap_apart.new.pool (λ k. swapped_nth i j k) c.requires.stands (forward c p i j h)

back : (c : After-swap_apart-then-right-left) (p i j : ℕ) → AreSiblings p i c.args.first j c.args.second (forest c.args.pool.now)
    → forest c.swap_apart-then-right-left.new.pool ≡ with_kids p (swapped_nth i j (kids_of p (forest c.args.pool.now))) (forest c.args.pool.now)
back c p i j h =
    let f = forest c.args.pool.now in
    let o = ordered p j c.args.second i c.args.first c.args.pool.now c.requires.stands (turned h) in
    let lt = o.rising (omega (arith, c.locate-left.ensures.value, c.locate-right.ensures.value)) in
    let q = pair j i (kids_of p f) lt h.first.within in
    c.swap_apart-then-right-left.ensures.forest p j i lt (turned h) ∙ ap (λ (k : Forest). with_kids p k f) (q.swapped ∙ sym q.back)

pub returns-then-right-left-clause-forest : goal.returns-then-right-left-clause-forest
returns-then-right-left-clause-forest c = back c

pub returns-then-right-left-clause-root : goal.returns-then-right-left-clause-root
returns-then-right-left-clause-root c = λ p i j h. changed_root p c.args.pool.now c.swap_apart-then-right-left.new.pool (λ k. swapped_nth i j k) c.requires.stands (back c p i j h)

same : (c : Else-right-left) (p i j : ℕ) → AreSiblings p i c.args.first j c.args.second (forest c.args.pool.now) → forest c.args.pool.now ≡ with_kids p (swapped_nth i j (kids_of p (forest c.args.pool.now))) (forest c.args.pool.now)
same c p i j h =
    let f = forest c.args.pool.now in
    let o = ordered p i c.args.first j c.args.second c.args.pool.now c.requires.stands h in
    let equal : i ≡ j = o.equal (omega (arith, c.locate-left.ensures.value, c.locate-right.ensures.value, c.if-left-right.false, c.if-right-left.false)) in
    sym (with_kids-same p f) ∙ ap (λ (k : Forest). with_kids p k f) (sym (swapped_nth-same i (kids_of p f)) ∙ ap (λ (m : ℕ). swapped_nth i m (kids_of p f)) equal)

pub returns-else-right-left : goal.returns-else-right-left
returns-else-right-left c =
    record { forest = same c; root = λ p i j h. changed_root p c.args.pool.now c.args.pool.now (λ k. swapped_nth i j k) c.requires.stands (same c p i j h); kept = search rules; stands = search rules }
