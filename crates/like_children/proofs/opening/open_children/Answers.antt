use Rattle.like_children.proofs.Shared.{◌≡◌, ap, ◌∙◌, sym, subst, arith, rules, count, opened_from, opened_from_end, NoneOpensBetween, IsLastToOpen, nth, children_of, kids, merged_nth, tree_of}
use Rattle.like_children.proofs.{Shared.{root_tree, forest, keeps_none, keeps_after}, Items.{children_told}, Kids.{represents_merged}, Many.{many, many_handed, many_children, place_within}}
use Rattle.like_children.proofs.{Many.{child_within, child_once}, Openings.{nth_before, count_before, opened_down, found, has_same, has_after, has_as, has_many}}
use Rattle.like_children.proofs.opening.open_children.Goals as goal

pub loop-at-init : goal.loop-at-init
loop-at-init g c =
    let ts = children_of (tree_of c.args.parent.now c.args.pool.now) in
    let n = children_told c.requires.stands c.requires.handed c.id.ensures c.children-first.ensures.value in
    record {
      few = omega (arith, n);
      opened = has_as (has_same c.requires.handed c.requires.many) (sym (opened_from_end g.O.Opens.parts c.children-first.result ts (omega (arith, n))));
      kept = keeps_none c.args.pool.now;
      stands = c.requires.stands;
    }

pub last_to_open-requires : goal.last_to_open-requires
last_to_open-requires g c =
    let i = c.loop-at.invariant in
    let ts = children_of (tree_of c.args.parent.now c.args.pool.now) in
    let n : count (children_of (tree_of c.args.parent.now c.loop-at.pool)) ≡ count (opened_from g.O.Opens.parts c.loop-at.first ts) =
    ap count (many_children (has_many (many c.requires.handed c.requires.many) i.opened)) in
    let e = many_children (has_many (many c.requires.handed c.requires.many) i.opened) in
    record {
      stands = search rules;
      handed = many_handed (has_many (many c.requires.handed c.requires.many) c.loop-at.invariant.opened);
      within = omega (arith, count_before g.O.Opens.parts c.loop-at.first ts i.few, n);
      told = λ n l. subst g.O.Opens.can_tell (sym (ap (nth n) e ∙ nth_before g.O.Opens.parts n c.loop-at.first ts l i.few)) (c.requires.told n (omega (arith, l, i.few)));
    }

pub merge_children-requires : goal.merge_children-requires
merge_children-requires g c =
    let i = c.loop-at.invariant in
    let ts = children_of (tree_of c.args.parent.now c.args.pool.now) in
    let m = has_many (many c.requires.handed c.requires.many) i.opened in
    let last = subst (IsLastToOpen g.O.Opens.parts c.in-Some.at c.loop-at.first) (many_children m) c.in-Some.ensures in
    let w = (found g.O.Opens.parts c.in-Some.at c.loop-at.first ts i.few last).within in
    record { stands = search rules; within = child_within c.in-Some.at i.stands m w; unshared = child_once c.in-Some.at i.stands m w }

pub loop-at-preserved : goal.loop-at-preserved
loop-at-preserved g c =
    let i = c.loop-at.invariant in
    let at = c.in-Some.at in
    let ts = children_of (tree_of c.args.parent.now c.args.pool.now) in
    let m = has_many (many c.requires.handed c.requires.many) i.opened in
    let last = subst (IsLastToOpen g.O.Opens.parts at c.loop-at.first) (many_children m) c.in-Some.ensures in
    let here = found g.O.Opens.parts at c.loop-at.first ts i.few last in
    let now = merged_nth at (kids (root_tree c.args.parent.now (forest c.loop-at.pool))) in
    record {
      few = omega (arith, here.few);
      opened = has_as (has_after now i.opened (represents_merged at (place_within at m here.within) m.over.kids) (c.merge_children.ensures.root m.over.root)) here.opened;
      kept = keeps_after _ _ _ i.kept c.merge_children.ensures.kept;
      stands = c.merge_children.ensures.stands;
    }

pub returns-clause-opened : goal.returns-clause-opened
returns-clause-opened g c =
    let i = c.loop-at.invariant in
    let ts = children_of (tree_of c.args.parent.now c.args.pool.now) in
    let m = has_many (many c.requires.handed c.requires.many) i.opened in
    has_as i.opened (opened_down g.O.Opens.parts 0 c.loop-at.first ts (omega arith) i.few (subst (NoneOpensBetween g.O.Opens.parts 0 c.loop-at.first) (many_children m) c.in_default.ensures))
