use Rattle.std.proofs.Common.{◌≡◌, false, length, ◌<◌, ◌+◌, ◌^◌, rules, sym, ap, ◌∙◌, subst, refl}
use Rattle.deep_reduce.proofs.Shared.{are_reduced, SpansTree, bare, size_of_payload, Tree, Trees, Kind, size, has_undef, takes_kind, IsCalmAtZero, HoldsNode, both_replaced_free, refused_below}
use Rattle.deep_reduce.proofs.Shared.{passed_on, free_of, Gives, tree_of, without_root, forest, children_of, compound, gives, given_handed, given_other, given_rest, given_told, represents_handed}
use Rattle.deep_reduce.proofs.{Shared.{joined_by, joined_room}, Connected.{children_joined, joined_lacks, takes_two}, Lacking.{leaves_after, result_lacks, short_two}, Results.{answer_as, overflow_as}}
use Rattle.deep_reduce.proofs.{Sides.{apart_second, joined_front}, Steps.{two}, Told.{answer_at, overflow_at, two_reduced}, differences.join_sides.Goals.{After-kind, In_ok-both}}
use Rattle.tree_handles.specs.declared.fault.NumberFault.TheVariants as fault
use Rattle.deep_reduce.proofs.differences.join_sides.Goals as goal

-- the right side stands last
last : (c : After-kind) → Gives (without_root c.args.right (forest c.args.pool.now)) (forest c.args.pool.now) c.args.right (λ t. t ≡ tree_of c.args.right c.args.pool.now)
last c = gives c.requires.last (represents_handed c.requires.handed) refl

-- the new node
is : (c : In_ok-both) → tree_of c.in_ok-both.both c.node_over_two.new.pool ≡ joined_by c.args.connective (two (tree_of c.args.left c.args.pool.now) (tree_of c.args.right c.args.pool.now))
is c = given_told c.in_ok-both.ensures.ok ∙ ap (λ (k : Kind). compound k (two (tree_of c.args.left c.args.pool.now) (tree_of c.args.right c.args.pool.now))) c.kind.ensures

children : (c : In_ok-both) → children_of (tree_of c.in_ok-both.both c.node_over_two.new.pool) ≡ two (tree_of c.args.left c.args.pool.now) (tree_of c.args.right c.args.pool.now)
children c = ap children_of (is c) ∙ children_joined c.args.connective (two (tree_of c.args.left c.args.pool.now) (tree_of c.args.right c.args.pool.now))

pub node_over_two-requires : goal.node_over_two-requires
node_over_two-requires c =
    let r = last (goal.at.node_over_two-requires c).After-kind in
    record {
      stands = c.requires.stands;
      takes = ap (λ (k : Kind). takes_kind k 2) c.kind.ensures ∙ takes_two c.args.connective;
      first = given_other r c.requires.left;
      second = c.requires.handed;
      apart = apart_second r c.requires.left;
    }

pub reduce_joined-requires : goal.reduce_joined-requires
reduce_joined-requires c =
    let n = (goal.at.reduce_joined-requires c).In_ok-both in
    record {
      stands = search rules;
      handed = given_handed c.in_ok-both.ensures.ok;
      joined = is n ∙ ap (joined_by c.args.connective) (sym (children n));
      reduced = ap are_reduced (children n) ∙ two_reduced _ _ c.requires.left_reduced c.requires.right_reduced;
    }

pub returns : goal.returns
returns c =
    let n = (goal.at.returns c).In_ok-both in
    let g = c.in_ok-both.ensures.ok in
    let r = last (goal.at.returns c).After-kind in
    let both = both_replaced_free c.requires.stands c.in_ok-both.ensures.stands c.in_ok-both.ensures.kept (apart_second r c.requires.left) (given_other r c.requires.left) c.requires.handed g in
    let w : Tree = tree_of c.in_ok-both.both c.node_over_two.new.pool in
    record {
      ok = answer_as _ _ c.reduce_joined.new.pool _ _ _ c.reduce_joined.ensures.ok (given_rest g) (λ u h. answer_at u (is n) h);
      overflow = overflow_as _ _ _ c.reduce_joined.ensures.overflow (λ o h. overflow_at o (is n) h);
      front = joined_front c.node_over_two.ensures.front g c.reduce_joined.ensures.front;
      room = λ gs ns k s.
          result_lacks c.reduce_joined.result (c.reduce_joined.ensures.room gs ns (subst (IsCalmAtZero ns) (sym (is n)) k) (subst (SpansTree gs) (sym (is n)) s))
          (λ l. short_two (free_of c.args.pool.now) _ _ both (subst (λ (x : Trees). free_of c.node_over_two.new.pool + size w < joined_room c.args.connective x (2 ^ length gs)) (children n) l));
      bits = λ h l k few. c.reduce_joined.ensures.bits h l (subst (λ (x : Tree). has_undef (children_of x) ≡ false → HoldsNode x h l) (sym (is n)) k) few;
      leaves = leaves_after c.reduce_joined.result _ _ _ c.in_ok-both.ensures.kept c.reduce_joined.ensures.leaves;
    }

pub returns-in_err-both : goal.returns-in_err-both
returns-in_err-both c =
    let f = c.from_residual in
    record {
      ok = search rules;
      overflow = search rules;
      front = c.node_over_two.ensures.front;
      room = λ gs ns k s. passed_on f.result (fault.Full c.in_err-both.field-0.0) _ f.ensures.0 f.ensures.1
          (joined_lacks c.args.connective gs _ _ (free_of c.args.pool.now) c.requires.left_reduced c.requires.right_reduced s
          (subst (λ (k : Kind). free_of c.args.pool.now < size_of_payload (bare k)) c.kind.ensures (refused_below c.in_err-both.ensures.full)));
      bits = λ h l k few. search rules;
      leaves = search rules;
    }
