use Rattle.coefficients.proofs.Shared.{◌∙◌, sym, ap, refl, ◌^◌, length, subst, arith, released_free, is_reduced, plain, Forest, root_tree, without_root, forest, behind_first, behind_later}
use Rattle.coefficients.proofs.Shared.{front_after_one, front_at, front_same, front_without, gives_as, handed_at, handed_beside, owned, eqb-sym, if_map, tree-without, without-swap, with_coefficient}
use Rattle.coefficients.proofs.{Shared.{seen, kind_of_root, counted, SpansTree, Tree, size, put_room, free_of, refused_below, tree_of}, Named.{result_named, put_as}}
use Rattle.coefficients.proofs.{Puttings.{on_ok_after, fault_after, with_irrational}, Lacks.{refusal_lacks, result_lacks}, Rooms.{both_lack}}
use Rattle.coefficients.proofs.putting.put_coefficient.Goals as goal

pub put_rational-requires-clause-handed : goal.put_rational-requires-clause-handed
put_rational-requires-clause-handed c = handed_at (handed_beside c.args.coefficient c.requires.apart c.requires.second) (c.release.ensures.owned (owned c.requires.first))

pub put_rational-requires-clause-reduced : goal.put_rational-requires-clause-reduced
put_rational-requires-clause-reduced c =
    let gone = c.release.ensures.owned (owned c.requires.first) in
    let same = ap (λ (f : Forest). plain (root_tree c.args.part f)) gone ∙ ap plain (tree-without c.args.coefficient c.args.part (forest c.args.pool.now) c.requires.apart) in
    ap is_reduced same ∙ c.requires.reduced

pub returns-in-Num : goal.returns-in-Num
returns-in-Num c =
    let gone = c.release.ensures.owned (owned c.requires.first) in
    let same = ap (λ (f : Forest). plain (root_tree c.args.part f)) gone ∙ ap plain (tree-without c.args.coefficient c.args.part (forest c.args.pool.now) c.requires.apart) in
    let was = sym c.rational-q.ensures.plain ∙ seen c.id-in-Num.ensures c.requires.stands c.requires.first in
    let swapped = without-swap c.args.part c.args.coefficient (forest c.args.pool.now) (eqb-sym c.args.coefficient c.args.part c.requires.apart) in
    let more = released_free c.requires.stands c.release.ensures.stands c.release.ensures.kept c.requires.first gone in
    let put = c.put_rational.ensures in
    record {
      ok = if_map c.put_rational.result _ _ put.ok (λ h x. gives_as x (ap (without_root c.args.part) gone ∙ swapped) (λ t e. e ∙ (λ i. with_coefficient (was i) (same i))));
      front = front_after_one (behind_later behind_first) (front_at (front_without behind_first front_same) gone) put.front;
      kept = on_ok_after c.put_rational.result _ _ _ c.release.ensures.kept put.kept;
      faults = fault_after c.put_rational.result _ _ _ c.release.ensures.kept put.faults;
      caused = put.caused;
      named = result_named c.put_rational.result _ _ put.named (λ o h. put_as o was same h);
      room = λ gs n s u. result_lacks c.put_rational.result _ _ (put.room gs (subst (SpansTree gs) (sym same) u))
          (λ g l. omega (arith, more, ap size same, ap (λ (v : Tree). put_room (counted v) (2 ^ length gs)) same, l));
      stands = put.stands;
    }

pub returns-in_ok-splice-in_default : goal.returns-in_ok-splice-in_default
returns-in_ok-splice-in_default c =
    let splice = c.in_ok-splice-in_default.ensures in
    let k = kind_of_root {k = c.kind.result} c.id.ensures c.requires.stands c.requires.first c.kind.ensures.plain in
    record {
      ok = gives_as splice.ok refl (λ t e. e ∙ with_irrational _ _ (λ n. c.in_default.not-Num (k ∙ sym n)));
      front = splice.front;
      kept = splice.kept;
      faults = tt;
      caused = tt;
      named = tt;
      room = λ gs n s u. tt;
      stands = splice.stands;
    }

pub returns-in_err-splice-in_default-clause-room : goal.returns-in_err-splice-in_default-clause-room
returns-in_err-splice-in_default-clause-room c gs n s u =
    refusal_lacks c.from_residual.result c.in_err-splice-in_default.field-0.0 _ c.from_residual.ensures.1
    (both_lack gs (tree_of c.args.coefficient c.args.pool.now) (tree_of c.args.part c.args.pool.now) (free_of c.args.pool.now) n c.requires.reduced s u
    (refused_below c.in_err-splice-in_default.ensures.full))
