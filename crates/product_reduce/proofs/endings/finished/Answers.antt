use Rattle.product_reduce.proofs.Shared.{ℕ, ◌≡◌, ◌≤◌, ◌^◌, length, ◌∙◌, ap, sym, subst, arith, rules, refl, is_number, is_reduced, product_tree, counted, SpansTree, Tree, mult, count, size, put_room}
use Rattle.product_reduce.proofs.Shared.{result_lacks, refused_as, replaced_free, tree_of, product_counts, if_map, eqb-sym, behind_first, behind_later, behind_new, front_same, front_after_one}
use Rattle.product_reduce.proofs.Shared.{front_after_two, front_without, forest, given_apart, given_handed, given_other, given_told, factors_in, gives_as, factors_monic, handed_beside, no_factors}
use Rattle.product_reduce.proofs.{Shared.{spans_product, put_as}, Misfits.{put_alone}, Readied.{put_given, alone_ends, part_factors, beside_part}}
use Rattle.product_reduce.proofs.endings.finished.Goals as goal

pub returns-then-factor_count-eq0-clause-ok : goal.returns-then-factor_count-eq0-clause-ok
returns-then-factor_count-eq0-clause-ok c =
    let empty = no_factors (factors_in c.args.product (forest c.args.pool.now)) (omega (arith, c.factor_count.ensures, c.if-factor_count-eq0.true)) in
    gives_as c.alone.ensures.ok refl (λ t e. alone_ends _ _ t empty c.requires.number e)

pub put_coefficient-requires : goal.put_coefficient-requires
put_coefficient-requires c =
    let g = c.unwrapped-part.ensures.tree in
    let beside = handed_beside c.args.product (eqb-sym c.args.coefficient c.args.product c.requires.apart) c.requires.coefficient in
    let some : 1 ≤ count (factors_in c.args.product (forest c.args.pool.now)) = omega (arith, c.factor_count.ensures, c.if-factor_count-eq0.false) in
    record {
      stands = search rules;
      first = given_other g beside;
      second = given_handed g;
      apart = eqb-sym c.unwrapped-part.result c.args.coefficient (given_apart g beside);
      reduced = ap is_reduced (given_told g) ∙ (factors_monic _ (part_factors _ c.requires.others c.requires.differ c.requires.order some)).reduced;
    }

pub returns : goal.returns
returns c =
    let ts = factors_in c.args.product (forest c.args.pool.now) in
    let g = c.unwrapped-part.ensures.tree in
    let put = c.put_coefficient.ensures in
    let some : 1 ≤ count ts = omega (arith, c.factor_count.ensures, c.if-factor_count-eq0.false) in
    let same = beside_part c.args.product c.args.coefficient (forest c.args.pool.now) c.requires.apart c.requires.coefficient g in
    let part : tree_of c.unwrapped-part.result c.unwrapped-part.new.pool ≡ product_tree ts = given_told g in
    let free = replaced_free c.requires.stands c.unwrapped-part.ensures.stands c.unwrapped-part.ensures.kept c.requires.product.handed g in
    record {
      ok = if_map c.put_coefficient.result _ _ put.ok
          (λ h x. put_given c.args.product c.args.coefficient c.unwrapped-part.result h _ _ _ c.requires.apart c.requires.coefficient c.requires.others c.requires.differ c.requires.order
          c.requires.number some g x);
      alone = λ e. absurd (omega (arith, some, ap count e));
      overflow = refused_as c.put_coefficient.result put.named (λ o h. put_alone _ ts o (put_as o same part h));
      front = front_after_two (behind_later behind_first) (behind_new g.ends (front_without behind_first front_same))
          (front_after_one behind_first front_same c.unwrapped-part.ensures.front) put.front;
      room = λ gs s k.
          let room : put_room (counted (tree_of c.unwrapped-part.result c.unwrapped-part.new.pool)) (2 ^ length gs) ≡ put_room (counted (mult ts)) (2 ^ length gs) =
          ap (λ (t : Tree). put_room (counted t) (2 ^ length gs)) part ∙ ap (λ (n : ℕ). put_room n (2 ^ length gs)) (product_counts ts) in
          result_lacks c.put_coefficient.result _ _
          (put.room gs (ap is_number same ∙ c.requires.number) (subst (SpansTree gs) (sym same) s) (subst (SpansTree gs) (sym part) (spans_product gs ts k)))
          (λ x l. omega (arith, free, ap size same, ap size c.requires.product.tree, room, l));
      leaves = search rules;
    }
