use Rattle.product_reduce.proofs.Shared.{◌∙◌, inr, ap, sym, subst, arith, rules, value, are_reduced, surd_times, HasFewBits, fold_values, mul_op, Trees, is_mult, are_rationals, SpansTrees}
use Rattle.product_reduce.proofs.Shared.{result_lacks, LeavesChildren, rational_of, rationals_of, AreJoined, IsNextOf, some_number, many, refused_as, tree_of, without_root, forest, behind_first}
use Rattle.product_reduce.proofs.{Shared.{behind_new, front_same, front_put, front_after_two, factors_in, NamesProduct, if_ok_map, if_ok_both}, Finished.{reduced_nth}}
use Rattle.product_reduce.proofs.{Begun.{seen, taken_out, begun_free}, Progress.{multiplied, next_misfit, next_fits, total_answer}, Products.{factors_are}}
use Rattle.like_children.specs.Numbers.{numbers_in, others_in}
use Rattle.product_reduce.proofs.numbers.take_coefficient.Goals as goal

pub collect_numbers-requires : goal.collect_numbers-requires
collect_numbers-requires c =
    let w = c.in_ok-first.ensures.ok in
    let e = seen c.requires.product w in
    record {
      stands = search rules;
      parent = e.handed;
      many = inr (ap is_mult e.product.tree);
      reduced = λ n l. reduced_nth n (factors_in c.args.product.now (forest c.take_first_number.new.pool)) l (ap are_reduced (factors_are e.product) ∙ w.begun.reduced);
      number = e.number;
    }

-- ---- what it answers

pub returns : goal.returns
returns c =
    let w = c.in_ok-first.ensures.ok in
    let e = seen c.requires.product w in
    let own = factors_are e.product in
    let first = tree_of c.in_ok-first.first c.take_first_number.new.pool in
    let collect = c.collect_numbers.ensures in
    let free = begun_free c.requires.stands c.in_ok-first.ensures.leaves.stands c.in_ok-first.ensures.leaves.kept (many c.requires.product.handed (inr (ap is_mult c.requires.product.tree))) w in
    record {
      taken = if_ok_map c.collect_numbers.result collect.ok
          (λ h k. taken_out c.requires.product w.left (subst
          (λ (us : Trees). LeavesChildren c.args.product.now us (without_root c.in_ok-first.first (forest c.take_first_number.new.pool)) (forest c.collect_numbers.new.pool) h)
          (ap others_in own ∙ w.begun.others) k));
      coefficient = if_ok_both c.collect_numbers.result collect.number collect.joined
          (λ h n j. multiplied _ w.us _ _ w.begun n (subst (λ (us : Trees). AreJoined surd_times first (numbers_in us) (tree_of h c.collect_numbers.new.pool)) own j));
      rationals = λ q m.
          let f = w.begun.folded q m in
          let same = ap (λ (us : Trees). fold_values mul_op (rational_of first) (rationals_of us)) (sym own) in
          total_answer _ _ c.collect_numbers.new.pool c.collect_numbers.result (f.plain ∙ same) (collect.rationals f.rational (ap are_rationals own ∙ f.rationals));
      overflow = refused_as c.collect_numbers.result collect.overflow
          (λ o h. next_misfit _ w.us _ w.begun o (subst (λ (us : Trees). (s : IsNextOf surd_times first (numbers_in us)) × NamesProduct s.so_far s.next o) own h));
      bits = λ h l a few. collect.bits
          (subst (λ (us : Trees). (s : IsNextOf surd_times first (numbers_in us)) → HasFewBits (surd_times (value s.so_far) (value s.next))) (sym own) (next_fits _ w.us _ h l w.begun a few));
      room = λ gs s.
          let both = w.begun.spanned gs s in
          result_lacks c.collect_numbers.result _ _ (collect.room gs both.0 (subst (SpansTrees gs) (sym own) both.1)) (λ f l. omega (arith, l, free));
      front = front_after_two behind_first (behind_new w.left.given.ends (front_put w.left.kids behind_first front_same)) c.in_ok-first.ensures.front collect.front;
      leaves = search rules;
    }

-- ---- bytes that are lacking for a 1

pub returns-in_err-first-clause-rationals : goal.returns-in_err-first-clause-rationals
returns-in_err-first-clause-rationals c = λ q m. absurd (some_number (factors_in c.args.product.now (forest c.args.pool.now)) q m c.in_err-first.ensures.some)
