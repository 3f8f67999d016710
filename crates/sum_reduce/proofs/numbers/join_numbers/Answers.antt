use Rattle.sum_reduce.proofs.Shared.{◌∙◌, inl, ap, sym, subst, arith, rules, passed_result, permuted_parts, is_number, plain_value, add, more, AnswersFold, forest, keeps_none, behind_first}
use Rattle.sum_reduce.proofs.Shared.{front_same, front_after_two, given_root, rational_others, tree_of, root_held, terms_in, passed_named, Overflows, SpansRoot, SpansTree, SpansTrees, passed_lacks}
use Rattle.sum_reduce.proofs.{Shared.{HaveFewBits, addends_of_each, taken_permuted, IsCaused, keeps_after, passed_on, faults_after, none_kept, Faults}, Sorted.{formed_nth}, Numbered.{gathered}}
use Rattle.sum_reduce.proofs.{Numbered.{next_hinders, next_fits, numbered, unnumbered, formed_behind, led_folded, rationals_taken, total_folded, total_faulted}, Sums.{taken_given, taken_on}}
use Rattle.sum_reduce.proofs.Sums.{sum_beside, takes_apart, changes_same, changes_front, sum_within, term_out, takes_front, takes_behind, put_in, roots_apart}
use Rattle.sum_reduce.proofs.{Hindered.{overflows_after, overflows_as, taken_first}, SumBytes.{out_free}, Held.{few_after, held_permuted}}
use Rattle.sum_reduce.proofs.numbers.join_numbers.Goals as goal

pub take_child-number-requires-clause-within : goal.take_child-number-requires-clause-within
take_child-number-requires-clause-within c =
    sum_within c.in-Some.at c.requires.stands c.requires.sum c.in-Some.ensures.within

pub collect_numbers-requires : goal.collect_numbers-requires
collect_numbers-requires c =
    let o = term_out c.in-Some.at c.requires.sum c.in-Some.ensures.within (c.take_child-number.ensures.last c.requires.sum.handed.root) in
    record {
      stands = c.take_child-number.ensures.stands;
      parent = (sum_beside c.take_child-number.result (takes_apart o.takes) o.takes.sum).handed;
      many = inl o.takes.sum.sum;
      reduced = λ n l. formed_nth n _ l (formed_behind c.in-Some.at (terms_in c.args.sum.now (forest c.args.pool.now)) _ c.in-Some.ensures.within c.requires.formed o.terms);
      number = taken_given o.takes (ap is_number o.tree ∙ c.in-Some.ensures.number);
    }

pub add_child-requires : goal.add_child-requires
add_child-requires c =
    let o = term_out c.in-Some.at c.requires.sum c.in-Some.ensures.within (c.take_child-number.ensures.last c.requires.sum.handed.root) in
    let t = (taken_on o.takes c.in_ok-total-in-Some.ensures.ok).takes in
    record {
      stands = c.in_ok-total-in-Some.ensures.stands;
      live = root_held c.args.sum.now _ t.sum.handed.root;
      within = search rules;
      root = given_root t.given;
      apart = roots_apart c.in_ok-total-in-Some.ensures.stands t;
    }

pub returns-in_ok-total-in-Some : goal.returns-in_ok-total-in-Some
returns-in_ok-total-in-Some c =
    let o = term_out c.in-Some.at c.requires.sum c.in-Some.ensures.within (c.take_child-number.ensures.last c.requires.sum.handed.root) in
    let total = c.in_ok-total-in-Some.ensures in
    let left = taken_on o.takes total.ok in
    let x = put_in 0 left.takes (c.add_child.ensures.root left.takes.sum.handed.root) in
    let ts = terms_in c.args.sum.now (forest c.args.pool.now) in
    let us = terms_in c.args.sum.now (forest c.take_child-number.new.pool) in
    let formed = formed_behind c.in-Some.at ts _ c.in-Some.ensures.within c.requires.formed o.terms in
    let all = gathered _ _ us (ap is_number o.tree ∙ c.in-Some.ensures.number) formed total.number total.joined in
    record {
      ok = x.changes;
      joined = numbered c.in-Some.at ts _ _ _ _ _ c.in-Some.ensures c.requires.formed c.requires.some o.terms o.tree all
          (x.terms ∙ ap (more (tree_of c.in_ok-total-in-Some.total c.collect_numbers.new.pool)) left.terms);
      rationals = λ q.
          let r = rationals_taken c.in-Some.at ts _ _ c.in-Some.ensures q o.terms o.tree in
          total_folded _ _ _ _ _ r.plain (total.rationals r.first r.others) (left.terms ∙ rational_others us r.others) x.terms;
      front = changes_front x.changes;
      kept = keeps_after _ _ _ (keeps_after _ _ _ c.take_child-number.ensures.kept total.kept) c.add_child.ensures.kept;
      faults = tt;
      caused = tt;
      overflow = tt;
      bits = λ b. tt;
      room = λ gs s. tt;
      stands = c.add_child.ensures.stands;
    }

pub returns-in_err-total-in-Some : goal.returns-in_err-total-in-Some
returns-in_err-total-in-Some c =
    let ts = terms_in c.args.sum.now (forest c.args.pool.now) in
    let o = term_out c.in-Some.at c.requires.sum c.in-Some.ensures.within (c.take_child-number.ensures.last c.requires.sum.handed.root) in
    let formed = formed_behind c.in-Some.at ts _ c.in-Some.ensures.within c.requires.formed o.terms in
    let number = ap is_number o.tree ∙ c.in-Some.ensures.number in
    let moved = taken_permuted c.in-Some.at ts c.in-Some.ensures.within in
    let fault = c.in_err-total-in-Some.field-0.0 in
    let told = c.in_err-total-in-Some.ensures in
    let free = out_free c.requires.stands c.take_child-number.ensures.stands c.take_child-number.ensures.kept c.in-Some.ensures.within o in
    record {
      ok = none_kept c.from_residual.result _ c.from_residual.ensures.0;
      joined = none_kept c.from_residual.result _ c.from_residual.ensures.0;
      rationals = λ q.
          let r = rationals_taken c.in-Some.at ts _ _ c.in-Some.ensures q o.terms o.tree in
          let vs = terms_in c.args.sum.now (forest c.collect_numbers.new.pool) in
          passed_result c.from_residual.result fault (AnswersFold (plain_value (add ts)) vs) c.from_residual.ensures.0 c.from_residual.ensures.1
          (total_faulted _ _ c.collect_numbers.new.pool vs _ r.plain (told.rationals r.first r.others));
      front = front_after_two behind_first (takes_behind o.takes) (takes_front o.takes) c.collect_numbers.ensures.front;
      kept = none_kept c.from_residual.result _ c.from_residual.ensures.0;
      faults = passed_on c.from_residual.result fault (Faults c.args.pool.now c.collect_numbers.new.pool) c.from_residual.ensures.0 c.from_residual.ensures.1
          (faults_after _ fault c.take_child-number.ensures.kept told.faults);
      caused = passed_on c.from_residual.result fault (IsCaused c.collect_numbers.new.pool) c.from_residual.ensures.0 c.from_residual.ensures.1 told.caused;
      overflow = passed_named c.from_residual.result fault _ (Overflows ts) c.from_residual.ensures.1 told.overflow
          (λ x h. overflows_after (taken_first c.in-Some.at ts c.in-Some.ensures.within) x (overflows_as (λ i. more (o.tree i) (o.terms i)) x (next_hinders _ _ number formed x h)));
      bits = λ b. passed_named c.from_residual.result fault (λ o. ⊥) (λ o. ⊥) c.from_residual.ensures.1
          (told.bits (next_fits _ _ number formed (subst HaveFewBits (λ i. addends_of_each (more (sym o.tree i) (sym o.terms i))) (few_after (held_permuted moved) b)))) (λ x h. h);
      room = λ gs s.
          let all = permuted_parts (SpansRoot gs) moved s in
          passed_lacks c.from_residual.result fault _ _ c.from_residual.ensures.1
          (told.room gs (subst (SpansTree gs) (sym o.tree) all.0) (subst (SpansTrees gs) (sym o.terms) all.1)) (λ full l. omega (arith, l, free));
      stands = c.collect_numbers.ensures.stands;
    }

pub returns-in-None : goal.returns-in-None
returns-in-None c =
    record {
      ok = changes_same c.requires.sum;
      joined = unnumbered (terms_in c.args.sum.now (forest c.args.pool.now)) c.in-None.ensures c.requires.formed c.requires.some;
      rationals = λ q. led_folded (terms_in c.args.sum.now (forest c.args.pool.now)) c.in-None.ensures q c.requires.some;
      front = front_same;
      kept = keeps_none c.args.pool.now;
      faults = tt;
      caused = tt;
      overflow = tt;
      bits = λ b. tt;
      room = λ gs s. tt;
      stands = c.requires.stands;
    }
