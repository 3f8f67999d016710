use Rattle.sum_reduce.proofs.Shared.{◌∙◌, ap, ℕ, ◌<◌, sym, subst, arith, ◌++◌, rules, sizes_taken, is_number, value, is_reduced, is_undef, size, sizes, number_test, coefficient_of, taken, nth, forest}
use Rattle.sum_reduce.proofs.Shared.{behind_first, behind_later, front_after_one, front_after_two, given_told, eqb-sym, if_map, terms_in, result_named, free_of, SpansRoot, SpansTree, refusal_lacks}
use Rattle.sum_reduce.proofs.{Shared.{result_lacks, tree_of, keeps_after, HasFewBits, if_ok_both}, Sums.{sum_within, term_out, takes_handed, takes_behind, takes_front, rewritten, other_handed}}
use Rattle.sum_reduce.proofs.{Sums.{other_same, other_clear, both_rewritten}, Hindered.{numbers_named, names_as}, CollectedParts.{coefficient_parts}, Rooms.{number_lacks}}
use Rattle.sum_reduce.proofs.SumBytes.{out_free, takes_free}
use Rattle.sum_reduce.proofs.joining.add_partner.Goals as goal

pub take_child-term-requires-clause-within : goal.take_child-term-requires-clause-within
take_child-term-requires-clause-within c = sum_within c.args.at c.requires.stands c.requires.sum c.requires.within

pub coefficient_alone-requires : goal.coefficient_alone-requires
coefficient_alone-requires c =
    let o = term_out c.args.at c.requires.sum c.requires.within (c.take_child-term.ensures.last c.requires.sum.handed.root) in
    record {
      stands = search rules;
      handed = takes_handed o.takes;
      reduced = ap is_reduced o.tree ∙ c.requires.reduced;
      defined = ap is_undef o.tree ∙ c.requires.defined;
      no_number = ap is_number o.tree ∙ c.requires.no_number;
    }

pub add_numbers-requires : goal.add_numbers-requires
add_numbers-requires c =
    let o = term_out c.args.at c.requires.sum c.requires.within (c.take_child-term.ensures.last c.requires.sum.handed.root) in
    let r = rewritten o.takes c.in_ok-coefficient.ensures.ok in
    let t = nth c.args.at (terms_in c.args.sum.now (forest c.args.pool.now)) in
    record {
      stands = search rules;
      first = other_handed c.requires.apart c.requires.handed r.takes;
      second = takes_handed r.takes;
      apart = eqb-sym c.in_ok-coefficient.coefficient c.args.so_far (other_clear c.requires.apart c.requires.handed r.takes);
      first_number = ap is_number (other_same c.requires.apart c.requires.handed r.takes) ∙ c.requires.so_far;
      second_number =
          ap is_number (given_told c.in_ok-coefficient.ensures.ok ∙ ap coefficient_of o.tree)
          ∙ number_test (coefficient_of t) (taken t c.requires.reduced c.requires.defined c.requires.no_number).number;
    }

pub returns : goal.returns
returns c =
    let o = term_out c.args.at c.requires.sum c.requires.within (c.take_child-term.ensures.last c.requires.sum.handed.root) in
    let r = rewritten o.takes c.in_ok-coefficient.ensures.ok in
    let add = c.add_numbers.ensures in
    let ts = terms_in c.args.sum.now (forest c.args.pool.now) in
    let same = given_told c.in_ok-coefficient.ensures.ok ∙ ap coefficient_of o.tree in
    let before = other_same c.requires.apart c.requires.handed r.takes in
    let kept = keeps_after _ _ _ c.take_child-term.ensures.kept c.in_ok-coefficient.ensures.kept in
    let free = takes_free c.requires.stands c.in_ok-coefficient.ensures.stands kept r.takes in
    record {
      ok = if_map c.add_numbers.result _ _ add.ok (λ h k. (both_rewritten c.requires.apart c.requires.handed r.takes k).takes);
      terms = if_map c.add_numbers.result _ _ add.ok (λ h k. (both_rewritten c.requires.apart c.requires.handed r.takes k).terms ∙ r.terms ∙ o.terms);
      number = if_ok_both c.add_numbers.result add.ok add.measured
          (λ h k m. let t = given_told k in record { number = t.number; worth = rw (before, same) at t.worth; parts = rw (before, same) at m.parts });
      front = front_after_two (behind_later behind_first) (takes_behind r.takes) (takes_front r.takes) add.front;
      kept = search rules;
      faults = search rules;
      caused = add.caused;
      overflow = result_named c.add_numbers.result _ _ (numbers_named _ _ c.add_numbers.new.pool c.add_numbers.result add.rationals add.overflow) (λ x h. names_as x before same h);
      bits = λ b. add.bits (subst HasFewBits (λ i. value (sym before i) ++ value (sym same i)) b);
      room = λ gs s t. result_lacks c.add_numbers.result _ _
          (add.room gs (subst (SpansTree gs) (sym before) s) (subst (SpansTree gs) (sym same) (coefficient_parts (SpansRoot gs) (λ q. tt) (λ vs. tt) (λ vs. tt) (nth c.args.at ts) t)))
          (λ f l. omega (arith, l, free, ap size before, ap sizes (r.terms ∙ o.terms), sizes_taken c.args.at ts c.requires.within));
      stands = add.stands;
    }

pub returns-in_err-coefficient-clause-front : goal.returns-in_err-coefficient-clause-front
returns-in_err-coefficient-clause-front c =
    let o = term_out c.args.at c.requires.sum c.requires.within (c.take_child-term.ensures.last c.requires.sum.handed.root) in
    front_after_one (takes_behind o.takes) (takes_front o.takes) c.coefficient_alone.ensures.front

pub returns-in_err-coefficient-clause-room : goal.returns-in_err-coefficient-clause-room
returns-in_err-coefficient-clause-room c = λ gs s t.
    let o = term_out c.args.at c.requires.sum c.requires.within (c.take_child-term.ensures.last c.requires.sum.handed.root) in
    let free = out_free c.requires.stands c.take_child-term.ensures.stands c.take_child-term.ensures.kept c.requires.within o in
    refusal_lacks c.from_residual.result c.in_err-coefficient.field-0.0 _ c.from_residual.ensures.1
    (number_lacks gs (tree_of c.args.so_far c.args.pool.now) (free_of c.args.pool.now) c.requires.so_far s (subst (λ (n : ℕ). n < 40) free c.in_err-coefficient.ensures.room))
