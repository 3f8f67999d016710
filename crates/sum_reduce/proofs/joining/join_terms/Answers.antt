use Rattle.sum_reduce.proofs.Shared.{◌<◌, ◌≤◌, ◌+◌, sym, subst, add-one, arith, rules, ℕ, Trees, nth, Forest, forest, State, tree_of, behind_first, front_after_two, IsStage, IsJoining, Takes, widths}
use Rattle.sum_reduce.proofs.Shared.{nodes, terms_in, passed_named, result_named, Overflows, free_of, removed, passed_lacks, refusal_lacks, result_lacks, keeps_after, sum_count, addends_of_each}
use Rattle.sum_reduce.proofs.{Joins.{IsBegun, begins, next_partner, partner_within, joining_formed, two_joined, joining_done, joined_others, pair_here, joined_within}, Results.{on_ok_map}}
use Rattle.sum_reduce.proofs.{Sums.{takes_handed, takes_apart, takes_after, takes_behind, takes_front, takes_changes}, Widths.{some_node}, Hindered.{partner_hinders, part_hinders}}
use Rattle.sum_reduce.proofs.{Rooms.{joined_counts, joining_spans, spans_next, terms_lack, few_lack, partner_lacks, part_lacks}, SumBytes.{takes_free}, FewBits.{next_partner_few}, Held.{few_after}}
use Rattle.sum_reduce.proofs.joining.join_terms.Goals.{In_ok-coefficient, In_ok-both, In_ok-total}
use Rattle.sum_reduce.proofs.joining.join_terms.Goals as goal

-- the coefficient of the first term stands beside its part
begun : (c : In_ok-coefficient) → IsBegun (terms_in c.args.sum.now (forest c.args.pool.now)) (terms_in c.args.sum.now (forest c.take_coefficient_at.new.pool)) (tree_of c.in_ok-coefficient.coefficient c.take_coefficient_at.new.pool) c.args.at
begun c = begins _ _ _ c.args.at c.requires.formed c.requires.flat c.requires.pair c.in_ok-coefficient.ensures.terms c.in_ok-coefficient.ensures.coefficient

-- two coefficients or more are added, beside the part that they share
record AreAdded (i at : ℕ) (ts us : Trees) (f : Forest) (now : State) (h : ℕ) : Type 0 where
  pub takes : Takes i f (forest now) h
  pub joining : IsJoining ts (tree_of h now) (nth at (terms_in i (forest now))) (removed at (terms_in i (forest now))) (0 + nodes (nth at us))
  pub less : 1 ≤ 0 + nodes (nth at us)

both : (c : In_ok-both) → AreAdded c.args.sum.now c.args.at (terms_in c.args.sum.now (forest c.args.pool.now)) (terms_in c.args.sum.now (forest c.take_coefficient_at.new.pool)) (forest c.args.pool.now) c.add_partner.new.pool c.in_ok-both.both
both c = record {
  takes = takes_after c.in_ok-coefficient.ensures.ok c.in_ok-both.ensures.ok;
  joining =
      two_joined _ _ _ _ _ c.args.at c.requires.formed c.requires.flat c.requires.pair c.in_ok-coefficient.ensures.terms c.in_ok-coefficient.ensures.coefficient
      (rw add-one at c.in_ok-both.ensures.terms) (rw add-one at c.in_ok-both.ensures.number);
  less = omega (arith, some_node (nth c.args.at (terms_in c.args.sum.now (forest c.take_coefficient_at.new.pool))));
}

total : (c : In_ok-total) → AreAdded c.args.sum.now c.args.at (terms_in c.args.sum.now (forest c.args.pool.now)) (terms_in c.args.sum.now (forest c.take_coefficient_at.new.pool)) (forest c.args.pool.now) c.add_partner.new.pool c.in_ok-both.both
    → AreAdded c.args.sum.now c.args.at (terms_in c.args.sum.now (forest c.args.pool.now)) (terms_in c.args.sum.now (forest c.take_coefficient_at.new.pool)) (forest c.args.pool.now) c.add_partners.new.pool c.in_ok-total.total
total c k = record { takes = c.in_ok-total.ensures.ok _ k.takes; joining = c.in_ok-total.ensures.joining _ _ k.joining; less = k.less }

pub add_partner-requires : goal.add_partner-requires
add_partner-requires c =
    let b = begun (goal.at.add_partner-requires c).In_ok-coefficient in
    let us = terms_in c.args.sum.now (forest c.take_coefficient_at.new.pool) in
    let n = next_partner us c.args.at (joining_formed _ _ us c.args.at _ b.joining (pair_here c.args.at us b.pair)) b.pair in
    record {
      stands = search rules;
      sum = c.in_ok-coefficient.ensures.ok.sum;
      within = rw add-one b.pair.within;
      reduced = rw add-one n.reduced;
      defined = rw add-one n.defined;
      no_number = rw add-one n.no_number;
      handed = takes_handed c.in_ok-coefficient.ensures.ok;
      apart = takes_apart c.in_ok-coefficient.ensures.ok;
      so_far = b.joining.number;
    }

pub add_partners-requires : goal.add_partners-requires
add_partners-requires c =
    let b = begun (goal.at.add_partners-requires c).In_ok-coefficient in
    let k = both (goal.at.add_partners-requires c).In_ok-both in
    record {
      stands = search rules;
      sum = c.in_ok-both.ensures.ok.sum;
      taken = (_, k.takes);
      within = partner_within _ (terms_in c.args.sum.now (forest c.add_partner.new.pool)) c.args.at b.pair (rw add-one at c.in_ok-both.ensures.terms);
      joining = (_, _, k.joining);
    }

pub put_back-requires : goal.put_back-requires
put_back-requires c =
    let s = goal.at.put_back-requires c in
    let d = total s.In_ok-total (both s.In_ok-both) in
    record { stands = search rules; sum = d.takes.sum; within = search rules; reduced = d.joining.monic.reduced; handed = takes_handed d.takes; apart = takes_apart d.takes }

-- ---- the joined terms

pub returns : goal.returns
returns c =
    let s = goal.at.returns c in
    let d = total s.In_ok-total (both s.In_ok-both) in
    let ts = terms_in c.args.sum.now (forest c.args.pool.now) in
    let vs = terms_in c.args.sum.now (forest c.add_partners.new.pool) in
    let put = c.put_back.ensures in
    let done = joining_done _ _ _ _ _ c.args.at d.joining d.less in
    let kept = keeps_after _ _ _ (keeps_after _ _ _ c.in_ok-coefficient.ensures.kept c.in_ok-both.ensures.kept) c.in_ok-total.ensures.kept in
    let free = takes_free c.requires.stands c.in_ok-total.ensures.stands kept d.takes in
    record {
      ok = on_ok_map c.put_back.result put.ok (λ x. takes_changes d.takes x);
      stage = on_ok_map c.put_back.result put.terms (λ e. subst (IsStage ts) (sym e) done.stage);
      fewer = on_ok_map c.put_back.result put.terms (λ e. subst (λ (x : Trees). widths x < widths ts) (sym e) done.fewer);
      counts = on_ok_map c.put_back.result put.terms (λ e. joined_counts _ _ _ _ _ _ c.args.at d.joining e);
      within = on_ok_map c.put_back.result put.terms (λ e. joined_within c.args.at _ vs _ c.in_ok-total.ensures.within e);
      others = on_ok_map c.put_back.result put.terms (joined_others c.args.at _ vs _ c.in_ok-total.ensures.within d.joining.no_sum);
      front = front_after_two behind_first (takes_behind d.takes) (takes_front d.takes) put.front;
      kept = search rules;
      faults = search rules;
      caused = put.caused;
      overflow = result_named c.put_back.result _ _ put.overflow (part_hinders d.joining d.less);
      bits = λ b. put.bits (addends_of_each (removed c.args.at vs)) d.joining.monic (few_after d.joining.held b);
      room = λ gs s.
          let w = joining_spans gs ts _ (nth c.args.at vs) (removed c.args.at vs) _ d.joining s in
          result_lacks c.put_back.result _ _ (put.room gs d.joining.number w.coefficient w.part)
          (λ full l. omega (arith, part_lacks gs ts _ vs c.args.at _ (free_of c.add_partners.new.pool) d.joining c.in_ok-total.ensures.within s l, free));
      stands = put.stands;
    }

-- ---- what stood first stays first

pub returns-in_err-both-clause-front : goal.returns-in_err-both-clause-front
returns-in_err-both-clause-front c = let t = c.in_ok-coefficient.ensures.ok in front_after_two behind_first (takes_behind t) (takes_front t) c.add_partner.ensures.front

pub returns-in_err-total-clause-front : goal.returns-in_err-total-clause-front
returns-in_err-total-clause-front c = let t = (both (goal.at.returns-in_err-total-clause-front c).In_ok-both).takes in front_after_two behind_first (takes_behind t) (takes_front t) c.add_partners.ensures.front

-- ---- what is refused

pub returns-in_err-both-clause-overflow : goal.returns-in_err-both-clause-overflow
returns-in_err-both-clause-overflow c =
    let b = begun (goal.at.returns-in_err-both-clause-overflow c).In_ok-coefficient in
    passed_named c.from_residual-in_err-both.result c.in_err-both.field-0.0 _ _ c.from_residual-in_err-both.ensures.1 (rw add-one at c.in_err-both.ensures.overflow)
    (partner_hinders _ _ _ c.args.at 0 b.joining b.pair)

pub returns-in_err-total-clause-overflow : goal.returns-in_err-total-clause-overflow
returns-in_err-total-clause-overflow c =
    let k = both (goal.at.returns-in_err-total-clause-overflow c).In_ok-both in
    let ts = terms_in c.args.sum.now (forest c.args.pool.now) in
    passed_named c.from_residual-in_err-total.result c.in_err-total.field-0.0 (Overflows ts) (Overflows ts) c.from_residual-in_err-total.ensures.1 (c.in_err-total.ensures.overflow ts _ k.joining)
    (λ x h. h)

pub returns-in_err-coefficient-clause-room : goal.returns-in_err-coefficient-clause-room
returns-in_err-coefficient-clause-room c = λ gs s.
    let ts = terms_in c.args.sum.now (forest c.args.pool.now) in
    refusal_lacks c.from_residual.result c.in_err-coefficient.field-0.0 _ c.from_residual.ensures.1
    (terms_lack gs ts (free_of c.args.pool.now) (sum_count ts) c.requires.formed s (omega arith) (few_lack gs (free_of c.args.pool.now) c.in_err-coefficient.ensures.room))

pub returns-in_err-both-clause-room : goal.returns-in_err-both-clause-room
returns-in_err-both-clause-room c = λ gs s.
    let ts = terms_in c.args.sum.now (forest c.args.pool.now) in
    let us = terms_in c.args.sum.now (forest c.take_coefficient_at.new.pool) in
    let b = begun (goal.at.returns-in_err-both-clause-room c).In_ok-coefficient in
    let w = joining_spans gs ts _ (nth c.args.at us) (removed c.args.at us) 0 b.joining s in
    let free = takes_free c.requires.stands c.in_ok-coefficient.ensures.stands c.in_ok-coefficient.ensures.kept c.in_ok-coefficient.ensures.ok in
    passed_lacks c.from_residual-in_err-both.result c.in_err-both.field-0.0 _ _ c.from_residual-in_err-both.ensures.1
    (c.in_err-both.ensures.room gs w.coefficient (rw add-one (spans_next gs us c.args.at w b.pair)))
    (λ full l. omega (arith, partner_lacks gs ts _ us c.args.at 0 (free_of c.take_coefficient_at.new.pool) b.joining (pair_here c.args.at us b.pair) s l, free))

pub returns-in_err-total-clause-room : goal.returns-in_err-total-clause-room
returns-in_err-total-clause-room c = λ gs s.
    let k = both (goal.at.returns-in_err-total-clause-room c).In_ok-both in
    let free = takes_free c.requires.stands c.in_ok-both.ensures.stands (keeps_after _ _ _ c.in_ok-coefficient.ensures.kept c.in_ok-both.ensures.kept) k.takes in
    passed_lacks c.from_residual-in_err-total.result c.in_err-total.field-0.0 _ _ c.from_residual-in_err-total.ensures.1 (c.in_err-total.ensures.room _ _ k.joining gs s)
    (λ full l. omega (arith, l, free))

pub returns-in_err-both-clause-bits : goal.returns-in_err-both-clause-bits
returns-in_err-both-clause-bits c = λ b.
    let k = begun (goal.at.returns-in_err-both-clause-bits c).In_ok-coefficient in
    passed_named c.from_residual-in_err-both.result c.in_err-both.field-0.0 (λ o. ⊥) (λ o. ⊥) c.from_residual-in_err-both.ensures.1
    (c.in_err-both.ensures.bits (rw add-one (next_partner_few _ _ _ c.args.at 0 k.joining k.pair b))) (λ x h. h)

pub returns-in_err-total-clause-bits : goal.returns-in_err-total-clause-bits
returns-in_err-total-clause-bits c = λ b.
    let k = both (goal.at.returns-in_err-total-clause-bits c).In_ok-both in
    passed_named c.from_residual-in_err-total.result c.in_err-total.field-0.0 (λ o. ⊥) (λ o. ⊥) c.from_residual-in_err-total.ensures.1 (c.in_err-total.ensures.bits _ _ k.joining b) (λ x h. h)
