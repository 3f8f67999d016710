use Rattle.sum_reduce.proofs.Shared.{suc, add-one, arith, rules, forest, keeps_after, behind_first, front_after_two, terms_in, coefficient_of, fault_named, nth, tree_of, NamesSum, Overflows, free_of}
use Rattle.sum_reduce.proofs.{Shared.{full_as, removed, ◌+◌, ap, count, count_removed, front_same, keeps_none, faults_after}, Joins.{joining_formed, joining_less, next_partner, partner_step}}
use Rattle.sum_reduce.proofs.{Joins.{partner_within}, Numbered.{beside_behind}, Sorted.{formed_nth}, Sums.{takes_handed, takes_apart, takes_after}, Hindered.{partner_hinders}}
use Rattle.sum_reduce.proofs.{Rooms.{joining_spans, spans_next, partner_lacks}, SumBytes.{taken_free}, FewBits.{next_partner_few}}
use Rattle.sum_reduce.proofs.joining.add_partners.Goals as goal

pub is_pair-requires-clause-handed : goal.is_pair-requires-clause-handed
is_pair-requires-clause-handed c = (c.loop-pool.invariant.takes _ c.requires.taken.1).sum.handed

pub is_pair-requires-clause-told : goal.is_pair-requires-clause-told
is_pair-requires-clause-told c =
    let i = c.loop-pool.invariant in
    let us = terms_in c.args.sum.now (forest c.loop-pool.pool) in
    let j = i.joining _ _ c.requires.joining.2 in
    λ n l. formed_nth n us l (joining_formed _ _ us c.args.at _ j i.within)

pub add_partner-requires : goal.add_partner-requires
add_partner-requires c =
    let i = c.loop-pool.invariant in
    let us = terms_in c.args.sum.now (forest c.loop-pool.pool) in
    let j = i.joining _ _ c.requires.joining.2 in
    let n = next_partner us c.args.at (joining_formed _ _ us c.args.at _ j i.within) (c.is_pair.ensures.pair c.loop-pool-test.true) in
    record {
      stands = search rules;
      sum = (c.loop-pool.invariant.takes _ c.requires.taken.1).sum;
      within = rw add-one (c.is_pair.ensures.pair c.loop-pool-test.true).within;
      reduced = rw add-one n.reduced;
      defined = rw add-one n.defined;
      no_number = rw add-one n.no_number;
      handed = takes_handed (c.loop-pool.invariant.takes _ c.requires.taken.1);
      apart = takes_apart (c.loop-pool.invariant.takes _ c.requires.taken.1);
      so_far = j.number;
    }

pub loop-pool-init : goal.loop-pool-init
loop-pool-init c = record {
  takes = λ f t. t;
  within = c.requires.within;
  joining = λ ts less j. j;
  front = front_same;
  kept = keeps_none c.args.pool.now;
  stands = c.requires.stands;
}

pub loop-pool-smaller : goal.loop-pool-smaller
loop-pool-smaller c =
    let us = terms_in c.args.sum.now (forest c.loop-pool.pool) in
    let w = (c.is_pair.ensures.pair c.loop-pool-test.true).within in
    omega (arith, ap count c.in-Ok.ensures.terms, count_removed (c.args.at + 1) us (omega (arith, w)))

pub loop-pool-preserved : goal.loop-pool-preserved
loop-pool-preserved c =
    let i = c.loop-pool.invariant in
    let us = terms_in c.args.sum.now (forest c.loop-pool.pool) in
    let vs = terms_in c.args.sum.now (forest c.add_partner.new.pool) in
    let p = c.is_pair.ensures.pair c.loop-pool-test.true in
    let q = rw add-one at c.in-Ok.ensures.terms in
    record {
      takes = λ f t. takes_after (i.takes f t) c.in-Ok.ensures.ok;
      within = partner_within us vs c.args.at p q;
      joining = λ ts less j. joining_less less (omega arith) (partner_step ts _ _ us vs c.args.at less (i.joining ts less j) p q (rw add-one at c.in-Ok.ensures.number));
      front = front_after_two behind_first (beside_behind c.requires.taken.1 (i.takes _ c.requires.taken.1)) i.front c.add_partner.ensures.front;
      kept = keeps_after _ _ _ i.kept c.in-Ok.ensures.kept;
      stands = c.add_partner.ensures.stands;
    }

pub returns-in-Err : goal.returns-in-Err
returns-in-Err c =
    let i = c.loop-pool.invariant in
    let us = terms_in c.args.sum.now (forest c.loop-pool.pool) in
    let d = tree_of c.loop-pool.total c.loop-pool.pool in
    let pair = c.is_pair.ensures.pair c.loop-pool-test.true in
    let told = c.in-Err.ensures in
    record {
      ok = λ f t. tt;
      within = tt;
      joining = λ ts less j. tt;
      front = front_after_two behind_first (beside_behind c.requires.taken.1 (i.takes _ c.requires.taken.1)) i.front c.add_partner.ensures.front;
      kept = tt;
      faults = faults_after _ c.in-Err.fault i.kept told.faults;
      caused = told.caused;
      overflow = λ ts less j. fault_named c.in-Err.fault (NamesSum d (coefficient_of (nth (suc c.args.at) us))) (Overflows ts) (rw add-one at told.overflow)
          (partner_hinders ts d us c.args.at less (i.joining ts less j) pair);
      bits = λ ts less j b. told.bits (rw add-one (next_partner_few ts d us c.args.at less (i.joining ts less j) pair b));
      room = λ ts less j gs s.
          let k = i.joining ts less j in
          let w = joining_spans gs ts d (nth c.args.at us) (removed c.args.at us) less k s in
          let free = taken_free c.requires.stands i.stands i.kept c.requires.taken.1 (i.takes _ c.requires.taken.1) in
          full_as c.in-Err.fault (told.room gs w.coefficient (rw add-one (spans_next gs us c.args.at w pair)))
          (λ full l. omega (arith, partner_lacks gs ts d us c.args.at less (free_of c.loop-pool.pool) k i.within s l, free));
      stands = c.add_partner.ensures.stands;
    }
