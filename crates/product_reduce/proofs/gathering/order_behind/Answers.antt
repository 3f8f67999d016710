use Rattle.product_reduce.proofs.Shared.{◌∙◌, ap, refl, subst, arith, rules, product_tree, are_reduced, Trees, count, forest, behind_first, front_same, front_end, front_without, front_after_one}
use Rattle.product_reduce.proofs.{Shared.{gives, gives_as, represents_handed, ends_as, others_in, IsOrdered, IsNextPair, NoPairBetween, factors_in}, Finished.{reduced_nth}}
use Rattle.product_reduce.proofs.{Leads.{lead_within, put_within, put_reduced, put_done, put_ordered}, Products.{factors_are}}
use Rattle.product_reduce.proofs.gathering.order_behind.Goals as goal

pub sort_factors-requires-clause-within : goal.sort_factors-requires-clause-within
sort_factors-requires-clause-within c = lead_within c.args.lead _ _ c.requires.lead.1

pub next_pair-requires : goal.next_pair-requires
next_pair-requires c =
    let x = c.sort_factors.ensures.sorts in
    let r = put_reduced c.args.lead _ _ x.us c.requires.lead.1 x.sorted c.requires.reduced in
    record {
      stands = search rules;
      handed = c.sort_factors.ensures.sorts.becomes.product.handed;
      within = omega (arith, put_within c.args.lead _ _ x.us c.requires.lead.1 x.sorted, ap count (factors_are x.becomes.product));
      told = λ n l. reduced_nth n (factors_in c.args.product (forest c.sort_factors.new.pool)) l (ap are_reduced (factors_are x.becomes.product) ∙ r);
    }

pub unwrapped-requires-clause-some : goal.unwrapped-requires-clause-some
unwrapped-requires-clause-some c =
    let x = c.sort_factors.ensures.sorts in
    omega (arith, put_within c.args.lead _ _ x.us c.requires.lead.1 x.sorted, ap count (factors_are x.becomes.product))

pub returns-in-Some-clause-ordered : goal.returns-in-Some-clause-ordered
returns-in-Some-clause-ordered c = λ k h.
    let x = c.sort_factors.ensures.sorts in
    let ts = factors_in c.args.product (forest c.args.pool.now) in
    gives {Told = IsOrdered k (others_in ts)} (ends_as c.move_last.ensures.last refl x.becomes.others) (represents_handed x.becomes.product.handed)
    (put_ordered c.args.lead c.in-Some.at k ts x.us _ h x.sorted (subst (IsNextPair c.args.lead c.in-Some.at) (factors_are x.becomes.product) c.in-Some.ensures.pair) x.becomes.product.tree)

pub returns-in-Some-clause-front : goal.returns-in-Some-clause-front
returns-in-Some-clause-front c = grind (arith, front_end, front_without, behind_first, front_after_one, front_same)

pub returns-in-None-clause-done : goal.returns-in-None-clause-done
returns-in-None-clause-done c = λ k h.
    let x = c.sort_factors.ensures.sorts in
    let own = factors_are x.becomes.product in
    let ts = factors_in c.args.product (forest c.args.pool.now) in
    gives_as c.unwrapped.ensures.tree x.becomes.others
    (λ t e. put_done c.args.lead k ts x.us t c.requires.others h x.sorted (subst (λ (us : Trees). NoPairBetween c.args.lead (count us) us) own c.in-None.ensures.pair) (e ∙ ap product_tree own))
