use Rattle.expand_forms.proofs.Shared.{rules, packed_term_total, sorted_by_calls, packed_term_cmp}
use Rattle.expand_forms.proofs.packed_order.sort_terms.Goals as goal

pub returns-clause-rising : goal.returns-clause-rising
returns-clause-rising c = sorted_by_calls packed_term_cmp _ packed_term_total c.sort_unstable_by.ensures.sorted (λ a r f' k. search rules)
