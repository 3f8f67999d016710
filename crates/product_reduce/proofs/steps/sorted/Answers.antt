use Rattle.product_reduce.proofs.{Shared.{◌∙◌, ap, rules, Permuted-sym, is_number, if_map, is_zero, gives_as, of_lists}, Neighbours.{apart_before}, SortedBeside.{AreSorted, sorts, none_sorted}}
use Rattle.product_reduce.proofs.{SortedBeside.{ending_sorted, spreading_sorted, room_sorted}, steps.sorted.Goals.{After-sort_factors}}
use Rattle.product_reduce.proofs.steps.sorted.Goals as goal

behind : (c : After-sort_factors) → AreSorted c.args.product c.args.coefficient c.args.pool.now c.sort_factors.new.pool
behind c = sorts c.requires.stands c.sort_factors.ensures.stands c.sort_factors.ensures.kept c.requires.product c.requires.others c.requires.coefficient c.requires.apart c.sort_factors.ensures.sorts

pub finished-requires : goal.finished-requires
finished-requires c =
    let s = behind (goal.at.finished-requires c).After-sort_factors in
    record {
      stands = search rules;
      product = s.product;
      others = s.others;
      order = s.sorted.rising;
      differ = apart_before (Permuted-sym (of_lists _ _ s.sorted.moved)) c.requires.differ;
      coefficient = s.handed;
      number = ap is_number s.tree ∙ c.requires.number;
      not_zero = ap is_zero s.tree ∙ c.requires.not_zero;
      apart = search rules;
    }

pub returns-clause-ok : goal.returns-clause-ok
returns-clause-ok c = let s = behind (goal.at.returns-clause-ok c).After-sort_factors in if_map c.finished.result _ _ c.finished.ensures.ok (λ h x. gives_as x s.rest (λ t e. ending_sorted t s e))

pub returns-clause-alone : goal.returns-clause-alone
returns-clause-alone c = λ e. c.finished.ensures.alone (none_sorted (behind (goal.at.returns-clause-alone c).After-sort_factors) e)

pub returns-clause-overflow : goal.returns-clause-overflow
returns-clause-overflow c = spreading_sorted c.finished.result (behind (goal.at.returns-clause-overflow c).After-sort_factors) c.finished.ensures.overflow

pub returns-clause-front : goal.returns-clause-front
returns-clause-front c = (behind (goal.at.returns-clause-front c).After-sort_factors).front _ c.finished.ensures.front

pub returns-clause-room : goal.returns-clause-room
returns-clause-room c gs x k = room_sorted gs c.finished.result (behind (goal.at.returns-clause-room c).After-sort_factors) x k (c.finished.ensures.room gs)
