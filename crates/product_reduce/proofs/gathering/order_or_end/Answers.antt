use Rattle.product_reduce.proofs.Shared.{◌≡◌, ◌∙◌, ap, sym, refl, rules, passed_lacks, is_number, mult, coefficient_before, tree_of, is_zero, factors_in, forest, gives_as, expression_root, plain_root}
use Rattle.product_reduce.proofs.{Shared.{passed_on, at_zero, at_end, of_lists}, Finished.{reduced_nth}, Neighbours.{pair_partners, sorted_apart, apart_before}, SortedBeside.{AreSorted, sorts}}
use Rattle.product_reduce.proofs.{SortedBeside.{none_sorted, ending_sorted, spreading_sorted, room_sorted}, gathering.order_or_end.Goals.{After-is_zero, After-sort_factors}}
use Rattle.product_reduce.proofs.gathering.order_or_end.Goals as goal

pub is_zero-requires-clause-expression : goal.is_zero-requires-clause-expression
is_zero-requires-clause-expression c = rw c.id.ensures (expression_root c.requires.stands c.requires.coefficient)

zero-is : (c : After-is_zero) → is_zero (tree_of c.args.coefficient c.args.pool.now) ≡ c.is_zero.result
zero-is c = let seen = rw c.id.ensures at c.is_zero.ensures in ap is_zero (sym (plain_root c.args.coefficient c.requires.stands c.requires.coefficient.root)) ∙ sym seen

sorted : (c : After-sort_factors) → AreSorted c.args.product c.args.coefficient c.args.pool.now c.sort_factors.new.pool
sorted c = sorts c.requires.stands c.sort_factors.ensures.stands c.sort_factors.ensures.kept c.requires.product c.requires.others c.requires.coefficient c.requires.apart c.sort_factors.ensures.sorts

pub next_pair-requires-clause-told : goal.next_pair-requires-clause-told
next_pair-requires-clause-told c = λ n l. reduced_nth n _ l (sorted (goal.at.next_pair-requires-clause-told c).After-sort_factors).others.reduced

pub behind-product-requires : goal.behind-product-requires
behind-product-requires c =
    let s = sorted (goal.at.behind-product-requires c).After-sort_factors in
    record { stands = search rules; product = s.product; pair = c.in-Some.ensures.pair.pair; coefficient = s.handed; apart = search rules }

pub finished-requires : goal.finished-requires
finished-requires c =
    let s = sorted (goal.at.finished-requires c).After-sort_factors in
    let nonzero = zero-is (goal.at.finished-requires c).After-is_zero ∙ c.if-is_zero.false in
    record {
      stands = search rules;
      product = s.product;
      others = s.others;
      order = s.sorted.rising;
      differ = sorted_apart _ s.others.no_number s.others.no_product s.sorted.rising c.in-None.ensures.pair;
      coefficient = s.handed;
      number = ap is_number s.tree ∙ c.requires.number;
      not_zero = ap is_zero s.tree ∙ nonzero;
      apart = search rules;
    }

pub returns-then-is_zero-clause-done : goal.returns-then-is_zero-clause-done
returns-then-is_zero-clause-done c = gives_as c.alone.ensures.ok refl (λ t e. at_zero (zero-is (goal.at.returns-then-is_zero-clause-done c).After-is_zero ∙ c.if-is_zero.true) e)

-- ---- a pair

pub returns-in-Some-clause-ordered : goal.returns-in-Some-clause-ordered
returns-in-Some-clause-ordered c =
    let nonzero = zero-is (goal.at.returns-in-Some-clause-ordered c).After-is_zero ∙ c.if-is_zero.false in
    let s = sorted (goal.at.returns-in-Some-clause-ordered c).After-sort_factors in
    let partners = pair_partners _ (factors_in c.args.product (forest c.args.pool.now)) _ s.sorted.moved c.in-Some.ensures.pair.pair in
    gives_as c.behind-product.ensures.ok s.rest (λ t e. record {
      not_zero =
          nonzero;
      partners = partners;
      us = _;
      sorted = s.sorted;
      is = e ∙ (λ i. mult (coefficient_before (s.tree i) (factors_in c.args.product (forest c.sort_factors.new.pool))));
    })

pub returns-in-Some-clause-front : goal.returns-in-Some-clause-front
returns-in-Some-clause-front c = (sorted (goal.at.returns-in-Some-clause-front c).After-sort_factors).front _ c.behind-product.ensures.front

-- ---- no pair

pub returns-in_ok-finished-in-None-clause-done : goal.returns-in_ok-finished-in-None-clause-done
returns-in_ok-finished-in-None-clause-done c =
    let nonzero = zero-is (goal.at.returns-in_ok-finished-in-None-clause-done c).After-is_zero ∙ c.if-is_zero.false in
    let s = sorted (goal.at.returns-in_ok-finished-in-None-clause-done c).After-sort_factors in
    let differ = apart_before (of_lists _ _ s.sorted.moved) (sorted_apart _ s.others.no_number s.others.no_product s.sorted.rising c.in-None.ensures.pair) in
    gives_as c.in_ok-finished-in-None.ensures.ok s.rest (λ t e. at_end nonzero differ (ending_sorted t s e))

pub returns-in_err-finished-in-None-clause-alone : goal.returns-in_err-finished-in-None-clause-alone
returns-in_err-finished-in-None-clause-alone c =
    λ e. absurd (c.in_err-finished-in-None.ensures.alone (none_sorted (sorted (goal.at.returns-in_err-finished-in-None-clause-alone c).After-sort_factors) e))

pub returns-in_ok-finished-in-None-clause-front : goal.returns-in_ok-finished-in-None-clause-front
returns-in_ok-finished-in-None-clause-front c = (sorted (goal.at.returns-in_ok-finished-in-None-clause-front c).After-sort_factors).front _ c.finished.ensures.front

pub returns-in_err-finished-in-None-clause-front : goal.returns-in_err-finished-in-None-clause-front
returns-in_err-finished-in-None-clause-front c = (sorted (goal.at.returns-in_err-finished-in-None-clause-front c).After-sort_factors).front _ c.finished.ensures.front

pub returns-in_err-finished-in-None-clause-overflow : goal.returns-in_err-finished-in-None-clause-overflow
returns-in_err-finished-in-None-clause-overflow c =
    let s = sorted (goal.at.returns-in_err-finished-in-None-clause-overflow c).After-sort_factors in
    spreading_sorted c.from_residual.result s
    (passed_on c.from_residual.result c.in_err-finished-in-None.field-0.0 _ c.from_residual.ensures.0 c.from_residual.ensures.1 c.in_err-finished-in-None.ensures.overflow)

pub returns-in_err-finished-in-None-clause-room : goal.returns-in_err-finished-in-None-clause-room
returns-in_err-finished-in-None-clause-room c gs x k =
    let s = sorted (goal.at.returns-in_err-finished-in-None-clause-room c).After-sort_factors in
    room_sorted gs c.from_residual.result s x k
    (λ y z. passed_lacks c.from_residual.result c.in_err-finished-in-None.field-0.0 _ _ c.from_residual.ensures.1 (c.in_err-finished-in-None.ensures.room gs y z) (λ g l. l))
