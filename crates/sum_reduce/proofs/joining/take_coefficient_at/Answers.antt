use Rattle.sum_reduce.proofs.Shared.{◌≡◌, ◌∙◌, ap, ◌<◌, subst, rules, ℕ, IfErr, Tree, passed_result, is_number, is_reduced, part_of, more, none, is_undef, coefficient_of, given_handed, given_told}
use Rattle.sum_reduce.proofs.{Shared.{inserted, removed, forest, terms_in, free_of, tree_of, hole_behind, hole_stays}, Sums.{IsSplit, part_back, takes_front}, Rooms.{taking_lacks}}
use Rattle.sum_reduce.proofs.joining.take_coefficient_at.Goals.{After-fill}
use Rattle.sum_reduce.proofs.joining.take_coefficient_at.Goals as goal

pub open_child-hole-requires : goal.open_child-hole-requires
open_child-hole-requires c = record { stands = search rules; handed = c.requires.sum.handed; within = c.requires.within }

pub take_coefficient-requires : goal.take_coefficient-requires
take_coefficient-requires c =
    let told = given_told c.open_child-hole.ensures.child in
    record {
      stands = search rules;
      handed = given_handed c.open_child-hole.ensures.child;
      reduced = ap is_reduced told ∙ c.requires.reduced;
      defined = ap is_undef told ∙ c.requires.defined;
      no_number = ap is_number told ∙ c.requires.no_number;
    }

pub fill-requires : goal.fill-requires
fill-requires c =
    let k = c.in_ok-coefficient.ensures.ok in
    record { stands = search rules; hole = (_, _, _, hole_stays k.second-given (hole_behind c.open_child-hole.ensures.hole k.first-given.ends)); handed = given_handed k.second-given }

-- the part stands where the term did
split : (c : After-fill)
    → IsSplit c.args.sum.now (inserted c.args.at (more (tree_of c.in_ok-coefficient.part c.take_coefficient.new.pool) none) (removed c.args.at (terms_in c.args.sum.now (forest c.args.pool.now))))
    (forest c.args.pool.now) (forest c.fill.new.pool) c.in_ok-coefficient.coefficient (λ t. t ≡ coefficient_of (tree_of c.open_child-hole.result.1 c.open_child-hole.new.pool))
split c =
    let k = c.in_ok-coefficient.ensures.ok in
    let o = c.open_child-hole.ensures.hole in
    part_back c.args.at (tree_of c.in_ok-coefficient.part c.take_coefficient.new.pool) c.requires.sum c.requires.within o k
    (c.fill.ensures.changed _ _ _ (hole_stays k.second-given (hole_behind o k.first-given.ends)))

pub returns-clause-ok : goal.returns-clause-ok
returns-clause-ok c = (split (goal.at.returns-clause-ok c).After-fill).takes

pub returns-clause-terms : goal.returns-clause-terms
returns-clause-terms c =
    let part = given_told c.in_ok-coefficient.ensures.ok.second-given ∙ ap part_of (given_told c.open_child-hole.ensures.child) in
    (split (goal.at.returns-clause-terms c).After-fill).terms ∙ ap (λ (t : Tree). inserted c.args.at (more t none) (removed c.args.at (terms_in c.args.sum.now (forest c.args.pool.now)))) part

pub returns-clause-coefficient : goal.returns-clause-coefficient
returns-clause-coefficient c = (split (goal.at.returns-clause-coefficient c).After-fill).told ∙ ap coefficient_of (given_told c.open_child-hole.ensures.child)

pub returns-clause-front : goal.returns-clause-front
returns-clause-front c = takes_front (split (goal.at.returns-clause-front c).After-fill).takes

pub returns-in_err-coefficient-clause-room : goal.returns-in_err-coefficient-clause-room
returns-in_err-coefficient-clause-room c =
    passed_result c.from_residual.result c.in_err-coefficient.field-0.0 (λ r. IfErr r (λ full. free_of c.args.pool.now < 40)) c.from_residual.ensures.0 c.from_residual.ensures.1
    (subst (λ (n : ℕ). n < 40) c.open_child-hole.ensures.free (taking_lacks (tree_of c.open_child-hole.result.1 c.open_child-hole.new.pool) c.in_err-coefficient.ensures.full))
