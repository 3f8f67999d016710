use Rattle.coefficients.proofs.{Shared.{behind_first, front_same, front_end, front_put, front_without, over_product, over_put, over_end}, Steps.{leaves_two}}
use Rattle.coefficients.proofs.taking.split_product.Goals as goal

pub move_last-requires-clause-root : goal.move_last-requires-clause-root
move_last-requires-clause-root c =
    let l = c.in_ok-coefficient.ensures.ok in
    (over_end (over_put l.kids (over_product c.requires.handed c.requires.product) l.rest-are) l.given.ends).root

pub returns-clause-ok : goal.returns-clause-ok
returns-clause-ok c = leaves_two (over_product c.requires.handed c.requires.product) c.in_ok-coefficient.ensures.ok c.move_last.ensures.last

pub returns-clause-front : goal.returns-clause-front
returns-clause-front c =
    let l = c.in_ok-coefficient.ensures.ok in
    front_end c.move_last.ensures.last (front_without behind_first (front_end l.given.ends (front_put l.kids behind_first front_same)))
