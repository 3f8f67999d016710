use Rattle.coefficients.proofs.Shared.{rules, refl, given_root, given_apart, apart, other_root, eqb-sym, root_held, over_product, added_as, moved, moved_front}
use Rattle.coefficients.proofs.products.put_first.Goals as goal

pub add_child-requires : goal.add_child-requires
add_child-requires c = record {
  stands = search rules;
  live = root_held c.args.product _ (other_root c.args.product c.in_ok-factor.ensures.ok c.requires.handed.root);
  within = search rules;
  root = given_root c.in_ok-factor.ensures.given;
  apart = apart c.args.product c.in_ok-factor.factor c.in_ok-factor.ensures.stands (eqb-sym c.in_ok-factor.factor c.args.product (given_apart c.in_ok-factor.ensures.given c.requires.handed))
      (other_root c.args.product c.in_ok-factor.ensures.ok c.requires.handed.root) (given_root c.in_ok-factor.ensures.given);
}

pub move_last-requires-clause-root : goal.move_last-requires-clause-root
move_last-requires-clause-root c =
    let g = c.in_ok-factor.ensures.given in
    (added_as 0 (over_product c.requires.handed c.requires.product) g (c.add_child.ensures.root (other_root c.args.product g.ends c.requires.handed.root)) refl).over.root

pub returns-clause-ok : goal.returns-clause-ok
returns-clause-ok c =
    let g = c.in_ok-factor.ensures.given in
    moved (added_as 0 (over_product c.requires.handed c.requires.product) g (c.add_child.ensures.root (other_root c.args.product g.ends c.requires.handed.root)) refl) refl c.move_last.ensures.last refl

pub returns-clause-front : goal.returns-clause-front
returns-clause-front c =
    let g = c.in_ok-factor.ensures.given in
    moved_front (added_as 0 (over_product c.requires.handed c.requires.product) g (c.add_child.ensures.root (other_root c.args.product g.ends c.requires.handed.root)) refl) c.move_last.ensures.last
