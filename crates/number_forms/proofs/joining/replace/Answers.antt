use Rattle.number_forms.proofs.Shared.{rules, ◌≡◌, ◌<◌, ◌∷◌, OnOk, refl, sym, ap, ◌∙◌, subst, value, terms_of, Surd, Tree, count, IsSumOf, IsApart, removed, lists_at, term_of, children_of, nth}
use Rattle.number_forms.proofs.Shared.{Forest, tree_of, Gives, without_root, forest, given_handed, given_told, given_rest, gives_as, expression, seen, behind_first, front_after_one}
use Rattle.number_forms.proofs.{LastSums.{sum_add}, SumChanges.{read_sum, read_place, removed_is_sum}, Safety.{then_placing}}
use Rattle.calc_algebra.specs.Numbers.{term_of as term_of_tree}
use Rattle.number_forms.proofs.joining.replace.Goals as goal

pub radicand_at-requires : goal.radicand_at-requires
radicand_at-requires g c = (search rules, (c.requires.stands, (expression c.id.ensures c.requires.stands (given_handed c.requires.sum), (read_sum _ c.args.sum.now c.args.pool.now c.id.ensures c.requires.stands c.requires.sum, (lists_at c.id.ensures c.requires.lists, (let same = seen c.id.ensures c.requires.stands (given_handed c.requires.sum) in subst (λ (t : Tree). c.args.at < count (children_of t)) (sym same) c.requires.within))))))

pub exchange-requires : goal.exchange-requires
exchange-requires g c =
    let same = seen c.id.ensures c.requires.stands (given_handed c.requires.sum) in
    let stays = sym (ap (λ (t : Tree). (term_of_tree (nth c.args.at (children_of t))).radicand) same) ∙ sym c.radicand_at.ensures.value ∙ c.if-stays.true ∙ c.radicand.ensures.value in
    (search rules, (c.requires.stands, (c.requires.sum, (c.requires.lists, (c.requires.within, (stays, c.requires.apart))))))

pub remove_child-requires : goal.remove_child-requires
remove_child-requires g c = (search rules, (c.requires.stands, (gives_as c.requires.sum refl sum_add, (c.requires.lists, c.requires.within))))

pub place_of-place-requires : goal.place_of-place-requires
place_of-place-requires g c =
    let rest = gives_as c.remove_child.ensures.sum refl (λ t e. removed_is_sum c.args.at (tree_of c.args.sum.now c.args.pool.now) t (given_told c.requires.sum) e) in
    (search rules, (c.remove_child.ensures.stands, (expression c.id-else-stays.ensures c.remove_child.ensures.stands (given_handed c.remove_child.ensures.sum), (read_sum _ c.args.sum.now c.remove_child.new.pool c.id-else-stays.ensures c.remove_child.ensures.stands rest, lists_at c.id-else-stays.ensures c.remove_child.ensures.lists))))

pub insert-requires : goal.insert-requires
insert-requires g c =
    let rest = c.remove_child.ensures.sum in
    let sum = gives_as rest (sym (given_rest rest)) (λ t e. removed_is_sum c.args.at (tree_of c.args.sum.now c.args.pool.now) t (given_told c.requires.sum) e) in
    let apart = subst (IsApart (term_of c.args.term).radicand) (sym (ap value (given_told rest))) c.requires.apart in
    let place = read_place _ c.args.sum.now c.place_of-place.result _ _ c.remove_child.new.pool c.id-else-stays.ensures c.remove_child.ensures.stands
    (given_handed rest) c.radicand-else-stays.ensures.value c.place_of-place.ensures in
    (search rules, (c.remove_child.ensures.stands, (sum, (c.remove_child.ensures.lists, (apart, place)))))

pub returns-else-stays-clause-ok : goal.returns-else-stays-clause-ok
returns-else-stays-clause-ok g c =
    let rest = c.remove_child.ensures.sum in
    let others : value (tree_of c.args.sum.now c.remove_child.new.pool) ≡ terms_of (removed c.args.at (children_of (tree_of c.args.sum.now c.args.pool.now))) = ap value (given_told rest) in
    subst (λ (v : Surd). OnOk c.insert.result (Gives (without_root c.args.sum.now (forest c.args.pool.now)) (forest c.insert.new.pool) c.args.sum.now (IsSumOf (term_of c.args.term ∷ v)))) others
    (subst (λ (f : Forest). OnOk c.insert.result (Gives f (forest c.insert.new.pool) c.args.sum.now (IsSumOf (term_of c.args.term ∷ value (tree_of c.args.sum.now c.remove_child.new.pool)))))
    (given_rest rest) c.insert.ensures.ok)

pub returns-else-stays-clause-safe : goal.returns-else-stays-clause-safe
returns-else-stays-clause-safe g c = then_placing c.remove_child.ensures.kept (front_after_one behind_first c.remove_child.ensures.front c.insert.ensures.safe.front) c.insert.ensures.safe
