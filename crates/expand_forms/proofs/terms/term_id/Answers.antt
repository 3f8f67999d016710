use Rattle.expand_forms.proofs.{Shared.{rules, ◌<◌, sym, ◌∙◌, subst, Trees, count, sum_kind, plain, tree_at, forest}, Within.{inside_child, inside_itself}, TermReadings.{sum_terms_in}}
use Rattle.expand_forms.proofs.terms.term_id.Goals as goal

pub child-requires : goal.child-requires
child-requires g c =
    let t = plain (tree_at c.args.tree (forest c.args.pool.now)) in
    let m = sum_kind t (sym c.in-Add.is ∙ c.kind.ensures.plain c.requires.expression) in
    (search rules, (c.requires.stands, (c.requires.expression, (c.requires.lists, subst (λ (ts : Trees). c.args.at < count ts) (sum_terms_in t m) c.requires.within))))

pub returns-in-Add-clause-inside : goal.returns-in-Add-clause-inside
returns-in-Add-clause-inside g c = inside_child c.args.at c.args.tree c.child.result (forest c.args.pool.now) c.requires.expression.live c.child.ensures.child.within c.child.ensures.child.id-is

pub returns-in_default-clause-inside : goal.returns-in_default-clause-inside
returns-in_default-clause-inside g c = inside_itself c.args.tree (forest c.args.pool.now) c.requires.expression.live
