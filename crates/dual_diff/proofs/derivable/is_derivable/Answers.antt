use Rattle.dual_diff.proofs.{Shared.{◌≡◌, refl, ◌∙◌, name_of, root_kind, plain, tree_at, forest}, Exponents.other_derivable}
use Rattle.dual_diff.proofs.derivable.is_derivable.Goals as goal

pub returns-in_default : goal.returns-in_default
returns-in_default c =
    let t = plain (tree_at c.args.node (forest c.args.pool.now)) in
    let is : c.kind.result ≡ root_kind t = c.kind.ensures.plain c.requires.expression in
    (λ h. other_derivable (name_of c.args.name) t (λ e. c.in_default.not-Pow (is ∙ e)), λ h. refl)
