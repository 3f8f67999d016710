use Rattle.linear_solve.proofs.Shared.{◌≡◌, map, refl, sym, ap, ◌∙◌, name_of, Tree, num, symbol, mult, root_kind, one_fraction, zero_fraction, Names, bare_row, constant_row, plain, tree_at, forest}
use Rattle.linear_solve.proofs.Shared.{one_value, zero_value}
use Rattle.calc_terms.specs.declared.kind.Kind.TheVariants as kind
use Rattle.linear_solve.proofs.sides.bare_row.Goals as goal

product_bare : (xs : Names) (t : Tree) → kind.Mult ≡ root_kind t → bare_row xs t ≡ constant_row xs one_fraction
product_bare xs (mult ts) e = refl
product_bare xs t e = cc

other_bare : (xs : Names) (t : Tree) → (kind.Num ≡ root_kind t → ⊥) → (kind.Sym ≡ root_kind t → ⊥) → (kind.Mult ≡ root_kind t → ⊥) → bare_row xs t ≡ constant_row xs zero_fraction
other_bare xs (num q) a b c = absurd (a refl)
other_bare xs (symbol x) a b c = absurd (b refl)
other_bare xs (mult ts) a b c = absurd (c refl)
other_bare xs t a b c = refl

pub returns-in-Mult : goal.returns-in-Mult
returns-in-Mult c =
    c.constant-in-Mult.ensures ∙ ap (constant_row (map name_of c.args.names.now)) (one_value c.whole.result c.whole.ensures)
    ∙ sym (product_bare (map name_of c.args.names.now) (plain (tree_at c.args.t (forest c.args.pool.now))) (c.in-Mult.ensures.plain c.requires.expression))

pub returns-in_default : goal.returns-in_default
returns-in_default c =
    let k = c.kind.ensures.plain c.requires.expression in
    c.constant-in_default.ensures ∙ ap (constant_row (map name_of c.args.names.now)) (zero_value c.whole-in_default.result c.whole-in_default.ensures)
    ∙ sym (other_bare (map name_of c.args.names.now) (plain (tree_at c.args.t (forest c.args.pool.now))) (λ e. c.in_default.not-Num (k ∙ sym e)) (λ e. c.in_default.not-Sym (k ∙ sym e)) (λ e. c.in_default.not-Mult (k ∙ sym e)))
