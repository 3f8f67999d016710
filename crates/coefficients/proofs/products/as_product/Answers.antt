use Rattle.coefficients.proofs.Shared.{◌∙◌, ap, refl, sym, mult, behind_first, front_same, front_end, front_without, gives, represents_handed, kind_of_root, product_kind, no_product_kind, gives_as}
use Rattle.coefficients.proofs.{Shared.{if_map}, Bytes.{product_bytes, other_bytes, always, no_bytes, as_bytes}, Factors.{single_factors}, Steps.{product_factors}}
use Rattle.coefficients.proofs.products.as_product.Goals as goal

pub returns-in-Mult-clause-ok : goal.returns-in-Mult-clause-ok
returns-in-Mult-clause-ok c =
    let k = kind_of_root {k = c.kind.result} c.id.ensures c.requires.stands c.requires.handed c.kind.ensures.plain in
    gives c.move_last.ensures.last (represents_handed c.requires.handed) (product_factors _ (product_kind _ (sym c.in-Mult.is ∙ k)))

pub returns-in-Mult-clause-front : goal.returns-in-Mult-clause-front
returns-in-Mult-clause-front c = front_end c.move_last.ensures.last (front_without behind_first front_same)

pub returns-in_default-clause-ok : goal.returns-in_default-clause-ok
returns-in_default-clause-ok c =
    let k = kind_of_root {k = c.kind.result} c.id.ensures c.requires.stands c.requires.handed c.kind.ensures.plain in
    let other = no_product_kind _ (λ e. c.in_default.not-Mult (k ∙ sym e)) in
    if_map c.node_over.result _ _ c.node_over.ensures.ok (λ h x. gives_as x refl (λ t e. e ∙ ap mult (sym (single_factors _ other))))

pub returns-in-Mult-clause-exactly : goal.returns-in-Mult-clause-exactly
returns-in-Mult-clause-exactly c =
    let k = kind_of_root {k = c.kind.result} c.id.ensures c.requires.stands c.requires.handed c.kind.ensures.plain in
    always (product_bytes _ (product_kind _ (sym c.in-Mult.is ∙ k))) no_bytes

pub returns-in_default-clause-exactly : goal.returns-in_default-clause-exactly
returns-in_default-clause-exactly c =
    let k = kind_of_root {k = c.kind.result} c.id.ensures c.requires.stands c.requires.handed c.kind.ensures.plain in
    let other = no_product_kind _ (λ e. c.in_default.not-Mult (k ∙ sym e)) in
    as_bytes (other_bytes _ other) c.node_over.ensures.exactly
