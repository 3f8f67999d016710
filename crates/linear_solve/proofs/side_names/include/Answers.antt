use Rattle.linear_solve.proofs.Shared.{◌≡◌, ◌<◌, ◌≤◌, ℕ, List, [], ◌∷◌, true, false, sym, ◌∙◌, subst, ap, arith, length, eqb-true, length-map, prefix_len-le-length, eqb, name_of, names_listed}
use Rattle.linear_solve.proofs.{Shared.{Includes, Rises, is_before, Listed, list_any, prefix_len, bytes_eq}, RisingLemmas.{includes_new, includes_none, includes_there, listed_any, listed_none}}
use Rattle.linear_solve.proofs.RisingLemmas.{listed_with, rises_with}
use Rattle.linear_solve.proofs.side_names.include.Goals as goal

less : (n : ℕ) → n ≤ 6 → eqb n 6 ≡ false → n < 6
less n l e = grind arith

pub returns-then-is_among-clause-included : goal.returns-then-is_among-clause-included
returns-then-is_among-clause-included c =
    includes_there (name_of c.args.name) (names_listed c.args.names.now.items)
    (listed_any c.args.names.now.items (name_of c.args.name)
    (ap (λ (xs : List Listed). list_any (λ (o : Listed). bytes_eq (name_of o.name) (name_of c.args.name)) xs) (sym c.as_slice.ensures.value) ∙ sym c.is_among.ensures ∙ c.if-is_among.true))

pub returns-then-is_full-clause-included : goal.returns-then-is_full-clause-included
returns-then-is_full-clause-included c =
    includes_none (name_of c.args.name) (names_listed c.args.names.now.items)
    (length-map c.args.names.now.items (λ (l : Listed). name_of l.name) ∙ eqb-true (length c.args.names.now.items) 6 (sym c.is_full.ensures.value ∙ c.if-is_full.true))
    (listed_none c.args.names.now.items (name_of c.args.name)
    (ap (λ (xs : List Listed). list_any (λ (o : Listed). bytes_eq (name_of o.name) (name_of c.args.name)) xs) (sym c.as_slice.ensures.value) ∙ sym c.is_among.ensures ∙ c.if-is_among.false))

pub insert-requires : goal.insert-requires
insert-requires c =
    let at : c.len_before-at.result ≡ prefix_len (λ (o : Listed). is_before (name_of o.name) (name_of c.args.name)) c.args.names.now.items
    = c.len_before-at.ensures ∙ ap (λ (xs : List Listed). prefix_len (λ (o : Listed). is_before (name_of o.name) (name_of c.args.name)) xs) c.as_slice-2.ensures.value in (
      omega arith,
      (
        omega (arith, at, prefix_len-le-length (λ (o : Listed). is_before (name_of o.name) (name_of c.args.name)) c.args.names.now.items),
        less (length c.args.names.now.items) c.is_full.ensures.fits (sym c.is_full.ensures.value ∙ c.if-is_full.false),
      ),
    )

pub returns-clause-rises : goal.returns-clause-rises
returns-clause-rises c =
    let at : c.len_before-at.result ≡ prefix_len (λ (o : Listed). is_before (name_of o.name) (name_of c.args.name)) c.args.names.now.items
    = c.len_before-at.ensures ∙ ap (λ (xs : List Listed). prefix_len (λ (o : Listed). is_before (name_of o.name) (name_of c.args.name)) xs) c.as_slice-2.ensures.value in
    subst Rises (sym (ap names_listed c.insert.ensures.items ∙ listed_with c.args.names.now.items c.len_before-at.result (record { name = c.args.name }) at))
    (rises_with (name_of c.args.name) (names_listed c.args.names.now.items) c.requires.rises
    (listed_none c.args.names.now.items (name_of c.args.name)
    (ap (λ (xs : List Listed). list_any (λ (o : Listed). bytes_eq (name_of o.name) (name_of c.args.name)) xs) (sym c.as_slice.ensures.value) ∙ sym c.is_among.ensures ∙ c.if-is_among.false)))

pub returns-clause-included : goal.returns-clause-included
returns-clause-included c =
    let at : c.len_before-at.result ≡ prefix_len (λ (o : Listed). is_before (name_of o.name) (name_of c.args.name)) c.args.names.now.items
    = c.len_before-at.ensures ∙ ap (λ (xs : List Listed). prefix_len (λ (o : Listed). is_before (name_of o.name) (name_of c.args.name)) xs) c.as_slice-2.ensures.value in
    subst (λ (ys : List (List ℕ)). Includes (name_of c.args.name ∷ []) (names_listed c.args.names.now.items) ys true)
    (sym (ap names_listed c.insert.ensures.items ∙ listed_with c.args.names.now.items c.len_before-at.result (record { name = c.args.name }) at))
    (includes_new (name_of c.args.name) (names_listed c.args.names.now.items))
