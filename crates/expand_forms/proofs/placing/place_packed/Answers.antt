use Rattle.expand_forms.proofs.{Shared.{◌<◌, ◌∙◌, ℕ, length, ap, subst, IfErr, free_of, term_bytes}, FactorLists.{read_length}}
use Rattle.expand_forms.proofs.placing.place_packed.Goals as goal

pub returns-clause-room : goal.returns-clause-room
returns-clause-room c =
    let many = ap length c.as_slice.ensures.value ∙ read_length _ _ c.list_packed.ensures.read in
    subst (λ (n : ℕ). IfErr c.place_term.result (λ full. free_of c.args.pool.now < term_bytes n)) many c.place_term.ensures.room
