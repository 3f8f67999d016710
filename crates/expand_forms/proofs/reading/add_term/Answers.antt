use Rattle.expand_forms.proofs.{Shared.{arith, names_length}, ReadTerms.{add_listed, has_monomial}}
use Rattle.expand_forms.proofs.reading.add_term.Goals as goal

pub packed_monomial-requires : goal.packed_monomial-requires
packed_monomial-requires c =
    let (s, v, x, l) = c.requires.listed in
    record { stands = c.requires.stands; expression = c.requires.expression; names = l.names; few = omega (arith, names_length c.args.names.now, l.few); monomial = (s.monomial, has_monomial x, x.named) }

pub returns-in-Ok : goal.returns-in-Ok
returns-in-Ok c = record {
  listed = λ s v x l. add_listed (record { monomial = c.in_ok-monomial.monomial; coefficient = c.coefficient-coefficient.result }) x l
      (c.in_ok-monomial.ensures.monomial s.monomial (has_monomial x) x.named) c.in_ok-monomial.ensures.names c.coefficient-coefficient.ensures c.in-Ok.ensures.terms;
}
