use Rattle.expand_forms.proofs.{Shared.{drop}, PackedTerms.{exponent_of, taken_first}}
use Rattle.expansions.proofs.{FactorOrders.{names_equal as names_cmp}, ValueLaws.{names_equal}}
use Rattle.expand_forms.proofs.packing.take_exponent.Goals as goal

pub small_exponent-requires : goal.small_exponent-requires
small_exponent-requires c = let (m, h) = c.requires.coming in let (f, r) = exponent_of c.in-Some.factor h c.in-Some.is in record { read = (f, r) }

pub next_read-requires-clause-ahead : goal.next_read-requires-clause-ahead
next_read-requires-clause-ahead c = let (m, h) = c.requires.coming in (drop 1 m, h.ahead)

pub returns-in_ok-exponent-in-Some : goal.returns-in_ok-exponent-in-Some
returns-in_ok-exponent-in-Some c = record {
  taken = λ m h.
      taken_first _ c.in_ok-exponent-in-Some.exponent c.in-Some.factor h c.in-Some.is (names_equal _ _ (names_cmp c.in-Some.factor.name c.args.name c.ne.result c.ne.ensures c.if-ne.false))
      c.in_ok-exponent-in-Some.ensures.value (c.next_read.ensures.factor (drop 1 m) h.ahead) (c.next_read.ensures.ahead (drop 1 m) h.ahead);
}
