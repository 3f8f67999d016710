use Rattle.calc_terms.proofs.{Shared.{◌∙◌, sym, true}, Names.{in_words, written, written_back}}
use Rattle.calc_terms.proofs.name.Name.read.Goals as goal

pub returns-then-not-is_name-clause-in_words : goal.returns-then-not-is_name-clause-in_words
returns-then-not-is_name-clause-in_words c = in_words _ _ (sym c.if-not-is_name.true ∙ c.is_name.ensures)

pub invariant_of-result : goal.invariant_of-result
invariant_of-result c = record { holds_name = written c.args.bytes.now _ (sym c.is_name.ensures ∙ c.if-not-is_name.false) c.copy_from_slice.ensures.after }

pub returns-clause-value : goal.returns-clause-value
returns-clause-value c = written_back c.args.bytes.now _ (sym c.is_name.ensures ∙ c.if-not-is_name.false) c.copy_from_slice.ensures.after

pub returns-clause-in_words : goal.returns-clause-in_words
returns-clause-in_words c = in_words _ true (sym c.if-not-is_name.false ∙ c.is_name.ensures)
