use Rattle.dual_diff.proofs.{Shared.{◌∙◌, ap, arith, takes_kind}, Forms.compound_size}
use Rattle.dual_diff.proofs.counter.CounterWriter.over.Goals as goal

pub returns : goal.returns
returns c = λ w s ts a many. record {
  stands = a.stands;
  same = a.same;
  bytes = omega (arith, a.bytes, c.add.ensures, c.node_bytes.ensures, compound_size c.args.kind ts (ap (takes_kind c.args.kind) many ∙ c.requires.takes));
}
