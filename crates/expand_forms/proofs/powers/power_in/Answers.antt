use Rattle.expand_forms.proofs.{Shared.{Option, subst, name_of, BeginsWith}, NotedPowers.{named_power, placed_is}}
use Rattle.expand_forms.specs.declared.factors.Factor.{Factor as Read}
use Rattle.expand_forms.proofs.powers.power_in.Goals as goal

pub returns-else-ne : goal.returns-else-ne
returns-else-ne c = λ m h n.
    let (f, r, e, read) = subst (λ (o : Option Read). BeginsWith o m) c.in-Some.is (c.next_read.ensures.factor m (c.factor_nodes-nodes.ensures m h)) in
    placed_is (name_of c.args.name) m f.exponent (named_power (name_of c.args.name) f m r e h.monomial n).0 c.placed_power.result (c.placed_power.ensures f read)
