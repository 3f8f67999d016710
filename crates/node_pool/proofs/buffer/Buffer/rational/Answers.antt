use Rattle.node_pool.proofs.{Shared.{rules, ◌∙◌, sym, ap, rational, payload_of_id}, Values.{HoldsRational, held, holds_rational}}
use Rattle.node_pool.proofs.buffer.Buffer.rational.Goals as goal

all : (c : goal.After-self) → HoldsRational (payload_of_id c.args.id c.args.self.now.nodes) c.args.at c.self.inside.store
all c = holds_rational _ _ _ (held c.self.inside c.args.self.now c.args.id c.args.at c.self.invariant c.self.view_is c.requires.live c.requires.place) c.requires.number

pub rational_at-requires : goal.rational_at-requires
rational_at-requires c = record { inside = (all c).room; rat = (all c).rat; small = search rules }

pub returns : goal.returns
returns c = (holds_rational _ _ _ (held c.self.inside c.args.self.now c.args.id c.args.at c.self.invariant c.self.view_is c.requires.live c.requires.place) c.requires.number).is ∙ ap (λ x. rational x) (sym c.rational_at.ensures)
