use Rattle.node_pool.proofs.{Shared.{rules, ◌∙◌, sym, ap, named, payload_of_id}, Values.{HoldsSymbol, held, holds_symbol}}
use Rattle.node_pool.proofs.buffer.Buffer.name.Goals as goal

all : (c : goal.After-self) → HoldsSymbol (payload_of_id c.args.id c.args.self.now.nodes) c.args.at c.self.inside.store
all c = holds_symbol _ _ _ (held c.self.inside c.args.self.now c.args.id c.args.at c.self.invariant c.self.view_is c.requires.live c.requires.place) c.requires.symbol

pub name_at-requires : goal.name_at-requires
name_at-requires c = record { inside = (all c).room; name = (all c).name; small = search rules }

pub returns : goal.returns
returns c = (holds_symbol _ _ _ (held c.self.inside c.args.self.now c.args.id c.args.at c.self.invariant c.self.view_is c.requires.live c.requires.place) c.requires.symbol).is ∙ ap (λ x. named x) (sym c.name_at.ensures)
