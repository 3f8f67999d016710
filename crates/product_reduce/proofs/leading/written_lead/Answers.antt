use Rattle.product_reduce.proofs.{Shared.{forest, factors_in}, Leads.{lead_none}}
use Rattle.product_reduce.proofs.leading.written_lead.Goals as goal

pub returns-in_default : goal.returns-in_default
returns-in_default c = (_, lead_none (factors_in c.args.product.now (forest c.args.pool.now)) c.in_default.ensures c.requires.some)
