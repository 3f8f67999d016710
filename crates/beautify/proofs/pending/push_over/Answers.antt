use Rattle.beautify.proofs.pending.push_over.Goals as goal

pub returns-clause-owed : goal.returns-clause-owed
returns-clause-owed c f us r o h = c.push.ensures.owed f us r o (c.requires.takes, h)
