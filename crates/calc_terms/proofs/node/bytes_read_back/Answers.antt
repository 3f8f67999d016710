use Rattle.calc_terms.proofs.Codec.{node_at-encoding, length-encoding}
use Rattle.calc_terms.proofs.node.bytes_read_back.Goals as goal

pub returns-clause-read : goal.returns-clause-read
returns-clause-read c = node_at-encoding

pub returns-clause-size : goal.returns-clause-size
returns-clause-size c = length-encoding
