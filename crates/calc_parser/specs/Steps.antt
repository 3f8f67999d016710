-- The steps that make the tree of a line.
use Rattle.std.specs.Prelude.{◌≡◌, List, map}
use Rattle.calc_language.specs.Tokens.{Token}
use Rattle.calc_terms.specs.Trees.{Tree}
use Rattle.calc_parser.specs.{Lines.{IsTreeOf}, Postfix.{postfix}, Reader.{node_of}, declared.postfix.Step.{Step}}

-- where the tokens are a line, the steps are the nodes of its tree
abbrev pub AreStepsOf : List Step → List Token → Type 0
AreStepsOf steps ts = (t : Tree) → IsTreeOf ts t → map (node_of ts) steps ≡ postfix t
