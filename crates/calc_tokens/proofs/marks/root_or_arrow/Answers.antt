use Rattle.calc_tokens.proofs.{Shared.{[], ◌∷◌, option_map, ap, ◌∙◌, rest_after, root_mark, front_of, arrow_mark}, Prefixes.{either_token}}
use Rattle.calc_tokens.proofs.marks.root_or_arrow.Goals as goal

pub returns : goal.returns
returns c =
    let rest = c.args.rest.now in
    ap (option_map front_of) c.or.ensures
    ∙ either_token c.continued.result c.continued-2.result (rest_after (134 ∷ 146 ∷ []) rest) (rest_after (136 ∷ 154 ∷ []) rest) arrow_mark root_mark c.continued.ensures c.continued-2.ensures
