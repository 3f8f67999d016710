use Rattle.calc_tokens.proofs.{Shared.{ap, ◌∙◌, option_map, token_of, front_of}, Prefixes.{not_continued, is_continued}}
use Rattle.calc_tokens.proofs.marks.continued.Goals as goal

pub returns-in_err-behind : goal.returns-in_err-behind
returns-in_err-behind c =
    ap (option_map front_of) c.from_residual.ensures ∙ not_continued (token_of c.args.what) c.args.others.now c.args.rest.now c.in_err-behind.ensures.cases

pub returns : goal.returns
returns c =
    is_continued (token_of c.args.what) c.args.others.now c.args.rest.now c.in_ok-behind.behind.now (c.in_ok-behind.ensures.cases.0) (c.in_ok-behind.ensures.cases.1)
