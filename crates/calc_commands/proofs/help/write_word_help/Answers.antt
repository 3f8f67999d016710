use Rattle.calc_commands.proofs.Shared.{◌∙◌, ◌∷◌, ◌++◌, List, ℕ, ap, codes, extended, help_line}
use Rattle.calc_commands.proofs.HelpLines.{three}
use Rattle.calc_commands.proofs.help.write_word_help.Goals as goal

pub returns : goal.returns
returns c =
    three c.args.text.now c.write_help_line.new.text c.push.new.self c.push-2.new.self (help_line c.args.word) (10 ∷ codes "for example ") c.example.result.now c.write_help_line.ensures.line c.push.ensures c.push-2.ensures
    ∙ ap (λ (e : List ℕ). extended c.args.text.now (help_line c.args.word ++ (10 ∷ (codes "for example " ++ e)))) c.example.ensures.value
