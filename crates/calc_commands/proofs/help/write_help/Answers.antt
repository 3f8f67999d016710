use Rattle.calc_commands.proofs.Shared.{refl}
use Rattle.calc_commands.proofs.HelpLines.{help_all, help_next}
use Rattle.calc_commands.proofs.help.write_help.Goals as goal

pub loop-at-preserved : goal.loop-at-preserved
loop-at-preserved c =
    help_next c.args.text.now c.loop-at.text c.push.new.self c.write_help_line.new.text c.all-words.result.now c.loop-at.at _ _ c.newline_before.result.now c.loop-at.invariant c.all-words.ensures c.loop-at-test.true refl
    c.push.ensures c.newline_before.ensures.line c.write_help_line.ensures.line c.newline_before.ensures.short c.write_help_line.ensures.short

pub returns : goal.returns
returns c = help_all c.args.text.now c.loop-at.text c.all-words.result.now c.loop-at.at c.loop-at.invariant c.all-words.ensures c.loop-at-test.false
