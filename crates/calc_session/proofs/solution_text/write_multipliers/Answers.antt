use Rattle.std.proofs.Common.{◌<◌, ◌∙◌, length, map, codes, ap, arith}
use Rattle.calc_session.proofs.{Shared.{length-map, value_of, Content, entries_of, operand_text}, SolutionLemmas.{long_next, operand_there, told_next}}
use Rattle.calc_session.proofs.solution_text.write_multipliers.Goals as goal

pub push_operand-requires : goal.push_operand-requires
push_operand-requires c =
    let long = long_next (operand_text (value_of c.get.result)) c.comma_before.result.now c.loop-at.text c.push-in-loop-at.new.self c.push-in-loop-at.new.self c.loop-at.at c.push-in-loop-at.ensures c.comma_before.ensures in
    omega (arith, long, ap (λ (x : Content). x.capacity) c.push-in-loop-at.ensures, c.loop-at.invariant.short, c.loop-at.invariant.capacity, c.requires.room, c.requires.few, c.loop-at-test.true, c.len-at-end.ensures.value)

pub loop-at-preserved : goal.loop-at-preserved
loop-at-preserved c =
    let qs = entries_of c.args.multipliers.now in
    let within : c.loop-at.at < length (entries_of c.args.multipliers.now) = omega (arith, c.loop-at-test.true, c.len-at-end.ensures.value) in
    let long = long_next (operand_text (value_of c.get.result)) c.comma_before.result.now c.loop-at.text c.push-in-loop-at.new.self c.push_operand.new.text c.loop-at.at c.push-in-loop-at.ensures c.comma_before.ensures in
    record {
      told = told_next (codes "none ") (map operand_text qs) c.loop-at.at (operand_text (value_of c.get.result)) c.comma_before.result.now c.loop-at.text c.push-in-loop-at.new.self c.push_operand.new.text (omega (arith, within, length-map (entries_of c.args.multipliers.now) operand_text))
          (operand_there qs c.loop-at.at (value_of c.get.result) within c.get.ensures) c.loop-at.invariant.told c.push-in-loop-at.ensures c.comma_before.ensures c.push_operand.ensures.value;
      short = omega (arith, long, c.push_operand.ensures.short, c.loop-at.invariant.short);
      capacity = ap (λ (x : Content). x.capacity) c.push_operand.ensures.value ∙ ap (λ (x : Content). x.capacity) c.push-in-loop-at.ensures ∙ c.loop-at.invariant.capacity;
    }
