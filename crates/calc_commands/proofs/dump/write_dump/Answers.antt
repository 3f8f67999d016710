use Rattle.calc_commands.proofs.{Shared.{◌∙◌, ℕ, List, length, get_or, take, refl, sym, ap, extended, length-encodings, entries, take_all}, Dumps.{used_there, written_more}}
use Rattle.calc_commands.proofs.dump.write_dump.Goals as goal

pub slice_bounds-bytes-end : goal.slice_bounds-bytes-end
slice_bounds-bytes-end c =
    let s = c.args.pool.now in
    let same = used_there s c.used.result c.bytes.result.now c.used.ensures.pool c.used.ensures.value c.bytes.ensures.value in
    c.used.ensures.value ∙ sym (ap length same ∙ length-encodings s.nodes c.used.ensures.pool.nodes)

pub loop-at-preserved : goal.loop-at-preserved
loop-at-preserved c =
    let bytes = take c.used.result c.bytes.result.now in
    written_more c.args.text.now c.loop-at.text c.write_entry.new.text bytes c.loop-at.at (get_or bytes c.loop-at.at 0) c.loop-at.invariant c.loop-at-test.true refl c.write_entry.ensures.text

pub returns : goal.returns
returns c =
    let s = c.args.pool.now in
    let same = used_there s c.used.result c.bytes.result.now c.used.ensures.pool c.used.ensures.value c.bytes.ensures.value in
    c.loop-at.invariant.text ∙ ap (λ (y : List ℕ). extended c.args.text.now (entries 0 y)) (take_all c.loop-at.at (take c.used.result c.bytes.result.now) c.loop-at-test.false ∙ same)
