use Rattle.std.proofs.Common.{◌≤◌, ◌<◌, ◌+◌, ◌*◌, ◌∙◌, ap, arith, length}
use Rattle.std.proofs.lemmas.List.{length-append}
use Rattle.calc_commands.specs.Words.{newline_before}
use Rattle.calc_session.proofs.NamingLemmas.{line_room, names_all, names_next, root_at}
use Rattle.calc_terms.specs.Leaf.{name_of}
use Rattle.line_text.specs.Content.{Content}
use Rattle.name_table.specs.Tables.{Entry}
use Rattle.tree_handles.specs.{Forest.{bytes_in}, Roots.{root_tree}, Standing.{forest}}
use Rattle.calc_session.proofs.naming.write_names.Goals.{After-entry-tree}
use Rattle.calc_session.proofs.naming.write_names.Goals as goal

-- the entry of the line, and the room for it
abbrev entry : After-entry-tree → Entry
entry c = record { name = name_of c.entry-tree.result.0; tree = c.entry-tree.result.1 }

within : (c : After-entry-tree) → c.loop-at.at < length c.args.table.now.stored
within c = omega (arith, c.loop-at-test.true, c.names-count.ensures)

room : (c : After-entry-tree) → length c.loop-at.text.bytes + 2 * bytes_in (root_tree c.entry-tree.result.1 (forest c.args.pool.now)) + 11 ≤ c.loop-at.text.capacity
room c = line_room c.args.pool.now c.args.table.now c.requires.stands c.requires.held c.args.text.now c.loop-at.at c.loop-at.text c.loop-at.invariant (within c) (entry c) c.entry-tree.ensures c.requires.room

pub push-requires-in-loop-at : goal.push-requires-in-loop-at
push-requires-in-loop-at c = omega (arith, room (goal.at.push-requires-in-loop-at c).After-entry-tree, c.newline_before.ensures.short)

pub write_store-requires-clause-root : goal.write_store-requires-clause-root
write_store-requires-clause-root c = root_at c.loop-at.at c.args.table.now.stored (forest c.args.pool.now) (entry (goal.at.write_store-requires-clause-root c).After-entry-tree) c.entry-tree.ensures c.requires.held.roots.1

pub write_store-requires-clause-room : goal.write_store-requires-clause-room
write_store-requires-clause-room c =
    omega (arith, room (goal.at.write_store-requires-clause-room c).After-entry-tree, c.newline_before.ensures.short, ap (λ (x : Content). length x.bytes) c.push-in-loop-at.ensures, ap (λ (x : Content). x.capacity) c.push-in-loop-at.ensures, length-append c.loop-at.text.bytes c.newline_before.result.now)

pub loop-at-preserved : goal.loop-at-preserved
loop-at-preserved c =
    let here = (goal.at.loop-at-preserved c).After-entry-tree in
    names_next c.args.pool.now c.args.table.now c.requires.stands c.requires.held c.args.text.now c.loop-at.at c.loop-at.text c.loop-at.invariant (within here) (entry here) c.entry-tree.ensures c.requires.room c.push-in-loop-at.new.self c.write_store.new.text c.newline_before.result.now
    c.push-in-loop-at.ensures (c.newline_before.ensures.line ∙ ap newline_before c.from.ensures) c.newline_before.ensures.short c.write_store.ensures.line c.write_store.ensures.short

pub returns : goal.returns
returns c =
    let many = c.names-count.ensures in
    record {
      told = names_all c.args.pool.now c.args.table.now c.args.text.now c.loop-at.text c.loop-at.at c.loop-at.invariant (omega (arith, c.loop-at-test.false, many)) (omega (arith, c.if-count-eq0.false, many));
      capacity = c.loop-at.invariant.capacity;
    }
