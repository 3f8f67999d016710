use Rattle.std.proofs.Common.{◌≤◌, ◌≡◌, List, ℕ, length, ap, subst, arith}
use Rattle.std.proofs.lemmas.List.{length-append}
use Rattle.calc_language.specs.{Texts.{text}, Tokens.{arrow_sign}}
use Rattle.calc_session.proofs.NamingLemmas.{line_short, line_written, root_bytes, root_expression, root_short, root_writable}
use Rattle.calc_terms.specs.Leaf.{name_of}
use Rattle.line_text.specs.Content.{Content, extended}
use Rattle.tree_handles.specs.{Expressions.{plain}, Inside.{tree_at}, Standing.{forest}}
use Rattle.calc_session.proofs.naming.write_store.Goals as goal

pub write_text-requires : goal.write_text-requires
write_text-requires c =
    let s = c.args.pool.now in
    record {
      stands = c.requires.stands;
      expression = root_expression s c.args.tree c.requires.stands c.requires.root c.requires.whole;
      writable = root_writable s c.args.tree c.requires.stands c.requires.root c.requires.whole c.requires.writable;
      room = omega (arith, c.requires.room, root_bytes s c.args.tree c.requires.stands c.requires.root c.requires.whole);
    }

pub push-requires : goal.push-requires
push-requires c =
    let s = c.args.pool.now in
    let long = root_short s c.args.tree c.requires.stands c.requires.root c.requires.whole c.requires.writable in
    omega (arith, c.requires.room, long, ap (λ (x : Content). length x.bytes) c.write_text.ensures, ap (λ (x : Content). x.capacity) c.write_text.ensures, length-append c.args.text.now.bytes (text (plain (tree_at c.args.tree (forest s)))))

pub push-requires-2 : goal.push-requires-2
push-requires-2 c =
    let s = c.args.pool.now in
    let long = root_short s c.args.tree c.requires.stands c.requires.root c.requires.whole c.requires.writable in
    let name : length c.bytes.result.now ≤ 7 = c.bytes.ensures.name.short in
    omega (
      arith,
      c.requires.room,
      long,
      name,
      ap (λ (x : Content). length x.bytes) c.write_text.ensures,
      ap (λ (x : Content). x.capacity) c.write_text.ensures,
      length-append c.args.text.now.bytes (text (plain (tree_at c.args.tree (forest s)))),
      ap (λ (x : Content). length x.bytes) c.push.ensures,
      ap (λ (x : Content). x.capacity) c.push.ensures,
      length-append c.write_text.new.text.bytes arrow_sign,
    )

pub returns : goal.returns
returns c =
    let s = c.args.pool.now in
    let behind : c.push-2.new.self ≡ extended c.push.new.self (name_of c.args.name) = subst (λ (x : List ℕ). c.push-2.new.self ≡ extended c.push.new.self x) c.bytes.ensures.value c.push-2.ensures in
    let short : length (name_of c.args.name) ≤ 7 = subst (λ (x : List ℕ). length x ≤ 7) c.bytes.ensures.value c.bytes.ensures.name.short in
    record {
      line = line_written s c.args.tree c.requires.stands c.requires.root c.requires.whole c.args.text.now c.write_text.new.text c.push.new.self c.push-2.new.self (name_of c.args.name) c.write_text.ensures c.push.ensures behind;
      short = line_short s c.args.tree c.requires.stands c.requires.root c.requires.whole c.args.text.now c.write_text.new.text c.push.new.self c.push-2.new.self (name_of c.args.name) c.requires.writable short c.write_text.ensures c.push.ensures behind;
    }
