use Rattle.pool_layouts.proofs.Shared.{rules, ◌≤◌, ◌∙◌, ℕ, length, replicate, encode_utf8_all, codes, ap, sym, subst, arith, length-append, length-replicate, root_sign, Content}
use Rattle.pool_layouts.proofs.Shared.{extended, spare_of, payload_in, forest, Ink, IsInk, ink_characters, leaf_characters, inked, blanks_left, leaf_bytes, root_character}
use Rattle.pool_layouts.proofs.{Inks.{leaf_inked, none_owed, bar_inked, character_inked, extended_twice}, Characters.{root_encoded, small_bytes}}
use Rattle.pool_layouts.specs.declared.ink.Ink.TheVariants as inks
use Rattle.pool_layouts.proofs.ink.paint_ink.Goals as goal

pub repeat-requires : goal.repeat-requires
repeat-requires c =
    let h : IsInk (forest c.args.pool.now) (inks.Leaf c.in-Leaf.node) = subst (IsInk (forest c.args.pool.now)) c.in-Leaf.is c.requires.ink in
    let leaf = leaf_bytes (payload_in c.in-Leaf.node (forest c.args.pool.now)) in
    let room = subst (λ (x : Ink). length (encode_utf8_all (inked c.args.blanks (ink_characters (forest c.args.pool.now) x))) ≤ spare_of c.args.text.now) c.in-Leaf.is c.requires.room in
    omega (arith, room, ap length (leaf_inked (forest c.args.pool.now) c.in-Leaf.node c.args.blanks h), length-append (replicate c.args.blanks 32) leaf, length-replicate {A = ℕ} c.args.blanks 32)

pub write_leaf-requires : goal.write_leaf-requires
write_leaf-requires c =
    let h : IsInk (forest c.args.pool.now) (inks.Leaf c.in-Leaf.node) = subst (IsInk (forest c.args.pool.now)) c.in-Leaf.is c.requires.ink in
    let leaf = leaf_bytes (payload_in c.in-Leaf.node (forest c.args.pool.now)) in
    let room = subst (λ (x : Ink). length (encode_utf8_all (inked c.args.blanks (ink_characters (forest c.args.pool.now) x))) ≤ spare_of c.args.text.now) c.in-Leaf.is c.requires.room in
    record {
      live = h.0;
      room = omega (arith, room, ap length (leaf_inked (forest c.args.pool.now) c.in-Leaf.node c.args.blanks h), length-append (replicate c.args.blanks 32) leaf, length-replicate {A = ℕ} c.args.blanks 32, ap (λ (x : Content). length x.bytes) c.repeat.ensures, ap (λ (x : Content). x.capacity) c.repeat.ensures, length-append c.args.text.now.bytes (replicate {A = ℕ} c.args.blanks 32));
      stands = search rules;
    }

pub returns-in-Leaf : goal.returns-in-Leaf
returns-in-Leaf c =
    let h : IsInk (forest c.args.pool.now) (inks.Leaf c.in-Leaf.node) = subst (IsInk (forest c.args.pool.now)) c.in-Leaf.is c.requires.ink in
    let leaf = leaf_bytes (payload_in c.in-Leaf.node (forest c.args.pool.now)) in
    record {
      text = c.write_leaf.ensures ∙ ap (λ (x : Content). extended x leaf) c.repeat.ensures ∙ extended_twice c.args.text.now (replicate c.args.blanks 32) leaf
          ∙ ap (extended c.args.text.now)
          (sym (leaf_inked (forest c.args.pool.now) c.in-Leaf.node c.args.blanks h) ∙ ap (λ (x : Ink). encode_utf8_all (inked c.args.blanks (ink_characters (forest c.args.pool.now) x))) (sym c.in-Leaf.is));
      blanks = sym (ap (λ (x : Ink). blanks_left c.args.blanks (ink_characters (forest c.args.pool.now) x)) c.in-Leaf.is ∙ none_owed c.args.blanks (leaf_characters (payload_in c.in-Leaf.node (forest c.args.pool.now))) h.2);
    }

pub paint_bar-requires : goal.paint_bar-requires
paint_bar-requires c =
    let room = subst (λ (x : Ink). length (encode_utf8_all (inked c.args.blanks (ink_characters (forest c.args.pool.now) x))) ≤ spare_of c.args.text.now) c.in-Bar.is c.requires.room in
    omega (arith, room, ap length (bar_inked 45 c.args.blanks c.in-Bar.columns (omega arith)))

pub paint_bar-requires-in-Roof : goal.paint_bar-requires-in-Roof
paint_bar-requires-in-Roof c =
    let room = subst (λ (x : Ink). length (encode_utf8_all (inked c.args.blanks (ink_characters (forest c.args.pool.now) x))) ≤ spare_of c.args.text.now) c.in-Roof.is c.requires.room in
    omega (arith, room, ap length (bar_inked 95 c.args.blanks c.in-Roof.columns (omega arith)))

pub returns-in-Bar-clause-text : goal.returns-in-Bar-clause-text
returns-in-Bar-clause-text c =
    c.paint_bar.ensures.text ∙ ap (extended c.args.text.now)
    (sym (bar_inked 45 c.args.blanks c.in-Bar.columns (omega arith)) ∙ ap (λ (x : Ink). encode_utf8_all (inked c.args.blanks (ink_characters (forest c.args.pool.now) x))) (sym c.in-Bar.is))

pub returns-in-Roof-clause-text : goal.returns-in-Roof-clause-text
returns-in-Roof-clause-text c =
    c.paint_bar-in-Roof.ensures.text
    ∙ ap (extended c.args.text.now)
    (sym (bar_inked 95 c.args.blanks c.in-Roof.columns (omega arith)) ∙ ap (λ (x : Ink). encode_utf8_all (inked c.args.blanks (ink_characters (forest c.args.pool.now) x))) (sym c.in-Roof.is))

pub paint_character-requires : goal.paint_character-requires
paint_character-requires c =
    let room = subst (λ (x : Ink). length (encode_utf8_all (inked c.args.blanks (ink_characters (forest c.args.pool.now) x))) ≤ spare_of c.args.text.now) c.in-Root.is c.requires.room in
    omega (arith, room, ap length (character_inked root_character c.args.blanks root_sign root_encoded), length-append (replicate {A = ℕ} c.args.blanks 32) root_sign, length-replicate {A = ℕ} c.args.blanks 32)

pub paint_character-requires-in-Open : goal.paint_character-requires-in-Open
paint_character-requires-in-Open c =
    let room = subst (λ (x : Ink). length (encode_utf8_all (inked c.args.blanks (ink_characters (forest c.args.pool.now) x))) ≤ spare_of c.args.text.now) c.in-Open.is c.requires.room in
    omega (arith, room, ap length (character_inked 40 c.args.blanks _ (small_bytes (codes "(") (omega arith, tt))), length-append (replicate {A = ℕ} c.args.blanks 32) (codes "("), length-replicate {A = ℕ} c.args.blanks 32)

pub paint_character-requires-in-Close : goal.paint_character-requires-in-Close
paint_character-requires-in-Close c =
    let room = subst (λ (x : Ink). length (encode_utf8_all (inked c.args.blanks (ink_characters (forest c.args.pool.now) x))) ≤ spare_of c.args.text.now) c.in-Close.is c.requires.room in
    omega (
      arith,
      room,
      ap length (character_inked 41 c.args.blanks _ (small_bytes (codes ")") (omega arith, tt))),
      length-append (replicate {A = ℕ} c.args.blanks 32)
          (codes ")"),
      length-replicate {A = ℕ} c.args.blanks 32,
    )

pub returns-in-Root-clause-text : goal.returns-in-Root-clause-text
returns-in-Root-clause-text c =
    c.paint_character.ensures.text
    ∙ ap (extended c.args.text.now)
    (sym (character_inked root_character c.args.blanks _ root_encoded) ∙ ap (λ (x : Ink). encode_utf8_all (inked c.args.blanks (ink_characters (forest c.args.pool.now) x))) (sym c.in-Root.is))

pub returns-in-Open-clause-text : goal.returns-in-Open-clause-text
returns-in-Open-clause-text c =
    c.paint_character-in-Open.ensures.text
    ∙ ap (extended c.args.text.now)
    (sym (character_inked 40 c.args.blanks _ (small_bytes (codes "(") (omega arith, tt))) ∙ ap (λ (x : Ink). encode_utf8_all (inked c.args.blanks (ink_characters (forest c.args.pool.now) x))) (sym c.in-Open.is))

pub returns-in-Close-clause-text : goal.returns-in-Close-clause-text
returns-in-Close-clause-text c =
    c.paint_character-in-Close.ensures.text ∙ ap (extended c.args.text.now) (sym (character_inked 41 c.args.blanks _ (small_bytes (codes ")") (omega arith, tt)))
    ∙ ap (λ (x : Ink). encode_utf8_all (inked c.args.blanks (ink_characters (forest c.args.pool.now) x))) (sym c.in-Close.is))
