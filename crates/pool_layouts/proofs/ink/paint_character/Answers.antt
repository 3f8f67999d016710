use Rattle.pool_layouts.proofs.{Shared.{◌∙◌, length, replicate, ℕ, ap, arith, length-append, length-replicate, Content, extended}, Inks.extended_twice}
use Rattle.pool_layouts.proofs.ink.paint_character.Goals as goal

pub push-requires : goal.push-requires
push-requires c =
    omega (
      arith,
      c.requires,
      ap (λ (x : Content). length x.bytes) c.repeat.ensures,
      ap (λ (x : Content). x.capacity) c.repeat.ensures,
      length-append c.args.text.now.bytes (replicate {A = ℕ} c.args.blanks 32),
      length-replicate {A = ℕ} c.args.blanks 32,
    )

pub returns-clause-text : goal.returns-clause-text
returns-clause-text c = c.push.ensures ∙ ap (λ (x : Content). extended x c.args.bytes.now) c.repeat.ensures ∙ extended_twice c.args.text.now (replicate c.args.blanks 32) c.args.bytes.now
