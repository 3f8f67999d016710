use Rattle.pool_layouts.proofs.{Shared.{◌∙◌, ◌∷◌, [], length, replicate, sym, ap, arith, length-append, length-replicate, Content, extended}, Inks.{extended_none, extended_twice, replicate_more}}
use Rattle.pool_layouts.proofs.ink.repeat.Goals as goal

pub loop-init : goal.loop-init
loop-init c = sym (extended_none c.args.text.now)

pub push-requires : goal.push-requires
push-requires c =
    omega (
      arith,
      c.requires,
      c.loop-test.true,
      ap (λ (x : Content). length x.bytes) c.loop.invariant,
      ap (λ (x : Content). x.capacity) c.loop.invariant,
      length-append c.args.text.now.bytes (replicate c.loop.counter c.args.byte),
      length-replicate c.loop.counter c.args.byte,
    )

pub loop-preserved : goal.loop-preserved
loop-preserved c =
    c.push.ensures ∙ ap (λ (x : Content). extended x (c.args.byte ∷ [])) c.loop.invariant ∙ extended_twice c.args.text.now (replicate c.loop.counter c.args.byte) (c.args.byte ∷ [])
    ∙ ap (extended c.args.text.now) (sym (replicate_more c.loop.counter c.args.byte))
