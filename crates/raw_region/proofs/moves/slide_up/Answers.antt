use Rattle.raw_region.proofs.{Shared.{ℕ, ◌+◌, ◌-◌, ◌≤◌, ◌≡◌, ◌∙◌, length, arith, ap}, Slides.{slid_less, length-slid}}
use Rattle.raw_region.proofs.moves.slide_up.Goals as goal

pub loop-left-preserved : goal.loop-left-preserved
loop-left-preserved g c =
    let inv = c.loop-left.invariant in let xs = c.args.bytes.now in let left = c.loop-left.left in let n = g.row.N in let a = c.args.from in let b = c.args.to in let len = c.args.len in
    let m : ℕ = left - n in
    let parts : left ≡ m + n = omega (arith, c.loop-left-test.true) in
    let moved = slid_less xs c.loop-left.bytes c.store.new.bytes c.load-run.result a b len left m n c.requires.up c.requires.inside inv.within parts inv.moved c.load-run.ensures c.store.ensures in
    let source : a + m + (len - m) ≤ length xs = omega (arith, parts, inv.within, c.requires.up, c.requires.inside) in
    let target : b + m + (len - m) ≤ length xs = omega (arith, parts, inv.within, c.requires.inside) in
    record { moved = moved; within = omega (arith, parts, inv.within); same = ap length moved ∙ length-slid xs (a + m) (b + m) (len - m) source target }
