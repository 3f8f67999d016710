use Rattle.raw_region.proofs.{Shared.{ℕ, ◌-◌, ◌≡◌, ◌∙◌, List, take, arith, ap, put, slid}, Turns.rotated_down}
use Rattle.std.proofs.Common.{drop}
use Rattle.raw_region.proofs.moves.turn_down.Goals as goal

pub returns : goal.returns
returns g c =
    let a = c.args.start in let b = c.args.mid in let e = c.args.end in let xs = c.args.bytes.now in
    let size : g.row.N ≡ b - a = omega (arith, c.requires.run) in
    c.write.ensures ∙ ap (λ (l : List ℕ). put l (e - g.row.N) c.read-run.result) c.slide.ensures ∙ ap (λ (n : ℕ). put (slid xs b a (e - b)) (e - n) c.read-run.result) size
    ∙ rotated_down xs c.read-run.result a b e (omega (arith, c.requires.run)) c.requires.high c.requires.inside (c.read-run.ensures ∙ ap (λ (n : ℕ). take n (drop a xs)) size)
