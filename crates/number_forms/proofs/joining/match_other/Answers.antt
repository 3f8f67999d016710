use Rattle.number_forms.proofs.{Shared.{rules, ◌<◌, ◌^◌, arith, term_of}, SquareFreeSums.{apart_at_place}}
use Rattle.number_forms.proofs.joining.match_other.Goals as goal

pub returns-then-are_square_free-clause-ok : goal.returns-then-are_square_free-clause-ok
returns-then-are_square_free-clause-ok g c =
    let small : (term_of c.args.term).radicand < 10 ^ 12 = omega (arith, c.radicand.ensures.value) in
    (apart_at_place _ _ c.args.at c.requires.sum c.args.term.clean small (c.are_square_free.ensures (search rules)) c.requires.place c.requires.other, c.requires.place)
