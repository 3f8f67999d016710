use Rattle.std.proofs.{Common.{◌∙◌, ◌+◌, ◌<◌, ◌≤◌, length, drop, sym, ap, subst, arith}, lemmas.Bool.{both_ways}, lemmas.List.{take_rest}, Math.Dec.{eqb}}
use Rattle.std.specs.{Prelude.{Contains, ◌-◌, take}, List.{position_or_len}}
use Rattle.calc_commands.proofs.{Splitting.{drop_first, first_there, has_sign, left_there, right_there, sides_there}, equations.sign_in.Goals.{then-are_blanks-via-then-are_blanks}}
use Rattle.calc_commands.proofs.equations.sign_in.Goals.{then-are_blanks-via-else-are_blanks+then-are_blanks-2}
use Rattle.calc_commands.specs.Parsing.{are_blanks}
use Rattle.calc_commands.proofs.equations.sign_in.Goals as goal

pub returns-then-sign-piece : goal.returns-then-sign-piece
returns-then-sign-piece c = λ e h is. has_sign c.args.piece.now e h is (omega (arith, c.if-sign-piece.true, c.len_before-sign.ensures.exactly))

pub returns-then-are_blanks : goal.returns-then-are_blanks
returns-then-are_blanks c = λ e h is.
    let piece = c.args.piece.now in
    let at = c.len_before-sign.result in
    let exactly = c.len_before-sign.ensures.exactly in
    let l : at < length piece = omega (arith, c.if-sign-piece.false, c.len_before-sign.ensures.within) in
    elim c.then-are_blanks.branch [
      | then-are_blanks-via-then-are_blanks w ↦ both_ways _ h.left.some (ap are_blanks (sym (left_there piece e h is at exactly l)) ∙ sym c.are_blanks.ensures ∙ w.if-are_blanks.true)
      | then-are_blanks-via-else-are_blanks+then-are_blanks-2 w ↦
          both_ways _ h.right.some (ap are_blanks (sym (take_rest piece (at + 1) ∙ right_there piece e h is at exactly l)) ∙ sym w.are_blanks-else-are_blanks.ensures ∙ w.if-are_blanks-2.true)
    ]

pub returns-then-len_before-right : goal.returns-then-len_before-right
returns-then-len_before-right c = λ e h is.
    let piece = c.args.piece.now in
    let at = c.len_before-sign.result in
    let l : at < length piece = omega (arith, c.if-sign-piece.false, c.len_before-sign.ensures.within) in
    let right_is = take_rest piece (at + 1) ∙ right_there piece e h is at c.len_before-sign.ensures.exactly l in
    h.right.no_equals (subst (λ t. Contains t 61) right_is (first_there 61 c.len_before.result (take (length piece - (at + 1)) (drop (at + 1) piece)) c.len_before.ensures.exactly c.if-len_before-right.true))

pub returns : goal.returns
returns c =
    let piece = c.args.piece.now in
    let at = c.len_before-sign.result in
    let rest = take_rest piece (at + 1) in
    let one = subst (λ t. length t ≤ position_or_len (λ b. eqb b 61) t) rest (omega (arith, c.if-len_before-right.false, c.len_before.ensures.exactly)) in (
      sides_there at piece c.len_before-sign.ensures.exactly c.requires (sym c.are_blanks.ensures ∙ c.if-are_blanks.false) (ap are_blanks (sym rest) ∙ sym c.are_blanks-else-are_blanks.ensures ∙ c.if-are_blanks-2.false) one,
      drop_first 61 at piece c.len_before-sign.ensures.exactly (omega (arith, c.if-sign-piece.false, c.len_before-sign.ensures.within)),
    )
