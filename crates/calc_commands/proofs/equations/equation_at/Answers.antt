use Rattle.calc_commands.proofs.Shared.{rules, ◌≡◌, ◌∙◌, ◌+◌, ◌≤◌, ◌∷◌, length, take, drop, sym, ap, subst, arith, take_rest, position_or_len, AreSides, cut_at, written, pieces_from}
use Rattle.calc_commands.proofs.{Splitting.{first_piece, lacking, lacks_before, sides_are, within_is, written_is}, equations.equation_at.Goals.{After-len_before-end}}
use Rattle.std.proofs.Math.Dec.{eqb}
use Rattle.calc_commands.proofs.equations.equation_at.Goals as goal

-- the end, in what stands from there on
end_is : (c : After-len_before-end) → c.len_before-end.result ≡ position_or_len (λ b. eqb b 59) (drop c.args.begin c.args.text.now)
end_is c = c.len_before-end.ensures.exactly ∙ ap (position_or_len (λ b. eqb b 59)) (take_rest c.args.text.now c.args.begin)

within : (c : After-len_before-end) → c.len_before-end.result ≤ length (drop c.args.begin c.args.text.now)
within c = omega (arith, c.len_before-end.ensures.within, ap length (take_rest c.args.text.now c.args.begin))

pub sign_in-requires : goal.sign_in-requires
sign_in-requires c = lacking 59 _ (lacks_before 59 c.len_before-end.result _ c.len_before-end.ensures.exactly)

pub returns-in_err-sign-clause-none : goal.returns-in_err-sign-clause-none
returns-in_err-sign-clause-none c = λ none e others h k.
    let here = (goal.at.returns-in_err-sign-clause-none c).After-len_before-end in
    let end = c.len_before-end.result in
    let first = first_piece c.args.begin c.args.text.now c.requires end (end_is here) (within here) in
    let piece : take end (drop c.args.begin c.args.text.now) ≡ written e = cc in
    c.in_err-sign.ensures e h (ap (take end) (take_rest c.args.text.now c.args.begin) ∙ piece)

pub returns : goal.returns
returns c =
    let sign = c.in_ok-sign.sign in
    let end = c.len_before-end.result in
    let there = subst (λ t. drop sign (take end t) ≡ 61 ∷ drop (sign + 1) (take end t)) (take_rest c.args.text.now c.args.begin) c.in_ok-sign.ensures.1 in
    let here = (goal.at.returns c).After-len_before-end in
    record {
      none = search rules;
      begin = search rules;
      within = within_is c.args.begin c.args.text.now c.requires end sign (within (goal.at.returns c).After-len_before-end) there;
      sides =
          sides_are c.args.begin c.args.text.now c.requires end sign (within (goal.at.returns c).After-len_before-end) there
          (subst (λ t. AreSides (cut_at sign (take end t))) (take_rest c.args.text.now c.args.begin) c.in_ok-sign.ensures.0);
      piece =
          first_piece c.args.begin c.args.text.now c.requires end (end_is here) (within here)
          ∙ ap (λ t. t ∷ pieces_from (c.args.begin + end + 1) c.args.text.now) (sym (written_is c.args.begin c.args.text.now c.requires end sign (within here) there));
    }
