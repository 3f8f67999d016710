use Rattle.calc_tokens.proofs.{Shared.{Some, option_map, sym, ap, ◌∙◌, name, front_of}, WordRuns.{root_word, undef_is, name_word, long_word}}
use Rattle.calc_tokens.proofs.words.word.Goals as goal

pub returns-then-eq : goal.returns-then-eq
returns-then-eq c =
    root_word c.args.bytes.now c.letters_and_digits.result.0.now c.letters_and_digits.result.1.now
    (record { front_is = c.letters_and_digits.ensures.front; behind_is = c.letters_and_digits.ensures.behind; letter = c.requires })
    (rw c.as_slice.ensures at (sym c.if-eq.ensures))

pub returns-then-eq-2 : goal.returns-then-eq-2
returns-then-eq-2 c =
    undef_is c.args.bytes.now c.letters_and_digits.result.0.now c.letters_and_digits.result.1.now
    (record { front_is = c.letters_and_digits.ensures.front; behind_is = c.letters_and_digits.ensures.behind; letter = c.requires })
    (rw c.as_slice-2.ensures at (sym c.if-eq-2.ensures))

pub returns-in_err-name : goal.returns-in_err-name
returns-in_err-name c =
    ap (option_map front_of) c.from_residual.ensures
    ∙ long_word c.args.bytes.now c.letters_and_digits.result.0.now c.letters_and_digits.result.1.now
    (record { front_is = c.letters_and_digits.ensures.front; behind_is = c.letters_and_digits.ensures.behind; letter = c.requires })
    (rw c.as_slice.ensures at (sym c.if-eq.ensures)) (rw c.as_slice-2.ensures at (sym c.if-eq-2.ensures)) (sym c.in_err-name.ensures.exactly)

pub returns : goal.returns
returns c =
    ap (λ x. Some (name x, c.letters_and_digits.result.1.now)) c.in_ok-name.ensures.value
    ∙ name_word c.args.bytes.now c.letters_and_digits.result.0.now c.letters_and_digits.result.1.now
    (record { front_is = c.letters_and_digits.ensures.front; behind_is = c.letters_and_digits.ensures.behind; letter = c.requires })
    (rw c.as_slice.ensures at (sym c.if-eq.ensures)) (rw c.as_slice-2.ensures at (sym c.if-eq-2.ensures)) (sym c.in_ok-name.ensures.exactly)
