use Rattle.line_text.proofs.{Shared.{◌≡◌, ◌∙◌, ◌+◌, ◌/◌, ◌%◌, ◌∷◌, [], ℕ, List, length, sym, ap, arith, append_assoc, length-append, Content, extended}, Decimals.{one_digit, two_digits}}
use Rattle.line_text.proofs.writing.write_short.Goals as goal

pub push_byte-requires : goal.push_byte-requires
push_byte-requires c = omega (arith, ap length (one_digit c.args.n c.if-n-lt10.true), c.requires.room)

pub returns-then-n-lt10 : goal.returns-then-n-lt10
returns-then-n-lt10 c = c.push_byte.ensures ∙ ap (extended c.args.page.now) (sym (one_digit c.args.n c.if-n-lt10.true))

pub push_byte-requires-2 : goal.push_byte-requires-2
push_byte-requires-2 c = omega (arith, ap length (two_digits c.args.n c.if-n-lt10.false c.requires.few), c.requires.room)

pub push_byte-requires-3 : goal.push_byte-requires-3
push_byte-requires-3 c =
    omega (
      arith,
      ap length (two_digits c.args.n c.if-n-lt10.false c.requires.few),
      c.requires.room,
      ap (λ (x : Content). length x.bytes) c.push_byte-2.ensures,
      ap (λ (x : Content). x.capacity) c.push_byte-2.ensures,
      length-append c.args.page.now.bytes ((48 + c.args.n / 10) ∷ []),
    )

twice : (p : Content) (a b : ℕ) → extended (extended p (a ∷ [])) (b ∷ []) ≡ extended p (a ∷ b ∷ [])
twice p a b = ap (λ (bytes : List ℕ). let q : Content = record { bytes = bytes; capacity = p.capacity } in q) (append_assoc p.bytes (a ∷ []) (b ∷ []))

pub returns : goal.returns
returns c =
    c.push_byte-3.ensures ∙ ap (λ (p : Content). extended p ((48 + c.args.n % 10) ∷ [])) c.push_byte-2.ensures ∙ twice c.args.page.now (48 + c.args.n / 10) (48 + c.args.n % 10)
    ∙ ap (extended c.args.page.now) (sym (two_digits c.args.n c.if-n-lt10.false c.requires.few))
