-- The bytes of a node: 8 at least, 16 or 40 for a number, and always a multiple of 8.
use Rattle.calc_terms.proofs.Shared.{◌≡◌, ℕ, pos, ◌^◌, ◌<◌, ◌≤◌, Bool, true, false, refl, arith, ap, cond, eqb, ltb, sym, ◌∙◌, le-ltb, lt-ltb, ne_eqb, Kind, Fraction, lowest, code_of, size_by_form}
use Rattle.calc_terms.proofs.Shared.{form_of, Payload, kind_of_payload, has_short_form, size_of_payload, is_bare, is_short, Tree, num, whole_num, size, root_size, root_kind, has_short_root}
use Rattle.calc_terms.proofs.ShortForm.{whole_short}
use Rattle.calc_terms.specs.declared.kind.Kind.TheVariants as kind

-- a number's form
pub number_least : (b : Bool) → 16 ≤ size_by_form kind.Num b
number_least true = omega arith
number_least false = omega arith

pub number_most : (b : Bool) → size_by_form kind.Num b ≤ 40
number_most true = omega arith
number_most false = omega arith

pub form_least : (k : Kind) (b : Bool) → 8 ≤ size_by_form k b
form_least kind.Num true = omega arith
form_least kind.Num false = omega arith
form_least kind.Sym b = omega arith
form_least k b = omega arith

pub form_most : (k : Kind) (b : Bool) → size_by_form k b ≤ 40
form_most kind.Num true = omega arith
form_most kind.Num false = omega arith
form_most kind.Sym b = omega arith
form_most k b = omega arith

-- a kind that stands alone
pub bare_size : (k : Kind) (b : Bool) → is_bare k ≡ true → size_by_form k b ≡ 8
bare_size kind.Num b h = absurd cc
bare_size kind.Sym b h = absurd cc
bare_size k b h = refl

-- the same of what a node holds, and of the root of a tree
pub payload_least : (x : Payload) → 8 ≤ size_of_payload x
payload_least x = form_least (kind_of_payload x) (has_short_form x)

pub payload_most : (x : Payload) → size_of_payload x ≤ 40
payload_most x = form_most (kind_of_payload x) (has_short_form x)

pub root_most : (t : Tree) → root_size t ≤ 40
root_most t = form_most (root_kind t) (has_short_root t)

pub num_least : (q : Fraction) → 16 ≤ root_size (num q)
num_least q = number_least (is_short q)

pub num_most : (q : Fraction) → root_size (num q) ≤ 40
num_most q = number_most (is_short q)

-- a small whole number
by_form : (b : Bool) → b ≡ true → size_by_form kind.Num b ≡ 16
by_form b e = rw e refl

pub whole_size : (n : ℕ) → n < 2 ^ 63 → size (whole_num n) ≡ 16
whole_size n h = by_form (is_short (lowest (pos n) 1)) (whole_short n h)

-- the bytes that a code and a form tell
abbrev size_told : ℕ → ℕ → ℕ
size_told code form = cond (ltb 2 code) 8 (cond (eqb code 2) 16 (cond (eqb form 0) 40 16))

told : (k : Kind) (b : Bool) → size_told (code_of k) (form_of b) ≡ size_by_form k b
told kind.Num true = refl
told kind.Num false = refl
told kind.Sym b = refl
told kind.Undef b = refl
told kind.Add b = refl
told kind.Mult b = refl
told kind.Pow b = refl
told kind.Root b = refl
told kind.Neg b = refl
told kind.Sub b = refl
told kind.Div b = refl
told kind.Row b = refl
told kind.Fraction b = refl
told kind.Raised b = refl
told kind.Radical b = refl
told kind.Paren b = refl
told kind.Plus b = refl
told kind.Minus b = refl
told kind.Times b = refl

pub told_by : (code form size : ℕ) (k : Kind) (b : Bool) → size_told code form ≡ size → code ≡ code_of k → form ≡ form_of b → size ≡ size_by_form k b
told_by code form size k b e hc hf = sym e ∙ ap (λ (c : ℕ). size_told c form) hc ∙ ap (size_told (code_of k)) hf ∙ told k b

pub told_more : (code form : ℕ) → 2 < code → size_told code form ≡ 8
told_more code form h = rw (lt-ltb 2 code h) refl

pub told_two : (code form : ℕ) → code ≡ 2 → size_told code form ≡ 16
told_two code form h = ap (λ (c : ℕ). size_told c form) h

pub told_long : (code form : ℕ) → code ≤ 2 → (code ≡ 2 → ⊥) → form ≡ 0 → size_told code form ≡ 40
told_long code form h ne e = rw (le-ltb 2 code h, ne_eqb code 2 ne, e) refl

pub told_short : (code form : ℕ) → code ≤ 2 → (code ≡ 2 → ⊥) → (form ≡ 0 → ⊥) → size_told code form ≡ 16
told_short code form h ne e = rw (le-ltb 2 code h, ne_eqb code 2 ne, ne_eqb form 0 e) refl
