-- A node's bytes are read as the node.
use Rattle.calc_terms.proofs.Shared.{◌≡◌, ◌==◌, ℕ, ◌+◌, ◌^◌, ◌<◌, List, ◌++◌, length, take, drop, refl, sym, ap, ◌∙◌, arith, append_assoc, Bool, true, false, FitsSigned, unsigned_abs, ℤ, lit<, w64}
use Rattle.calc_terms.proofs.Shared.{w128, cast_signed, cast_unsigned, ints, to_z-of_z, length-append, take_at, drop_at, Kind, Header, code_of, kind_of, size_by_form, padded, before_zero, Payload}
use Rattle.calc_terms.proofs.Shared.{rational, named, bare, kind_of_payload, has_short_form, size_of_payload, is_bare, IsPayload, Ratio, IsRat, ratio_at, ratio_bytes, number_at, number_bytes, form_of}
use Rattle.calc_terms.proofs.Shared.{header_in, short_at, Node, IsNode, header_of, size_of, low_bytes, from_bytes, header_bytes, payload_bytes, encoding, kind_or_undef, kind_at, payload_at, node_at}
use Rattle.calc_terms.proofs.{Codes.{kind_of-code_of}, LowBytes.{length-low_bytes, from_bytes-low_bytes}, Sizes.{bare_size}, ShortForm.{IsShort, short_parts}}
use Rattle.calc_terms.proofs.Names.{length-padded, before_zero-padded}
use Rattle.calc_terms.specs.declared.kind.Kind.TheVariants as kind

-- the fields of a header, and what stands behind it
pub record IsFront (c f i n k : ℕ) (p bs : List ℕ) : Type 0 where
  pub code : from_bytes (take 1 bs) ≡ c
  pub form : from_bytes (take 1 (drop 1 bs)) ≡ f
  pub id : from_bytes (take 2 (drop 2 bs)) ≡ i
  pub count : from_bytes (take 2 (drop 4 bs)) ≡ n
  pub children : from_bytes (take 2 (drop 6 bs)) ≡ k
  pub rest : drop 8 bs ≡ p

abbrev front : ℕ → ℕ → ℕ → ℕ → ℕ → List ℕ → List ℕ
front c form id count children p = low_bytes 1 c ++ (low_bytes 1 form ++ (low_bytes 2 id ++ (low_bytes 2 count ++ (low_bytes 2 children ++ p))))

fronted : (c form id count children : ℕ) (p : List ℕ) → c < 256 → form < 256 → id < 2 ^ 16 → count < 2 ^ 16 → children < 2 ^ 16 → IsFront c form id count children p (front c form id count children p)
unfolding low_bytes
fronted c form id count children p hc hf hi hn hk = record { code = omega arith; form = omega arith; id = omega arith; count = omega arith; children = omega arith; rest = refl }

pub code_small : (k : Kind) → code_of k < 256
code_small kind.Num = lit< tt
code_small kind.Sym = lit< tt
code_small kind.Undef = lit< tt
code_small kind.Add = lit< tt
code_small kind.Mult = lit< tt
code_small kind.Pow = lit< tt
code_small kind.Root = lit< tt
code_small kind.Neg = lit< tt
code_small kind.Sub = lit< tt
code_small kind.Div = lit< tt
code_small kind.Row = lit< tt
code_small kind.Fraction = lit< tt
code_small kind.Raised = lit< tt
code_small kind.Radical = lit< tt
code_small kind.Paren = lit< tt
code_small kind.Plus = lit< tt
code_small kind.Minus = lit< tt
code_small kind.Times = lit< tt

bare_at : (k : Kind) (b : Bool) (p : List ℕ) → is_bare k ≡ true → payload_at k b p ≡ bare k
bare_at kind.Num b p h = absurd cc
bare_at kind.Sym b p h = absurd cc
bare_at k b p h = refl

pub form_small : (b : Bool) → form_of b < 256
form_small true = lit< tt
form_small false = lit< tt

form_read : (b : Bool) → (form_of b == 1) ≡ b
form_read true = refl
form_read false = refl

pub length-number_bytes : (b : Bool) (f : Ratio) → length (number_bytes b f) + 8 ≡ size_by_form kind.Num b
length-number_bytes true f = omega (arith, length-low_bytes 8 (cast_unsigned w64 f.num))
length-number_bytes false f = omega (arith, length-append (low_bytes 16 (cast_unsigned w128 f.num)) (low_bytes 16 f.den), length-low_bytes 16 (cast_unsigned w128 f.num), length-low_bytes 16 f.den)

pub length-payload_bytes : (x : Payload) → IsPayload x → length (payload_bytes x) + 8 ≡ size_of_payload x
length-payload_bytes (rational f) h = length-number_bytes (has_short_form (rational f)) f
length-payload_bytes (named x) h = ap (λ (n : ℕ). n + 8) (length-padded x h)
length-payload_bytes (bare k) h = sym (bare_size k false h)

signed_fits : (z : ℤ) → unsigned_abs z < 2 ^ 127 → FitsSigned w128 z
signed_fits z h = omega (arith, ints)

-- bits of a rational that was read as one
pub back_unsigned : (r : ℕ) (z v : ℤ) → unsigned_abs v < 2 ^ 127 → z ≡ v → r ≡ cast_unsigned w128 (cast_signed w128 (cast_unsigned w128 z)) → r ≡ cast_unsigned w128 v
back_unsigned r z v small e h = h ∙ ap (λ (x : ℤ). cast_unsigned w128 (cast_signed w128 (cast_unsigned w128 x))) e ∙ ap (cast_unsigned w128) (to_z-of_z w128 v (signed_fits v small))

unsigned_small : (z : ℤ) → unsigned_abs z < 2 ^ 127 → cast_unsigned w128 z < 256 ^ 16
unsigned_small z h = omega (arith, ints)

read_at : (n : ℕ) (a rest : List ℕ) → n < 256 ^ 16 → a ≡ low_bytes 16 n ++ rest → (from_bytes (take 16 a) ≡ n) × (drop 16 a ≡ rest)
read_at n a rest h e =
    rw e (ap from_bytes (take_at (low_bytes 16 n) rest 16 (length-low_bytes 16 n)) ∙ from_bytes-low_bytes 16 n h, drop_at (low_bytes 16 n) rest 16 (length-low_bytes 16 n))

pub ratio_at-ratio_bytes : (f : Ratio) (rest : List ℕ) → IsRat f → ratio_at (ratio_bytes f ++ rest) ≡ f
ratio_at-ratio_bytes f rest h =
    let a = read_at (cast_unsigned w128 f.num) (ratio_bytes f ++ rest) (low_bytes 16 f.den ++ rest) (unsigned_small f.num h.num_fits) (append_assoc (low_bytes 16 (cast_unsigned w128 f.num)) (low_bytes 16 f.den) rest) in
    let b = read_at f.den (low_bytes 16 f.den ++ rest) rest (omega (arith, h.den_fits)) refl in
    let num : cast_signed w128 (from_bytes (take 16 (ratio_bytes f ++ rest))) ≡ f.num = ap (cast_signed w128) a.0 ∙ to_z-of_z w128 f.num (signed_fits f.num h.num_fits) in
    let den : from_bytes (take 16 (drop 16 (ratio_bytes f ++ rest))) ≡ f.den = ap (λ (l : List ℕ). from_bytes (take 16 l)) a.1 ∙ b.0 in
    rw (num, den) refl

short_small : (z : ℤ) → FitsSigned w64 z → cast_unsigned w64 z < 256 ^ 8
short_small z h = omega (arith, ints)

short_read : (f : Ratio) (rest : List ℕ) → IsShort f → number_at true (number_bytes true f ++ rest) ≡ f
short_read f rest h =
    let n = cast_unsigned w64 f.num in
    let a : from_bytes (take 8 (low_bytes 8 n ++ rest)) ≡ n = ap from_bytes (take_at (low_bytes 8 n) rest 8 (length-low_bytes 8 n)) ∙ from_bytes-low_bytes 8 n (short_small f.num h.fits) in
    let num : cast_signed w64 (from_bytes (take 8 (low_bytes 8 n ++ rest))) ≡ f.num = ap (cast_signed w64) a ∙ to_z-of_z w64 f.num h.fits in
    let den : 1 ≡ f.den = sym h.whole in
    rw (num, den) refl

pub number_at-number_bytes : (b : Bool) (f : Ratio) (rest : List ℕ) → IsRat f → (b ≡ true → IsShort f) → number_at b (number_bytes b f ++ rest) ≡ f
number_at-number_bytes true f rest h s = short_read f rest (s refl)
number_at-number_bytes false f rest h s = ratio_at-ratio_bytes f rest h

pub payload_at-payload_bytes : (x : Payload) (rest : List ℕ) → IsPayload x → payload_at (kind_of_payload x) (has_short_form x) (payload_bytes x ++ rest) ≡ x
payload_at-payload_bytes (rational f) rest h = ap (λ (y : Ratio). rational y) (number_at-number_bytes (has_short_form (rational f)) f rest h (short_parts f h))
payload_at-payload_bytes (named x) rest h = ap (λ (l : List ℕ). named (before_zero l)) (take_at (padded x) rest 8 (length-padded x h)) ∙ ap (λ (l : List ℕ). named l) (before_zero-padded x h)
payload_at-payload_bytes (bare k) rest h = bare_at k false rest h

-- the same bytes, in another grouping
encoding_is : (n : Node) (rest : List ℕ) → encoding n ++ rest ≡ front (code_of (kind_of_payload n.payload)) (form_of (has_short_form n.payload)) n.id n.count n.children (payload_bytes n.payload ++ rest)
unfolding encoding header_bytes low_bytes
encoding_is n rest = refl

pub length-header_bytes : (h : Header) → length (header_bytes h) ≡ 8
unfolding header_bytes low_bytes
length-header_bytes h = refl

pub length-encoding : (n : Node) → IsNode n → length (encoding n) ≡ size_of n
unfolding encoding
length-encoding n h = omega (arith, length-append (header_bytes (header_of n)) (payload_bytes n.payload), length-header_bytes (header_of n), length-payload_bytes n.payload h.payload)

-- what stands behind a header
pub drop-encoding : (n : Node) (rest : List ℕ) → drop 8 (encoding n ++ rest) ≡ payload_bytes n.payload ++ rest
unfolding encoding header_bytes low_bytes
drop-encoding n rest = refl

pub header_in-encoding : (n : Node) (rest : List ℕ) → IsNode n → header_in (encoding n ++ rest) ≡ header_of n
unfolding header_in kind_at short_at
header_in-encoding n rest h =
    let k = kind_of_payload n.payload in
    let s = has_short_form n.payload in
    let bs = front (code_of k) (form_of s) n.id n.count n.children (payload_bytes n.payload ++ rest) in
    let f = fronted (code_of k) (form_of s) n.id n.count n.children (payload_bytes n.payload ++ rest) (code_small k) (form_small s) h.id h.count h.children in
    let kind-is : kind_or_undef (kind_of (from_bytes (take 1 bs))) ≡ k = ap (λ (c : ℕ). kind_or_undef (kind_of c)) f.code ∙ ap kind_or_undef (kind_of-code_of k) in
    let form-is : (from_bytes (take 1 (drop 1 bs)) == 1) ≡ s = ap (λ (c : ℕ). c == 1) f.form ∙ form_read s in
    ap header_in (encoding_is n rest) ∙ rw (kind-is, form-is, f.id, f.count, f.children) refl

pub node_at-encoding : (n : Node) (rest : List ℕ) → IsNode n → node_at (encoding n ++ rest) ≡ n
unfolding node_at
node_at-encoding n rest h =
    let e = header_in-encoding n rest h in
    let read : payload_at (kind_of_payload n.payload) (has_short_form n.payload) (drop 8 (encoding n ++ rest)) ≡ n.payload = ap (payload_at (kind_of_payload n.payload) (has_short_form n.payload)) (drop-encoding n rest) ∙ payload_at-payload_bytes n.payload rest h.payload in
    rw (e, read) refl

-- the form alone
pub short_at-encoding : (n : Node) (rest : List ℕ) → IsNode n → short_at (encoding n ++ rest) ≡ has_short_form n.payload
unfolding header_in
short_at-encoding n rest h = ap (λ (x : Header). x.short) (header_in-encoding n rest h)

-- a header read in parts
pub header_is : (bs : List ℕ) (k : Kind) (b : Bool) (i n c : ℕ) → k ≡ kind_at bs → b ≡ short_at bs → i ≡ from_bytes (take 2 (drop 2 bs)) → n ≡ from_bytes (take 2 (drop 4 bs)) → c ≡ from_bytes (take 2 (drop 6 bs))
    → (record { kind = k; short = b; id = i; count = n; children = c }) ≡ header_in bs
unfolding header_in
header_is bs k b i n c hk hb hi hn hc = rw (hk, hb, hi, hn, hc) refl
