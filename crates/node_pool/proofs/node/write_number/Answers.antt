use Rattle.node_pool.proofs.Shared.{Bool, ap, arith, refl, sym, true, ℕ, ℤ, ◌∙◌, ◌≡◌, ◌<◌, ◌^◌, FitsSigned, unsigned_abs, w64, w128, cast_signed, cast_unsigned, ints}
use Rattle.node_pool.proofs.Shared.{to_z-of_z, low_bytes, number_bytes, rational, has_short_form, ratio_of, Ratio, short_parts, put}
use Rattle.node_pool.proofs.Numbers.{written_is}
use Rattle.node_pool.proofs.node.write_number.Goals as goal

wide : (z : ℤ) → unsigned_abs z < 2 ^ 127 → FitsSigned w128 z
wide z h = omega (arith, ints)

-- the number that is handed on is the numerator
same : (x y : ℤ) → unsigned_abs y < 2 ^ 127 → x ≡ y → cast_signed w128 (cast_unsigned w128 x) ≡ y
same x y small e = ap (λ (z : ℤ). cast_signed w128 (cast_unsigned w128 z)) e ∙ to_z-of_z w128 y (wide y small)

pub overflow_cast-num : goal.overflow_cast-num
overflow_cast-num c = rw (same c.num.result (ratio_of c.args.value).num c.num.ensures.rat.num_fits c.num.ensures.value) (short_parts (ratio_of c.args.value) c.num.ensures.rat (sym c.requires.form ∙ c.if-short.true)).fits

-- in the short form
formed : (b : Bool) (f : Ratio) → b ≡ true → low_bytes 8 (cast_unsigned w64 f.num) ≡ number_bytes b f
formed b f e = rw e refl

-- what is written is the numerator
written : (r : ℕ) (x y : ℤ) → unsigned_abs y < 2 ^ 127 → FitsSigned w64 y → x ≡ y → r ≡ cast_unsigned w64 (cast_signed w64 (cast_unsigned w64 (cast_signed w128 (cast_unsigned w128 x)))) → r ≡ cast_unsigned w64 y
written r x y small fits e h = h ∙ ap (λ (z : ℤ). cast_unsigned w64 (cast_signed w64 (cast_unsigned w64 z))) (same x y small e) ∙ ap (cast_unsigned w64) (to_z-of_z w64 y fits)

pub returns-then-short : goal.returns-then-short
returns-then-short c =
    let f = ratio_of c.args.value in
    let s : has_short_form (rational f) ≡ true = sym c.requires.form ∙ c.if-short.true in
    let number = written c.cast_unsigned.result c.num.result f.num c.num.ensures.rat.num_fits (short_parts f c.num.ensures.rat s).fits c.num.ensures.value c.cast_unsigned.ensures in
    let bytes = c.to_le_bytes.ensures ∙ written_is 8 c.cast_unsigned.result in
    c.write.ensures ∙ ap (put c.args.store.now c.args.at) (bytes ∙ ap (low_bytes 8) number ∙ formed (has_short_form (rational f)) f s)
