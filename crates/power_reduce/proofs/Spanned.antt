-- What spans a power spans what a step makes of it, but for the power of a root.
use Rattle.power_reduce.proofs.Shared.{or_right, or_parts, ◌≡◌, ℕ, zero, suc, ◌≤◌, ℤ, pos, negsuc, List, [], ◌∷◌, length, Bool, true, false, ◌&&◌, ◌||◌, not, Some, None, Result, inl, refl, sym, ap}
use Rattle.power_reduce.proofs.Shared.{◌∙◌, subst, arith, IfOk, nat_le, and_parts, eqb-true, leb-true, is_number, value, classes, IsNumber, Rises, is_half_num, split_product, KeepsMeanings, Inverts}
use Rattle.power_reduce.proofs.Shared.{Surd, surd_of, surd_power, AreProper, value_proper, value_rises, number_words, fraction_whole, Spans, SpansTree, SpansTrees, Fraction, whole_fraction}
use Rattle.power_reduce.proofs.Shared.{int_is_negative, int_is_zero, Tree, num, power, Trees, none, more, is_undef, whole_numerator, zero_is, one_is, State, is_zero, is_power, base_in, exponent_in}
use Rattle.power_reduce.proofs.Shared.{has_no_power, has_number_power, is_at_most_zero, IsWrittenPower, IsPowerAnswer, IsStep, is_zero_or_one, parts_of, raised, rewritten, rewritten_whole, Step}
use Rattle.power_reduce.proofs.Shared.{SpansStep, Forest, tree_of, NumberFault, given_told, Means, inverse_of_term, inverse_of_terms, term_has_inverse, terms_have_inverse, one_meaning, number_means}
use Rattle.power_reduce.proofs.{Shared.{Agree-Same, Same-refl, power_spanned, spans_power, spans_same, tree_spanned, value_spanned}, Exponents.{as_whole}, Powers.{power_is}}
use Rattle.std.specs.Prelude.{◌==◌}
use Rattle.reduce_port.specs.declared.step.Step.TheVariants as step

module _ (gs : List ℕ) where
  -- ---- parts of a product

  pub split_spans : (ts : Trees) → SpansTrees gs ts → SpansTree gs (split_product ts).coefficient × SpansTrees gs (split_product ts).factors
  split_spans ts h = grind arith

  pub parts_span : (ts : Trees) → SpansTrees gs ts → SpansTrees gs (parts_of ts)
  parts_span ts h = grind arith

  pub raised_span : (ts : Trees) (e : Tree) → SpansTrees gs ts → SpansTree gs e → SpansTrees gs (raised ts e)
  raised_span none e h k = tt
  raised_span (more t ts) e (h, hs) k = ((tt, h, k), raised_span ts e hs k)

  pub base_spans : (t : Tree) → is_power t ≡ true → SpansTree gs t → SpansTree gs (base_in t)
  base_spans t p s = grind arith

  -- ---- rewritings

  whole_rewriting_spans : (b e u : Tree) → rewritten_whole b e ≡ Some u → SpansTree gs b → SpansTree gs e → SpansTree gs u
  whole_rewriting_spans b e u r h k = grind (arith, raised_span, parts_span)

  pub rewriting_spans : (b e u : Tree) → is_half_num e ≡ false → rewritten b e ≡ Some u → SpansTree gs (power b e) → SpansTree gs u
  rewriting_spans b e u n r (p, h, k) = whole_rewriting_spans b e u (sym (as_whole b e n) ∙ r) h k

  -- ---- powers of Numbers

  -- a Number of one class or two has an inverse that is spanned
  short_inverse : (w : Surd) → AreProper w → Rises w → 1 ≤ length w → length w ≤ 2 → Spans gs w → (y : Surd) × Inverts y w × Spans gs y
  short_inverse [] p r l m s = absurd (omega arith)
  short_inverse (t ∷ []) (p, ps) r l m (s, ss) = (inverse_of_term t.coefficient t.radicand, term_has_inverse t.coefficient t.radicand p.not_zero p.positive, (s, tt))
  short_inverse (t ∷ u ∷ []) (p, (q, ps)) (r, rs) l m (s, (v, ss)) = (
    inverse_of_terms t.coefficient t.radicand u.coefficient u.radicand,
    terms_have_inverse t.coefficient u.coefficient t.radicand u.radicand p.not_zero p.positive q.positive r.1,
    (s, (v, tt)),
  )
  short_inverse (t ∷ u ∷ x ∷ w) p r l m s = absurd (omega arith)

  some_class : (b : Tree) → IsNumber b → is_zero b ≡ false → 1 ≤ length (value b)
  some_class b h z = grind arith

  no_zero_exponent : is_zero_or_one (num (whole_fraction (pos 0))) ≡ false → ⊥
  no_zero_exponent h = let k : is_zero_or_one (num (whole_fraction (pos 0))) ≡ true = rw (whole_numerator (pos 0)) refl in cc

  -- the value of a Number for the power
  means_power : (b t : Tree) (z : ℤ) → IsNumber b → IsNumber t → is_zero_or_one (num (whole_fraction z)) ≡ false → (int_is_negative z ≡ true → (is_zero b ≡ false) × (classes b ≤ 2))
      → KeepsMeanings (power b (num (whole_fraction z))) t → SpansTree gs b → SpansTree gs t
  means_power b t (pos zero) h k o m a s = absurd (no_zero_exponent o)
  means_power b t (pos (suc n)) h k o m a s =
      let v : Surd = surd_power (value b) (suc n) in
      let w : Means t [] v = a.means [] tt v (value b, surd_of (whole_fraction (pos (suc n))), number_means b [] h, Same-refl _, inl (pos (suc n), Same-refl _, Same-refl v)) in
      power_spanned gs b t (suc n) h k (Agree-Same (one_meaning [] tt t (value t) v (number_means t [] k) w)) s
  means_power b t (negsuc n) h k o m a s =
      let (z, c) = m refl in
      let (y, i, p) = short_inverse (value b) (value_proper b h) (value_rises b h) (some_class b h z) c (value_spanned gs b h s) in
      let v : Surd = surd_power y (suc n) in
      let w : Means t [] v = a.means [] tt v (value b, surd_of (whole_fraction (negsuc n)), number_means b [] h, Same-refl _, inl (negsuc n, Same-refl _, (y, i, Same-refl v))) in
      tree_spanned gs t k (spans_same gs t v k (Agree-Same (one_meaning [] tt t (value t) v (number_means t [] k) w)) (spans_power gs y (suc n) p))

  narrow : (m l : Bool) → (not m || l) ≡ true → m ≡ true → l ≡ true
  narrow m l h e = grind arith

  first_false : (z a : Bool) → (z && a) ≡ false → a ≡ true → z ≡ false
  first_false z a h e = grind arith

  below : (q : Fraction) → (q.den == 1) ≡ true → int_is_negative q.num ≡ true → is_at_most_zero (num q) ≡ true
  below q w g = rw (w, g) (or_right (int_is_zero q.num) true refl)

  number_power_spans : (b e t : Tree) → has_number_power b e ≡ true → has_no_power b e ≡ false → is_zero_or_one e ≡ false → is_number t ≡ true → KeepsMeanings (power b e) t → SpansTree gs b → SpansTree gs t
  number_power_spans b (num q) t n d o k m s =
      let (p, c) = and_parts _ _ n in
      let (f, w) = and_parts _ _ p in
      let e : q ≡ whole_fraction q.num = fraction_whole q (eqb-true q.den 1 w) in
      let down : int_is_negative q.num ≡ true → (is_zero b ≡ false) × (classes b ≤ 2) = λ g. (
        first_false (is_zero b) (is_at_most_zero (num q)) (or_parts (is_undef b || false) _ d).1 (below q w g),
        leb-true (classes b) 2 (narrow (int_is_negative q.num) (nat_le (classes b) 2) c g),
      ) in
      means_power b t q.num (number_words b f) (number_words t k) (ap (λ (x : Fraction). is_zero_or_one (num x)) (sym e) ∙ o) down
      (subst (λ (x : Fraction). KeepsMeanings (power b (num x)) t) e m) s
  number_power_spans b e t n d o k m s = absurd cc

  -- ---- answers

  undef_spans : (t : Tree) → is_undef t ≡ true → SpansTree gs t
  undef_spans t h = grind arith

  trivial_spans : (b e t : Tree) → is_zero_or_one e ≡ true → IsWrittenPower b e t → SpansTree gs b → SpansTree gs t
  trivial_spans b e t h w s = grind (arith, zero_is, one_is)

  pub answer_spans : (b e t : Tree) → rewritten b e ≡ None → IsPowerAnswer b e t → SpansTree gs (power b e) → SpansTree gs t
  answer_spans b e t r a (p, h, k) = by (has_no_power b e) (is_zero_or_one e) (has_number_power b e) refl refl refl
    where
      by : (d z n : Bool) → has_no_power b e ≡ d → is_zero_or_one e ≡ z → has_number_power b e ≡ n → SpansTree gs t
      by true z n d o m = undef_spans t (a.undefined ∙ d)
      by false true n d o m = trivial_spans b e t o (a.written d) h
      by false false true d o m = number_power_spans b e t m d o (a.number m d) a.reduces.meanings h
      by false false false d o m = subst (SpansTree gs) (sym ((a.written d).kept (record { other = o; no_number = m; not_rewritten = r }))) (p, h, k)

  -- ---- steps

  step_spans : (t : Tree) (others : Forest) (s : State) (x : Step) → is_power t ≡ true → is_half_num (exponent_in t) ≡ false → IsStep t others s x → SpansTree gs t → SpansStep gs s x
  step_spans t others s (step.Done h) p n (r, g) k = answer_spans (base_in t) (exponent_in t) (tree_of h s) r (given_told g) (subst (SpansTree gs) (power_is t p) k)
  step_spans t others s (step.Again h) p n g k = rewriting_spans (base_in t) (exponent_in t) (tree_of h s) n (given_told g).0 (subst (SpansTree gs) (power_is t p) k)

  pub if_step_spans : (t : Tree) (others : Forest) (s : State) (r : Result Step NumberFault) → is_power t ≡ true → is_half_num (exponent_in t) ≡ false → IfOk r (IsStep t others s) → SpansTree gs t → IfOk r (SpansStep gs s)
  if_step_spans t others s r p n k h = grind (arith, step_spans)
