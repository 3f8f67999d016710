-- What reduced powers count, and that they are calm and spanned.
use Rattle.node_bounds.proofs.Shared.{◌≡◌, ℕ, ℤ, ◌+◌, ◌≤◌, List, Bool, true, false, None, refl, sym, ◌∙◌, subst, arith, is_number, number_words, counted, SpansTree, Fraction, whole_fraction}
use Rattle.node_bounds.proofs.Shared.{int_is_negative, Tree, num, undef, power, root, is_num, is_undef, zero_is, one_is, IsCalmAtZero, KeepsRoom, KeepsRootRoom, SpansRootOf, power_count, has_no_power}
use Rattle.node_bounds.proofs.Shared.{has_number_power, IsPowerAnswer, IsWrittenPower, is_zero_or_one, rewritten, answer_counts, whole_power_counts, answer_spans, whole_is, has_no_root, IsRootAnswer}
use Rattle.node_bounds.proofs.{Shared.{zeros, number_calm, whole_number, counts_one, number_counts_one, root_of_zero}, Clashes.{undef_words}, Calm.{calm_base, calm_power}}

-- ---- counts

-- a power as it stands counts no more than what is said of its answer
pub power_counts_most : (b e : Tree) → counted (power b e) ≤ power_count b e
power_counts_most b e = grind (arith, whole_power_counts)

-- ---- answers that no rule rewrites

module _ (ns : List (List ℕ)) where
  undef_calm : (b t : Tree) → is_undef t ≡ true → IsCalmAtZero ns b → IsCalmAtZero ns t
  undef_calm b t h c = subst (IsCalmAtZero ns) (sym (undef_words t h)) (record { once = c.once; calm = tt })

  trivial_calm : (b e t : Tree) → is_zero_or_one e ≡ true → IsWrittenPower b e t → IsCalmAtZero ns b → IsCalmAtZero ns t
  trivial_calm b e t h k a = grind (arith, zero_is, one_is)

  pub number_is_calm : (b t : Tree) → is_number t ≡ true → IsCalmAtZero ns b → IsCalmAtZero ns t
  number_is_calm b t h c = record { once = c.once; calm = number_calm (zeros ns) t (number_words t h) }

  pub answer_calm : (b e t : Tree) → rewritten b e ≡ None → IsPowerAnswer b e t → IsCalmAtZero ns (power b e) → IsCalmAtZero ns t
  answer_calm b e t r a c = by (has_no_power b e) (is_zero_or_one e) (has_number_power b e) refl refl refl
    where
      by : (d z n : Bool) → has_no_power b e ≡ d → is_zero_or_one e ≡ z → has_number_power b e ≡ n → IsCalmAtZero ns t
      by true z n d o m = undef_calm b t (a.undefined ∙ d) (calm_base c)
      by false true n d o m = trivial_calm b e t o (a.written d) (calm_base c)
      by false false true d o m = number_is_calm b t (a.number m d) (calm_base c)
      by false false false d o m = subst (IsCalmAtZero ns) (sym ((a.written d).kept (record { other = o; no_number = m; not_rewritten = r }))) c

pub finished_room : (b e t : Tree) → rewritten b e ≡ None → IsPowerAnswer b e t → KeepsRoom (power_count b e) (power b e) t
finished_room b e t r a = record {
  counts = λ ns c. omega (arith, answer_counts b e t r a, power_counts_most b e);
  calm = λ ns c. answer_calm ns b e t r a c;
  spanned = λ gs ns c s. answer_spans gs b e t r a s;
}

-- ---- powers of roots

pub undef_root_room : (b t : Tree) → t ≡ undef → KeepsRootRoom b t
undef_root_room b t e = subst (KeepsRootRoom b) (sym e) (record { counts = omega arith; calm = λ ns c. record { once = c.once; calm = tt }; spanned = λ gs s. tt })

pub kept_counts : (b : Tree) → counted (root b) ≤ 1 + counted b
kept_counts b = grind arith

kept_spans : (gs : List ℕ) (b : Tree) → is_num b ≡ false → SpansRootOf gs b → SpansTree gs (root b)
kept_spans gs b h k = grind arith

-- a rational that has a root is above 0, or it is 0
number_spans : (gs : List ℕ) (q : Fraction) (r : Tree) → int_is_negative q.num ≡ false → IsRootAnswer (num q) r → (SpansTree gs (root (num q)) → SpansTree gs r) → SpansRootOf gs (num q)
    → SpansTree gs r
number_spans gs q r k a s h = grind (arith, root_of_zero)

rooted_spans : (gs : List ℕ) (b r : Tree) → is_num b ≡ true → has_no_root b ≡ false → IsRootAnswer b r → (SpansTree gs (root b) → SpansTree gs r) → SpansRootOf gs b → SpansTree gs r
rooted_spans gs (num q) r n k a s h = number_spans gs q r k a s h
rooted_spans gs b r n k a s h = cc

-- the reduced root itself
pub root_room : (b r : Tree) → IsRootAnswer b r → ((gs : List ℕ) → SpansTree gs (root b) → SpansTree gs r) → KeepsRootRoom b r
root_room b r a s = by (has_no_root b) (is_num b) refl refl
  where
    by : (x n : Bool) → has_no_root b ≡ x → is_num b ≡ n → KeepsRootRoom b r
    by true n d m = undef_root_room b r (undef_words r (a.undefined ∙ d))
    by false true d m = record {
      counts = omega (arith, number_counts_one r (a.number m d));
      calm = λ ns c. number_is_calm ns b r (a.number m d) c;
      spanned = λ gs h. rooted_spans gs b r m d a (s gs) h;
    }
    by false false d m = subst (KeepsRootRoom b) (sym (a.kept m d)) (record {
      counts = kept_counts b;
      calm = λ ns c. record { once = c.once; calm = (tt, c.calm) };
      spanned = λ gs h. kept_spans gs b m h;
    })

-- a whole power of it is the last step
pub half_room : (b r u : Tree) (z : ℤ) → IsRootAnswer b r → ((gs : List ℕ) → SpansTree gs (root b) → SpansTree gs r) → rewritten r (num (whole_fraction z)) ≡ None
    → IsPowerAnswer r (num (whole_fraction z)) u → KeepsRootRoom b u
half_room b r u z a s n p =
    let k = root_room b r a s in
    let e : Tree = num (whole_fraction z) in record {
      counts = omega (arith, answer_counts r e u n p, whole_power_counts r e (whole_is z), k.counts);
      calm = λ ns c. answer_calm ns r e u n p (calm_power (k.calm ns c) (record { once = c.once; calm = tt }) (whole_number (zeros ns) e (whole_is z)));
      spanned = λ gs h. answer_spans gs r e u n p (tt, k.spanned gs h, tt);
    }

-- ---- roots

pub root_answer_counts : (a r : Tree) → IsRootAnswer a r → counted r ≤ counted (root a)
root_answer_counts a r h = grind (arith, undef_words, counts_one, number_counts_one)

pub root_answer_calm : (ns : List (List ℕ)) (a r : Tree) → IsRootAnswer a r → IsCalmAtZero ns a → IsCalmAtZero ns r
root_answer_calm ns a r h k = grind (arith, undef_calm, number_is_calm)
