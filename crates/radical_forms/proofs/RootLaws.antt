-- What each root of a reduced tree reduces to.
use Rattle.radical_forms.proofs.Shared.{number_load, no_names, ◌≡◌, ◌≢◌, ◌==◌, ℕ, ◌<◌, ◌≤◌, Bool, true, false, ℤ, pos, ◌<ℤ◌, [], ◌∷◌, inl, inr, refl, sym, ap, ◌∙◌, subst, arith, eqb-true, eq-eqb}
use Rattle.radical_forms.proofs.Shared.{ints, Err, IsErrAnd, Fraction, zero_fraction, one_fraction, is_one_fraction, whole_fraction, int_is_negative, int_is_zero, Tree, num, undef, root, names}
use Rattle.radical_forms.proofs.Shared.{is_num, is_undef, itself, in_root, one_is, IsClean, IsRootOf, is_term, value, IsTerm, is_reduced, IsReduced, Same, Term, Surd, surd_of, HasNoNewName, nest}
use Rattle.radical_forms.proofs.Shared.{load, number_test, number_words, term_words, KeepsMeanings, root_of_rational, reduced_test, reduced_words, Same-eq, undef_part, root_of_negative, Rewrites-refl}
use Rattle.radical_forms.proofs.Shared.{keeps, rational_term, root_term, multiple_term, one_test, term_number, term_value, rational_tree, root_tree, multiple_tree, term_tree, has_no_root}
use Rattle.radical_forms.proofs.Shared.{IsRootAnswer, HasWideRoot, LacksRoot, IsOverflow, IfOverflow, building, NumberFault, Full, DoesNotFit, Mul, Overflow, lt_z}
use Rattle.number_forms.proofs.ListedTerms.{two as two_or_more}
use Rattle.std.specs.Prelude.{length, Result, if◌then◌else◌}
use Rattle.calc_algebra.specs.Numbers.{is_number, term_of}
use Rattle.tree_handles.specs.declared.fault.NumberFault.TheVariants as fault

undef_load : load undef ≡ 0
unfolding is_number
undef_load = refl

-- ---- Numbers of one term

record IsPlainNumber (t : Tree) : Type 0 where
  no_name : names t ≡ []
  flat : nest t ≡ 0
  reduced : is_reduced t ≡ true
  defined : is_undef t ≡ false

rational_facts : (q : Fraction) → IsPlainNumber (num q)
rational_facts q = record { no_name = refl; flat = refl; reduced = reduced_test (num q) (inr (inl tt)); defined = refl }

term_facts : (t : Tree) → IsTerm t → IsPlainNumber t
term_facts t h = grind (arith, rational_facts, reduced_test)

-- a Number that is the root of a rational of at least 0
number_answer : (q : Fraction) (t : Tree) → int_is_negative q.num ≡ false → is_number t ≡ true → IsPlainNumber t → IsRootOf q.num q.den (value t) → IsRootAnswer (num q) t
number_answer q t n h f v = record {
  reduces = record { reduced = f.reduced; no_new_name = no_names (root (num q)) t f.no_name; meanings = keeps (root_of_rational q t (number_words t h) v) };
  undefined = f.defined ∙ sym n;
  number = λ a b. h;
  kept = λ a b. absurd cc;
  nest = omega (arith, f.flat);
  load = omega (arith, number_load t h);
}

root_of_zero : (z : ℤ) (d : ℕ) (v : Surd) → z ≡ pos 0 → Same v [] → IsRootOf z d v
root_of_zero z d v e h = subst (λ x. IsRootOf x d v) (sym e) h

pub zero_value : (q : Fraction) → q.num ≡ pos 0 → value (num q) ≡ []
zero_value q e = ap (λ (b : Bool). if b then [] else surd_of q) (ap int_is_zero e)

-- the root of 0 is 0
pub zero_answer : (q : Fraction) → q.num ≡ pos 0 → IsRootAnswer (num q) (num q)
zero_answer q e = number_answer q (num q) (ap int_is_negative e) (number_test (num q) tt) (rational_facts q) (root_of_zero q.num q.den (value (num q)) e (Same-eq (zero_value q e)))

above_zero : (z : ℤ) → pos 0 <ℤ z → int_is_negative z ≡ false
above_zero z h = grind arith

-- the root of a rational above 0 is a term
pub positive_answer : (q : Fraction) (t : Tree) (s : Term) → pos 0 <ℤ q.num → (is_term t ≡ true) × (term_of t ≡ s) → IsRootOf q.num q.den (s ∷ []) → IsRootAnswer (num q) t
positive_answer q t s p (h, e) r =
    let w : IsTerm t = term_words t h in
    number_answer q t (above_zero q.num p) (number_test t (term_number t w)) (term_facts t w) (subst (λ v. IsRootOf q.num q.den v) (sym (term_value t w ∙ ap (λ x. x ∷ []) e)) r)

-- ---- Undef

undef_answer : (a : Tree) → has_no_root a ≡ true → KeepsMeanings (root a) undef → (is_num a ≡ true → has_no_root a ≡ false → ⊥) → IsRootAnswer a undef
undef_answer a h k n = grind (arith, reduced_test, no_names, undef_load)

-- the root of a rational below 0 is Undef
pub negative_answer : (q : Fraction) → int_is_negative q.num ≡ true → IsRootAnswer (num q) undef
negative_answer q h = undef_answer (num q) h (root_of_negative q h) (λ x y. cc)

-- and so is that of Undef
pub no_argument_answer : IsRootAnswer undef undef
no_argument_answer = undef_answer undef refl (undef_part (root undef) (in_root itself)) (λ x y. cc)

-- ---- other roots

root_form : (a : Tree) → is_num a ≡ false → is_undef a ≡ false → IsReduced a → is_reduced (root a) ≡ true
root_form a n u h = grind (arith, reduced_test)

has_root_of_other : (a : Tree) → is_num a ≡ false → is_undef a ≡ false → has_no_root a ≡ false
has_root_of_other a n u = grind arith

-- any other root is kept
pub other_answer : (a : Tree) → is_num a ≡ false → is_undef a ≡ false → is_reduced a ≡ true → IsRootAnswer a (root a)
other_answer a n u h = grind (arith, Rewrites-refl, root_form, reduced_words, has_root_of_other)

-- ---- what fits

pub not_above_zero : (z : ℤ) → z ≡ pos 0 → pos 0 <ℤ z → ⊥
not_above_zero z e h = absurd (omega (arith, ints))

pub not_above_negative : (z : ℤ) → int_is_negative z ≡ true → pos 0 <ℤ z → ⊥
not_above_negative z e h = cc (above_zero z h)

pub no_other_wide : (a : Tree) → is_num a ≡ false → HasWideRoot a → ⊥
no_other_wide a n w = grind arith

-- ---- in other words

pub answer_as : {a b t u : Tree} → a ≡ b → t ≡ u → IsRootAnswer b u → IsRootAnswer a t
answer_as {b = b} {t = t} p q h = subst (λ x. IsRootAnswer x t) (sym p) (subst (λ y. IsRootAnswer b y) (sym q) h)

pub root_as : (n m : ℤ) (d e : ℕ) (v : Surd) → n ≡ m → d ≡ e → IsRootOf n d v → IsRootOf m e v
root_as n m d e v p q h = subst (λ x. IsRootOf m x v) q (subst (λ x. IsRootOf x d v) p h)

pub wide_as : (n m : ℤ) (d e : ℕ) → n ≡ m → d ≡ e → DoesNotFit Mul (whole_fraction n) (whole_fraction (pos d)) → DoesNotFit Mul (whole_fraction m) (whole_fraction (pos e))
wide_as n m d e p q h = subst (λ x. DoesNotFit Mul (whole_fraction m) (whole_fraction (pos x))) q (subst (λ x. DoesNotFit Mul (whole_fraction x) (whole_fraction (pos d))) p h)

pub positive_num : (z : ℤ) → int_is_negative z ≡ false → (z ≡ pos 0 → ⊥) → pos 0 <ℤ z
positive_num z h k = grind arith

pub negative_num : (z p : ℤ) → lt_z p (pos 0) ≡ true → p ≡ z → int_is_negative z ≡ true
negative_num z p t e = grind arith

pub not_negative_num : (z p : ℤ) → lt_z p (pos 0) ≡ false → p ≡ z → int_is_negative z ≡ false
not_negative_num z p t e = grind arith

-- ---- refusals

pub not_overflow : (r : Result ℕ NumberFault) (f : Full) → IsErrAnd r (λ e. e ≡ fault.Full f) → IsOverflow r → ⊥
not_overflow r f h i = grind arith

pub is_overflow : (r : Result ℕ NumberFault) (o : Overflow) → IsErrAnd r (λ e. e ≡ fault.Overflow o) → IsOverflow r
is_overflow r o h = grind arith

pub named_overflow : (r : Result ℕ NumberFault) (o : Overflow) (P : Overflow → Type 0) → IsErrAnd r (λ e. e ≡ fault.Overflow o) → P o → IfOverflow r P
named_overflow r o P h k = grind arith

-- ---- leaves

-- ---- the tree of a term

pub term_tree_is : (s : Term) → s.coefficient ≢ zero_fraction → 1 ≤ s.radicand → IsClean s.radicand → (is_term (term_tree s) ≡ true) × (term_of (term_tree s) ≡ s)
term_tree_is s z p c = by (s.radicand == 1) refl (is_one_fraction s.coefficient) refl
  where
    by : (b : Bool) → (s.radicand == 1) ≡ b → (o : Bool) → is_one_fraction s.coefficient ≡ o → (is_term (term_tree s) ≡ true) × (term_of (term_tree s) ≡ s)
    by true e o f = let one : s.radicand ≡ 1 = eqb-true s.radicand 1 e in rational_tree s.coefficient s (term_tree s) refl z one (rational_term s one)
    by false e true f =
        let other : s.radicand ≢ 1 = λ k. let t : (s.radicand == 1) ≡ true = eq-eqb s.radicand 1 k in cc (e, t) in
        root_tree s.radicand s (term_tree s) (sym (one_is s.coefficient f)) refl (two_or_more s.radicand p other) c (root_term s other (one_is s.coefficient f))
    by false e false f =
        let other : s.radicand ≢ 1 = λ k. let t : (s.radicand == 1) ≡ true = eq-eqb s.radicand 1 k in cc (e, t) in
        let unlike : s.coefficient ≢ one_fraction = λ k. let t : is_one_fraction s.coefficient ≡ true = ap is_one_fraction k ∙ one_test in cc (f, t) in
        multiple_tree s.coefficient s.radicand s (term_tree s) refl z unlike refl (two_or_more s.radicand p other) c (multiple_term s other unlike)

-- ---- bytes that are lacking

-- the root of a rational above 0, whose term has no room
pub term_lacks : (q : Fraction) (s : Term) (now free : ℕ) (full : Full) → pos 0 <ℤ q.num → IsRootOf q.num q.den (s ∷ []) → (is_term (term_tree s) ≡ true) × (term_of (term_tree s) ≡ s)
    → now ≡ free → building now (term_tree s) ≡ Err full → LacksRoot (num q) free full
term_lacks q s now free full p r t e b = record { answer = term_tree s; root = positive_answer q (term_tree s) s p t r; lacks = subst (λ (n : ℕ). building n (term_tree s) ≡ Err full) e b }
