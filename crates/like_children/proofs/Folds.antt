-- Numbers by their places, and rationals calculated from left to right.
use Rattle.like_children.proofs.Shared.{true≢false, Err, ℕ, zero, suc, ◌≤◌, ◌≡◌, List, ◌∷◌, true, refl, sym, ap, ◌∙◌, subst, arith, and_parts, Fraction, is_number, PlainValue, exactly, calculated}
use Rattle.like_children.proofs.Shared.{fold_values, gather, values, plain_of_children, plain_value, are_plain, NoneIs, Tree, num, add, mult, Trees, none, more, count, is_num, are_rationals, State}
use Rattle.like_children.proofs.Shared.{AnswersRationals, Overflow, NumberFault, nth, removed, rational_of, rationals_of, AreFolded, IsTotal, AnswersTotal, NoNumberBetween, IsNextNumber, others_in}
use Rattle.like_children.proofs.{Shared.{Operation, add_op, mul_op, IsPlainAnswer, IsPlainOverflow, ◌+◌, false}, NumbersIn.{number_out}}
use Rattle.tree_handles.specs.declared.fault.NumberFault.TheVariants as fault

-- ---- Numbers by their places

pub no_numbers : (ts : Trees) → NoNumberBetween 0 (count ts) ts → NoneIs is_number ts
no_numbers none b = tt
no_numbers (more t ts) b = (b 0 (omega arith) (omega arith), no_numbers ts (λ k f l. b (suc k) (omega arith) (omega arith)))

-- one place more
pub no_number_more : (from n : ℕ) (ts : Trees) → NoNumberBetween from n ts → is_number (nth n ts) ≡ false → NoNumberBetween from (n + 1) ts
no_number_more from n ts h q k f l = grind arith

-- ---- rationals

pub num_is : (t : Tree) → is_num t ≡ true → t ≡ num (rational_of t)
num_is t h = grind arith

pub num_number : (t : Tree) → is_num t ≡ true → is_number t ≡ true
unfolding is_number
num_number t h = grind arith

gathered : (ts : Trees) → are_rationals ts ≡ true → plain_of_children ts ≡ values (rationals_of ts)
gathered none h = refl
gathered (more (num q) ts) h = ap (gather (exactly q)) (gathered ts h)
gathered (more _ ts) h = cc

plain_rationals : (ts : Trees) → are_rationals ts ≡ true → are_plain ts ≡ true
plain_rationals none h = refl
plain_rationals (more (num q) ts) h = plain_rationals ts h
plain_rationals (more _ ts) h = cc

-- the plain values of a sum and of a product of rationals
pub plain_sum : (t : Tree) (ts : Trees) → is_num t ≡ true → are_rationals ts ≡ true → plain_value (add (more t ts)) ≡ fold_values add_op (rational_of t) (rationals_of ts)
plain_sum t ts h k = grind (arith, plain_rationals, gathered)

pub plain_product : (t : Tree) (ts : Trees) → is_num t ≡ true → are_rationals ts ≡ true → plain_value (mult (more t ts)) ≡ fold_values mul_op (rational_of t) (rationals_of ts)
plain_product t ts h k = grind (arith, plain_rationals, gathered)

-- ---- the result so far, and the rationals that are left

pub begun_with : (op : Operation) (t : Tree) (ts : Trees) → is_num t ≡ true → are_rationals ts ≡ true → AreFolded op (fold_values op (rational_of t) (rationals_of ts)) t ts
begun_with op t ts h k = record { rational = h; rationals = k; plain = refl }

pub sum_begun : (t : Tree) (ts : Trees) → is_num t ≡ true → are_rationals ts ≡ true → AreFolded add_op (plain_value (add (more t ts))) t ts
sum_begun t ts h k = record { rational = h; rationals = k; plain = plain_sum t ts h k }

-- among rationals the first Number is the first tree
pub record IsFirst (at : ℕ) (us : Trees) : Type 0 where
  pub rest : Trees
  pub is : us ≡ more (nth at us) rest
  pub left : removed at us ≡ rest
  pub rational : is_num (nth at us) ≡ true
  pub rationals : are_rationals rest ≡ true

pub first_of : (at : ℕ) (us : Trees) → are_rationals us ≡ true → IsNextNumber 0 at us → IsFirst at us
first_of at none r h = absurd (let l = h.within in omega (arith, l))
first_of zero (more t ts) r h = let (a, b) = and_parts (is_num t) (are_rationals ts) r in record { rest = ts; is = refl; left = refl; rational = a; rationals = b }
first_of (suc n) (more t ts) r h = absurd (true≢false (sym (num_number t (and_parts (is_num t) (are_rationals ts) r).0) ∙ h.before 0 (omega arith) (omega arith)))

rationals_first : (at : ℕ) (us : Trees) (f : IsFirst at us) → rationals_of us ≡ rational_of (nth at us) ∷ rationals_of f.rest
rationals_first at us f = ap rationals_of f.is

-- the first one is the result so far
pub fold_begun : {op : Operation} (v : PlainValue) (at : ℕ) (us : Trees) → IsFirst at us → ((f : IsFirst at us) → v ≡ fold_values op (rational_of (nth at us)) (rationals_of f.rest))
    → AreFolded op v (nth at us) (removed at us)
fold_begun v at us f e = grind arith

record IsStep (op : Operation) (p q : Fraction) (rs : List Fraction) (e : Tree) : Type 0 where
  rational : is_num e ≡ true
  plain : fold_values op p (q ∷ rs) ≡ fold_values op (rational_of e) rs

fold_step : (op : Operation) (p q : Fraction) (rs : List Fraction) (e : Tree) → IsPlainAnswer (calculated op p q) e → IsStep op p q rs e
fold_step op p q rs e h = grind arith

fold_overflow : (op : Operation) (p q : Fraction) (rs : List Fraction) (o : Overflow) → IsPlainOverflow (calculated op p q) o → IsPlainOverflow (fold_values op p (q ∷ rs)) o
fold_overflow op p q rs o h = grind arith

-- what is answered where the next one is taken
pub fold_more : {op : Operation} (v : PlainValue) (at : ℕ) (us : Trees) (d e : Tree) → AreFolded op v d us → IsNextNumber 0 at us
    → ((p q : Fraction) → d ≡ num p → nth at us ≡ num q → IsPlainAnswer (calculated op p q) e) → AreFolded op v e (removed at us)
fold_more {op = op} v at us d e a h k =
    let f = first_of at us a.rationals h in
    let s = fold_step op (rational_of d) (rational_of (nth at us)) (rationals_of f.rest) e (k (rational_of d) (rational_of (nth at us)) (num_is d a.rational) (num_is (nth at us) f.rational)) in
    record {
      rational = s.rational;
      rationals = ap are_rationals f.left ∙ f.rationals;
      plain = a.plain ∙ ap (fold_values op (rational_of d)) (rationals_first at us f) ∙ s.plain ∙ ap (λ (x : Trees). fold_values op (rational_of e) (rationals_of x)) (sym f.left);
    }

-- where it does not fit
pub fold_overflowed : {op : Operation} (v : PlainValue) (at : ℕ) (us : Trees) (d : Tree) (o : Overflow) → AreFolded op v d us → IsNextNumber 0 at us
    → ((p q : Fraction) → d ≡ num p → nth at us ≡ num q → IsPlainOverflow (calculated op p q) o) → IsPlainOverflow v o
fold_overflowed {op = op} v at us d o a h k =
    let f = first_of at us a.rationals h in
    subst (λ (x : PlainValue). IsPlainOverflow x o) (sym (a.plain ∙ ap (fold_values op (rational_of d)) (rationals_first at us f)))
    (fold_overflow op (rational_of d) (rational_of (nth at us)) (rationals_of f.rest) o (k (rational_of d) (rational_of (nth at us)) (num_is d a.rational) (num_is (nth at us) f.rational)))

-- and where bytes are lacking
pub fold_full : {P : Type 0} {op : Operation} (v : PlainValue) (at : ℕ) (us : Trees) (d : Tree) → AreFolded op v d us → IsNextNumber 0 at us
    → ((p q : Fraction) → d ≡ num p → nth at us ≡ num q → P) → P
fold_full v at us d a h k =
    let f = first_of at us a.rationals h in
    k (rational_of d) (rational_of (nth at us)) (num_is d a.rational) (num_is (nth at us) f.rational)

pub fold_faulted : {op : Operation} (v : PlainValue) (at : ℕ) (us : Trees) (d : Tree) (new : State) (f : NumberFault) → AreFolded op v d us → IsNextNumber 0 at us
    → ((p q : Fraction) → d ≡ num p → nth at us ≡ num q → AnswersRationals (calculated op p q) new (Err f)) → AnswersTotal v new (Err f)
fold_faulted v at us d new (fault.Full full) a h k = fold_full v at us d a h k
fold_faulted v at us d new (fault.Overflow o) a h k = fold_overflowed v at us d o a h k

-- none is left
pub no_rationals : (us : Trees) → NoneIs is_number us → are_rationals us ≡ true → us ≡ none
no_rationals none b h = refl
no_rationals (more t us) b h = absurd (true≢false (sym (num_number t (and_parts (is_num t) (are_rationals us) h).0) ∙ b.0))

pub fold_done : {op : Operation} (v : PlainValue) (us : Trees) (d : Tree) → AreFolded op v d us → NoneIs is_number us → IsTotal v d
fold_done {op = op} v us d a b =
    let e = no_rationals us b a.rationals in
    record {
      q = rational_of d;
      plain = a.plain ∙ ap (λ (x : Trees). fold_values op (rational_of d) (rationals_of x)) e;
      is = num_is d a.rational;
    }

-- rationals have a Number among them
pub some_number : (ts : Trees) → are_rationals ts ≡ true → 1 ≤ count ts → NoNumberBetween 0 (count ts) ts → ⊥
some_number none q m b = absurd (omega arith)
some_number (more t ts) q m b = true≢false (sym (num_number t (and_parts (is_num t) (are_rationals ts) q).0) ∙ b 0 (omega arith) (omega arith))

-- and nothing else
pub rational_others : (ts : Trees) → are_rationals ts ≡ true → others_in ts ≡ none
rational_others none h = refl
rational_others (more t ts) h = let (a, b) = and_parts (is_num t) (are_rationals ts) h in number_out t ts (num_number t a) ∙ rational_others ts b
