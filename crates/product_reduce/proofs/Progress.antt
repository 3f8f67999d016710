-- The Numbers among the factors are multiplied from left to right.
use Rattle.product_reduce.proofs.Shared.{ℕ, ◌≤◌, ◌≡◌, true, refl, sym, ap, ◌∙◌, subst, arith, Tree, mult, Trees, none, more, append, count, is_number, are_numbers, value, are_reduced, num_one, Same}
use Rattle.product_reduce.proofs.Shared.{surd_times, Same-sym, Same-trans, Agree-Same, surd_times_assoc, surd_times-one, surd_times-surd_one, Same-refl, Same-eq, Same-surd_times, HasFewBits}
use Rattle.product_reduce.proofs.Shared.{PlainValue, plain_value, SpansRoot, AnswersTotal, AreJoined, IsNextOf, IsNextNumber, NoNumberBetween, first_of, fold_begun, plain_product, no_numbers}
use Rattle.product_reduce.proofs.Shared.{some_number, sizes_taken, append_one, append_none, trees_assoc, count_append, front_numbers, numbers_are, numbers_removed, others_removed, no_numbers_none}
use Rattle.product_reduce.proofs.Shared.{parts_taken, State, AnswersRationals, removed, Overflow, nth, NumberFault, AreFactorsHeld, numbers_in, product_of_values, IsCoefficient, NamesProduct}
use Rattle.product_reduce.proofs.{Shared.{MultiplyingOverflows, IsProductOf, IsBegun, AreFewBits, one_value}, HeldNumbers.{alone_held, front_held, next_held, no_factors_held}}
use Rattle.product_reduce.proofs.JointPlaces.{reduced_removed}
use Rattle.std.specs.Prelude.{Result}

-- ---- the first Number

pub started : (n : ℕ) (ts : Trees) → are_reduced ts ≡ true → IsNextNumber 0 n ts → IsBegun ts (removed n ts) (nth n ts)
started n ts r h = record {
  number = h.number;
  first = more (nth n ts) none;
  is = numbers_removed n ts h;
  some = λ m. omega arith;
  product = record { worth = Same-sym (Agree-Same (surd_times-one (value (nth n ts)))); held = λ k l a. alone_held (nth n ts) h.number a };
  others = others_removed n ts h.within h.number;
  reduced = reduced_removed n ts r;
  fewer = omega (arith, sizes_taken n ts h.within);
  spanned = λ gs s. parts_taken (SpansRoot gs) n ts h.within s;
  folded = λ q m. fold_begun (plain_value (mult ts)) n ts (first_of n ts q h) (λ f. ap (λ (x : Trees). plain_value (mult x)) f.is ∙ plain_product (nth n ts) f.rest f.rational f.rationals);
}

-- where there is none
pub started_at_one : (ts : Trees) → are_reduced ts ≡ true → NoNumberBetween 0 (count ts) ts → IsBegun ts ts num_one
unfolding is_number
started_at_one ts r b = record {
  number = refl;
  first = none;
  is = refl;
  some = λ m. absurd (omega (arith, ap count (no_numbers_none ts (no_numbers ts b)), m));
  product = record { worth = Same-eq one_value; held = λ h l a. no_factors_held (value num_one) h l one_value };
  others = refl;
  reduced = r;
  fewer = omega arith;
  spanned = λ gs s. (tt, s);
  folded = λ q m. absurd (some_number ts q m b);
}

-- ---- the next ones

product_append : (first : Trees) (x : Tree) → Same (surd_times (product_of_values first) (value x)) (product_of_values (append first (more x none)))
product_append none x = Same-trans (Same-eq (surd_times-surd_one (value x))) (Same-sym (Agree-Same (surd_times-one (value x))))
product_append (more t ts) x = grind (arith, product_append ts x, Same-trans, Same-eq, surd_times_assoc, Same-surd_times, Same-refl)

product_joined : (first xs : Trees) (d m : Tree) → are_numbers (append first xs) ≡ true → is_number d ≡ true → IsProductOf first d → AreJoined surd_times d xs m → IsProductOf (append first xs) m
product_joined first none d m n h p e = subst (IsProductOf (append first none)) (sym e) (subst (λ (ns : Trees). IsProductOf ns d) (sym (append_none first)) p)
product_joined first (more x xs) d m n h p j =
    let whole = append_one first x xs in
    let numbers = ap are_numbers (sym whole) ∙ n in
    let k = j.1 in
    subst (λ (ns : Trees). IsProductOf ns m) (sym whole)
    (product_joined (append first (more x none)) xs j.0 m numbers k.number
    (record {
      worth = Same-trans k.worth (Same-trans (Same-surd_times p.worth (Same-refl (value x))) (product_append first x));
      held = λ i l a. k.no_larger.held i l (next_held first x d i l (front_numbers (append first (more x none)) xs numbers) h p.worth p.held a);
    }) j.2)

pub multiplied : (ts us : Trees) (d m : Tree) → IsBegun ts us d → is_number m ≡ true → AreJoined surd_times d (numbers_in us) m → IsCoefficient m ts
multiplied ts us d m b h j =
    let p = subst (λ (ns : Trees). IsProductOf ns m) (sym b.is) (product_joined b.first (numbers_in us) d m (ap are_numbers (sym b.is) ∙ numbers_are ts) b.number b.product j) in
    record { number = h; same = p.worth; held = p.held }

-- one of them, and the product of those before it
pub record IsNextFactor (ts : Trees) (d x : Tree) : Type 0 where
  pub first : Trees
  pub rest : Trees
  pub is : numbers_in ts ≡ append first (more x rest)
  pub some : 1 ≤ count first
  pub product : IsProductOf first d

next_factor : (ts us : Trees) (d : Tree) → IsBegun ts us d → (s : IsNextOf surd_times d (numbers_in us)) → IsNextFactor ts s.so_far s.next
next_factor ts us d b s =
    let whole : numbers_in ts ≡ append (append b.first s.first) (more s.next s.rest) = b.is ∙ ap (append b.first) s.is ∙ sym (trees_assoc b.first s.first (more s.next s.rest)) in
    let numbers = front_numbers (append b.first s.first) (more s.next s.rest) (ap are_numbers (sym whole) ∙ numbers_are ts) in
    let some = b.some (omega (arith, ap count s.is, count_append s.first (more s.next s.rest))) in
    record {
      first = append b.first s.first;
      rest = s.rest;
      is = whole;
      some = omega (arith, some, count_append b.first s.first);
      product = product_joined b.first s.first d s.so_far numbers b.number b.product s.joined;
    }

pub next_misfit : (ts us : Trees) (d : Tree) → IsBegun ts us d → (o : Overflow) → (s : IsNextOf surd_times d (numbers_in us)) × NamesProduct s.so_far s.next o → MultiplyingOverflows (numbers_in ts) o
next_misfit ts us d b o e =
    let s = e.0 in
    let f = next_factor ts us d b s in
    record { first = f.first; next = s.next; rest = f.rest; is = f.is; some = f.some; so_far = s.so_far; product = record { number = s.number; worth = f.product.worth }; named = e.1 }

-- where what holds them is little, the next product is held within the bits that calculations have
pub next_fits : (ts us : Trees) (d : Tree) (h l : ℕ) → IsBegun ts us d → AreFactorsHeld (numbers_in ts) h l → AreFewBits h l → (s : IsNextOf surd_times d (numbers_in us))
    → HasFewBits (surd_times (value s.so_far) (value s.next))
next_fits ts us d h l b a few s =
    let f = next_factor ts us d b s in
    let whole : numbers_in ts ≡ append (append f.first (more s.next none)) f.rest = f.is ∙ append_one f.first s.next f.rest in
    let numbers = ap are_numbers (sym whole) ∙ numbers_are ts in
    record {
      high = h;
      low = l;
      held = next_held f.first s.next s.so_far h l (front_numbers (append f.first (more s.next none)) f.rest numbers) s.number f.product.worth f.product.held
          (front_held (append f.first (more s.next none)) f.rest numbers (subst (λ (ns : Trees). AreFactorsHeld ns h l) whole a));
      few = few;
    }

-- ---- rationals

pub total_answer : (v w : PlainValue) (new : State) (r : Result ℕ NumberFault) → v ≡ w → AnswersTotal w new r → AnswersRationals v new r
total_answer v w new r e t = grind arith
