-- What counts among children.
use Rattle.tree_room.proofs.Shared.{◌≡◌, ℕ, suc, ◌+◌, ◌≤◌, Bool, true, false, refl, ap, ◌∙◌, arith, if◌then◌else◌, IsNumber, is_number, is_whole_num, number_words, counted, counted_among}
use Rattle.tree_room.proofs.Shared.{counted_number, counted_other, none_counted, number_counts, Tree, num, symbol, undef, add, mult, power, root, neg, sub, div, Trees, none, more, append, is_num}
use Rattle.tree_room.proofs.Shared.{counted_in_all, numbers_among, product_count}

pub counts_one : (t : Tree) → 1 ≤ counted t
counts_one (add ts) = omega arith
counts_one (mult ts) = omega arith
counts_one (power b e) = by (is_whole_num e) (counts_one b)
  where
    by : (z : Bool) → 1 ≤ counted b → 1 ≤ (if z then counted b else suc (counted b + counted e))
    by true h = h
    by false h = omega arith
counts_one (root a) = by (is_num a)
  where
    by : (z : Bool) → 1 ≤ (if z then 1 else suc (counted a))
    by true = omega arith
    by false = omega arith
counts_one t = omega arith

pub number_counts_one : (t : Tree) → is_number t ≡ true → counted t ≡ 1
number_counts_one t h = number_counts t (number_words t h)

-- among children each counts at most what it counts by itself
pub at_most_itself : (t : Tree) (ts : Trees) → counted_among (more t ts) ≤ counted t + counted_among ts
at_most_itself t ts = grind arith

pub appended : (ts us : Trees) → counted_among (append ts us) ≡ counted_among ts + counted_among us
appended none us = omega arith
appended (more t ts) us = by (if is_number t then 0 else counted t) (appended ts us)
  where
    by : (n : ℕ) → counted_among (append ts us) ≡ counted_among ts + counted_among us → n + counted_among (append ts us) ≡ (n + counted_among ts) + counted_among us
    by n h = omega arith

-- what is a Number by its children has children that are free
number_sum_free : (ts : Trees) → IsNumber (add ts) → counted_among ts ≡ 0
number_sum_free ts h = none_counted ts h.1

number_product_free : (ts : Trees) → IsNumber (mult ts) → counted_among ts ≡ 0
number_product_free ts h = grind (arith, none_counted)

-- spliced children count at most what their parent counts among others
spliced : (t : Tree) (ts us : Trees) → (is_number t ≡ true → counted_among ts ≡ 0) → counted_among ts ≤ counted t → counted_among (append ts us) ≤ counted_among (more t us)
spliced t ts us f h = grind (arith, appended, counted_number, counted_other)

pub flat_sum : (ts us : Trees) → counted_among (append ts us) ≤ counted_among (more (add ts) us)
flat_sum ts us = spliced (add ts) ts us (λ e. number_sum_free ts (number_words (add ts) e)) (omega arith)

pub flat_product : (ts us : Trees) → counted_among (append ts us) ≤ counted_among (more (mult ts) us)
flat_product ts us = spliced (mult ts) ts us (λ e. number_product_free ts (number_words (mult ts) e)) (omega arith)

-- ---- the Numbers among children

pub numbers_appended : (ts us : Trees) → numbers_among (append ts us) ≡ numbers_among ts + numbers_among us
numbers_appended none us = omega arith
numbers_appended (more t ts) us = omega (arith, numbers_appended ts us)

pub product_at_least : (ts : Trees) → 2 + counted_among ts ≤ product_count ts
product_at_least ts = omega arith

pub no_number : (t : Tree) (ts : Trees) → is_number t ≡ false → numbers_among (more t ts) ≡ numbers_among ts
no_number t ts h = ap (λ z. (if z then 1 else 0) + numbers_among ts) h ∙ omega arith

-- r takes the places of t and u
pub joined_count : (t u r : Tree) (ts us vs : Trees) → is_number t ≡ false → is_number u ≡ false → counted r ≤ counted t + counted u
    → product_count (append ts (more r (append us vs))) ≤ product_count (append ts (more t (append us (more u vs))))
joined_count t u r ts us vs h k l = by (is_number r) refl
  where
    old : counted_among (append ts (more t (append us (more u vs)))) ≡ counted_among ts + (counted t + (counted_among us + (counted u + counted_among vs)))
    old = omega (arith, appended ts (more t (append us (more u vs))), counted_other t (append us (more u vs)) h, appended us (more u vs), counted_other u vs k)

    old_numbers : numbers_among (append ts (more t (append us (more u vs)))) ≡ numbers_among ts + (numbers_among us + numbers_among vs)
    old_numbers = omega (arith, numbers_appended ts (more t (append us (more u vs))), no_number t (append us (more u vs)) h, numbers_appended us (more u vs), no_number u vs k)

    by : (z : Bool) → is_number r ≡ z → product_count (append ts (more r (append us vs))) ≤ product_count (append ts (more t (append us (more u vs))))
    by true e =
        omega (
          arith,
          old,
          old_numbers,
          appended ts (more r (append us vs)),
          counted_number r (append us vs) e,
          appended us vs,
          numbers_appended ts (more r (append us vs)),
          one_number r (append us vs) e,
          numbers_appended us vs,
          counts_one t,
          counts_one u,
        )
      where
        one_number : (t : Tree) (ts : Trees) → is_number t ≡ true → numbers_among (more t ts) ≡ 1 + numbers_among ts
        one_number t ts h = ap (λ z. (if z then 1 else 0) + numbers_among ts) h
    by false e =
        omega (
          arith,
          old,
          old_numbers,
          l,
          appended ts (more r (append us vs)),
          counted_other r (append us vs) e,
          appended us vs,
          numbers_appended ts (more r (append us vs)),
          no_number r (append us vs) e,
          numbers_appended us vs,
        )

pub all_appended : (ts us : Trees) → counted_in_all (append ts us) ≡ counted_in_all ts + counted_in_all us
all_appended none us = omega arith
all_appended (more t ts) us = omega (arith, all_appended ts us)

-- the children of a product: Numbers and the count of the others
pub numbers_and_others : (ts : Trees) → numbers_among ts + counted_among ts ≤ counted_in_all ts
numbers_and_others none = omega arith
numbers_and_others (more t ts) = by (is_number t) (numbers_and_others ts) (counts_one t)
  where
    by : (z : Bool) → numbers_among ts + counted_among ts ≤ counted_in_all ts → 1 ≤ counted t
        → ((if z then 1 else 0) + numbers_among ts) + ((if z then 0 else counted t) + counted_among ts) ≤ counted t + counted_in_all ts
    by true h k = omega arith
    by false h k = omega arith

pub product_at_most : (ts : Trees) → product_count ts ≤ 2 + counted_in_all ts
product_at_most ts = omega (arith, numbers_and_others ts)
