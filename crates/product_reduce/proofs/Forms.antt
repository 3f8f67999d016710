-- A coefficient before factors that are no Numbers, sorted by their bases, is a product in its form.
use Rattle.product_reduce.proofs.Shared.{arith, ◌≡◌, Bool, true, factors_of, is_number, num_one, split, split_product, NoneIs, HasForm, Tree, Trees, none, more, append, is_mult, opened, others_in}
use Rattle.product_reduce.proofs.Shared.{AllPartsOf, AllPartsOf-append, numbers_in, NoneIs-append, own_form, factors_parts}
pub use Rattle.like_children.proofs.NumbersIn.{none_number as others_no_numbers}

-- ---- the split

-- factors of which the first is no Number have no coefficient
pub split_of_others : (ts : Trees) → NoneIs is_number ts → split_product ts ≡ split num_one ts
unfolding is_number
split_of_others ts h = grind arith

pub split_of_number : (c : Tree) (ts : Trees) → is_number c ≡ true → NoneIs is_number ts → split_product (append (factors_of c) ts) ≡ split c ts
unfolding is_number
split_of_number c ts h k = grind arith

-- ---- factors that are opened and parted, with what holds of each of their parts

module _ (P : Tree → Type 0) where
  pub opened_parts : (ts : Trees) → AllPartsOf P ts → AllPartsOf P (opened ts)
  opened_parts none h = tt
  opened_parts (more t ts) h = AllPartsOf-append P (factors_of t) (opened ts) (factors_parts P t h.0) (opened_parts ts h.1)

  pub numbers_parts : (ts : Trees) → AllPartsOf P ts → AllPartsOf P (numbers_in ts)
  numbers_parts none h = tt
  numbers_parts (more t ts) h = grind (arith, numbers_parts ts h.1)

  pub others_parts : (ts : Trees) → AllPartsOf P ts → AllPartsOf P (others_in ts)
  others_parts none h = tt
  others_parts (more t ts) h = grind (arith, others_parts ts h.1)

-- ---- no product among the factors

-- those of a tree in its form
pub factors_flat : (t : Tree) → HasForm t → NoneIs is_mult (factors_of t)
factors_flat t h = grind arith

pub opened_flat : (ts : Trees) → AllPartsOf HasForm ts → NoneIs is_mult (opened ts)
opened_flat none h = tt
opened_flat (more t ts) h = NoneIs-append is_mult (factors_of t) (opened ts) (factors_flat t (own_form t h.0)) (opened_flat ts h.1)

pub others_none : (p : Tree → Bool) (ts : Trees) → NoneIs p ts → NoneIs p (others_in ts)
others_none p none h = tt
others_none p (more t ts) h = grind (arith, others_none p ts h.1)
