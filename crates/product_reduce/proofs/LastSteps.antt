-- A coefficient and sorted factors whose bases differ make a reduced tree.
use Rattle.product_reduce.proofs.Shared.{◌≡◌, ◌≤◌, [], true, refl, ap, arith, is_number, product_tree, RisesBy, HasForm, base_of, Tree, mult, Trees, none, more, count, names, names_of, KeepsMeanings}
use Rattle.product_reduce.proofs.Shared.{KeepsMeanings-refl, KeepsMeanings-trans, KeepsMeanings-product_more, Permuted, permuted_none, permuted_more, permuted_swap, permuted_trans, permuted_product}
use Rattle.product_reduce.proofs.Shared.{single_product, to_single_product, number_words, product_tree_keeps, with_coefficient, put_formed, put_reduces, AreFactors, factors_monic, parts_defined}
use Rattle.product_reduce.proofs.Shared.{keeps, reduces_after, IsPermutation-refl, IsSorting, AreOthers, IsEnding, coefficient_times, nest_number, nest_permuted, within_left, within_same}
use Rattle.product_reduce.proofs.Shared.{within_trans, within_both, within_beside, within_none, names_permuted, no_new_name, within_eq, number_parts, parts_reduced, is_mult, coefficient_nest}
use Rattle.product_reduce.proofs.{Shared.{coefficient_load, tree_nest, tree_names, none_permuted, reduced_formed, permuted_parts}, Bounds.{load_tree, load_permuted}}
use Rattle.calc_measures.proofs.SmallLaws.{number_load as load_of_number}

-- ---- the coefficient alone

none_sorted : IsSorting 0 base_of none none
none_sorted = record { front = refl; moved = IsPermutation-refl []; rising = λ k d l m. absurd (omega arith) }

pub coefficient_alone : (c : Tree) → is_number c ≡ true → IsEnding c none c
coefficient_alone c h =
    let f = number_parts c (number_words c h) in
    record {
      reduces = record { reduced = parts_reduced c f; no_new_name = no_new_name (within_left (names c) []); meanings = keeps (single_product c) };
      written = record { us = none; sorted = none_sorted; is = refl };
      defined = parts_defined c f;
      nest = omega (arith, nest_number c h);
      load = omega (arith, load_of_number c h);
      number = λ e. h;
    }

-- ---- the factors as one tree

pub sorted_factors : (ts us : Trees) → AreOthers ts → Permuted ts us → RisesBy base_of us → 1 ≤ count us → AreFactors us
sorted_factors ts us o m r l = record {
  some = l;
  no_product = none_permuted is_mult m o.no_product;
  no_number = none_permuted is_number m o.no_number;
  rising = r;
  formed = permuted_parts HasForm m (reduced_formed ts o.reduced o.defined);
}

as_one : (c : Tree) {ts us : Trees} → Permuted ts us → KeepsMeanings (mult (more c ts)) (mult (more c (more (product_tree us) none)))
as_one c {us = us} m =
    KeepsMeanings-product_more (KeepsMeanings-refl c) (KeepsMeanings-trans (permuted_product m) (KeepsMeanings-trans (product_tree_keeps us) (to_single_product (product_tree us))))

pub permuted_none_is : {ts us : Trees} → Permuted ts us → ts ≡ none → us ≡ none
permuted_none_is permuted_none e = refl
permuted_none_is (permuted_more h) e = cc
permuted_none_is permuted_swap e = cc
permuted_none_is (permuted_trans h k) e = permuted_none_is k (permuted_none_is h e)

-- the coefficient in front
pub times_written : (c : Tree) (us : Trees) → 1 ≤ count us → with_coefficient c (product_tree us) ≡ coefficient_times c us
times_written c us l = grind arith

pub ending : (c : Tree) (ts us : Trees) → AreOthers ts → is_number c ≡ true → IsSorting 0 base_of ts us → Permuted ts us → RisesBy base_of us → 1 ≤ count us
    → IsEnding c ts (with_coefficient c (product_tree us))
ending c ts us o h s m r l =
    let p = product_tree us in
    let monic = factors_monic us (sorted_factors ts us o m r l) in
    let n = number_words c h in
    let within = within_beside (names c) (names c) (names_of ts) (names_of (more p none)) (within_same (names c))
    (within_both (names_of ts) (names p) [] (within_trans (names_permuted m) (within_eq (tree_names us))) (within_none (names_of ts))) in
    record {
      reduces = reduces_after (record { no_new_name = no_new_name within; meanings = keeps (as_one c m) }) (put_reduces c p n monic);
      written = record { us = us; sorted = s; is = times_written c us l };
      defined = parts_defined (with_coefficient c p) (put_formed c p n monic);
      nest = omega (arith, coefficient_nest c p, nest_number c h, tree_nest us, nest_permuted m);
      load = omega (arith, coefficient_load c p n monic, load_tree us, load_permuted m);
      number = λ e. absurd (let q = ap count (permuted_none_is m e) in omega arith);
    }
