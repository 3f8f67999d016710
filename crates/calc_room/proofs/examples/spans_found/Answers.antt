use Rattle.calc_room.proofs.{Shared.{◌≡◌, List, [], ◌∷◌, Bool, true, false, refl, are_alike, square_root, lowest, gcd, chosen_product}, SpanLaws.{one_spanned}}
use Rattle.calc_room.proofs.examples.spans_found.Goals as goal

not_five : (cs : List Bool) → are_alike (chosen_product (2 ∷ 3 ∷ []) cs) 5 ≡ true → ⊥
unfolding square_root
not_five [] h = cc
not_five (true ∷ []) h = cc
not_five (false ∷ []) h = cc
not_five (true ∷ true ∷ cs) h = cc
not_five (true ∷ false ∷ cs) h = cc
not_five (false ∷ true ∷ cs) h = cc
not_five (false ∷ false ∷ cs) h = cc

not_by_zero : (cs : List Bool) → are_alike (chosen_product (0 ∷ []) cs) 2 ≡ true → ⊥
unfolding square_root
not_by_zero [] h = cc
not_by_zero (true ∷ cs) h = cc
not_by_zero (false ∷ cs) h = cc

pub returns : goal.returns
unfolding square_root gcd lowest
returns c = record {
  a_product = record { chosen = true ∷ true ∷ []; alike = refl };
  times_a_square = record { chosen = true ∷ true ∷ []; alike = refl };
  another = λ h. not_five h.chosen h.alike;
  by_a_multiple = record { chosen = true ∷ []; alike = refl };
  by_zero = λ h. not_by_zero h.chosen h.alike;
  a_surd = (one_spanned (2 ∷ 3 ∷ []), (record { chosen = true ∷ true ∷ []; alike = refl }, tt));
  a_tree = (tt, (tt, ((record { chosen = true ∷ []; alike = refl }, tt), tt)));
}
