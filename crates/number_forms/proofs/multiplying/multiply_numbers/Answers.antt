use Rattle.number_forms.proofs.{Shared.{◌≡◌, ◌&&◌, refl, IfErr, and_parts, by_test, is_num, refused_as, tree_of, OfOverflow}, Over.{if_number, if_no_larger, of_over}}
use Rattle.number_forms.proofs.{RationalBits.{product_not_refused}, WithinBits.{numbers_within}, Rooms.{answer_spans, product_spans}}
use Rattle.number_forms.proofs.multiplying.multiply_numbers.Goals as goal

pub returns-clause-ok : goal.returns-clause-ok
returns-clause-ok c = if_number c.calculate.result _ _ _ c.calculate.ensures.ok

pub returns-clause-measured : goal.returns-clause-measured
returns-clause-measured c = if_no_larger c.calculate.result _ c.calculate.new.pool _ c.calculate.ensures.ok

pub returns-clause-spanned : goal.returns-clause-spanned
returns-clause-spanned c = λ gs s t. answer_spans gs c.calculate.result _ c.calculate.new.pool c.calculate.ensures.ok (λ u h. product_spans gs _ _ u c.requires.first_number c.requires.second_number (of_over h) s t)

pub returns-clause-bits : goal.returns-clause-bits
returns-clause-bits c = λ few.
    let a = tree_of c.args.a c.args.pool.now in let b = tree_of c.args.b c.args.pool.now in
    by_test (λ x. (is_num a && is_num b) ≡ x → IfErr c.calculate.result (OfOverflow (λ o. ⊥))) (is_num a && is_num b)
    (λ _ e. product_not_refused a b c.calculate.new.pool c.calculate.result (and_parts (is_num a) (is_num b) e).0 (and_parts (is_num a) (is_num b) e).1 c.calculate.ensures.rationals few)
    (λ _ e. refused_as c.calculate.result (c.calculate.ensures.overflow e) (λ o s. absurd (numbers_within a b o c.requires.first_number c.requires.second_number few s))) refl
