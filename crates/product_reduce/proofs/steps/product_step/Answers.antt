use Rattle.std.proofs.Common.{◌≡◌, ◌∙◌, Err, sym, refl, subst, true, false}
use Rattle.product_reduce.proofs.{Shared.{PlainValue, IsPlainAnswer, AnswersRationals, tree_of, forest, gives_as, given_told, IsFinished, factors_in}, Finished.{undef_finished, rationals_defined}}
use Rattle.product_reduce.proofs.{JoinedCounts.{product_counted}, GatheredParts.{spans_factors}, Parted.{AreOpened, AreParted, opens, parted, reduced_now, rationals_opened, numbers_overflow}}
use Rattle.product_reduce.proofs.{Parted.{numbers_fit, numbers_room, stop_given, spreading_given, spreading_fits, parted_room, finished_bounds}, Rejoined.{again_map, done_map, rejoin_given}}
use Rattle.product_reduce.proofs.{Rejoined.{spans_joined, step_answered, step_refused}, steps.product_step.Goals.{After-open_products, In_ok-coefficient}}
use Rattle.tree_handles.proofs.SmallLaws.{mult_is as mult_words}
use Rattle.product_reduce.proofs.steps.product_step.Goals as goal

opened_now : (c : After-open_products) → AreOpened c.args.product c.args.pool.now c.open_products.new.pool
opened_now c =
    opens c.requires.stands c.requires.handed c.requires.product c.requires.some c.requires.reduced
    (sym c.has_undef_factor.ensures ∙ c.if-has_undef_factor.false) c.open_products.ensures.stands c.open_products.ensures.kept c.open_products.ensures.opened

parts : (c : In_ok-coefficient) → AreParted c.args.product c.in_ok-coefficient.coefficient c.args.pool.now c.take_coefficient.new.pool
parts c =
    let o = opens c.requires.stands c.requires.handed c.requires.product c.requires.some c.requires.reduced (sym c.has_undef_factor.ensures ∙ c.if-has_undef_factor.false) c.open_products.ensures.stands c.open_products.ensures.kept c.open_products.ensures.opened in
    parted o c.take_coefficient.ensures.leaves.stands c.in_ok-coefficient.ensures.leaves.kept c.in_ok-coefficient.ensures.taken c.in_ok-coefficient.ensures.coefficient c.take_coefficient.ensures.front

pub take_coefficient-requires-clause-reduced : goal.take_coefficient-requires-clause-reduced
take_coefficient-requires-clause-reduced c = reduced_now (opened_now (goal.at.take_coefficient-requires-clause-reduced c).After-open_products)

pub join_or_end-requires : goal.join_or_end-requires
join_or_end-requires c =
    let p = parts (goal.at.join_or_end-requires c).In_ok-coefficient in
    record {
      stands = c.take_coefficient.ensures.leaves.stands;
      product = p.product;
      others = p.others;
      coefficient = c.in_ok-coefficient.ensures.taken.beside.handed;
      number = c.in_ok-coefficient.ensures.coefficient.number;
      apart = p.apart;
    }

-- ---- a factor is Undef

pub returns-then-has_undef_factor-clause-done : goal.returns-then-has_undef_factor-clause-done
returns-then-has_undef_factor-clause-done c =
    let ts = factors_in c.args.product (forest c.args.pool.now) in
    gives_as c.undefined.ensures.gives refl (λ t e. subst (IsFinished ts) (sym e) (undef_finished ts (sym c.has_undef_factor.ensures ∙ c.if-has_undef_factor.true)))

pub returns-then-has_undef_factor-clause-bounds : goal.returns-then-has_undef_factor-clause-bounds
returns-then-has_undef_factor-clause-bounds c = finished_bounds _ c.requires.reduced (given_told (returns-then-has_undef_factor-clause-done c))

pub returns-then-has_undef_factor-clause-rationals : goal.returns-then-has_undef_factor-clause-rationals
returns-then-has_undef_factor-clause-rationals c =
    λ r. absurd (let no : true ≡ false = sym c.if-has_undef_factor.true ∙ c.has_undef_factor.ensures ∙ rationals_defined (factors_in c.args.product (forest c.args.pool.now)) r in cc)

-- ---- Numbers that are not multiplied

pub returns-in_err-coefficient-clause-rationals : goal.returns-in_err-coefficient-clause-rationals
returns-in_err-coefficient-clause-rationals c = λ r.
    let f = c.in_err-coefficient.field-0.0 in
    let new = c.take_coefficient.new.pool in
    let o = opened_now (goal.at.returns-in_err-coefficient-clause-rationals c).After-open_products in
    step_refused _ new c.from_residual.result f c.from_residual.ensures.1 (rationals_opened (λ (v : PlainValue). AnswersRationals v new (Err f)) o r c.in_err-coefficient.ensures.rationals)

pub returns-in_err-coefficient-clause-overflow : goal.returns-in_err-coefficient-clause-overflow
returns-in_err-coefficient-clause-overflow c =
    let o = opened_now (goal.at.returns-in_err-coefficient-clause-overflow c).After-open_products in
    numbers_overflow c.from_residual.result c.in_err-coefficient.field-0.0 c.from_residual.ensures.0 c.from_residual.ensures.1 o c.in_err-coefficient.ensures.overflow

pub returns-in_err-coefficient-clause-bits : goal.returns-in_err-coefficient-clause-bits
returns-in_err-coefficient-clause-bits c h l a few =
    let o = opened_now (goal.at.returns-in_err-coefficient-clause-bits c).After-open_products in
    numbers_fit c.from_residual.result c.in_err-coefficient.field-0.0 h l c.from_residual.ensures.0 c.from_residual.ensures.1 o a few c.in_err-coefficient.ensures.bits

pub returns-in_err-coefficient-clause-room : goal.returns-in_err-coefficient-clause-room
returns-in_err-coefficient-clause-room c gs s =
    let o = opened_now (goal.at.returns-in_err-coefficient-clause-room c).After-open_products in
    numbers_room gs c.from_residual.result c.in_err-coefficient.field-0.0 c.from_residual.ensures.1 o s (c.in_err-coefficient.ensures.room gs)

-- ---- a coefficient and the other factors

pub returns-clause-done : goal.returns-clause-done
returns-clause-done c = let p = parts (goal.at.returns-clause-done c).In_ok-coefficient in done_map c.join_or_end.result c.join_or_end.ensures.done (λ h x. stop_given p x)

pub returns-clause-again : goal.returns-clause-again
returns-clause-again c = let p = parts (goal.at.returns-clause-again c).In_ok-coefficient in again_map c.join_or_end.result c.join_or_end.ensures.again (λ h x. rejoin_given p x)

pub returns-clause-rationals : goal.returns-clause-rationals
returns-clause-rationals c = λ r.
    let s = (goal.at.returns-clause-rationals c) in
    let a = rationals_opened (λ (v : PlainValue). IsPlainAnswer v (tree_of c.in_ok-coefficient.coefficient c.take_coefficient.new.pool)) (opened_now s.After-open_products) r c.in_ok-coefficient.ensures.rationals in
    step_answered _ _ c.join_or_end.new.pool c.join_or_end.result (parts s.In_ok-coefficient) r a c.join_or_end.ensures.done c.join_or_end.ensures.again c.join_or_end.ensures.alone

pub returns-clause-overflow : goal.returns-clause-overflow
returns-clause-overflow c = spreading_given c.join_or_end.result (parts (goal.at.returns-clause-overflow c).In_ok-coefficient) c.join_or_end.ensures.overflow

pub returns-clause-front : goal.returns-clause-front
returns-clause-front c = (parts (goal.at.returns-clause-front c).In_ok-coefficient).front _ c.join_or_end.ensures.front

pub returns-clause-bounds : goal.returns-clause-bounds
returns-clause-bounds c = done_map c.join_or_end.result (returns-clause-done c) (λ h x. finished_bounds _ c.requires.reduced (given_told x))

pub returns-clause-again_counted : goal.returns-clause-again_counted
returns-clause-again_counted c = again_map c.join_or_end.result (returns-clause-again c) (λ h x. product_counted (tree_of c.args.product c.args.pool.now) _ c.requires.product (given_told x))

pub returns-clause-again_spanned : goal.returns-clause-again_spanned
returns-clause-again_spanned c = λ gs s.
    again_map c.join_or_end.result (returns-clause-again c)
    (λ h x. spans_joined gs _ _ (spans_factors gs _ _ (mult_words (tree_of c.args.product c.args.pool.now) c.requires.product) s) (given_told x))

pub returns-clause-bits : goal.returns-clause-bits
returns-clause-bits c h l a few =
    spreading_fits c.join_or_end.new.pool c.join_or_end.result h l (parts (goal.at.returns-clause-bits c).In_ok-coefficient) a few c.join_or_end.ensures.overflow c.join_or_end.ensures.leaves.caused

pub returns-clause-room : goal.returns-clause-room
returns-clause-room c gs s = parted_room gs c.join_or_end.result (parts (goal.at.returns-clause-room c).In_ok-coefficient) s (c.join_or_end.ensures.room gs)
