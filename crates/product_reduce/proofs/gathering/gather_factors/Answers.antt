use Rattle.product_reduce.proofs.Shared.{◌≡◌, ◌∙◌, Ok, Err, ap, sym, refl, subst, arith, true, false, PlainValue, IsPlainAnswer, AnswersRationals, result_lacks, tree_of, forest, gives_as, given_told}
use Rattle.product_reduce.proofs.{Shared.{IsFinished, IsCoefficient, others_in, factors_in, reduced_formed}, Finished.{stopped, undef_finished, rationals_defined}, Forms.{opened_flat}}
use Rattle.product_reduce.proofs.{Shared.{◌≤◌, AreOthers, NoneIs, Trees, count, is_mult}, Products.{factors_are, product_at}}
use Rattle.product_reduce.proofs.{Gathered.{gathered}, Leads.{opened_some}, Parted.{AreOpened, AreParted, opens, parted, reduced_now, rationals_opened, numbers_overflow, numbers_fit, numbers_room}}
use Rattle.product_reduce.proofs.Parted.{stop_given, gathered_given, spreading_given, spreading_fits, parted_room, answered, refused, finished_bounds, gathered_bounds}
use Rattle.product_reduce.proofs.{Stepped.{others_are, finished_map, joined_map, none_beside}, gathering.gather_factors.Goals.{After-open_products, In_ok-coefficient}}
use Rattle.product_reduce.proofs.gathering.gather_factors.Goals as goal

opened_now : (c : After-open_products) → AreOpened c.args.product c.args.pool.now c.open_products.new.pool
opened_now c =
    opens c.requires.stands c.requires.handed c.requires.product c.requires.some c.requires.reduced
    (sym c.has_undef_factor.ensures ∙ c.if-has_undef_factor.false) c.open_products.ensures.stands c.open_products.ensures.kept c.open_products.ensures.opened

parts : (c : In_ok-coefficient) → AreParted c.args.product c.in_ok-coefficient.coefficient c.args.pool.now c.take_coefficient.new.pool
parts c =
    let o = opens c.requires.stands c.requires.handed c.requires.product c.requires.some c.requires.reduced (sym c.has_undef_factor.ensures ∙ c.if-has_undef_factor.false) c.open_products.ensures.stands c.open_products.ensures.kept c.open_products.ensures.opened in
    parted o c.take_coefficient.ensures.leaves.stands c.in_ok-coefficient.ensures.leaves.kept c.in_ok-coefficient.ensures.taken c.in_ok-coefficient.ensures.coefficient c.take_coefficient.ensures.front

-- ---- a factor is Undef

pub returns-then-has_undef_factor-clause-done : goal.returns-then-has_undef_factor-clause-done
returns-then-has_undef_factor-clause-done c =
    let ts = factors_in c.args.product (forest c.args.pool.now) in
    gives_as c.undefined.ensures.gives refl (λ t e. subst (IsFinished ts) (sym e) (undef_finished ts (sym c.has_undef_factor.ensures ∙ c.if-has_undef_factor.true)))

pub returns-then-has_undef_factor-clause-bounds : goal.returns-then-has_undef_factor-clause-bounds
returns-then-has_undef_factor-clause-bounds c = finished_bounds _ c.requires.reduced (given_told (returns-then-has_undef_factor-clause-done c))

pub returns-then-has_undef_factor-clause-rationals : goal.returns-then-has_undef_factor-clause-rationals
returns-then-has_undef_factor-clause-rationals c =
    λ r. absurd (let no : true ≡ false = sym c.if-has_undef_factor.true ∙ c.has_undef_factor.ensures ∙ rationals_defined (factors_in c.args.product (forest c.args.pool.now)) r in cc)

-- ---- the coefficient stands first as it is written

pub written_lead-requires : goal.written_lead-requires
written_lead-requires c =
    let ts = factors_in c.args.product (forest c.args.pool.now) in
    let o = opened_now (goal.at.written_lead-requires c).After-open_products in
    let formed = reduced_formed ts o.reduced o.defined in
    record {
      stands = o.stands;
      product = product_at o.becomes.product refl (sym (factors_are o.becomes.product));
      reduced = reduced_now o;
      flat = subst (NoneIs is_mult) (sym o.factors) (opened_flat ts formed);
      some = subst (λ (us : Trees). 1 ≤ count us) (sym o.factors) (opened_some ts formed o.some);
    }

pub order_behind-requires-clause-reduced : goal.order_behind-requires-clause-reduced
order_behind-requires-clause-reduced c = reduced_now (opened_now (goal.at.order_behind-requires-clause-reduced c).After-open_products)

pub order_behind-requires-clause-others : goal.order_behind-requires-clause-others
order_behind-requires-clause-others c =
    let o = opened_now (goal.at.order_behind-requires-clause-others c).After-open_products in
    subst (λ (us : Trees). AreOthers (others_in us)) (sym o.factors) (others_are (factors_in c.args.product (forest c.args.pool.now)) o.reduced o.defined)

pub returns-in-Some-clause-done : goal.returns-in-Some-clause-done
returns-in-Some-clause-done c =
    let (k, h) = c.in-Some.ensures in
    let o = opened_now (goal.at.returns-in-Some-clause-done c).After-open_products in
    finished_map (Ok c.order_behind.result) (c.order_behind.ensures.done k h)
    (λ g x. gives_as x o.becomes.others (λ t e. stopped k _ _ t o.defined (subst (IsCoefficient k) o.factors h.coefficient) (ap others_in o.factors) e))

pub returns-in-Some-clause-gathered : goal.returns-in-Some-clause-gathered
returns-in-Some-clause-gathered c =
    let (k, h) = c.in-Some.ensures in
    let o = opened_now (goal.at.returns-in-Some-clause-gathered c).After-open_products in
    joined_map (Ok c.order_behind.result) (c.order_behind.ensures.ordered k h)
    (λ g at x. gives_as x o.becomes.others (λ t e. gathered k _ _ t o.reduced o.defined (subst (IsCoefficient k) o.factors h.coefficient) (ap others_in o.factors) e))

pub returns-in-Some-clause-rationals : goal.returns-in-Some-clause-rationals
returns-in-Some-clause-rationals c = grind (arith, opened_now, none_beside)

pub returns-in-Some-clause-bounds : goal.returns-in-Some-clause-bounds
returns-in-Some-clause-bounds c = finished_map (Ok c.order_behind.result) (returns-in-Some-clause-done c) (λ h x. finished_bounds _ c.requires.reduced (given_told x))

pub returns-in-Some-clause-joined_bounds : goal.returns-in-Some-clause-joined_bounds
returns-in-Some-clause-joined_bounds c = joined_map (Ok c.order_behind.result) (returns-in-Some-clause-gathered c) (λ h at x. gathered_bounds _ c.requires.reduced (given_told x))

-- ---- Numbers that are not multiplied

pub take_coefficient-requires-clause-reduced : goal.take_coefficient-requires-clause-reduced
take_coefficient-requires-clause-reduced c = reduced_now (opened_now (goal.at.take_coefficient-requires-clause-reduced c).After-open_products)

pub returns-in_err-coefficient-clause-rationals : goal.returns-in_err-coefficient-clause-rationals
returns-in_err-coefficient-clause-rationals c = λ r.
    let f = c.in_err-coefficient.field-0.0 in
    let new = c.take_coefficient.new.pool in
    let o = opened_now (goal.at.returns-in_err-coefficient-clause-rationals c).After-open_products in
    refused _ new c.from_residual.result f c.from_residual.ensures.1 (rationals_opened (λ (v : PlainValue). AnswersRationals v new (Err f)) o r c.in_err-coefficient.ensures.rationals)

pub returns-in_err-coefficient-clause-overflow : goal.returns-in_err-coefficient-clause-overflow
returns-in_err-coefficient-clause-overflow c =
    let o = opened_now (goal.at.returns-in_err-coefficient-clause-overflow c).After-open_products in
    numbers_overflow c.from_residual.result c.in_err-coefficient.field-0.0 c.from_residual.ensures.0 c.from_residual.ensures.1 o c.in_err-coefficient.ensures.overflow

pub returns-in_err-coefficient-clause-bits : goal.returns-in_err-coefficient-clause-bits
returns-in_err-coefficient-clause-bits c h l a few =
    let o = opened_now (goal.at.returns-in_err-coefficient-clause-bits c).After-open_products in
    numbers_fit c.from_residual.result c.in_err-coefficient.field-0.0 h l c.from_residual.ensures.0 c.from_residual.ensures.1 o a few c.in_err-coefficient.ensures.bits

pub returns-in_err-coefficient-clause-room : goal.returns-in_err-coefficient-clause-room
returns-in_err-coefficient-clause-room c gs s =
    let o = opened_now (goal.at.returns-in_err-coefficient-clause-room c).After-open_products in
    numbers_room gs c.from_residual.result c.in_err-coefficient.field-0.0 c.from_residual.ensures.1 o s (c.in_err-coefficient.ensures.room gs)

-- ---- the coefficient is taken out

pub order_or_end-requires : goal.order_or_end-requires
order_or_end-requires c =
    let p = parts (goal.at.order_or_end-requires c).In_ok-coefficient in
    record {
      stands = c.take_coefficient.ensures.leaves.stands;
      product = p.product;
      others = p.others;
      coefficient = c.in_ok-coefficient.ensures.taken.beside.handed;
      number = c.in_ok-coefficient.ensures.coefficient.number;
      apart = p.apart;
    }

pub returns-clause-done : goal.returns-clause-done
returns-clause-done c = let p = parts (goal.at.returns-clause-done c).In_ok-coefficient in finished_map c.order_or_end.result c.order_or_end.ensures.done (λ h x. stop_given p x)

pub returns-clause-gathered : goal.returns-clause-gathered
returns-clause-gathered c = let p = parts (goal.at.returns-clause-gathered c).In_ok-coefficient in joined_map c.order_or_end.result c.order_or_end.ensures.ordered (λ h at x. gathered_given p x)

pub returns-clause-rationals : goal.returns-clause-rationals
returns-clause-rationals c = λ r.
    let s = (goal.at.returns-clause-rationals c) in
    let a = rationals_opened (λ (v : PlainValue). IsPlainAnswer v (tree_of c.in_ok-coefficient.coefficient c.take_coefficient.new.pool)) (opened_now s.After-open_products) r c.in_ok-coefficient.ensures.rationals in
    answered _ _ c.order_or_end.new.pool c.order_or_end.result (parts s.In_ok-coefficient) r a c.order_or_end.ensures.done c.order_or_end.ensures.ordered c.order_or_end.ensures.alone

pub returns-clause-overflow : goal.returns-clause-overflow
returns-clause-overflow c = spreading_given c.order_or_end.result (parts (goal.at.returns-clause-overflow c).In_ok-coefficient) c.order_or_end.ensures.overflow

pub returns-clause-front : goal.returns-clause-front
returns-clause-front c = (parts (goal.at.returns-clause-front c).In_ok-coefficient).front _ c.order_or_end.ensures.front

pub returns-clause-bounds : goal.returns-clause-bounds
returns-clause-bounds c = finished_map c.order_or_end.result (returns-clause-done c) (λ h x. finished_bounds _ c.requires.reduced (given_told x))

pub returns-clause-joined_bounds : goal.returns-clause-joined_bounds
returns-clause-joined_bounds c = joined_map c.order_or_end.result (returns-clause-gathered c) (λ h at x. gathered_bounds _ c.requires.reduced (given_told x))

pub returns-clause-bits : goal.returns-clause-bits
returns-clause-bits c h l a few =
    spreading_fits c.order_or_end.new.pool c.order_or_end.result h l (parts (goal.at.returns-clause-bits c).In_ok-coefficient) a few c.order_or_end.ensures.overflow c.order_or_end.ensures.leaves.caused

pub returns-clause-room : goal.returns-clause-room
returns-clause-room c gs s =
    parted_room gs c.order_or_end.result (parts (goal.at.returns-clause-room c).In_ok-coefficient) s
    (λ x k. result_lacks c.order_or_end.result _ _ (c.order_or_end.ensures.room gs x k) (λ g l. omega (arith, l)))
