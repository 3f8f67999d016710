use Rattle.deep_reduce.proofs.Shared.{◌≡◌, Some, rules, refl, sym, subst, Gives, Rewrites, Tree, numerator, gives_itself, IsHeldAsPowerOf, IsFactorHeld, argument_of, forest, free_of}
use Rattle.deep_reduce.proofs.Shared.{replaced_free, passed_on, refusal_as, rewritten, without_root, keeps_after, base_in, exponent_in, tree_of, gives_as, given_handed, given_told, half_no_whole}
use Rattle.deep_reduce.proofs.{Shared.{if_ok_both}, Arms.{is_done, is_again, any_fault, any_refusal, misfit_fault, half_defined}, Children.{gives_next, front_next}, HalfPowers.{IsHalfStep, half_step}}
use Rattle.deep_reduce.proofs.{HalfPowers.{half_ready, half_last, last_exponent, rooted_held, half_after, step_finds_none, base_finds_none, last_step, last_finds_none}, Lacking.{lacks_as, short_at}}
use Rattle.deep_reduce.proofs.{Opened.{power_finished}, halves.reduce_half_power.Goals.{In-Again}}
use Rattle.node_bounds.proofs.HeldRoots.{half_fits}
use Rattle.deep_reduce.proofs.halves.reduce_half_power.Goals as goal

pub returns-in-Done : goal.returns-in-Done
returns-in-Done c =
    let b : Tree = base_in (tree_of c.args.power c.args.pool.now) in
    let e : Tree = exponent_in (tree_of c.args.power c.args.pool.now) in
    let d = is_done c.args.power c.args.pool.now c.power_step.new.pool c.in-Done.is c.in_ok-answer.ensures.ok in
    record {
      ok = gives_as d.1 refl (λ t a. power_finished b e t d.0 a (λ n q. half_no_whole e n c.requires.half q));
      defined = tt;
      front = c.power_step.ensures.front;
      room = λ gs z. tt;
      bits = λ h l z a few more. tt;
      leaves = search rules;
    }

-- the power after one step
again : (c : In-Again) → Gives (without_root c.args.power (forest c.args.pool.now)) (forest c.power_step.new.pool) c.in-Again.tree
    (λ u. (rewritten (base_in (tree_of c.args.power c.args.pool.now)) (exponent_in (tree_of c.args.power c.args.pool.now)) ≡ Some u) × Rewrites (tree_of c.args.power c.args.pool.now) u)
again c = is_again c.args.power c.args.pool.now c.power_step.new.pool c.in-Again.is c.in_ok-answer.ensures.ok

step : (c : In-Again) → IsHalfStep (base_in (tree_of c.args.power c.args.pool.now)) (exponent_in (tree_of c.args.power c.args.pool.now)) (tree_of c.in-Again.tree c.power_step.new.pool)
step c = half_step _ _ _ c.requires.half (given_told (again c)).0

pub reduce_base-requires : goal.reduce_base-requires
reduce_base-requires c =
    let after = (goal.at.reduce_base-requires c).In-Again in
    let r = half_ready c.requires.base (step after) in
    record { stands = search rules; handed = given_handed (again after); power = r.words; root = r.root; reduced = r.reduced }

pub returns-in_err-rooted-in-Again : goal.returns-in_err-rooted-in-Again
returns-in_err-rooted-in-Again c =
    let after = (goal.at.returns-in_err-rooted-in-Again c).In-Again in
    let s = step after in
    let f = c.from_residual-in_err-rooted-in-Again in
    let x = c.in_err-rooted-in-Again in
    record {
      ok = search rules;
      defined = passed_on f.result x.field-0.0 _ f.ensures.0 f.ensures.1 (any_fault x.field-0.0 _ (half_defined (tree_of c.args.power c.args.pool.now) c.requires.power c.requires.half s.defined));
      front = front_next (again after) c.power_step.ensures.front c.reduce_base.ensures.front;
      room = λ gs z.
          let moved = replaced_free c.requires.stands c.in_ok-answer.ensures.stands c.in_ok-answer.ensures.kept c.requires.handed (again after) in
          passed_on f.result x.field-0.0 _ f.ensures.0 f.ensures.1 (base_finds_none gs (free_of c.power_step.new.pool) _ x.field-0.0 c.requires.base z s moved x.ensures.room);
      bits = λ h l z a few more.
          passed_on f.result x.field-0.0 _ f.ensures.0 f.ensures.1 (x.ensures.bits h l (subst (λ (y : Tree). IsFactorHeld (argument_of (base_in y)) h l) (sym s.is) a) few);
      leaves = search rules;
    }

pub last_step-requires : goal.last_step-requires
last_step-requires c =
    let rooted = c.in_ok-rooted-in-Again.ensures.ok in
    let r = half_last c.requires.half (step (goal.at.last_step-requires c).In-Again) (given_told rooted) in
    record { stands = search rules; handed = given_handed rooted; power = r.words; base = r.base; exponent = r.exponent; last = r.last }

pub returns-in_ok-rooted-in-Again : goal.returns-in_ok-rooted-in-Again
returns-in_ok-rooted-in-Again c =
    let after = (goal.at.returns-in_ok-rooted-in-Again c).In-Again in
    let g = again after in
    let s = step after in
    let rooted = c.in_ok-rooted-in-Again.ensures.ok in
    let both = gives_next g rooted (λ u y. y) in
    let k = given_told rooted in
    let n = numerator (exponent_in (tree_of c.args.power c.args.pool.now)) in
    let exponent = last_exponent s k in
    record {
      ok = let w = subst (λ (x : Tree). Rewrites x (tree_of c.in-Again.tree c.power_step.new.pool)) c.requires.power (given_told g).1 in
          if_ok_both c.last_step.result c.last_step.ensures.ok (c.last_step.ensures.held n exponent)
          (λ h x y. gives_next both (gives_itself x)
          (λ r a. half_after r c.requires.half s w k a.0 c.requires.base (subst (IsHeldAsPowerOf n (base_in (tree_of c.in_ok-rooted-in-Again.rooted c.reduce_base.new.pool))) (sym a.1) y)));
      defined = any_refusal c.last_step.result _ (half_defined (tree_of c.args.power c.args.pool.now) c.requires.power c.requires.half s.defined);
      front = front_next both (front_next g c.power_step.ensures.front c.reduce_base.ensures.front) c.last_step.ensures.front;
      room = λ gs z.
          let x = last_step gs z s k in
          let kept = keeps_after _ _ _ c.in_ok-answer.ensures.kept c.in_ok-rooted-in-Again.ensures.leaves.kept in
          let moved = replaced_free c.requires.stands c.in_ok-rooted-in-Again.ensures.leaves.stands kept c.requires.handed both in
          refusal_as c.last_step.result (c.last_step.ensures.room gs x.spanned x.whole) (λ f q. lacks_as f (last_finds_none gs (free_of c.reduce_base.new.pool) f x q) (λ l. short_at moved l));
      bits = λ h l z a few more. c.last_step.ensures.bits n h l exponent (λ d. rooted_held c.requires.base s k z d a) more;
      leaves = search rules;
    }

-- ---- operations that do not fit

pub returns-in_err-answer : goal.returns-in_err-answer
returns-in_err-answer c =
    let t : Tree = tree_of c.args.power c.args.pool.now in
    let f = c.from_residual in
    let x = c.in_err-answer in
    record {
      ok = search rules;
      defined = passed_on f.result x.field-0.0 _ f.ensures.0 f.ensures.1 (misfit_fault t x.field-0.0 c.requires.power x.ensures.overflow);
      front = c.power_step.ensures.front;
      room = λ gs s. passed_on f.result x.field-0.0 _ f.ensures.0 f.ensures.1 (step_finds_none gs t (free_of c.args.pool.now) x.field-0.0 c.requires.base s (x.ensures.root_room c.requires.half));
      bits = λ h l z a few more. passed_on f.result x.field-0.0 _ f.ensures.0 f.ensures.1 (half_fits (base_in t) (exponent_in t) x.field-0.0 c.requires.half x.ensures.overflow);
      leaves = search rules;
    }
