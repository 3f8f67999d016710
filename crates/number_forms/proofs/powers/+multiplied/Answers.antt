use Rattle.number_forms.proofs.Shared.{◌≡◌, ℕ, ◌+◌, ◌<◌, ◌*◌, ◌^◌, length, ap, ◌∙◌, subst, sym, inl, refl, arith, is_number, value, Tree, Same-refl, tree_of, passed_on, overflow_as, refused_as, gives_itself, gives_without, gives_as, gives_rest}
use Rattle.number_forms.proofs.Shared.{given_handed, given_told, given_other, given_rest, handed_at, other_plain, owned, behind_first, behind_new, front_same, front_at, front_without, front_after, front_after_one, kept_after, kept_same, behind_later, replaced_free}
use Rattle.number_forms.proofs.{Shared.{IsPowerOver, PowerOverflows, Gives, SpansTree, forest, raising_need, without_root}, Over.{next_power, power_itself, of_power}, PowerSteps.{next_below}, TermTrees.{if_given}}
use Rattle.number_forms.proofs.{Overflows.{last_overflows}, Rooms.{full_as, refusal_as, power_spans, step_lacks}, Refusals.{none_given}}
use Rattle.number_forms.proofs.powers.+multiplied.Goals.{After-release}
use Rattle.number_forms.proofs.Safety.{answered, beside_all, passed, then_safe}
use Rattle.number_forms.proofs.powers.+multiplied.Goals as goal

pub product_of-requires : goal.product_of-requires
product_of-requires _ c = record {
  stands = c.requires.stands;
  first = given_handed c.requires.power;
  second = given_other c.requires.power c.requires.handed;
  first_number = (given_told c.requires.power).number;
  second_number = c.requires.number;
}

pub release-requires-clause-releasable : goal.release-requires-clause-releasable
release-requires-clause-releasable _ c = inl (given_other c.in_ok-next.ensures.ok (given_handed c.requires.power)).root

-- the next power stands where the one before it did
next : (k : ℕ) (c : After-release k) → Gives (without_root c.args.power (forest c.args.pool.now)) (forest c.release.new.pool) c.in_ok-next.next (IsPowerOver (value (tree_of c.args.a.now c.args.pool.now)) (c.args.from + 1))
next k c = let power = given_handed c.requires.power in let made = c.in_ok-next.ensures.ok in
    gives_as (gives_without c.args.power made power.root (c.release.ensures.owned (owned (given_other made power)))) refl
    (λ t h. next_power (tree_of c.args.power c.args.pool.now) (tree_of c.args.a.now c.args.pool.now) t c.args.from (given_told c.requires.power) h)

-- the Number as it stands beside it
same : (k : ℕ) (c : After-release k) → tree_of c.args.a.now c.release.new.pool ≡ tree_of c.args.a.now c.args.pool.now
same k c = other_plain c.args.a.now (next k c) c.requires.handed.root ∙ sym (other_plain c.args.a.now c.requires.power c.requires.handed.root)

pub multiplied-requires : goal.multiplied-requires
multiplied-requires _ c =
    let at = (goal.at.multiplied-requires _ c).After-release in
    let made = next _ at in
    let it = same _ at in
    let power = gives_rest made (λ t h. subst (λ (x : Tree). IsPowerOver (value x) (c.args.from + 1) t) (sym it) h) in
    let below : c.args.from < c.args.n = next_below c.args.from c.args.n c.requires.below c.if-from-n.false in (
      omega (arith, c.decreases, below),
      (c.release.ensures.stands, (power, (handed_at c.requires.handed (given_rest made), (ap is_number it ∙ c.requires.number, (omega arith, (omega (arith, below), omega (arith, c.requires.few))))))),
    )

pub returns-in_err-next : goal.returns-in_err-next
returns-in_err-next _ c = let r = c.from_residual.result in let e = c.in_err-next.field-0.0 in let said = c.from_residual.ensures in record {
  ok = none_given r _ said.0;
  overflow = let a : Tree = tree_of c.args.a.now c.args.pool.now in passed_on r e _ said.0 said.1 (overflow_as c.in_err-next.field-0.0 c.in_err-next.ensures.overflow (λ o p. last_overflows _ a c.args.from c.args.n o c.requires.positive (next_below c.args.from c.args.n c.requires.below c.if-from-n.false)
      (given_told c.requires.power) (power_itself a (record { number = c.requires.number; worth = Same-refl (value a) })) p));
  room = λ gs s. let q : Tree = tree_of c.args.power c.args.pool.now in
      let power = given_told c.requires.power in
      let spanned = power_spans gs (tree_of c.args.a.now c.args.pool.now) q c.args.from c.requires.number (of_power power) s in
      passed_on r e _ said.0 said.1 (full_as c.in_err-next.field-0.0 (c.in_err-next.ensures.room gs spanned s) (λ full few. step_lacks gs _ _ q power.number spanned refl few));
  safe = beside_all (passed r e said.0 said.1 c.in_err-next.ensures.safe);
}

pub returns : goal.returns
returns _ c = let at = (goal.at.returns _ c).After-release in let made = next _ at in let it = same _ at in
    let kept = kept_after c.in_ok-next.ensures.safe.kept c.release.ensures.kept in record {
      ok = if_given _ _ _ _ _ c.multiplied.result c.multiplied.ensures.ok (given_rest made) (λ t h. subst (λ (x : Tree). IsPowerOver (value x) c.args.n t) it h);
      overflow = refused_as c.multiplied.result c.multiplied.ensures.overflow (λ o p. subst (λ (x : Tree). PowerOverflows (value x) c.args.n o) it p);
      room = λ gs s. refusal_as c.multiplied.result (c.multiplied.ensures.room gs (subst (SpansTree gs) (sym it) s))
          (λ e p. full_as e p (λ full few. subst (λ (n : ℕ). n < raising_need * 2 ^ length gs) ((replaced_free c.requires.stands c.release.ensures.stands kept (given_handed c.requires.power) made)) few));
      safe = then_safe kept (front_after_one (behind_later (behind_new c.in_ok-next.ensures.ok.ends front_same)) (front_at (front_without behind_first (front_after front_same c.product_of.ensures.safe.front)) (c.release.ensures.owned (owned (given_other c.in_ok-next.ensures.ok (given_handed c.requires.power))))) c.multiplied.ensures.safe.front) c.multiplied.ensures.safe;
    }

pub returns-then-from-n : goal.returns-then-from-n
returns-then-from-n _ c = record {
  ok = gives_as (gives_itself c.requires.power) refl (λ t h. subst (λ k. IsPowerOver (value (tree_of c.args.a.now c.args.pool.now)) k t) c.if-from-n.true h.0);
  overflow = tt;
  room = λ a b. tt;
  safe = answered front_same (kept_same c.args.pool.now) c.requires.stands;
}
