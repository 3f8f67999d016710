use Rattle.expand_forms.proofs.{Shared.{sym, subst, BeginsWith, ap, AreAhead, Monomial, forest, is_num, is_symbol, one_value, next_is, some_next}, FactorWalks.{ended, none_ahead, IsNameAhead}}
use Rattle.expand_forms.proofs.FactorWalks.{IsPowerAhead, IsPowerPassed, name_ahead, name_begins, next_ahead, power_ahead, power_begins, power_passed, some_ahead, some_behind}
use Rattle.expand_forms.proofs.walking.next_read.Goals.{In-Sym, In_default, After-unwrap-exponent}
use Rattle.expand_forms.proofs.walking.next_read.Goals as goal

pub returns-in_err-top-clause-factor : goal.returns-in_err-top-clause-factor
returns-in_err-top-clause-factor c = λ m a. subst (λ o. BeginsWith o m) (sym c.from_residual.ensures) (none_ahead a c.in_err-top.ensures.steps.0)

pub returns-in_err-top-clause-ahead : goal.returns-in_err-top-clause-ahead
returns-in_err-top-clause-ahead c = λ m a. ended a c.in_err-top.ensures.steps.0 c.in_err-top.ensures.steps.1

-- ---- a name

name : (c : In-Sym) (m : Monomial) → AreAhead m c.args.nodes.now (forest c.args.pool.now) → IsNameAhead m c.in_ok-top.top c.next.new.self (forest c.args.pool.now)
name c m a = name_ahead a c.in_ok-top.ensures.steps c.in-Sym.is

pub name-requires-clause-live : goal.name-requires-clause-live
name-requires-clause-live c = let (m, a) = c.requires.ahead in (name c m a).live

pub name-requires-clause-symbol : goal.name-requires-clause-symbol
name-requires-clause-symbol c = let (m, a) = c.requires.ahead in ap is_symbol (name c m a).tree-is

pub returns-in-Sym-clause-factor : goal.returns-in-Sym-clause-factor
returns-in-Sym-clause-factor c = λ m a. name_begins (name (goal.at.returns-in-Sym-clause-factor c).In-Sym m a) _ c.name.ensures.plain (one_value c.whole.result c.whole.ensures)

pub returns-in-Sym-clause-ahead : goal.returns-in-Sym-clause-ahead
returns-in-Sym-clause-ahead c = λ m a. let x = name (goal.at.returns-in-Sym-clause-ahead c).In-Sym m a in next_ahead x.begins x.ahead

-- ---- a power

power : (c : In_default) (m : Monomial) → AreAhead m c.args.nodes.now (forest c.args.pool.now) → IsPowerAhead m c.next.new.self (forest c.args.pool.now)
power c m a = power_ahead a c.in_ok-top.ensures.steps c.in_default.not-Sym

pub unwrap-base-requires : goal.unwrap-base-requires
unwrap-base-requires c = let (m, a) = c.requires.ahead in some_next c.next-in_default.result _ _ c.next-in_default.ensures.steps (some_ahead (power (goal.at.unwrap-base-requires c).In_default m a))

pub unwrap-exponent-requires : goal.unwrap-exponent-requires
unwrap-exponent-requires c =
    let (m, a) = c.requires.ahead in
    some_next c.next-in_default-2.result _ _ c.next-in_default-2.ensures.steps
    (some_behind (power (goal.at.unwrap-exponent-requires c).In_default m a) (next_is c.next-in_default.result c.unwrap-base.result _ _ c.next-in_default.ensures.steps c.unwrap-base.ensures))

passed : (c : After-unwrap-exponent) (m : Monomial) → AreAhead m c.args.nodes.now (forest c.args.pool.now)
    → IsPowerPassed m c.unwrap-base.result c.unwrap-exponent.result c.next-in_default-2.new.self (forest c.args.pool.now)
passed c m a =
    power_passed (power_ahead a c.in_ok-top.ensures.steps c.in_default.not-Sym) (next_is c.next-in_default.result c.unwrap-base.result _ _ c.next-in_default.ensures.steps c.unwrap-base.ensures)
    (next_is c.next-in_default-2.result c.unwrap-exponent.result _ _ c.next-in_default-2.ensures.steps c.unwrap-exponent.ensures)

pub name-requires-in_default-clause-live : goal.name-requires-in_default-clause-live
name-requires-in_default-clause-live c = let (m, a) = c.requires.ahead in (passed c m a).name-live

pub name-requires-in_default-clause-symbol : goal.name-requires-in_default-clause-symbol
name-requires-in_default-clause-symbol c = let (m, a) = c.requires.ahead in ap is_symbol (passed c m a).name-is

pub rational-requires-clause-live : goal.rational-requires-clause-live
rational-requires-clause-live c = let (m, a) = c.requires.ahead in (passed (goal.at.rational-requires-clause-live c).After-unwrap-exponent m a).exponent-live

pub rational-requires-clause-number : goal.rational-requires-clause-number
rational-requires-clause-number c = let (m, a) = c.requires.ahead in ap is_num (passed (goal.at.rational-requires-clause-number c).After-unwrap-exponent m a).exponent-is

pub returns-in_default-clause-factor : goal.returns-in_default-clause-factor
returns-in_default-clause-factor c = λ m a. power_begins (passed (goal.at.returns-in_default-clause-factor c).After-unwrap-exponent m a) _ c.name-in_default.ensures.plain c.rational.ensures.plain

pub returns-in_default-clause-ahead : goal.returns-in_default-clause-ahead
returns-in_default-clause-ahead c = λ m a. let x = passed (goal.at.returns-in_default-clause-ahead c).After-unwrap-exponent m a in next_ahead x.begins x.ahead
