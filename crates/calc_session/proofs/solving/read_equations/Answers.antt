use Rattle.calc_session.proofs.Shared.{refl, sym, subst, AreSplit, IsSplitFault, are_not_read, are_not_written, are_too_many, IsNoEquation, reason_of, map, pieces_at, AllZip, ReadsEquation, Equation, EquationRange}
use Rattle.std.proofs.Common.{List}
use Rattle.calc_session.proofs.solving.read_equations.Goals as goal

pub returns-in-Err-Unwritten : goal.returns-in-Err-Unwritten
returns-in-Err-Unwritten c = record {
  split = tt;
  read = tt;
  refused = λ old breakers. are_not_written (subst (IsSplitFault c.args.text.now) c.in-Err-Unwritten.field-0-is c.in-Err-Unwritten.ensures.refused) refl;
  no_pool = refl;
  no_breaker = λ place e. cc;
}

pub returns-in-Err-TooMany : goal.returns-in-Err-TooMany
returns-in-Err-TooMany c = record {
  split = tt;
  read = tt;
  refused = λ old breakers.
      let (es, splits, many) = subst (IsSplitFault c.args.text.now) c.in-Err-TooMany.field-0-is c.in-Err-TooMany.ensures.refused in
      are_too_many splits many refl;
  no_pool = refl;
  no_breaker = λ place e. cc;
}

pub read_sides-requires : goal.read_sides-requires
read_sides-requires c = record { short = c.requires.short; split = subst (AreSplit c.args.text.now) (sym c.as_slice.ensures.value) c.in-Ok.ensures.ok }

pub returns-in-Ok-read_sides : goal.returns-in-Ok-read_sides
returns-in-Ok-read_sides c = record {
  split = c.in-Ok.ensures.ok;
  read = subst (λ (rs : List EquationRange). (es : List Equation) × AllZip ReadsEquation (map (pieces_at c.args.before c.args.text.now) rs) es) c.as_slice.ensures.value c.in-Ok-read_sides.ensures.read;
  refused = λ old breakers. tt;
  no_pool = tt;
  no_breaker = tt;
}

pub returns-in-Err : goal.returns-in-Err
returns-in-Err c =
    let split = subst (AreSplit c.args.text.now) (sym c.as_slice.ensures.value) c.in-Ok.ensures.ok in
    record {
      split = tt;
      read = tt;
      refused = λ old breakers. are_not_read split.splits split.few (subst (λ ps. IsNoEquation ps (reason_of c.in-Err.refusal)) (split.placed_are c.args.before) c.in-Err.ensures.refused) refl;
      no_pool = c.in-Err.ensures.no_pool;
      no_breaker = c.in-Err.ensures.no_breaker;
    }
