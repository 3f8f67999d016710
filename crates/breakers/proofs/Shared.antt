-- The names that the proofs share.
pub use Rattle.breakers.specs.{declared.breaker.Plan.TheVariants.{After, Idle, Untold}, Breakers.{CalmChecks, CalmUpTo, Check, TripsRose, TripsWithin, armed_first, kept}}
pub use Rattle.breakers.specs.{Laws.{CalmChecksRaiseNoTrips, OnlyTheTrippedRose, TellsPlan, ToldChecksHaveOneOutcome}, declared.watch.Interrupted.{Interrupted}, declared.breaker.Plan.{Plan}}
pub use Rattle.breakers.specs.State.{Polls, State, StepsPlan, armed_after, largest_count}
pub use Rattle.std.proofs.{lemmas.List.Elements.{All-from_recursion, filter_from_retain, recursion_from_All}, Common.{Bool, Err, List, None, Ok, Option, Result, Some, [], add-one, ap, arith, cond}}
pub use Rattle.std.proofs.Common.{false, get_or, if◌then◌else◌, inl, inr, length, map, refl, rules, subst, suc, sym, true, zero, zero-add, ℕ, ◌+◌, ◌<◌, ◌==◌, ◌↔◌, ◌∙◌, ◌∷◌, ◌≡◌, ◌≢◌, ◌≤◌}
pub use Rattle.std.proofs.{lemmas.Bool.{cases_lt, cond-false, cond-true}, Math.ListN.{get_or-map, set}, lemmas.List.{length-map, length-set, map-set, set-get_or, with_items_is}}
pub use Rattle.std.proofs.{lemmas.List.Folds.{list_any_at}, Math.Nat.{suc-add}}
pub use Rattle.std.specs.List.{AllByRecursion, filter, list_any}
