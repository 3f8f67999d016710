-- The names that the proofs share.
pub use Rattle.calc_edges.specs.{Taken.{AppendsPart}, declared.failures.Failures.{Failures}, Faults.{HasCause, IsCalm, StopsKeeping, counted}, SourceBytes.{Gives, SourceBytes}}
pub use Rattle.std.proofs.{KnownBytes.{Appends-nil, Appends-trans, Consumes-nil, Consumes-trans}, Common.{Err, List, [], refl, ◌<◌, ◌^◌, ◌∷◌, Ok, Option, Result, ap, arith, drop, drop-drop, length, length-append, length-drop, subst, sym, take, take-add, ℕ, ◌++◌, ◌+◌}}
pub use Rattle.std.proofs.{Common.{◌-◌, ◌∙◌, ◌≡◌, ◌≤◌}, Math.Seq.{take-append-add}, lemmas.List.{take-append-le, take_rest}}
pub use Rattle.std.specs.Io.KnownBytes.{Appends}
pub use base.{Fml.{Fml}, Logic.{SProp, emp, ent, fst∗, via}}
pub use contract.{Monad.{Fun}, Lifetimes.{Lfts, Shares}, Running.{tables}}
pub use denote.{Triple.Entry.{Args, alive, on_entry}, Triple.Walked.{Goes-none_ref, Goes-none_slice, Stays, Walks, ends_at, says, stay_none_ref, stay_none_slice, walk_Meets, walk_of, walked}}
pub use denote.{Triple.Spec.{Meets, triple_of}, Triple.Table.{entered}, RattleType.{owns}, Signature.{plain, types_at}, Shadow.{pure_i}, Ref.{shr_Tells, shr_vals}}
pub use denote.{Slice.{shr_slice_Tells, shr_slice_vals, slice_val}, Builtin.{u8}, Exit.{yes}}
pub use mir.{Val.{Val, vnil, vptr, vstruct}, Syntax.{named}}
pub use prog.{Wp.{Calls, Loops, Tables, WpFn}, Memory.{Memory}, Routine.{Routine}}
pub use seplogic.Ra.Ura.{Ura}
pub use sound.WpLaws.{WpFn-mono}
pub use types.{Kit.{ !, done, move, qed, raw, suffices, ‵, ◌$◌, ◌∵◌}, Logic.{Logic}, Part.{agg}, ByLocal.{alloc_all, free_all, look_at, pass_all, sets}, Run.{enter, no_more, returns}}
