-- The names that the proofs share.
pub use Rattle.breakers.specs.Breakers.{TripsRose}
pub use Rattle.calc_session.specs.{Answers.{Answers}, declared.answers.Refusal.TheVariants.{Interrupted}, declared.answers.LineAnswer.{LineAnswer}, declared.answers.LineAnswer.TheVariants.{Blank, Draw, Refused}}
pub use Rattle.node_pool.specs.State.{IsPoolSize}
pub use Rattle.poincare_c.specs.Slots.{AnswersIn, AnswersWithinIn, Closes, ClosesStopper, Draws, IsAnswered, IsAnsweredUnder, IsNew, IsNewStopper, IsOpening, IsOpeningStopper, IsPictured, IsTold}
pub use Rattle.poincare_c.specs.Slots.{IsUsed, Opens, OpensStanding, OpensStopper, OpensStopperStanding, PoolIn, Stops, TextIn, has_bad_size, has_closed_session, has_new_session, has_no_memory}
pub use Rattle.poincare_c.specs.{Slots.{has_no_room, opens, opens_stopper}, Standings.{Changes, is_open}, declared.standing.Standing.TheVariants.{Closed, New, Open}, declared.slot.Slot.{Slot}}
pub use Rattle.poincare_c.specs.{declared.standing.Standing.{Standing}, declared.stopper_slot.StopperSlot.{StopperSlot}, Codes.{code_of_answer, code_of_count, code_of_fault}}
pub use Rattle.poincare_c.specs.Owned.{holds_both, holds_session, holds_stopper}
pub use Rattle.poincare_held.specs.{Answering.{AreAnswered}, declared.held.Drawn.{Drawn}, declared.held.Held.{Held}, Sessions.{IsAnsweredWithin, IsDrawnOn, breakers_in, pool_use_in, state_in}}
pub use Rattle.poincare_held.specs.{Sessions.{text_in}, declared.held.OpenFault.TheVariants.{NoMemory, PoolSize}, declared.held.OpenFault.{OpenFault}, declared.held.PoolUse.{PoolUse}}
pub use Rattle.poincare_held.specs.{declared.stopper.Stopper.{Stopper}, Pages.{over}}
pub use Rattle.poincare_run.specs.Steps.{bits, room}
pub use Rattle.std.proofs.{Common.{Bool, List, [], ap, arith, false, length, nat_le, refl, rules, subst, sym, true, w32, w64, ℕ, ◌%◌, ◌++◌, ◌↔◌, ◌∷◌, ◌≡◌, ◌≤◌}, lemmas.Bool.{leb-false, leb-true}}
pub use Rattle.std.proofs.raw_atomic.Walks.{proved}
pub use Rattle.std.specs.Bool.{⊤}
pub use Rattle.std_heap.proofs.Handle.{heap_Tells, heap_val}
pub use base.{Fml.{fex, flent, flft, fsep, ftrue}, Fraction.{full_share}, Logic.{id⊢}}
pub use contract.{Monad.{fact}, Running.{tables}}
pub use denote.{Triple.Walked.{Goes-dropped, Goes-gave_ref, Goes-gave_slice, Stays, ends_at, gave_ref, gave_slice, stay_dropped, walk_of}, Laws.{Is, shows}, Ref.{MutRef, mut_Tells, mut_vals}}
pub use denote.{Slice.{MutSlice, ShrSlice, mut_slice_Tells, mut_slice_vals, shr_slice_Tells, shr_slice_vals}, RawPtr.{Ptr, block_ptr, in_a_block, rawptr_Tells, rawptr_vals, room_at}}
pub use denote.{Builtin.{RawPtr, u32, u64, u8, usize}, Triple.Call.{calls_at}, Memory.{cell_at, mem, part_at}, Triple.Table.{framed}, Steps.{heard, nothing, peeks}, Triple.Clauses.{lasts}}
pub use denote.{Lend.{lends_ref, ref_back}, Triple.Entry.{on_entry}, RattleType.{owns}, Signature.{plain, shr_slice_of}, Triple.Spec.{triple_of}, Plain.{uint_Lawful, uint_Tells, uint_vals}}
pub use denote.Exit.{yes}
pub use mir.{Val.{Val, vptr, vunit}, Syntax.{named}}
pub use prog.Wp.{WpFn}
pub use types.Kit.{ !, await, done, drop, feq_i, feq_l, fjoin, fpack, fsplit, group, join, keep, later, move, pick, prop, qed, raw, regoal, some, split, suffices, use1, use2, use3, ‵, ◌$◌, ◌∵◌, ◌⊛◌}
pub use types.{SemTy.{Body}, Run.{addr, and_then, assigns, enter, fld, from, hop, init, no_more, of_opd, returns, stop, unit_lit}, Part.{agg, sub, whole}, ByLocal.{alloc_all, free_all, get, get_in}}
pub use types.{ByLocal.{lands_as, look_at, look_in_at, pass_all, sets, through}, Tokens.{lft_end, lft_new}}
