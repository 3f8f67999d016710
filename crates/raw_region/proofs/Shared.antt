-- The names that the proofs share.
pub use Rattle.core.proofs.alloc.Calls.{Al, Answer-typed, Answered, Gives, Gives-Gives, Gives-goes, Goes-blank, Takes, Takes-gives, Takes-goes, answers, at_gives, at_takes}
pub use Rattle.core.proofs.{alloc.Shapes.{after, arm_body, head}, atomic.Steps.{fm}}
pub use Rattle.core.specs.declared.alloc.Allocator.{Ghosts}
pub use Rattle.raw_region.specs.{BlockLends.{rewritten}, Blocks.{block_owns, block_shows, byte, fits}, Bytes.{cleared, put, rotated, slid, switched}}
pub use Rattle.std.proofs.Common.{List, [], ap, append_assoc, arith, length, lit<, refl, replicate, slice_index_or, subst, suc, sym, take, ℕ, ◌*◌, ◌++◌, ◌+◌, ◌-◌, ◌<◌, ◌^◌, ◌∙◌, ◌∷◌, ◌≡◌, ◌≤◌}
pub use Rattle.std.proofs.{Math.Seq.{take-add}, lemmas.List.{drop-drop, drop-take, drop_at, length-append, length-drop, length-replicate, length-take-le, replicate-append-replicate, take-append-drop}}
pub use Rattle.std.proofs.{lemmas.List.{take-replicate, take-take, take_at}, raw_atomic.Walks.{leaves, proved_at}}
pub use Rattle.std.specs.Prelude.{Err, Ok}
pub use Rattle.std_alloc.proofs.{RawLayout.{as_raw, as_written}, ResultValues.{err_of, ok_of}, Words.{pointer_in, pointer_out, word_in, word_out}}
pub use base.{Fml.{Fml, GName, Lft, fat, ffalse, fhide, flft, froom, fsep, ftrue}, Fraction.{full_share}, Logic.{SProp, emp, ent, id⊢, never, sep}}
pub use contract.{BorrowLft.{⊑_static, ⊑_trans, ◌⊑◌}, Monad.{fact, fact_i}, Running.{tables}}
pub use denote.{Builtin.{RefOf, u8, usize}, Exit.{no, yes}, Memory.{cell_at, hidden_shr, mem, part_at, shared_of}, Opens.{hide, shr_dup, unhide}, Param.{bounded, param}}
pub use denote.{Param.Shared.{Sharable, copy_shared}, RattleType.{RattleType, RowLaws, owns}, RawPtr.{InBlock, Ptr, RawPtr, block_of, block_ptr, count_of, in_a_block, null_ptr, ptr_row_laws, ptr_val}}
pub use denote.{RawPtr.Bytes.{bytes, bytes-room, bytes_glue}, Signature.{mut_ref_to, plain, types_at}, Slice.{MutSlice, elements_shared, elements_shr_laws, slice_val}}
pub use denote.{Steps.{closes, heard, nothing, opens, owned}, Struct.Laws.{RawPtr-copy, field_copy, u8-copy, usize-copy}, Struct.Struct.{Struct, Struct-Makes, Struct-row_laws}, Triple.Entry.{alive}}
pub use denote.{Triple.Walked.{Goes-dropped, Goes-ref, Goes-spent_ref, Stays, stay_dropped, stay_ref, walk_of}, Array.{Array}, FollowSlice.{Elements, lends_Elements}, Laws.{Is}, Param.Laws.{Laws}}
pub use denote.{Struct.Lending.{Lends, Lends-both, Lends-false, Lends-first, Lends-nothing, Lends-said, lent_out, of_Lends}, Ref.{MutBor}, Struct.Field.{RawPtr-field, u8-field, usize-field}}
pub use denote.{Shares.{Shares, Shares-less}, Sharing.{ShrLaws, said}, SharingLaws.{beside_shr_laws, said_shr_laws}, Triple.Call.{calls_at, calls_at_last}, Follow.{follows}, Shadow.{makes_shadow}}
pub use denote.{Struct.Owning.{shape}, Plain.{uint_in, uint_row_laws}, Index.{whole_in, whole_out}}
pub use mathlib.Core.Bool.{false, true}
pub use mir.{MapTy.{inst_fn}, Syntax.{Args, Body, Dict, Fn, Ty, a_type, dcons, dnil, named, ty_array, ty_unit, w64, w8}, Val.{Val, WT, has_ty, of_list, vcons, vint, vnil, vptr, vstruct, vunit}}
pub use prog.{Wp.{Env, Wp, WpFn, after_seq, at_return}, Memory.{capped, size}, Capped.{capped_is}, RawLaws.{size-raw}}
pub use seplogic.Ra.Ura.{Ura}
pub use types.{ByLocal.{alloc_all, env, free_all, get, get_in, get_tag, lands_as, lands_last, look_at, pass_all, sets, sets_last, through}, Kit.{ !, Goal, Item, Seq, any_q, at_ret, await, by, done}}
pub use types.Kit.{drop, feq_i, feq_l, fjoin, fjoin3, flt_i, flt_l, fpack, fpick, fsplit, fsplit3, given, group, join, keep, later, learn, move, pick, prop, qed, raw, regoal, rewrite, some, split}
pub use types.{Kit.{split3, use0, use1, use2, ‵, ◌$◌, ◌∵◌, ◌⊛◌}, Logic.{Logic, sem}, Part.{agg, look_in, sub, whole}, Run.{and_then, assigns_last, bin, blocks, enter, exec, first, fld, init, lit}}
pub use types.{Run.{load, look, no_more, of_opd, returns, stop, switches_on, unit_lit}, SemTy.{cells}, Match.{in_variant, live, vrt}}
