-- The names that the proofs share.
pub use Rattle.calc_terms.proofs.Codec.{back_unsigned, code_small, drop-encoding, form_small, header_in-encoding, header_is, length-encoding, length-header_bytes, node_at-encoding}
pub use Rattle.calc_terms.proofs.{Codec.{number_at-number_bytes, short_at-encoding}, LowBytes.{length-low_bytes}, ShortForm.{short_parts}, Sizes.{bare_size, payload_least}}
pub use Rattle.calc_terms.proofs.{Names.{before_zero-padded, length-padded}, Leaves.{usable}}
pub use Rattle.calc_terms.specs.{Leaf.{payload_of}, Rat.{ratio_of}, declared.kind.Kind.{Kind}, declared.leaf.Header.{Header}, Kind.{code_of, kind_of, size_by_form}, Node.{IsNode, Node, form_of}}
pub use Rattle.calc_terms.specs.Node.{fresh, from_bytes, header_of, kind_or_undef, node_at, number_at, number_bytes, payload_bytes, ratio_at, ratio_bytes, size_of, size_of_header}
pub use Rattle.calc_terms.specs.{Payload.{IsPayload, Payload, has_short_form, is_bare, kind_of_payload, named, rational, size_of_payload}, Ratio.{IsRat, Ratio}}
pub use Rattle.calc_terms.specs.{Name.{HoldsName, before_zero, is_name, padded}, declared.leaf.Leaf.{Leaf}, declared.kind.Kind.TheVariants.{Num}}
unfoldable pub use Rattle.calc_terms.specs.Node.{encoding, header_bytes, header_in, kind_at, low_bytes, short_at}
pub use Rattle.node_pool.specs.{Contents.{Contents, IsContents, bytes_in}, Flags.{AreBelow, AreFlagsOf, AreTakenBelow, HasUnused, IsLeastUnused, flag, without_ids}, Kept.{IsKept, state_of}}
pub use Rattle.node_pool.specs.{Laid.{IsLaid, contents_of}, Nodes.{AreDistinct, AreNodes, encodings, first_of, has, parent, payload_of_id, place_of, used, with_children, with_count}}
pub use Rattle.node_pool.specs.{Noted.{ArePlacesOf, noted, place_in}, Places.{IsBoundary, between, exchanged, moved, put_before, since, swapped, until, without}, State.{State, free_of}}
pub use Rattle.node_pool.specs.{declared.pool.Pool.TheInside.{Inside}, Unheld.{owed_behind, unheld}}
unfoldable pub use Rattle.node_pool.specs.Contents.{nodes_of}
pub use Rattle.raw_region.proofs.{Puts.{length-put, put-nil, put-put}, Slides.{length-slid}}
pub use Rattle.raw_region.specs.Bytes.{cleared, put, rotated, slid, switched}
pub use Rattle.std.proofs.Common.{Bool, FitsSigned, List, [], ap, append-nil, append_assoc, arith, cond, drop, eqb, false, get_or, get_or-set_other, get_or-set_same, leb, length, of_z, pos, refl}
pub use Rattle.std.proofs.Common.{replicate, rules, set, subst, suc, sym, take, to_z, true, unsigned_abs, zero, ℕ, ℤ, ◌%◌, ◌*◌, ◌++◌, ◌+◌, ◌-◌, ◌/◌, ◌<ℤ◌, ◌<◌, ◌==◌, ◌^◌, ◌∙◌, ◌∷◌, ◌≡◌, ◌≤◌}
pub use Rattle.std.proofs.{lemmas.Bool.{eq-eqb, eqb-false, eqb-true, le-leb, ne_eqb}, lemmas.Int.{ints, to_z-of_z, to_z_pos}, lemmas.List.{append_cancel_left, drop-drop, drop-replicate, drop_at}}
pub use Rattle.std.proofs.lemmas.List.{drop_more, length-append, length-replicate, length-set, length-take-le, replicate-append-replicate, take-append-drop, take-take, take_at}
pub use Rattle.std.proofs.Math.Nat.{div-div-eq-div-mul, mul_assoc, mul_comm, pow-suc}
pub use Rattle.std.specs.{Int.{byte_at, bytes_low_first, cast_signed, cast_unsigned, to_le_bytes, w128, w64}, Prelude.{None, Option, Some}}
pub use mir.Val.{bool_byte}
