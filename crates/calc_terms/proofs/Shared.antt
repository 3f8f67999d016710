-- The names of other crates that the proofs share.
pub use Rattle.calc_terms.specs.{FractionLaws.{negative_lowest, one_times, plus_negative, times_assoc, times_comm, times_plus, zero_plus}, Fractions.{Fraction, Holds, den_pos, held, is_lowest}}
pub use Rattle.calc_terms.specs.Fractions.{is_one_fraction, is_zero_fraction, lowest_cross, lowest_parts, negative, plus, plus_assoc, plus_comm, plus_lowest, same_fraction, same_lowest, times}
pub use Rattle.calc_terms.specs.{Fractions.{times_lowest}, Gcd.{gcd_is, gcd_step, gcd_zero}, Integers.{cancel_pos, combine, diffs, eq_diff, int_is_one, int_is_zero, parts}}
pub use Rattle.calc_terms.specs.{Kind.{code_of, size_by_form}, Leaf.{IsUsable, payload_of}, Name.{HoldsName, IsName, before_zero, begins_with_letter, is_name, is_name_byte, is_reserved, padded}}
pub use Rattle.calc_terms.specs.Node.{IsNode, Node, form_of, from_bytes, header_of, kind_or_undef, number_at, number_bytes, payload_at, payload_bytes, ratio_at, ratio_bytes, size_of}
pub use Rattle.calc_terms.specs.{Payload.{IsPayload, Payload, bare, has_short_form, is_bare, kind_of_payload, named, rational, size_of_payload}, Rat.{ratio_of, value_of}}
pub use Rattle.calc_terms.specs.{Ratio.{IsRat, IsReduced, Ratio, whole, with_sign}, Short.{is_short_int}, Trees.{HasTwo, Tree, Trees, append, count, has_short_root, more, nodes, none, num, root_kind}}
pub use Rattle.calc_terms.specs.{Trees.{root_size, size, sizes, whole_num}, declared.kind.Kind.{Kind}, declared.kind.Kind.TheVariants.{Add, Div, Minus, Mult, Neg, Num, Paren, Plus, Pow, Radical}}
pub use Rattle.calc_terms.specs.{declared.kind.Kind.TheVariants.{Raised, Root, Row, Sub, Sym, Times, Undef}, declared.leaf.Header.{Header}, declared.leaf.Leaf.{Leaf}, declared.rat.Rat.{Rat}}
unfoldable pub use Rattle.calc_terms.specs.{Fractions.{lowest, one_fraction, zero_fraction}, Gcd.{gcd}, Kind.{kind_of}, Node.{encoding, header_bytes, header_in, kind_at, low_bytes, node_at, short_at}}
unfoldable pub use Rattle.calc_terms.specs.Short.{is_short}
pub use Rattle.std.proofs.Common.{Bool, FitsSigned, IfSome, IsTrue, List, None, Option, Result, Some, [], ap, append_assoc, arith, codes, cond, drop, eqb, false, int_le, int_lt, length, lit<, ltb}
pub use Rattle.std.proofs.Common.{nat_abs, nat_eq, nat_le, nat_lt, neg_ℤ, negsuc, not, of_z, pos, refl, replicate, rules, subst, suc, sym, take, to_z, true, unsigned_abs, zero, ℕ, ℤ, ◌&&◌, ◌*ℤ◌, ◌*◌}
pub use Rattle.std.proofs.{Common.{◌++◌, ◌+◌, ◌-◌, ◌/◌, ◌<ℤ◌, ◌<◌, ◌==◌, ◌^◌, ◌||◌, ◌↔◌, ◌∙◌, ◌∷◌, ◌≡◌, ◌≢◌, ◌≤◌}, Math.Nat.{dvd_of_mul-dvd-mul_left, mul-div_cancel', mul-dvd-mul_left, one-dvd}}
pub use Rattle.std.proofs.{Math.Nat.{pos_of_dvd_of_pos, pow-le-pow_right}, lemmas.Bool.{and_from, and_parts, eq-eqb, eqb-true, false_from_ne_true, le-leb, le-ltb, leb-true, lt-ltb, ne_eqb}}
pub use Rattle.std.proofs.{lemmas.Int.{fits_signed_from_abs, ints, to_z-of_z, to_z_pos}, lemmas.List.{append-nil, drop-replicate, drop_at, length-append, length-replicate, take_at}}
pub use Rattle.std.proofs.{lemmas.List.Sums.{AllPass-from_list_all, list_all-from_AllPass}, lemmas.Nat.Gcd.{IsGcd-from_mod, IsGcd-from_zero, same_from_IsGcd}, lemmas.Slice.Eq.{bytes_eq-Decides}}
pub use Rattle.std.proofs.lemmas.Nat.{mul-le}
pub use Rattle.std.specs.{Cmp.Lexicographic.{pointwise}, Int.{IsGcd, cast_signed, cast_unsigned, w128, w64, ◌∣◌}, List.{list_all}, Prelude.{Contains, IfErr, IfOk, IsErr, IsErrAnd, ◌⊎◌}}
pub use Rattle.std.specs.{declared.cmp.Ordering.TheVariants.{Equal, Less}, declared.cmp.Ordering.{Ordering}, Ordering.{is_eq, is_lt, ordering_reverse, ordering_then}}
