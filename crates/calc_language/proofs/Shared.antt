-- The names that the proofs share.
pub use Rattle.calc_language.specs.Grammar.{Exponent, IsSum, Joined, Power, Primary, Product, Right, Signed, SoFar, Sum, a_literal, a_name, a_root, an_undef, another_power, as_tree, first_factor}
pub use Rattle.calc_language.specs.Grammar.{first_term, joined_tree, joins, minus_exponent, minus_more, minus_right, minus_signed, minus_term, multiplied, one_power, over_factor, over_more}
pub use Rattle.calc_language.specs.Grammar.{parenthesized, plain_exponent, plain_power, plain_right, plain_signed, plus_more, plus_term, raised_power, single, summed, times_factor, times_more}
pub use Rattle.calc_language.specs.{Reads.{Reads, Stores}, Texts.{AreWritable, IsNatural, IsWritable, Place, admits, admits_signed, at_place, base, digits_before, exponent, first_of_product}}
pub use Rattle.calc_language.specs.Texts.{first_of_sum, in_parentheses, later_of_product, later_of_sum, left_of_difference, left_of_quotient, level, text, text_of_factors, text_of_product}
pub use Rattle.calc_language.specs.{Texts.{text_of_sum, text_of_terms, whole_text}, Tokens.{Scans, Token, arrow_mark, at_blank, at_end, at_token, caret_mark, decimals, digits_value, if_so, is_blank}}
pub use Rattle.calc_language.specs.Tokens.{keep, leading_run, left_mark, literal, minus_mark, name, or_else, plus_mark, right_mark, root_mark, root_sign, same_bytes, slash_mark, times_mark}
pub use Rattle.calc_language.specs.Tokens.{times_sign, token_at, token_of_word, undef_mark}
pub use Rattle.calc_terms.proofs.{SmallLaws.{append_none}, FractionFacts.{whole_numerator}}
pub use Rattle.calc_terms.specs.{Trees.{AreComplete, IsComplete, Tree, Trees, add, append, div, more, mult, neg, none, num, power, root, sub, symbol, undef}, Name.{begins_with_letter, is_digit}}
pub use Rattle.calc_terms.specs.{Name.{is_letter, is_name, is_name_byte, is_reserved}, Fractions.{lowest}}
pub use Rattle.std.proofs.{Common.{ap, append-nil, append_assoc, arith, cond, refl, subst, sym, zero-add, ◌∙◌}, lemmas.Bool.{and_from, and_parts, eqb-true, le-leb, leb-true, not-true, or_left}}
pub use Rattle.std.proofs.{lemmas.Bool.{or_parts, or_right}, lemmas.Bool.Decides.{nat_tests}, Math.Numerals.{one-add}}
pub use Rattle.std.specs.{List.{list_all, prefix_len}, Prelude.{Bool, List, None, Some, [], codes, drop, false, if◌then◌else◌, length, nat_abs, nat_eq, nat_le, not, pos, suc, take, true, zero, ℕ, ⊤}}
pub use Rattle.std.specs.{Prelude.{◌%◌, ◌&&◌, ◌++◌, ◌+◌, ◌/◌, ◌<◌, ◌==◌, ◌||◌, ◌∷◌, ◌≡◌, ◌≤◌}, Cmp.Lexicographic.{pointwise}}
pub use native.Mathlib.Nat.{suc-add}
