-- The names that the proofs share.
pub use Rattle.calc_language.proofs.{LeadingRuns.{run_all, run_back, run_back_le, run_front, same_bytes-pointwise}, ReadLaws.{blank_no_token}, ReaderSound.{some_is}}
pub use Rattle.calc_language.specs.Tokens.{Mark, Scans, Token, arrow_mark, at_blank, at_end, at_token, decimals, digits_value, first_mark, if_so, is_blank, keep, leading_run, literal, marks, name}
pub use Rattle.calc_language.specs.Tokens.{or_else, rest_after, root_mark, same_bytes, token_at, token_of_word, undef_mark}
pub use Rattle.calc_terms.specs.{Fractions.{Fraction, lowest, same_lowest}, Name.{begins_with_letter, is_digit, is_letter, is_name, is_name_byte}}
pub use Rattle.calc_tokens.specs.{Placed.{Placed, bare}, Literals.{has_point, kept_before, parts_fit, scale, trimmed, unscaled}, Scanned.{AreTokensOf, BeginsNoToken, BeginsToken, IsFirstCharacter}}
pub use Rattle.calc_tokens.specs.{Scanned.{IsFirstWide, Leads, begins_blank, begins_wide, blank, nothing, place, token}, Tokens.{front_of, token_of, tokens_of}}
pub use Rattle.calc_tokens.specs.{declared.tokens.TokenFault.TheVariants.{Character, Number}, Faults.{IsFaultOf}, declared.tokens.TokenFault.{TokenFault}, declared.tokens.What.{What}}
pub use Rattle.std.proofs.{lemmas.Bool.{eqb-true, lt-ltb, ltb-true}, Common.{ap, arith, drop, inl, inr, length-append, refl, subst, sym, ◌^◌, ◌∙◌}}
pub use Rattle.std.proofs.{lemmas.List.Elements.{All-cons, All-head, All-nil, All-tail}, lemmas.List.Sums.{prefix_len-le-length}, lemmas.Slice.Eq.{bytes_eq-Decides}, lemmas.Bool.Decides.{nat_tests}}
pub use Rattle.std.proofs.{Math.Nat.{one-le-pow}, lemmas.Nat.{pow-add}}
pub use Rattle.std.specs.{Cmp.Lexicographic.{pointwise}, List.{AllPass}, Option.{is_some, option_map, option_or}, Prelude.{Bool, Err, IsOkAnd, List, MatchResult, None, Ok, Option, Result, Some, []}}
pub use Rattle.std.specs.Prelude.{codes, false, if◌then◌else◌, length, nat_eq, nat_le, nat_lt, pos, suc, take, true, ℕ, ◌&&◌, ◌*◌, ◌++◌, ◌+◌, ◌-◌, ◌<◌, ◌==◌, ◌||◌, ◌↔◌, ◌∷◌, ◌≡◌, ◌≤◌, ◌⊎◌}
pub use Rattle.std.specs.Borrow.{Bor}
