-- The names that the proofs share.
pub use Rattle.arrayvec.specs.ArrayVec.{array_vec_len}
pub use Rattle.calc_language.proofs.{ReadLaws.{one_sum_tree}, ReaderComplete.{joins_before}}
pub use Rattle.calc_language.specs.Grammar.{Exponent, IsSum, Joined, Power, Primary, Product, Right, Signed, SoFar, Sum, a_literal, a_name, a_root, an_undef, another_power, as_tree, first_factor}
pub use Rattle.calc_language.specs.Grammar.{first_term, joined_tree, joins, minus_exponent, minus_more, minus_right, minus_signed, minus_term, multiplied, one_power, over_factor, over_more}
pub use Rattle.calc_language.specs.Grammar.{parenthesized, plain_exponent, plain_power, plain_right, plain_signed, plus_more, plus_term, raised_power, single, summed, times_factor, times_more}
pub use Rattle.calc_language.specs.Tokens.{Token, arrow_mark, caret_mark, left_mark, literal, minus_mark, name, plus_mark, right_mark, root_mark, slash_mark, times_mark, undef_mark}
pub use Rattle.calc_parser.specs.Automaton.{Ended, State, at_operand, at_operator, at_parenthesis, begin_operand, complete, completed, end_factor, end_part, end_power, end_powers, end_product}
pub use Rattle.calc_parser.specs.Automaton.{end_term, ended, gathered, join_power, leave_parentheses, minus_in, place_in, start, state, sum_nodes, take_place, then_run, weight, weight_of, when_closed}
pub use Rattle.calc_parser.specs.{declared.checking.ParseFault.{ParseFault}, declared.nesting.Open.{Open}, declared.postfix.Step.{Step}, declared.postfix.Step.TheVariants.{Leaf}}
pub use Rattle.calc_parser.specs.{declared.reader.Expects.{Expects}, Building.{building, bytes_of_node, placing}, Depths.{deepest, with_node, with_nodes}}
pub use Rattle.calc_parser.specs.{Growing.{Grows, children_in, takes_children, tree_over}, Lines.{IsLine, IsLineOver, IsNoLine, IsTreeOf}, Outcomes.{IsFaultOf, IsShallow}}
pub use Rattle.calc_parser.specs.{Postfix.{Node, leaf, parent, postfix, postfixes}, Reader.{IsStep, innermost, innermost_completed, innermost_place, node_of, nodes_in, open_in, outer, room_in}}
pub use Rattle.calc_parser.specs.{Reader.{state_in, steps_in, token_in, tokens_in}, Stores.{IsSplit, stored}, declared.checking.ParseFault.TheVariants.{Deep, Syntax}}
pub use Rattle.calc_parser.specs.{declared.reader.Expects.TheVariants.{Operand, Operator, Parenthesis}, Steps.{AreStepsOf}, Refused.{IsLineFaultOf}, declared.parser.LineFault.{LineFault}}
pub use Rattle.calc_parser.specs.{declared.reader.NoSum.{NoSum}, declared.postfix.Postfix.{Postfix}, declared.reader.Reader.{Reader}}
unfoldable pub use Rattle.calc_parser.specs.Automaton.{finish, run, step}
pub use Rattle.calc_terms.proofs.SmallLaws.{append_none as append-none}
pub use Rattle.calc_terms.specs.{Leaf.{name_of}, declared.kind.Kind.{Kind}, declared.name.Name.{Name}, Payload.{Payload, named, rational, size_of_payload}, Trees.{Tree, Trees, add, append, count}}
pub use Rattle.calc_terms.specs.Trees.{depth, depths, div, more, mult, neg, none, num, power, root, root_size, size, sizes, sub, symbol, undef}
pub use Rattle.calc_tokens.proofs.{OneScan.{character_or_all, character_or_wide, one_character, one_list, one_wide, wide_or_all}, Outcomes.{fault_found}}
pub use Rattle.calc_tokens.specs.{declared.tokens.What.{What}, Placed.{Placed, bare}, Tokens.{placed, token_of, tokens_of}, Scanned.{AreTokensOf}, declared.tokens.TokenFault.{TokenFault}}
pub use Rattle.node_pool.specs.{State.{free_of}, declared.full.Full.{Full}}
pub use Rattle.std.proofs.Common.{add-one, ap, append-nil, append_assoc, arith, drop-cons, get_or, leb, length-append, refl, rules, subst, sym, ◌∙◌}
pub use Rattle.std.proofs.{lemmas.Bool.{le-leb, leb-false, leb-true, lt-leb}, lemmas.List.{drop_all, get_or-append_right, get_or_append_left, get_or-map, length-take, map-append}}
pub use Rattle.std.proofs.Math.Seq.{take-append_seam}
pub use Rattle.std.specs.{List.{slice_get}, Option.{option_map}, Prelude.{Bool, Err, IfErr, IfOk, IsOk, IsSome, List, MatchOption, MatchResult, None, Ok, OnErr, OnOk, Option, Result, Some, [], drop}}
pub use Rattle.std.specs.Prelude.{false, if◌then◌else◌, length, map, suc, take, true, unwrap_or, ℕ, ◌++◌, ◌+◌, ◌-◌, ◌<◌, ◌↔◌, ◌∷◌, ◌≡◌, ◌≤◌, ◌⊎◌}
pub use Rattle.tree_handles.proofs.{Gathering.{arity-last_trees, before-last, before_last-join, before_none, last_none, last_trees-join}, Lasts.{ends_as}, Outcomes.{by_test}, Given.{gives, gives_as}}
pub use Rattle.tree_handles.proofs.{Given.{represents_as, represents_join, represents_node, represents_none}, Places.{free_forest, used_forest}, Forests.{all-first_trees, all-rest_trees, arity-join}}
pub use Rattle.tree_handles.proofs.{Forests.{bytes_in-join, join-empty, join_assoc, keeps_after, refuses_after}, Plains.{count-plains, plains-join}, Fronts.{front_at, starts_join, starts_same}}
pub use Rattle.tree_handles.specs.{Forest.{Forest, arity, before_last, bytes_in, empty, join, last_trees, one_tree, tree}, Handed.{Ends, Gives, IsOnce, KeepsFront, Represents}, Standing.{IsRefused}}
pub use Rattle.tree_handles.specs.{Standing.{KeepsRefusals, LacksBytes, Refuses, Stands, forest}, Expressions.{IsWhole, plains, takes}}
