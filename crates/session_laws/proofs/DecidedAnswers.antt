-- Answers that depend on nothing but what the line becomes.
use Rattle.session_laws.proofs.Shared.{Evaluates, IsAnswered, by_test, number_words, one_number}
use Rattle.session_laws.proofs.{MeaningLemmas.{one_value}, SmallRoots.{small_number}}
use Rattle.session_laws.specs.Decided.{ShowsSmallRoots}
use Rattle.calc_algebra.proofs.ReducedLaws.{undef_words as undef_is}
use Rattle.session_laws.proofs.Shared.{both_ways, ◌≡◌, ◌∙◌, ℕ, List, codes, Bool, true, false, Option, Some, None, Result, Ok, Err, refl, sym, ap, subst, AllZip, IsCommandLine, solve, Tree, undef, is_undef, Equation, face, text}
use Rattle.session_laws.proofs.Shared.{Filling, lacks, too_deep, fills, values, bytes_before, all_placed, Full, Reply, Reason, report, refused, AreNamesOf, solution_text, AsksToSolve, IsReplyToEquations, are_read, IsReplyToRead, are_made, IsReplyToSolve, are_linear}
use Rattle.session_laws.proofs.Shared.{IsSolution, is_told, ReadsEquation, State, free_bytes, trees, IsReply, names_once, split_once, IsReplyToTree, is_not_made, is_made, made_in, Unmade, IsReduction, lacks_bytes, is_answered, IsReplyWith, has_no_value}
use Rattle.session_laws.proofs.Shared.{holds_its_name, is_shown, is_stored, ReadsFilled, HasSmallRadicands, IsEasy, value}
unfoldable use Rattle.linear_solve.specs.Solving.{solving}
use Rattle.session_laws.proofs.{AskedLines.{commanded_report}, EnoughLemmas.{evaluated, of_filled}, OneReading.{become_once, read_once}}
use Rattle.session_laws.specs.Decided.{HasPlainValue, IsSettled, last_answer}
use Rattle.breakers.specs.State.{State as Breaker}
use Rattle.calc_commands.specs.Commands.{layout as asks_layout}
use Rattle.calc_measures.specs.{PlainTrees.{IsPlainAnswer, IsPlainOverflow}, PlainValues.{PlainValue, plain_value}}
use Rattle.calc_measures.specs.PlainValues as plain
use Rattle.calc_session.specs.{Commanding.{layout_reply}, Drawing.{rows_in, rows_text, serial_in}, Replies.{overflow, reason_text, text_of}}
use Rattle.calc_session.specs.Evaluations as evaluations
use Rattle.calc_session.specs.Solving as solving_replies
use Rattle.calc_terms.specs.{Fractions.{Fraction}, Rat.{value_of}, Trees.{num}}
use Rattle.linear_solve.specs.Forms.{Answer}
use Rattle.rational128.specs.{Refusals.{operation_of}, declared.overflow.Overflow.{Overflow}}
use Rattle.pool_layouts.specs.{Layouts.{layout}, Serial.{serial}}

-- ---- plain values

-- what is printed where this is the plain value
abbrev pub plain_text : PlainValue → Option (List ℕ)
plain_text (plain.exactly q) = Some (text (face (num q)))
plain_text plain.undefined = Some (codes "undef")
plain_text (plain.overflow op a b) = Some (reason_text (overflow op a b))
plain_text plain.nothing = None

undef_or_not : (t u : Tree) (b : Bool) → t ≡ u → is_undef u ≡ b → is_undef t ≡ b
undef_or_not t u b e f = ap is_undef e ∙ f

settled_rational : (answer : Tree) (store : Option (List ℕ)) (reply : Reply) (q : Fraction) → answer ≡ num q → IsReplyWith answer store reply → IsSettled reply → text_of reply ≡ Some (text (face (num q)))
unfolding text_of
settled_rational answer store reply q e (has_no_value d) s = absurd (both_ways (is_undef answer) (undef_or_not answer (num q) false e refl) d)
settled_rational answer store reply q e (holds_its_name d m) s = absurd s
settled_rational answer store reply q e (is_shown d) s = ap (λ t. Some (text (face t))) e
settled_rational answer store reply q e (is_stored d m) s = ap (λ t. Some (text (face t))) e

settled_undefined : (answer : Tree) (store : Option (List ℕ)) (reply : Reply) → answer ≡ undef → IsReplyWith answer store reply → IsSettled reply → text_of reply ≡ Some (codes "undef")
unfolding text_of
settled_undefined answer store reply e (has_no_value d) s = refl
settled_undefined answer store reply e (holds_its_name d m) s = absurd s
settled_undefined answer store reply e (is_shown d) s = absurd (both_ways (is_undef answer) d (undef_or_not answer undef true e refl))
settled_undefined answer store reply e (is_stored d m) s = absurd (both_ways (is_undef answer) d (undef_or_not answer undef true e refl))

settled_answer : (answer : Tree) (store : Option (List ℕ)) (reply : Reply) (p : PlainValue) → (p ≡ plain.nothing → ⊥) → IsPlainAnswer p answer → IsReplyWith answer store reply → IsSettled reply → text_of reply ≡ plain_text p
settled_answer answer store reply (plain.exactly q) n e w s = settled_rational answer store reply q e w s
settled_answer answer store reply plain.undefined n e w s = settled_undefined answer store reply e w s
settled_answer answer store reply (plain.overflow op a b) n e w s = absurd e
settled_answer answer store reply plain.nothing n e w s = absurd (n refl)

settled_overflow : (p : PlainValue) (o : Overflow) → (p ≡ plain.nothing → ⊥) → IsPlainOverflow p o → text_of (refused (overflow (operation_of o.op) (value_of o.a) (value_of o.b))) ≡ plain_text p
unfolding text_of
settled_overflow (plain.exactly q) o n e = absurd e
settled_overflow plain.undefined o n e = absurd e
settled_overflow (plain.overflow op a b) o n (e, f, g) = (λ i. Some (reason_text (overflow (e i) (f i) (g i))))
settled_overflow plain.nothing o n e = absurd (n refl)

unmade_unsettled : (making : Filling) (reason : Reason) → Unmade making reason → IsSettled (refused reason) → ⊥
unmade_unsettled (lacks f) reason u s = subst (λ r. IsSettled (refused r)) u s
unmade_unsettled too_deep reason u s = subst (λ r. IsSettled (refused r)) u s
unmade_unsettled (fills left w) reason u s = u

module _ (room bits : Option (Tree → ℕ)) (old : State) (before after : List Breaker) (line : List ℕ) (store : Option (List ℕ)) (t : Tree) (reads : ReadsFilled old line store t) (known : HasPlainValue t) where
  settled_reduced : (reply : Reply) → IsReduction room bits (free_bytes old) t before after store reply → IsSettled reply → text_of reply ≡ plain_text (plain_value t)
  settled_reduced reply (evaluations.is_interrupted h) s = absurd s
  settled_reduced reply (evaluations.does_not_fit o h) s = settled_overflow (plain_value t) o known h.plain
  settled_reduced reply (lacks_bytes h) s = absurd s
  settled_reduced reply (is_answered {answer = r} c a w) s = settled_answer r store reply (plain_value t) known a.plain w s

  settled_tree : (reply : Reply) → IsReplyToTree room bits old before after store reads.tree reply → IsSettled reply → text_of reply ≡ plain_text (plain_value t)
  settled_tree reply (is_not_made m same) s = absurd (unmade_unsettled (made_in old reads.tree) _ m s)
  settled_tree reply (is_made {left = left} {t = u} m r) s = settled_reduced reply (of_filled room bits old before after line store t reads left u m r) s

  pub settled_text : (reply : Reply) → IsReply room bits old before after line reply → IsSettled reply → text_of reply ≡ plain_text (plain_value t)
  settled_text reply h s = settled_tree reply (evaluated room bits old before after line store t reads reply h) s

-- ---- values that are known

-- one answer evaluates a tree
one_answer : (t a b : Tree) → Evaluates t a → Evaluates t b → (is_undef a ≡ false → HasSmallRadicands a) → (is_undef b ≡ false → HasSmallRadicands b) → a ≡ b
one_answer t a b e f small small' =
    by_test (λ c. is_undef a ≡ c → a ≡ b) (is_undef a)
    (λ p q. let is : a ≡ undef = undef_is a q in is ∙ sym (f.undefined.1 (e.undefined.0 is)))
    (λ p q. by_test (λ c. is_undef b ≡ c → a ≡ b) (is_undef b)
    (λ r s. let is : b ≡ undef = undef_is b s in e.undefined.1 (f.undefined.0 is) ∙ sym is)
    (λ r s. one_number a b (number_words a (e.number q)) (number_words b (f.number s)) (small q) (small' s) (one_value t (value a) (value b) (e.value q) (f.value s)))
    refl)
    refl

-- a tree is answered so: what is printed is the text of the answer's face
record AnsweredBy (t : Tree) (reply : Reply) : Type 0 where
  answer : Tree
  evaluates : Evaluates t answer
  printed : text_of reply ≡ Some (text (face answer))
  small : ShowsSmallRoots reply → is_undef answer ≡ false → HasSmallRadicands answer

answered_with : (t answer : Tree) (store : Option (List ℕ)) (reply : Reply) → Evaluates t answer → IsReplyWith answer store reply → IsAnswered reply → AnsweredBy t reply
unfolding text_of
answered_with t answer store reply e (has_no_value d) s = record { answer = answer; evaluates = e; printed = ap (λ u. Some (text (face u))) (sym (undef_is answer d)); small = λ k n. absurd (both_ways (is_undef answer) n d) }
answered_with t answer store reply e (holds_its_name d m) s = absurd s
answered_with t answer store reply e (is_shown d) s = record { answer = answer; evaluates = e; printed = refl; small = λ k n. small_number answer (number_words answer (e.number n)) k }
answered_with t answer store reply e (is_stored d m) s = record { answer = answer; evaluates = e; printed = refl; small = λ k n. small_number answer (number_words answer (e.number n)) k }

module _ (room bits : Option (Tree → ℕ)) (old : State) (before after : List Breaker) (line : List ℕ) (store : Option (List ℕ)) (t : Tree) (reads : ReadsFilled old line store t) (easy : IsEasy t) where
  answered_reduced : (reply : Reply) → IsReduction room bits (free_bytes old) t before after store reply → IsAnswered reply → AnsweredBy t reply
  answered_reduced reply (evaluations.is_interrupted h) s = absurd s
  answered_reduced reply (evaluations.does_not_fit o h) s = absurd s
  answered_reduced reply (lacks_bytes h) s = absurd s
  answered_reduced reply (is_answered {answer = r} c a w) s = answered_with t r store reply (a.easy easy) w s

  answered_tree : (reply : Reply) → IsReplyToTree room bits old before after store reads.tree reply → IsAnswered reply → AnsweredBy t reply
  answered_tree reply (is_not_made m same) s = absurd s
  answered_tree reply (is_made {left = left} {t = u} m r) s = answered_reduced reply (of_filled room bits old before after line store t reads left u m r) s

  answered_line : (reply : Reply) → IsReply room bits old before after line reply → IsAnswered reply → AnsweredBy t reply
  answered_line reply h s = answered_tree reply (evaluated room bits old before after line store t reads reply h) s

pub one_text_of : (room bits : Option (Tree → ℕ)) (a b : State) (before after first last : List Breaker) (line other : List ℕ) (store name : Option (List ℕ)) (t : Tree) (reply also : Reply)
    → ReadsFilled a line store t → ReadsFilled b other name t → IsEasy t → IsReply room bits a before after line reply → IsReply room bits b first last other also
    → IsAnswered reply → IsAnswered also → ShowsSmallRoots reply → ShowsSmallRoots also → text_of reply ≡ text_of also
one_text_of room bits a b before after first last line other store name t reply also reads reads' easy h k s s' small small' =
    let p = answered_line room bits a before after line store t reads easy reply h s in
    let q = answered_line room bits b first last other name t reads' easy also k s' in
    p.printed ∙ ap (λ u. Some (text (face u))) (one_answer t p.answer q.answer p.evaluates q.evaluates (p.small small) (q.small small')) ∙ sym q.printed

-- ---- solutions

pub record AreTold (es : List Equation) (told : List ℕ) : Type 0 where
  pub names : List (List ℕ)
  pub are_names : AreNamesOf es names
  pub answer : Answer
  pub solved : solving names es ≡ Ok answer
  pub told_is : told ≡ solution_text names answer

report_is : (x y : List ℕ) → report x ≡ report y → y ≡ x
report_is x y e = cc

told_solution : (free : ℕ) (xs : List (List ℕ)) (es : List Equation) (before after : List Breaker) (reply : Reply) (told : List ℕ) → AreNamesOf es xs → IsSolution free xs es before after reply → reply ≡ report told → AreTold es told
told_solution free xs es before after reply told n (solving_replies.is_interrupted t) e = absurd cc
told_solution free xs es before after reply told n (solving_replies.does_not_fit f c) e = absurd cc
told_solution free xs es before after reply told n (solving_replies.lacks_bytes f c l short) e = absurd cc
told_solution free xs es before after reply told n (is_told {answer} f c) e = record { names = xs; are_names = n; answer = answer; solved = f; told_is = report_is (solution_text xs answer) told e }

module _ (room bits : Option (Tree → ℕ)) (old : State) (before after : List Breaker) (line : List ℕ) {es : List Equation} (a : AsksToSolve old line es) where
  from_solve : (built : List Equation) (told : List ℕ) → IsReplyToSolve (free_bytes old) built before after (report told) → AreTold built told
  from_solve built told (are_linear {xs = xs} n l f h) = told_solution (free_bytes old) xs built before after (report told) told n h refl

  from_read : (told : List ℕ) → IsReplyToRead (values old.table (trees old)) (free_bytes old) a.read before after (report told) → AreTold es told
  from_read told (are_made {built = built} {left = left} become h) =
      subst (λ fs. AreTold fs told) (become_once (values old.table (trees old)) (free_bytes old) left a.left a.read built es become a.become) (from_solve built told h)

  from_equations : (told : List ℕ) → IsReplyToEquations old before after (bytes_before line a.text) a.text (report told) → AreTold es told
  from_equations told (are_read {es = others} {read = read} s l r h) =
      let there = subst (λ ws. AllZip ReadsEquation (all_placed (bytes_before line a.text) ws) read) (split_once s a.splits) r in
      from_read told (subst (λ fs. IsReplyToRead (values old.table (trees old)) (free_bytes old) fs before after (report told)) (read_once (all_placed (bytes_before line a.text) a.written) read a.read there a.reads) h)

  pub are_told : (told : List ℕ) → IsReply room bits old before after line (report told) → AreTold es told
  are_told told h = from_equations told (commanded_report room bits old before after line (solve a.text) refl a.asks told h)

answers_are : (E : Type 0) (r : Result Answer E) (x y : Answer) → r ≡ Ok x → r ≡ Ok y → x ≡ y
answers_are E r x y e f = let g : ◌≡◌ {A = Result Answer E} (Ok x) (Ok y) = sym e ∙ f in cc

pub told_once : (es : List Equation) (told also : List ℕ) → AreTold es told → AreTold es also → told ≡ also
told_once es told also h k =
    let names : h.names ≡ k.names = names_once h.are_names k.are_names in
    let answer : h.answer ≡ k.answer = answers_are _ (solving k.names es) h.answer k.answer (subst (λ xs. solving xs es ≡ Ok h.answer) names h.solved) k.solved in
    h.told_is ∙ ap (λ xs. solution_text xs h.answer) names ∙ ap (solution_text k.names) answer ∙ sym k.told_is

-- ---- layouts and pictures

told_is : (r : Result ℕ Full) (z x : List ℕ) → (let m : Result (List ℕ) Full = elim r [ Ok left ↦ Ok z | Err full ↦ Err full ] in m) ≡ Ok x → x ≡ z
told_is (Ok left) z x e = cc
told_is (Err full) z x e = absurd cc

serial_is : (s : State) (x : List ℕ) → serial_in s ≡ Ok x → x ≡ serial (layout (last_answer s))
serial_is s x e = told_is _ (serial (layout (last_answer s))) x e

rows_are : (s : State) (x : List ℕ) → rows_in s ≡ Ok x → x ≡ rows_text (layout (last_answer s))
rows_are s x e = told_is _ (rows_text (layout (last_answer s))) x e

pub one_picture : (a b : State) (rows others : List ℕ) → last_answer a ≡ last_answer b → rows_in a ≡ Ok rows → rows_in b ≡ Ok others → rows ≡ others
one_picture a b rows others same e f = rows_are a rows e ∙ ap (λ t. rows_text (layout t)) same ∙ sym (rows_are b others f)

told_layout : (r : Result (List ℕ) Full) (told : List ℕ) → report told ≡ layout_reply r → r ≡ Ok told
told_layout (Ok x) told e = ap Ok (report_is told x e)
told_layout (Err full) told e = absurd cc

module _ (room bits : Option (Tree → ℕ)) where
  layout_told : (old : State) (before after : List Breaker) (line told : List ℕ) → IsCommandLine line asks_layout → IsReply room bits old before after line (report told) → serial_in old ≡ Ok told
  layout_told old before after line told asked h = told_layout (serial_in old) told (commanded_report room bits old before after line asks_layout refl asked told h).0

  pub one_layout : (a b : State) (before after first last : List Breaker) (line other told also : List ℕ) → IsCommandLine line asks_layout → IsCommandLine other asks_layout → last_answer a ≡ last_answer b
      → IsReply room bits a before after line (report told) → IsReply room bits b first last other (report also) → told ≡ also
  one_layout a b before after first last line other told also asked asked' same h k =
      serial_is a told (layout_told a before after line told asked h) ∙ ap (λ t. serial (layout t)) same ∙ sym (serial_is b also (layout_told b first last other also asked' k))
