-- Lines of `:names` that are answered again.
use Rattle.session_laws.proofs.Shared.{◌≡◌, ◌∙◌, ℕ, List, [], ◌∷◌, Option, Some, refl, sym, ap, subst, arith, map, KeepsMeanings, reduced_face_means, face, Tree, IsReplyWith, IsReduction, is_answered, lacks_bytes, IsReplyToTree, is_not_made, is_made}
use Rattle.session_laws.proofs.Shared.{Reply, stored, State, free_bytes, trees, IsReply, NamedTree, filled, values, value_in, Entry, entries}
use Rattle.session_laws.proofs.{AskedLines.{valued}, MadeTrees.{made_is}}
use Rattle.calc_session.specs.Evaluations.{does_not_fit, is_interrupted}
use Rattle.session_laws.specs.StoredAgain.{IsStoredAgain}
use Rattle.breakers.specs.State.{State as Breaker}
use Rattle.calc_language.proofs.ReadLaws.{one_scan}
use Rattle.calc_language.specs.{Grammar.{IsStore}, Reads.{Stores}, Tokens.{Token}}
use Rattle.calc_parser.proofs.Checks.{one_line}
use Rattle.calc_parser.specs.Lines.{IsLine}
use Rattle.calc_tokens.proofs.Language.{only_tokens}
use Rattle.calc_tokens.specs.Placed.{bare}
use Rattle.calc_terms.proofs.SmallLaws.{behind, in_front}
use Rattle.name_table.specs.{Filling.{LacksNames}, Tables.{table_names}}
use Rattle.tree_walks.proofs.Composing.{stays_where_absent}
use Rattle.tree_walks.specs.Replacing.{replaced}
use Rattle.tree_handles.specs.Forest.{Forest}

-- names that a tree lacks are replaced in vain
filled_in_vain : (f : Forest) (es : List Entry) (t : Tree) → LacksNames (map (λ (e : Entry). e.name) es) t → filled (map (value_in f) es) t ≡ t
filled_in_vain f [] t l = refl
filled_in_vain f (e ∷ es) t l =
    let same : replaced e.name (value_in f e).tree t ≡ t = stays_where_absent e.name (value_in f e).tree t (l e.name (in_front e.name (map (λ (e : Entry). e.name) es))) in
    ap (filled (map (value_in f) es)) same ∙ filled_in_vain f es t (λ x c. l x (behind e.name x (map (λ (e : Entry). e.name) es) c))

stored_with : (answer : Tree) (store : Option (List ℕ)) (reply : Reply) (t : Tree) (x : List ℕ) → IsReplyWith answer store reply → reply ≡ stored t x → (store ≡ Some x) × (t ≡ face answer)
stored_with answer store reply t x h e = grind arith

some_same : (x y : List ℕ) → ◌≡◌ {A = Option (List ℕ)} (Some x) (Some y) → x ≡ y
some_same x y e = cc

module _ (room bits : Option (Tree → ℕ)) (old : State) (before after : List Breaker) (v : NamedTree) (lacks : LacksNames (table_names old.table) v.tree) (t : Tree) (x : List ℕ) where
  reduced_again : (free : ℕ) (u : Tree) (store : Option (List ℕ)) (reply : Reply) → u ≡ v.tree → store ≡ Some v.name → IsReduction room bits free u before after store reply → reply ≡ stored t x → IsStoredAgain v t x
  reduced_again free u store reply same named (is_interrupted h) e = absurd cc
  reduced_again free u store reply same named (does_not_fit o h) e = absurd cc
  reduced_again free u store reply same named (lacks_bytes h) e = absurd cc
  reduced_again free u store reply same named (is_answered {answer = r} c a w) e =
      let is = stored_with r store reply t x w e in
      record {
        name_is = some_same x v.name (sym is.0 ∙ named);
        meanings = subst (KeepsMeanings v.tree) (sym is.1) (subst (λ (y : Tree). KeepsMeanings y (face r)) same (record { means = λ f s n m. reduced_face_means r a.reduces.reduced f n (a.reduces.meanings.means f s n m) }));
      }

  made_again : (store : Option (List ℕ)) (tree : Tree) (reply : Reply) → tree ≡ v.tree → store ≡ Some v.name → IsReplyToTree room bits old before after store tree reply → reply ≡ stored t x → IsStoredAgain v t x
  made_again store tree reply same named (is_not_made m k) e = absurd cc
  made_again store tree reply same named (is_made {left = left} {t = u} m k) e =
      let filled_is : u ≡ filled (values old.table (trees old)) tree = made_is (free_bytes old) (values old.table (trees old)) tree left u m in
      reduced_again (free_bytes old) u store reply (filled_is ∙ ap (filled (values old.table (trees old))) same ∙ filled_in_vain (trees old) (entries old.table) v.tree lacks) named k e

  pub stored_again : (line : List ℕ) → Stores line v.tree v.name → IsReply room bits old before after line (stored t x) → IsStoredAgain v t x
  stored_again line (ts, scans, store) h =
      let read = valued room bits old before after line (stored t x) refl h in
      let tokens : bare read.tokens ≡ ts = one_scan (only_tokens line read.tokens read.reads.reads.reads.cut) scans in
      let line_is : IsLine (bare read.tokens) (Some v.name) v.tree = subst (λ (us : List Token). IsStore us v.tree v.name) (sym tokens) store in
      let same = one_line (bare read.tokens) read.store (Some v.name) read.tree v.tree read.reads.reads.reads.line-is line_is in
      made_again read.store read.tree (stored t x) same.trees same.stores read.reply_is refl
