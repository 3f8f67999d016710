-- A Number's text, typed again, is answered by itself.
use Rattle.session_laws.proofs.Shared.{◌≡◌, ◌∙◌, ℕ, List, [], ◌∷◌, true, false, Option, Some, None, refl, sym, ap, subst, Contains, HasValue, IsEasy, value, Same, face, text, Tree, names, is_undef, filled, NamedTree, values}
use Rattle.session_laws.proofs.Shared.{number_words, one_number, ShowsMeaning, HasNoMeaning, Becomes, IsAnswered, Reply, shown, stored, undefined, State, free_bytes, trees, IsReply}
use Rattle.session_laws.proofs.{HeldTrees.{displays}, MadeTrees.{made_is}, MeaningLemmas.{has_no_meaning, one_value, shows_meaning}, NumberFaces.{face_closed, face_easy, face_value, number_named}}
use Rattle.session_laws.proofs.SmallRoots.{small_number}
use Rattle.session_laws.specs.Decided.{HasSmallRoots, ShowsSmallRoots}
use Rattle.beautify.proofs.FaceTexts.{face_reads}
use Rattle.breakers.specs.State.{State as Breaker}
use Rattle.calc_algebra.specs.{Numbers.{is_number}, Reduced.{is_reduced}}
use Rattle.calc_language.proofs.ReadLaws.{one_scan}
use Rattle.calc_language.specs.{Grammar.{IsSum}, Tokens.{Scans, Token}}
use Rattle.calc_parser.proofs.Checks.{one_line}
use Rattle.calc_parser.specs.Lines.{IsLine}
use Rattle.calc_terms.proofs.SmallLaws.{nobody}
use Rattle.calc_tokens.proofs.Language.{only_tokens}
use Rattle.calc_tokens.specs.Placed.{Placed, bare}
use Rattle.calc_session.specs.Arguments.{ReadsText}
use Rattle.tree_walks.proofs.Composing.{stays_where_absent}

-- a tree without symbols is filled already
filled_closed : (vs : List NamedTree) (t : Tree) → names t ≡ [] → filled vs t ≡ t
filled_closed [] t h = refl
filled_closed (v ∷ vs) t h =
    let same = stays_where_absent v.name v.tree t (λ m. nobody v.name (subst (λ xs. Contains xs v.name) h m)) in
    ap (filled vs) same ∙ filled_closed vs t h

module _ (a : Tree) (reduced : is_reduced a ≡ true) (defined : is_undef a ≡ false) (number : is_number a ≡ true) where
  record IsRead (store : Option (List ℕ)) (t : Tree) : Type 0 where
    no_store : store ≡ None
    tree_is : t ≡ face a

  -- the text of its face reads as that alone
  reads_face : {tokens : List Placed} {store : Option (List ℕ)} {t : Tree} → ReadsText (text (face a)) tokens store t → IsRead store t
  reads_face {tokens} {store} {t} r = by (face_reads a reduced defined (number_named a number))
    where
      by : (ts : List Token) × Scans (text (face a)) ts × IsSum ts (face a) → IsRead store t
      by (ts, scans, sum) =
          let same : ts ≡ bare tokens = one_scan scans (only_tokens (text (face a)) tokens r.cut) in
          let line : IsLine (bare tokens) None (face a) = subst (λ us. IsSum us (face a)) same sum in
          let one = one_line (bare tokens) store None t (face a) r.line-is line in
          record { no_store = one.stores; tree_is = one.trees }

  -- and becomes that in each state
  becomes_face : (b : State) (u : Tree) → Becomes b (text (face a)) u → u ≡ face a
  becomes_face b u k =
      let is = (reads_face k.reads.reads.reads).tree_is in
      made_is (free_bytes b) (values b.table (trees b)) k.tree k.left u k.is_made ∙ ap (filled (values b.table (trees b))) is ∙ filled_closed (values b.table (trees b)) (face a) (face_closed a number reduced)

  same_shown : (b : State) (u : Tree) (q : ShowsMeaning b (text (face a)) u) → HasSmallRoots (face a) → HasSmallRoots u → u ≡ face a
  same_shown b u q small small' =
      let is = becomes_face b q.tree q.becomes in
      let e = q.easy (subst IsEasy (sym is) (face_easy a number reduced)) in
      let other = number_words q.answer (e.number q.defined) in
      let same : Same (value q.answer) (value a) = one_value q.tree (value q.answer) (value a) (e.value q.defined) (subst (λ t. HasValue t (value a)) (sym is) (face_value a number reduced)) in
      q.shown_is ∙ ap face (one_number q.answer a other (number_words a number) (small_number q.answer other (subst HasSmallRoots q.shown_is small')) (small_number a (number_words a number) small) same)

  never_undefined : (b : State) → HasNoMeaning b (text (face a)) → ⊥
  never_undefined b h = h.none [] tt (value a) (subst (λ t. HasValue t (value a)) (sym (becomes_face b h.tree h.becomes)) (face_value a number reduced))

shown_again : (a b : State) (line : List ℕ) (t u : Tree) (p : ShowsMeaning a line t) (q : ShowsMeaning b (text t) u) → is_number p.answer ≡ true → HasSmallRoots t → HasSmallRoots u → u ≡ t
shown_again a b line t u p q number small small' = by t p.shown_is q small
  where
    by : (t : Tree) → t ≡ face p.answer → (q : ShowsMeaning b (text t) u) → HasSmallRoots t → u ≡ t
    by t e = subst (λ x. (q : ShowsMeaning b (text x) u) → HasSmallRoots x → u ≡ x) (sym e) (λ q k. same_shown p.answer p.reduced p.defined number b u q k small')

module _ (room bits : Option (Tree → ℕ)) (a b : State) (before after : List Breaker) (line : List ℕ) (t : Tree) (p : ShowsMeaning a line t) (number : is_number p.answer ≡ true) where
  no_name : (x : List ℕ) → None ≡ Some x → ⊥
  no_name x e = cc

  pub answered_again : (reply : Reply) → IsReply room bits b before after (text t) reply → IsAnswered reply → (u : Tree) × (reply ≡ shown u)
  answered_again (shown u) h k = (u, refl)
  answered_again (stored u x) h k = absurd (stored_never u x h)
    where
      stored_never : (u : Tree) (x : List ℕ) → IsReply room bits b before after (text t) (stored u x) → ⊥
      stored_never u x h =
          let d = displays room bits before after b (text t) (Some x) u h in
          no_name x (sym (reads_face p.answer p.reduced p.defined number (subst (λ y. ReadsText (text y) d.tokens (Some x) d.tree) p.shown_is d.reads)).no_store)
  answered_again undefined h k = absurd (never_undefined p.answer p.reduced p.defined number b (subst (λ y. HasNoMeaning b (text y)) p.shown_is (has_no_meaning room bits before after b (text t) h)))
  answered_again _ h k = absurd k

  pub typed_again : (reply : Reply) → IsReply room bits b before after (text t) reply → IsAnswered reply → HasSmallRoots t → ShowsSmallRoots reply → reply ≡ shown t
  typed_again reply h k small small' = by (answered_again reply h k)
    where
      by : (u : Tree) × (reply ≡ shown u) → reply ≡ shown t
      by (u, e) =
          let q = shows_meaning room bits before after b (text t) (shown u) u (subst (IsReply room bits b before after (text t)) e h) refl in
          e ∙ ap shown (shown_again a b line t u p q number small (subst ShowsSmallRoots e small'))
