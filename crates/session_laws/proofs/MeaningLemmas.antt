-- What the answers to lines mean.
use Rattle.session_laws.proofs.Shared.{arith, ◌≡◌, ◌∙◌, ℕ, List, [], Option, Some, None, true, false, refl, sym, ap, subst, HasValue, IsEasy, value, KeepsMeanings, Reduces, Surd, one_meaning}
use Rattle.session_laws.proofs.Shared.{Same-trans, Evaluates, face, Tree, undef, is_undef, reduced_face_means, IsReplyWith, IsReduction, lacks_bytes, is_answered, IsReplyToTree, is_not_made, is_made}
use Rattle.session_laws.proofs.Shared.{Reply, shown, stored, undefined, State, free_bytes, IsReply, Same, number_words, one_number, Agree-Same, Becomes, HasNoMeaning, HasSmallRadicands, MeanTheSame}
use Rattle.session_laws.proofs.{Shared.{MeansNothing, ShowsMeaning}, AskedLines.{IsReplyToLine, is_value_reply, valued}}
use Rattle.breakers.specs.State.{State as Breaker}
use Rattle.calc_session.specs.Evaluations.{is_interrupted, does_not_fit}

pub nothing_meant : (t : Tree) → Reduces t undef → MeansNothing t
nothing_meant t r f a v m = r.meanings.means f a v m

-- ---- what is displayed

-- the tree that a reply displays
abbrev displayed_in : Reply → Option Tree
displayed_in (shown t) = Some t
displayed_in (stored t x) = Some t
displayed_in reply = None

displayed_value : (r : Reply) (u : Tree) → displayed_in r ≡ Some u → is_value_reply r ≡ true
displayed_value r u e = grind arith

-- a tree is the face of what another reduces to
record Displays (t u : Tree) : Type 0 where
  answer : Tree
  reduces : Reduces t answer
  easy : IsEasy t → Evaluates t answer
  defined : is_undef answer ≡ false
  face_is : u ≡ face answer

displayed_face : (answer : Tree) (store : Option (List ℕ)) (reply : Reply) (u : Tree) → IsReplyWith answer store reply → displayed_in reply ≡ Some u → (is_undef answer ≡ false) × (u ≡ face answer)
displayed_face answer store reply u h e = grind arith

module _ (room bits : Option (Tree → ℕ)) (before after : List Breaker) where
  displayed_reduced : (free : ℕ) (t : Tree) (store : Option (List ℕ)) (reply : Reply) (u : Tree) → IsReduction room bits free t before after store reply → displayed_in reply ≡ Some u → Displays t u
  displayed_reduced free t store reply u (is_interrupted h) e = cc
  displayed_reduced free t store reply u (does_not_fit o h) e = cc
  displayed_reduced free t store reply u (lacks_bytes h) e = cc
  displayed_reduced free t store reply u (is_answered {answer = r} c a w) e = record { answer = r; reduces = a.reduces; easy = a.easy; defined = (displayed_face r store reply u w e).0; face_is = (displayed_face r store reply u w e).1 }

  displayed_line : (old : State) (line : List ℕ) (reply : Reply) (u : Tree) → IsReplyToLine room bits old before after line reply → displayed_in reply ≡ Some u → (v : Tree) × Becomes old line v × Displays v u
  displayed_line old line reply u h e = by reply h.reply_is e
    where
      by : (r : Reply) → IsReplyToTree room bits old before after h.store h.tree r → displayed_in r ≡ Some u → (v : Tree) × Becomes old line v × Displays v u
      by r (is_not_made m same) e = absurd cc
      by r (is_made {left = left} {t = v} m k) e = (v, record { tokens = h.tokens; store = h.store; tree = h.tree; reads = h.reads; left = left; is_made = m }, displayed_reduced (free_bytes old) v h.store r u k e)

  pub shows_meaning : (old : State) (line : List ℕ) (reply : Reply) (u : Tree) → IsReply room bits old before after line reply → displayed_in reply ≡ Some u → ShowsMeaning old line u
  shows_meaning old line reply u h e = meant (displayed_line old line reply u (valued room bits old before after line reply (displayed_value reply u e) h) e)
    where
      meant : (t : Tree) × Becomes old line t × Displays t u → ShowsMeaning old line u
      meant (t, b, d) = record {
        tree = t;
        becomes = b;
        answer = d.answer;
        reduced = d.reduces.reduced;
        meanings = d.reduces.meanings;
        defined = d.defined;
        easy = d.easy;
        shown_is = d.face_is;
        shown_meanings = subst (KeepsMeanings t) (sym d.face_is) (record { means = λ f a v m. reduced_face_means d.answer d.reduces.reduced f v (d.reduces.meanings.means f a v m) });
      }

  -- ---- what is undefined

  undefined_with : (answer : Tree) (store : Option (List ℕ)) (reply : Reply) → IsReplyWith answer store reply → reply ≡ undefined → answer ≡ undef
  undefined_with answer store reply h e = grind arith

  undefined_reduced : (free : ℕ) (t : Tree) (store : Option (List ℕ)) (reply : Reply) → IsReduction room bits free t before after store reply → reply ≡ undefined → MeansNothing t
  undefined_reduced free t store reply h e = grind (arith, nothing_meant, undefined_with)

  undefined_line : (old : State) (line : List ℕ) (reply : Reply) → IsReplyToLine room bits old before after line reply → reply ≡ undefined → HasNoMeaning old line
  undefined_line old line reply h e = by reply h.reply_is e
    where
      by : (r : Reply) → IsReplyToTree room bits old before after h.store h.tree r → r ≡ undefined → HasNoMeaning old line
      by r (is_not_made m same) e = absurd cc
      by r (is_made {left = left} {t = v} m k) e = record { tree = v; becomes = record { tokens = h.tokens; store = h.store; tree = h.tree; reads = h.reads; left = left; is_made = m }; none = undefined_reduced (free_bytes old) v h.store r k e }

  pub has_no_meaning : (old : State) (line : List ℕ) → IsReply room bits old before after line undefined → HasNoMeaning old line
  has_no_meaning old line h = undefined_line old line undefined (valued room bits old before after line undefined refl h) refl

-- ---- two lines with one value

pub one_value : (t : Tree) (v w : Surd) → HasValue t v → HasValue t w → Same v w
one_value t v w h k = Agree-Same (one_meaning [] tt t v w h k)

pub shown_alike : (a b : State) (line other : List ℕ) (t u : Tree) (p : ShowsMeaning a line t) (q : ShowsMeaning b other u) → IsEasy p.tree → IsEasy q.tree → MeanTheSame p.tree q.tree → HasSmallRadicands p.answer → HasSmallRadicands q.answer → t ≡ u
shown_alike a b line other t u p q easy easy' (v, m, n) small small' =
    let e = p.easy easy in
    let f = q.easy easy' in
    let same : Same (value p.answer) (value q.answer)
    = Same-trans (one_value p.tree (value p.answer) v (e.value p.defined) m) (one_value q.tree v (value q.answer) n (f.value q.defined)) in
    p.shown_is ∙ ap face (one_number p.answer q.answer (number_words p.answer (e.number p.defined)) (number_words q.answer (f.number q.defined)) small small' same) ∙ sym q.shown_is
