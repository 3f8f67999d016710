-- Numbers among children that are taken out, one after another, and joined.
use Rattle.like_children.proofs.Shared.{Result, IfOk, ℕ, zero, suc, ◌+◌, ◌<◌, ◌≤◌, ◌≡◌, [], ◌∷◌, eqb, true, false, refl, sym, ap, ◌∙◌, subst, arith, is_number, value, Tree, Trees, none, more, append}
use Rattle.like_children.proofs.Shared.{count, size, sizes, AllParts, AllPartsOf, IsSumOrProduct, LeavesChildren, IsJoint, AreJoined, IsNextOf, numbers_in, others_in, IsNextNumber, NoNumberBetween}
use Rattle.like_children.proofs.Shared.{State, free_of, IsNumberOf, removed, Overflow, nth, plain, children_of, Forest, bytes_in, kids, tree_nth, without_nth, tree_of, IsHanded, Ends, Gives}
use Rattle.like_children.proofs.Shared.{KeepsFront, has_root, root_tree, without_root, put, Stands, forest, KeepsRefusals, NumberFault, behind_first, behind_later, behind_new, front_same, front_end}
use Rattle.like_children.proofs.Shared.{front_put, front_without, front_after_two, gives_as, given_apart, given_handed, given_other, given_rest, given_same, given_told, given_without, handed_by_put}
use Rattle.like_children.proofs.Shared.{last_tree, other_apart, eqb-sym, root-put, tree-put, tree-without, without-put, put-put, put-same, Surd, HasFewBits, IsNoLarger, all_bytes}
use Rattle.like_children.proofs.{Folds.{no_numbers}, Kids.{sizes_taken}, Many.{IsMany, IsOut, out, many, many_end, many_put, put_bytes}, NumbersIn.{others_removed, numbers_removed, no_numbers_none}}
use Rattle.like_children.proofs.NumbersIn.{no_numbers_others, append_one, append_none}
use Rattle.tree_handles.proofs.FreeBytes.{beside_bytes as handed_bytes}

pub parts_taken : (P : Tree → Type 0) (n : ℕ) (ts : Trees) → n < count ts → AllPartsOf P ts → AllParts P (nth n ts) × AllPartsOf P (removed n ts)
parts_taken P n none l h = absurd (omega arith)
parts_taken P zero (more t ts) l h = (h.0, h.1)
parts_taken P (suc n) (more t ts) l h = let k = parts_taken P n ts (omega arith) h.1 in (k.0, (h.0, k.1))

-- what a call on two Numbers answers
pub joint_given : (both : Surd → Surd → Surd) (a b : Tree) (g : Forest) (s : State) (r : Result ℕ NumberFault) → IfOk r (λ h. Gives g (forest s) h (IsNumberOf (both (value a) (value b))))
    → IfOk r (λ h. IsNoLarger (both (value a) (value b)) (value (tree_of h s)))
    → IfOk r (λ h. Gives g (forest s) h (IsJoint both a b))
joint_given both a b g s r k m = grind (arith, last_tree)

-- ---- the Numbers so far

pub record IsSoFar (both : Surd → Surd → Surd) (n : Tree) (ts us : Trees) (d : Tree) : Type 0 where
  pub number : is_number d ≡ true
  pub first : Trees
  pub is : numbers_in ts ≡ append first (numbers_in us)
  pub joined : AreJoined both n first d
  pub others : others_in us ≡ others_in ts
  pub fewer : sizes us ≤ sizes ts

pub none_so_far : (both : Surd → Surd → Surd) (n : Tree) (ts : Trees) → is_number n ≡ true → IsSoFar both n ts ts n
none_so_far both n ts h = record { number = h; first = none; is = refl; joined = refl; others = refl; fewer = omega arith }

joined_more : (both : Surd → Surd → Surd) (n : Tree) (first : Trees) (d x e : Tree) → AreJoined both n first d → IsJoint both d x e → AreJoined both n (append first (more x none)) e
joined_more both n none d x e h j = (e, subst (λ (y : Tree). IsJoint both y x e) h j, refl)
joined_more both n (more y first) d x e h j = (h.0, h.1, joined_more both h.0 first d x e h.2 j)

pub one_more : (both : Surd → Surd → Surd) (n : Tree) (ts us : Trees) (d e : Tree) (at : ℕ) → IsSoFar both n ts us d → IsNextNumber 0 at us → IsJoint both d (nth at us) e
    → IsSoFar both n ts (removed at us) e
one_more both n ts us d e at s h j = record {
  number = j.number;
  first = append s.first (more (nth at us) none);
  is = s.is ∙ ap (append s.first) (numbers_removed at us h) ∙ append_one s.first (nth at us) (numbers_in (removed at us));
  joined = joined_more both n s.first d (nth at us) e s.joined j;
  others = others_removed at us h.within h.number ∙ s.others;
  fewer = omega (arith, s.fewer, sizes_taken at us h.within);
}

abbrev next_of : (both : Surd → Surd → Surd) (n : Tree) (ts us : Trees) (d : Tree) (at : ℕ) → IsSoFar both n ts us d → IsNextNumber 0 at us → IsNextOf both n (numbers_in ts)
next_of both n ts us d at s h = record {
  first = s.first;
  next = nth at us;
  rest = numbers_in (removed at us);
  is = s.is ∙ ap (append s.first) (numbers_removed at us h);
  so_far = d;
  number = s.number;
  joined = s.joined;
}

pub next_named : (both : Surd → Surd → Surd) (misfit : Tree → Tree → Overflow → Type 0) (n : Tree) (ts us : Trees) (d : Tree) (at : ℕ) → IsSoFar both n ts us d → IsNextNumber 0 at us
    → (o : Overflow) → misfit d (nth at us) o
    → (x : IsNextOf both n (numbers_in ts)) × misfit x.so_far x.next o
next_named both misfit n ts us d at s h o m = (next_of both n ts us d at s h, m)

pub next_few : (both : Surd → Surd → Surd) (n : Tree) (ts us : Trees) (d : Tree) (at : ℕ) → IsSoFar both n ts us d → IsNextNumber 0 at us
    → ((x : IsNextOf both n (numbers_in ts)) → HasFewBits (both (value x.so_far) (value x.next)))
    → HasFewBits (both (value d) (value (nth at us)))
next_few both n ts us d at s h f = f (next_of both n ts us d at s h)

pub record AreDone (both : Surd → Surd → Surd) (n : Tree) (ts us : Trees) (d : Tree) : Type 0 where
  pub left : us ≡ others_in ts
  pub joined : AreJoined both n (numbers_in ts) d

pub all_done : (both : Surd → Surd → Surd) (n : Tree) (ts us : Trees) (d : Tree) → IsSoFar both n ts us d → NoNumberBetween 0 (count us) us → AreDone both n ts us d
all_done both n ts us d s b = grind (arith, no_numbers, no_numbers_others, no_numbers_none, append_none)

-- ---- the roots

-- what stands beside the first Number
pub base : {i n : ℕ} {f : Forest} {P : Tree → Type 0} → Gives (without_root n f) f n P → IsHanded i (without_root n f) → IsSumOrProduct (plain (root_tree i f))
    → IsMany i (children_of (plain (root_tree i f))) (without_root n f)
base {i = i} {n = n} {f = f} g h s =
    let e = tree-without n i f (given_apart g h) in
    subst (λ (t : Forest). IsMany i (children_of (plain t)) (without_root n f)) e (many h (subst (λ (t : Forest). IsSumOrProduct (plain t)) (sym e) s))

pub begun : {i n : ℕ} {ts : Trees} {f : Forest} {P : Tree → Type 0} → IsMany i ts (without_root n f) → Gives (without_root n f) f n P → LeavesChildren i ts (without_root n f) f n
begun {i = i} {n = n} {f = f} m g = record { kids = kids (root_tree i (without_root n f)); are = m.over.kids; given = gives_as g (sym (put-same i (without_root n f))) (λ t x. tt) }

pub left_many : {i h : ℕ} {ts us : Trees} {f g : Forest} → IsMany i ts f → LeavesChildren i us f g h → IsMany i us g
left_many m l = many_end (many_put l.kids m l.are) l.given.ends

-- the Number so far, when the next one stands beside it
pub record IsReady (i h d : ℕ) (others f g now : Forest) : Type 0 where
  pub handed : IsHanded d g
  pub tree : plain (root_tree d g) ≡ plain (root_tree d f)
  pub apart : eqb d h ≡ false
  pub rest : without_root h (without_root d g) ≡ put i now others

pub ready : {i h d at : ℕ} {ts us : Trees} {others f g : Forest} → IsMany i ts others → LeavesChildren i us others f d → (o : IsOut i at us f g h) → IsReady i h d others f g o.now
ready {i = i} {h = h} {d = d} {others = others} {f = f} m l o =
    let id : eqb i d ≡ false = eqb-sym d i (other_apart i l.given.ends (root-put i i l.kids others ∙ m.over.root)) in
    let x = handed_by_put i o.now id (given_handed l.given) in
    record {
      handed = given_other o.given x;
      tree = ap plain (given_same d o.given x.root ∙ tree-put i d o.now f id);
      apart = eqb-sym h d (given_apart o.given x);
      rest = given_without o.given x ∙ without-put i d o.now f id ∙ ap (put i o.now) (given_rest l.given) ∙ put-put i o.now l.kids others;
    }

-- a child is taken out beside the Number so far
pub record IsNext (i h d at : ℕ) (us : Trees) (others f g : Forest) : Type 0 where
  pub now : IsMany i us f
  pub out : IsOut i at us f g h
  pub ready : IsReady i h d others f g out.now

pub next_out : {i h n d at : ℕ} {us : Trees} {old f g : Forest} {P : Tree → Type 0} → Gives (without_root n old) old n P → IsHanded i (without_root n old)
    → IsSumOrProduct (plain (root_tree i old)) → LeavesChildren i us (without_root n old) f d
    → at < count us → (has_root i f ≡ true → Ends h (tree_nth at (kids (root_tree i f))) (put i (without_nth at (kids (root_tree i f))) f) g) → IsNext i h d at us (without_root n old) f g
next_out {at = at} a b c l w e =
    let m = base a b c in
    let now = left_many m l in
    let o = out at now w (e now.over.root) in
    record { now = now; out = o; ready = ready m l o }

pub left_more : {i h d e at : ℕ} {us : Trees} {others f g new : Forest} {P : Tree → Type 0} (o : IsOut i at us f g h) → IsReady i h d others f g o.now
    → Gives (without_root h (without_root d g)) new e P → LeavesChildren i (removed at us) others new e
left_more o r k = record { kids = o.now; are = o.are; given = gives_as k r.rest (λ t x. tt) }

pub left_front : {i h d n at : ℕ} {us : Trees} {old f g new : Forest} → LeavesChildren i us (without_root n old) f d → (o : IsOut i at us f g h) → KeepsFront (i ∷ n ∷ []) old f
    → KeepsFront (d ∷ h ∷ []) g new
    → KeepsFront (i ∷ n ∷ []) old new
left_front l o k c =
    let here = front_put o.now behind_first k in
    front_after_two (behind_new l.given.ends (front_put l.kids behind_first (front_without (behind_later behind_first) front_same))) (behind_new o.given.ends here) (front_end o.given.ends here) c

-- so many bytes are at hand for the next one
pub at_hand : {s t u : State} {i h d n at : ℕ} {us : Trees} → Stands s → Stands t → Stands u → KeepsRefusals s t → KeepsRefusals t u → IsHanded n (forest s)
    → (m : IsMany i us (forest t)) → at < count us → IsOut i at us (forest t) (forest u) h → (ts : Trees) → IsMany i ts (without_root n (forest s)) → sizes us ≤ sizes ts → LeavesChildren i us (without_root n (forest s)) (forest t) d
    → free_of s + size (tree_of n s) ≤ free_of u + size (tree_of d t)
at_hand {s = s} {t = t} {u = u} {i = i} {h = h} {d = d} {n = n} {at = at} {us = us} st su sv k kk hn m l o ts b few left =
    omega (
      arith,
      all_bytes s st,
      all_bytes t su,
      all_bytes u sv,
      k.size,
      kk.size,
      few,
      sizes_taken at us l,
      handed_bytes n (forest s) hn,
      put_bytes left.kids b left.are,
      handed_bytes d (forest t) (given_handed left.given),
      ap bytes_in (given_rest left.given),
      put_bytes o.now m o.are,
      handed_bytes h (forest u) (given_handed o.given),
      ap bytes_in (given_rest o.given),
      ap size (given_told o.given),
    )
