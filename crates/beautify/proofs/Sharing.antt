-- What the children of a node put into its face, pushed one after another and turned round.
use Rattle.beautify.proofs.Shared.{◌≡◌, ◌∙◌, ℕ, suc, ◌+◌, ◌-◌, ◌<◌, ◌≤◌, ◌==◌, if◌then◌else◌, List, [], ◌∷◌, ◌++◌, length, Option, None, Some, refl, sym, ap, subst, arith, true, false, Bool, nat_abs}
use Rattle.beautify.proofs.Shared.{append_assoc as list_assoc, append-nil, ⊤, length-append, append-none, children_of, TakesForm, in_form, IsReadyPart, divisor_of, numerator_of, denominator_of}
use Rattle.beautify.proofs.Shared.{is_num, root_kind, form_room, Tree, Trees, num, none, more, append, count, nth, plain, AllParts, AllPartsOf, whole_num, IsExpression, Forest, tree_at, unsigned_face}
use Rattle.beautify.proofs.Shared.{unsigned_faces, unless_one, factor_above, factor_below, factors_above, factors_below, behind, Share, Terms, Above, Below, Pending, Part, Numerator, Denominator}
use Rattle.beautify.proofs.Shared.{Form, Unsigned, Divisor, Owes, IsReady, IsShowable, IsFactor, AreSharing, part_of, part_above, part_below, part_room, share_room, shared, stands_below, with_next}
use Rattle.beautify.proofs.Shared.{next_room, by_test, take, drop, reverse-append, length-reverse, length-drop, length-take-le, take_all, drop_all, take_rest, take_at, drop_at, reverse}
use Rattle.beautify.proofs.{Pushing.{pushed, owes_as}, Trees.{behind-next, behind-all}}
use Rattle.calc_terms.proofs.SmallLaws.{append_assoc}
use Rattle.calc_terms.specs.declared.kind.Kind.TheVariants as kind

-- the trees of nodes
abbrev pub trees_at : List ℕ → Forest → Trees
trees_at [] f = none
trees_at (i ∷ is) f = more (plain (tree_at i f)) (trees_at is f)

abbrev pub AreExpressions : List ℕ → Forest → Type 0
AreExpressions [] f = ⊤
AreExpressions (i ∷ is) f = IsExpression i f × AreExpressions is f

abbrev pub one_of : Option Pending → List Pending
one_of None = []
one_of (Some p) = p ∷ []

-- what they put there
abbrev pub parts_at : Share → List ℕ → Forest → List Pending
parts_at share [] f = []
parts_at share (i ∷ is) f = one_of (part_of share i (plain (tree_at i f))) ++ parts_at share is f

trees_at-snoc : (is : List ℕ) (i : ℕ) (f : Forest) → trees_at (is ++ i ∷ []) f ≡ append (trees_at is f) (more (plain (tree_at i f)) none)
trees_at-snoc [] i f = refl
trees_at-snoc (j ∷ is) i f = ap (more (plain (tree_at j f))) (trees_at-snoc is i f)

expressions-snoc : (is : List ℕ) (i : ℕ) (f : Forest) → AreExpressions is f → IsExpression i f → AreExpressions (is ++ i ∷ []) f
expressions-snoc [] i f h e = (e, tt)
expressions-snoc (j ∷ is) i f h e = (h.0, expressions-snoc is i f h.1 e)

parts_at-snoc : (share : Share) (is : List ℕ) (i : ℕ) (f : Forest) → parts_at share (is ++ i ∷ []) f ≡ parts_at share is f ++ one_of (part_of share i (plain (tree_at i f)))
parts_at-snoc share [] i f = append-nil (one_of (part_of share i (plain (tree_at i f))))
parts_at-snoc share (j ∷ is) i f = ap (λ (xs : List Pending). one_of (part_of share j (plain (tree_at j f))) ++ xs) (parts_at-snoc share is i f) ∙ sym (list_assoc (one_of (part_of share j (plain (tree_at j f)))) (parts_at share is f) (one_of (part_of share i (plain (tree_at i f)))))

few_of : (o : Option Pending) → length (one_of o) ≤ 1
few_of None = omega arith
few_of (Some p) = omega arith

few_parts : (share : Share) (is : List ℕ) (f : Forest) → length (parts_at share is f) ≤ length is
few_parts share [] f = omega arith
few_parts share (i ∷ is) f = omega (arith, few_parts share is f, few_of (part_of share i (plain (tree_at i f))), length-append (one_of (part_of share i (plain (tree_at i f)))) (parts_at share is f))

-- ---- the loop: so many children from a place on are read

pub record IsShared (share : Share) (from : ℕ) (ids : List ℕ) (old now : List Pending) (came : ℕ) (f : Forest) (kids : Trees) : Type 0 where
  pub items : now ≡ old ++ parts_at share ids f
  pub came-is : came ≡ length (parts_at share ids f)
  pub trees : append (trees_at ids f) (behind (from + length ids) kids) ≡ behind from kids
  pub expressions : AreExpressions ids f

-- there is room for one more
pub few_shared : {share : Share} {from came : ℕ} {ids : List ℕ} {old now : List Pending} {f : Forest} {kids : Trees} → IsShared share from ids old now came f kids → (came ≤ length ids) × (length now ≡ length old + came)
few_shared {share = share} {ids = ids} {old = old} {f = f} s = (omega (arith, s.came-is, few_parts share ids f), omega (arith, s.came-is, ap length s.items, length-append old (parts_at share ids f)))

one_more : (from i : ℕ) (ids : List ℕ) (f : Forest) (kids : Trees) → from + length ids < count kids → plain (tree_at i f) ≡ nth (from + length ids) kids → append (trees_at ids f) (behind (from + length ids) kids) ≡ behind from kids
    → append (trees_at (ids ++ i ∷ []) f) (behind (from + length (ids ++ i ∷ [])) kids) ≡ behind from kids
one_more from i ids f kids w t e =
    let n : from + length (ids ++ i ∷ []) ≡ suc (from + length ids) = omega (arith, length-append ids (i ∷ [])) in
    ap (λ (x : Trees). append x (behind (from + length (ids ++ i ∷ [])) kids)) (trees_at-snoc ids i f) ∙ append_assoc (trees_at ids f) (more (plain (tree_at i f)) none) (behind (from + length (ids ++ i ∷ [])) kids)
    ∙ ap (λ (k : ℕ). append (trees_at ids f) (more (plain (tree_at i f)) (behind k kids))) n ∙ ap (λ (x : Tree). append (trees_at ids f) (more x (behind (suc (from + length ids)) kids))) t
    ∙ ap (append (trees_at ids f)) (sym (behind-next (from + length ids) kids w)) ∙ e

-- the next child puts a part there, or none
pub shared_more : {share : Share} {from came i : ℕ} {ids : List ℕ} {old now new : List Pending} {f : Forest} {kids : Trees} (p : Pending) → IsShared share from ids old now came f kids → from + length ids < count kids → IsExpression i f → plain (tree_at i f) ≡ nth (from + length ids) kids
    → Some p ≡ part_of share i (plain (tree_at i f)) → new ≡ now ++ p ∷ [] → IsShared share from (ids ++ i ∷ []) old new (came + 1) f kids
shared_more {share = share} {from = from} {i = i} {ids = ids} {old = old} {f = f} {kids = kids} p s w x t e n =
    let parts : parts_at share (ids ++ i ∷ []) f ≡ parts_at share ids f ++ p ∷ [] = parts_at-snoc share ids i f ∙ ap (λ (o : Option Pending). parts_at share ids f ++ one_of o) (sym e) in
    record {
      items = n ∙ ap (λ (xs : List Pending). xs ++ p ∷ []) s.items ∙ list_assoc old (parts_at share ids f) (p ∷ []) ∙ ap (λ (xs : List Pending). old ++ xs) (sym parts);
      came-is = omega (arith, s.came-is, ap length parts, length-append (parts_at share ids f) (p ∷ []));
      trees = one_more from i ids f kids w t s.trees;
      expressions = expressions-snoc ids i f s.expressions x;
    }

pub shared_none : {share : Share} {from came i : ℕ} {ids : List ℕ} {old now : List Pending} {f : Forest} {kids : Trees} → IsShared share from ids old now came f kids → from + length ids < count kids → IsExpression i f → plain (tree_at i f) ≡ nth (from + length ids) kids
    → None ≡ part_of share i (plain (tree_at i f)) → IsShared share from (ids ++ i ∷ []) old now came f kids
shared_none {share = share} {from = from} {i = i} {ids = ids} {old = old} {f = f} {kids = kids} s w x t e =
    let parts : parts_at share (ids ++ i ∷ []) f ≡ parts_at share ids f = parts_at-snoc share ids i f ∙ ap (λ (o : Option Pending). parts_at share ids f ++ one_of o) (sym e) ∙ append-nil (parts_at share ids f) in
    record {
      items = s.items ∙ ap (λ (xs : List Pending). old ++ xs) (sym parts);
      came-is = s.came-is ∙ ap length (sym parts);
      trees = one_more from i ids f kids w t s.trees;
      expressions = expressions-snoc ids i f s.expressions x;
    }

-- ---- what one child puts there

-- one that is put there: what it comes to before the others' trees
abbrev Puts : Share → Tree → Forest → ℕ → Pending → Trees → Trees → Type 0
Puts share t f room p ts us = (append (shared share (more t ts)) us ≡ with_next p f (append (shared share ts) us)) × IsReady p f (append (shared share ts) us) × (next_room p f ≤ room) × (count (with_next p f (append (shared share ts) us)) ≡ suc (count (append (shared share ts) us)))

abbrev IsPart : Share → Tree → Forest → Option Pending → Type 0
IsPart share t f None = (ts : Trees) → shared share (more t ts) ≡ shared share ts
IsPart share t f (Some p) = (ts us : Trees) → Puts share t f (part_room (Some p) t) p ts us

ready_part : (form : Form) (i : ℕ) (t : Tree) (f : Forest) → plain (tree_at i f) ≡ t → IsExpression i f → AllParts IsShowable t → TakesForm form t → IsReadyPart form i f
ready_part form i t f e x s k = record { expression = x; showable = subst (AllParts IsShowable) (sym e) s; takes-it = subst (TakesForm form) (sym e) k }

-- a tree in some form
form_part : (share : Share) (form : Form) (i : ℕ) (t : Tree) (f : Forest) → plain (tree_at i f) ≡ t → IsReadyPart form i f
    → ((ts : Trees) → shared share (more t ts) ≡ more (in_form form t) (shared share ts)) → IsPart share t f (Some (Part form i))
form_part share form i t f e r h = λ ts us.
    (ap (λ (x : Trees). append x us) (h ts) ∙ ap (λ (x : Tree). more (in_form form x) (append (shared share ts) us)) (sym e), r, omega (arith, ap (form_room form) e), refl)

-- a whole number
number_part : (share : Share) (p : Pending) (n : ℕ) (t : Tree) (f : Forest) → ((us : Trees) → with_next p f us ≡ more (whole_num n) us) → ((us : Trees) → IsReady p f us)
    → next_room p f ≡ part_room (Some p) t → ((ts : Trees) → shared share (more t ts) ≡ unless_one n (shared share ts))
    → IsPart share t f (if n == 1 then None else Some p)
number_part share p n t f w r b h = by_test (λ (c : Bool). (n == 1) ≡ c → IsPart share t f (if c then None else Some p)) (n == 1)
    (λ e q ts. h ts ∙ ap (λ (c : Bool). if c then shared share ts else more (whole_num n) (shared share ts)) q)
    (λ e q ts us. (
      ap (λ (x : Trees). append x us) (h ts ∙ ap (λ (c : Bool). if c then shared share ts else more (whole_num n) (shared share ts)) q) ∙ sym (w (append (shared share ts) us)),
      r (append (shared share ts) us),
      omega (arith, b),
      ap count (w (append (shared share ts) us)),
    )) refl

-- powers above and below the line
stays : (t : Tree) → IsFactor t → (root_kind t ≡ kind.Num → ⊥) → stands_below t ≡ false → ((us : Trees) → factor_above t us ≡ more (unsigned_face t) us) × ((us : Trees) → factor_below t us ≡ us)
stays t f n h = grind arith

goes : (t : Tree) → stands_below t ≡ true → ((us : Trees) → factor_above t us ≡ us) × ((us : Trees) → factor_below t us ≡ more (divisor_of t) us)
goes t h = grind arith

above_other : (i : ℕ) (t : Tree) (f : Forest) → plain (tree_at i f) ≡ t → IsExpression i f → AllParts IsShowable t → IsFactor t → (root_kind t ≡ kind.Num → ⊥)
    → IsPart Above t f (if stands_below t then None else Some (Part Unsigned i))
above_other i t f e x s h n = by_test (λ (c : Bool). stands_below t ≡ c → IsPart Above t f (if c then None else Some (Part Unsigned i))) (stands_below t)
    (λ y q ts. (goes t q).0 (factors_above ts))
    (λ y q. form_part Above Unsigned i t f e (ready_part Unsigned i t f e x s tt) (λ ts. (stays t h n q).0 (factors_above ts))) refl

below_other : (i : ℕ) (t : Tree) (f : Forest) → plain (tree_at i f) ≡ t → IsExpression i f → AllParts IsShowable t → IsFactor t → (root_kind t ≡ kind.Num → ⊥)
    → IsPart Below t f (if stands_below t then Some (Part Divisor i) else None)
below_other i t f e x s h n = by_test (λ (c : Bool). stands_below t ≡ c → IsPart Below t f (if c then Some (Part Divisor i) else None)) (stands_below t)
    (λ y q. form_part Below Divisor i t f e (ready_part Divisor i t f e x s q) (λ ts. (goes t q).1 (factors_below ts)))
    (λ y q ts. (stays t h n q).1 (factors_below ts)) refl

above_part : (i : ℕ) (t : Tree) (f : Forest) → plain (tree_at i f) ≡ t → IsExpression i f → AllParts IsShowable t → IsFactor t → IsPart Above t f (part_above i t)
above_part i (num q) f e x s h = number_part Above (Numerator i) (nat_abs q.num) (num q) f (λ us. ap (λ (y : Tree). more (numerator_of y) us) e) (λ us. (x, ap is_num e)) refl (λ ts. refl)
above_part i t f e x s h = above_other i t f e x s h (λ z. absurd cc)

below_part : (i : ℕ) (t : Tree) (f : Forest) → plain (tree_at i f) ≡ t → IsExpression i f → AllParts IsShowable t → IsFactor t → IsPart Below t f (part_below i t)
below_part i (num q) f e x s h = number_part Below (Denominator i) q.den (num q) f (λ us. ap (λ (y : Tree). more (denominator_of y) us) e) (λ us. (x, ap is_num e)) refl (λ ts. refl)
below_part i t f e x s h = below_other i t f e x s h (λ z. absurd cc)

one_part : (share : Share) (i : ℕ) (f : Forest) (ts : Trees) → IsExpression i f → AllParts IsShowable (plain (tree_at i f)) → AreSharing share (more (plain (tree_at i f)) ts)
    → IsPart share (plain (tree_at i f)) f (part_of share i (plain (tree_at i f)))
one_part Terms i f ts x s h = form_part Terms Unsigned i (plain (tree_at i f)) f refl (ready_part Unsigned i (plain (tree_at i f)) f refl x s tt) (λ us. refl)
one_part Above i f ts x s h = above_part i (plain (tree_at i f)) f refl x s h.0
one_part Below i f ts x s h = below_part i (plain (tree_at i f)) f refl x s h.0

others_share : (share : Share) (t : Tree) (ts : Trees) → AreSharing share (more t ts) → AreSharing share ts
others_share Terms t ts h = tt
others_share share t ts h = h.1

-- its room does not depend on its identifier
same_room : (share : Share) (i j : ℕ) (t : Tree) → part_room (part_of share i t) t ≡ part_room (part_of share j t) t
same_room Terms i j t = refl
same_room Above i j t = grind arith
same_room Below i j t = grind arith

-- ---- all of them, turned round

none_owed : (share : Share) (us : Trees) → append (shared share none) us ≡ us
none_owed share us = grind arith

pub shares_owe : {old : List Pending} {f : Forest} {us : Trees} {r : ℕ} (share : Share) (ids : List ℕ) → AreExpressions ids f → AllPartsOf IsShowable (trees_at ids f) → AreSharing share (trees_at ids f) → Owes old f us r
    → Owes (old ++ reverse (parts_at share ids f)) f (append (shared share (trees_at ids f)) us) (r + share_room share (trees_at ids f))
shares_owe {old = old} {f = f} {us = us} {r = r} share [] x s h o = subst (λ (ps : List Pending). Owes ps f (append (shared share none) us) (r + 0)) (sym (append-nil old)) (owes_as o (sym (none_owed share us)) (omega arith))
shares_owe {old = old} {f = f} {us = us} {r = r} share (i ∷ is) x s h o =
    let t = plain (tree_at i f) in
    let ts = trees_at is f in
    let part = one_part share i f ts x.0 s.0 h in
    let rest = shares_owe share is x.1 s.1 (others_share share t ts h) o in
    by (part_of share i t) refl part rest
  where
    by : (q : Option Pending) → part_of share i (plain (tree_at i f)) ≡ q → IsPart share (plain (tree_at i f)) f q
        → Owes (old ++ reverse (parts_at share is f)) f (append (shared share (trees_at is f)) us) (r + share_room share (trees_at is f))
        → Owes (old ++ reverse (one_of q ++ parts_at share is f)) f (append (shared share (more (plain (tree_at i f)) (trees_at is f))) us) (r + (part_room (part_of share 0 (plain (tree_at i f))) (plain (tree_at i f)) + share_room share (trees_at is f)))
    by None e p rest = owes_as rest (ap (λ (x : Trees). append x us) (sym (p (trees_at is f)))) (omega arith)
    by (Some q) e p rest =
        let t = plain (tree_at i f) in
        let k = p (trees_at is f) us in
        let all : old ++ reverse (q ∷ parts_at share is f) ≡ (old ++ reverse (parts_at share is f)) ++ q ∷ [] =
        ap (λ (xs : List Pending). old ++ xs) (reverse-append (q ∷ []) (parts_at share is f)) ∙ sym (list_assoc old (reverse (parts_at share is f)) (q ∷ [])) in
        subst (λ (ps : List Pending). Owes ps f (append (shared share (more t (trees_at is f))) us) (r + (part_room (part_of share 0 t) t + share_room share (trees_at is f)))) (sym all)
        (owes_as (pushed q rest k.1) (sym k.0) (omega (arith, k.2, ap (λ (o : Option Pending). part_room o t) e, same_room share i 0 t)))

-- how many they are
count_one : (share : Share) (i : ℕ) (t : Tree) (ts : Trees) (f : Forest) → IsPart share t f (part_of share i t)
    → count (shared share (more t ts)) ≡ length (one_of (part_of share i t)) + count (shared share ts)
count_one share i t ts f p = by (part_of share i t) p
  where
    by : (q : Option Pending) → IsPart share t f q → count (shared share (more t ts)) ≡ length (one_of q) + count (shared share ts)
    by None p = omega (arith, ap count (p ts))
    by (Some q) p = let k = p ts none in omega (arith, ap count (append-none (shared share (more t ts))), ap count (k.0), k.3, ap count (append-none (shared share ts)))

pub count-shared : (share : Share) (ids : List ℕ) (f : Forest) → AreExpressions ids f → AllPartsOf IsShowable (trees_at ids f) → AreSharing share (trees_at ids f) → count (shared share (trees_at ids f)) ≡ length (parts_at share ids f)
count-shared share [] f x s h = grind arith
count-shared share (i ∷ is) f x s h =
    let t = plain (tree_at i f) in
    let ts = trees_at is f in
    omega (arith, count_one share i t ts f (one_part share i f ts x.0 s.0 h), count-shared share is f x.1 s.1 (others_share share t ts h), length-append (one_of (part_of share i t)) (parts_at share is f))

pub count_faces : (ts : Trees) → count (unsigned_faces ts) ≡ count ts
count_faces none = refl
count_faces (more t ts) = ap suc (count_faces ts)

-- ---- the end of the loop

all_below : (P : Tree → Type 0) (n : ℕ) (ts : Trees) → AllPartsOf P ts → AllPartsOf P (behind n ts)
all_below P (suc n) (more t ts) h = all_below P n ts h.1
all_below P n ts h = h

children_parts : (t : Tree) → AllParts IsShowable t → AllPartsOf IsShowable (children_of t)
children_parts t h = grind arith

pub record IsTurned (share : Share) (came : ℕ) (old now : List Pending) (f : Forest) (ts : Trees) : Type 0 where
  pub owed : (us : Trees) (r : ℕ) → Owes old f us r → Owes now f (append (shared share ts) us) (r + share_room share ts)
  pub came-is : came ≡ count (shared share ts)

pub turned : {share : Share} {from came : ℕ} {ids : List ℕ} {old now new : List Pending} {f : Forest} (t : Tree) → IsShared share from ids old now came f (children_of t) → count (children_of t) ≤ from + length ids → AllParts IsShowable t → AreSharing share (behind from (children_of t))
    → new ≡ old ++ reverse (parts_at share ids f) → IsTurned share came old new f (behind from (children_of t))
turned {share = share} {from = from} {came = came} {ids = ids} {old = old} {new = new} {f = f} t s many h sh e =
    let all : trees_at ids f ≡ behind from (children_of t) =
    sym (append-none (trees_at ids f)) ∙ ap (append (trees_at ids f)) (sym (behind-all (from + length ids) (children_of t) many)) ∙ s.trees in
    let parts : AllPartsOf IsShowable (trees_at ids f) = subst (AllPartsOf IsShowable) (sym all) (all_below IsShowable from (children_of t) (children_parts t h)) in
    let sharing : AreSharing share (trees_at ids f) = subst (AreSharing share) (sym all) sh in
    record {
      owed = λ us r o. subst (λ (ps : List Pending). Owes ps f (append (shared share (behind from (children_of t))) us) (r + share_room share (behind from (children_of t)))) (sym e)
          (subst (λ (ts : Trees). Owes (old ++ reverse (parts_at share ids f)) f (append (shared share ts) us) (r + share_room share ts)) all (shares_owe share ids s.expressions parts sharing o));
      came-is = s.came-is ∙ sym (count-shared share ids f s.expressions parts sharing) ∙ ap (λ (ts : Trees). count (shared share ts)) all;
    }

-- the list after what was pushed is turned round in it
turned_list : (xs ds rs : List Pending) (start n : ℕ) → ds ≡ xs → n ≡ length xs → start ≤ length xs → rs ≡ reverse (take (length ds - start) (drop start ds))
    → take n ((take start ds ++ (rs ++ drop (length ds - start) (drop start ds))) ++ drop (length (take start ds ++ (rs ++ drop (length ds - start) (drop start ds)))) xs) ≡ take start xs ++ reverse (drop start xs)
turned_list xs ds rs start n e m h r =
    let k = length ds - start in
    let none_left : drop k (drop start ds) ≡ [] = drop_all k (drop start ds) (omega (arith, length-drop start ds)) in
    let mid : take start ds ++ (rs ++ drop k (drop start ds)) ≡ take start xs ++ reverse (drop start xs) =
    ap (λ (ys : List Pending). take start ds ++ (rs ++ ys)) none_left ∙ ap (λ (ys : List Pending). take start ds ++ ys) (append-nil rs ∙ r ∙ ap reverse (take_rest ds start)) ∙ ap (λ (ys : List Pending). take start ys ++ reverse (drop start ys)) e in
    let all = take start xs ++ reverse (drop start xs) in
    let size : length all ≡ length xs = omega (arith, h, length-append (take start xs) (reverse (drop start xs)), length-reverse (drop start xs), length-take-le start xs h, length-drop start xs) in
    ap (λ (ys : List Pending). take n (ys ++ drop (length ys) xs)) mid ∙ ap (λ (ys : List Pending). take n (all ++ ys)) (drop_all (length all) xs (omega (arith, size))) ∙ ap (take n) (append-nil all) ∙ take_all n all (omega (arith, size, m))

pub turned_items : {share : Share} {from came : ℕ} {ids : List ℕ} {old now ds rs : List Pending} {f : Forest} {kids : Trees} {start n : ℕ} → IsShared share from ids old now came f kids → ds ≡ now → n ≡ length now → start ≡ length old → rs ≡ reverse (take (length ds - start) (drop start ds))
    → take n ((take start ds ++ (rs ++ drop (length ds - start) (drop start ds))) ++ drop (length (take start ds ++ (rs ++ drop (length ds - start) (drop start ds)))) now) ≡ old ++ reverse (parts_at share ids f)
turned_items {share = share} {ids = ids} {old = old} {now = now} {ds = ds} {rs = rs} {f = f} {start = start} {n = n} s e m w r =
    let parts = parts_at share ids f in
    let fits : start ≤ length now = omega (arith, w, ap length s.items, length-append old parts) in
    turned_list now ds rs start n e m fits r ∙ ap (λ (ys : List Pending). take start ys ++ reverse (drop start ys)) s.items ∙ ap (λ (ys : List Pending). ys ++ reverse (drop start (old ++ parts))) (take_at old parts start (sym w)) ∙ ap (λ (ys : List Pending). old ++ reverse ys) (drop_at old parts start (sym w))
