-- The terms of a sum, joined from left to right.
use Rattle.beautify.proofs.Shared.{◌≡◌, ◌∙◌, ℕ, zero, suc, ◌+◌, ◌-◌, ◌*◌, ◌<◌, ◌≤◌, List, length, refl, sym, ap, subst, arith, true, false, Bool, Tree, Trees, add, sub, none, more, append, count, nth}
use Rattle.beautify.proofs.Shared.{Forest, first, behind, Pending, Owes, SoFar, single, summed, as_tree, face, has_minus, unsigned_face, unsigned_faces, face_of_sum, next_term, next_terms, plus_term}
use Rattle.beautify.proofs.{Shared.{minus_term}, Pushing.{owes_as}, Trees.{behind-append, first-append, behind-next, behind-all}}
use Rattle.calc_terms.proofs.SmallLaws.{count_append as count-append, append_assoc}

-- the trees that stand for what a sum has made so far
abbrev pub parts : SoFar → Trees
parts (summed ts) = ts
parts s = more (as_tree s) none

pub record HasParts (s : SoFar) (n : ℕ) : Type 0 where
  pub count-is : count (parts s) ≡ n
  pub some : 1 ≤ n
  pub lone : n ≤ 1 → parts s ≡ more (as_tree s) none
  pub many : 1 < n → as_tree s ≡ add (parts s)

one_part : (t : Tree) → HasParts (single t) 1
one_part t = record { count-is = refl; some = omega arith; lone = λ h. refl; many = λ h. absurd (omega arith) }

plus_parts : (s : SoFar) (u : Tree) → parts (plus_term s u) ≡ append (parts s) (more u none)
plus_parts s u = grind arith

plus_tree : (s : SoFar) (u : Tree) → as_tree (plus_term s u) ≡ add (parts (plus_term s u))
plus_tree s u = grind arith

one_more : {s : SoFar} {n : ℕ} (u : Tree) → HasParts s n → HasParts (plus_term s u) (n + 1)
one_more {s = s} u h = record {
  count-is = omega (arith, ap count (plus_parts s u), count-append (parts s) (more u none), h.count-is);
  some = omega arith;
  lone = λ w. absurd (omega (arith, w, h.some));
  many = λ w. plus_tree s u;
}

-- those trees become one
pub record IsAdded (old new : List Pending) (n : ℕ) : Type 0 where
  pub one : n ≤ 1 → new ≡ old
  pub some : 1 < n → (f : Forest) (us : Trees) (r : ℕ) → Owes old f us r → n ≤ count us → Owes new f (more (add (first n us)) (behind n us)) (r + 8)

added : {old new : List Pending} {n : ℕ} {s : SoFar} {f : Forest} {us : Trees} {r : ℕ} → IsAdded old new n → HasParts s n → Owes old f (append (parts s) us) r → Owes new f (more (as_tree s) us) (r + 8 * (n - 1))
added {old = old} {new = new} {n = n} {s = s} {f = f} {us = us} {r = r} a h o = by n refl
  where
    by : (k : ℕ) → n ≡ k → Owes new f (more (as_tree s) us) (r + 8 * (n - 1))
    by zero e = absurd (omega (arith, e, h.some))
    by (suc zero) e =
        let w : n ≤ 1 = omega (arith, e) in
        owes_as (subst (λ (ps : List Pending). Owes ps f (append (parts s) us) r) (sym (a.one w)) o) (ap (λ (x : Trees). append x us) (h.lone w)) (omega arith)
    by (suc (suc k)) e =
        let w : 1 < n = omega (arith, e) in
        let fits : n ≤ count (append (parts s) us) = omega (arith, count-append (parts s) us, h.count-is) in
        let top : first n (append (parts s) us) ≡ parts s = ap (λ (m : ℕ). first m (append (parts s) us)) (sym h.count-is) ∙ first-append (parts s) us in
        let rest : behind n (append (parts s) us) ≡ us = ap (λ (m : ℕ). behind m (append (parts s) us)) (sym h.count-is) ∙ behind-append (parts s) us in
        owes_as (a.some w f (append (parts s) us) r o fits) (rw (top, rest) (ap (λ (t : Tree). more t us) (sym (h.many w)))) (omega (arith, w))

-- ---- the loop: n terms are joined, the last of them by as many trees as stand for them

pub record IsSigned (n terms : ℕ) (kids : Trees) (f : Forest) (old now : List Pending) : Type 0 where
  pub so : SoFar
  pub used : ℕ
  pub has : HasParts so terms
  pub within : n ≤ count kids
  pub whole : as_tree (next_terms so (behind n kids)) ≡ face_of_sum kids
  pub owed : (us : Trees) (r : ℕ) → Owes old f (more (face (nth 0 kids)) (append (unsigned_faces (behind 1 kids)) us)) r → Owes now f (append (parts so) (append (unsigned_faces (behind n kids)) us)) (r + used)
  pub bytes : used + 8 * terms ≤ 8 * n
  pub long : length now + terms ≤ length old + n

first_sum : (kids : Trees) → 1 ≤ count kids → as_tree (next_terms (single (face (nth 0 kids))) (behind 1 kids)) ≡ face_of_sum kids
first_sum none h = absurd (omega arith)
first_sum (more t ts) h = refl

pub signed_first : (kids : Trees) (f : Forest) (old : List Pending) → 1 ≤ count kids → IsSigned 1 1 kids f old old
signed_first kids f old h = record {
  so = single (face (nth 0 kids));
  used = 0;
  has = one_part (face (nth 0 kids));
  within = h;
  whole = first_sum kids h;
  owed = λ us r o. owes_as o refl (omega arith);
  bytes = omega arith;
  long = omega arith;
}

-- the next term
next_whole : (n : ℕ) (s : SoFar) (b : Bool) (kids : Trees) → n < count kids → b ≡ has_minus (nth n kids) → as_tree (next_terms s (behind n kids)) ≡ face_of_sum kids → as_tree (next_terms (next_term s b (unsigned_face (nth n kids))) (behind (suc n) kids)) ≡ face_of_sum kids
next_whole n s b kids h m e =
    ap (λ (c : Bool). as_tree (next_terms (next_term s c (unsigned_face (nth n kids))) (behind (suc n) kids))) m ∙ ap (λ (ts : Trees). as_tree (next_terms s ts)) (sym (behind-next n kids h)) ∙ e

pub plus_next : {n terms : ℕ} {kids : Trees} {f : Forest} {old now : List Pending} → IsSigned n terms kids f old now → n < count kids → false ≡ has_minus (nth n kids) → IsSigned (suc n) (terms + 1) kids f old now
plus_next {n = n} {kids = kids} {f = f} {now = now} s w m =
    let u = unsigned_face (nth n kids) in
    record {
      so = plus_term s.so u;
      used = s.used;
      has = one_more u s.has;
      within = omega arith;
      whole = next_whole n s.so false kids w m s.whole;
      owed = λ us r o. owes_as (s.owed us r o) (ap (λ (ts : Trees). append (parts s.so) (append (unsigned_faces ts) us)) (behind-next n kids w)
          ∙ sym (append_assoc (parts s.so) (more u none) (append (unsigned_faces (behind (suc n) kids)) us)) ∙ ap (λ (ts : Trees). append ts (append (unsigned_faces (behind (suc n) kids)) us)) (sym (plus_parts s.so u))) (omega arith);
      bytes = omega (arith, s.bytes);
      long = omega (arith, s.long);
    }

pub minus_next : {n terms : ℕ} {kids : Trees} {f : Forest} {old now mid new : List Pending} → IsSigned n terms kids f old now → n < count kids → true ≡ has_minus (nth n kids) → IsAdded now mid terms → length mid + 1 ≤ length now + terms
    → ((us : Trees) (r : ℕ) → Owes mid f us r → 2 ≤ count us → Owes new f (more (sub (nth 0 (first 2 us)) (nth 1 (first 2 us))) (behind 2 us)) (r + 8)) → length new ≡ length mid + 1 → IsSigned (suc n) 1 kids f old new
minus_next {n = n} {terms = terms} {kids = kids} {f = f} {now = now} s w m a l p k =
    let u = unsigned_face (nth n kids) in
    record {
      so = minus_term s.so u;
      used = s.used + 8 * (terms - 1) + 8;
      has = one_part (sub (as_tree s.so) u);
      within = omega arith;
      whole = next_whole n s.so true kids w m s.whole;
      owed = λ us r o.
          let rest = append (unsigned_faces (behind (suc n) kids)) us in
          let joined = added a s.has (s.owed us r o) in
          let here = owes_as {s = r + s.used + 8 * (terms - 1)} joined (ap (λ (ts : Trees). more (as_tree s.so) (append (unsigned_faces ts) us)) (behind-next n kids w)) (omega arith) in
          owes_as (p (more (as_tree s.so) (more u rest)) (r + s.used + 8 * (terms - 1)) here (omega arith)) refl (omega arith);
      bytes = omega (arith, s.bytes, s.has.some);
      long = omega (arith, s.long, l, k);
    }

-- all of them
pub signed_all : {n terms : ℕ} {kids : Trees} {f : Forest} {old now new : List Pending} → IsSigned n terms kids f old now → count kids ≤ n → IsAdded now new terms
    → (us : Trees) (r : ℕ) → Owes old f (more (face (nth 0 kids)) (append (unsigned_faces (behind 1 kids)) us)) r → Owes new f (more (face_of_sum kids) us) (r + 8 * (count kids - 1))
signed_all {n = n} {terms = terms} {kids = kids} s w a us r o =
    let end = behind-all n kids w in
    let here = owes_as {s = r + s.used} (s.owed us r o) (ap (λ (ts : Trees). append (parts s.so) (append (unsigned_faces ts) us)) end) (omega arith) in
    owes_as (added a s.has here) (ap (λ (t : Tree). more t us) (ap (λ (ts : Trees). as_tree (next_terms s.so ts)) (sym end) ∙ s.whole)) (omega (arith, s.bytes, s.within, s.has.some))

pub added_length : {old new : List Pending} (n : ℕ) → 1 ≤ n → (n ≤ 1 → new ≡ old) → (1 < n → length new ≡ length old + 1) → length new + 1 ≤ length old + n
added_length n s one some = grind arith
