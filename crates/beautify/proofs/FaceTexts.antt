-- The face of a reduced tree: it can be written, has no new name, and its text reads as it.
use Rattle.beautify.proofs.Shared.{◌≡◌, ℕ, zero, suc, nat_abs, inl, inr, List, [], ◌∷◌, Bool, true, false, refl, sym, ap, ◌∙◌, subst, arith, Contains, ⊤, Tree, num, symbol, undef, add, mult, power}
use Rattle.beautify.proofs.Shared.{root, neg, sub, div, Trees, none, more, append, AllParts, AllPartsOf, is_mult, is_undef, whole_num, HasTwo, IsComplete, AreComplete, SoFar, single, summed, as_tree}
use Rattle.beautify.proofs.Shared.{face, has_minus, with_minus, unsigned_face, unless_one, product_of, fraction_of, power_below, exponent_below, factor_above, factor_below, factors_above}
use Rattle.beautify.proofs.Shared.{factors_below, face_of_sum, next_term, next_terms, IsTerm, is_reduced, NoneIs, HasForm, IsReduced, reduced_words, AllParts-zip, is_name, names, names_of, Within}
use Rattle.beautify.proofs.Shared.{within_both, within_left, within_none, within_right, within_trans, HasNoNewName, text, IsWritable, AreWritable, IsNamed, HasNames, Reads, text_reads}
use Rattle.beautify.proofs.Trees.{unless_one_by, power_below_by}

module _ (known : List (List ℕ)) where
  -- what the face of a tree asks of each of its nodes
  abbrev IsFaceable : Tree → Type 0
  IsFaceable (symbol x) = (is_name x ≡ true) × Contains known x
  IsFaceable (add none) = ⊥
  IsFaceable (mult ts) = NoneIs is_mult ts
  IsFaceable undef = ⊥
  IsFaceable (neg a) = ⊥
  IsFaceable (sub a b) = ⊥
  IsFaceable (div a b) = ⊥
  IsFaceable _ = ⊤

  -- it is complete, can be written, and its names are known
  record Ready (t : Tree) : Type 0 where
    complete : IsComplete t
    written : IsWritable t
    named : Within known (names t)

  record AreReady (ts : Trees) : Type 0 where
    complete : AreComplete ts
    written : AreWritable ts
    named : Within known (names_of ts)

  ready_none : AreReady none
  ready_none = record { complete = tt; written = tt; named = within_none known }

  ready_whole : (n : ℕ) → Ready (whole_num n)
  ready_whole n = record { complete = tt; written = (n, refl); named = within_none known }

  ready_symbol : (x : List ℕ) → (is_name x ≡ true) × Contains known x → Ready (symbol x)
  ready_symbol x h = record { complete = tt; written = h.0; named = record { name = λ y m. subst (Contains known) (only x y m) h.1 } }
    where
      only : (x y : List ℕ) → Contains (x ∷ []) y → x ≡ y
      only x y m = grind arith

  ready_minus : (b : Bool) (t : Tree) → Ready t → Ready (with_minus b t)
  ready_minus true t h = record { complete = h.complete; written = h.written; named = h.named }
  ready_minus false t h = h

  ready_more : (t : Tree) (ts : Trees) → Ready t → AreReady ts → AreReady (more t ts)
  ready_more t ts h k = record { complete = (h.complete, k.complete); written = (h.written, k.written); named = within_both known (names t) (names_of ts) h.named k.named }

  ready_pair : (a b : Tree) → Ready a → Ready b → AreReady (more a (more b none))
  ready_pair a b h k = ready_more a (more b none) h (ready_more b none k ready_none)

  ready_unless_one : (n : ℕ) (ts : Trees) → AreReady ts → AreReady (unless_one n ts)
  ready_unless_one n ts h = unless_one_by AreReady n ts h (ready_more (whole_num n) ts (ready_whole n) h)

  ready_product : (ts : Trees) → AreReady ts → Ready (product_of ts)
  ready_product none h = ready_whole 1
  ready_product (more t none) h = record { complete = h.complete.0; written = h.written.0; named = within_trans h.named (within_left (names t) (names_of none)) }
  ready_product (more t (more u ts)) h = record { complete = (h.complete, tt); written = h.written; named = h.named }

  ready_div : (a b : Tree) → Ready a → Ready b → Ready (div a b)
  ready_div a b h k = record { complete = (h.complete, k.complete); written = (h.written, k.written); named = within_both known (names a) (names b) h.named k.named }

  ready_sub : (a b : Tree) → Ready a → Ready b → Ready (sub a b)
  ready_sub a b h k = record { complete = (h.complete, k.complete); written = (h.written, k.written); named = within_both known (names a) (names b) h.named k.named }

  ready_power : (b e : Tree) → Ready b → Ready e → Ready (power b e)
  ready_power b e h k = record { complete = (h.complete, k.complete); written = (h.written, k.written); named = within_both known (names b) (names e) h.named k.named }

  ready_root : (a : Tree) → Ready a → Ready (root a)
  ready_root a h = record { complete = h.complete; written = h.written; named = h.named }

  ready_sum : (ts : Trees) → HasTwo ts → AreReady ts → Ready (add ts)
  ready_sum ts two h = record { complete = (h.complete, two); written = h.written; named = h.named }

  ready_fraction : (above below : Trees) → AreReady above → AreReady below → Ready (fraction_of above below)
  ready_fraction above none h k = ready_product above h
  ready_fraction above (more t ts) h k = ready_div (product_of above) (product_of (more t ts)) (ready_product above h) (ready_product (more t ts) k)

  ready_power_below : (b : Tree) (n : ℕ) → Ready b → Ready (power_below b n)
  ready_power_below b n h = power_below_by Ready b n h (ready_power b (whole_num n) h (ready_whole n))

  ready_append : (us : Trees) (t : Tree) → AreReady us → Ready t → AreReady (append us (more t none))
  ready_append none t h k = ready_more t none k ready_none
  ready_append (more u us) t h k =
      let first : Ready u = record { complete = h.complete.0; written = h.written.0; named = within_trans h.named (within_left (names u) (names_of us)) } in
      let others : AreReady us = record { complete = h.complete.1; written = h.written.1; named = within_trans h.named (within_right (names u) (names_of us)) } in
      ready_more u (append us (more t none)) first (ready_append us t others k)

  two_appended : (us : Trees) (t : Tree) → HasTwo us → HasTwo (append us (more t none))
  two_appended (more a (more b us)) t h = tt
  two_appended _ t h = absurd h

  ready_next : (s : SoFar) (b : Bool) (t : Tree) → Ready (as_tree s) → Ready t → Ready (as_tree (next_term s b t))
  ready_next s true t h k = ready_sub (as_tree s) t h k
  ready_next (summed us) false t h k =
      ready_sum (append us (more t none)) (two_appended us t h.complete.1) (ready_append us t (record { complete = h.complete.0; written = h.written; named = h.named }) k)
  ready_next s false t h k = ready_sum (more (as_tree s) (more t none)) tt (ready_pair (as_tree s) t h k)

  signed : (t : Tree) → Ready (unsigned_face t) → Ready (face t)
  signed t r = ready_minus (has_minus t) (unsigned_face t) r

  mutual
    ready_face : (t : Tree) → AllParts IsFaceable t → Ready (unsigned_face t)
    ready_face (num q) h = ready_fraction (unless_one (nat_abs q.num) none) (unless_one q.den none) (ready_unless_one (nat_abs q.num) none ready_none) (ready_unless_one q.den none ready_none)
    ready_face (symbol x) h = ready_symbol x h
    ready_face undef h = absurd h
    ready_face (add (more t ts)) h = ready_terms (single (face t)) (signed t (ready_face t h.1.0)) ts h.1.1
    ready_face (mult ts) h = ready_fraction (factors_above ts) (factors_below ts) (ready_above ts h.0 h.1) (ready_below ts h.0 h.1)
    ready_face (power b e) h = by (exponent_below e) (signed b (ready_face b h.1)) (signed e (ready_face e h.2))
      where
        by : (k : ℕ) → Ready (face b) → Ready (face e) → Ready (elim k [ zero ↦ power (face b) (face e) | suc n ↦ fraction_of none (more (power_below (face b) (suc n)) none) ])
        by zero m n = ready_power (face b) (face e) m n
        by (suc p) m n = ready_fraction none (more (power_below (face b) (suc p)) none) ready_none (ready_more (power_below (face b) (suc p)) none (ready_power_below (face b) (suc p) m) ready_none)
    ready_face (root a) h = ready_root (face a) (signed a (ready_face a h.1))
    ready_face t h = absurd (h.0)

    ready_terms : (s : SoFar) → Ready (as_tree s) → (ts : Trees) → AllPartsOf IsFaceable ts → Ready (as_tree (next_terms s ts))
    ready_terms s k none h = k
    ready_terms s k (more t ts) h =
        ready_terms (next_term s (has_minus t) (unsigned_face t)) (ready_next s (has_minus t) (unsigned_face t) k (ready_face t h.0)) ts h.1

    ready_above : (ts : Trees) → NoneIs is_mult ts → AllPartsOf IsFaceable ts → AreReady (factors_above ts)
    ready_above none g h = ready_none
    ready_above (more t ts) g h = ready_factor_above t g.0 h.0 (factors_above ts) (ready_above ts g.1 h.1)

    ready_below : (ts : Trees) → NoneIs is_mult ts → AllPartsOf IsFaceable ts → AreReady (factors_below ts)
    ready_below none g h = ready_none
    ready_below (more t ts) g h = ready_factor_below t g.0 h.0 (factors_below ts) (ready_below ts g.1 h.1)

    ready_factor_above : (t : Tree) → is_mult t ≡ false → AllParts IsFaceable t → (rest : Trees) → AreReady rest → AreReady (factor_above t rest)
    ready_factor_above (num q) g h rest r = ready_unless_one (nat_abs q.num) rest r
    ready_factor_above (symbol x) g h rest r = ready_more (symbol x) rest (ready_symbol x h) r
    ready_factor_above undef g h rest r = absurd h
    ready_factor_above (add (more t ts)) g h rest r = ready_more (face_of_sum (more t ts)) rest (ready_terms (single (face t)) (signed t (ready_face t h.1.0)) ts h.1.1) r
    ready_factor_above (mult ts) g h rest r = cc
    ready_factor_above (power b e) g h rest r = by (exponent_below e) (signed b (ready_face b h.1)) (signed e (ready_face e h.2))
      where
        by : (k : ℕ) → Ready (face b) → Ready (face e) → AreReady (elim k [ zero ↦ more (power (face b) (face e)) rest | suc n ↦ rest ])
        by zero m n = ready_more (power (face b) (face e)) rest (ready_power (face b) (face e) m n) r
        by (suc p) m n = r
    ready_factor_above (root a) g h rest r = ready_more (root (face a)) rest (ready_root (face a) (signed a (ready_face a h.1))) r
    ready_factor_above t g h rest r = absurd (h.0)

    ready_factor_below : (t : Tree) → is_mult t ≡ false → AllParts IsFaceable t → (rest : Trees) → AreReady rest → AreReady (factor_below t rest)
    ready_factor_below (num q) g h rest r = ready_unless_one q.den rest r
    ready_factor_below (power b e) g h rest r = by (exponent_below e) (signed b (ready_face b h.1))
      where
        by : (k : ℕ) → Ready (face b) → AreReady (elim k [ zero ↦ rest | suc n ↦ more (power_below (face b) (suc n)) rest ])
        by zero m = r
        by (suc p) m = ready_more (power_below (face b) (suc p)) rest (ready_power_below (face b) (suc p) m) r
    ready_factor_below t g h rest r = r

  -- ---- reduced trees

  term_faceable : (ts : Trees) → IsTerm (mult ts) → NoneIs is_mult ts
  term_faceable (more (num q) (more (root (num r)) none)) h = (refl, (refl, tt))
  term_faceable _ h = absurd h

  -- a symbol of it is a name, and known
  abbrev IsKnown : Tree → Type 0
  IsKnown (symbol x) = (is_name x ≡ true) × Contains known x
  IsKnown _ = ⊤

  faceable : (t : Tree) → HasForm t → IsKnown t → IsFaceable t
  faceable (symbol x) h n = n
  faceable undef h n = elim h [ inl x ↦ x | inr x ↦ x ]
  faceable (add none) (inl h) n = absurd (omega (arith, h.0))
  faceable (add none) (inr h) n = h.two
  faceable (mult ts) (inl h) n = term_faceable ts h
  faceable (mult ts) (inr h) n = h.no_product
  faceable (neg a) h n = elim h [ inl x ↦ x | inr x ↦ x ]
  faceable (sub a b) h n = elim h [ inl x ↦ x | inr x ↦ x ]
  faceable (div a b) h n = elim h [ inl x ↦ x | inr x ↦ x ]
  faceable t h n = tt

  mutual
    all_known : (t : Tree) → HasNames t → Within known (names t) → AllParts IsKnown t
    all_known (num q) h w = tt
    all_known (symbol x) h w = (h, w.name x (0, omega arith, refl))
    all_known undef h w = tt
    all_known (add ts) h w = (tt, all_known_of ts h.1 w)
    all_known (mult ts) h w = (tt, all_known_of ts h.1 w)
    all_known (power b e) h w = (tt, all_known b h.1 (within_trans w (within_left (names b) (names e))), all_known e h.2 (within_trans w (within_right (names b) (names e))))
    all_known (root a) h w = (tt, all_known a h.1 w)
    all_known (neg a) h w = (tt, all_known a h.1 w)
    all_known (sub a b) h w = (tt, all_known a h.1 (within_trans w (within_left (names a) (names b))), all_known b h.2 (within_trans w (within_right (names a) (names b))))
    all_known (div a b) h w = (tt, all_known a h.1 (within_trans w (within_left (names a) (names b))), all_known b h.2 (within_trans w (within_right (names a) (names b))))

    all_known_of : (ts : Trees) → AllPartsOf IsNamed ts → Within known (names_of ts) → AllPartsOf IsKnown ts
    all_known_of none h w = tt
    all_known_of (more t ts) h w = (all_known t h.0 (within_trans w (within_left (names t) (names_of ts))), all_known_of ts h.1 (within_trans w (within_right (names t) (names_of ts))))

face_ready : (t : Tree) → AllParts HasForm t → HasNames t → Ready (names t) (face t)
face_ready t g n =
    let k = names t in
    signed k t (ready_face k t (AllParts-zip HasForm (IsKnown k) (IsFaceable k) (faceable k) t g (all_known k t n (record { name = λ x m. m }))))

pub face_reads : (t : Tree) → is_reduced t ≡ true → is_undef t ≡ false → HasNames t → Reads (text (face t)) (face t)
face_reads t h u n = by (reduced_words t h)
  where
    by : IsReduced t → Reads (text (face t)) (face t)
    by (inl e) = let f : true ≡ false = sym (ap is_undef e) ∙ u in cc
    by (inr g) = let r = face_ready t g n in text_reads (face t) r.complete r.written

pub face_written : (t : Tree) → is_reduced t ≡ true → HasNames t → IsWritable (face t)
face_written t h n = by (reduced_words t h)
  where
    by : IsReduced t → IsWritable (face t)
    by (inl e) = subst (λ (u : Tree). IsWritable (face u)) (sym e) tt
    by (inr g) = (face_ready t g n).written

pub face_names : (t : Tree) → is_reduced t ≡ true → HasNames t → HasNoNewName t (face t)
face_names t h n = by (reduced_words t h)
  where
    by : IsReduced t → HasNoNewName t (face t)
    by (inl e) = subst (λ (u : Tree). HasNoNewName u (face u)) (sym e) (record { name = λ x m. m })
    by (inr g) = record { name = (face_ready t g n).named.name }
