-- Listed factors, placed one by one.
use Rattle.expand_forms.proofs.Shared.{count_append, ◌≡◌, ℕ, zero, suc, ◌+◌, ◌<◌, ◌≤◌, List, [], ◌∷◌, ◌++◌, length, get_or, take, refl, sym, ap, ◌∙◌, subst, arith, Bool, true, false, if◌then◌else◌}
use Rattle.expand_forms.proofs.Shared.{num_most, Fraction, is_one_fraction, Tree, Trees, num, none, more, append, count, sizes, State, factor_tree, factor_trees, term_tree, AddsTrees, Factor}
use Rattle.expand_forms.proofs.Shared.{Monomial, summand, IsRead, led_by, Forest, join, Gives, KeepsFront, KeepsRefusals, Stands, forest, join_assoc, front_same, kept_same, represents_join, AreRead}
use Rattle.expand_forms.proofs.{AddedTrees.{adds_more, adds_none}, FactorLists.{read_length}, TermReadings.{count_factors, factors_append, led_term}}
use Rattle.expand_forms.specs.declared.factors.Factor.{Factor as Read}

-- the factor at a place
pub record IsNth (n : ℕ) (x : Read) (m : Monomial) : Type 0 where
  pub factor : Factor
  pub read : IsRead x factor
  pub next : take (n + 1) m ≡ take n m ++ factor ∷ []

nth_read : (n : ℕ) (xs : List Read) (d : Read) (m : Monomial) → AreRead xs m → n < length xs → IsNth n (get_or xs n d) m
nth_read n [] d m h l = absurd (omega arith)
nth_read n (x ∷ xs) d [] h l = absurd h
nth_read zero (x ∷ xs) d (f ∷ m) h l = record { factor = f; read = h.0; next = refl }
nth_read (suc n) (x ∷ xs) d (f ∷ m) h l =
    let r = nth_read n xs d m h.1 (omega arith) in
    let e : suc n + 1 ≡ suc (n + 1) = omega arith in
    record { factor = r.factor; read = r.read; next = ap (λ (k : ℕ). take k (f ∷ m)) e ∙ ap (λ (k : Monomial). f ∷ k) r.next }

pub read_at : {n : ℕ} {x : Read} {m : Monomial} (xs : List Read) → AreRead xs m → n < length xs → x ≡ get_or xs n x → IsNth n x m
read_at {n} {x} {m} xs h l e = subst (λ (y : Read). IsNth n y m) (sym e) (nth_read n xs x m h l)

-- one more of them is placed
pub placed_more : {n p : ℕ} {x : Read} {m : Monomial} {f g h : Forest} (r : IsNth n x m) → AddsTrees (factor_trees (take n m)) f g → Gives g h p (λ t. t ≡ factor_tree r.factor)
    → AddsTrees (factor_trees (take (n + 1) m)) f h
placed_more {n} {m = m} {f} {h = h} r a p = subst (λ (ts : Trees). AddsTrees ts f h) (factors_append (take n m) (r.factor ∷ []) ∙ ap factor_trees (sym r.next)) (adds_more a p)

-- ---- behind a coefficient

adds_both : {ts us : Trees} {f g h : Forest} → AddsTrees ts f g → AddsTrees us g h → AddsTrees (append ts us) f h
adds_both {f = f} a b = record { trees = join a.trees b.trees; whole = b.whole ∙ ap (λ (x : Forest). join x b.trees) a.whole ∙ join_assoc f a.trees b.trees; represents = represents_join a.represents b.represents }

-- the coefficient is placed, where it is not 1
pub record IsLed (q : Fraction) (placed : ℕ) (s t : State) : Type 0 where
  pub first : Trees
  pub adds : AddsTrees first (forest s) (forest t)
  pub many : placed ≡ count first
  pub led : (f : Tree) (ts : Trees) → append first (more f ts) ≡ led_by q (more f ts)
  pub most : sizes first ≤ 40
  pub kept : KeepsRefusals s t
  pub stands : Stands t
  pub front : KeepsFront [] (forest s) (forest t)

pub led_none : {q : Fraction} {s : State} → Stands s → is_one_fraction q ≡ true → IsLed q 0 s s
led_none {s = s} st e = record {
  first = none;
  adds = adds_none (forest s);
  many = refl;
  led = λ f ts. rw e refl;
  most = omega arith;
  kept = kept_same s;
  stands = st;
  front = front_same;
}

pub led_number : {q : Fraction} {s t : State} {h : ℕ} → Stands t → is_one_fraction q ≡ false → KeepsRefusals s t → KeepsFront [] (forest s) (forest t)
    → Gives (forest s) (forest t) h (λ u. u ≡ num q) → IsLed q 1 s t
led_number {q} {s} st e k w g = record {
  first = more (num q) none;
  adds = adds_more (adds_none (forest s)) g;
  many = refl;
  led = λ f ts. rw e refl;
  most = omega (arith, num_most q);
  kept = k;
  stands = st;
  front = w;
}

-- and the factors behind it
pub record IsPlaced (q : Fraction) (m : Monomial) (placed : ℕ) (f g : Forest) : Type 0 where
  pub adds : AddsTrees (led_by q (factor_trees m)) f g
  pub many : placed ≡ count (led_by q (factor_trees m))

pub led_all : {q : Fraction} {placed k : ℕ} {s t : State} (v : State) (xs : List Read) (m : Monomial) → IsLed q placed s t → AreRead xs m → 1 ≤ length xs → k ≡ length xs
    → AddsTrees (factor_trees m) (forest t) (forest v) → IsPlaced q m (placed + k) (forest s) (forest v)
led_all v [] m l h e n a = absurd (omega arith)
led_all v (x ∷ xs) [] l h e n a = absurd h
led_all {s = s} v (x ∷ xs) (f ∷ m) l h e n a =
    let same = l.led (factor_tree f) (factor_trees m) in
    record {
      adds = subst (λ (ts : Trees). AddsTrees ts (forest s) (forest v)) same (adds_both l.adds a);
      many = omega (arith, l.many, n, read_length xs m h.1, count_factors m, count_append l.first (factor_trees (f ∷ m)), ap count same);
    }

-- these are at least two
pub many_led : (q : Fraction) (xs : List Read) (m : Monomial) → AreRead xs m → (length xs ≡ 0 → ⊥) → (length xs ≡ 1 → is_one_fraction q ≡ false) → count (led_by q (factor_trees m)) ≡ 1 → ⊥
many_led q [] m h some few e = some refl
many_led q (x ∷ xs) [] h some few e = absurd h
many_led q (x ∷ xs) (f ∷ m) h some few e =
    by (is_one_fraction q) refl e
  where
    by : (b : Bool) → is_one_fraction q ≡ b → count (if b then factor_trees (f ∷ m) else more (num q) (factor_trees (f ∷ m))) ≡ 1 → ⊥
    by true o e = absurd (cc (o, few (omega (arith, e, read_length xs m h.1, count_factors m))))
    by false o e = omega (arith, e)

-- with no factor it is a number
pub led_alone : (q : Fraction) (xs : List Read) (m : Monomial) → AreRead xs m → length xs ≡ 0 → num q ≡ term_tree (summand q m)
led_alone q [] [] h e = led_term q []
led_alone q [] (f ∷ m) h e = absurd h
led_alone q (x ∷ xs) m h e = absurd (omega (arith, e))

-- ---- what they are
