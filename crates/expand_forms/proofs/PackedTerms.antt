-- Exponents taken from a term's factors, name by name, and packed.
use Rattle.expand_forms.proofs.Shared.{unpacked_length, ◌≡◌, ◌≤◌, ◌<◌, ℕ, zero, suc, ◌+◌, ◌-◌, ◌*◌, ◌/◌, ◌%◌, ◌^◌, List, [], ◌∷◌, ◌++◌, length, get_or, drop, replicate, Option, Some, inl, inr, refl}
use Rattle.expand_forms.proofs.Shared.{sym, ap, ◌∙◌, subst, arith, append-nil, append_assoc, reverse, mul_assoc, mul_comm, length-reverse, reverse-append, name_of, Name, Less, nat_cmp, slice_cmp}
use Rattle.expand_forms.proofs.Shared.{AreAhead, BeginsWith, Factor, IsMonomial, IsNamed, IsRead, Monomial, factor, Forest, AreNames, AreOf, AreZero, IsBelowNames, IsOfNames, factors_of, led}
use Rattle.expand_forms.proofs.Shared.{AreComing, BeginsOtherwise, IsTaken, monomial_of, unpacked, Visit, AllHaveNames, all_have, below_has, dropped, dropped_all, later_names}
use Rattle.expansions.proofs.{NamedMonomials.{packed_length}, TreeMonomials.{below_more}}
use Rattle.expansions.specs.Named.{named, names_of}
use Rattle.expand_forms.specs.declared.factors.Factor.{Factor as Read}
use Rattle.polynomials.specs.Polynomials.{Monomial as Packed}

-- ---- the exponent of one name

led_some : (y : List ℕ) (n : ℕ) (r : Monomial) → 1 ≤ n → factor y n ∷ r ≡ led y n r
led_some y zero r l = absurd (omega arith)
led_some y (suc n) r l = refl

-- the first factor is taken
pub taken_first : {m : Monomial} {next left : Option Read} {nodes behind : List Visit} {base : Forest} (x : List ℕ) (e : ℕ) (y : Read) → AreComing m next nodes base → next ≡ Some y
    → name_of y.name ≡ x
    → ((f : Factor) → IsRead y f → e ≡ f.exponent) → BeginsWith left (drop 1 m) → AreAhead (drop 1 (drop 1 m)) behind base → IsTaken m x e left behind base
taken_first {m} {next} {left} {nodes} {behind} {base} x e y h is name exponent begins ahead =
    let (f, r, split, read) = subst (λ (o : Option Read). BeginsWith o m) is h.begins in
    let rest : drop 1 m ≡ r = ap (drop 1) split in
    let w : IsMonomial (f ∷ r) = subst IsMonomial split h.monomial in
    let same : f.name ≡ x = sym read.name ∙ name in
    let some : e ≡ f.exponent = exponent f read in
    record {
      rest = r;
      split = split ∙ (λ i. factor (same i) f.exponent ∷ r) ∙ led_some x f.exponent r w.0 ∙ ap (λ (n : ℕ). led x n r) (sym some);
      other = λ z. absurd (omega (arith, w.0, some, z));
      coming = record { monomial = w.2; begins = subst (BeginsWith left) rest begins; ahead = subst (λ (k : Monomial). AreAhead (drop 1 k) behind base) rest ahead };
    }

-- a factor that is read
pub exponent_of : {m : Monomial} {next : Option Read} {nodes : List Visit} {base : Forest} (y : Read) → AreComing m next nodes base → next ≡ Some y
    → (f : Factor) × IsRead y f
exponent_of {m} y h is =
    let (f, r, split, read) = subst (λ (o : Option Read). BeginsWith o m) is h.begins in
    (f, read)

-- ---- so many names passed

-- the exponents of the first i names are packed, and the other factors are to come
pub record IsPackedTo (ns : List (List ℕ)) (m : Monomial) (i k : ℕ) (next : Option Read) (nodes : List Visit) (base : Forest) : Type 0 where
  pub below : k < 256 ^ i
  pub rest : Monomial
  pub split : m ≡ factors_of ns (reverse (unpacked i k)) ++ rest
  pub names : AllHaveNames (drop i ns) rest
  pub coming : AreComing rest next nodes base

pub packed_none : {ns : List (List ℕ)} {m : Monomial} {next : Option Read} {nodes : List Visit} {base : Forest} → IsNamed ns m → AreComing m next nodes base → IsPackedTo ns m 0 0 next nodes base
packed_none {ns} {m} h c = record { below = omega arith; rest = m; split = none ns; names = all_have ns m h; coming = c }
  where
    none : (xs : List (List ℕ)) → m ≡ factors_of xs [] ++ m
    none [] = refl
    none (x ∷ xs) = refl

factors_end : (ns : List (List ℕ)) (es : Packed) (e : ℕ) (x : List ℕ) → length es < length ns → x ≡ get_or ns (length es) x → factors_of ns (es ++ e ∷ []) ≡ factors_of ns es ++ led x e []
factors_end [] es e x l h = absurd (omega arith)
factors_end (y ∷ ns) [] e x l h = (λ i. led (sym h i) e (factors_of ns [])) ∙ ap (led x e) (none ns)
  where
    none : (xs : List (List ℕ)) → factors_of xs [] ≡ []
    none [] = refl
    none (z ∷ xs) = refl
factors_end (y ∷ ns) (d ∷ es) e x l h = ap (led y d) (factors_end ns es e x (omega arith) h) ∙ led_append d
  where
    led_append : (n : ℕ) → led y n (factors_of ns es ++ led x e []) ≡ led y n (factors_of ns es) ++ led x e []
    led_append zero = refl
    led_append (suc n) = refl

led_before : (x : List ℕ) (e : ℕ) (m : Monomial) → led x e [] ++ m ≡ led x e m
led_before x zero m = refl
led_before x (suc e) m = refl

unpacked_more : (i k e : ℕ) → e < 256 → unpacked (suc i) (k * 256 + e) ≡ e ∷ unpacked i k
unpacked_more i k e l =
    let low : (k * 256 + e) % 256 ≡ e = omega arith in
    let high : (k * 256 + e) / 256 ≡ k = omega arith in
    λ z. low z ∷ unpacked i (high z)

turned_more : (i k e : ℕ) → e < 256 → reverse (unpacked (suc i) (k * 256 + e)) ≡ reverse (unpacked i k) ++ e ∷ []
turned_more i k e l = ap reverse (unpacked_more i k e l) ∙ reverse-append (e ∷ []) (unpacked i k)

-- what comes behind a name's factor is above it
above : (x : List ℕ) (ns : List (List ℕ)) (e : ℕ) (m : Monomial) → IsBelowNames x ns → IsMonomial (led x e m) → AllHaveNames (x ∷ ns) (led x e m) → (e ≡ 0 → BeginsOtherwise x m) → AllHaveNames ns m
above x ns zero [] b w h o = tt
above x ns zero (f ∷ m) b w (inl e, h) o = absurd (o refl (sym e))
above x ns zero (f ∷ m) b w (inr g, h) o =
    let l : slice_cmp nat_cmp x f.name ≡ Less = below_has x f.name ns b g in
    later_names x ns (f ∷ m) (inr g, h) (l, below_more x f.name m l w.1)
above x ns (suc e) m b w h o = later_names x ns m h.1 w.1

below_next : (i k e : ℕ) → k < 256 ^ i → e < 256 → k * 256 + e < 256 ^ suc i
below_next i k e h l = grind arith

names_at : (ns : List (List ℕ)) (i : ℕ) (x : List ℕ) (xs : List (List ℕ)) → AreNames ns → drop i ns ≡ x ∷ xs → IsBelowNames x xs
names_at [] zero x xs h e = absurd (cc)
names_at [] (suc i) x xs h e = absurd (cc)
names_at (y ∷ ns) zero x xs h e = subst (λ (zs : List (List ℕ)). FirstBelow zs) e h.0
  where
    FirstBelow : List (List ℕ) → Type 0
    FirstBelow [] = Unit {0}
    FirstBelow (z ∷ zs) = IsBelowNames z zs
names_at (y ∷ ns) (suc i) x xs h e = names_at ns i x xs h.1 e

pub packed_more : {ns : List (List ℕ)} {m : Monomial} {i k : ℕ} {next left : Option Read} {nodes behind : List Visit} {base : Forest} (x : List ℕ) (e j : ℕ) (p : IsPackedTo ns m i k next nodes base) → AreNames ns → i < length ns → x ≡ get_or ns i x
    → e < 256 → IsTaken p.rest x e left behind base → j ≡ suc i → IsPackedTo ns m j (k * 256 + e) left behind base
packed_more {ns} {m} {i} {k} {next} {left} {nodes} {behind} {base} x e j p h l at small t q =
    subst (λ (n : ℕ). IsPackedTo ns m n (k * 256 + e) left behind base) (sym q)
    (let es : Packed = reverse (unpacked i k) in
    let many : length es ≡ i = length-reverse (unpacked i k) ∙ unpacked_length i k in
    let first : drop i ns ≡ x ∷ drop (suc i) ns = dropped ns i x l at in
    record {
      below = below_next i k e p.below small;
      rest = t.rest;
      split = p.split ∙ ap (λ (n : Monomial). factors_of ns es ++ n) (t.split ∙ sym (led_before x e t.rest)) ∙ sym (append_assoc (factors_of ns es) (led x e []) t.rest)
          ∙ ap (λ (n : Monomial). n ++ t.rest) (sym (factors_end ns es e x (omega (arith, many, l)) (at ∙ ap (λ (n : ℕ). get_or ns n x) (sym many)))
          ∙ ap (factors_of ns) (sym (turned_more i k e small)));
      names = above x (drop (suc i) ns) e t.rest (names_at ns i x (drop (suc i) ns) h first) (subst IsMonomial t.split (p.coming).monomial)
          (subst (AllHaveNames (x ∷ drop (suc i) ns)) t.split (subst (λ (xs : List (List ℕ)). AllHaveNames xs p.rest) first p.names)) t.other;
      coming = t.coming;
    })

pub name_at : (xs : List Name) (i : ℕ) (y : Name) → i < length xs → y ≡ get_or xs i y → name_of y ≡ get_or (names_of xs) i (name_of y)
name_at [] i y l e = absurd (omega arith)
name_at (x ∷ xs) zero y l e = ap name_of e
name_at (x ∷ xs) (suc i) y l e = name_at xs i y (omega arith) e

-- ---- all names passed

pub overflow : (i k e : ℕ) → i < 8 → k < 256 ^ i → e < 256 → k * 256 + e < 2 ^ 64
overflow zero k e l h s = omega arith
overflow (suc zero) k e l h s = omega arith
overflow (suc (suc zero)) k e l h s = omega arith
overflow (suc (suc (suc zero))) k e l h s = omega arith
overflow (suc (suc (suc (suc zero)))) k e l h s = omega arith
overflow (suc (suc (suc (suc (suc zero))))) k e l h s = omega arith
overflow (suc (suc (suc (suc (suc (suc zero)))))) k e l h s = omega arith
overflow (suc (suc (suc (suc (suc (suc (suc zero))))))) k e l h s = omega arith
overflow (suc (suc (suc (suc (suc (suc (suc (suc i)))))))) k e l h s = absurd (omega arith)

all_names : (ns : List (List ℕ)) (i : ℕ) (m : Monomial) → i ≡ length ns → AllHaveNames (drop i ns) m → m ≡ []
all_names ns i m e h = by m (subst (λ (xs : List (List ℕ)). AllHaveNames xs m) (dropped_all ns i (omega arith)) h)
  where
    by : (n : Monomial) → AllHaveNames [] n → n ≡ []
    by [] h = refl
    by (f ∷ n) h = absurd h.0

power_more : (j : ℕ) → 256 ^ suc j ≡ 256 ^ j * 256
power_more j = grind arith

shift_is : (j k : ℕ) → k * 256 ^ suc j ≡ (k * 256 ^ j) * 256
shift_is j k = ap (λ (n : ℕ). k * n) (power_more j) ∙ sym (mul_assoc k (256 ^ j) 256)

shift_more : (j k : ℕ) → (k * 256 ^ suc j) % 256 ≡ 0
shift_more j k = omega (arith, shift_is j k)

shift_less : (j k : ℕ) → (k * 256 ^ suc j) / 256 ≡ k * 256 ^ j
shift_less j k = omega (arith, shift_is j k)

shift_moved : (j k : ℕ) → k * 256 * 256 ^ j ≡ k * 256 ^ suc j
shift_moved j k = mul_assoc k 256 (256 ^ j) ∙ ap (λ (n : ℕ). k * n) (mul_comm 256 (256 ^ j) ∙ sym (power_more j))

shifted_unpacked : (j n k : ℕ) → unpacked (j + n) (k * 256 ^ j) ≡ replicate j 0 ++ unpacked n k
shifted_unpacked zero n k = let e : 0 + n ≡ n = omega arith in let f : k * 256 ^ 0 ≡ k = omega arith in λ i. unpacked (e i) (f i)
shifted_unpacked (suc j) n k =
    let e : suc j + n ≡ suc (j + n) = omega arith in
    ap (λ (i : ℕ). unpacked i (k * 256 ^ suc j)) e ∙ (λ i. shift_more j k i ∷ unpacked (j + n) (shift_less j k i)) ∙ ap (λ (xs : Packed). 0 ∷ xs) (shifted_unpacked j n k)

factors_front : (ns : List (List ℕ)) (es zs : Packed) → length es ≡ length ns → factors_of ns (es ++ zs) ≡ factors_of ns es
factors_front [] es zs l = refl
factors_front (x ∷ ns) [] zs l = absurd (omega arith)
factors_front (x ∷ ns) (e ∷ es) zs l = ap (led x e) (factors_front ns es zs (omega arith))

of_front : (ns : List (List ℕ)) (es zs : Packed) → length es ≡ length ns → AreZero zs → AreOf ns (es ++ zs)
of_front [] [] zs l h = h
of_front [] (e ∷ es) zs l h = absurd (omega arith)
of_front (x ∷ ns) [] zs l h = absurd (omega arith)
of_front (x ∷ ns) (e ∷ es) zs l h = of_front ns es zs (omega arith) h

zero_push : (zs : Packed) → AreZero zs → AreZero (zs ++ 0 ∷ [])
zero_push [] h = (refl, tt)
zero_push (z ∷ zs) h = (h.0, zero_push zs h.1)

zero_turned : (j : ℕ) → AreZero (reverse (replicate j 0))
zero_turned zero = tt
zero_turned (suc j) = subst AreZero (sym (reverse-append (0 ∷ []) (replicate j 0))) (zero_push (reverse (replicate j 0)) (zero_turned j))

pub record IsPacked (ns : List (List ℕ)) (m : Monomial) (k : ℕ) : Type 0 where
  pub monomial : named ns (monomial_of k) ≡ m
  pub names : IsOfNames ns (monomial_of k)

pub packed_all : {ns : List (List ℕ)} {m : Monomial} {i k s : ℕ} {next : Option Read} {nodes : List Visit} {base : Forest} → IsPackedTo ns m i k next nodes base → i ≡ length ns → length ns ≤ 8
    → s ≡ k * 256 ^ (8 - i) → IsPacked ns m s
unfolding monomial_of
packed_all {ns} {m} {i} {k} {s} p e few q =
    let es : Packed = reverse (unpacked i k) in
    let many : length es ≡ length ns = length-reverse (unpacked i k) ∙ unpacked_length i k ∙ e in
    let zs : Packed = reverse (replicate (8 - i) 0) in
    let eight : 8 ≡ (8 - i) + i = omega arith in
    let is : reverse (monomial_of s) ≡ es ++ zs =
    ap (λ (n : ℕ). reverse (unpacked n s)) eight ∙ ap (λ (n : ℕ). reverse (unpacked ((8 - i) + i) n)) q ∙ ap reverse (shifted_unpacked (8 - i) i k)
    ∙ reverse-append (replicate (8 - i) 0) (unpacked i k) in
    record {
      monomial = ap (factors_of ns) is ∙ factors_front ns es zs many ∙ sym (p.split ∙ ap (λ (n : Monomial). factors_of ns es ++ n) (all_names ns i p.rest e p.names) ∙ append-nil (factors_of ns es));
      names = (packed_length s, subst (AreOf ns) (sym is) (of_front ns es zs many (zero_turned (8 - i))));
    }

-- ---- zeros behind the exponents

pub record IsShifted (packed names shifted place : ℕ) : Type 0 where
  pub below : shifted < 256 ^ place
  pub same : shifted * 256 ^ (8 - place) ≡ packed * 256 ^ (8 - names)

pub shift_fits : (p s : ℕ) → p < 8 → s < 256 ^ p → s * 256 < 2 ^ 64
shift_fits p s l h = omega (arith, overflow p s 0 l h (omega arith))

pub shifted_more : (packed names shifted place : ℕ) → place < 8 → IsShifted packed names shifted place → IsShifted packed names (shifted * 256) (place + 1)
shifted_more packed names shifted place l h =
    let e : 8 - place ≡ suc (8 - (place + 1)) = omega arith in
    let f : suc place ≡ place + 1 = omega arith in
    record {
      below = subst (λ (n : ℕ). shifted * 256 < 256 ^ n) f (omega (arith, below_next place shifted 0 h.below (omega arith)));
      same = shift_moved (8 - (place + 1)) shifted ∙ ap (λ (n : ℕ). shifted * 256 ^ n) (sym e) ∙ h.same;
    }

pub shifted_all : (packed names shifted place : ℕ) → place ≡ 8 → IsShifted packed names shifted place → shifted ≡ packed * 256 ^ (8 - names)
shifted_all packed names shifted place e h = let f : shifted ≡ shifted * 256 ^ (8 - 8) = omega arith in f ∙ ap (λ (n : ℕ). shifted * 256 ^ (8 - n)) (sym e) ∙ h.same
