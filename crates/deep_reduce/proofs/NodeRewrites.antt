-- A node whose children are rewritten.
use Rattle.deep_reduce.proofs.Shared.{ℕ, ◌⊎◌, inl, inr, List, ◌++◌, Contains, Contains-append_left, Contains-append_right, Contains-append_cases, Fraction, Tree, num, symbol, undef, add, mult, power}
use Rattle.deep_reduce.proofs.Shared.{root, neg, sub, div, Trees, none, more, names, names_of, IsReducedFrom, AreAnswers, Rewrites, keeps, kept, Rewrites-refl}
use Rattle.calc_algebra.proofs.MeaningRewrites as rewrites

-- each tree is reduced from the one at its place
abbrev pub AreReducedFrom : Trees → Trees → Type 0
AreReducedFrom ts us = AreAnswers IsReducedFrom ts us

-- u is the node t over reduced children
pub data IsOver : Tree → Tree → Type 0 where
  over_number : (q : Fraction) → IsOver (num q) (num q)
  over_symbol : (x : List ℕ) → IsOver (symbol x) (symbol x)
  over_undef : IsOver undef undef
  over_sum : (ts us : Trees) → AreReducedFrom ts us → IsOver (add ts) (add us)
  over_product : (ts us : Trees) → AreReducedFrom ts us → IsOver (mult ts) (mult us)
  over_power : (b c e f : Tree) → IsReducedFrom b c → IsReducedFrom e f → IsOver (power b e) (power c f)
  over_root : (a c : Tree) → IsReducedFrom a c → IsOver (root a) (root c)
  over_neg : (a c : Tree) → IsReducedFrom a c → IsOver (neg a) (neg c)
  over_sub : (a c b d : Tree) → IsReducedFrom a c → IsReducedFrom b d → IsOver (sub a b) (sub c d)
  over_div : (a c b d : Tree) → IsReducedFrom a c → IsReducedFrom b d → IsOver (div a b) (div c d)

-- ---- names

pub both : {X : Type 0} (ks ls ms ns : List X) → ((x : X) → Contains ms x → Contains ks x) → ((x : X) → Contains ns x → Contains ls x) → (x : X) → Contains (ms ++ ns) x → Contains (ks ++ ls) x
both ks ls ms ns f g x h = by (Contains-append_cases ms ns x h)
  where
    by : Contains ms x ⊎ Contains ns x → Contains (ks ++ ls) x
    by (inl k) = Contains-append_left ks ls x (f x k)
    by (inr k) = Contains-append_right ks ls x (g x k)

names_among : (ts us : Trees) → AreReducedFrom ts us → (x : List ℕ) → Contains (names_of us) x → Contains (names_of ts) x
names_among none none h x c = c
names_among (more t ts) (more u us) h x c = both (names t) (names_of ts) (names u) (names_of us) h.0.reduces.no_new_name.name (names_among ts us h.1) x c
names_among ts us h x c = absurd h

pair_names : (a b c d : Tree) → IsReducedFrom a c → IsReducedFrom b d → (x : List ℕ) → Contains (names c ++ names d) x → Contains (names a ++ names b) x
pair_names a b c d h k x m = both (names a) (names b) (names c) (names d) h.reduces.no_new_name.name k.reduces.no_new_name.name x m

-- ---- meanings

means : {t u : Tree} → IsReducedFrom t u → rewrites.KeepsMeanings t u
means h = kept h.reduces.meanings

sum_means : (ts us : Trees) → AreReducedFrom ts us → rewrites.KeepsMeanings (add ts) (add us)
sum_means none none h = rewrites.KeepsMeanings-refl (add none)
sum_means (more t ts) (more u us) h = rewrites.KeepsMeanings-sum_more (means h.0) (sum_means ts us h.1)
sum_means ts us h = absurd h

product_means : (ts us : Trees) → AreReducedFrom ts us → rewrites.KeepsMeanings (mult ts) (mult us)
product_means none none h = rewrites.KeepsMeanings-refl (mult none)
product_means (more t ts) (more u us) h = rewrites.KeepsMeanings-product_more (means h.0) (product_means ts us h.1)
product_means ts us h = absurd h

rewrites_by : {t u : Tree} → ((x : List ℕ) → Contains (names u) x → Contains (names t) x) → rewrites.KeepsMeanings t u → Rewrites t u
rewrites_by n m = record { no_new_name = record { name = n }; meanings = keeps m }

-- the node keeps the meanings, and has no new name
pub over_rewrites : (t u : Tree) → IsOver t u → Rewrites t u
over_rewrites t u (over_number q) = Rewrites-refl (num q)
over_rewrites t u (over_symbol x) = Rewrites-refl (symbol x)
over_rewrites t u over_undef = Rewrites-refl undef
over_rewrites t u (over_sum ts us h) = rewrites_by (names_among ts us h) (sum_means ts us h)
over_rewrites t u (over_product ts us h) = rewrites_by (names_among ts us h) (product_means ts us h)
over_rewrites t u (over_power b c e f h k) = rewrites_by (pair_names b e c f h k) (rewrites.KeepsMeanings-power (means h) (means k))
over_rewrites t u (over_root a c h) = rewrites_by h.reduces.no_new_name.name (rewrites.KeepsMeanings-root (means h))
over_rewrites t u (over_neg a c h) = rewrites_by h.reduces.no_new_name.name (rewrites.KeepsMeanings-neg (means h))
over_rewrites t u (over_sub a c b d h k) = rewrites_by (pair_names a b c d h k) (rewrites.KeepsMeanings-sub (means h) (means k))
over_rewrites t u (over_div a c b d h k) = rewrites_by (pair_names a b c d h k) (rewrites.KeepsMeanings-div (means h) (means k))
