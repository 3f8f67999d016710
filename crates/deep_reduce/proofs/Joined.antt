-- Factors of reduced trees before and after a joining: their loads and nests.
use Rattle.deep_reduce.proofs.Shared.{◌≡◌, ℕ, zero, suc, ◌+◌, ◌≤◌, true, refl, ◌∙◌, arith, inl, inr, subst, and_parts, nest_of, load_of_factors, is_number, are_numbers, are_reduced, Tree, mult, Trees}
use Rattle.deep_reduce.proofs.Shared.{none, more, append, number_test, number_words, factors_of, nest_of_joint, opened, others_in, is_partner, IsPairAt, joined_pair, not-true, one_base}
use Rattle.deep_reduce.proofs.Shared.{Contains-append_left, Contains-append_right, Contains-append_cases, names, names_of, Rewrites, KeepsMeanings-product_more, keeps, kept, Rewrites-refl, joint}
use Rattle.deep_reduce.proofs.{Shared.{joined, partners_of_pair, no_new_name, joined_keeps, names_joined, flat_load}, Heavy.{heavy_base}}
use Rattle.deep_reduce.proofs.Joints.{transparent_exponent, joint_load, joint_nest, joint_below}

-- ---- factors opened, without their Numbers

-- where all are Numbers no factor is left
number_opened : (t : Tree) (us : Trees) → is_number t ≡ true → others_in (append (factors_of t) us) ≡ others_in us
number_opened t us h = grind (arith, number_words, number_test)

pub numbers_opened : (ts : Trees) → are_numbers ts ≡ true → others_in (opened ts) ≡ none
numbers_opened none h = refl
numbers_opened (more t ts) h = let (p, q) = and_parts _ _ h in number_opened t (opened ts) p ∙ numbers_opened ts q

-- ---- a joining

-- each tree with a sum as its exponent nests no more than n once that sum is reduced
abbrev pub JointsBelow : ℕ → Trees → Type 0
JointsBelow n none = Unit {0}
JointsBelow n (more t ts) = (nest_of_joint t ≤ n) × JointsBelow n ts

pub all_below : (n : ℕ) (ts : Trees) → nest_of ts ≤ n → JointsBelow n ts
all_below n none h = tt
all_below n (more t ts) h = (omega (arith, joint_below t), all_below n ts (omega arith))

pub record IsLessLoaded (ts us : Trees) : Type 0 where
  pub load : load_of_factors us + 2 ≤ load_of_factors ts
  pub nests : JointsBelow (nest_of ts) us

below_more : (n m : ℕ) (ts : Trees) → n ≤ m → JointsBelow n ts → JointsBelow m ts
below_more n m none l h = tt
below_more n m (more t ts) l h = (omega (arith, h.0), below_more n m ts l h.1)

-- two neighbours joined
pub pair_loaded : (n : ℕ) (ts : Trees) → are_reduced ts ≡ true → IsPairAt n ts → IsLessLoaded ts (joined_pair n (suc n) ts)
pair_loaded zero (more t (more u ts)) r p = grind (arith, and_parts, not-true, one_base, heavy_base, transparent_exponent, joint_load, joint_nest, flat_load, all_below)
pair_loaded (suc n) (more t ts) r p =
    let l = pair_loaded n ts (and_parts _ _ r).1 (record { within = omega (arith, p.within); pair = p.pair }) in
    record { load = omega (arith, l.load); nests = (omega (arith, joint_below t), below_more _ _ (joined_pair n (suc n) ts) (omega arith) l.nests) }
pair_loaded n ts r p = absurd (let w = p.within in omega arith)

-- ---- meanings

pub factors_rewritten : {t u : Tree} {ts us : Trees} → Rewrites t u → Rewrites (mult ts) (mult us) → Rewrites (mult (more t ts)) (mult (more u us))
factors_rewritten {t} {u} {ts} {us} h k = record {
  no_new_name = record {
    name = λ x c. elim (Contains-append_cases (names u) (names_of us) x c)
        [ inl l ↦ Contains-append_left (names t) (names_of ts) x (h.no_new_name.name x l) | inr r ↦ Contains-append_right (names t) (names_of ts) x (k.no_new_name.name x r) ];
  };
  meanings = keeps (KeepsMeanings-product_more (kept h.meanings) (kept k.meanings));
}

first_joined : (t u : Tree) (ts : Trees) → is_partner t u ≡ true → joined (more t (more u ts)) ≡ more (joint t u) ts
first_joined t u ts h = grind arith

pub pair_rewritten : (n : ℕ) (ts : Trees) → IsPairAt n ts → Rewrites (mult ts) (mult (joined_pair n (suc n) ts))
pair_rewritten zero (more t (more u ts)) p =
    let all = more t (more u ts) in
    subst (λ (us : Trees). Rewrites (mult all) (mult us)) (first_joined t u ts (partners_of_pair t u p.pair)) (record {
      no_new_name =
          no_new_name (names_joined all);
      meanings = keeps (joined_keeps all);
    })
pair_rewritten (suc n) (more t ts) p = let w = p.within in factors_rewritten (Rewrites-refl t) (pair_rewritten n ts (record { within = omega arith; pair = p.pair }))
pair_rewritten n ts p = absurd (let w = p.within in omega arith)
