-- From a coefficient beside ordered factors to the gathered product.
use Rattle.product_reduce.proofs.Shared.{◌≡◌, true, false, refl, sym, ap, ◌∙◌, subst, arith, or_parts, and_parts, and_from, IsPermutation-trans, base_of, is_reduced, are_reduced, NoneIs}
use Rattle.product_reduce.proofs.Shared.{KeepsMeanings-refl, KeepsMeanings-product_more, Permuted, permuted_none, permuted_more, permuted_swap, permuted_trans, Permuted-sym, permuted_product}
use Rattle.product_reduce.proofs.Shared.{within_same, within_beside, names_permuted, no_new_name, keeps, reduces_after, nest_of, load_of_factors, nest_permuted, Tree, mult, Trees, none, more}
use Rattle.product_reduce.proofs.Shared.{is_undef, has_undef, names, names_of, IsSorting, list_of, Overflow, children_of, AreOthers, IsEnding, opened, others_in, IsCoefficient, coefficient_before}
use Rattle.product_reduce.proofs.{Shared.{IsGathered, IsOrdered, have_partners, SpreadingOverflows, Rewrites, none_permuted, of_lists}, Bounds.{nest_with, nest_others, nest_opened, load_with}}
use Rattle.product_reduce.proofs.{Bounds.{load_others, load_opened, load_permuted}, Finished.{product_keeps, product_within}, JointPlaces.{in_front, before_is, front_reduced, reduced-append}}
use Rattle.product_reduce.proofs.{LastSteps.{permuted_none_is}, Misfits.{permuted_one_is}, Stepped.{others_are}}

-- ---- factors that changed places

pub reduced_permuted : {ts us : Trees} → Permuted ts us → are_reduced ts ≡ true → are_reduced us ≡ true
reduced_permuted permuted_none h = refl
reduced_permuted (permuted_more {t} {ts} k) h = let (a, b) = and_parts (is_reduced t) (are_reduced ts) h in and_from _ _ a (reduced_permuted k b)
reduced_permuted (permuted_swap {t} {u} {ts}) h = grind (arith, and_from)
reduced_permuted (permuted_trans k l) h = reduced_permuted l (reduced_permuted k h)

defined_words : (ts : Trees) → has_undef ts ≡ false → NoneIs is_undef ts
defined_words none h = tt
defined_words (more t ts) h = let (a, b) = or_parts (is_undef t) (has_undef ts) h in (a, defined_words ts b)

words_defined : (ts : Trees) → NoneIs is_undef ts → has_undef ts ≡ false
words_defined none h = refl
words_defined (more t ts) h = rw h.0 (words_defined ts h.1)

pub others_permuted : {ts us : Trees} → Permuted ts us → AreOthers ts → AreOthers us
others_permuted m o = grind (arith, reduced_permuted, words_defined, none_permuted, defined_words)

-- ---- an ending of sorted factors

pub ending_before : (c : Tree) (ts us : Trees) (t : Tree) → IsSorting 0 base_of ts us → IsEnding c us t → IsEnding c ts t
ending_before c ts us t s e =
    let m = of_lists ts us s.moved in
    record {
      reduces = reduces_after (record {
        no_new_name = no_new_name (within_beside (names c) (names c) (names_of ts) (names_of us) (within_same (names c)) (names_permuted m));
        meanings = keeps (KeepsMeanings-product_more (KeepsMeanings-refl c) (permuted_product m));
      }) e.reduces;
      written = record {
        us = e.written.us;
        sorted = record { front = refl; moved = IsPermutation-trans (list_of ts) (list_of us) (list_of e.written.us) s.moved e.written.sorted.moved; rising = e.written.sorted.rising };
        is = e.written.is;
      };
      defined = e.defined;
      nest = omega (arith, e.nest, nest_permuted m);
      load = omega (arith, e.load, load_permuted m);
      number = λ x. e.number (permuted_none_is m x);
    }

pub spreading_before : (c d : Tree) (ts us : Trees) (o : Overflow) → d ≡ c → IsSorting 0 base_of ts us → SpreadingOverflows d us o → SpreadingOverflows c ts o
spreading_before c d ts us o e s h =
    subst (λ (x : Tree). SpreadingOverflows x ts o) e (record { sum = h.sum; alone = permuted_one_is h.sum (Permuted-sym (of_lists ts us s.moved)) h.alone; named = h.named })

-- ---- the gathered product

pub gathered : (c : Tree) (ts us : Trees) (new : Tree) → are_reduced ts ≡ true → has_undef ts ≡ false → IsCoefficient c (opened ts) → us ≡ others_in (opened ts) → IsOrdered c us new
    → IsGathered ts new
gathered c ts us new r d k e o =
    let os = others_in (opened ts) in
    let sorted : IsSorting 0 base_of os o.us = subst (λ (x : Trees). IsSorting 0 base_of x o.us) e o.sorted in
    let m = of_lists os o.us sorted.moved in
    let vs = coefficient_before c o.us in
    let children : children_of new ≡ vs = ap children_of o.is in
    let reduced : are_reduced vs ≡ true = ap are_reduced (before_is c o.us) ∙ reduced-append (in_front c) o.us (front_reduced c k.number) (reduced_permuted m (others_are ts r d).reduced) in
    record {
      coefficient = c;
      joinable = record { defined = d; coefficient = k; not_zero = o.not_zero; partners = ap have_partners (sym e) ∙ o.partners };
      others = o.us;
      sorted = sorted;
      is = o.is;
      rewrites = subst (Rewrites (mult ts)) (sym o.is) (record {
        no_new_name = no_new_name (product_within c ts o.us k.number (names_permuted m));
        meanings = keeps (product_keeps c ts o.us k (permuted_product m));
      });
      reduced = ap are_reduced children ∙ reduced;
      nest = omega (arith, ap nest_of children, nest_with c o.us k.number, nest_permuted m, nest_others (opened ts), nest_opened ts);
      load = omega (arith, ap load_of_factors children, load_with c o.us k.number, load_permuted m, load_others (opened ts), load_opened ts);
    }
