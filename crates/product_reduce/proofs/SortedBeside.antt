-- Factors that are sorted beside their coefficient.
use Rattle.product_reduce.proofs.Shared.{ℕ, ◌≡◌, ◌+◌, ◌^◌, ◌∙◌, List, length, eqb, false, [], ◌∷◌, refl, sym, ap, subst, arith, IfErr, base_of, counted, SpansTree, SpansTrees, put_room, result_lacks}
use Rattle.product_reduce.proofs.Shared.{refused_as, OfOverflow, NumberFault, Tree, Trees, mult, none, size, IsSorting, State, free_of, tree_of, plain, Forest, forest, Stands, KeepsRefusals, IsHanded}
use Rattle.product_reduce.proofs.Shared.{KeepsFront, without_root, without-swap, eqb-sym, behind_first, behind_later, front_same, front_after_one, front_after_two, AreOthers, IsEnding}
use Rattle.product_reduce.proofs.{Shared.{SpreadingOverflows, IsProduct, factors_in, SpansRoot, LacksRoom, SortsFactors, of_lists, permuted_parts}, Beside.{beside_becomes, tree_becomes}}
use Rattle.product_reduce.proofs.{FreeBytes.{becomes_free}, Gathered.{others_permuted, ending_before, spreading_before}, GatheredCounts.{sorted_counted}, LastSteps.{permuted_none_is}}
use Rattle.product_reduce.proofs.Products.{factors_are, product_at}
use Rattle.std.proofs.Common.{Result}

-- the factors stand in the order of their bases, and the coefficient as before
pub record AreSorted (i c : ℕ) (old now : State) : Type 0 where
  pub sorted : IsSorting 0 base_of (factors_in i (forest old)) (factors_in i (forest now))
  pub product : IsProduct i (forest now) (factors_in i (forest now))
  pub others : AreOthers (factors_in i (forest now))
  pub handed : IsHanded c (forest now)
  pub tree : tree_of c now ≡ tree_of c old
  pub rest : without_root i (without_root c (forest now)) ≡ without_root i (without_root c (forest old))
  pub free : free_of now + size (mult (factors_in i (forest now))) ≡ free_of old + size (mult (factors_in i (forest old)))
  pub front : (new : Forest) → KeepsFront (i ∷ c ∷ []) (forest now) new → KeepsFront (i ∷ c ∷ []) (forest old) new

pub sorts : {i c : ℕ} {old now : State} → Stands old → Stands now → KeepsRefusals old now → IsProduct i (forest old) (factors_in i (forest old)) → AreOthers (factors_in i (forest old))
    → IsHanded c (forest old) → eqb c i ≡ false
    → SortsFactors i 0 (forest old) (forest now) → AreSorted i c old now
sorts {i = i} {c = c} {old = old} {now = now} so sn k p o h d s =
    let own = factors_are s.becomes.product in
    let a = eqb-sym c i d in
    record {
      sorted = subst (IsSorting 0 base_of (factors_in i (forest old))) (sym own) s.sorted;
      product = product_at s.becomes.product refl (sym own);
      others = subst AreOthers (sym own) (others_permuted (of_lists (factors_in i (forest old)) s.us s.sorted.moved) o);
      handed = beside_becomes c so sn p s.becomes h d;
      tree = ap plain (tree_becomes c so sn p s.becomes h d);
      rest = without-swap i c (forest now) a ∙ ap (without_root c) s.becomes.others ∙ sym (without-swap i c (forest old) a);
      free = omega (arith, becomes_free so sn k p s.becomes, ap (λ (us : Trees). size (mult us)) own);
      front = λ new f. front_after_two behind_first (behind_later behind_first) (front_after_one behind_first front_same s.becomes.front) f;
    }

-- ---- what follows of the factors as they stood

pub none_sorted : {i c : ℕ} {old now : State} → AreSorted i c old now → factors_in i (forest old) ≡ none → factors_in i (forest now) ≡ none
none_sorted {i = i} {old = old} {now = now} s e = permuted_none_is (of_lists (factors_in i (forest old)) (factors_in i (forest now)) s.sorted.moved) e

pub ending_sorted : {i c : ℕ} {old now : State} (t : Tree) → AreSorted i c old now → IsEnding (tree_of c now) (factors_in i (forest now)) t → IsEnding (tree_of c old) (factors_in i (forest old)) t
ending_sorted {i =
    i} {c = c} {old = old} {now = now} t s e = ending_before (tree_of c old) (factors_in i (forest old)) (factors_in i (forest now)) t s.sorted (subst
    (λ (k : Tree). IsEnding k (factors_in i (forest now)) t) s.tree e)

pub spreading_sorted : {A : Type 0} {i c : ℕ} {old now : State} (r : Result A NumberFault) → AreSorted i c old now
    → IfErr r (OfOverflow (SpreadingOverflows (tree_of c now) (factors_in i (forest now))))
    → IfErr r (OfOverflow (SpreadingOverflows (tree_of c old) (factors_in i (forest old))))
spreading_sorted r s x = refused_as r x (λ o h. spreading_before _ _ _ _ o s.tree s.sorted h)

pub room_sorted : {A : Type 0} {i c : ℕ} {old now : State} (gs : List ℕ) (r : Result A NumberFault) → AreSorted i c old now → SpansTree gs (tree_of c old) → SpansTrees gs (factors_in i (forest old))
    → (SpansTree gs (tree_of c now) → SpansTrees gs (factors_in i (forest now)) → IfErr r (LacksRoom (counted (mult (factors_in i (forest now)))) (free_of now + size (tree_of c now) + size (mult (factors_in i (forest now)))) gs))
    → IfErr r (LacksRoom (counted (mult (factors_in i (forest old)))) (free_of old + size (tree_of c old) + size (mult (factors_in i (forest old)))) gs)
room_sorted {i = i} {old = old} {now = now} gs r s x k f =
    let room = ap (λ (n : ℕ). put_room n (2 ^ length gs)) (sorted_counted (factors_in i (forest old)) (factors_in i (forest now)) s.sorted) in
    result_lacks r _ _ (f (subst (SpansTree gs) (sym s.tree) x) (permuted_parts (SpansRoot gs) (of_lists (factors_in i (forest old)) (factors_in i (forest now)) s.sorted.moved) k))
    (λ g l. omega (arith, s.free, ap size s.tree, room, l))
