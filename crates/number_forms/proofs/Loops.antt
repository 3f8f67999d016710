-- Sums to which the terms of a list are joined one by one.
use Rattle.number_forms.proofs.Shared.{◌≡◌, ℕ, ◌≤◌, ◌∷◌, ◌++◌, length, refl, sym, ap, subst, [], value, Same, Term, Surd, SharesDenominators, Tree, Same-trans, Same-refl, State, IsSum, IsSumOf, plain}
use Rattle.number_forms.proofs.Shared.{Gives, KeepsFront, root_tree, without_root, Stands, forest, KeepsRefusals, behind_first, front_after_one, front_same, given_told, drop_all, given_rest, gives_as}
use Rattle.number_forms.proofs.{Shared.{kept_same, kept_after, gives_itself, ◌∙◌, Forest, IsHanded, other_plain, other_read, tree_at}, Denominators.{shares_eq, parts_behind, parts_end, parts_part}, Worth.{terms_from, same_behind, join_end, part_step}}

-- a sum, and with what is left of a list it is worth the whole, over the common denominators of the whole
pub record IsSumWith (left whole : Surd) (t : Tree) : Type 0 where
  pub sum : IsSum t
  pub worth : Same (value t ++ left) whole
  pub parts : SharesDenominators whole (value t ++ left)

-- a sum to which terms were joined, with what is left to join
pub record IsJoined (i : ℕ) (left whole : Surd) (old now : State) : Type 0 where
  pub gives : Gives (without_root i (forest old)) (forest now) i (IsSumWith left whole)
  pub front : KeepsFront (i ∷ []) (forest old) (forest now)
  pub kept : KeepsRefusals old now
  pub stands : Stands now

pub joined_none : (i : ℕ) (v : Surd) (s : State) → Stands s → Gives (without_root i (forest s)) (forest s) i IsSum → IsJoined i v (value (plain (root_tree i (forest s))) ++ v) s s
joined_none i v s st e = record {
  gives = gives_as (gives_itself e) refl (λ t h. record { sum = h.0; worth = subst (λ (u : Tree). Same (value u ++ v) (value (plain (root_tree i (forest s))) ++ v)) (sym h.1) (Same-refl (value (plain (root_tree i (forest s))) ++ v)); parts = shares_eq (ap (λ (u : Tree). value u ++ v) (sym h.1)) });
  front = front_same;
  kept = kept_same s;
  stands = st;
}

pub joined_part : (i : ℕ) (left row rest whole : Surd) (old now new : State) → IsJoined i left whole old now → left ≡ row ++ rest
    → Gives (without_root i (forest now)) (forest new) i (IsSumOf (value (plain (root_tree i (forest now))) ++ row))
    → KeepsFront (i ∷ []) (forest now) (forest new) → KeepsRefusals now new → Stands new → IsJoined i rest whole old new
joined_part i left row rest whole old now new j e g f k st = record {
  gives = gives_as g (given_rest j.gives) (λ t h. record {
    sum = h.sum;
    worth = part_step (value (plain (root_tree i (forest now)))) (value t) left row rest whole e h.worth (given_told j.gives).worth;
    parts = parts_part (value (plain (root_tree i (forest now)))) (value t) left row rest whole e h.parts (given_told j.gives).parts;
  });
  front = front_after_one behind_first j.front f;
  kept = kept_after j.kept k;
  stands = st;
}

pub joined_more : (i : ℕ) (left rest whole w : Surd) (y : Term) (old now new : State) → IsJoined i left whole old now → left ≡ y ∷ rest
    → Same w (y ∷ value (plain (root_tree i (forest now)))) → SharesDenominators (y ∷ value (plain (root_tree i (forest now)))) w
    → Gives (without_root i (forest now)) (forest new) i (IsSumOf w) → KeepsFront (i ∷ []) (forest now) (forest new) → KeepsRefusals now new → Stands new → IsJoined i rest whole old new
joined_more i left rest whole w y old now new j e s p g f k st =
    let v = value (plain (root_tree i (forest now))) in
    joined_part i left (y ∷ []) rest whole old now new j e
    (gives_as g refl (λ t h. record { sum = h.sum; worth = same_behind v (value t) y (Same-trans h.worth s); parts = parts_behind v (value t) y (λ d q. h.parts d (p d q)) })) f k st

pub joined_all : {i : ℕ} {left whole : Surd} {old now : State} → IsJoined i left whole old now → left ≡ [] → Gives (without_root i (forest old)) (forest now) i (IsSumOf whole)
joined_all {left = left} {whole = whole} j e = gives_as j.gives refl (λ t h. record { sum = h.sum; worth = join_end (value t) left whole e h.worth; parts = parts_end (value t) left whole h.parts })

pub from_all : (v : Surd) (n : ℕ) → length v ≤ n → terms_from n v ≡ []
from_all v n l = drop_all n v l

-- what stands beside the sum reads as before
pub read_same : {i : ℕ} {left whole : Surd} {old now : State} (n : ℕ) → IsJoined i left whole old now → Gives (without_root i (forest old)) (forest old) i IsSum → IsHanded n (without_root i (forest old))
    → plain (tree_at n (forest now)) ≡ plain (root_tree n (forest old))
read_same {left = left} {whole = whole} {now = now} n j s h = other_read {P = IsSumWith left whole} n now j.stands j.gives h ∙ sym (other_plain n s h.root)

-- beside a new tree, and by another name
pub reads : {f g : Forest} {i m n : ℕ} {P : Tree → Type 0} → m ≡ n → Gives f g i P → IsHanded n f → plain (root_tree m g) ≡ plain (root_tree n f)
reads {g = g} {n = n} e p h = ap (λ (k : ℕ). plain (root_tree k g)) e ∙ other_plain n p h.root
