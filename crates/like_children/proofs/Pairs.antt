-- Keys of neighbours.
use Rattle.like_children.proofs.Shared.{ℕ, suc, ◌+◌, ◌≡◌, Bool, false, subst, arith, Option, IfSome, Tree, Trees, nth, Forest, IsKeyOf, have_one_key, are_alike, NoPairBetween, Key, IsKey}

pub key_valid : (has : Tree → Bool) (key : Tree → Tree) (t : Tree) (f : Forest) (r : Option Key) → IsKeyOf has key t f r → IfSome r (λ k. IsKey k f)
key_valid has key t f r h = grind arith

pub key_as : (has : Tree → Bool) (key : Tree → Tree) {t u : Tree} (f : Forest) (r : Option Key) → t ≡ u → IsKeyOf has key t f r → IsKeyOf has key u f r
key_as has key f r e h = subst (λ (x : Tree). IsKeyOf has key x f r) e h

-- two trees are alike where their keys are one
pub one_key : (has : Tree → Bool) (key : Tree → Tree) (t u : Tree) (f : Forest) (a b : Option Key) → IsKeyOf has key t f a → IsKeyOf has key u f b
    → have_one_key f a b ≡ are_alike has key t u
one_key has key t u f a b h k = grind arith

pub no_pair_more : (alike : Tree → Tree → Bool) (from n : ℕ) (ts : Trees) → NoPairBetween alike from (suc n) ts → alike (nth n ts) (nth (suc n) ts) ≡ false
    → NoPairBetween alike from (suc (n + 1)) ts
no_pair_more alike from n ts h q k f l = grind arith
