-- Runs of bytes at the front.
use Rattle.calc_commands.proofs.Shared.{both, list_all, refl}
use Rattle.std.specs.Prelude.{ℕ, ◌≡◌, List, [], ◌∷◌, ◌++◌, Bool, true}

pub all-append : (p : ℕ → Bool) (a b : List ℕ) → list_all p a ≡ true → list_all p b ≡ true → list_all p (a ++ b) ≡ true
all-append p [] b h k = k
all-append p (x ∷ a) b h k = let q = both (p x) (list_all p a) h in rw (q.0, all-append p a b q.1 k) refl

pub all_other : (p q : ℕ → Bool) → ((b : ℕ) → p b ≡ true → q b ≡ true) → (bytes : List ℕ) → list_all p bytes ≡ true → list_all q bytes ≡ true
all_other p q f [] h = refl
all_other p q f (b ∷ bytes) h = let k = both (p b) (list_all p bytes) h in rw (f b k.0, all_other p q f bytes k.1) refl

pub first_of_all : (p : ℕ → Bool) (b : ℕ) (bytes : List ℕ) → list_all p (b ∷ bytes) ≡ true → p b ≡ true
first_of_all p b bytes h = (both (p b) (list_all p bytes) h).0
