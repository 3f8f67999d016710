-- Rewritings that follow one another.
use Rattle.calc_algebra.proofs.Shared.{◌≡◌, true, is_reduced, Tree, KeepsMeanings, HasNoNewName, Rewrites, Reduces}
pub use Rattle.calc_algebra.proofs.MeaningRewrites.{KeepsMeanings-trans}

pub HasNoNewName-trans : {t u x : Tree} → HasNoNewName t u → HasNoNewName u x → HasNoNewName t x
HasNoNewName-trans h k = record { name = λ y c. h.name y (k.name y c) }

pub Rewrites-refl : (t : Tree) → Rewrites t t
Rewrites-refl t = record { no_new_name = record { name = λ x c. c }; meanings = record { means = λ f once v m. m } }

pub Rewrites-trans : {t u x : Tree} → Rewrites t u → Rewrites u x → Rewrites t x
Rewrites-trans h k = record { no_new_name = HasNoNewName-trans h.no_new_name k.no_new_name; meanings = KeepsMeanings-trans h.meanings k.meanings }

-- what is reduced at the end of rewritings
pub reduces : {t u : Tree} → Rewrites t u → is_reduced u ≡ true → Reduces t u
reduces h e = record { reduced = e; no_new_name = h.no_new_name; meanings = h.meanings }

pub reduces_after : {t u r : Tree} → Rewrites t u → Reduces u r → Reduces t r
reduces_after h k = record { reduced = k.reduced; no_new_name = HasNoNewName-trans h.no_new_name k.no_new_name; meanings = KeepsMeanings-trans h.meanings k.meanings }

pub rewrites_of : {t r : Tree} → Reduces t r → Rewrites t r
rewrites_of h = record { no_new_name = h.no_new_name; meanings = h.meanings }
