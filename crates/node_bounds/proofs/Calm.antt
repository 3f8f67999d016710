-- Calm trees, part by part, and what all parts of a tree have.
use Rattle.node_bounds.proofs.Shared.{◌≡◌, ℕ, zero, suc, ◌<◌, List, Bool, true, false, if◌then◌else◌, ap, ◌∙◌, arith, Assignment, IsAssignment, is_number, IsNumber, value, is_opaque_exponent}
use Rattle.node_bounds.proofs.Shared.{is_whole_num, is_half_num, num_one, base_of, KeepsMeanings, surd_of, one_meaning, number_rational, number_words, whole_fraction, Tree, mult, power, Trees, none}
use Rattle.node_bounds.proofs.Shared.{more, count, AllParts, AllPartsOf, IsCalmAtZero, set_tree, removed, whole_is, exponent_of, joint, IsPairAt, joined_pair, nth, IsCalm, AreCalm, MeansWhole, zeros}
use Rattle.node_bounds.proofs.Shared.{sum_whole, whole_number, number_means, Agree-Same, no_half}
pub use Rattle.power_reduce.proofs.Counted.{one_is_whole as one_whole}

-- ---- parts of lists

module _ (P : Tree → Type 0) where
  pub all_nth : (n : ℕ) (ts : Trees) → n < count ts → AllPartsOf P ts → AllParts P (nth n ts)
  all_nth n none l h = absurd (omega arith)
  all_nth zero (more t ts) l h = h.0
  all_nth (suc n) (more t ts) l h = all_nth n ts (omega arith) h.1

  pub all_removed : (n : ℕ) (ts : Trees) → AllPartsOf P ts → AllPartsOf P (removed n ts)
  all_removed n none h = tt
  all_removed zero (more t ts) h = h.1
  all_removed (suc n) (more t ts) h = (h.0, all_removed n ts h.1)

  pub all_replaced : (n : ℕ) (u : Tree) (ts : Trees) → AllParts P u → AllPartsOf P ts → AllPartsOf P (set_tree n u ts)
  all_replaced n u none k h = tt
  all_replaced zero u (more t ts) k h = (k, h.1)
  all_replaced (suc n) u (more t ts) k h = (h.0, all_replaced n u ts k h.1)

  -- the base of a factor and its exponent
  pub all_base : (t : Tree) → AllParts P t → AllParts P (base_of t)
  all_base t h = grind arith

  pub all_exponent : (t : Tree) → P num_one → AllParts P t → AllParts P (exponent_of t)
  all_exponent t h k = grind arith

  -- two neighbours are joined, and the others stay
  pub all_joined : (n : ℕ) (ts : Trees) → IsPairAt n ts → ((t u : Tree) → AllParts P t → AllParts P u → AllParts P (joint t u)) → AllPartsOf P ts → AllPartsOf P (joined_pair n (suc n) ts)
  all_joined zero (more t (more u ts)) p j h = (j t u h.0 h.1.0, h.1.1)
  all_joined (suc n) (more t ts) p j h = (h.0, all_joined n ts (let w = p.within in record { within = omega arith; pair = p.pair }) j h.1)
  all_joined n ts p j h = absurd (let w = p.within in omega arith)

-- ---- calm trees

pub calm_children : {ns : List (List ℕ)} {ts : Trees} → IsCalmAtZero ns (mult ts) → AreCalm (zeros ns) ts
calm_children c = c.calm.1

pub calm_product : {ns : List (List ℕ)} {ts : Trees} → IsAssignment (zeros ns) → AreCalm (zeros ns) ts → IsCalmAtZero ns (mult ts)
calm_product o h = record { once = o; calm = (tt, h) }

pub calm_base : {ns : List (List ℕ)} {b e : Tree} → IsCalmAtZero ns (power b e) → IsCalmAtZero ns b
calm_base c = record { once = c.once; calm = c.calm.1 }

pub calm_exponent : {ns : List (List ℕ)} {b e : Tree} → IsCalmAtZero ns (power b e) → IsCalmAtZero ns e
calm_exponent c = record { once = c.once; calm = c.calm.2 }

pub calm_whole : {ns : List (List ℕ)} {b e : Tree} → IsCalmAtZero ns (power b e) → MeansWhole (zeros ns) e
calm_whole c = c.calm.0

pub calm_power : {ns : List (List ℕ)} {b e : Tree} → IsCalmAtZero ns b → IsCalmAtZero ns e → MeansWhole (zeros ns) e → IsCalmAtZero ns (power b e)
calm_power b e w = record { once = b.once; calm = (w, b.calm, e.calm) }

-- no calm power has half of an odd number as its exponent
pub calm_no_half : {ns : List (List ℕ)} {b e : Tree} → IsCalmAtZero ns (power b e) → is_half_num e ≡ false
calm_no_half {ns} {b} {e} c = no_half (zeros ns) e (calm_whole c)

-- ---- exponents

pub whole_kept : (f : Assignment) (d e : Tree) → IsAssignment f → KeepsMeanings d e → MeansWhole f d → MeansWhole f e
whole_kept f d e o k (n, h) = (n, k.means f o (surd_of (whole_fraction n)) h)

-- a Number that means a whole number is one
pub whole_of_number : (f : Assignment) (e : Tree) → IsAssignment f → is_number e ≡ true → MeansWhole f e → is_whole_num e ≡ true
whole_of_number f e o h (n, m) =
    let w : IsNumber e = number_words e h in
    ap is_whole_num (number_rational e (whole_fraction n) w (Agree-Same (one_meaning f o e (value e) (surd_of (whole_fraction n)) (number_means e f w) m))) ∙ whole_is n

-- the exponent of a calm factor means a whole number
pub factor_whole : (f : Assignment) (t : Tree) → IsCalm f t → MeansWhole f (exponent_of t)
factor_whole f (power b e) h = by (is_opaque_exponent e)
  where
    by : (x : Bool) → MeansWhole f (if x then num_one else e)
    by true = whole_number f num_one one_whole
    by false = h.0
factor_whole f t h = whole_number f num_one one_whole

-- the joint of calm factors is calm
pub joint_calm : (f : Assignment) (t u : Tree) → IsCalm f t → IsCalm f u → IsCalm f (joint t u)
joint_calm f t u h k = grind (arith, sum_whole, factor_whole, all_base, all_exponent)
