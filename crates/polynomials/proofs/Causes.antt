-- How many terms are listed, and why none is listed any more.
use Rattle.polynomials.proofs.Shared.{◌≡◌, ℕ, zero, suc, ◌+◌, ◌*◌, ◌^◌, ◌<◌, ◌≤◌, max, List, ◌++◌, length, take, ap, arith, length-append, length-take-le, mul-le-mul_left, mul_comm, pow-le-pow_right, pow-suc}
use Rattle.polynomials.proofs.{Shared.{pow-zero, IfErr, IfOk, IsErr, IsErrAnd, OnOk, Result, Term, Unfit, AreBelow, IsCaused, OfCoefficient}, MergeLoops.{IsMerged}, Merges.{pushed}}
use Rattle.polynomials.proofs.Products.{IsPowerTo, IsProductTo}

pub caused_more : {P Q : Type 0} (u : Unfit) → (P → Q) → IsCaused P u → IsCaused Q u
caused_more u f h = grind arith

pub like_more : {P Q : Type 0} (u : Unfit) → (P → Q) → OfCoefficient P u → OfCoefficient Q u
like_more u f h = grind arith

pub pushed_length : (xs : List Term) (t : Term) → length (pushed xs t) ≤ length xs + 1
pushed_length xs t = grind (arith, length-append {A = Term})

-- ---- where a call is refused

pub not_given : {A E : Type 0} (r : Result A E) (P : A → Type 0) → IsErr r → IfOk r P
not_given r P h = grind arith

pub not_done : {A E : Type 0} (r : Result A E) (P : Type 0) → IsErr r → OnOk r P
not_done r P h = grind arith

-- ---- what loops keep

pub record IsCopied (old : List Term) (terms : List Term) (limit room i : ℕ) (list : List Term) (now : ℕ) : Type 0 where
  pub items : list ≡ old ++ take i terms
  pub below : AreBelow limit list
  pub room-kept : room ≤ now

pub record IsMergedIn (sum terms : List Term) (f : Term) (room j : ℕ) (list rest : List Term) (now : ℕ) : Type 0 where
  pub merged : IsMerged sum terms f j list rest
  pub few : length list + length rest ≤ length sum + j
  pub room-kept : room ≤ now

pub record IsProductIn (a b : List Term) (room i : ℕ) (list : List Term) (now : ℕ) : Type 0 where
  pub products : IsProductTo a b i list
  pub few : length list ≤ i * length b
  pub room-kept : room ≤ now

pub record IsPowerIn (base : List Term) (room i : ℕ) (list : List Term) (now : ℕ) : Type 0 where
  pub powers : IsPowerTo base i list
  pub few : length list ≤ length base ^ i
  pub room-kept : room ≤ now

pub copied_full : {old terms : List Term} {limit room i : ℕ} {list : List Term} {now : ℕ} → IsCopied old terms limit room i list now → i < length terms → now ≤ length list → room < length old + length terms
copied_full {old = old} {terms = terms} {i = i} k h full = omega (arith, k.room-kept, ap length k.items, length-append old (take i terms), length-take-le i terms (omega arith))

pub merged_full : {sum terms : List Term} {f : Term} {room j : ℕ} {list rest : List Term} {now : ℕ} → IsMergedIn sum terms f room j list rest now → j < length terms → now < length list + length rest → room < length sum + length terms
merged_full k h full = omega (arith, k.few, k.room-kept)

-- ---- powers

pub power_few : (b l i n : ℕ) → n ≤ b * l → l ≤ b ^ i → n ≤ b ^ (i + 1)
power_few b l i n h k =
    let e : i + 1 ≡ suc i = omega arith in
    omega (arith, mul-le-mul_left b k, ap (λ (j : ℕ). b ^ j) e, pow-suc b i, mul_comm b (b ^ i))

pub one_few : (b n : ℕ) → n ≡ 1 → n ≤ b ^ 0
one_few b n e = omega (arith, pow-zero b)

pub power_bound : (b l i n : ℕ) → i < n → l ≤ b ^ i → b * l ≤ max 1 (b ^ n)
power_bound zero l i n h k = omega arith
power_bound (suc b) l i n h k =
    let more : suc b ^ (i + 1) ≤ suc b ^ n = pow-le-pow_right (omega arith) (omega arith) in
    omega (arith, power_few (suc b) l i (suc b * l) (omega arith) k)

-- what holds anyway holds where a coefficient does not fit
pub like_anyway : {A : Type 0} (p : Type 0) (r : Result A Unfit) → p → IfErr r (OfCoefficient p)
like_anyway p r h = grind arith
