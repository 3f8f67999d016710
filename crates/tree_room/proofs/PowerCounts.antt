-- How powers count.
use Rattle.tree_room.proofs.Shared.{◌≡◌, suc, ◌+◌, ◌≤◌, Bool, true, false, refl, sym, ap, ◌∙◌, arith, true≢false, if◌then◌else◌, is_whole_num, counted, counted_among, counted_number, counted_other}
use Rattle.tree_room.proofs.{Shared.{Tree, mult, power, root, Trees, none, more, is_num, numbers_among, sum_count, product_count, exponent_count}, Counts.{counts_one, at_most_itself}}
use Rattle.calc_algebra.specs.Numbers.{is_number}

-- a whole exponent is a Number and adds nothing, and another adds one more than it counts
record Whole (e : Tree) : Type 0 where
  number : is_number e ≡ true
  one : counted e ≡ 1
  adds : exponent_count e ≡ 0

whole : (e : Tree) → is_whole_num e ≡ true → Whole e
unfolding is_number
whole e h = grind arith

other : (e : Tree) → is_whole_num e ≡ false → exponent_count e ≡ suc (counted e)
other e h = ap (λ z. if z then 0 else suc (counted e)) h

pub power_counts : (b e : Tree) → counted (power b e) ≡ counted b + exponent_count e
power_counts b e = grind arith

-- an exponent counts 1 more than it adds at most, and less than it adds where it is not whole
pub adds : (e : Tree) → counted e ≤ 1 + exponent_count e
adds e = grind arith

pub exponents_added : (e f : Tree) → sum_count (more e (more f none)) ≤ 3 + exponent_count e + exponent_count f
exponents_added e f = omega (arith, adds e, adds f)

numbers_at_most : (e f : Tree) → numbers_among (more f (more e none)) ≤ 2
numbers_at_most e f = grind arith

-- among children an exponent counts at most what it adds
among : (e : Tree) (ts : Trees) → counted_among (more e ts) ≤ exponent_count e + counted_among ts
among e ts = grind (arith, whole, counted_number, at_most_itself, other)

pub exponents_multiplied : (e f : Tree) → is_whole_num e ≡ true → product_count (more f (more e none)) ≤ 2 + exponent_count f
exponents_multiplied e f h = let w : Whole e = whole e h in omega (arith, numbers_at_most e f, among f (more e none), counted_number e none w.number)

-- ---- powers of one base, joined

pub joined : (b e f g : Tree) → (is_whole_num e ≡ true → is_whole_num f ≡ true → is_whole_num g ≡ true) → counted g ≤ 1 + counted_among (more e (more f none))
    → counted (power b g) ≤ (counted b + exponent_count e) + (counted b + exponent_count f)
joined b e f g w h = by (is_whole_num g) refl (is_whole_num e) refl (is_whole_num f) refl
  where
    by : (z : Bool) → is_whole_num g ≡ z → (x : Bool) → is_whole_num e ≡ x → (y : Bool) → is_whole_num f ≡ y → counted (power b g) ≤ (counted b + exponent_count e) + (counted b + exponent_count f)
    by true k x i y j = let n : Whole g = whole g k in omega (arith, power_counts b g, n.adds)
    by false k true i true j = absurd (true≢false (sym (w i j) ∙ k))
    by false k true i false j = let n : Whole e = whole e i in omega (arith, power_counts b g, other g k, h, counts_one b, counted_number e (more f none) n.number, other f j, at_most_itself f none)
    by false k false i true j = let n : Whole f = whole f j in omega (arith, power_counts b g, other g k, h, counts_one b, at_most_itself e (more f none), other e i, counted_number f none n.number)
    by false k false i false j = omega (arith, power_counts b g, other g k, h, counts_one b, at_most_itself e (more f none), at_most_itself f none, other e i, other f j)

-- ---- whole powers

pub of_a_power : (c e f g : Tree) → is_whole_num e ≡ true → (is_whole_num f ≡ true → is_whole_num g ≡ true) → counted g ≤ counted (mult (more f (more e none)))
    → counted (power c g) ≤ counted (power (power c f) e)
of_a_power c e f g h w k = by (is_whole_num g) refl (is_whole_num f) refl
  where
    n : Whole e
    n = whole e h

    by : (z : Bool) → is_whole_num g ≡ z → (y : Bool) → is_whole_num f ≡ y → counted (power c g) ≤ counted (power (power c f) e)
    by true i y j = let o : Whole g = whole g i in omega (arith, power_counts c g, power_counts (power c f) e, power_counts c f, o.adds)
    by false i true j = absurd (true≢false (sym (w j) ∙ i))
    by false i false j = omega (arith, power_counts c g, power_counts (power c f) e, power_counts c f, other g i, other f j, k, counts_one f, at_most_itself f (more e none), counted_number e none n.number)

pub of_a_root : (a : Tree) → is_num a ≡ false → counted (root a) ≡ suc (counted a)
of_a_root a h = ap (λ z. if z then 1 else suc (counted a)) h

pub power_no_number : (f e : Tree) → is_number (power f e) ≡ false
unfolding is_number
power_no_number f e = refl

pub of_a_factor : (f e : Tree) (ts : Trees) → is_whole_num e ≡ true → counted_among (more (power f e) ts) ≡ counted f + counted_among ts
of_a_factor f e ts h = counted_other (power f e) ts (power_no_number f e) ∙ ap (λ n. n + counted_among ts) (ap (λ z. if z then counted f else suc (counted f + counted e)) h)
