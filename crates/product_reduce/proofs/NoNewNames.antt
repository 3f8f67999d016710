-- Steps on a product bring no new name.
use Rattle.product_reduce.proofs.Shared.{arith, ◌≡◌, Bool, true, false, [], ◌++◌, refl, if◌then◌else◌, append_assoc, factors_of, is_number, base_of, is_num_one, Tree, Trees, none, more, append, names}
use Rattle.product_reduce.proofs.Shared.{names_of, opened, others_in, coefficient_before, exponent_of, has_partner, first_partner, without_partner, joint, joined, Within, within_eq, within_same}
use Rattle.product_reduce.proofs.{Shared.{within_trans, within_both, within_left, within_right, within_beside, within_none, names_of-append, names_permuted, number_names}, Joined.{partner_first}}

-- ---- factors

names_of-factors : (t : Tree) → Within (names t) (names_of (factors_of t))
names_of-factors t = grind (arith, within_same, within_both, within_none)

pub names_opened : (ts : Trees) → Within (names_of ts) (names_of (opened ts))
names_opened none = within_same []
names_opened (more t ts) =
    within_trans (within_beside (names t) (names_of (factors_of t)) (names_of ts) (names_of (opened ts)) (names_of-factors t) (names_opened ts))
    (within_eq (names_of-append (factors_of t) (opened ts)))

pub names_others : (ts : Trees) → Within (names_of ts) (names_of (others_in ts))
names_others none = within_same []
names_others (more t ts) = by (names_others ts) (is_number t)
  where
    by : Within (names_of ts) (names_of (others_in ts)) → (k : Bool) → Within (names t ++ names_of ts) (names_of (if k then others_in ts else more t (others_in ts)))
    by go true = within_trans (within_right (names t) (names_of ts)) go
    by go false = within_beside (names t) (names t) (names_of ts) (names_of (others_in ts)) (within_same (names t)) go

pub names_with_coefficient : (c : Tree) (ts : Trees) → is_number c ≡ true → Within (names_of ts) (names_of (coefficient_before c ts))
names_with_coefficient c ts h = by (is_num_one c)
  where
    by : (k : Bool) → Within (names_of ts) (names_of (if k then ts else append (factors_of c) ts))
    by true = within_same (names_of ts)
    by false =
        within_trans (within_both (names_of ts) (names_of (factors_of c)) (names_of ts)
        (within_trans (within_trans (within_none (names_of ts)) (within_eq (number_names c h))) (names_of-factors c)) (within_same (names_of ts)))
        (within_eq (names_of-append (factors_of c) ts))

-- ---- joined factors

names_of_base : (t : Tree) → Within (names t) (names (base_of t))
names_of_base t = grind (arith, within_same, within_left)

names_of_exponent : (t : Tree) → Within (names t) (names (exponent_of t))
names_of_exponent t = grind (arith, within_none, within_right)

names_of_joint : (t u : Tree) → Within (names t ++ names u) (names (joint t u))
names_of_joint t u =
    let first = within_left (names t) (names u) in
    let second = within_right (names t) (names u) in
    within_both (names t ++ names u) (names (base_of t)) (names (exponent_of t) ++ (names (exponent_of u) ++ [])) (within_trans first (names_of_base t))
    (within_both (names t ++ names u) (names (exponent_of t)) (names (exponent_of u) ++ []) (within_trans first (names_of_exponent t))
    (within_both (names t ++ names u) (names (exponent_of u)) [] (within_trans second (names_of_exponent u)) (within_none (names t ++ names u))))

pub names_joined : (ts : Trees) → Within (names_of ts) (names_of (joined ts))
names_joined none = within_same []
names_joined (more t ts) = by (names_joined ts) (has_partner t ts) refl
  where
    by : Within (names_of ts) (names_of (joined ts)) → (k : Bool) → has_partner t ts ≡ k
        → Within (names t ++ names_of ts) (names_of (if k then more (joint t (first_partner t ts)) (without_partner t ts) else more t (joined ts)))
    by go true e =
        let u = first_partner t ts in
        let rest = names_of (without_partner t ts) in
        within_trans (within_beside (names t) (names t) (names_of ts) (names u ++ rest) (within_same (names t)) (names_permuted (partner_first t ts e)))
        (within_trans (within_eq (append_assoc (names t) (names u) rest)) (within_beside (names t ++ names u) (names (joint t u)) rest rest (names_of_joint t u) (within_same rest)))
    by go false e = within_beside (names t) (names t) (names_of ts) (names_of (joined ts)) (within_same (names t)) go
