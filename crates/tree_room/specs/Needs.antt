-- How many bytes reductions need at most, free or in the handed trees, by how many nodes count, and by how many products of
-- radicands may be chosen: m of them.
use Rattle.std.specs.Prelude.{ℕ, ◌+◌, ◌*◌}

-- a reduced tree that counts c has as many bytes at most
abbrev pub tree_bytes : ℕ → ℕ → ℕ
tree_bytes c m = 204 * c * m

-- ---- sums and products, of which h nodes count

abbrev pub sum_room : ℕ → ℕ → ℕ
sum_room h m = 400 * (h + 1) * m

abbrev pub product_step_room : ℕ → ℕ → ℕ
product_step_room h m = 400 * (h + 1) * m

abbrev pub product_room : ℕ → ℕ → ℕ
product_room h m = 400 * (h + 2) * m

-- ---- powers of a base that counts c

-- one step on a power whose exponent is whole
abbrev pub power_step_room : ℕ → ℕ → ℕ
power_step_room c m = 400 * (c + 2) * m

-- a whole power, where the base is a Number or no product
abbrev pub power_room : ℕ → ℕ → ℕ
power_room c m = 400 * (c + 4) * m

-- a whole power of a product that is no Number
abbrev pub product_power_room : ℕ → ℕ → ℕ
product_power_room c m = 400 * (c + 5) * m

-- a power that is kept, whose exponent counts e
abbrev pub kept_power_room : ℕ → ℕ → ℕ → ℕ
kept_power_room c e m = 400 * (c + e + 2) * m

-- a power of the square root of the base, which may double the products of radicands
abbrev pub half_power_room : ℕ → ℕ → ℕ
half_power_room c m = 400 * (c + 5) * (2 * m)

-- ---- whole trees

-- a tree of n nodes whose powers are simple
abbrev pub simple_room : ℕ → ℕ → ℕ
simple_room n m = 1024 * n * m
