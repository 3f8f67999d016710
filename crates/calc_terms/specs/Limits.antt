-- How large what a line takes, and what is calculated for it, may be.
use Rattle.std.specs.Prelude.{ℕ, ◌^◌}

-- numerators, denominators and radicands are below this
abbrev pub number_limit : ℕ
number_limit = 2 ^ 127

-- with at most so many bits no operation overflows
abbrev pub bits_limit : ℕ
bits_limit = 124

-- the most levels of a line's tree
abbrev pub depth_limit : ℕ
depth_limit = 64

-- the most bytes of a name
abbrev pub name_length_limit : ℕ
name_length_limit = 7
