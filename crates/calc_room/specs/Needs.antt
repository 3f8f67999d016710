-- How many bytes calls on Numbers need at most, free or in the handed trees, for each product of radicands that may be chosen.
use Rattle.std.specs.Prelude.{ℕ}

abbrev pub sum_need : ℕ
sum_need = 304

abbrev pub product_need : ℕ
product_need = 384

abbrev pub power_need : ℕ
power_need = 480

abbrev pub inverse_need : ℕ
inverse_need = 208
