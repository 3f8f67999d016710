-- What a region ends as, once a `&mut` to its bytes has ended.
use Rattle.std.specs.{Prelude.{ℕ, List, length}, Borrow.{Fml, MutBor, Array, Lends, u8}, List.{refill}}
use Rattle.raw_region.specs.contracts.region.Region.{the_row}

abbrev pub lends_bytes : MutBor (List ℕ) → MutBor (List ℕ) → Fml
lends_bytes region r = Lends the_row (Array u8 0) region r (λ ws. refill (length region.now) region.now ws)
