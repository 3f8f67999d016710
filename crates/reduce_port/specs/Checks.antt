-- How often the breakers are checked in a call that is refused.
pub use Rattle.breakers.specs.Breakers.{CalmUpTo, TripsWithin}
