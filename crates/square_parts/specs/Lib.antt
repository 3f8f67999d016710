pub mod Divisors
pub mod Found
pub mod Primes
