pub mod FieldLaws
pub mod Runs
pub mod Primes
pub mod Tables
pub mod PrimeFields
pub mod PrimeLaws
