-- Reading a listing of monomials.
use Rattle.std.proofs.Common.{◌≡◌, ℕ, ◌<◌, List, [], length, get_or, ◌∙◌, arith}
use Rattle.std.proofs.lemmas.List.{get_or_default}
use Rattle.bmp_poly.specs.Exponents.{count, exponents}
use Rattle.bmp_poly.specs.Listings.{IsListing}
use Rattle.bmp_poly.proofs.PlaceLemmas.{StandsAt, exponents_stand}

pub listed_stands : (r d i : ℕ) (ms : List (List ℕ)) (m : List ℕ) → IsListing r d ms → i < count r d →
    m ≡ get_or ms i m → StandsAt 6 r d i m
listed_stands r d i ms m h below read =
    let sized : length ms ≡ count r d = h.sized in
    let is : m ≡ exponents 6 r d i = read ∙ get_or_default ms i m [] (omega arith) ∙ h.each i below in
    rw is (exponents_stand 6 r d i h.rank below)
