-- What passes and what is taken over several calls.
use Rattle.std.proofs.Common.{◌≡◌, ℕ, ◌+◌, ◌-◌, ◌≤◌, Bool, true, false, if◌then◌else◌, List, ◌++◌, length, take, drop, refl, sym, ap, subst, ◌∙◌, arith, append_assoc, Option, Some, None, length-drop, length-append}
use Rattle.std.proofs.Math.Seq.{take-add}
use Rattle.std.proofs.lemmas.List.{take_all, take_at, drop_at, take-take, take-append-le, length-take}
use Rattle.bmp_ports.specs.Ports.{Passes, Takes}

-- bytes that come and then others
pub passes_on : (a b c : Option (List ℕ)) (x y : List ℕ) → Passes a b x → Passes b c y → Passes a c (x ++ y)
passes_on None None None x y p q = tt
passes_on None None (Some c) x y p q = q
passes_on None (Some b) c x y p q = absurd p
passes_on (Some a) None c x y p q = absurd p
passes_on (Some a) (Some b) None x y p q = absurd q
passes_on (Some a) (Some b) (Some c) x y p q = p ∙ (ap (λ t. x ++ t) q ∙ sym (append_assoc x y c))

-- bytes that are taken and then others
pub takes_on : (a b c : Option (List ℕ)) (x y : List ℕ) → Takes a b x → Takes b c y → Takes a c (x ++ y)
takes_on None None None x y p q = tt
takes_on None None (Some c) x y p q = q
takes_on None (Some b) c x y p q = absurd p
takes_on (Some a) None c x y p q = absurd p
takes_on (Some a) (Some b) None x y p q = absurd q
takes_on (Some a) (Some b) (Some c) x y p q = q ∙ (ap (λ t. t ++ y) p ∙ append_assoc a x y)

-- a prefix is taken and then a prefix of the rest
pub takes_more : (a b c : Option (List ℕ)) (bytes : List ℕ) (at n : ℕ) → Takes a b (take at bytes) →
    Takes b c (take n (drop at bytes)) → Takes a c (take (at + n) bytes)
takes_more a b c bytes at n p q =
    subst (λ t. Takes a c t) (sym (take-add at n bytes)) (takes_on a b c (take at bytes) (take n (drop at bytes)) p q)

-- the rest of a slice by a range is cut to the length that it has
pub takes_rest : (a b c : Option (List ℕ)) (bytes : List ℕ) (at n : ℕ) → at ≤ length bytes → Takes a b (take at bytes) →
    Takes b c (take n (take (length bytes - at) (drop at bytes))) → Takes a c (take (at + n) bytes)
takes_rest a b c bytes at n le p q =
    takes_more a b c bytes at n p
    (subst (λ t. Takes b c (take n t))
    (take_all (length bytes - at) (drop at bytes) (omega (arith, length-drop at bytes))) q)

-- the front of a list stays where the list is filled up behind it, or is left alone
pub front_filled_up : (grown : Bool) (old more : List ℕ) (front n : ℕ) → front ≤ n → front ≤ length old →
    take front (if grown then take n old ++ more else old) ≡ take front old
front_filled_up true old more front n le within =
    take-append-le front (take n old) more (omega (arith, length-take n old)) ∙ take-take front n old le
front_filled_up false old more front n le within = refl

-- n bytes are written behind the front of a list, which keeps its size
pub front_written : (items piece more rest : List ℕ) (front n size : ℕ) → front ≤ length items → n ≤ length piece →
    front + n ≤ size → take (front + n) (take size (take front items ++ (piece ++ more) ++ rest))
    ≡ take front items ++ take n piece
front_written items piece more rest front n size within fits le =
    let is_front : length (take front items) ≡ front = omega (arith, length-take front items) in
    let tail : List ℕ = piece ++ more ++ rest in
    let grouped : take front items ++ (piece ++ more) ++ rest ≡ take front items ++ tail =
    append_assoc (take front items) (piece ++ more) rest in
    let first : take front (take front items ++ tail) ≡ take front items =
    take_at (take front items) tail front is_front in
    let second : take n (drop front (take front items ++ tail)) ≡ take n piece =
    ap (take n) (drop_at (take front items) tail front is_front)
    ∙ (take-append-le n (piece ++ more) rest (omega (arith, length-append piece more))
    ∙ take-append-le n piece more fits) in
    take-take (front + n) size (take front items ++ (piece ++ more) ++ rest) le
    ∙ (ap (take (front + n)) grouped
    ∙ (take-add front n (take front items ++ tail)
    ∙ (ap (λ t. t ++ take n (drop front (take front items ++ tail))) first ∙ ap (λ t. take front items ++ t) second)))

-- the size of such a list
pub length-written : (items piece more rest : List ℕ) (front size : ℕ) → front ≤ length items → length items ≡ size →
    size ≤ front + length piece → length (take size (take front items ++ (piece ++ more) ++ rest)) ≡ size
length-written items piece more rest front size within same fits = omega (
  arith,
  length-take size (take front items ++ (piece ++ more) ++ rest),
  length-append (take front items ++ (piece ++ more)) rest,
  length-append (take front items) (piece ++ more),
  length-append piece more,
  length-take front items,
)
