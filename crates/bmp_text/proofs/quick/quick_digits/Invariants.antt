use Rattle.std.proofs.Common.{◌≡◌, ◌<◌, ◌≤◌, ◌^◌, ◌-◌, take, length, true}
use Rattle.std.specs.List.{list_all}
use Rattle.std.specs.Char.{is_ascii_digit}
use Rattle.std.specs.Str.Parse.{digits_value}
use Rattle.bmp_text.proofs.quick.quick_digits.Given as goal

abbrev pub invariant-digits : goal.invariant-digits
invariant-digits l = record {
  digits : list_all is_ascii_digit (take l.size l.bytes) ≡ true;
  value : l.n ≡ digits_value 10 (take l.size l.bytes);
  small : l.n < 2 ^ 63;
  within : l.size ≤ length l.bytes;
}

abbrev pub decreases-digits : goal.decreases-digits
decreases-digits l = length l.bytes - l.size
