-- What an `Interval` is seen as.
--   system_of interval      the root system
--   letters_of interval     the reduced word, in letters that count from 1
--   vertices_of interval    the vertices: number x stands at place x
--   word_below interval     the word, in letters that count from 0
use Rattle.std.specs.Prelude.{ℕ, List}
use Rattle.bmp_roots.specs.declared.root_system.Roots.{Roots}
use Rattle.bmp_weyl.specs.Elements.{word_of}
use Rattle.bmp_weyl.specs.declared.elem.Elem.{Elem}
use Rattle.bmp_interval.specs.declared.interval.Interval.{Interval}

abbrev pub system_of : Interval → Roots
system_of interval = interval.roots

abbrev pub letters_of : Interval → List ℕ
letters_of interval = interval.word

abbrev pub word_below : Interval → List ℕ
word_below interval = word_of interval.word

abbrev pub vertices_of : Interval → List Elem
vertices_of interval = interval.elements.keys
