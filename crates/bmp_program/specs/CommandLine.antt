-- The command line: one simple command, COMMAND [--workers N] [--seed N], as clap reads it.
--   line_app            the command as clap sees it, with these three arguments and no help or version option
--   refuses words       clap refuses the words, for another cause than memory
--   found_in words      what clap finds in words that it takes
--   named text          the listed command of this name
--   takes_seed command  the command may stand with a seed
--   reads_input command the command reads its input; `sample` reads nothing
--   command_in rows     the command that the words ask for, None where no listed command may stand so
--   asked words         the command that the words ask for, None where they are no command of the program
--   IsWorkers word n    n is the number of workers that the word of that option names
--   seed_named word     the number that the word of that option writes, 0 where it isn't given
--   seed_of words       the seed that the words name
use Rattle.std.specs.Prelude.{◌≡◌, ◌≤◌, ◌^◌, nat_lt, ℕ, Bool, true, false, Option, Some, None, List, [], ◌∷◌, codes, pos, not, ◌&&◌, is_some, option_and_then, if◌then◌else◌}
use Rattle.std.specs.Str.{bytes_eq}
use Rattle.std.specs.Str.Parse.{IsNumeral, digits_value, without_leading_plus}
use Rattle.clap.specs.ValueTests.{is_numeral}
use Rattle.clap.specs.Walk.{Rule, Row, Text, first_of, is_empty}
use Rattle.clap.specs.Simple.{App, new_app, new_rule, with_rule, on_top, matches_of}
use Rattle.clap.specs.Faults.{fault_of}
use Rattle.clap.specs.declared.builder.value_parser.ValueParser.TheVariants as parser
use Rattle.bmp_program.specs.declared.words.CommandWord.{CommandWord}
use Rattle.bmp_program.specs.declared.words.CommandWord.TheVariants.{Check, Graph, Gkm, Kl, Build, Ranks, Compare, Sample}

-- the command word, which is required
abbrev pub command_rule : Rule
command_rule = record (new_rule (codes "COMMAND")) { required = true }

-- 1 to 32, and 1 where the option isn't given
abbrev pub workers_rule : Rule
workers_rule = record (new_rule (codes "workers")) {
  long = Some (codes "workers");
  parser = Some (parser.Signed (pos 1) (pos 32));
  defaults = codes "1" ∷ [];
}

-- any number of 32 bits
abbrev pub seed_rule : Rule
seed_rule = record (new_rule (codes "seed")) {
  long = Some (codes "seed");
  parser = Some (parser.Signed (pos 0) (pos 4294967295));
}

abbrev pub bare_app : App
bare_app = on_top (λ s. record s { disable_help_flag = true; disable_version_flag = true }) (new_app (codes "bmp"))

abbrev pub line_app : App
line_app = with_rule (with_rule (with_rule bare_app command_rule) workers_rule) seed_rule

unfoldable pub refuses : List Text → Bool
refuses words = not (is_empty (fault_of line_app words))

unfoldable pub found_in : List Text → List Row
found_in words = matches_of line_app words

abbrev pub named : Text → Option CommandWord
named text =
    if bytes_eq text (codes "check") then Some Check
    else (if bytes_eq text (codes "graph") then Some Graph
    else (if bytes_eq text (codes "gkm") then Some Gkm
    else (if bytes_eq text (codes "kl") then Some Kl
    else (if bytes_eq text (codes "build") then Some Build
    else (if bytes_eq text (codes "ranks") then Some Ranks
    else (if bytes_eq text (codes "compare") then Some Compare
    else (if bytes_eq text (codes "sample") then Some Sample else None)))))))

abbrev pub takes_seed : CommandWord → Bool
takes_seed Check = false
takes_seed Graph = false
takes_seed Gkm = false
takes_seed Kl = false
takes_seed Build = false
takes_seed Ranks = false
takes_seed Compare = false
takes_seed Sample = true

abbrev pub reads_input : CommandWord → Bool
reads_input Check = true
reads_input Graph = true
reads_input Gkm = true
reads_input Kl = true
reads_input Build = true
reads_input Ranks = true
reads_input Compare = true
reads_input Sample = false

-- the command, but none where a seed is given and the command takes none
abbrev pub allowed : Bool → CommandWord → Option CommandWord
allowed seeded command = if seeded && not (takes_seed command) then None else Some command

abbrev pub command_in : List Row → Option CommandWord
command_in rows =
    option_and_then (λ text. option_and_then (allowed (is_some (first_of (codes "seed") rows))) (named text))
    (first_of (codes "COMMAND") rows)

abbrev pub asked : List Text → Option CommandWord
asked words = if refuses words then None else command_in (found_in words)

-- it is the number that the word writes, 1 to 32
abbrev pub IsWorkers : Option Text → ℕ → Type 0
IsWorkers None n = n ≡ 1
IsWorkers (Some text) n =
    (1 ≤ n) × (n ≤ 32) × (let digits = without_leading_plus text in
    IsNumeral 10 digits → 1 ≤ digits_value 10 digits → digits_value 10 digits ≤ 32 → n ≡ digits_value 10 digits)

abbrev pub seed_named : Option Text → ℕ
seed_named None = 0
seed_named (Some text) =
    let digits = without_leading_plus text in
    if is_numeral digits && nat_lt (digits_value 10 digits) (2 ^ 32) then digits_value 10 digits else 0

abbrev pub seed_of : List Text → ℕ
seed_of words = seed_named (first_of (codes "seed") (found_in words))
