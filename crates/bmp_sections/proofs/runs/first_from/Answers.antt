use Rattle.std.proofs.Common.{ltb, rules}
use Rattle.std.proofs.lemmas.List.Sorted.{IsPartitionPoint-from_clause, IsPartitionedBy-ltb}
use Rattle.bmp_sections.proofs.RunLemmas.{places_rise, taken_before, reached_from}
use Rattle.bmp_sections.proofs.runs.first_from.Goals as goal

pub returns-clause-passed : goal.returns-clause-passed
returns-clause-passed c =
    let parted = IsPartitionedBy-ltb (λ e. e.place) c.args.entries.now c.args.place
    (places_rise c.args.entries.now c.requires.rising) in
    let point = IsPartitionPoint-from_clause (λ e. ltb e.place c.args.place) _ _ c.partition_point.ensures.partitioned
    parted (λ a r q k. search rules) in
    taken_before c.args.entries.now c.partition_point.result c.args.place point

pub returns-clause-reached : goal.returns-clause-reached
returns-clause-reached c =
    let parted = IsPartitionedBy-ltb (λ e. e.place) c.args.entries.now c.args.place
    (places_rise c.args.entries.now c.requires.rising) in
    let point = IsPartitionPoint-from_clause (λ e. ltb e.place c.args.place) _ _ c.partition_point.ensures.partitioned
    parted (λ a r q k. search rules) in
    reached_from c.args.entries.now c.partition_point.result c.args.place point
