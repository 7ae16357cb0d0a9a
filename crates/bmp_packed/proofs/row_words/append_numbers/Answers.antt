use Rattle.std.proofs.Common.{◌≡◌, ◌≤◌, length, rules, refl, subst, sym, ◌∙◌}
use Rattle.std.proofs.lemmas.List.{with_items_is, places, get_or_past}
use Rattle.bmp_packed.proofs.WordRowLemmas.{words_behind}
use Rattle.bmp_packed.proofs.row_words.append_numbers.Goals as goal

pub returns-clause-ok : goal.returns-clause-ok
returns-clause-ok c =
    let width : length c.write_numbers.new.words ≡ c.width.result = search (rules, places) in
    record {
      words = c.write_numbers.new.words;
      joined = with_items_is c.resize.new.self _ (search (rules, places))
          ∙ words_behind c.args.words.now.items c.as_mut_slice.result.now c.write_numbers.new.words _ _
          c.len-start.result
          c.width.result (search rules) refl (search rules) width refl;
      width = width ∙ c.width.ensures;
      bits = c.write_numbers.ensures.bits;
      past = λ j past. get_or_past c.args.numbers.now j 0 (subst (λ n. n ≤ j) (sym c.requires.sized) past);
    }
