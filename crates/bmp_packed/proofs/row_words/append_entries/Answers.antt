use Rattle.std.proofs.Common.{◌≡◌, length, rules, refl, ◌∙◌}
use Rattle.std.proofs.lemmas.List.{with_items_is, places}
use Rattle.bmp_linear.proofs.SparseLemmas.{number_at-past}
use Rattle.bmp_linear.proofs.MergeLemmas.{fits_above}
use Rattle.bmp_packed.proofs.WordRowLemmas.{words_behind}
use Rattle.bmp_packed.proofs.row_words.append_entries.Goals as goal

pub returns-clause-ok : goal.returns-clause-ok
returns-clause-ok c =
    let width : length c.write_entries.new.words ≡ c.width.result = search (rules, places) in
    record {
      words = c.write_entries.new.words;
      joined = with_items_is c.resize.new.self _ (search (rules, places))
          ∙ words_behind c.args.words.now.items c.as_mut_slice.result.now c.write_entries.new.words _ _
          c.len-start.result
          c.width.result (search rules) refl (search rules) width refl;
      width = width ∙ c.width.ensures;
      bits = c.write_entries.ensures.bits;
      past = λ j past. number_at-past c.args.entries.now j
          (fits_above c.args.entries.now c.args.cols j past c.requires.fits);
    }
