use Rattle.std.proofs.Common.{◌≡◌, refl, ap, ◌∙◌, List}
use Rattle.bmp_roots.specs.RootSystems.{matrix_of, positive_roots_of}
use Rattle.bmp_weyl.specs.Elements.{word_of}
use Rattle.bmp_weyl.specs.Words.{kept}
use Rattle.bmp_weyl.specs.declared.elem.Elem.{Elem}
use Rattle.bmp_interval.specs.Intervals.{IsInterval}
use Rattle.bmp_interval.specs.Numbering.{elements_of, lengths_of}
use Rattle.bmp_interval.specs.declared.numbering.Vertex.{Vertex}
use Rattle.bmp_interval.proofs.FactLemmas.{interval_made, interval_moved, letters_moved, lengths_moved}
use Rattle.bmp_interval.proofs.interval.Interval.of_vertices.Goals as goal

pub sorted_vertices-requires-clause-elements : goal.sorted_vertices-requires-clause-elements
sorted_vertices-requires-clause-elements c e h = let v = c.requires.vertices.each e h in
    (kept v.choices (word_of c.args.word.now), v.product)

pub invariant_of-result : goal.invariant_of-result
invariant_of-result c =
    let list : List Elem = elements_of c.in_ok-sorted.sorted.items in
    let keys : c.in_ok-elements.elements.keys ≡ list =
    c.in_ok-elements.ensures ∙ ap (λ (vs : List Vertex). elements_of vs) c.as_slice-vertices.ensures.value in
    let made : IsInterval (matrix_of c.args.roots.now) (positive_roots_of c.args.roots.now) (word_of c.args.word.now)
    list =
    interval_made c.args.roots.now c.args.word.now c.args.found.now.keys list (lengths_of c.in_ok-sorted.sorted.items)
    c.requires.letters c.requires.reduced c.requires.vertices c.requires.few
    c.in_ok-sorted.ensures in
    record {
      letters = letters_moved c.args.roots.now c.copied.result c.args.word.now c.in_ok-word.word c.copied.ensures
          c.in_ok-word.ensures c.requires.letters;
      interval = ∣ interval_moved c.args.roots.now c.copied.result c.args.word.now c.in_ok-word.word list
          c.in_ok-elements.elements.keys c.copied.ensures c.in_ok-word.ensures keys made ∣₁;
      measured =
          lengths_moved c.args.roots.now c.copied.result list c.in_ok-elements.elements.keys
          c.in_ok-lengths.lengths.items c.copied.ensures keys
          (c.in_ok-lengths.ensures ∙ ap (λ (vs : List Vertex). lengths_of vs) c.as_slice-vertices.ensures.value
          ∙ c.in_ok-sorted.ensures.measures);
    }

pub returns-clause-interval : goal.returns-clause-interval
returns-clause-interval c =
    let list : List Elem = elements_of c.in_ok-sorted.sorted.items in
    let keys : c.in_ok-elements.elements.keys ≡ list =
    c.in_ok-elements.ensures ∙ ap (λ (vs : List Vertex). elements_of vs) c.as_slice-vertices.ensures.value in
    record {
      letters = c.requires.letters;
      interval = interval_moved c.args.roots.now c.args.roots.now c.args.word.now c.args.word.now list
          c.in_ok-elements.elements.keys refl refl keys
          (interval_made c.args.roots.now c.args.word.now c.args.found.now.keys list
          (lengths_of c.in_ok-sorted.sorted.items) c.requires.letters c.requires.reduced c.requires.vertices
          c.requires.few
          c.in_ok-sorted.ensures);
    }
