use Rattle.std.proofs.Common.{◌≡◌, List, rules, sym, ap, ap₂, ◌∙◌}
use Rattle.std.proofs.lemmas.Bool.Decides.{same_from_decides}
use Rattle.trace_values.specs.parts.types.EqualLaws.{same_texts-Decides}
use Rattle.trace_values.specs.parts.types.Flat.{same_parts}
use Rattle.trace_values.specs.RawViews.{string_map_view}
use Rattle.trace_values.specs.Refs.{ref_view}
use Rattle.trace_values.specs.Values.{Value, texts}
use Rattle.trace_values.specs.ValueViews.{view, text_pairs_view}
use Rattle.trace_values.specs.declared.types.borrowed.FieldValueRef.{the_lemmas as ref_lemmas}
use Rattle.trace_values.specs.declared.types.borrowed.FieldValueRef.TheVariants as refs
use Rattle.trace_values.specs.declared.types.string_map_ref.StringMapRef.{StringMapRef}
use Rattle.trace_values.proofs.ValueViews.{view_texts}
use Rattle.reader_agreement.proofs.values.is_part.Goals as goal

view_map : (m : StringMapRef) → ref_view (refs.StringMap m) ≡ texts (string_map_view m)
view_map m = search (rules, ref_lemmas)

pub returns-in-StringMap-StringMap : goal.returns-in-StringMap-StringMap
returns-in-StringMap-StringMap c =
    let pairs = c.in-StringMap-StringMap.x in
    let map = c.in-StringMap-StringMap.y in
    let x : view c.args.value.now ≡ texts (text_pairs_view pairs.items) =
    ap view c.in-StringMap-StringMap.is-0 ∙ view_texts pairs in
    let y : ref_view c.args.other.now ≡ texts (string_map_view map) =
    ap ref_view c.in-StringMap-StringMap.is-1 ∙ view_map map in
    let seen = c.as_slice-in-StringMap-StringMap in
    same_from_decides c.are_texts.result _ c.are_texts.ensures
    (same_texts-Decides (text_pairs_view seen.result.now) (string_map_view map))
    ∙ ap₂ (λ (u v : Value). same_parts u v)
    (ap (λ (ps : List _). texts (text_pairs_view ps)) seen.ensures.value ∙ sym x) (sym y)
